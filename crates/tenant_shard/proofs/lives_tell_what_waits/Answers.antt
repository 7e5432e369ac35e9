use Rattle.std.proofs.Common.{◌≡◌, ◌∙◌, ℕ, List, Option, Some, None, Bool, true, false, refl, sym, ap, subst}
use Rattle.std.proofs.Math.Path.{fun_ext}
use Rattle.shard_agenda.specs.Pick.{IsNext}
use Rattle.tail_settings.specs.Section.{SectionData}
use Rattle.tenant_rules.specs.Own.{Own}
use Rattle.tenant_rules.specs.State.{State}
use Rattle.tenant_pipeline.specs.Present.{usage_of}
use Rattle.tenant_shard.specs.Lives.{MemberStands}
use Rattle.tenant_shard.specs.View.{kept_of}
use Rattle.tenant_shard.specs.Waiting.{usage_in, usage_after}
use Rattle.tenant_shard.proofs.Runs.{ready_stands}
use Rattle.tenant_shard.proofs.lives_tell_what_waits.Goals as goal

-- what is kept of a tenant is as full as its own steps say
usage_same : (section : Option SectionData) (past : List Own) (known : Bool) (kept : Option State) → MemberStands section past known kept → usage_after section past known (usage_in kept) ≡ usage_in kept
usage_same None past known None stands = refl
usage_same None past known (Some kept) stands = absurd stands
usage_same (Some section) past true None stands = absurd stands
usage_same (Some section) past true (Some kept) stands = ap usage_of (sym stands)
usage_same (Some section) past false None stands = absurd stands
usage_same (Some section) past false (Some kept) stands = refl

pub returns : goal.returns
returns c = λ lives views tenant waiting stands is.
    let same = λ (t : ℕ). sym (ready_stands lives views stands t) in
    record {
      usage_is = is.usage_is ∙ sym (usage_same (lives tenant).section (lives tenant).past (lives tenant).known (kept_of tenant views) (stands tenant).0);
      tenant_is_ready = is.tenant_is_ready ∙ same tenant;
      shard_is_ready = subst (λ (moments : ℕ → Option ℕ). IsNext moments waiting.shard_ready) (fun_ext same) is.shard_is_ready;
    }
