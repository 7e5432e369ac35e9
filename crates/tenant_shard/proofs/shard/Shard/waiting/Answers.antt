use Rattle.std.proofs.Common.{◌∙◌, ℕ, List, Option, ap, subst}
use Rattle.std.proofs.Math.Path.{fun_ext}
use Rattle.shard_agenda.specs.Pick.{IsNext}
use Rattle.tenant_shard.specs.View.{View}
use Rattle.tenant_shard.specs.Pick.{ready_in}
use Rattle.tenant_shard.proofs.Gones.{ready_all}
use Rattle.tenant_shard.proofs.shard.Shard.waiting.Goals as goal

pub returns : goal.returns
returns c =
    let inside = c.self.inside in
    let same = λ (tenant : ℕ). ready_all inside.stores inside.agenda inside.members.items inside.gone.items c.self.invariant.whole tenant ∙ ap (λ (vs : List View). ready_in vs tenant) c.self.view_is in
    record {
      emptiness = c.is_empty.ensures;
      usage_is = c.usage.ensures;
      tenant_is_ready = c.ready.ensures ∙ same c.args.tenant;
      shard_is_ready = subst (λ (moments : ℕ → Option ℕ). IsNext moments c.next.result) (fun_ext same) c.next.ensures;
    }
