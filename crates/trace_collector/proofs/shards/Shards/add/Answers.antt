use Rattle.std.proofs.Common.{Ok, subst, ◌∙◌, ap, sym}
use Rattle.std.proofs.lemmas.Result.{on_ok_weaker}
use Rattle.tail_settings.specs.Settings.{settings_view}
use Rattle.trace_collector.specs.Standing.{Joins}
use Rattle.trace_collector.proofs.Arrives.{shards_stay, newcomer_found}
use Rattle.trace_collector.proofs.Done.{done_adds}
use Rattle.trace_collector.proofs.shards.Shards.add.Goals as goal

pub invariant_of-self : goal.invariant_of-self
invariant_of-self c = record {
  all_shards = c.args.self.now.all_shards
      ∙ shards_stay c.admit.result (settings_view c.args.self.now.settings) (settings_view c.admit.new.settings) c.args.document.now c.admit.ensures.on_success c.admit.ensures.on_refusal;
}

pub welcome-requires : goal.welcome-requires
welcome-requires c =
    newcomer_found (settings_view c.args.self.now.settings) (settings_view c.admit.new.settings) c.args.document.now c.in-Ok.tenant c.in-Ok.ensures.on_success c.in-Ok.ensures.number

pub returns-in-Ok-clause-on_success : goal.returns-in-Ok-clause-on_success
returns-in-Ok-clause-on_success c =
    let old = c.args.self.now in
    let new = c.welcome.new.self in
    let same = ap settings_view c.welcome.ensures.settings in
    on_ok_weaker c.welcome.result
    (λ joins.
    done_adds old new c.in-Ok.tenant c.args.document.now c.args.out.now.items c.welcome.new.out.items (c.in-Ok.ensures.on_success ∙ ap (λ s. Ok s) (sym same)) c.in-Ok.ensures.number
    (subst (λ s. Joins s c.in-Ok.tenant old.shards.items new.shards.items c.args.out.now.items c.welcome.new.out.items) (sym same) joins))
    c.welcome.ensures.on_success
