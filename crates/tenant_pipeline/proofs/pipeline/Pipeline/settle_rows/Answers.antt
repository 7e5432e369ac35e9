use Rattle.std.proofs.Common.{◌≡◌, ◌∙◌, ◌+◌, ◌-◌, ◌++◌, ℕ, List, [], sym, ap, subst, refl, arith, append-nil, append_assoc, Option}
use Rattle.tail_policy.specs.declared.note.TraceNote.{TraceNote}
use Rattle.trace_rows.specs.declared.table.Row.{Row}
use Rattle.tenant_stores.specs.Counts.{Counts, range, waiting_numbers}
use Rattle.tenant_stores.specs.Invariant.{StoreInvariant}
use Rattle.tenant_stores.specs.View.{spans_at, view}
use Rattle.tenant_pipeline.specs.declared.pipeline.Pipeline.{Pipeline}
use Rattle.tenant_pipeline.specs.StateIn.{counts_in, part_in, policies_of}
use Rattle.tenant_pipeline.specs.Drains.{keys_if, sampled_keys, spans_left}
use Rattle.tenant_pipeline.proofs.Verdicts.{Given, given_none, given_one, view_given, keys_next, keys_end, left_first, left_last}
use Rattle.tenant_pipeline.proofs.pipeline.Pipeline.settle_rows.Goals as goal

pub loop-number-init : goal.loop-number-init
loop-number-init c =
    let own = c.args.self.now in
    let p = part_in own c.args.stores.now in
    let decided = c.requires.store_invariant.1.order.decided in
    record {
      from = omega arith;
      by = decided;
      given = given_none (policies_of own) own.rows.decided p.rows;
      sound = λ pending sound. (pending, refl, sound, refl);
      others = λ other ne. refl;
    }

pub settle_row-requires : goal.settle_row-requires
settle_row-requires c =
    let own = c.args.self.now in
    let number = c.loop-number.number + 1 in
    let inv = c.loop-number.invariant in
    let sound = c.requires.store_invariant.1 in
    let order = sound.order in
    let swept = order.swept in
    let first = order.first in
    let from = inv.from in
    record { there = λ none. sound.there number (omega (arith, swept, first, from)) (omega arith) (sym (inv.given.after number (omega arith)) ∙ none) }

pub loop-number-preserved : goal.loop-number-preserved
loop-number-preserved c =
    let own = c.args.self.now in
    let pol = policies_of own in
    let p = part_in own c.args.stores.now in
    let mid = part_in own c.loop-number.stores in
    let d = c.loop-number.number in
    let number = d + 1 in
    let inv = c.loop-number.invariant in
    let from = inv.from in
    let same : mid.rows number ≡ p.rows number = inv.given.after number (omega arith) in
    record {
      from = omega (arith, from);
      by = omega arith;
      given = given_one pol own.rows.decided d number p.rows mid.rows _ from refl c.settle_row.ensures.rows inv.given;
      sound = λ pending sound.
          let kept = inv.sound pending sound in
          let more = keys_if pol (p.rows number) in
          let rest = sampled_keys pol p.rows (range number (own.rows.opened - number)) in
          let all : (kept.0 ++ more) ++ rest ≡ pending ++ sampled_keys pol p.rows (waiting_numbers (counts_in own)) =
          append_assoc kept.0 more rest ∙ (ap (λ (ks : List ℕ). kept.0 ++ ks) (sym (keys_next pol p.rows d own.rows.opened number (omega arith) refl)) ∙ kept.1) in
          let n : Counts = record (counts_in own) { decided = d } in
          let now = c.settle_row.ensures.store_invariant n kept.0 refl (omega arith) kept.2 in
          let alike = c.settle_row.ensures.alike n kept.0 refl (omega arith) kept.2 in (
            kept.0 ++ more,
            all,
            subst (λ (o : Option (Row TraceNote)). StoreInvariant (record (counts_in own) { decided = number }) (kept.0 ++ keys_if pol o) [] (part_in own c.settle_row.new.stores)) same now,
            subst (λ (o : Option (Row TraceNote)). spans_left pol (view (record (counts_in own) { decided = number }) (kept.0 ++ keys_if pol o) (part_in own c.settle_row.new.stores)) ≡ spans_left pol (view n kept.0 mid)) same alike ∙ kept.3,
          );
      others = λ other ne. c.settle_row.ensures.others_unchanged other ne ∙ inv.others other ne;
    }

pub returns-clause-only_decided : goal.returns-clause-only_decided
returns-clause-only_decided c =
    let own = c.args.self.now in
    let by = c.loop-number.invariant.by in
    let to : c.loop-number.number ≡ own.rows.opened = omega (arith, by) in
    ap (λ (k : ℕ). let y : Pipeline = record own { rows = record own.rows { decided = k } } in y) to

pub returns-clause-store_invariant : goal.returns-clause-store_invariant
returns-clause-store_invariant c = λ pending sound.
    let own = c.args.self.now in
    let pol = policies_of own in
    let p = part_in own c.args.stores.now in
    let d = c.loop-number.number in
    let kept = c.loop-number.invariant.sound pending sound in
    let none = keys_end pol p.rows d own.rows.opened (omega arith) in
    let all : kept.0 ≡ pending ++ sampled_keys pol p.rows (waiting_numbers (counts_in own)) =
    sym (append-nil kept.0) ∙ (ap (λ (ks : List ℕ). kept.0 ++ ks) (sym none) ∙ kept.1) in
    subst (λ (ks : List ℕ). StoreInvariant (record (counts_in own) { decided = d }) ks [] (part_in own c.loop-number.stores)) all kept.2

pub returns-clause-shows : goal.returns-clause-shows
returns-clause-shows c =
    let own = c.args.self.now in
    let pol = policies_of own in
    let p = part_in own c.args.stores.now in
    let q = part_in own c.loop-number.stores in
    let inv = c.loop-number.invariant in
    let by = inv.by in
    let to : c.loop-number.number ≡ own.rows.opened = omega (arith, by) in
    let all = subst (λ (k : ℕ). Given pol own.rows.decided k p.rows q.rows) to inv.given in
    ap (λ (k : ℕ). view (record (counts_in own) { decided = k }) [] q) to ∙ view_given pol (counts_in own) p q c.requires.store_invariant.1.order all

pub returns-clause-alike : goal.returns-clause-alike
returns-clause-alike c = λ pending sound.
    let own = c.args.self.now in
    let pol = policies_of own in
    let p = part_in own c.args.stores.now in
    let q = part_in own c.loop-number.stores in
    let d = c.loop-number.number in
    let n : Counts = record (counts_in own) { decided = d } in
    let kept = c.loop-number.invariant.sound pending sound in
    let none = keys_end pol p.rows d own.rows.opened (omega arith) in
    let all : kept.0 ≡ pending ++ sampled_keys pol p.rows (waiting_numbers (counts_in own)) =
    sym (append-nil kept.0) ∙ (ap (λ (ks : List ℕ). kept.0 ++ ks) (sym none) ∙ kept.1) in
    let last : spans_left pol (view n kept.0 q) ≡ spans_at q.spans q.texts kept.0 = left_last pol n kept.0 q (omega arith) in
    ap (spans_at q.spans q.texts) (sym all) ∙ (sym last ∙ (kept.3 ∙ left_first pol (counts_in own) pending p))
