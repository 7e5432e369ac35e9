use Rattle.std.proofs.Common.{◌≡◌, ◌-◌, ◌/◌, ◌∙◌, ap, sym, subst, arith, ℕ, List, length}
use Rattle.std.specs.Prelude.{IsSome}
use Rattle.std.proofs.lemmas.List.{append-nil, length_push}
use Rattle.shard_agenda.specs.declared.AgendaEntry.{AgendaEntry}
use Rattle.shard_agenda.specs.Firsts.{IsRight, IsRightBut}
use Rattle.shard_agenda.proofs.Tree.{popped, right_empty}
use Rattle.shard_agenda.proofs.firsts.pop.Goals as goal

pub returns-in_default-clause-right : goal.returns-in_default-clause-right
returns-in_default-clause-right c =
    subst (λ (l : List AgendaEntry). IsRight l c.args.firsts.now.items) (c.in_default.ensures.items ∙ append-nil c.pop.new.self.items) c.requires.right

pub returns-then-count-eq0-clause-right : goal.returns-then-count-eq0-clause-right
returns-then-count-eq0-clause-right c =
    let es = c.args.entries.now.items in
    let xs = c.pop.new.self.items in
    let some : IsSome c.pop-first.result = c.pop-first.ensures.variant.1 (omega (arith, c.requires.even, ap length c.in-Some.ensures.items, length_push xs c.in-Some.last, c.args.firsts.now.ok.0)) in
    let both = popped es xs c.args.firsts.now.items c.pop-first.new.self.items c.in-Some.last c.pop-first.result c.in-Some.ensures.items c.pop-first.ensures.items some c.requires.even c.requires.right in
    let none : length xs ≡ 0 = omega (arith, c.len-count.ensures, c.pop.new.self.ok.0) in
    right_empty xs c.pop-first.new.self.items none (both.0 ∙ none)

pub mend-requires-clause-right : goal.mend-requires-clause-right
mend-requires-clause-right c =
    let es = c.args.entries.now.items in
    let xs = c.pop.new.self.items in
    let ys = c.pop-first.new.self.items in
    let some : IsSome c.pop-first.result = c.pop-first.ensures.variant.1 (omega (arith, c.requires.even, ap length c.in-Some.ensures.items, length_push xs c.in-Some.last, c.args.firsts.now.ok.0)) in
    let both = popped es xs c.args.firsts.now.items ys c.in-Some.last c.pop-first.result c.in-Some.ensures.items c.pop-first.ensures.items some c.requires.even c.requires.right in
    let count : c.len-count.result ≡ length xs = omega (arith, c.len-count.ensures, c.pop.new.self.ok.0) in
    let xs' : c.as_slice.result.now ≡ xs = c.as_slice.ensures.value in
    let ys' : c.as_mut_slice.result.now ≡ ys = c.as_mut_slice.ensures.value in
    subst (λ (n : ℕ). IsRightBut ((n - 1) / 2) c.as_slice.result.now c.as_mut_slice.result.now) (sym count)
    (subst (λ (l : List AgendaEntry). IsRightBut ((length xs - 1) / 2) l c.as_mut_slice.result.now) (sym xs') (subst (λ (l : List AgendaEntry). IsRightBut ((length xs - 1) / 2) xs l) (sym ys') both.1))
