use Rattle.std.proofs.Common.{◌≡◌, ◌∙◌, None, Some, option_map, subst, sym}
use Rattle.std.proofs.lemmas.Bool.{false≢true}
use Rattle.std.specs.Fmt.{digits}
use Rattle.drop_ledger.specs.Ledger.{ledger_of}
use Rattle.tenant_registry.specs.Changed.{TellsRetired, gone, no_line, stays, went}
use Rattle.tenant_registry.proofs.Answered.{if_told}
use Rattle.tenant_registry.proofs.changes.retire_answered.Goals as goal

pub returns-in-Some : goal.returns-in-Some
returns-in-Some c =
    if_told c.went.result _ (TellsRetired c.args.name.now c.args.line.now) c.went.ensures
    (λ told is. went (ledger_of c.in-Some.counters) c.in-Some.ensures.only is)

pub returns-then-is_refusal : goal.returns-then-is_refusal
unfolding digits
returns-then-is_refusal c =
    if_told c.unknown.result _ (TellsRetired c.args.name.now c.args.line.now) c.unknown.ensures
    (λ told is. gone (c.is_refusal.ensures.0 c.if-is_refusal.true) is)

pub returns-then-is_refusal-2 : goal.returns-then-is_refusal-2
unfolding digits
returns-then-is_refusal-2 c =
    if_told c.notice.result _ (TellsRetired c.args.name.now c.args.line.now) c.notice.ensures
    (λ told is. stays (c.is_refusal-2.ensures.0 c.if-is_refusal-2.true) is)

pub returns : goal.returns
unfolding digits
returns c =
    no_line c.requires
    (λ _. (
      λ ledger valid is.
          let found : option_map ledger_of None ≡ Some ledger =
          subst (λ r. option_map ledger_of r ≡ Some ledger) c.in_default.is (c.last_counters.ensures.each ledger valid is) in
          absurd (cc),
      λ is. absurd (false≢true (sym c.if-is_refusal.false ∙ c.is_refusal.ensures.1 is)),
      λ is. absurd (false≢true (sym c.if-is_refusal-2.false ∙ c.is_refusal-2.ensures.1 is)),
    ))
    c.without_memory.ensures
