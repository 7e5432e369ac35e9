use Rattle.std.proofs.Common.{◌≡◌, ◌++◌, codes, rules}
use Rattle.tenant_registry.specs.Changed.{TellsAdded, TellsCome, TellsRefused, came, no_word, refused, refused_reply}
use Rattle.tenant_registry.proofs.Answered.{if_ok}
use Rattle.tenant_registry.proofs.changes.add_answered.Goals as goal

pub returns-in-Some : goal.returns-in-Some
returns-in-Some c =
    let document = c.args.document.now in
    let line = c.args.line.now in
    if_ok c.came_with.result (TellsCome document c.in-Some.name.now) (TellsAdded document line)
    (λ told is. came c.in-Some.name.now c.in-Some.ensures.says is) c.came_with.ensures

pub returns-in-Some-strip_prefix : goal.returns-in-Some-strip_prefix
returns-in-Some-strip_prefix c =
    let document = c.args.document.now in
    let line = c.args.line.now in
    let why = c.in-Some-strip_prefix.why.now in
    let text : line ≡ codes "refused add " ++ why = search rules in
    if_ok c.not_added.result (TellsRefused document why (refused_reply why)) (TellsAdded document line)
    (λ told is. refused why text is) c.not_added.ensures

pub returns-in-None : goal.returns-in-None
returns-in-None c =
    no_word (λ _. (λ name says. c.name_added.ensures.none c.in_default.is name says, λ why is. c.in-None.ensures.cases why is))
    c.without_memory.ensures
