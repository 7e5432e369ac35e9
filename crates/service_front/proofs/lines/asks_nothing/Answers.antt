use Rattle.std.proofs.Common.{◌≡◌, ◌++◌, codes, rules}
use Rattle.tenant_registry.specs.Roster.{present_in}
use Rattle.service_front.specs.Lines.{AsksNothing}
use Rattle.service_front.proofs.Asked.{nobody_found, report_of_nobody, retires_nobody}
use Rattle.service_front.proofs.lines.asks_nothing.Goals as goal

pub returns-in-Some-clause-nothing : goal.returns-in-Some-clause-nothing
returns-in-Some-clause-nothing c =
    let present = present_in c.args.roster.now in
    let line = c.args.line.now in
    let name = c.in-Some.name.now in
    let text : line ≡ codes "report " ++ name = search rules in
    nobody_found (AsksNothing present line) _ _ _ _ c.find.ensures.number c.is_none.ensures (report_of_nobody present line name text)

pub returns-in-Some-strip_prefix-clause-nothing : goal.returns-in-Some-strip_prefix-clause-nothing
returns-in-Some-strip_prefix-clause-nothing c =
    let present = present_in c.args.roster.now in
    let line = c.args.line.now in
    let name = c.in-Some-strip_prefix.name.now in
    let text : line ≡ codes "retire " ++ name = search rules in
    nobody_found (AsksNothing present line) _ _ _ _ c.find-in-Some-strip_prefix.ensures.number c.is_none-in-Some-strip_prefix.ensures
    (retires_nobody present line name text)
