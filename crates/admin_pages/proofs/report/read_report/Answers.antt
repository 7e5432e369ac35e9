use Rattle.std.proofs.Common.{Some, ap}
use Rattle.admin_pages.proofs.Read.{only_line, each_line}
use Rattle.admin_pages.proofs.report.read_report.Goals as goal

pub returns-then-is_at_end-clause-only : goal.returns-then-is_at_end-clause-only
returns-then-is_at_end-clause-only c =
    only_line _ _ _ _ _ _ _ _ _ _ _ _ _ _ _ _ _ _ _ _ _ _ _ _ _ _ _ _ _ c.counter.ensures c.counter-2.ensures c.counter-3.ensures c.counter-4.ensures c.counter-5.ensures c.counter-6.ensures c.counter-7.ensures c.counter-8.ensures c.counter-9.ensures c.counter-10.ensures c.counter-11.ensures c.counter-12.ensures c.counter-13.ensures c.counter-14.ensures
    (c.is_at_end.ensures.end c.if-is_at_end.true)

pub returns-then-is_at_end-clause-each : goal.returns-then-is_at_end-clause-each
returns-then-is_at_end-clause-each c ledger sound is =
    ap (λ l. Some l) (each_line _ ledger _ _ _ _ _ _ _ _ _ _ _ _ _ _ _ _ _ _ _ _ _ _ _ _ _ _ _ _ c.counter.ensures c.counter-2.ensures c.counter-3.ensures c.counter-4.ensures c.counter-5.ensures c.counter-6.ensures c.counter-7.ensures c.counter-8.ensures c.counter-9.ensures c.counter-10.ensures c.counter-11.ensures c.counter-12.ensures c.counter-13.ensures c.counter-14.ensures sound is).1

pub returns-else-is_at_end-clause-each : goal.returns-else-is_at_end-clause-each
returns-else-is_at_end-clause-each c ledger sound is =
    let read = c.is_at_end.ensures.all (each_line _ ledger _ _ _ _ _ _ _ _ _ _ _ _ _ _ _ _ _ _ _ _ _ _ _ _ _ _ _ _ c.counter.ensures c.counter-2.ensures c.counter-3.ensures c.counter-4.ensures c.counter-5.ensures c.counter-6.ensures c.counter-7.ensures c.counter-8.ensures c.counter-9.ensures c.counter-10.ensures c.counter-11.ensures c.counter-12.ensures c.counter-13.ensures c.counter-14.ensures sound is).0 in
    absurd (cc)
