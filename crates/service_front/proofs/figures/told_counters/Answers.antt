use Rattle.service_front.proofs.Read.{tells_read}
use Rattle.service_front.proofs.figures.told_counters.Goals as goal

pub returns-in-Report : goal.returns-in-Report
returns-in-Report c =
    let read = c.read_report.ensures in
    rw c.in-Report.is (tells_read c.in-Report.field-0 _ _ _ c.as_slice.ensures read.only read.each)
