use Rattle.std.proofs.Common.{refl, sym, rules}
use Rattle.export_edge.specs.Dialing.{no_address, no_line, over_a_line}
use Rattle.export_edge.proofs.dial.post_job.Goals as goal

pub returns-in_default : goal.returns-in_default
returns-in_default g c = no_address (search rules) refl refl

pub returns-in_default-dial : goal.returns-in_default-dial
returns-in_default-dial g c =
    let host = c.as_str-host.result.now in
    let own = rw (c.in-Some.is, sym c.as_str-host.ensures.value) at c.address.ensures in
    no_line host own (search rules) refl

pub returns : goal.returns
returns g c =
    let host = c.as_str-host.result.now in
    let own = rw (c.in-Some.is, sym c.as_str-host.ensures.value) at c.address.ensures in
    over_a_line host own c.in-Some-dial.line c.post_over-answer.new.line c.dial.new.self
    (rw c.in-Some-dial.is at c.dial.ensures)
    (rw c.as_slice.ensures at c.post_over-answer.ensures.comes_to) c.post_over-answer.ensures.stops c.hang_up.ensures
