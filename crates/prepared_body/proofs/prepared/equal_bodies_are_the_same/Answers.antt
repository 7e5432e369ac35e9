use Rattle.std.proofs.Common.{sym, ap}
use Rattle.prepared_body.specs.Prepared.{PreparedData}
use Rattle.prepared_body.proofs.Equals.{prepared_decides}
use Rattle.prepared_body.proofs.prepared.equal_bodies_are_the_same.Goals as goal

pub returns : goal.returns
returns c =
    let mine = sym (ap (λ (p : PreparedData). p.arrivals) c.one.view_is) in
    let theirs = sym (ap (λ (p : PreparedData). p.arrivals) c.other.view_is) in
    prepared_decides c.args.one.now c.args.other.now c.one.inside.origins.items c.other.inside.origins.items c.one.inside.spans.items c.other.inside.spans.items mine theirs
