use Rattle.std.proofs.Common.{rules, ◌≡◌, Ok, Some}
use Rattle.pb_wire.specs.Grammar.{Eight, Bytes, entry}
use Rattle.pb_wire.specs.Reading.{next_at}
use Rattle.otlp_read.specs.Walk.{numbered}
use Rattle.otlp_canonical.proofs.Turned.{turned_event}
use Rattle.otlp_canonical.proofs.inner.EventInner.turned.Goals as goal

pub returns : goal.returns
returns c =
    let one = entry c.in-Ok-Some.name in
    let other = entry c.in-Ok-Some-next_field.time in
    let found : next_at c.args.depth c.args.text.now ≡ Ok (Some (one, c.in-Ok-Some.behind.now)) = search rules in
    let more : next_at c.args.depth c.in-Ok-Some.behind.now ≡ Ok (Some (other, c.in-Ok-Some-next_field.rest.now)) = search rules in
    let is : one ≡ numbered 2 (Bytes c.in-Bytes._name.now) = search rules in
    let is_other : other ≡ numbered 1 (Eight c.in-Eight._time) = search rules in
    turned_event c.args.depth c.args.text.now c.in-Ok-Some.behind.now c.in-Ok-Some-next_field.rest.now c.in-Bytes._name.now c.in-Eight._time one other found more is is_other
