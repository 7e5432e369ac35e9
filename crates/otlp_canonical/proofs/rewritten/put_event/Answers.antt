use Rattle.std.proofs.Common.{rules, arith, ◌≡◌, ◌-◌, ◌<◌, ◌^◌, List, ℕ, length, subst}
use Rattle.otlp_trace.specs.Defaults.{no_event}
use Rattle.otlp_read.specs.Value.{event_step}
use Rattle.otlp_canonical.specs.Anew.{WrittenAnew}
use Rattle.otlp_canonical.specs.Inner.{FieldAlike}
use Rattle.otlp_canonical.proofs.Inside.{event_put}
use Rattle.otlp_canonical.proofs.ReadAndWritten.{event_written}
use Rattle.otlp_canonical.proofs.rewritten.put_event.Goals as goal

pub returns-then-branch : goal.returns-then-branch
returns-then-branch c d most whole =
    let f : FieldAlike event_step no_event (c.args.room - 1) 11 c.args.text.now c.args.copy.now.items c.put_placed.new.copy.items = search rules in
    event_put (c.args.room - 1) d most c.args.text.now c.args.copy.now.items c.put_placed.new.copy.items f

pub returns : goal.returns
returns c d most whole =
    let old = c.args.copy.now.items in
    let mid = c.put_placed.new.copy.items in
    let new = c.put_read.new.copy.items in
    let same : mid ≡ old = search rules in
    let fits : length new < 2 ^ 64 = omega arith in
    let read : WrittenAnew c.args.room c.args.spelled.now mid new = c.in_ok-whole.ensures whole in
    event_written c.args.room d most c.args.spelled.now c.args.text.now old new c.requires.some c.requires.spelled fits (subst (λ (t : List ℕ). WrittenAnew c.args.room c.args.spelled.now t new) same read)
