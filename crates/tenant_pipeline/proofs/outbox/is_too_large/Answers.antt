use Rattle.std.proofs.Common.{◌≡◌, ◌<◌, ◌≤◌, ◌+◌, ◌∙◌, ℕ, Bool, true, false, ◌||◌, sym, ap, arith}
use Rattle.std.proofs.lemmas.Bool.Decides.{nat_tests}
use Rattle.std.specs.Prelude.{nat_lt}
use Rattle.send_queue.specs.Sender.{payload_bytes}
use Rattle.tenant_rules.specs.Sender.{most_bytes}
use Rattle.tenant_pipeline.proofs.Sending.{is_above, is_beyond, one_of_two}
use Rattle.tenant_pipeline.proofs.outbox.is_too_large.Goals as goal

pub returns-then-size-gt-MOST_BYTES-clause-large : goal.returns-then-size-gt-MOST_BYTES-clause-large
returns-then-size-gt-MOST_BYTES-clause-large c = λ bytes is.
    let above : most_bytes < c.args.size = c.if-size-gt-MOST_BYTES.true in
    let s = c.args.sender.now in
    let large : nat_lt most_bytes c.args.size ≡ true = grind (arith, nat_tests, above) in
    let heavy : Bool = nat_lt s.sending.queue_bytes (payload_bytes s.queue + c.args.ahead + bytes) in
    sym (one_of_two (nat_lt most_bytes bytes) heavy (sym (is_above c.args.size bytes is) ∙ large))

pub returns-clause-large : goal.returns-clause-large
returns-clause-large c = λ bytes is.
    let s = c.args.sender.now in
    let below : c.args.size ≤ most_bytes = c.if-size-gt-MOST_BYTES.false in
    let small : nat_lt most_bytes c.args.size ≡ false = grind (arith, nat_tests, below) in
    let size : c.args.size ≡ bytes = omega (arith, is, below) in
    let heavy : ℕ → Bool = λ n. nat_lt s.sending.queue_bytes (payload_bytes s.queue + c.args.ahead + n) in
    is_beyond c.bytes_left.result (payload_bytes s.queue) s.sending.queue_bytes c.args.ahead c.args.size c.saturating_add.result c.bytes_left.ensures.rest c.bytes_left.ensures.range c.saturating_add.ensures
    ∙ (ap heavy size
    ∙ sym (ap (λ (long : Bool). long || heavy bytes) (sym (is_above c.args.size bytes is) ∙ small)))

pub returns-clause-small : goal.returns-clause-small
returns-clause-small c = λ room.
    let below : c.saturating_add.result ≤ c.bytes_left.result = grind (arith, nat_tests, room) in
    omega (arith, below, c.bytes_left.ensures.rest, c.bytes_left.ensures.range, c.saturating_add.ensures)
