use Rattle.std.proofs.Common.{◌≡◌, ◌+◌, ◌<◌, ◌∙◌, ◌||◌, List, ℕ, Bool, length, ap, sym, arith}
use Rattle.std.specs.Prelude.{nat_lt}
use Rattle.span_batcher.specs.Blocks.{capped}
use Rattle.tenant_rules.specs.ExportText.{export_text}
use Rattle.tenant_rules.specs.Sender.{BatchData, SenderData, payload_bytes, most_bytes, finds_no_room}
use Rattle.tenant_stores.specs.Part.{part}
use Rattle.tenant_pipeline.specs.Outbox.{arrivals_at, sent_at}
use Rattle.tenant_pipeline.proofs.Sending.{full_has_none, room_by_bytes}
use Rattle.tenant_pipeline.proofs.Spans.{found_sent, found_text}
use Rattle.tenant_pipeline.proofs.outbox.written_if_room.Goals as goal

pub returns-then-queued-capacity : goal.returns-then-queued-capacity
returns-then-queued-capacity c =
    full_has_none (sent_at c.args.moment c.args.keys.now (part c.args.tenant c.args.stores.now)) c.args.sender.now (omega arith)

-- by its bytes, of which a text of so many has as many
by_bytes : (b : BatchData) (s : SenderData) (text : List ℕ) (size : ℕ) (large : Bool) → b.payload ≡ text → size ≡ capped (length text) → length s.queue < s.sending.queue_size →
    ((n : ℕ) → size ≡ capped n → large ≡ (nat_lt most_bytes n || nat_lt s.sending.queue_bytes (payload_bytes s.queue + 0 + n))) → finds_no_room b s ≡ large
by_bytes b s text size large text_is size_is room told =
    let none : payload_bytes s.queue + 0 + length b.payload ≡ payload_bytes s.queue + length b.payload = omega arith in
    room_by_bytes b s room
    ∙ (ap (λ (n : ℕ). nat_lt most_bytes (length b.payload) || nat_lt s.sending.queue_bytes n) (sym none)
    ∙ sym (told (length b.payload) (size_is ∙ ap (λ (t : List ℕ). capped (length t)) (sym text_is))))

pub returns-then-is_too_large : goal.returns-then-is_too_large
returns-then-is_too_large c =
    let p = part c.args.tenant c.args.stores.now in
    let text : c.in_ok-text.text ≡ export_text (arrivals_at p c.args.keys.now) = c.in_ok-text.ensures
    ∙ found_text c.args.tenant c.args.stores.now c.args.keys.now c.in_ok-spans.spans.items c.as_slice.result.now c.texts.result.now c.in_ok-spans.ensures c.as_slice.ensures.value c.texts.ensures in
    by_bytes (sent_at c.args.moment c.args.keys.now p) c.args.sender.now c.in_ok-text.text c.size.result c.is_too_large.result (sym text) c.size.ensures (omega arith) c.is_too_large.ensures.large
    ∙ c.if-is_too_large.true

pub returns : goal.returns
returns c =
    let p = part c.args.tenant c.args.stores.now in
    let text : c.in_ok-text.text ≡ export_text (arrivals_at p c.args.keys.now) = c.in_ok-text.ensures
    ∙ found_text c.args.tenant c.args.stores.now c.args.keys.now c.in_ok-spans.spans.items c.as_slice.result.now c.texts.result.now c.in_ok-spans.ensures c.as_slice.ensures.value c.texts.ensures in (
      found_sent c.args.tenant c.args.stores.now c.args.keys.now c.in_ok-spans.spans.items c.as_slice.result.now c.texts.result.now c.in_ok-spans.ensures c.as_slice.ensures.value c.texts.ensures
          c.args.moment c.len.result c.in_ok-payload.payload (omega arith) (c.in_ok-payload.ensures ∙ c.in_ok-text.ensures),
      by_bytes (sent_at c.args.moment c.args.keys.now p) c.args.sender.now c.in_ok-text.text c.size.result c.is_too_large.result (sym text) c.size.ensures (omega arith) c.is_too_large.ensures.large
          ∙ c.if-is_too_large.false,
    )
