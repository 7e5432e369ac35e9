-- The ranges of a tenant's settings.
use Rattle.std.proofs.Common.{◌≡◌, ◌≤◌, length, sym, subst, arith}
use Rattle.tail_settings.specs.Section.{section_view}
use Rattle.tail_settings.specs.declared.section.Section.{Section}
use Rattle.span_batcher.specs.Batches.{Rules, AreValidRules}
use Rattle.tail_policy.specs.declared.note.TraceNote.{TraceNote}
use Rattle.tenant_stores.specs.Part.{Part}
use Rattle.tenant_rules.specs.Batching.{rules_of}
use Rattle.tenant_rules.specs.Limits.{IsWithinLimits}
use Rattle.tenant_pipeline.specs.declared.pipeline.Pipeline.{Pipeline}
use Rattle.tenant_pipeline.specs.Outbox.{HasRoom}
use Rattle.tenant_pipeline.specs.StateIn.{written_state_of}

pub batch_sound : (s : Section) → AreValidRules (rules_of (section_view s))
batch_sound s = (let size = s.batch.send_batch_size_range in omega (arith, size.0), s.batch.none_or_more)

pub own_sound : (own : Pipeline) → own.batcher.rules ≡ rules_of (section_view own.section) → AreValidRules own.batcher.rules
own_sound own is = subst (λ (r : Rules). AreValidRules r) (sym is) (batch_sound own.section)

-- a tenant that is within its limits has room
pub room_within : (own : Pipeline) (p : Part TraceNote) → IsWithinLimits (written_state_of own p) → HasRoom own
room_within own p within =
    let size = within.queue_size_is in
    let bytes = within.queue_bytes_is in
    let few = within.queue_fits in
    let light = within.queue_bytes_fit in
    record {
      size = size;
      fits = record { few = omega (arith, size, few); light = omega (arith, bytes, light) };
    }

-- a queue is short
pub queue_short : (own : Pipeline) → HasRoom own → length own.sender.queue ≤ 100000
queue_short own room =
    let size = room.size in
    let few = room.fits.few in
    let range = own.section.sending_queue.queue_size_range in
    omega (arith, size, few, range.1)
