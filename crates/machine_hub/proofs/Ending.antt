-- All seats are taken in.
use Rattle.std.proofs.Common.{◌≡◌, ℕ, ◌+◌, ◌-◌, ◌<◌, ◌^◌, arith}
use Rattle.atomic_table.specs.Seated.{TableId}
use Rattle.machine_hub.specs.declared.view.SlotView.{SlotView}
use Rattle.machine_hub.specs.declared.view.Standing.{Standing}
use Rattle.machine_hub.specs.Slot.{all_parts, Taken}
use Rattle.machine_hub.specs.Seats.{IsWholeRun}

pub has_parts : (parts seats taken : ℕ) → parts ≡ all_parts - seats + taken → seats < 2 ^ 64 → 0 < parts
has_parts parts seats taken is lt = omega arith

module _ {M S O C : Type 0} (asks : C → S → Type 0) (steps : M → S → O → M → Type 0) (loses : C → M → M → Type 0) where
  pub whole_run : (slot : TableId) (v w : SlotView M S O C) (s : Standing M S O C) (seats taken : ℕ) → v.parts ≡ all_parts → Taken asks steps loses v s w
      → IsWholeRun asks steps loses (record { slot = slot; home = v.home; seats = seats; taken = taken; calls = v.calls; late = v.late; bare = v.bare; refused = v.refused; lost = v.lost }) s
  whole_run slot v w s seats taken all t =
      let whole = t.whole all in record {
        entries = t.entries;
        later = t.later;
        history = t.history (omega (arith, all));
        late = whole.late;
        lost = whole.lost;
        count = whole.count;
        run = t.home (omega (arith, all));
        kept = t.kept (omega (arith, all));
        each = whole.each;
        blank = t.blank;
        blame = whole.blame;
        stops = whole.stops;
      }
