use Rattle.std.proofs.Common.{◌≡◌, map}
use Rattle.std.specs.Prelude.{bit_or, unwrap_or}
use Rattle.span_view.specs.Fields.{first_start, first_end, first_status, attributes_told}
use Rattle.tail_settings.specs.Policy.{policy_view}
use Rattle.tail_policy.specs.Note.{leaves_in, bits_of, attributes_meet}
use Rattle.tail_policy.proofs.tally.tally.Given as goal

abbrev pub invariant-loop-field : goal.invariant-loop-field
invariant-loop-field l = record {
  met : bit_or l.met (bits_of (attributes_meet (attributes_told l.field-iterator)) (leaves_in (map policy_view l.policies)))
      ≡ bits_of (attributes_meet (attributes_told l.initial.field-iterator)) (leaves_in (map policy_view l.policies));
  start : unwrap_or l.start (first_start l.field-iterator) ≡ first_start l.initial.field-iterator;
  end : unwrap_or l.end (first_end l.field-iterator) ≡ first_end l.initial.field-iterator;
  status : unwrap_or l.status (first_status l.field-iterator) ≡ first_status l.initial.field-iterator;
}
