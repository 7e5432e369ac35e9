-- The parts of each message's canonical text.
use Rattle.std.proofs.Common.{◌≡◌, ℕ, true, false, length, ◌<◌, ◌^◌, ◌==◌, FitsSigned, List, [], ◌∷◌, option_map, refl, arith, append_assoc}
use Rattle.std.specs.Int.{w32, w64, cast_unsigned, to_le_bytes}
use Rattle.std.specs.List.{AllByRecursion}
use Rattle.pb_wire.specs.Grammar.{Varint, Eight, Bytes, Four}
use Rattle.otlp_trace.specs.Data.{KindData, ResourceData, StatusData, SpanData}
use Rattle.otlp_trace.specs.Data as otlp
use Rattle.otlp_trace.specs.Text.{bit, array_text, list_text, key_value_text, status_text, event_text, link_text, span_text}
use Rattle.span_view.specs.Canonical.{SoundKind, SoundSpan}
use Rattle.otlp_trace.proofs.Signed.{fits32, fits64}
use Rattle.otlp_trace.proofs.Spelled.{is_number}
use Rattle.span_view.proofs.Parts.{Part, IsPart, parts_text, one, one_is, unless, unless_is, some, some_is, many, many_is}

abbrev pub bytes_part : ℕ → List ℕ → Part
bytes_part n bs = unless (length bs == 0) n (Bytes bs)

abbrev pub number_part : ℕ → ℕ → Part
number_part n x = unless (x == 0) n (Varint x)

abbrev pub eight_part : ℕ → ℕ → Part
eight_part n x = unless (x == 0) n (Eight (to_le_bytes w64 x))

abbrev pub four_part : ℕ → ℕ → Part
four_part n x = unless (x == 0) n (Four (to_le_bytes w32 x))

-- ---- messages

abbrev pub kind_parts : KindData → List Part
kind_parts otlp.unset = []
kind_parts (otlp.string bs) = one 1 (Bytes bs) ∷ []
kind_parts (otlp.boolean b) = one 2 (Varint (bit b)) ∷ []
kind_parts (otlp.int z) = one 3 (Varint (cast_unsigned w64 z)) ∷ []
kind_parts (otlp.double bs) = one 4 (Eight bs) ∷ []
kind_parts (otlp.array a) = one 5 (Bytes (array_text a)) ∷ []
kind_parts (otlp.kvlist l) = one 6 (Bytes (list_text l)) ∷ []
kind_parts (otlp.bytes bs) = one 7 (Bytes bs) ∷ []

pub kind_are : (kind : KindData) → SoundKind kind → AllByRecursion IsPart (kind_parts kind)
kind_are otlp.unset h = tt
kind_are (otlp.string bs) h = (one_is 1 (Bytes bs) refl tt, tt)
kind_are (otlp.boolean true) h = (one_is 2 (Varint 1) refl (omega arith), tt)
kind_are (otlp.boolean false) h = (one_is 2 (Varint 0) refl (omega arith), tt)
kind_are (otlp.int z) h = (one_is 3 (Varint (cast_unsigned w64 z)) refl (fits64 z h), tt)
kind_are (otlp.double bs) h = (one_is 4 (Eight bs) refl h, tt)
kind_are (otlp.array a) h = (one_is 5 (Bytes (array_text a)) refl tt, tt)
kind_are (otlp.kvlist l) h = (one_is 6 (Bytes (list_text l)) refl tt, tt)
kind_are (otlp.bytes bs) h = (one_is 7 (Bytes bs) refl tt, tt)

bytes_is : (n : ℕ) (bs : List ℕ) → is_number n ≡ true → IsPart (bytes_part n bs)
bytes_is n bs is = unless_is (length bs == 0) n (Bytes bs) is tt

number_is : (n x : ℕ) → is_number n ≡ true → x < 2 ^ 64 → IsPart (number_part n x)
number_is n x is fits = unless_is (x == 0) n (Varint x) is fits

eight_is : (n x : ℕ) → is_number n ≡ true → IsPart (eight_part n x)
eight_is n x is = unless_is (x == 0) n (Eight (to_le_bytes w64 x)) is refl

abbrev pub bare_parts : List ℕ → List Part
bare_parts key = bytes_part 1 key ∷ []

pub bare_are : (key : List ℕ) → AllByRecursion IsPart (bare_parts key)
bare_are key = (bytes_is 1 key refl, tt)

abbrev pub pair_parts : List ℕ → List ℕ → List Part
pair_parts key value = bytes_part 1 key ∷ one 2 (Bytes value) ∷ []

pub pair_are : (key value : List ℕ) → AllByRecursion IsPart (pair_parts key value)
pair_are key value = (bytes_is 1 key refl, (one_is 2 (Bytes value) refl tt, tt))

abbrev pub status_parts : StatusData → List Part
status_parts s = bytes_part 2 s.message ∷ number_part 3 (cast_unsigned w64 s.code) ∷ []

pub status_are : (s : StatusData) → FitsSigned w32 s.code → AllByRecursion IsPart (status_parts s)
status_are s fits = (bytes_is 2 s.message refl, (number_is 3 (cast_unsigned w64 s.code) refl (fits32 s.code fits), tt))

abbrev pub resource_parts : ResourceData → List Part
resource_parts r = many 1 key_value_text r.attributes ∷ number_part 2 r.dropped_attributes_count ∷ []

pub resource_are : (r : ResourceData) → r.dropped_attributes_count < 2 ^ 32 → AllByRecursion IsPart (resource_parts r)
resource_are r fits = (many_is 1 key_value_text r.attributes refl, (number_is 2 r.dropped_attributes_count refl (omega (arith, fits)), tt))

abbrev pub span_parts : SpanData → List Part
span_parts s =
    bytes_part 1 s.trace_id ∷ bytes_part 2 s.span_id ∷ bytes_part 3 s.trace_state ∷ bytes_part 4 s.parent_span_id ∷ bytes_part 5 s.name
    ∷ number_part 6 (cast_unsigned w64 s.kind) ∷ eight_part 7 s.start_time_unix_nano ∷ eight_part 8 s.end_time_unix_nano
    ∷ many 9 key_value_text s.attributes ∷ number_part 10 s.dropped_attributes_count
    ∷ many 11 event_text s.events ∷ number_part 12 s.dropped_events_count
    ∷ many 13 link_text s.links ∷ number_part 14 s.dropped_links_count
    ∷ some 15 (option_map status_text s.status) ∷ four_part 16 s.flags ∷ []

pub span_are : (s : SpanData) → SoundSpan s → AllByRecursion IsPart (span_parts s)
span_are s sound = (
  bytes_is 1 s.trace_id refl,
  (
    bytes_is 2 s.span_id refl,
    (
      bytes_is 3 s.trace_state refl,
      (
        bytes_is 4 s.parent_span_id refl,
        (
          bytes_is 5 s.name refl,
          (
            number_is 6 (cast_unsigned w64 s.kind) refl (fits32 s.kind sound.kind),
            (
              eight_is 7 s.start_time_unix_nano refl,
              (
                eight_is 8 s.end_time_unix_nano refl,
                (
                  many_is 9 key_value_text s.attributes refl,
                  (
                    number_is 10 s.dropped_attributes_count refl (omega (arith, sound.dropped_attributes_count)),
                    (
                      many_is 11 event_text s.events refl,
                      (
                        number_is 12 s.dropped_events_count refl (omega (arith, sound.dropped_events_count)),
                        (
                          many_is 13 link_text s.links refl,
                          (
                            number_is 14 s.dropped_links_count refl (omega (arith, sound.dropped_links_count)),
                            (some_is 15 (option_map status_text s.status) refl, (unless_is (s.flags == 0) 16 (Four (to_le_bytes w32 s.flags)) refl refl, tt)),
                          ),
                        ),
                      ),
                    ),
                  ),
                ),
              ),
            ),
          ),
        ),
      ),
    ),
  ),
)

pub span_same : (s : SpanData) → span_text s ≡ parts_text (span_parts s) s.unknown
span_same s = simp append_assoc refl
