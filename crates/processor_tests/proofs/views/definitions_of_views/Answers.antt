use Rattle.std.proofs.Common.{◌≡◌, ℕ, ◌<◌, false, true, List, [], ◌∷◌, refl, sym, ◌∙◌, arith}
use Rattle.std.proofs.lemmas.Bool.{false≢true}
use Rattle.std.proofs.lemmas.Str.{IsUtf8-from_is_utf8, is_utf8-from_IsUtf8}
use Rattle.std.specs.Prelude.{codes}
use Rattle.std.specs.Char.{encode_utf8}
use Rattle.std.specs.Str.{IsUtf8, chars, is_utf8}
use Rattle.pb_wire.specs.Grammar.{Datum, Varint, last_byte, IsVarint, IsField, varint_field, no_fields, more_fields}
use Rattle.pb_wire.specs.Reading.{number_in, varint_at, tag_at, split_at, value_with, end_in}
use Rattle.pb_wire.specs.Text.{groups}
use Rattle.span_view.specs.Reading.{fields_in, fields_of}
use Rattle.span_view.specs.Canonical.{NotInSpan, Skipped, SoundSpan, SoundResource}
use Rattle.processor_tests.specs.Views.{small_span, small_resource}
use Rattle.processor_tests.proofs.views.definitions_of_views.Goals as goal

pub returns-clause-told : goal.returns-clause-told
unfolding number_in varint_at tag_at split_at value_with end_in fields_in fields_of
returns-clause-told c = record {
  of_messages = refl;
  of_texts = refl;
  of_none = refl;
  of_array = refl;
}

-- ---- canonical texts

nothing_kept : (NotRead : ℕ → Datum → Type 0) → Skipped NotRead []
nothing_kept NotRead = record { depth = 0; fields = []; are = no_fields; unread = tt }

one_byte_is : (b : ℕ) → b < 128 → IsVarint (b ∷ []) b
one_byte_is b lt = record { whole = b; spelled = last_byte lt; short = omega arith; kept = omega arith }

-- 1: 9
kept : Skipped NotInSpan (0x08 ∷ 0x09 ∷ [])
kept = record {
  depth = 0;
  fields = record { number = 1; value = Varint 9 } ∷ [];
  are = more_fields {front = 0x08 ∷ 0x09 ∷ []} {rest = []} nine no_fields;
  unread = (tt, tt);
}
  where
    nine : IsField 0 (0x08 ∷ 0x09 ∷ []) (record { number = 1; value = Varint 9 })
    nine = varint_field {tag = 0x08 ∷ []} {text = 0x09 ∷ []} (record { spelled = one_byte_is 8 (omega arith); numbered = omega arith; fits = omega arith }) (one_byte_is 9 (omega arith))

is_text : (bs : List ℕ) → is_utf8 bs ≡ true → IsUtf8 bs
is_text bs e = IsUtf8-from_is_utf8 bs e

no_text : (bs : List ℕ) → is_utf8 bs ≡ false → IsUtf8 bs → ⊥
no_text bs e text = false≢true (sym e ∙ is_utf8-from_IsUtf8 bs text)

small_span_sound : SoundSpan small_span
unfolding is_utf8 chars encode_utf8
small_span_sound = record {
  kind = record { sfits = omega arith };
  start_time_unix_nano = omega arith;
  end_time_unix_nano = omega arith;
  attributes = ((is_text (codes "k") refl, (is_text (codes "v") refl, nothing_kept _), nothing_kept _), ((is_text (codes "e") refl, nothing_kept _), tt));
  dropped_attributes_count = omega arith;
  dropped_events_count = omega arith;
  dropped_links_count = omega arith;
  status = record { code = record { sfits = omega arith }; unknown = nothing_kept _ };
  unknown = kept;
}

small_resource_sound : SoundResource small_resource
unfolding is_utf8 chars encode_utf8
small_resource_sound = record {
  attributes = ((is_text (codes "k") refl, (tt, nothing_kept _), nothing_kept _), tt);
  dropped_attributes_count = omega arith;
  unknown = nothing_kept _;
}

pub returns-clause-canonical : goal.returns-clause-canonical
unfolding groups is_utf8 chars encode_utf8
returns-clause-canonical c = record {
  span = record { sound = small_span_sound; short = omega arith; same = refl };
  resource = record { sound = small_resource_sound; short = omega arith; same = refl };
  none = refl;
  longer = λ is. let never : ◌≡◌ {A = List ℕ} (0x30 ∷ 0x82 ∷ 0x00 ∷ []) (0x30 ∷ 0x02 ∷ []) = is.same in cc;
  not_none = λ is. let never : ◌≡◌ {A = List ℕ} (0x10 ∷ 0x00 ∷ []) [] = is in cc;
  skipped = tt;
  read = λ is. is.0 refl;
  text = (record { key = is_text (0xc3 ∷ 0xa4 ∷ []) refl; value = tt }, tt);
  no_key = λ are. no_text (0xff ∷ []) refl are.0.key;
  no_string = λ are. no_text (0xff ∷ []) refl are.0.value;
  any_bytes = (record { key = is_text (codes "k") refl; value = tt }, tt);
}
