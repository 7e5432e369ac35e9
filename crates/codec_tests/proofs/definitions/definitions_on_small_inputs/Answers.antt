use Rattle.std.proofs.Common.{◌≡◌, ℕ, ◌<◌, pos, List, [], ◌∷◌, Option, Some, None, Result, Ok, Err, refl, sym, ap, subst, arith}
use Rattle.std.proofs.lemmas.Bool.{false≢true}
use Rattle.std.proofs.lemmas.Str.{IsUtf8-from_is_utf8, is_utf8-from_IsUtf8}
use Rattle.std.specs.Char.{encode_utf8}
use Rattle.std.specs.List.{AllByRecursion}
use Rattle.std.specs.Prelude.{map, codes}
use Rattle.std.specs.Str.{chars, is_utf8}
use Rattle.pb_wire.specs.declared.field.WireFault.{WireFault}
use Rattle.pb_wire.specs.declared.field.WireFault.TheVariants as wire
use Rattle.pb_wire.specs.Grammar.{Varint, Entry, last_byte, IsVarint, IsField, varint_field}
use Rattle.pb_wire.specs.Reading.{number_in, varint_at, tag_at, split_at, value_with, end_in, fields_in, fields_at}
use Rattle.pb_wire.specs.Text.{groups}
use Rattle.pb_wire.proofs.Steps.{ok_is}
use Rattle.pb_wire.proofs.Whole.{fields_whole}
use Rattle.otlp_trace.specs.Data.{SpanData}
use Rattle.otlp_trace.specs.Examples.{example_bytes, example_request}
use Rattle.otlp_read.specs.declared.fault.ReadFault.{ReadFault}
use Rattle.otlp_read.specs.Numbers.{utf8}
use Rattle.otlp_read.specs.Walk.{Known, Piece, no_pieces, more_pieces, walk_in, walk, read_with}
use Rattle.otlp_read.specs.AnyValue.{read_any, read_array, read_list, read_key_value}
use Rattle.otlp_trace.specs.Defaults.{no_span}
use Rattle.otlp_read.specs.Value.{span_known, value_of}
use Rattle.otlp_read.specs.Nested.{Kept, IsUnknown}
use Rattle.otlp_read.proofs.Laws.{pieces_fields}
use Rattle.codec_tests.proofs.definitions.definitions_on_small_inputs.Goals as goal

-- ---- texts

pub returns-clause-written : goal.returns-clause-written
unfolding groups
returns-clause-written c = record {
  number = refl;
  negative = refl;
  tag = refl;
  string = refl;
  varint_field = refl;
  bytes_field = refl;
  eight_field = refl;
  four_field = refl;
  group_field = refl;
}

example_is_read : value_of example_bytes ≡ Ok example_request
unfolding number_in varint_at tag_at split_at value_with end_in walk_in walk read_with utf8 is_utf8 chars encode_utf8 read_any read_array read_list read_key_value
example_is_read = refl

pub returns-clause-example : goal.returns-clause-example
unfolding groups
returns-clause-example c = record { resource = refl; scope = refl; span = refl; whole = refl; read = example_is_read }

-- ---- conditions

one_byte_is : (b : ℕ) → b < 128 → IsVarint (b ∷ []) b
one_byte_is b lt = record { whole = b; spelled = last_byte lt; short = omega arith; kept = omega arith }

five_field_is : IsField 3 (0x08 ∷ 0x05 ∷ []) (record { number = 1; value = Varint 5 })
five_field_is = varint_field {tag = 0x08 ∷ []} {text = 0x05 ∷ []} (record { spelled = one_byte_is 8 (omega arith); numbered = omega arith; fits = omega arith }) (one_byte_is 5 (omega arith))

nothing_kept : {A : Type 0} (known : ℕ → Known A) (room : ℕ) → Kept known room []
nothing_kept known room = record { pieces = []; are = no_pieces; unknown = tt }

five_kept : Kept span_known 97 (0x08 ∷ 0x05 ∷ [])
five_kept = record {
  pieces = record { field = record { number = 1; value = Varint 5 }; spelled = 0x08 ∷ 0x05 ∷ [] } ∷ [];
  are = more_pieces {front = 0x08 ∷ 0x05 ∷ []} {rest = []} five_field_is no_pieces;
  unknown = ((λ s. refl), tt);
}

-- a kind
abbrev six : Entry
six = record { number = 6; value = Varint 2 }

-- what is kept is read again as fields
are_fields : {text : List ℕ} → (k : Kept span_known 97 text) → fields_at 3 text ≡ Ok (map (λ (p : Piece). p.field) k.pieces)
are_fields k = fields_whole (pieces_fields k.are)

six_is_known : (pieces : List Piece) → six ∷ [] ≡ map (λ (p : Piece). p.field) pieces → AllByRecursion (IsUnknown (span_known 97)) pieces → ⊥
six_is_known [] e unknown = cc
six_is_known (p ∷ ps) e unknown =
    let same : p.field ≡ six = sym (ap (λ (es : List Entry). first es) e) in
    let none : ◌≡◌ {A = Option (Result SpanData ReadFault)} (span_known 97 no_span p.field.number p.field.value) None = unknown.0 no_span in
    let never : ◌≡◌ {A = Option (Result SpanData ReadFault)} (Some (Ok (record no_span { kind = pos 2 }))) None = subst (λ (e : Entry). ◌≡◌ {A = Option (Result SpanData ReadFault)} (span_known 97 no_span e.number e.value) None) same none in
    cc
  where
    first : List Entry → Entry
    first [] = six
    first (e ∷ es) = e

six_not_kept : Kept span_known 97 (0x30 ∷ 0x02 ∷ []) → ⊥
unfolding number_in varint_at tag_at split_at value_with end_in fields_in fields_at
six_not_kept k = six_is_known k.pieces (ok_is (six ∷ []) (map (λ (p : Piece). p.field) k.pieces) (are_fields k)) k.unknown

half_not_kept : Kept span_known 97 (0x08 ∷ []) → ⊥
unfolding number_in varint_at tag_at split_at value_with end_in fields_in fields_at
half_not_kept k =
    let never : ◌≡◌ {A = Result (List Entry) WireFault} (Err wire.Truncated) (Ok (map (λ (p : Piece). p.field) k.pieces)) = are_fields k in
    cc

pub returns-clause-conditions : goal.returns-clause-conditions
unfolding is_utf8 chars encode_utf8
returns-clause-conditions c = record {
  kept = five_kept;
  known = six_not_kept;
  cut = half_not_kept;
  in_a_request = record {
    resource_spans = (
      record {
        resource = tt;
        scope_spans = (
          record {
            scope = tt;
            spans = (record { attributes = tt; events = tt; links = tt; status = tt; unknown = five_kept }, tt);
          },
          tt,
        );
      },
      tt,
    );
  };
  room = ((tt, nothing_kept _ _), nothing_kept _ _);
  no_room = λ nested. nested.0;
  typed = record { message = IsUtf8-from_is_utf8 (codes "m") refl; code = record { sfits = omega arith } };
  too_great = λ typed. absurd (omega (arith, typed.code.sfits));
  no_text = λ typed. false≢true (is_utf8-from_IsUtf8 (0xff ∷ []) typed.message);
}
