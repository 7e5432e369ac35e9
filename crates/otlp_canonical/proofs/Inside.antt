-- A message in a field is put anew, without its defaults and with lengths as short as they can be.
use Rattle.std.proofs.Common.{◌≡◌, ℕ, Bool, true, ◌+◌, ◌-◌, ◌<◌, ◌^◌, List, [], ◌++◌, length, None, Some, Result, Ok, refl, sym, ap, ◌∙◌, append-nil, append_assoc, length-append, arith}
use Rattle.pb_wire.specs.declared.field.WireType.TheVariants as types
use Rattle.pb_wire.specs.Grammar.{Entry, Bytes, IsField}
use Rattle.pb_wire.specs.Reading.{next_at}
use Rattle.pb_wire.specs.Text.{varint_text, tag_text}
use Rattle.pb_wire.proofs.Written.{field_written}
use Rattle.otlp_trace.specs.Data.{EventData, LinkData, StatusData}
use Rattle.otlp_trace.specs.Defaults.{no_event, no_link, no_status}
use Rattle.otlp_trace.specs.Text.{bytes_field}
use Rattle.otlp_read.specs.declared.fault.ReadFault.{ReadFault}
use Rattle.otlp_read.specs.AnyValue.{no_key_value, key_value_step}
use Rattle.otlp_read.specs.Value.{span_step, event_step, link_step, status_step}
use Rattle.otlp_read.specs.Walk.{◌>>=◌, Step, walk, with_another}
use Rattle.otlp_read.proofs.Laws.{begins_at}
use Rattle.otlp_canonical.specs.Attribute.{AttributeLaws}
use Rattle.otlp_canonical.specs.Defaults.{DefaultsAbove}
use Rattle.otlp_canonical.specs.Inner.{DefaultLaws, ReadAlike, FieldAlike, PutFor}
use Rattle.otlp_canonical.proofs.Dropped.{front_walked, default_alike}

-- a field that holds these bytes
abbrev pub holding : ℕ → List ℕ → Entry
holding n bs = record { number = n; value = Bytes bs }

-- it is found at the front, as it is written
pub held_found : (d n : ℕ) (text bs rest : List ℕ) → 0 < n → n < 2 ^ 29 → length bs < 2 ^ 64 → text ≡ bytes_field n bs ++ rest → next_at d text ≡ Ok (Some (holding n bs, rest))
held_found d n text bs rest some fits short is =
    ap (next_at d) is ∙ begins_at d (bytes_field n bs) rest (holding n bs) (field_written d (holding n bs) some fits short)

-- where the field makes of each message what one with other bytes makes, that can be put in its place
pub put_field : {A : Type 0} (step : ℕ → Step A) (Above : ℕ → A → Type 0) (inner d most n : ℕ) (bs put old new : List ℕ) → 0 < n → n < 2 ^ 29 → length put < 2 ^ 64 → new ≡ old ++ bytes_field n put
    → ((a : A) (spelled other : List ℕ) → Above most a → step inner a (holding n put) spelled ≡ step inner a (holding n bs) other)
    → PutFor step Above inner d most (holding n bs) old new
put_field step Above inner d most n bs put old new some fits short copied same =
    let first : IsField d (bytes_field n put) (holding n put) = field_written d (holding n put) some fits short in
    record {
      put = bytes_field n put;
      copied = copied;
      alike = λ a spelled rest c.
          front_walked (step inner) d a (bytes_field n put) rest (holding n put) first ∙ ap (λ (r : Result _ ReadFault). r >>= λ b. walk (step inner) d b rest) (same a (bytes_field n put) spelled c);
    }

-- an attribute
pub attribute_put : {A : Type 0} (step : ℕ → Step A) (Above : ℕ → A → Type 0) (attribute : ℕ → Bool) → AttributeLaws step attribute → (inner d most n : ℕ) (bs old new : List ℕ) → attribute n ≡ true
    → FieldAlike key_value_step no_key_value inner n bs old new → PutFor step Above inner d most (holding n bs) old new
attribute_put step Above attribute laws inner d most n bs old new is f =
    put_field step Above inner d most n bs f.put old new (laws.some n is) (omega (arith, laws.fits n is)) f.short f.copied (λ a spelled other c. laws.same inner n a bs f.put spelled other is f.same)

pub event_put : (inner d most : ℕ) (bs old new : List ℕ) → FieldAlike event_step no_event inner 11 bs old new → PutFor span_step DefaultsAbove inner d most (holding 11 bs) old new
event_put inner d most bs old new f =
    put_field span_step DefaultsAbove inner d most 11 bs f.put old new (omega arith) (omega arith) f.short f.copied
    (λ s spelled other c. ap (λ (r : Result EventData ReadFault). with_another s.events r >>= λ l. Ok (record s { events = l })) (sym f.same))

pub link_put : (inner d most : ℕ) (bs old new : List ℕ) → FieldAlike link_step no_link inner 13 bs old new → PutFor span_step DefaultsAbove inner d most (holding 13 bs) old new
link_put inner d most bs old new f =
    put_field span_step DefaultsAbove inner d most 13 bs f.put old new (omega arith) (omega arith) f.short f.copied
    (λ s spelled other c. ap (λ (r : Result LinkData ReadFault). with_another s.links r >>= λ l. Ok (record s { links = l })) (sym f.same))

-- a status, where none stood before
pub status_put : (inner d most : ℕ) (bs old new : List ℕ) → most < 15 → FieldAlike status_step no_status inner 15 bs old new → PutFor span_step DefaultsAbove inner d most (holding 15 bs) old new
status_put inner d most bs old new lt f =
    put_field span_step DefaultsAbove inner d most 15 bs f.put old new (omega arith) (omega arith) f.short f.copied
    (λ s spelled other c.
    let none : s.status ≡ None = c.status lt in
    rw none (ap (λ (r : Result StatusData ReadFault). r >>= λ x. Ok (record s { status = Some x })) (sym f.same)))

-- nothing for a default
pub nothing_put : {A : Type 0} (step : ℕ → Step A) (none : A) (default : Entry → Bool) (Above : ℕ → A → Type 0) → DefaultLaws step none default Above → (inner d most : ℕ) (field : Entry) (old new : List ℕ) → default field ≡ true → most < field.number → new ≡ old
    → PutFor step Above inner d most field old new
nothing_put step none default Above laws inner d most field old new is lt same = record {
  put = [];
  copied = same ∙ sym (append-nil old);
  alike = default_alike step none default Above laws inner d most field is lt;
}

-- behind a tag and a length, where that is the length of what is put
pub field_alike : {A : Type 0} (step : ℕ → Step A) (none : A) (room number size : ℕ) (text old tagged sized new : List ℕ) → tagged ≡ old ++ tag_text number types.Bytes → sized ≡ tagged ++ varint_text size
    → length new - length sized ≡ size → size < 2 ^ 64 → ReadAlike step none room text sized new → FieldAlike step none room number text old new
field_alike step none room number size text old tagged sized new tag length_ at fits a =
    let long : length new ≡ length sized + length a.put = ap length a.copied ∙ length-append sized a.put in
    let same : length a.put ≡ size = omega (arith, long, at) in
    record {
      put = a.put;
      copied =
          a.copied ∙ ap (λ (t : List ℕ). t ++ a.put) (length_ ∙ ap (λ (t : List ℕ). t ++ varint_text size) tag ∙ append_assoc old (tag_text number types.Bytes) (varint_text size))
          ∙ append_assoc old (tag_text number types.Bytes ++ varint_text size) a.put
          ∙ ap (λ (t : List ℕ). old ++ t) (append_assoc (tag_text number types.Bytes) (varint_text size) a.put ∙ ap (λ (n : ℕ). tag_text number types.Bytes ++ (varint_text n ++ a.put)) (sym same));
      short = omega (arith, same, fits);
      same = a.same;
    }

-- the text itself
pub copied_alike : {A : Type 0} (step : ℕ → Step A) (none : A) (room number : ℕ) (text old new : List ℕ) → length text < 2 ^ 64 → new ≡ old ++ bytes_field number text → FieldAlike step none room number text old new
copied_alike step none room number text old new fits is = record { put = text; copied = is; short = fits; same = refl }
