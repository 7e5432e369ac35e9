-- An attribute is read as the same with its value's length written anew, and so is the message that it is in.
use Rattle.std.proofs.Common.{◌≡◌, ◌==◌, ℕ, true, false, ◌-◌, ◌<◌, ◌^◌, List, [], ◌++◌, length, Some, Result, Ok, sym, ap, subst, ◌∙◌, append-nil, append_assoc, arith}
use Rattle.std.proofs.lemmas.Bool.{eqb-true}
use Rattle.pb_wire.specs.declared.field.WireType.TheVariants as types
use Rattle.pb_wire.specs.Grammar.{Entry, Bytes, IsField}
use Rattle.pb_wire.specs.Reading.{next_at}
use Rattle.pb_wire.specs.Text.{varint_text, tag_text}
use Rattle.pb_wire.proofs.Again.{next_takes}
use Rattle.pb_wire.proofs.Written.{field_written}
use Rattle.otlp_trace.specs.Data.{KeyValueData, SpanData, EventData, LinkData}
use Rattle.otlp_trace.specs.Text.{bytes_field}
use Rattle.otlp_read.specs.declared.fault.ReadFault.{ReadFault}
use Rattle.otlp_read.specs.AnyValue.{no_key_value, key_value_step}
use Rattle.otlp_read.specs.Value.{span_step, status_step, event_step, link_step}
use Rattle.otlp_read.specs.Walk.{◌>>=◌, before, numbered, walk, read_with, with_another}
use Rattle.otlp_read.proofs.Opened.{opened}
use Rattle.otlp_read.proofs.Walks.{bind_same, before_rest}
use Rattle.otlp_canonical.specs.Attribute.{ValueLast, AttributeLaws}
use Rattle.otlp_canonical.specs.Inner.{ReadAlike}
use Rattle.otlp_canonical.proofs.Dropped.{front_walked}

-- the value behind a key, whichever way its length is spelled
last_same : (room d : ℕ) (p : KeyValueData) (last value : List ℕ) → IsField d last (numbered 2 (Bytes value)) → length value < 2 ^ 64
    → walk (key_value_step room) d p last ≡ walk (key_value_step room) d p (bytes_field 2 value)
last_same room d p last value second short =
    let step = key_value_step room in
    let field = numbered 2 (Bytes value) in
    let put = bytes_field 2 value in
    let first : IsField d put field = field_written d field (omega arith) (omega arith) short in
    let one : walk step d p (last ++ []) ≡ (step p field last >>= λ q. walk step d q []) = front_walked step d p last [] field second in
    let other : walk step d p (put ++ []) ≡ (step p field put >>= λ q. walk step d q []) = front_walked step d p put [] field first in
    ap (walk step d p) (sym (append-nil last)) ∙ one ∙ sym other ∙ ap (walk step d p) (append-nil put)

pub value_short : (room : ℕ) (text front value : List ℕ) → 0 < room → ValueLast (101 - room) text front value → length value < 2 ^ 64
    → read_with key_value_step room no_key_value text ≡ read_with key_value_step room no_key_value (front ++ bytes_field 2 value)
value_short room text front value some v short =
    let step = key_value_step (room - 1) in
    let d = 101 - room in
    let put = bytes_field 2 value in
    opened key_value_step room no_key_value text some ∙ ap (walk step d no_key_value) v.parts ∙ front_walked step d no_key_value front v.last v.key v.first
    ∙ bind_same (step no_key_value v.key front) (λ q. walk step d q v.last) (λ q. walk step d q put) (λ q. last_same (room - 1) d q v.last value v.second short)
    ∙ sym (front_walked step d no_key_value front put v.key v.first) ∙ sym (opened key_value_step room no_key_value (front ++ put) some)

-- a field, and then one that holds the value, and no more
pub value_last : (d : ℕ) (text last value end : List ℕ) (key field : Entry) → next_at d text ≡ Ok (Some (key, last)) → next_at d last ≡ Ok (Some (field, end)) → field ≡ numbered 2 (Bytes value) → end ≡ []
    → ValueLast d text (before text last) value
value_last d text last value end key field found behind is none =
    let b = next_takes d text key last found in
    let v = next_takes d last field end behind in
    let run : before text last ≡ b.front = ap (λ (t : List ℕ). before t last) b.parts ∙ before_rest b.front last in
    let whole : last ≡ v.front = v.parts ∙ ap (λ (t : List ℕ). v.front ++ t) none ∙ append-nil v.front in
    record {
      key = key;
      last = last;
      parts = b.parts ∙ ap (λ (t : List ℕ). t ++ last) (sym run);
      first = subst (λ (t : List ℕ). IsField d t key) (sym run) b.first;
      second = subst (λ (f : Entry). IsField d last f) is (subst (λ (t : List ℕ). IsField d t field) (sym whole) v.first);
    }

-- put part by part
pub value_alike : (room : ℕ) (text front value old one tagged sized new : List ℕ) → 0 < room → ValueLast (101 - room) text front value → length value < 2 ^ 64 → one ≡ old ++ front → tagged ≡ one ++ tag_text 2 types.Bytes
    → sized ≡ tagged ++ varint_text (length value) → new ≡ sized ++ value → ReadAlike key_value_step no_key_value room text old new
value_alike room text front value old one tagged sized new some v short first tag length_ last =
    let tagging = tag_text 2 types.Bytes in
    let size = varint_text (length value) in
    record {
      put = front ++ bytes_field 2 value;
      copied =
          last ∙ ap (λ (t : List ℕ). t ++ value) (length_ ∙ ap (λ (t : List ℕ). t ++ size) (tag ∙ ap (λ (t : List ℕ). t ++ tagging) first))
          ∙ append_assoc ((old ++ front) ++ tagging) size value ∙ append_assoc (old ++ front) tagging (size ++ value) ∙ append_assoc old front (tagging ++ (size ++ value));
      same = value_short room text front value some v short;
    }

-- ---- in each message that has attributes

span_same : (room n : ℕ) (s : SpanData) (text put spelled other : List ℕ) → (n == 9) ≡ true → read_with key_value_step room no_key_value text ≡ read_with key_value_step room no_key_value put
    → span_step room s (numbered n (Bytes put)) spelled ≡ span_step room s (numbered n (Bytes text)) other
span_same room n s text put spelled other is same = rw (eqb-true n 9 is) (ap (λ (r : Result KeyValueData ReadFault). with_another s.attributes r >>= λ l. Ok (record s { attributes = l })) (sym same))

pub span_attributes : AttributeLaws span_step (λ n. n == 9)
span_attributes = record { some = λ n is. omega (arith, eqb-true n 9 is); fits = λ n is. omega (arith, eqb-true n 9 is); same = span_same }

event_same : (room n : ℕ) (e : EventData) (text put spelled other : List ℕ) → (n == 3) ≡ true → read_with key_value_step room no_key_value text ≡ read_with key_value_step room no_key_value put
    → event_step room e (numbered n (Bytes put)) spelled ≡ event_step room e (numbered n (Bytes text)) other
event_same room n e text put spelled other is same = rw (eqb-true n 3 is) (ap (λ (r : Result KeyValueData ReadFault). with_another e.attributes r >>= λ l. Ok (record e { attributes = l })) (sym same))

pub event_attributes : AttributeLaws event_step (λ n. n == 3)
event_attributes = record { some = λ n is. omega (arith, eqb-true n 3 is); fits = λ n is. omega (arith, eqb-true n 3 is); same = event_same }

link_same : (room n : ℕ) (l : LinkData) (text put spelled other : List ℕ) → (n == 4) ≡ true → read_with key_value_step room no_key_value text ≡ read_with key_value_step room no_key_value put
    → link_step room l (numbered n (Bytes put)) spelled ≡ link_step room l (numbered n (Bytes text)) other
link_same room n l text put spelled other is same = rw (eqb-true n 4 is) (ap (λ (r : Result KeyValueData ReadFault). with_another l.attributes r >>= λ ps. Ok (record l { attributes = ps })) (sym same))

pub link_attributes : AttributeLaws link_step (λ n. n == 4)
link_attributes = record { some = λ n is. omega (arith, eqb-true n 4 is); fits = λ n is. omega (arith, eqb-true n 4 is); same = link_same }

-- none
pub status_attributes : AttributeLaws status_step (λ n. false)
status_attributes = record { some = λ n is. absurd (cc); fits = λ n is. absurd (cc); same = λ room n s text put spelled other is same. absurd (cc) }
