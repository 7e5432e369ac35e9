-- An attribute, an event, a link or a status of a span that is read and written.
use Rattle.std.proofs.Common.{◌≡◌, ℕ, ◌-◌, ◌<◌, ◌==◌, ◌^◌, List, [], ◌∷◌, ◌++◌, length, Some, Result, Ok, sym, ap, subst, ◌∙◌, append-nil, length-append, refl, arith}
use Rattle.pb_wire.specs.Grammar.{Entry, IsField}
use Rattle.otlp_trace.specs.Data.{KeyValueData, StatusData, EventData, LinkData, SpanData}
use Rattle.otlp_trace.specs.Defaults.{no_status, no_event, no_link, no_span}
use Rattle.otlp_trace.specs.Text.{bytes_field, key_value_text, status_text, event_text, link_text, span_text}
use Rattle.otlp_trace.proofs.Spelled.{bytes_within}
use Rattle.otlp_read.specs.declared.fault.ReadFault.{ReadFault}
use Rattle.otlp_read.specs.AnyValue.{no_key_value, key_value_step}
use Rattle.otlp_read.specs.Nested.{NestedKeyValue, NestedStatus, NestedEvent, NestedLink}
use Rattle.otlp_read.specs.Typed.{TypedKeyValue, TypedStatus, TypedEvent, TypedLink, TypedSpan}
use Rattle.otlp_read.specs.Value.{status_step, event_step, link_step, span_step}
use Rattle.otlp_read.specs.Walk.{◌>>=◌, Step, read_with}
use Rattle.otlp_read.proofs.Back.{status_back, event_back, link_back}
use Rattle.otlp_read.proofs.Laws.{bind_ok}
use Rattle.otlp_read.proofs.MessageSound.{status_sound, event_sound, link_sound}
use Rattle.otlp_read.proofs.Opened.{opened}
use Rattle.otlp_read.proofs.Taken.{Short, Back}
use Rattle.otlp_read.proofs.ValueBack.{attribute_back}
use Rattle.otlp_read.proofs.ValueSound.{attribute_sound}
use Rattle.otlp_canonical.specs.Anew.{WrittenAnew}
use Rattle.otlp_canonical.specs.Defaults.{DefaultsAbove, holds_default}
use Rattle.otlp_canonical.specs.Inner.{FieldAlike, PutFor}
use Rattle.otlp_canonical.proofs.Attributes.{span_attributes}
use Rattle.otlp_canonical.proofs.Respelled.{one_walked}
use Rattle.otlp_canonical.proofs.Dropped.{Going, going_same}
use Rattle.otlp_canonical.proofs.InnerDefaults.{span_laws}
use Rattle.otlp_canonical.proofs.Inside.{holding, attribute_put, event_put, link_put, status_put}

-- a span of one field
one_read : (room : ℕ) (spelled : List ℕ) (field : Entry) → 0 < room → IsField (101 - room) spelled field → read_with span_step room no_span spelled ≡ span_step (room - 1) no_span field spelled
one_read room spelled field some first = opened span_step room no_span spelled some ∙ one_walked (span_step (room - 1)) (101 - room) no_span spelled field first

ok_is : {A : Type 0} (x y : A) → ◌≡◌ {A = Result A ReadFault} (Ok x) (Ok y) → x ≡ y
ok_is x y e = cc (e)

-- what is written of a message that was read is read as it
written_alike : {A : Type 0} (step : ℕ → Step A) (none : A) (text : A → List ℕ) (Typed : A → Type 0) (Nested : ℕ → A → Type 0) (inner number : ℕ) (bs old new : List ℕ) (a : A) → Back (read_with step inner none) text Typed (Nested inner)
    → Typed a → Nested inner a → read_with step inner none bs ≡ Ok a → length new < 2 ^ 64 → new ≡ old ++ bytes_field number (text a) → FieldAlike step none inner number bs old new
written_alike step none text Typed Nested inner number bs old new a back typed nested read fits is =
    let short : Short (text a) = omega (arith, ap (λ (t : List ℕ). length t) is, length-append old (bytes_field number (text a)), bytes_within number (text a), fits) in
    record { put = text a; copied = is; short = short; same = read ∙ sym (back a typed nested short) }

attribute_alone : (p : KeyValueData) → span_text (record no_span { attributes = p ∷ [] }) ≡ bytes_field 9 (key_value_text p)
attribute_alone p = simp append-nil

event_alone : (e : EventData) → span_text (record no_span { events = e ∷ [] }) ≡ bytes_field 11 (event_text e)
event_alone e = simp append-nil

link_alone : (l : LinkData) → span_text (record no_span { links = l ∷ [] }) ≡ bytes_field 13 (link_text l)
link_alone l = simp append-nil

status_alone : (s : StatusData) → span_text (record no_span { status = Some s }) ≡ bytes_field 15 (status_text s)
status_alone s = simp append-nil

pub attribute_written : (room d most : ℕ) (spelled bs old new : List ℕ) → 0 < room → IsField (101 - room) spelled (holding 9 bs) → length new < 2 ^ 64 → WrittenAnew room spelled old new → PutFor span_step DefaultsAbove (room - 1) d most (holding 9 bs) old new
attribute_written room d most spelled bs old new some first fits w =
    let inner = room - 1 in
    let read = read_with key_value_step inner no_key_value bs in
    let l = bind_ok (read >>= λ p. Ok (p ∷ [])) (λ l. Ok (record no_span { attributes = l })) w.value (sym (one_read room spelled (holding 9 bs) some first) ∙ w.read) in
    let p = bind_ok read (λ p. Ok (p ∷ [])) l.0 l.1 in
    let list : p.0 ∷ [] ≡ l.0 = ok_is (p.0 ∷ []) l.0 p.2 in
    let value : w.value ≡ record no_span { attributes = p.0 ∷ [] } = sym (ok_is (record no_span { attributes = l.0 }) w.value l.2) ∙ ap (λ (m : List KeyValueData). record no_span { attributes = m }) (sym list) in
    let typed : TypedSpan (record no_span { attributes = p.0 ∷ [] }) = subst TypedSpan value w.typed in
    let is : new ≡ old ++ bytes_field 9 (key_value_text p.0) = w.copied ∙ ap (λ (v : SpanData). old ++ span_text v) value ∙ ap (λ (t : List ℕ). old ++ t) (attribute_alone p.0) in
    attribute_put span_step DefaultsAbove (λ (n : ℕ). n == 9) span_attributes inner d most 9 bs old new refl
    (written_alike key_value_step no_key_value key_value_text TypedKeyValue NestedKeyValue inner 9 bs old new p.0 (attribute_back inner) typed.attributes.0 (attribute_sound ⊥ inner p.0 bs (λ f. absurd f) p.1).0 p.1 fits is)

pub event_written : (room d most : ℕ) (spelled bs old new : List ℕ) → 0 < room → IsField (101 - room) spelled (holding 11 bs) → length new < 2 ^ 64 → WrittenAnew room spelled old new → PutFor span_step DefaultsAbove (room - 1) d most (holding 11 bs) old new
event_written room d most spelled bs old new some first fits w =
    let inner = room - 1 in
    let read = read_with event_step inner no_event bs in
    let l = bind_ok (read >>= λ e. Ok (e ∷ [])) (λ l. Ok (record no_span { events = l })) w.value (sym (one_read room spelled (holding 11 bs) some first) ∙ w.read) in
    let e = bind_ok read (λ e. Ok (e ∷ [])) l.0 l.1 in
    let list : e.0 ∷ [] ≡ l.0 = ok_is (e.0 ∷ []) l.0 e.2 in
    let value : w.value ≡ record no_span { events = e.0 ∷ [] } = sym (ok_is (record no_span { events = l.0 }) w.value l.2) ∙ ap (λ (m : List EventData). record no_span { events = m }) (sym list) in
    let typed : TypedSpan (record no_span { events = e.0 ∷ [] }) = subst TypedSpan value w.typed in
    let is : new ≡ old ++ bytes_field 11 (event_text e.0) = w.copied ∙ ap (λ (v : SpanData). old ++ span_text v) value ∙ ap (λ (t : List ℕ). old ++ t) (event_alone e.0) in
    event_put inner d most bs old new (written_alike event_step no_event event_text TypedEvent NestedEvent inner 11 bs old new e.0 (event_back inner) typed.events.0 (event_sound ⊥ inner e.0 bs (λ f. absurd f) e.1).0 e.1 fits is)

pub link_written : (room d most : ℕ) (spelled bs old new : List ℕ) → 0 < room → IsField (101 - room) spelled (holding 13 bs) → length new < 2 ^ 64 → WrittenAnew room spelled old new → PutFor span_step DefaultsAbove (room - 1) d most (holding 13 bs) old new
link_written room d most spelled bs old new some first fits w =
    let inner = room - 1 in
    let read = read_with link_step inner no_link bs in
    let l = bind_ok (read >>= λ e. Ok (e ∷ [])) (λ l. Ok (record no_span { links = l })) w.value (sym (one_read room spelled (holding 13 bs) some first) ∙ w.read) in
    let e = bind_ok read (λ e. Ok (e ∷ [])) l.0 l.1 in
    let list : e.0 ∷ [] ≡ l.0 = ok_is (e.0 ∷ []) l.0 e.2 in
    let value : w.value ≡ record no_span { links = e.0 ∷ [] } = sym (ok_is (record no_span { links = l.0 }) w.value l.2) ∙ ap (λ (m : List LinkData). record no_span { links = m }) (sym list) in
    let typed : TypedSpan (record no_span { links = e.0 ∷ [] }) = subst TypedSpan value w.typed in
    let is : new ≡ old ++ bytes_field 13 (link_text e.0) = w.copied ∙ ap (λ (v : SpanData). old ++ span_text v) value ∙ ap (λ (t : List ℕ). old ++ t) (link_alone e.0) in
    link_put inner d most bs old new (written_alike link_step no_link link_text TypedLink NestedLink inner 13 bs old new e.0 (link_back inner) typed.links.0 (link_sound ⊥ inner e.0 bs (λ f. absurd f) e.1).0 e.1 fits is)

pub status_written : (room d most : ℕ) (spelled bs old new : List ℕ) → 0 < room → most < 15 → IsField (101 - room) spelled (holding 15 bs) → length new < 2 ^ 64 → WrittenAnew room spelled old new → PutFor span_step DefaultsAbove (room - 1) d most (holding 15 bs) old new
status_written room d most spelled bs old new some early first fits w =
    let inner = room - 1 in
    let read = read_with status_step inner no_status bs in
    let s = bind_ok read (λ x. Ok (record no_span { status = Some x })) w.value (sym (one_read room spelled (holding 15 bs) some first) ∙ w.read) in
    let value : w.value ≡ record no_span { status = Some s.0 } = sym (ok_is (record no_span { status = Some s.0 }) w.value s.2) in
    let typed : TypedSpan (record no_span { status = Some s.0 }) = subst TypedSpan value w.typed in
    let is : new ≡ old ++ bytes_field 15 (status_text s.0) = w.copied ∙ ap (λ (v : SpanData). old ++ span_text v) value ∙ ap (λ (t : List ℕ). old ++ t) (status_alone s.0) in
    status_put inner d most bs old new early (written_alike status_step no_status status_text TypedStatus NestedStatus inner 15 bs old new s.0 (status_back inner) typed.status (status_sound ⊥ inner s.0 bs (λ f. absurd f) s.1).0 s.1 fits is)

-- what was copied, and what isn't yet
pub going_read : (room : ℕ) (text copy from left : List ℕ) (most : ℕ) → 0 < room → Going span_step no_span DefaultsAbove room text [] copy from left most → read_with span_step room no_span text ≡ read_with span_step room no_span (copy ++ from)
going_read room text copy from left most some g =
    going_same span_step no_span holds_default DefaultsAbove span_laws room text [] copy from left most some g ∙ ap (λ (t : List ℕ). read_with span_step room no_span (t ++ from)) (sym g.is)
