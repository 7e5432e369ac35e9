-- A default that nothing came before changes nothing, so that a text reads as the same text without it.
use Rattle.std.proofs.Common.{◌≡◌, ◌==◌, ℕ, ℤ, pos, true, false, ◌<◌, ◌≤◌, List, [], length, Option, Some, None, unwrap_or, Result, Ok, Err, IfOk, IfSome, refl, sym, ap, ◌∙◌, arith}
use Rattle.std.proofs.lemmas.Bool.{eqb-true}
use Rattle.std.proofs.lemmas.Bool.Decides.{nat_tests}
use Rattle.std.proofs.lemmas.Str.{IsUtf8-nil}
use Rattle.pb_wire.specs.Grammar.{Datum, Varint, Eight, Bytes, Four, Group, Entry}
use Rattle.otlp_trace.specs.Data.{SpanData}
use Rattle.otlp_read.specs.declared.fault.ReadFault.{ReadFault}
use Rattle.otlp_read.specs.AnyValue.{no_key_value, key_value_step}
use Rattle.otlp_read.specs.Numbers.{utf8, int32, uint32, fixed32, fixed64}
use Rattle.otlp_trace.specs.Defaults.{no_span, no_event, no_link, no_status}
use Rattle.otlp_read.specs.Value.{keep_span, span_known, span_step, event_step, link_step, status_step}
use Rattle.otlp_read.specs.Walk.{◌>>=◌, read_with, with_another}
use Rattle.otlp_read.proofs.Leaves.{utf8_yes}
use Rattle.otlp_read.proofs.Sound.{by_test}
use Rattle.otlp_canonical.specs.Defaults.{DefaultsAbove, default_at}
use Rattle.otlp_canonical.proofs.Parts.{nothing}

-- ---- what a field leaves at its default

-- nothing came yet
pub all_defaults : DefaultsAbove 0 no_span
all_defaults = record {
  trace_id = λ lt. refl;
  span_id = λ lt. refl;
  trace_state = λ lt. refl;
  parent_span_id = λ lt. refl;
  name = λ lt. refl;
  kind = λ lt. refl;
  start_time_unix_nano = λ lt. refl;
  end_time_unix_nano = λ lt. refl;
  dropped_attributes_count = λ lt. refl;
  dropped_events_count = λ lt. refl;
  dropped_links_count = λ lt. refl;
  status = λ lt. refl;
  flags = λ lt. refl;
}

-- fewer fields
pub fewer : (low high : ℕ) (s : SpanData) → low ≤ high → DefaultsAbove low s → DefaultsAbove high s
fewer low high s le c = record {
  trace_id = λ lt. c.trace_id (omega (arith, lt, le));
  span_id = λ lt. c.span_id (omega (arith, lt, le));
  trace_state = λ lt. c.trace_state (omega (arith, lt, le));
  parent_span_id = λ lt. c.parent_span_id (omega (arith, lt, le));
  name = λ lt. c.name (omega (arith, lt, le));
  kind = λ lt. c.kind (omega (arith, lt, le));
  start_time_unix_nano = λ lt. c.start_time_unix_nano (omega (arith, lt, le));
  end_time_unix_nano = λ lt. c.end_time_unix_nano (omega (arith, lt, le));
  dropped_attributes_count = λ lt. c.dropped_attributes_count (omega (arith, lt, le));
  dropped_events_count = λ lt. c.dropped_events_count (omega (arith, lt, le));
  dropped_links_count = λ lt. c.dropped_links_count (omega (arith, lt, le));
  status = λ lt. c.status (omega (arith, lt, le));
  flags = λ lt. c.flags (omega (arith, lt, le));
}

-- what a field makes of a message, where the message knows it
abbrev pub Made : {A : Type 0} → (A → Type 0) → Option (Result A ReadFault) → Type 0
Made P made = IfSome made (λ r. IfOk r P)

-- a value that is read
pub read_made : {A B : Type 0} (P : A → Type 0) (r : Result B ReadFault) (put : B → A) → ((x : B) → P (put x)) → Made P (Some (r >>= λ x. Ok (put x)))
read_made P (Ok x) put leaves = leaves x
read_made P (Err f) put leaves = tt

pub kept_made : {A : Type 0} (P : A → Type 0) (made : Option (Result A ReadFault)) (kept : A) → Made P made → P kept → IfOk (unwrap_or made (Ok kept)) P
kept_made P None kept leaves c = c
kept_made P (Some r) kept leaves c = leaves

-- of a span
abbrev pub Leaves : ℕ → Option (Result SpanData ReadFault) → Type 0
Leaves most = Made (DefaultsAbove most)

-- a field of a number that isn't above changes nothing above
known_leaves : (room most : ℕ) (s : SpanData) (n : ℕ) (v : Datum) → n ≤ most → DefaultsAbove most s → Leaves most (span_known room s n v)
known_leaves room most s n (Varint x) le c =
    by_test (n == 6) (λ e. rw e (let never : most < 6 → int32 x ≡ pos 0 = λ lt. absurd (omega (arith, eqb-true n 6 e, lt, le)) in assumption (c, never))) λ e6.
    by_test (n == 10) (λ e. rw (e6, e) (let never : most < 10 → uint32 x ≡ 0 = λ lt. absurd (omega (arith, eqb-true n 10 e, lt, le)) in assumption (c, never))) λ e10.
    by_test (n == 12) (λ e. rw (e6, e10, e) (let never : most < 12 → uint32 x ≡ 0 = λ lt. absurd (omega (arith, eqb-true n 12 e, lt, le)) in assumption (c, never))) λ e12.
    by_test (n == 14) (λ e. rw (e6, e10, e12, e) (let never : most < 14 → uint32 x ≡ 0 = λ lt. absurd (omega (arith, eqb-true n 14 e, lt, le)) in assumption (c, never))) λ e14.
    rw (e6, e10, e12, e14) tt
known_leaves room most s n (Eight bs) le c =
    by_test (n == 7) (λ e. rw e (let never : most < 7 → fixed64 bs ≡ 0 = λ lt. absurd (omega (arith, eqb-true n 7 e, lt, le)) in assumption (c, never))) λ e7.
    by_test (n == 8) (λ e. rw (e7, e) (let never : most < 8 → fixed64 bs ≡ 0 = λ lt. absurd (omega (arith, eqb-true n 8 e, lt, le)) in assumption (c, never))) λ e8.
    rw (e7, e8) tt
known_leaves room most s n (Four bs) le c =
    by_test (n == 16) (λ e. rw e (let never : most < 16 → fixed32 bs ≡ 0 = λ lt. absurd (omega (arith, eqb-true n 16 e, lt, le)) in assumption (c, never))) λ e16.
    rw e16 tt
known_leaves room most s n (Bytes bs) le c =
    by_test (n == 1) (λ e. rw e (let never : most < 1 → bs ≡ [] = λ lt. absurd (omega (arith, eqb-true n 1 e, lt, le)) in assumption (c, never))) λ e1.
    by_test (n == 2) (λ e. rw (e1, e) (let never : most < 2 → bs ≡ [] = λ lt. absurd (omega (arith, eqb-true n 2 e, lt, le)) in assumption (c, never))) λ e2.
    by_test (n == 3) (λ e. rw (e1, e2, e) (read_made (DefaultsAbove most) (utf8 bs) (λ text. record s { trace_state = text }) (λ text. let never : most < 3 → text ≡ [] = λ lt. absurd (omega (arith, eqb-true n 3 e, lt, le)) in assumption (c, never)))) λ e3.
    by_test (n == 4) (λ e. rw (e1, e2, e3, e) (let never : most < 4 → bs ≡ [] = λ lt. absurd (omega (arith, eqb-true n 4 e, lt, le)) in assumption (c, never))) λ e4.
    by_test (n == 5) (λ e. rw (e1, e2, e3, e4, e) (read_made (DefaultsAbove most) (utf8 bs) (λ text. record s { name = text }) (λ text. let never : most < 5 → text ≡ [] = λ lt. absurd (omega (arith, eqb-true n 5 e, lt, le)) in assumption (c, never)))) λ e5.
    by_test (n == 9) (λ e. rw (e1, e2, e3, e4, e5, e) (read_made (DefaultsAbove most) (with_another s.attributes (read_with key_value_step room no_key_value bs)) (λ l. record s { attributes = l }) (λ l. assumption c))) λ e9.
    by_test (n == 11) (λ e. rw (e1, e2, e3, e4, e5, e9, e) (read_made (DefaultsAbove most) (with_another s.events (read_with event_step room no_event bs)) (λ l. record s { events = l }) (λ l. assumption c))) λ e11.
    by_test (n == 13) (λ e. rw (e1, e2, e3, e4, e5, e9, e11, e) (read_made (DefaultsAbove most) (with_another s.links (read_with link_step room no_link bs)) (λ l. record s { links = l }) (λ l. assumption c))) λ e13.
    by_test (n == 15) (λ e. rw (e1, e2, e3, e4, e5, e9, e11, e13, e) (read_made (DefaultsAbove most) (read_with status_step room (unwrap_or s.status no_status) bs) (λ x. record s { status = Some x }) (λ x. let never : most < 15 → Some x ≡ None = λ lt. absurd (omega (arith, eqb-true n 15 e, lt, le)) in assumption (c, never)))) λ e15.
    rw (e1, e2, e3, e4, e5, e9, e11, e13, e15) tt
known_leaves room most s n (Group bs) le c = tt

pub step_leaves : (room most : ℕ) (s : SpanData) (field : Entry) (spelled : List ℕ) → field.number ≤ most → DefaultsAbove most s → IfOk (span_step room s field spelled) (DefaultsAbove most)
step_leaves room most s field spelled le c = kept_made (DefaultsAbove most) (span_known room s field.number field.value) (keep_span s spelled) (known_leaves room most s field.number field.value le c) (assumption c)

-- ---- a default that is set where it is already

-- an empty string is read as one
pub empty_read : {A : Type 0} (bs : List ℕ) (put : List ℕ → A) → bs ≡ [] → (utf8 bs >>= λ text. Ok (put text)) ≡ Ok (put [])
empty_read bs put none = ap (λ (b : List ℕ). utf8 b >>= λ text. Ok (put text)) none ∙ ap (λ (r : Result (List ℕ) ReadFault). r >>= λ text. Ok (put text)) (utf8_yes [] IsUtf8-nil)

default_number : (room most : ℕ) (s : SpanData) (n x : ℕ) (kept : SpanData) → default_at n (Varint x) ≡ true → most < n → DefaultsAbove most s → unwrap_or (span_known room s n (Varint x)) (Ok kept) ≡ Ok s
default_number room most s n x kept is lt c =
    let zero : x ≡ 0 = grind (arith, nat_tests) in
    by_test (n == 6) (λ e. rw e (ap (λ (z : ℤ). Ok (record s { kind = z })) (ap int32 zero ∙ sym (c.kind (omega (arith, eqb-true n 6 e, lt)))))) λ e6.
    by_test (n == 10) (λ e. rw (e6, e) (ap (λ (z : ℕ). Ok (record s { dropped_attributes_count = z })) (ap uint32 zero ∙ sym (c.dropped_attributes_count (omega (arith, eqb-true n 10 e, lt)))))) λ e10.
    by_test (n == 12) (λ e. rw (e6, e10, e) (ap (λ (z : ℕ). Ok (record s { dropped_events_count = z })) (ap uint32 zero ∙ sym (c.dropped_events_count (omega (arith, eqb-true n 12 e, lt)))))) λ e12.
    by_test (n == 14) (λ e. rw (e6, e10, e12, e) (ap (λ (z : ℕ). Ok (record s { dropped_links_count = z })) (ap uint32 zero ∙ sym (c.dropped_links_count (omega (arith, eqb-true n 14 e, lt)))))) λ e14.
    absurd (let never : false ≡ true = rw (e6, e10, e12, e14) at is in cc)

default_eight : (room most : ℕ) (s : SpanData) (n : ℕ) (bs : List ℕ) (kept : SpanData) → default_at n (Eight bs) ≡ true → most < n → DefaultsAbove most s → unwrap_or (span_known room s n (Eight bs)) (Ok kept) ≡ Ok s
default_eight room most s n bs kept is lt c =
    by_test (n == 7) (λ e. rw e (let zero : fixed64 bs ≡ 0 = eqb-true (fixed64 bs) 0 (rw e at is) in ap (λ (z : ℕ). Ok (record s { start_time_unix_nano = z })) (zero ∙ sym (c.start_time_unix_nano (omega (arith, eqb-true n 7 e, lt)))))) λ e7.
    by_test (n == 8) (λ e. rw (e7, e) (let zero : fixed64 bs ≡ 0 = eqb-true (fixed64 bs) 0 (rw (e7, e) at is) in ap (λ (z : ℕ). Ok (record s { end_time_unix_nano = z })) (zero ∙ sym (c.end_time_unix_nano (omega (arith, eqb-true n 8 e, lt)))))) λ e8.
    absurd (let never : false ≡ true = rw (e7, e8) at is in cc)

default_four : (room most : ℕ) (s : SpanData) (n : ℕ) (bs : List ℕ) (kept : SpanData) → default_at n (Four bs) ≡ true → most < n → DefaultsAbove most s → unwrap_or (span_known room s n (Four bs)) (Ok kept) ≡ Ok s
default_four room most s n bs kept is lt c =
    by_test (n == 16) (λ e. rw e (let zero : fixed32 bs ≡ 0 = eqb-true (fixed32 bs) 0 (rw e at is) in ap (λ (z : ℕ). Ok (record s { flags = z })) (zero ∙ sym (c.flags (omega (arith, eqb-true n 16 e, lt)))))) λ e16.
    absurd (let never : false ≡ true = rw e16 at is in cc)

default_bytes : (room most : ℕ) (s : SpanData) (n : ℕ) (bs : List ℕ) (kept : SpanData) → default_at n (Bytes bs) ≡ true → most < n → DefaultsAbove most s → unwrap_or (span_known room s n (Bytes bs)) (Ok kept) ≡ Ok s
default_bytes room most s n bs kept is lt c =
    let short : length bs ≡ 0 = grind (arith, nat_tests) in
    let none : bs ≡ [] = nothing bs short in
    by_test (n == 1) (λ e. rw e (ap (λ (b : List ℕ). Ok (record s { trace_id = b })) (none ∙ sym (c.trace_id (omega (arith, eqb-true n 1 e, lt)))))) λ e1.
    by_test (n == 2) (λ e. rw (e1, e) (ap (λ (b : List ℕ). Ok (record s { span_id = b })) (none ∙ sym (c.span_id (omega (arith, eqb-true n 2 e, lt)))))) λ e2.
    by_test (n == 3) (λ e. rw (e1, e2, e) (empty_read bs (λ text. record s { trace_state = text }) none ∙ ap (λ (b : List ℕ). Ok (record s { trace_state = b })) (sym (c.trace_state (omega (arith, eqb-true n 3 e, lt)))))) λ e3.
    by_test (n == 4) (λ e. rw (e1, e2, e3, e) (ap (λ (b : List ℕ). Ok (record s { parent_span_id = b })) (none ∙ sym (c.parent_span_id (omega (arith, eqb-true n 4 e, lt)))))) λ e4.
    by_test (n == 5) (λ e. rw (e1, e2, e3, e4, e) (empty_read bs (λ text. record s { name = text }) none ∙ ap (λ (b : List ℕ). Ok (record s { name = b })) (sym (c.name (omega (arith, eqb-true n 5 e, lt)))))) λ e5.
    absurd (let never : false ≡ true = rw (e1, e2, e3, e4, e5) at is in cc)

default_known : (room most : ℕ) (s : SpanData) (n : ℕ) (v : Datum) (kept : SpanData) → default_at n v ≡ true → most < n → DefaultsAbove most s → unwrap_or (span_known room s n v) (Ok kept) ≡ Ok s
default_known room most s n (Varint x) kept is lt c = default_number room most s n x kept is lt c
default_known room most s n (Eight bs) kept is lt c = default_eight room most s n bs kept is lt c
default_known room most s n (Bytes bs) kept is lt c = default_bytes room most s n bs kept is lt c
default_known room most s n (Four bs) kept is lt c = default_four room most s n bs kept is lt c
default_known room most s n (Group bs) kept is lt c = absurd (cc)

pub default_step : (room most : ℕ) (s : SpanData) (field : Entry) (spelled : List ℕ) → default_at field.number field.value ≡ true → most < field.number → DefaultsAbove most s → span_step room s field spelled ≡ Ok s
default_step room most s field spelled is lt c = default_known room most s field.number field.value (keep_span s spelled) is lt c
