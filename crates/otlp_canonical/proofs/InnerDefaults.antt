-- Defaults in a status, an event or a link: behind fields of smaller numbers they change nothing.
use Rattle.std.proofs.Common.{◌≡◌, ◌==◌, ℕ, ℤ, pos, true, false, ◌<◌, ◌≤◌, List, [], length, unwrap_or, Ok, IfOk, refl, sym, ap, ◌∙◌, arith}
use Rattle.std.proofs.lemmas.Bool.{eqb-true}
use Rattle.std.proofs.lemmas.Bool.Decides.{nat_tests}
use Rattle.pb_wire.specs.Grammar.{Datum, Varint, Eight, Bytes, Four, Group, Entry}
use Rattle.otlp_trace.specs.Data.{StatusData, EventData, LinkData}
use Rattle.otlp_trace.specs.Defaults.{no_span, no_status, no_event, no_link}
use Rattle.otlp_read.specs.AnyValue.{no_key_value, key_value_step}
use Rattle.otlp_read.specs.Numbers.{utf8, int32, uint32, fixed32, fixed64}
use Rattle.otlp_read.specs.Value.{keep_status, status_known, status_step, keep_event, event_known, event_step, keep_link, link_known, link_step, span_step}
use Rattle.otlp_read.specs.Walk.{read_with, with_another}
use Rattle.otlp_read.proofs.Sound.{by_test}
use Rattle.otlp_canonical.specs.Defaults.{DefaultsAbove, holds_default}
use Rattle.otlp_canonical.specs.Inner.{status_default_at, status_default, StatusDefaults, event_default_at, event_default, EventDefaults, link_default_at, link_default, LinkDefaults, DefaultLaws}
use Rattle.otlp_canonical.proofs.AtDefault.{Made, read_made, kept_made, empty_read, all_defaults, fewer, step_leaves, default_step}
use Rattle.otlp_canonical.proofs.Parts.{nothing}

-- a span
pub span_laws : DefaultLaws span_step no_span holds_default DefaultsAbove
span_laws = record { first = all_defaults; fewer = fewer; leaves = step_leaves; same = default_step }

-- ---- a status

status_first : StatusDefaults 0 no_status
status_first = record { message = λ lt. refl; code = λ lt. refl }

status_fewer : (low high : ℕ) (s : StatusData) → low ≤ high → StatusDefaults low s → StatusDefaults high s
status_fewer low high s le c = record {
  message = λ lt. c.message (omega (arith, lt, le));
  code = λ lt. c.code (omega (arith, lt, le));
}

status_made : (most : ℕ) (s : StatusData) (n : ℕ) (d : Datum) → n ≤ most → StatusDefaults most s → Made (StatusDefaults most) (status_known s n d)
status_made most s n (Varint x) le c =
    by_test (n == 3) (λ e. rw e (let never : most < 3 → int32 x ≡ pos 0 = λ lt. absurd (omega (arith, eqb-true n 3 e, lt, le)) in assumption (c, never))) λ e3.
    rw e3 tt
status_made most s n (Eight bs) le c = tt
status_made most s n (Bytes bs) le c =
    by_test (n == 2) (λ e. rw e (read_made (StatusDefaults most) (utf8 bs) (λ text. record s { message = text }) (λ text. let never : most < 2 → text ≡ [] = λ lt. absurd (omega (arith, eqb-true n 2 e, lt, le)) in assumption (c, never)))) λ e2.
    rw e2 tt
status_made most s n (Four bs) le c = tt
status_made most s n (Group bs) le c = tt

status_leaves : (room most : ℕ) (s : StatusData) (field : Entry) (spelled : List ℕ) → field.number ≤ most → StatusDefaults most s → IfOk (status_step room s field spelled) (StatusDefaults most)
status_leaves room most s field spelled le c = kept_made (StatusDefaults most) (status_known s field.number field.value) (keep_status s spelled) (status_made most s field.number field.value le c) (assumption c)

status_default_known : (most : ℕ) (s : StatusData) (n : ℕ) (d : Datum) (kept : StatusData) → status_default_at n d ≡ true → most < n → StatusDefaults most s → unwrap_or (status_known s n d) (Ok kept) ≡ Ok s
status_default_known most s n (Varint x) kept is lt c =
    let zero : x ≡ 0 = grind (arith, nat_tests) in
    by_test (n == 3) (λ e. rw e (ap (λ (z : ℤ). Ok (record s { code = z })) (ap int32 zero ∙ sym (c.code (omega (arith, eqb-true n 3 e, lt)))))) λ e3.
    absurd (let never : false ≡ true = rw e3 at is in cc)
status_default_known most s n (Eight bs) kept is lt c = absurd (cc)
status_default_known most s n (Bytes bs) kept is lt c =
    let short : length bs ≡ 0 = grind (arith, nat_tests) in
    let none : bs ≡ [] = nothing bs short in
    by_test (n == 2) (λ e. rw e (empty_read bs (λ text. record s { message = text }) none ∙ ap (λ (b : List ℕ). Ok (record s { message = b })) (sym (c.message (omega (arith, eqb-true n 2 e, lt)))))) λ e2.
    absurd (let never : false ≡ true = rw e2 at is in cc)
status_default_known most s n (Four bs) kept is lt c = absurd (cc)
status_default_known most s n (Group bs) kept is lt c = absurd (cc)

status_same : (room most : ℕ) (s : StatusData) (field : Entry) (spelled : List ℕ) → status_default field ≡ true → most < field.number → StatusDefaults most s → status_step room s field spelled ≡ Ok s
status_same room most s field spelled is lt c = status_default_known most s field.number field.value (keep_status s spelled) is lt c

pub status_laws : DefaultLaws status_step no_status status_default StatusDefaults
status_laws = record { first = status_first; fewer = status_fewer; leaves = status_leaves; same = status_same }

-- ---- an event

event_first : EventDefaults 0 no_event
event_first = record { time_unix_nano = λ lt. refl; name = λ lt. refl; dropped_attributes_count = λ lt. refl }

event_fewer : (low high : ℕ) (v : EventData) → low ≤ high → EventDefaults low v → EventDefaults high v
event_fewer low high v le c = record {
  time_unix_nano = λ lt. c.time_unix_nano (omega (arith, lt, le));
  name = λ lt. c.name (omega (arith, lt, le));
  dropped_attributes_count = λ lt. c.dropped_attributes_count (omega (arith, lt, le));
}

event_made : (room most : ℕ) (v : EventData) (n : ℕ) (d : Datum) → n ≤ most → EventDefaults most v → Made (EventDefaults most) (event_known room v n d)
event_made room most v n (Varint x) le c =
    by_test (n == 4) (λ e. rw e (let never : most < 4 → uint32 x ≡ 0 = λ lt. absurd (omega (arith, eqb-true n 4 e, lt, le)) in assumption (c, never))) λ e4.
    rw e4 tt
event_made room most v n (Eight bs) le c =
    by_test (n == 1) (λ e. rw e (let never : most < 1 → fixed64 bs ≡ 0 = λ lt. absurd (omega (arith, eqb-true n 1 e, lt, le)) in assumption (c, never))) λ e1.
    rw e1 tt
event_made room most v n (Bytes bs) le c =
    by_test (n == 2) (λ e. rw e (read_made (EventDefaults most) (utf8 bs) (λ text. record v { name = text }) (λ text. let never : most < 2 → text ≡ [] = λ lt. absurd (omega (arith, eqb-true n 2 e, lt, le)) in assumption (c, never)))) λ e2.
    by_test (n == 3) (λ e. rw (e2, e) (read_made (EventDefaults most) (with_another v.attributes (read_with key_value_step room no_key_value bs)) (λ ps. record v { attributes = ps }) (λ ps. assumption c))) λ e3.
    rw (e2, e3) tt
event_made room most v n (Four bs) le c = tt
event_made room most v n (Group bs) le c = tt

event_leaves : (room most : ℕ) (v : EventData) (field : Entry) (spelled : List ℕ) → field.number ≤ most → EventDefaults most v → IfOk (event_step room v field spelled) (EventDefaults most)
event_leaves room most v field spelled le c = kept_made (EventDefaults most) (event_known room v field.number field.value) (keep_event v spelled) (event_made room most v field.number field.value le c) (assumption c)

event_default_known : (room most : ℕ) (v : EventData) (n : ℕ) (d : Datum) (kept : EventData) → event_default_at n d ≡ true → most < n → EventDefaults most v → unwrap_or (event_known room v n d) (Ok kept) ≡ Ok v
event_default_known room most v n (Varint x) kept is lt c =
    let zero : x ≡ 0 = grind (arith, nat_tests) in
    by_test (n == 4) (λ e. rw e (ap (λ (z : ℕ). Ok (record v { dropped_attributes_count = z })) (ap uint32 zero ∙ sym (c.dropped_attributes_count (omega (arith, eqb-true n 4 e, lt)))))) λ e4.
    absurd (let never : false ≡ true = rw e4 at is in cc)
event_default_known room most v n (Eight bs) kept is lt c =
    by_test (n == 1) (λ e. rw e (let zero : fixed64 bs ≡ 0 = eqb-true (fixed64 bs) 0 (rw e at is) in ap (λ (z : ℕ). Ok (record v { time_unix_nano = z })) (zero ∙ sym (c.time_unix_nano (omega (arith, eqb-true n 1 e, lt)))))) λ e1.
    absurd (let never : false ≡ true = rw e1 at is in cc)
event_default_known room most v n (Bytes bs) kept is lt c =
    let short : length bs ≡ 0 = grind (arith, nat_tests) in
    let none : bs ≡ [] = nothing bs short in
    by_test (n == 2) (λ e. rw e (empty_read bs (λ text. record v { name = text }) none ∙ ap (λ (b : List ℕ). Ok (record v { name = b })) (sym (c.name (omega (arith, eqb-true n 2 e, lt)))))) λ e2.
    absurd (let never : false ≡ true = rw e2 at is in cc)
event_default_known room most v n (Four bs) kept is lt c = absurd (cc)
event_default_known room most v n (Group bs) kept is lt c = absurd (cc)

event_same : (room most : ℕ) (v : EventData) (field : Entry) (spelled : List ℕ) → event_default field ≡ true → most < field.number → EventDefaults most v → event_step room v field spelled ≡ Ok v
event_same room most v field spelled is lt c = event_default_known room most v field.number field.value (keep_event v spelled) is lt c

pub event_laws : DefaultLaws event_step no_event event_default EventDefaults
event_laws = record { first = event_first; fewer = event_fewer; leaves = event_leaves; same = event_same }

-- ---- a link

link_first : LinkDefaults 0 no_link
link_first = record { trace_id = λ lt. refl; span_id = λ lt. refl; trace_state = λ lt. refl; dropped_attributes_count = λ lt. refl; flags = λ lt. refl }

link_fewer : (low high : ℕ) (l : LinkData) → low ≤ high → LinkDefaults low l → LinkDefaults high l
link_fewer low high l le c = record {
  trace_id = λ lt. c.trace_id (omega (arith, lt, le));
  span_id = λ lt. c.span_id (omega (arith, lt, le));
  trace_state = λ lt. c.trace_state (omega (arith, lt, le));
  dropped_attributes_count = λ lt. c.dropped_attributes_count (omega (arith, lt, le));
  flags = λ lt. c.flags (omega (arith, lt, le));
}

link_made : (room most : ℕ) (l : LinkData) (n : ℕ) (d : Datum) → n ≤ most → LinkDefaults most l → Made (LinkDefaults most) (link_known room l n d)
link_made room most l n (Varint x) le c =
    by_test (n == 5) (λ e. rw e (let never : most < 5 → uint32 x ≡ 0 = λ lt. absurd (omega (arith, eqb-true n 5 e, lt, le)) in assumption (c, never))) λ e5.
    rw e5 tt
link_made room most l n (Eight bs) le c = tt
link_made room most l n (Bytes bs) le c =
    by_test (n == 1) (λ e. rw e (let never : most < 1 → bs ≡ [] = λ lt. absurd (omega (arith, eqb-true n 1 e, lt, le)) in assumption (c, never))) λ e1.
    by_test (n == 2) (λ e. rw (e1, e) (let never : most < 2 → bs ≡ [] = λ lt. absurd (omega (arith, eqb-true n 2 e, lt, le)) in assumption (c, never))) λ e2.
    by_test (n == 3) (λ e. rw (e1, e2, e) (read_made (LinkDefaults most) (utf8 bs) (λ text. record l { trace_state = text }) (λ text. let never : most < 3 → text ≡ [] = λ lt. absurd (omega (arith, eqb-true n 3 e, lt, le)) in assumption (c, never)))) λ e3.
    by_test (n == 4) (λ e. rw (e1, e2, e3, e) (read_made (LinkDefaults most) (with_another l.attributes (read_with key_value_step room no_key_value bs)) (λ ps. record l { attributes = ps }) (λ ps. assumption c))) λ e4.
    rw (e1, e2, e3, e4) tt
link_made room most l n (Four bs) le c =
    by_test (n == 6) (λ e. rw e (let never : most < 6 → fixed32 bs ≡ 0 = λ lt. absurd (omega (arith, eqb-true n 6 e, lt, le)) in assumption (c, never))) λ e6.
    rw e6 tt
link_made room most l n (Group bs) le c = tt

link_leaves : (room most : ℕ) (l : LinkData) (field : Entry) (spelled : List ℕ) → field.number ≤ most → LinkDefaults most l → IfOk (link_step room l field spelled) (LinkDefaults most)
link_leaves room most l field spelled le c = kept_made (LinkDefaults most) (link_known room l field.number field.value) (keep_link l spelled) (link_made room most l field.number field.value le c) (assumption c)

link_default_known : (room most : ℕ) (l : LinkData) (n : ℕ) (d : Datum) (kept : LinkData) → link_default_at n d ≡ true → most < n → LinkDefaults most l → unwrap_or (link_known room l n d) (Ok kept) ≡ Ok l
link_default_known room most l n (Varint x) kept is lt c =
    let zero : x ≡ 0 = grind (arith, nat_tests) in
    by_test (n == 5) (λ e. rw e (ap (λ (z : ℕ). Ok (record l { dropped_attributes_count = z })) (ap uint32 zero ∙ sym (c.dropped_attributes_count (omega (arith, eqb-true n 5 e, lt)))))) λ e5.
    absurd (let never : false ≡ true = rw e5 at is in cc)
link_default_known room most l n (Eight bs) kept is lt c = absurd (cc)
link_default_known room most l n (Bytes bs) kept is lt c =
    let short : length bs ≡ 0 = grind (arith, nat_tests) in
    let none : bs ≡ [] = nothing bs short in
    by_test (n == 1) (λ e. rw e (ap (λ (b : List ℕ). Ok (record l { trace_id = b })) (none ∙ sym (c.trace_id (omega (arith, eqb-true n 1 e, lt)))))) λ e1.
    by_test (n == 2) (λ e. rw (e1, e) (ap (λ (b : List ℕ). Ok (record l { span_id = b })) (none ∙ sym (c.span_id (omega (arith, eqb-true n 2 e, lt)))))) λ e2.
    by_test (n == 3) (λ e. rw (e1, e2, e) (empty_read bs (λ text. record l { trace_state = text }) none ∙ ap (λ (b : List ℕ). Ok (record l { trace_state = b })) (sym (c.trace_state (omega (arith, eqb-true n 3 e, lt)))))) λ e3.
    absurd (let never : false ≡ true = rw (e1, e2, e3) at is in cc)
link_default_known room most l n (Four bs) kept is lt c =
    by_test (n == 6) (λ e. rw e (let zero : fixed32 bs ≡ 0 = eqb-true (fixed32 bs) 0 (rw e at is) in ap (λ (z : ℕ). Ok (record l { flags = z })) (zero ∙ sym (c.flags (omega (arith, eqb-true n 6 e, lt)))))) λ e6.
    absurd (let never : false ≡ true = rw e6 at is in cc)
link_default_known room most l n (Group bs) kept is lt c = absurd (cc)

link_same : (room most : ℕ) (l : LinkData) (field : Entry) (spelled : List ℕ) → link_default field ≡ true → most < field.number → LinkDefaults most l → link_step room l field spelled ≡ Ok l
link_same room most l field spelled is lt c = link_default_known room most l field.number field.value (keep_link l spelled) is lt c

pub link_laws : DefaultLaws link_step no_link link_default LinkDefaults
link_laws = record { first = link_first; fewer = link_fewer; leaves = link_leaves; same = link_same }
