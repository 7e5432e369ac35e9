-- Two fields of a span that stand at different places can change places.
use Rattle.std.proofs.Common.{◌≡◌, ◌==◌, ℕ, Bool, true, false, not, cond, List, Some, unwrap_or, Result, Ok, Err, refl, sym, ap, subst, ◌∙◌}
use Rattle.std.proofs.lemmas.Bool.{eqb-true}
use Rattle.pb_wire.specs.Grammar.{Datum, Varint, Eight, Bytes, Four, Group, Entry}
use Rattle.otlp_trace.specs.Data.{SpanData}
use Rattle.otlp_read.specs.declared.fault.ReadFault.{ReadFault}
use Rattle.otlp_read.specs.AnyValue.{no_key_value, key_value_step}
use Rattle.otlp_read.specs.Numbers.{utf8}
use Rattle.otlp_trace.specs.Defaults.{no_event, no_link, no_status}
use Rattle.otlp_read.specs.Value.{keep_span, span_known, span_step, event_step, link_step, status_step}
use Rattle.otlp_read.specs.Walk.{◌>>=◌, read_with, with_another}
use Rattle.otlp_read.proofs.Sound.{by_test}
use Rattle.otlp_canonical.specs.Order.{place_at, place_of}

-- what fields at the chosen places make of one span, and the others of another
abbrev pub mix : (ℕ → Bool) → SpanData → SpanData → SpanData
mix c a b = record {
  trace_id = cond (c 1) a.trace_id b.trace_id;
  span_id = cond (c 2) a.span_id b.span_id;
  trace_state = cond (c 3) a.trace_state b.trace_state;
  parent_span_id = cond (c 4) a.parent_span_id b.parent_span_id;
  name = cond (c 5) a.name b.name;
  kind = cond (c 6) a.kind b.kind;
  start_time_unix_nano = cond (c 7) a.start_time_unix_nano b.start_time_unix_nano;
  end_time_unix_nano = cond (c 8) a.end_time_unix_nano b.end_time_unix_nano;
  attributes = cond (c 9) a.attributes b.attributes;
  dropped_attributes_count = cond (c 10) a.dropped_attributes_count b.dropped_attributes_count;
  events = cond (c 11) a.events b.events;
  dropped_events_count = cond (c 12) a.dropped_events_count b.dropped_events_count;
  links = cond (c 13) a.links b.links;
  dropped_links_count = cond (c 14) a.dropped_links_count b.dropped_links_count;
  status = cond (c 15) a.status b.status;
  flags = cond (c 16) a.flags b.flags;
  unknown = cond (c 17) a.unknown b.unknown;
}

cond_same : {A : Type 0} (v : Bool) (x : A) → cond v x x ≡ x
cond_same true x = refl
cond_same false x = refl

cond_over : {A : Type 0} (v : Bool) (x y z : A) → cond v x (cond v y z) ≡ cond v x z
cond_over true x y z = refl
cond_over false x y z = refl

cond_not : {A : Type 0} (v : Bool) (x y : A) → cond (not v) x y ≡ cond v y x
cond_not true x y = refl
cond_not false x y = refl

mix_same : (c : ℕ → Bool) (s : SpanData) → mix c s s ≡ s
mix_same c s = simp cond_same

mix_over : (c : ℕ → Bool) (s a b : SpanData) → mix c s (mix c a b) ≡ mix c s b
mix_over c s a b = simp cond_over

mix_not : (c : ℕ → Bool) (a b : SpanData) → mix (λ n. not (c n)) a b ≡ mix c b a
mix_not c a b = simp cond_not

-- ---- a field at a chosen place

through : {B : Type 0} (r : Result B ReadFault) (put over : B → SpanData) (mixing : SpanData → SpanData) → ((x : B) → over x ≡ mixing (put x))
    → (r >>= λ x. Ok (over x)) ≡ ((r >>= λ x. Ok (put x)) >>= λ a. Ok (mixing a))
through (Ok x) put over mixing same = ap (λ (s : SpanData). Ok s) (same x)
through (Err f) put over mixing same = refl

-- the place is chosen
chosen : (c : ℕ → Bool) (n k : ℕ) → (n == k) ≡ true → c n ≡ true → c k ≡ true
chosen c n k same is = subst (λ (m : ℕ). c m ≡ true) (eqb-true n k same) is

-- what the field makes of the mixed span
abbrev Mixed : ℕ → (ℕ → Bool) → SpanData → SpanData → ℕ → Datum → List ℕ → Type 0
Mixed room c s b n v spelled =
    unwrap_or (span_known room (mix c s b) n v) (Ok (keep_span (mix c s b) spelled)) ≡ (unwrap_or (span_known room s n v) (Ok (keep_span s spelled)) >>= λ a. Ok (mix c a b))

mixed_at : (room : ℕ) (c : ℕ → Bool) (s b : SpanData) (n : ℕ) (v : Datum) (spelled : List ℕ) → c (place_at n v) ≡ true → Mixed room c s b n v spelled
mixed_at room c s b n (Varint x) spelled is =
    by_test (n == 6) (λ e. rw (e, chosen c n 6 e (rw e at is)) refl) λ e6.
    by_test (n == 10) (λ e. rw (e6, e, chosen c n 10 e (rw (e6, e) at is)) refl) λ e10.
    by_test (n == 12) (λ e. rw (e6, e10, e, chosen c n 12 e (rw (e6, e10, e) at is)) refl) λ e12.
    by_test (n == 14) (λ e. rw (e6, e10, e12, e, chosen c n 14 e (rw (e6, e10, e12, e) at is)) refl) λ e14.
    let last : c 17 ≡ true = rw (e6, e10, e12, e14) at is in
    rw (e6, e10, e12, e14, last) refl
mixed_at room c s b n (Eight bs) spelled is =
    by_test (n == 7) (λ e. rw (e, chosen c n 7 e (rw e at is)) refl) λ e7.
    by_test (n == 8) (λ e. rw (e7, e, chosen c n 8 e (rw (e7, e) at is)) refl) λ e8.
    let last : c 17 ≡ true = rw (e7, e8) at is in
    rw (e7, e8, last) refl
mixed_at room c s b n (Four bs) spelled is =
    by_test (n == 16) (λ e. rw (e, chosen c n 16 e (rw e at is)) refl) λ e16.
    let last : c 17 ≡ true = rw e16 at is in
    rw (e16, last) refl
mixed_at room c s b n (Bytes bs) spelled is =
    by_test (n == 1) (λ e. rw (e, chosen c n 1 e (rw e at is)) refl) λ e1.
    by_test (n == 2) (λ e. rw (e1, e, chosen c n 2 e (rw (e1, e) at is)) refl) λ e2.
    by_test (n == 3) (λ e. rw (e1, e2, e, chosen c n 3 e (rw (e1, e2, e) at is)) (through (utf8 bs) (λ text. record s { trace_state = text }) _ _ (λ text. refl))) λ e3.
    by_test (n == 4) (λ e. rw (e1, e2, e3, e, chosen c n 4 e (rw (e1, e2, e3, e) at is)) refl) λ e4.
    by_test (n == 5) (λ e. rw (e1, e2, e3, e4, e, chosen c n 5 e (rw (e1, e2, e3, e4, e) at is)) (through (utf8 bs) (λ text. record s { name = text }) _ _ (λ text. refl))) λ e5.
    by_test (n == 9) (λ e.
    let one : c 9 ≡ true = chosen c n 9 e (rw (e1, e2, e3, e4, e5, e) at is) in
    rw (e1, e2, e3, e4, e5, e, one) (through (with_another s.attributes (read_with key_value_step room no_key_value bs)) (λ l. record s { attributes = l }) _ _ (λ l. refl))) λ e9.
    by_test (n == 11) (λ e.
    let one : c 11 ≡ true = chosen c n 11 e (rw (e1, e2, e3, e4, e5, e9, e) at is) in
    rw (e1, e2, e3, e4, e5, e9, e, one) (through (with_another s.events (read_with event_step room no_event bs)) (λ l. record s { events = l }) _ _ (λ l. refl))) λ e11.
    by_test (n == 13) (λ e.
    let one : c 13 ≡ true = chosen c n 13 e (rw (e1, e2, e3, e4, e5, e9, e11, e) at is) in
    rw (e1, e2, e3, e4, e5, e9, e11, e, one) (through (with_another s.links (read_with link_step room no_link bs)) (λ l. record s { links = l }) _ _ (λ l. refl))) λ e13.
    by_test (n == 15) (λ e.
    let one : c 15 ≡ true = chosen c n 15 e (rw (e1, e2, e3, e4, e5, e9, e11, e13, e) at is) in
    rw (e1, e2, e3, e4, e5, e9, e11, e13, e, one) (through (read_with status_step room (unwrap_or s.status no_status) bs) (λ x. record s { status = Some x }) _ _ (λ x. refl))) λ e15.
    let last : c 17 ≡ true = rw (e1, e2, e3, e4, e5, e9, e11, e13, e15) at is in
    rw (e1, e2, e3, e4, e5, e9, e11, e13, e15, last) refl
mixed_at room c s b n (Group bs) spelled is = rw is refl

pub mixed : (room : ℕ) (c : ℕ → Bool) (s b : SpanData) (e : Entry) (spelled : List ℕ) → c (place_of e) ≡ true → span_step room (mix c s b) e spelled ≡ (span_step room s e spelled >>= λ a. Ok (mix c a b))
mixed room c s b e spelled is = mixed_at room c s b e.number e.value spelled is

-- where it can be taken
taken : (room : ℕ) (c : ℕ → Bool) (s a b : SpanData) (e : Entry) (spelled : List ℕ) → c (place_of e) ≡ true → span_step room s e spelled ≡ Ok a → span_step room (mix c s b) e spelled ≡ Ok (mix c a b)
taken room c s a b e spelled is made = mixed room c s b e spelled is ∙ ap (λ (r : Result SpanData ReadFault). r >>= λ x. Ok (mix c x b)) made

-- it changes nothing at other places
stays : (room : ℕ) (c : ℕ → Bool) (s a : SpanData) (e : Entry) (spelled : List ℕ) → c (place_of e) ≡ true → span_step room s e spelled ≡ Ok a → mix c a s ≡ a
stays room c s a e spelled is made =
    let again : span_step room (mix c s s) e spelled ≡ Ok (mix c a s) = taken room c s a s e spelled is made in
    let same : ◌≡◌ {A = Result SpanData ReadFault} (Ok (mix c a s)) (Ok a) = sym again ∙ ap (λ (x : SpanData). span_step room x e spelled) (mix_same c s) ∙ made in
    ok_is (mix c a s) a same
  where
    ok_is : (x y : SpanData) → ◌≡◌ {A = Result SpanData ReadFault} (Ok x) (Ok y) → x ≡ y
    ok_is x y e = cc

-- What two fields make, the first of them at a chosen place and the second not, they make in the other order too.
pub swapped : (room : ℕ) (c : ℕ → Bool) (s a b : SpanData) (d e : Entry) (first second : List ℕ) → c (place_of d) ≡ true → c (place_of e) ≡ false
    → span_step room s d first ≡ Ok a → span_step room a e second ≡ Ok b → (t : SpanData) × (span_step room s e second ≡ Ok t) × (span_step room t d first ≡ Ok b)
swapped room c s a b d e first second in_c not_c one other =
    let not_in : not (c (place_of e)) ≡ true = ap not not_c in
    let before : mix (λ n. not (c n)) a s ≡ s = mix_not c a s ∙ ap (mix c s) (sym (stays room c s a d first in_c one)) ∙ mix_over c s a s ∙ mix_same c s in
    let behind : mix c a b ≡ b = sym (mix_not c b a) ∙ stays room (λ n. not (c n)) a b e second not_in other in (
      mix (λ n. not (c n)) b s,
      ap (λ (x : SpanData). span_step room x e second) (sym before) ∙ taken room (λ n. not (c n)) a b s e second not_in other,
      ap (λ (x : SpanData). span_step room x d first) (mix_not c b s) ∙ taken room c s a b d first in_c one ∙ ap (λ (x : SpanData). Ok x) behind,
    )
