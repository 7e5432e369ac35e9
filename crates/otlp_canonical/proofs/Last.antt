-- Of fields at a place at which the last one wins, that one makes of a span what all of them make.
use Rattle.std.proofs.Common.{◌≡◌, ◌==◌, ℕ, suc, Bool, true, false, not, cond, nat_lt, List, [], ◌∷◌, ◌++◌, unwrap_or, Result, Ok, Err, refl, sym, ap, ◌∙◌, arith}
use Rattle.std.proofs.lemmas.Bool.{eqb-true}
use Rattle.std.proofs.lemmas.Bool.Decides.{nat_tests}
use Rattle.std.specs.List.{AllByRecursion}
use Rattle.pb_wire.specs.Grammar.{Datum, Varint, Eight, Bytes, Four, Group, Entry}
use Rattle.otlp_trace.specs.Data.{SpanData}
use Rattle.otlp_trace.specs.Defaults.{no_span}
use Rattle.otlp_read.specs.declared.fault.ReadFault.{ReadFault}
use Rattle.otlp_read.specs.Numbers.{int32, uint32, fixed32, fixed64}
use Rattle.otlp_read.specs.Value.{keep_span, span_known, span_step}
use Rattle.otlp_read.specs.Walk.{◌>>=◌, Piece, fold_fields}
use Rattle.otlp_read.proofs.Leaves.{utf8_yes}
use Rattle.otlp_read.proofs.Sound.{by_test}
use Rattle.otlp_canonical.specs.Order.{place_at, place_of, last_wins, sound_text, IsSoundText, between}
use Rattle.otlp_canonical.proofs.Mixed.{mix}

-- every place but this one
abbrev but : ℕ → ℕ → Bool
but place n = not (n == place)

-- the field's value is set at its place, whatever stood there
abbrev Sets : ℕ → Datum → SpanData → Type 0
Sets n v b =
    (room : ℕ) (s : SpanData) (spelled : List ℕ) → unwrap_or (span_known room s n v) (Ok (keep_span s spelled)) ≡ Ok (mix (but (place_at n v)) s b)

set_at : (n : ℕ) (v : Datum) → last_wins (place_at n v) ≡ true → sound_text n v → (b : SpanData) × Sets n v b
set_at n (Varint x) one sound =
    by_test (n == 6) (λ e. rw (eqb-true n 6 e) (record no_span { kind = int32 x }, λ room s spelled. refl)) λ e6.
    by_test (n == 10) (λ e. rw (eqb-true n 10 e) (record no_span { dropped_attributes_count = uint32 x }, λ room s spelled. refl)) λ e10.
    by_test (n == 12) (λ e. rw (eqb-true n 12 e) (record no_span { dropped_events_count = uint32 x }, λ room s spelled. refl)) λ e12.
    by_test (n == 14) (λ e. rw (eqb-true n 14 e) (record no_span { dropped_links_count = uint32 x }, λ room s spelled. refl)) λ e14.
    absurd (let never : false ≡ true = rw (e6, e10, e12, e14) at one in cc)
set_at n (Eight bs) one sound =
    by_test (n == 7) (λ e. rw (eqb-true n 7 e) (record no_span { start_time_unix_nano = fixed64 bs }, λ room s spelled. refl)) λ e7.
    by_test (n == 8) (λ e. rw (eqb-true n 8 e) (record no_span { end_time_unix_nano = fixed64 bs }, λ room s spelled. refl)) λ e8.
    absurd (let never : false ≡ true = rw (e7, e8) at one in cc)
set_at n (Four bs) one sound =
    by_test (n == 16) (λ e. rw (eqb-true n 16 e) (record no_span { flags = fixed32 bs }, λ room s spelled. refl)) λ e16.
    absurd (let never : false ≡ true = rw e16 at one in cc)
set_at n (Bytes bs) one sound =
    by_test (n == 1) (λ e. rw (eqb-true n 1 e) (record no_span { trace_id = bs }, λ room s spelled. refl)) λ e1.
    by_test (n == 2) (λ e. rw (eqb-true n 2 e) (record no_span { span_id = bs }, λ room s spelled. refl)) λ e2.
    by_test (n == 3) (λ e. let is = utf8_yes bs (sound (rw e refl)) in rw (eqb-true n 3 e) (record no_span { trace_state = bs }, λ room s spelled. rw is refl)) λ e3.
    by_test (n == 4) (λ e. rw (eqb-true n 4 e) (record no_span { parent_span_id = bs }, λ room s spelled. refl)) λ e4.
    by_test (n == 5) (λ e. let is = utf8_yes bs (sound (rw (e3, e) refl)) in rw (eqb-true n 5 e) (record no_span { name = bs }, λ room s spelled. rw is refl)) λ e5.
    by_test (n == 9) (λ e. absurd (let never : false ≡ true = rw (eqb-true n 9 e) at one in cc)) λ e9.
    by_test (n == 11) (λ e. absurd (let never : false ≡ true = rw (eqb-true n 11 e) at one in cc)) λ e11.
    by_test (n == 13) (λ e. absurd (let never : false ≡ true = rw (eqb-true n 13 e) at one in cc)) λ e13.
    by_test (n == 15) (λ e. absurd (let never : false ≡ true = rw (eqb-true n 15 e) at one in cc)) λ e15.
    absurd (let never : false ≡ true = rw (e1, e2, e3, e4, e5, e9, e11, e13, e15) at one in cc)
set_at n (Group bs) one sound = absurd (let never : false ≡ true = one in cc)

cond_twice : {A : Type 0} (v : Bool) (x y z : A) → cond v (cond v x y) z ≡ cond v x z
cond_twice true x y z = refl
cond_twice false x y z = refl

mix_twice : (c : ℕ → Bool) (s a b : SpanData) → mix c (mix c s a) b ≡ mix c s b
mix_twice c s a b = simp cond_twice

-- a field, and then another at its place, make what the second makes
later_wins : (room place : ℕ) (s : SpanData) (d e : Entry) (first second : List ℕ) → last_wins place ≡ true → place_of d ≡ place → place_of e ≡ place → IsSoundText d → IsSoundText e
    → (span_step room s d first >>= λ a. span_step room a e second) ≡ span_step room s e second
later_wins room place s d e first second one d_at e_at d_sound e_sound =
    let d_one : last_wins (place_of d) ≡ true = ap last_wins d_at ∙ one in
    let e_one : last_wins (place_of e) ≡ true = ap last_wins e_at ∙ one in
    let p = set_at d.number d.value d_one d_sound in
    let q = set_at e.number e.value e_one e_sound in
    let same : mix (but (place_of d)) s p.0 ≡ mix (but place) s p.0 = ap (λ (n : ℕ). mix (but n) s p.0) d_at in
    let set : span_step room s d first ≡ Ok (mix (but place) s p.0) = p.1 room s first ∙ ap (λ (x : SpanData). Ok x) same in
    let again : span_step room (mix (but place) s p.0) e second ≡ Ok (mix (but place) s q.0) =
    q.1 room (mix (but place) s p.0) second ∙ ap (λ (n : ℕ). Ok (mix (but n) (mix (but place) s p.0) q.0)) e_at ∙ ap (λ (x : SpanData). Ok x) (mix_twice (but place) s p.0 q.0) in
    let alone : span_step room s e second ≡ Ok (mix (but place) s q.0) = q.1 room s second ∙ ap (λ (n : ℕ). Ok (mix (but n) s q.0)) e_at in
    ap (λ (r : Result SpanData ReadFault). r >>= λ a. span_step room a e second) set ∙ again ∙ sym alone

-- the first of them can be left out
dropped : (room place : ℕ) (s : SpanData) (d e : Entry) (first second : List ℕ) (rest : List Piece) → last_wins place ≡ true → place_of d ≡ place → place_of e ≡ place → IsSoundText d → IsSoundText e
    → fold_fields (span_step room) s (record { field = d; spelled = first } ∷ record { field = e; spelled = second } ∷ rest) ≡ fold_fields (span_step room) s (record { field = e; spelled = second } ∷ rest)
dropped room place s d e first second rest one d_at e_at d_sound e_sound =
    over (span_step room s d first) ∙ ap (λ (r : Result SpanData ReadFault). r >>= λ b. fold_fields (span_step room) b rest) (later_wins room place s d e first second one d_at e_at d_sound e_sound)
  where
    over : (r : Result SpanData ReadFault) → (r >>= λ a. span_step room a e second >>= λ b. fold_fields (span_step room) b rest) ≡ ((r >>= λ a. span_step room a e second) >>= λ b. fold_fields (span_step room) b rest)
    over (Ok a) = refl
    over (Err f) = refl

only_between : (place n : ℕ) → nat_lt n place ≡ false → nat_lt n (suc place) ≡ true → n ≡ place
only_between place n late early = grind (arith, nat_tests)

-- all of them but the last
pub last_read : (room place : ℕ) (ps : List Piece) (e : Entry) (spelled : List ℕ) (rest : List Piece) → last_wins place ≡ true → place_of e ≡ place → IsSoundText e → AllByRecursion (λ p. IsSoundText p.field) ps → (s : SpanData)
    → fold_fields (span_step room) s (between place (suc place) ps ++ record { field = e; spelled = spelled } ∷ rest) ≡ fold_fields (span_step room) s (record { field = e; spelled = spelled } ∷ rest)
last_read room place [] e spelled rest one at sound all s = refl
last_read room place (p ∷ ps) e spelled rest one at sound all s =
    by_test (nat_lt (place_of p.field) place) (λ early. rw early (last_read room place ps e spelled rest one at sound all.1 s)) λ late.
    by_test (nat_lt (place_of p.field) (suc place))
    (λ is. rw (late, is) (
    after (span_step room s p.field p.spelled) (between place (suc place) ps ++ record { field = e; spelled = spelled } ∷ rest) (record { field = e; spelled = spelled } ∷ rest) (λ a. last_read room place ps e spelled rest one at sound all.1 a)
    ∙ dropped room place s p.field e p.spelled spelled rest one (only_between place (place_of p.field) late is) at all.0 sound
    )) λ behind. rw (late, behind) (last_read room place ps e spelled rest one at sound all.1 s)
  where
    after : (r : Result SpanData ReadFault) (xs ys : List Piece) → ((a : SpanData) → fold_fields (span_step room) a xs ≡ fold_fields (span_step room) a ys) → (r >>= λ a. fold_fields (span_step room) a xs) ≡ (r >>= λ a. fold_fields (span_step room) a ys)
    after (Ok a) xs ys same = same a
    after (Err f) xs ys same = refl
