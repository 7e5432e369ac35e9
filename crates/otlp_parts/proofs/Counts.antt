-- A body has no more spans than bytes.
use Rattle.std.proofs.Common.{◌≡◌, ℕ, suc, ◌+◌, ◌-◌, ◌≤◌, ◌<◌, ◌==◌, Bool, true, false, not, cond, if◌then◌else◌, List, [], ◌∷◌, ◌++◌, length, Some, None, Result, Ok, refl, sym, ap, subst, ◌∙◌, arith, length-append}
use Rattle.std.specs.Prelude.{unwrap_or}
use Rattle.std.specs.List.{sum_by}
use Rattle.std.proofs.lemmas.List.Sums.{sum_by-append, count_by-le-length}
use Rattle.pb_wire.specs.Grammar.{Datum, Varint, Eight, Bytes, Four, Group, Entry, Spells, last_byte, more_bytes, IsField, varint_field, eight_field, bytes_field, four_field, group_field}
use Rattle.otlp_trace.specs.Data.{SpanData, ScopeSpansData, ResourceSpansData, RequestData}
use Rattle.otlp_read.specs.declared.fault.ReadFault.{ReadFault}
use Rattle.otlp_read.specs.Numbers.{utf8}
use Rattle.otlp_trace.specs.Defaults.{no_scope_spans, no_resource_spans, no_request}
use Rattle.otlp_read.specs.Value.{scope_spans_step, resource_spans_step, request_step, IsValue, merged_scope, merged_resource}
use Rattle.otlp_read.specs.Walk.{◌>>=◌, Step, Piece, Pieces, no_pieces, more_pieces, fold_fields, with_another, read_with}
use Rattle.otlp_read.proofs.Laws.{bind_ok, makes}
use Rattle.otlp_read.proofs.Opened.{opened_at}
use Rattle.otlp_parts.specs.ReadAs.{span_in, scope_spans_in, resource_spans_in}
use Rattle.otlp_parts.specs.Texts.{is_valid_span, invalid_among, invalid_in_resource, invalid_in}

-- ---- a field is longer than what it holds

spells_some : {text : List ℕ} {x : ℕ} → Spells text x → 0 < length text
spells_some (last_byte {b = b} small) = omega arith
spells_some (more_bytes {b = b} {text = text} goes inner) = omega arith

holds : Datum → ℕ
holds (Bytes bs) = length bs
holds _ = 0

field_long : {d : ℕ} {front : List ℕ} {field : Entry} → IsField d front field → holds field.value < length front
unfolding holds
field_long (varint_field {tag = tag} {text = text} is v) = let some = spells_some is.spelled.spelled in let long = length-append tag text in omega arith
field_long (eight_field {tag = tag} {text = text} is long) = let some = spells_some is.spelled.spelled in let all = length-append tag text in omega arith
field_long (bytes_field {tag = tag} {size = size} {text = text} is s) =
    let some = spells_some is.spelled.spelled in let all = length-append tag (size ++ text) in let rest = length-append size text in omega arith
field_long (four_field {tag = tag} {text = text} is long) = let some = spells_some is.spelled.spelled in let all = length-append tag text in omega arith
field_long (group_field {tag = tag} {text = text} {end = end} deep is _ close) = let some = spells_some is.spelled.spelled in let all = length-append tag (text ++ end) in omega arith

-- ---- what grows by no more than a field's length with each field

Grows : {A : Type 0} → Step A → (A → ℕ) → Type 0
Grows {A} step m = (a b : A) (n : ℕ) (v : Datum) (spelled : List ℕ) → holds v < length spelled → step a (record { number = n; value = v }) spelled ≡ Ok b → m b ≤ m a + length spelled

folded : {A : Type 0} (step : Step A) (m : A → ℕ) {d : ℕ} {text : List ℕ} {pieces : List Piece} → Grows step m → Pieces d text pieces → (a b : A) → fold_fields step a pieces ≡ Ok b → m b ≤ m a + length text
unfolding Grows
folded step m grows (no_pieces {d = d}) a b made =
    let same : a ≡ b = cc in let e = ap m same in omega arith
folded step m grows (more_pieces {d = d} {front = front} {rest = rest} {field = field} {pieces = pieces} first inner) a b made =
    let one = bind_ok (step a field front) (λ c. fold_fields step c pieces) b made in
    let here : m one.0 ≤ m a + length front = grows a one.0 field.number field.value front (field_long first) one.1 in
    let there : m b ≤ m one.0 + length rest = folded step m grows inner one.0 b one.2 in
    let all = length-append front rest in
    omega arith

read_grows : {A : Type 0} (step : ℕ → Step A) (m : A → ℕ) (room : ℕ) (a b : A) (bytes : List ℕ) → Grows (step room) m → read_with step (suc room) a bytes ≡ Ok b → m b ≤ m a + length bytes
read_grows step m room a b bytes grows read =
    let is = makes (step room) (100 - room) a b bytes (sym (opened_at step room a bytes) ∙ read) in
    folded (step room) m grows is.are a b is.made

-- by a field's number
by_number : {A : Type 0} (P : A → Type 0) (one two three : Bool) (r s t : Result A ReadFault) (a b : A) → ((x : A) → r ≡ Ok x → P x) → ((x : A) → s ≡ Ok x → P x) → ((x : A) → t ≡ Ok x → P x) → P a
    → unwrap_or (if one then Some r else if two then Some s else if three then Some t else None) (Ok a) ≡ Ok b → P b
by_number P true two three r s t a b first second third none is = first b is
by_number P false true three r s t a b first second third none is = second b is
by_number P false false true r s t a b first second third none is = third b is
by_number P false false false r s t a b first second third none is = let same : a ≡ b = cc in subst P same none

by_one : {A : Type 0} (P : A → Type 0) (one : Bool) (r : Result A ReadFault) (a b : A) → ((x : A) → r ≡ Ok x → P x) → P a → unwrap_or (if one then Some r else None) (Ok a) ≡ Ok b → P b
by_one P true r a b first none is = first b is
by_one P false r a b first none is = let same : a ≡ b = cc in subst P same none

-- what is made of a value without what is counted
kept_on : {X A : Type 0} (m : A → ℕ) (r : Result X ReadFault) (f : X → A) (k : ℕ) (x : A) → ((y : X) → m (f y) ≡ k) → (r >>= λ y. Ok (f y)) ≡ Ok x → m x ≡ k
kept_on m r f k x same is =
    let one = bind_ok r (λ y. Ok (f y)) x is in
    let made : f one.0 ≡ x = cc (one.2) in
    sym (ap m made) ∙ same one.0

-- what is made of a list with one more
pushed_on : {X A : Type 0} (r : Result X ReadFault) (xs : List X) (f : List X → A) (x : A) → (with_another xs r >>= λ l. Ok (f l)) ≡ Ok x → (y : X) × (r ≡ Ok y) × (f (xs ++ y ∷ []) ≡ x)
pushed_on r xs f x is =
    let outer = bind_ok (with_another xs r) (λ l. Ok (f l)) x is in
    let inner = bind_ok r (λ y. Ok (xs ++ y ∷ [])) outer.0 outer.1 in
    let list : xs ++ inner.0 ∷ [] ≡ outer.0 = cc (inner.2) in
    let made : f outer.0 ≡ x = cc (outer.2) in
    (inner.0, inner.1, ap f list ∙ made)

-- ---- a scope spans

scope_count : ScopeSpansData → ℕ
scope_count s = invalid_among s.spans

span_more : (xs : List SpanData) (x : SpanData) → invalid_among (xs ++ x ∷ []) ≤ invalid_among xs + 1
span_more xs x =
    let more : invalid_among (xs ++ x ∷ []) ≡ invalid_among xs + invalid_among (x ∷ []) = sum_by-append (λ s. cond (not (is_valid_span s)) 1 0) xs (x ∷ []) in
    let least : invalid_among (x ∷ []) ≤ 1 = count_by-le-length (λ s. not (is_valid_span s)) (x ∷ []) in
    omega arith

scope_grows : Grows (scope_spans_step 98) scope_count
unfolding Grows holds scope_count
scope_grows a b n (Varint x) spelled long is = let same : a ≡ b = cc in let e = ap scope_count same in omega arith
scope_grows a b n (Eight bs) spelled long is = let same : a ≡ b = cc in let e = ap scope_count same in omega arith
scope_grows a b n (Bytes bs) spelled long is =
    by_number (λ (s : ScopeSpansData). invalid_among s.spans ≤ invalid_among a.spans + length spelled) (n == 1) (n == 2) (n == 3) _ _ _ a b
    (λ x e. let same = kept_on scope_count (merged_scope 98 a.scope bs) (λ y. record a { scope = Some y }) (invalid_among a.spans) x (λ y. refl) e in omega arith)
    (λ x e. let one = pushed_on (span_in bs) a.spans (λ l. record a { spans = l }) x e in let same = ap scope_count one.2 in let more = span_more a.spans one.0 in omega arith)
    (λ x e. let same = kept_on scope_count (utf8 bs) (λ y. record a { schema_url = y }) (invalid_among a.spans) x (λ y. refl) e in omega arith)
    (omega arith) is
scope_grows a b n (Four bs) spelled long is = let same : a ≡ b = cc in let e = ap scope_count same in omega arith
scope_grows a b n (Group bs) spelled long is = let same : a ≡ b = cc in let e = ap scope_count same in omega arith

scope_within : (bytes : List ℕ) (s : ScopeSpansData) → scope_spans_in bytes ≡ Ok s → invalid_among s.spans ≤ length bytes
unfolding scope_count
scope_within bytes s read = let all : invalid_among s.spans ≤ 0 + length bytes = read_grows scope_spans_step scope_count 98 no_scope_spans s bytes scope_grows read in omega arith

-- ---- a resource spans

resource_grows : Grows (resource_spans_step 99) invalid_in_resource
unfolding Grows holds
resource_grows a b n (Varint x) spelled long is = let same : a ≡ b = cc in let e = ap invalid_in_resource same in omega arith
resource_grows a b n (Eight bs) spelled long is = let same : a ≡ b = cc in let e = ap invalid_in_resource same in omega arith
resource_grows a b n (Bytes bs) spelled long is =
    by_number (λ (r : ResourceSpansData). invalid_in_resource r ≤ invalid_in_resource a + length spelled) (n == 1) (n == 2) (n == 3) _ _ _ a b
    (λ x e. let same = kept_on invalid_in_resource (merged_resource 99 a.resource bs) (λ y. record a { resource = Some y }) (invalid_in_resource a) x (λ y. refl) e in omega arith)
    (λ x e.
    let one = pushed_on (scope_spans_in bs) a.scope_spans (λ l. record a { scope_spans = l }) x e in
    let same = ap invalid_in_resource one.2 in
    let more : sum_by (λ (s : ScopeSpansData). invalid_among s.spans) (a.scope_spans ++ one.0 ∷ []) ≡ invalid_in_resource a + (0 + invalid_among one.0.spans) = sum_by-append (λ (s : ScopeSpansData). invalid_among s.spans) a.scope_spans (one.0 ∷ []) in
    let within = scope_within bs one.0 one.1 in
    omega arith)
    (λ x e. let same = kept_on invalid_in_resource (utf8 bs) (λ y. record a { schema_url = y }) (invalid_in_resource a) x (λ y. refl) e in omega arith)
    (omega arith) is
resource_grows a b n (Four bs) spelled long is = let same : a ≡ b = cc in let e = ap invalid_in_resource same in omega arith
resource_grows a b n (Group bs) spelled long is = let same : a ≡ b = cc in let e = ap invalid_in_resource same in omega arith

resource_within : (bytes : List ℕ) (r : ResourceSpansData) → resource_spans_in bytes ≡ Ok r → invalid_in_resource r ≤ length bytes
resource_within bytes r read = let all : invalid_in_resource r ≤ 0 + length bytes = read_grows resource_spans_step invalid_in_resource 99 no_resource_spans r bytes resource_grows read in omega arith

-- ---- a body

abbrev body_with : List ResourceSpansData → RequestData
body_with l = record { resource_spans = l }

body_grows : Grows (request_step 100) invalid_in
unfolding Grows holds
body_grows a b n (Varint x) spelled long is = let same : a ≡ b = cc in let e = ap invalid_in same in omega arith
body_grows a b n (Eight bs) spelled long is = let same : a ≡ b = cc in let e = ap invalid_in same in omega arith
body_grows a b n (Bytes bs) spelled long is =
    by_one (λ (v : RequestData). invalid_in v ≤ invalid_in a + length spelled) (n == 1) _ a b
    (λ x e.
    let one = pushed_on (resource_spans_in bs) a.resource_spans body_with x e in
    let same = ap invalid_in one.2 in
    let more : sum_by invalid_in_resource (a.resource_spans ++ one.0 ∷ []) ≡ invalid_in a + (0 + invalid_in_resource one.0) = sum_by-append invalid_in_resource a.resource_spans (one.0 ∷ []) in
    let within = resource_within bs one.0 one.1 in
    omega arith)
    (omega arith) is
body_grows a b n (Four bs) spelled long is = let same : a ≡ b = cc in let e = ap invalid_in same in omega arith
body_grows a b n (Group bs) spelled long is = let same : a ≡ b = cc in let e = ap invalid_in same in omega arith

pub body_within : (bytes : List ℕ) (v : RequestData) → IsValue bytes v → invalid_in v ≤ length bytes
body_within bytes v is = let all : invalid_in v ≤ 0 + length bytes = folded (request_step 100) invalid_in body_grows is.are no_request v is.made in omega arith
