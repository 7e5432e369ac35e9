-- Reading that keeps texts gives the texts of what is read.
use Rattle.std.proofs.Common.{◌≡◌, ℕ, zero, suc, ◌+◌, ◌-◌, ◌==◌, append-nil, Bool, true, false, not, cond, if◌then◌else◌, List, [], ◌∷◌, ◌++◌, length, map, filter, Option, Some, None, Result, Ok, Err, refl, sym, ap, ◌∙◌, arith}
use Rattle.std.specs.Prelude.{unwrap_or, flat_map}
use Rattle.std.specs.List.{sum_by}
use Rattle.std.proofs.lemmas.Grind.{flat_map-append}
use Rattle.std.proofs.lemmas.List.{map-append}
use Rattle.std.proofs.lemmas.List.Elements.{filter-append}
use Rattle.std.proofs.lemmas.List.Sums.{sum_by-append}
use Rattle.pb_wire.specs.declared.field.WireFault.{WireFault}
use Rattle.pb_wire.specs.Grammar.{Datum, Varint, Eight, Bytes, Four, Group, Entry}
use Rattle.pb_wire.specs.Reading.{next_at}
use Rattle.otlp_trace.specs.Data.{SpanData, ScopeData, ResourceData, ScopeSpansData, ResourceSpansData, RequestData}
use Rattle.otlp_trace.specs.Text.{span_text}
use Rattle.otlp_read.specs.declared.fault.ReadFault.{ReadFault}
use Rattle.otlp_read.specs.Numbers.{utf8}
use Rattle.otlp_trace.specs.Defaults.{no_scope_spans, no_resource_spans, no_request}
use Rattle.otlp_read.specs.Value.{scope_spans_step, resource_spans_step, request_step, value_of, merged_scope, merged_resource}
use Rattle.otlp_read.specs.Walk.{◌>>=◌, Step, before, onward, walk_in, walk, read_with, with_another}
use Rattle.otlp_parts.specs.ReadAs.{span_in, scope_spans_in, resource_spans_in}
use Rattle.otlp_parts.specs.Texts.{is_valid_span, valid_texts, scope_with_spans, resource_with_spans, ScopeTexts, ResourceTexts, BodyTexts, invalid_among, invalid_in_resource, invalid_in, texts_of}
use Rattle.otlp_parts.specs.Kept.{counted, valid_text, KeptScope, with_kept_span, kept_scope_step, kept_scope_in, KeptResource, with_kept_scope, kept_resource_step, kept_resource_in, with_kept_resource, kept_body_step, kept_of}

-- ---- any message

abbrev Commutes : {A K : Type 0} → (A → K) → Step A → Step K → Type 0
Commutes {A} keep step kept = (a : A) (e : Entry) (spelled : List ℕ) → kept (keep a) e spelled ≡ (step a e spelled >>= λ b. Ok (keep b))

rest_kept : {A K : Type 0} (keep : A → K) (r : Result A ReadFault) (p : A → Result A ReadFault) (q : K → Result K ReadFault) → ((b : A) → q (keep b) ≡ (p b >>= λ c. Ok (keep c)))
    → ((r >>= λ b. Ok (keep b)) >>= q) ≡ ((r >>= p) >>= λ c. Ok (keep c))
rest_kept keep (Ok b) p q same = same b
rest_kept keep (Err e) p q same = refl

next_kept : {A K : Type 0} (keep : A → K) (step : Step A) (kept : Step K) (p : A → List ℕ → Result A ReadFault) (q : K → List ℕ → Result K ReadFault) (a : A) (bytes : List ℕ) (r : Result (Option (Entry × List ℕ)) WireFault)
    → Commutes keep step kept → ((rest : List ℕ) (b : A) → q (keep b) rest ≡ (p b rest >>= λ c. Ok (keep c)))
    → onward kept q (keep a) bytes r ≡ (onward step p a bytes r >>= λ c. Ok (keep c))
next_kept keep step kept p q a bytes (Ok None) same deeper = refl
next_kept {K = K} keep step kept p q a bytes (Ok (Some x)) same deeper =
    ap (λ (r : Result K ReadFault). r >>= λ k. q k x.1) (same a x.0 (before bytes x.1)) ∙ rest_kept keep (step a x.0 (before bytes x.1)) (λ b. p b x.1) (λ k. q k x.1) (deeper x.1)
next_kept keep step kept p q a bytes (Err f) same deeper = refl

walk_kept : {A K : Type 0} (keep : A → K) (step : Step A) (kept : Step K) (d n : ℕ) (a : A) (bytes : List ℕ) → Commutes keep step kept → walk_in kept d n (keep a) bytes ≡ (walk_in step d n a bytes >>= λ c. Ok (keep c))
unfolding walk_in
walk_kept keep step kept d zero a bytes same = refl
walk_kept keep step kept d (suc n) a bytes same = next_kept keep step kept (walk_in step d n) (walk_in kept d n) a bytes (next_at d bytes) same (λ rest b. walk_kept keep step kept d n b rest same)

read_kept : {A K : Type 0} (keep : A → K) (step : ℕ → Step A) (kept : ℕ → Step K) (room : ℕ) (a : A) (bytes : List ℕ) → Commutes keep (step room) (kept room)
    → read_with kept (suc room) (keep a) bytes ≡ (read_with step (suc room) a bytes >>= λ c. Ok (keep c))
unfolding read_with walk
read_kept keep step kept room a bytes same = walk_kept keep (step room) (kept room) (100 - room) (length bytes) a bytes same

-- what is made of a value, and then kept of it
put_kept : {A B K : Type 0} (keep : B → K) (r : Result A ReadFault) (f : A → B) (g : A → K) → ((x : A) → g x ≡ keep (f x)) → (r >>= λ x. Ok (g x)) ≡ ((r >>= λ x. Ok (f x)) >>= λ b. Ok (keep b))
put_kept {K = K} keep (Ok x) f g same = ap (λ (k : K). Ok k) (same x)
put_kept keep (Err e) f g same = refl

-- the same where it is made of an option of the value
some_kept : {A B K : Type 0} (keep : B → K) (r : Result A ReadFault) (f : A → B) (g : Option A → K) → ((x : A) → g (Some x) ≡ keep (f x))
    → ((r >>= λ x. Ok (Some x)) >>= λ o. Ok (g o)) ≡ ((r >>= λ x. Ok (f x)) >>= λ b. Ok (keep b))
some_kept {K = K} keep (Ok x) f g same = ap (λ (k : K). Ok k) (same x)
some_kept keep (Err e) f g same = refl

-- the same of a list with one more
pushed_kept : {A B K T : Type 0} (keep : B → K) (r : Result A ReadFault) (xs : List A) (f : List A → B) (h : A → T) (g : T → K) → ((x : A) → g (h x) ≡ keep (f (xs ++ x ∷ [])))
    → ((r >>= λ x. Ok (h x)) >>= λ t. Ok (g t)) ≡ ((with_another xs r >>= λ l. Ok (f l)) >>= λ b. Ok (keep b))
pushed_kept {K = K} keep (Ok x) xs f h g same = ap (λ (k : K). Ok k) (same x)
pushed_kept keep (Err e) xs f h g same = refl

-- by a field's number
three_kept : {A K : Type 0} (keep : A → K) (one two three : Bool) (r s t : Result A ReadFault) (u v w : Result K ReadFault) (a : A)
    → u ≡ (r >>= λ b. Ok (keep b)) → v ≡ (s >>= λ b. Ok (keep b)) → w ≡ (t >>= λ b. Ok (keep b))
    → unwrap_or (if one then Some u else if two then Some v else if three then Some w else None) (Ok (keep a)) ≡ (unwrap_or (if one then Some r else if two then Some s else if three then Some t else None) (Ok a) >>= λ b. Ok (keep b))
three_kept keep true two three r s t u v w a first second third = first
three_kept keep false true three r s t u v w a first second third = second
three_kept keep false false true r s t u v w a first second third = third
three_kept keep false false false r s t u v w a first second third = refl

one_kept : {A K : Type 0} (keep : A → K) (one : Bool) (r : Result A ReadFault) (u : Result K ReadFault) (a : A) → u ≡ (r >>= λ b. Ok (keep b))
    → unwrap_or (if one then Some u else None) (Ok (keep a)) ≡ (unwrap_or (if one then Some r else None) (Ok a) >>= λ b. Ok (keep b))
one_kept keep true r u a first = first
one_kept keep false r u a first = refl

-- ---- counts

counted_more : (m n : ℕ) → counted (counted m + n) ≡ counted (m + n)
counted_more m n = omega arith

counted_both : (m n : ℕ) → counted (counted m + counted n) ≡ counted (m + n)
counted_both m n = omega arith

-- ---- a scope spans

keep_scope : ScopeSpansData → KeptScope
keep_scope s = record { scope = s.scope; schema_url = s.schema_url; spans = valid_texts s.spans; invalid = counted (invalid_among s.spans) }

texts_more : (xs : List SpanData) (x : SpanData) → valid_texts (xs ++ x ∷ []) ≡ valid_texts xs ++ valid_texts (x ∷ [])
texts_more xs x = ap (map span_text) (filter-append is_valid_span xs (x ∷ [])) ∙ map-append span_text (filter is_valid_span xs) (filter is_valid_span (x ∷ []))

count_more : (xs : List SpanData) (x : SpanData) → invalid_among (xs ++ x ∷ []) ≡ invalid_among xs + invalid_among (x ∷ [])
count_more xs x = sum_by-append (λ s. cond (not (is_valid_span s)) 1 0) xs (x ∷ [])

scopes_are : {o : Option ScopeData} {u : List ℕ} {k l : List (List ℕ)} {m n : ℕ} → k ≡ l → m ≡ n
    → ◌≡◌ {A = KeptScope} (record { scope = o; schema_url = u; spans = k; invalid = m }) (record { scope = o; schema_url = u; spans = l; invalid = n })
scopes_are spans invalid = rw (spans, invalid) refl

span_kept : (s : ScopeSpansData) (x : SpanData) (valid : Bool) → is_valid_span x ≡ valid → with_kept_span (keep_scope s) (valid_text x) ≡ keep_scope (record s { spans = s.spans ++ x ∷ [] })
unfolding keep_scope
span_kept s x true is =
    let one : valid_text x ≡ Some (span_text x) = rw is refl in
    let text : valid_texts (x ∷ []) ≡ span_text x ∷ [] = rw is refl in
    let none : invalid_among (x ∷ []) ≡ 0 = rw is refl in
    ap (with_kept_span (keep_scope s)) one
    ∙ scopes_are (sym (texts_more s.spans x ∙ ap (λ (l : List (List ℕ)). valid_texts s.spans ++ l) text)) (ap counted (let same = count_more s.spans x in omega (arith, same, none)))
span_kept s x false is =
    let one : valid_text x ≡ None = rw is refl in
    let text : valid_texts (x ∷ []) ≡ [] = rw is refl in
    let count : invalid_among (x ∷ []) ≡ 1 = rw is refl in
    ap (with_kept_span (keep_scope s)) one
    ∙ scopes_are (sym (texts_more s.spans x ∙ ap (λ (l : List (List ℕ)). valid_texts s.spans ++ l) text ∙ append-nil (valid_texts s.spans))) (counted_more (invalid_among s.spans) 1 ∙ ap counted (let same = count_more s.spans x in omega (arith, same, count)))

scope_field : (s : ScopeSpansData) (n : ℕ) (v : Datum) (spelled : List ℕ) → kept_scope_step 98 (keep_scope s) (record { number = n; value = v }) spelled ≡ (scope_spans_step 98 s (record { number = n; value = v }) spelled >>= λ t. Ok (keep_scope t))
unfolding keep_scope
scope_field s n (Varint x) spelled = refl
scope_field s n (Eight bs) spelled = refl
scope_field s n (Bytes bs) spelled =
    three_kept keep_scope (n == 1) (n == 2) (n == 3) _ _ _ _ _ _ s
    (some_kept keep_scope (merged_scope 98 s.scope bs) (λ x. record s { scope = Some x }) (λ o. record (keep_scope s) { scope = o }) (λ x. refl))
    (pushed_kept keep_scope (span_in bs) s.spans (λ l. record s { spans = l }) valid_text (with_kept_span (keep_scope s)) (λ x. span_kept s x (is_valid_span x) refl))
    (put_kept keep_scope (utf8 bs) (λ text. record s { schema_url = text }) (λ text. record (keep_scope s) { schema_url = text }) (λ x. refl))
scope_field s n (Four bs) spelled = refl
scope_field s n (Group bs) spelled = refl

scope_kept : (bytes : List ℕ) → kept_scope_in bytes ≡ (scope_spans_in bytes >>= λ s. Ok (keep_scope s))
unfolding keep_scope
scope_kept bytes = read_kept keep_scope scope_spans_step kept_scope_step 98 no_scope_spans bytes (λ s e spelled. scope_field s e.number e.value spelled)

-- ---- a resource spans

flat_map_one : {A B : Type 0} (f : A → List B) (xs : List A) (x : A) → flat_map f (xs ++ x ∷ []) ≡ flat_map f xs ++ f x
flat_map_one {B = B} f xs x = flat_map-append f xs (x ∷ []) ∙ ap (λ (l : List B). flat_map f xs ++ l) (append-nil (f x))

keep_resource : ResourceSpansData → KeptResource
keep_resource r = record { resource = r.resource; schema_url = r.schema_url; scopes = flat_map scope_with_spans r.scope_spans; invalid = counted (invalid_in_resource r) }

resources_are : {o : Option ResourceData} {u : List ℕ} {k l : List ScopeTexts} {m n : ℕ} → k ≡ l → m ≡ n
    → ◌≡◌ {A = KeptResource} (record { resource = o; schema_url = u; scopes = k; invalid = m }) (record { resource = o; schema_url = u; scopes = l; invalid = n })
resources_are scopes invalid = rw (scopes, invalid) refl

scope_spans_kept : (r : ResourceSpansData) (s : ScopeSpansData) → with_kept_scope (keep_resource r) (keep_scope s) ≡ keep_resource (record r { scope_spans = r.scope_spans ++ s ∷ [] })
unfolding keep_resource keep_scope
scope_spans_kept r s =
    let more : sum_by (λ (t : ScopeSpansData). invalid_among t.spans) (r.scope_spans ++ s ∷ []) ≡ invalid_in_resource r + (0 + invalid_among s.spans) = sum_by-append (λ (t : ScopeSpansData). invalid_among t.spans) r.scope_spans (s ∷ []) in
    resources_are (sym (flat_map_one scope_with_spans r.scope_spans s)) (counted_both (invalid_in_resource r) (invalid_among s.spans) ∙ ap counted (omega (arith, more)))

-- the scope spans are kept as they are read
through_scope : {K : Type 0} (keep : ResourceSpansData → K) (bytes : List ℕ) (g : KeptScope → K) (xs : List ScopeSpansData) (f : List ScopeSpansData → ResourceSpansData) → ((s : ScopeSpansData) → g (keep_scope s) ≡ keep (f (xs ++ s ∷ [])))
    → (kept_scope_in bytes >>= λ t. Ok (g t)) ≡ ((with_another xs (scope_spans_in bytes) >>= λ l. Ok (f l)) >>= λ b. Ok (keep b))
through_scope {K = K} keep bytes g xs f same =
    ap (λ (r : Result KeptScope ReadFault). r >>= λ t. Ok (g t)) (scope_kept bytes) ∙ pushed_kept keep (scope_spans_in bytes) xs f keep_scope g same

resource_field : (r : ResourceSpansData) (n : ℕ) (v : Datum) (spelled : List ℕ) → kept_resource_step 99 (keep_resource r) (record { number = n; value = v }) spelled ≡ (resource_spans_step 99 r (record { number = n; value = v }) spelled >>= λ t. Ok (keep_resource t))
unfolding keep_resource
resource_field r n (Varint x) spelled = refl
resource_field r n (Eight bs) spelled = refl
resource_field r n (Bytes bs) spelled =
    three_kept keep_resource (n == 1) (n == 2) (n == 3) _ _ _ _ _ _ r
    (some_kept keep_resource (merged_resource 99 r.resource bs) (λ x. record r { resource = Some x }) (λ o. record (keep_resource r) { resource = o }) (λ x. refl))
    (through_scope keep_resource bs (with_kept_scope (keep_resource r)) r.scope_spans (λ l. record r { scope_spans = l }) (scope_spans_kept r))
    (put_kept keep_resource (utf8 bs) (λ text. record r { schema_url = text }) (λ text. record (keep_resource r) { schema_url = text }) (λ x. refl))
resource_field r n (Four bs) spelled = refl
resource_field r n (Group bs) spelled = refl

resource_kept : (bytes : List ℕ) → kept_resource_in bytes ≡ (resource_spans_in bytes >>= λ r. Ok (keep_resource r))
unfolding keep_resource
resource_kept bytes = read_kept keep_resource resource_spans_step kept_resource_step 99 no_resource_spans bytes (λ r e spelled. resource_field r e.number e.value spelled)

-- ---- a body

-- the parts, with the count as the code has it
abbrev pub counted_texts : RequestData → BodyTexts
counted_texts v = record (texts_of v) { invalid = counted (invalid_in v) }

abbrev body_with : List ResourceSpansData → RequestData
body_with l = record { resource_spans = l }

bodies_are : {k l : List ResourceTexts} {m n : ℕ} → k ≡ l → m ≡ n → ◌≡◌ {A = BodyTexts} (record { resources = k; invalid = m }) (record { resources = l; invalid = n })
bodies_are resources invalid = rw (resources, invalid) refl

resource_spans_kept : (v : RequestData) (r : ResourceSpansData) → with_kept_resource (counted_texts v) (keep_resource r) ≡ counted_texts (body_with (v.resource_spans ++ r ∷ []))
unfolding keep_resource
resource_spans_kept v r =
    let more : sum_by invalid_in_resource (v.resource_spans ++ r ∷ []) ≡ invalid_in v + (0 + invalid_in_resource r) = sum_by-append invalid_in_resource v.resource_spans (r ∷ []) in
    bodies_are (sym (flat_map_one resource_with_spans v.resource_spans r)) (counted_both (invalid_in v) (invalid_in_resource r) ∙ ap counted (omega (arith, more)))

through_resource : (v : RequestData) (bytes : List ℕ)
    → (kept_resource_in bytes >>= λ t. Ok (with_kept_resource (counted_texts v) t)) ≡ ((with_another v.resource_spans (resource_spans_in bytes) >>= λ l. Ok (body_with l)) >>= λ b. Ok (counted_texts b))
through_resource v bytes =
    ap (λ (r : Result KeptResource ReadFault). r >>= λ t. Ok (with_kept_resource (counted_texts v) t)) (resource_kept bytes)
    ∙ pushed_kept counted_texts (resource_spans_in bytes) v.resource_spans body_with keep_resource (with_kept_resource (counted_texts v)) (resource_spans_kept v)

body_field : (v : RequestData) (n : ℕ) (d : Datum) (spelled : List ℕ) → kept_body_step 100 (counted_texts v) (record { number = n; value = d }) spelled ≡ (request_step 100 v (record { number = n; value = d }) spelled >>= λ t. Ok (counted_texts t))
body_field v n (Varint x) spelled = refl
body_field v n (Eight bs) spelled = refl
body_field v n (Bytes bs) spelled = one_kept counted_texts (n == 1) _ _ v (through_resource v bs)
body_field v n (Four bs) spelled = refl
body_field v n (Group bs) spelled = refl

-- what is kept of a body is the parts of its value
pub body_kept : (bytes : List ℕ) → kept_of bytes ≡ (value_of bytes >>= λ v. Ok (counted_texts v))
body_kept bytes = read_kept counted_texts request_step kept_body_step 100 no_request bytes (λ v e spelled. body_field v e.number e.value spelled)
