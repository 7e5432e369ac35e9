-- One more origin, and the spans that come with it.
use Rattle.std.proofs.Common.{◌≡◌, ◌∙◌, ◌<◌, ◌≤◌, ◌+◌, ℕ, Bool, List, [], ◌∷◌, ◌++◌, Option, Result, Ok, Err, OnOk, map, length, refl, sym, ap, subst, append-nil, append_assoc, arith}
use Rattle.std.proofs.lemmas.List.{get_or_append_left, length-append, length-map, map-append}
use Rattle.std.proofs.Math.Seq.{get_or-append_seam}
use Rattle.std.specs.Prelude.{◌&&◌}
use Rattle.std.specs.List.{AllByRecursion, flat_map}
use Rattle.otlp_parts.specs.Texts.{ScopeTexts, ResourceTexts}
use Rattle.otlp_read.specs.RoundTrip.{IsShort}
use Rattle.span_view.specs.Facts.{SpanFacts}
use Rattle.span_pool.specs.Ids.{is_id}
use Rattle.span_pool.specs.Stored.{Origin as OriginData, bytes_of}
use Rattle.tail_settings.specs.Policy.{PolicyData}
use Rattle.tail_policy.specs.declared.note.ResourceBits.{ResourceBits}
use Rattle.tenant_rules.specs.Arrivals.{Arrival, is_valid}
use Rattle.prepared_body.specs.Origin.{OriginTexts}
use Rattle.prepared_body.specs.Arrivals.{origin_view, no_origin, origin_at, arrival_with}
use Rattle.otlp_prepare.specs.BodySpans.{UnnotedSpanData, part_with, part_arrival, part_arrivals, bits_in, IsFound, AreFound, Adds, AddsAround, IsValidRead, IsAround, arrivals_in_scope, arrivals_in_resource, arrivals_around}
use Rattle.otlp_prepare.proofs.Lists.{every_append}
use Rattle.otlp_prepare.proofs.Read.{AllTold, told}

-- ---- the origins that were there

origin_kept : (os : List OriginTexts) (o : OriginTexts) (i : ℕ) → i < length os → origin_at (os ++ o ∷ []) i ≡ origin_at os i
origin_kept os o i within = ap (λ (x : OriginTexts). origin_view x) (get_or_append_left os (o ∷ []) no_origin i within)

arrival_kept : (os : List OriginTexts) (o : OriginTexts) (part : UnnotedSpanData) → part.origin < length os
    → part_arrival (os ++ o ∷ []) part ≡ part_arrival os part
arrival_kept os o part within =
    ap (λ (around : OriginData). arrival_with around part.text) (origin_kept os o part.origin within)

found_kept : (policies : List PolicyData) (os : List OriginTexts) (o : OriginTexts) (part : UnnotedSpanData) → IsFound policies os part
    → IsFound policies (os ++ o ∷ []) part
found_kept policies os o part is =
    let same = origin_kept os o part.origin is.within in
    let more = length-append os (o ∷ []) in
    record {
      trace = is.trace;
      valid = ap (λ (around : OriginData). is_valid (arrival_with around part.text)) same ∙ is.valid;
      bits = is.bits ∙ ap (λ (around : OriginData). bits_in policies around.resource) (sym same);
      within = omega (arith, more, is.within);
      short = is.short;
      around = subst (λ (around : OriginData). IsShort (bytes_of around.resource)) (sym same) is.around;
    }

all_kept : (policies : List PolicyData) (os : List OriginTexts) (o : OriginTexts) (parts : List UnnotedSpanData) → AreFound policies os parts
    → AreFound policies (os ++ o ∷ []) parts
all_kept policies os o [] are = tt
all_kept policies os o (part ∷ parts) are = (found_kept policies os o part are.0, all_kept policies os o parts are.1)

arrivals_kept : (policies : List PolicyData) (os : List OriginTexts) (o : OriginTexts) (parts : List UnnotedSpanData) → AreFound policies os parts
    → part_arrivals (os ++ o ∷ []) parts ≡ part_arrivals os parts
arrivals_kept policies os o [] are = refl
arrivals_kept policies os o (part ∷ parts) are =
    let first = arrival_kept os o part are.0.within in
    let rest = arrivals_kept policies os o parts are.1 in
    λ j. first j ∷ rest j

-- ---- the one that came

origin_added : (os : List OriginTexts) (o : OriginTexts) (around : OriginData) → origin_view o ≡ around
    → origin_at (os ++ o ∷ []) (length os) ≡ around
origin_added os o around is = ap (λ (x : OriginTexts). origin_view x) (get_or-append_seam os o [] no_origin) ∙ is

-- a span with these ids is valid
abbrev are_ids : SpanFacts → Bool
are_ids f = is_id 16 f.trace_id && is_id 8 f.span_id

found_added : (law : AllTold) (policies : List PolicyData) (os : List OriginTexts) (o : OriginTexts) (around : OriginData) (bits : ResourceBits)
    → origin_view o ≡ around → IsAround policies around.resource bits → (text : List ℕ) → IsValidRead text → IsShort text
    → IsFound policies (os ++ o ∷ []) (part_with bits (length os) text)
found_added law policies os o around bits is resource text read short =
    let at = origin_added os o around is in
    let more = length-append os (o ∷ []) in
    let tells = told text around.resource law read.read resource.read short resource.short in
    record {
      trace = refl;
      valid = ap (λ (a : OriginData). is_valid (arrival_with a text)) at ∙ (ap are_ids tells ∙ read.valid);
      bits = resource.told ∙ ap (λ (a : OriginData). bits_in policies a.resource) (sym at);
      within = omega (arith, more);
      short = short;
      around = subst (λ (a : OriginData). IsShort (bytes_of a.resource)) (sym at) resource.short;
    }

all_added : (law : AllTold) (policies : List PolicyData) (os : List OriginTexts) (o : OriginTexts) (around : OriginData) (bits : ResourceBits)
    → origin_view o ≡ around → IsAround policies around.resource bits → (texts : List (List ℕ)) → AllByRecursion IsValidRead texts
    → AllByRecursion IsShort texts → AreFound policies (os ++ o ∷ []) (map (part_with bits (length os)) texts)
all_added law policies os o around bits is resource [] read short = tt
all_added law policies os o around bits is resource (text ∷ texts) read short = (
  found_added law policies os o around bits is resource text read.0 short.0,
  all_added law policies os o around bits is resource texts read.1 short.1,
)

arrivals_added : (os : List OriginTexts) (o : OriginTexts) (around : OriginData) (bits : ResourceBits) → origin_view o ≡ around → (texts : List (List ℕ))
    → part_arrivals (os ++ o ∷ []) (map (part_with bits (length os)) texts) ≡ map (arrival_with around) texts
arrivals_added os o around bits is [] = refl
arrivals_added os o around bits is (text ∷ texts) =
    let at = origin_added os o around is in
    let rest = arrivals_added os o around bits is texts in
    λ j. arrival_with (at j) text ∷ rest j

-- ---- both

-- one origin comes with at least one span
one_for_some : (os : List OriginTexts) (o : OriginTexts) (bits : ResourceBits) (texts : List (List ℕ)) (parts : List UnnotedSpanData) → 0 < length texts
    → length (os ++ o ∷ []) + length parts ≤ length os + length (parts ++ map (part_with bits (length os)) texts)
one_for_some os o bits texts parts some =
    let one = length-append os (o ∷ []) in
    let more = length-append parts (map (part_with bits (length os)) texts) in
    let made = length-map texts (part_with bits (length os)) in
    omega (arith, one, more, made, some)

added_behind : (law : AllTold) (policies : List PolicyData) (os : List OriginTexts) (o : OriginTexts) (around : OriginData) (bits : ResourceBits)
    → origin_view o ≡ around → IsAround policies around.resource bits → (texts : List (List ℕ)) → AllByRecursion IsValidRead texts
    → AllByRecursion IsShort texts → 0 < length texts → (parts : List UnnotedSpanData) → AreFound policies os parts
    → Adds policies (map (arrival_with around) texts) os parts (os ++ o ∷ []) (parts ++ map (part_with bits (length os)) texts)
added_behind law policies os o around bits is resource texts read short some parts are =
    let before = all_kept policies os o parts are in
    let behind = all_added law policies os o around bits is resource texts read short in
    let kept = arrivals_kept policies os o parts are in
    let more = arrivals_added os o around bits is texts in
    record {
      found = every_append (IsFound policies (os ++ o ∷ [])) parts (map (part_with bits (length os)) texts) before behind;
      whole = map-append (part_arrival (os ++ o ∷ [])) parts (map (part_with bits (length os)) texts) ∙ (λ j. kept j ++ more j);
      sparing = one_for_some os o bits texts parts some;
    }

-- the spans of one scope that has some, as the code adds them
pub added : (law : AllTold) (policies : List PolicyData) (os os' : List OriginTexts) (o : OriginTexts) (around : OriginData) (bits : ResourceBits) (n : ℕ)
    → origin_view o ≡ around → IsAround policies around.resource bits → (texts : List (List ℕ)) → AllByRecursion IsValidRead texts
    → AllByRecursion IsShort texts → 0 < length texts → (parts parts' : List UnnotedSpanData) → AreFound policies os parts → os' ≡ os ++ o ∷ [] → n ≡ length os
    → parts' ≡ parts ++ map (part_with bits n) texts → Adds policies (map (arrival_with around) texts) os parts os' parts'
added law policies os os' o around bits n is resource texts read short some parts parts' are pushed index behind =
    let all = added_behind law policies os o around bits is resource texts read short some parts are in
    let spans : parts' ≡ parts ++ map (part_with bits (length os)) texts = behind ∙ ap (λ (i : ℕ). parts ++ map (part_with bits i) texts) index in
    let placed = subst (λ (xs : List OriginTexts). Adds policies (map (arrival_with around) texts) os parts xs (parts ++ map (part_with bits (length os)) texts)) (sym pushed) all in
    subst (λ (xs : List UnnotedSpanData). Adds policies (map (arrival_with around) texts) os parts os' xs) (sym spans) placed

-- of one that has none
pub none_added : (policies : List PolicyData) (os : List OriginTexts) (around : OriginData) (texts : List (List ℕ)) (parts : List UnnotedSpanData)
    → length texts ≡ 0 → AreFound policies os parts → Adds policies (map (arrival_with around) texts) os parts os parts
none_added policies os around [] parts none are = record { found = are; whole = sym (append-nil (part_arrivals os parts)); sparing = omega arith }
none_added policies os around (text ∷ texts) parts none are = absurd (omega (arith, none))

-- ---- the scopes of a resource

-- the spans of some scopes were found behind those that had been, and the scopes that are left give the rest
pub record IsAdding (policies : List PolicyData) (group : ResourceTexts) (left : List ScopeTexts) (os : List OriginTexts) (parts : List UnnotedSpanData)
    (os' : List OriginTexts) (parts' : List UnnotedSpanData) : Type 0 where
  pub found : AreFound policies os' parts'
  pub whole : part_arrivals os' parts' ++ flat_map (arrivals_in_scope group) left ≡ part_arrivals os parts ++ arrivals_in_resource group
  pub sparing : length os' + length parts ≤ length os + length parts'

pub none_yet : (policies : List PolicyData) (group : ResourceTexts) (left : List ScopeTexts) (os : List OriginTexts) (parts : List UnnotedSpanData) → left ≡ group.scopes → AreFound policies os parts
    → IsAdding policies group left os parts os parts
none_yet policies group left os parts all are =
    record { found = are; whole = ap (λ (xs : List ScopeTexts). part_arrivals os parts ++ flat_map (arrivals_in_scope group) xs) all; sparing = omega arith }

pub one_more : (policies : List PolicyData) (group : ResourceTexts) (scope : ScopeTexts) (before left : List ScopeTexts) (os os' os'' : List OriginTexts) (parts parts' parts'' : List UnnotedSpanData)
    → before ≡ scope ∷ left → IsAdding policies group before os parts os' parts' → Adds policies (arrivals_in_scope group scope) os' parts' os'' parts''
    → IsAdding policies group left os parts os'' parts''
one_more policies group scope before left os os' os'' parts parts' parts'' next is adds = record {
  found = adds.found;
  whole =
      ap (λ (xs : List Arrival). xs ++ flat_map (arrivals_in_scope group) left) adds.whole
      ∙ (append_assoc (part_arrivals os' parts') (arrivals_in_scope group scope) (flat_map (arrivals_in_scope group) left)
      ∙ (ap (λ (xs : List ScopeTexts). part_arrivals os' parts' ++ flat_map (arrivals_in_scope group) xs) (sym next) ∙ is.whole));
  sparing = omega (arith, is.sparing, adds.sparing);
}

pub all_now : {A : Type 0} (f : A → ScopeTexts) (policies : List PolicyData) (group : ResourceTexts) (left : List A) (os os' : List OriginTexts) (parts parts' : List UnnotedSpanData) → length left ≡ 0
    → IsAdding policies group (map f left) os parts os' parts' → Adds policies (arrivals_in_resource group) os parts os' parts'
all_now f policies group [] os os' parts parts' none is = record { found = is.found; whole = sym (append-nil (part_arrivals os' parts')) ∙ is.whole; sparing = is.sparing }
all_now f policies group (scope ∷ left) os os' parts parts' none is = absurd (omega (arith, none))

-- of a resource of one scope
of_one : (policies : List PolicyData) (group : ResourceTexts) (scope : ScopeTexts) (os os' : List OriginTexts) (parts parts' : List UnnotedSpanData) → group.scopes ≡ scope ∷ []
    → Adds policies (arrivals_in_scope group scope) os parts os' parts' → Adds policies (arrivals_in_resource group) os parts os' parts'
of_one policies group scope os os' parts parts' one adds =
    let same : arrivals_in_scope group scope ≡ arrivals_in_resource group = sym (append-nil (arrivals_in_scope group scope)) ∙ ap (flat_map (arrivals_in_scope group)) (sym one) in
    record { found = adds.found; whole = adds.whole ∙ ap (λ (xs : List Arrival). part_arrivals os parts ++ xs) same; sparing = adds.sparing }

-- a resource spans with these scope spans
abbrev with_scopes : Option (List ℕ) → Option (List ℕ) → List ScopeTexts → ResourceTexts
with_scopes resource schema_url scopes = record { resource = resource; schema_url = bytes_of schema_url; scopes = scopes }

-- by what stands round a resource spans as the code has it
pub all_around : {T E : Type 0} (policies : List PolicyData) (group : ResourceTexts) (resource schema_url : Option (List ℕ)) (bits bits' : ResourceBits) (scopes : List ScopeTexts) (os os' : List OriginTexts) (parts parts' : List UnnotedSpanData)
    → resource ≡ group.resource → bytes_of schema_url ≡ group.schema_url → bits' ≡ bits → scopes ≡ group.scopes → IsAround policies group.resource bits → AreFound policies os parts
    → (r : Result T E) → OnOk r (AddsAround resource bits' (arrivals_in_resource (with_scopes resource schema_url scopes)) os parts os' parts')
    → OnOk r (Adds policies (arrivals_in_resource group) os parts os' parts')
all_around policies group resource schema_url bits bits' scopes os os' parts parts' text url told all around are (Ok x) adds =
    let same : with_scopes resource schema_url scopes ≡ group = λ i. record { resource = text i; schema_url = url i; scopes = all i } in
    let told_here : IsAround policies group.resource bits' = subst (λ (b : ResourceBits). IsAround policies group.resource b) (sym told) around in
    let here : IsAround policies resource bits' = subst (λ (t : Option (List ℕ)). IsAround policies t bits') (sym text) told_here in
    subst (λ (g : ResourceTexts). Adds policies (arrivals_in_resource g) os parts os' parts') same (adds policies here are)
all_around policies group resource schema_url bits bits' scopes os os' parts parts' text url told all around are (Err x) adds = tt

-- and of one scope
pub one_around : {T E : Type 0} (policies : List PolicyData) (group : ResourceTexts) (resource schema_url : Option (List ℕ)) (bits bits' : ResourceBits) (scope : ScopeTexts) (os os' : List OriginTexts) (parts parts' : List UnnotedSpanData)
    → resource ≡ group.resource → bytes_of schema_url ≡ group.schema_url → bits' ≡ bits → scope ∷ [] ≡ group.scopes → IsAround policies group.resource bits → AreFound policies os parts
    → (r : Result T E) → OnOk r (AddsAround resource bits' (arrivals_around resource schema_url scope) os parts os' parts')
    → OnOk r (Adds policies (arrivals_in_resource group) os parts os' parts')
one_around {T} {E} policies group resource schema_url bits bits' scope os os' parts parts' text url told one around are (Ok x) adds =
    all_around {T = T} {E = E} policies group resource schema_url bits bits' (scope ∷ []) os os' parts parts' text url told one around are (Ok x)
    (λ others here found. of_one others (with_scopes resource schema_url (scope ∷ [])) scope os os' parts parts' refl (adds others here found))
one_around {T} {E} policies group resource schema_url bits bits' scope os os' parts parts' text url told one around are (Err x) adds = tt
