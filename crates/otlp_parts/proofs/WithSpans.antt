-- A scope spans or a resource spans is kept where it has spans.
use Rattle.std.proofs.Common.{◌≡◌, ℕ, ◌+◌, ◌<◌, List, [], ◌∷◌, ◌++◌, length, Result, Ok, refl, sym, ap, ◌∙◌, append-nil, arith}
use Rattle.std.proofs.lemmas.List.{length-map}
use Rattle.otlp_read.specs.declared.fault.ReadFault.{ReadFault}
use Rattle.otlp_read.specs.Walk.{◌>>=◌}
use Rattle.otlp_parts.specs.Texts.{ScopeTexts, ResourceTexts, BodyTexts, where_any}
use Rattle.otlp_parts.specs.Kept.{counted, KeptScope, KeptResource, kept_scope_texts, with_kept_scope, kept_resource_texts, kept_resource_in, with_kept_resource, resource_spans_onto}
use Rattle.otlp_parts.specs.Parts.{scope_parts_view, resource_reading_view}
use Rattle.otlp_parts.specs.declared.held.ResourceReading.{ResourceReading}

any_some : {A B : Type 0} (bs : List B) (a : A) → 0 < length bs → where_any bs a ≡ a ∷ []
any_some [] a some = absurd (omega (arith, some))
any_some (b ∷ bs) a some = refl

any_none : {A B : Type 0} (bs : List B) (a : A) → length bs ≡ 0 → where_any bs a ≡ []
any_none [] a none = refl
any_none (b ∷ bs) a none = absurd (omega (arith, none))

pub scope_taken : (k : KeptResource) (s : KeptScope) → 0 < length s.spans
    → with_kept_scope k s ≡ record k { scopes = k.scopes ++ kept_scope_texts s ∷ []; invalid = counted (k.invalid + s.invalid) }
scope_taken k s some =
    ap (λ (l : List ScopeTexts). record k { scopes = k.scopes ++ l; invalid = counted (k.invalid + s.invalid) }) (any_some s.spans (kept_scope_texts s) some)

pub scope_left_out : (k : KeptResource) (s : KeptScope) → length s.spans ≡ 0 → with_kept_scope k s ≡ record k { invalid = counted (k.invalid + s.invalid) }
scope_left_out k s none =
    ap (λ (l : List ScopeTexts). record k { scopes = k.scopes ++ l; invalid = counted (k.invalid + s.invalid) }) (any_none s.spans (kept_scope_texts s) none)
    ∙ ap (λ (l : List ScopeTexts). record k { scopes = l; invalid = counted (k.invalid + s.invalid) }) (append-nil k.scopes)

resource_taken : (k : BodyTexts) (r : KeptResource) → 0 < length r.scopes
    → with_kept_resource k r ≡ record { resources = k.resources ++ kept_resource_texts r ∷ []; invalid = counted (k.invalid + r.invalid) }
resource_taken k r some =
    ap (λ (l : List ResourceTexts). record { resources = k.resources ++ l; invalid = counted (k.invalid + r.invalid) }) (any_some r.scopes (kept_resource_texts r) some)

pub resource_left_out : (k : BodyTexts) (r : KeptResource) → length r.scopes ≡ 0 → with_kept_resource k r ≡ record k { invalid = counted (k.invalid + r.invalid) }
resource_left_out k r none =
    ap (λ (l : List ResourceTexts). record { resources = k.resources ++ l; invalid = counted (k.invalid + r.invalid) }) (any_none r.scopes (kept_resource_texts r) none)
    ∙ ap (λ (l : List ResourceTexts). record { resources = l; invalid = counted (k.invalid + r.invalid) }) (append-nil k.resources)

-- as it was read
pub reading_onto : (before after : BodyTexts) (bytes : List ℕ) (r : ResourceReading) → kept_resource_in bytes ≡ Ok (resource_reading_view r) → 0 < length r.scopes.items
    → after ≡ record { resources = before.resources ++ kept_resource_texts (resource_reading_view r) ∷ []; invalid = counted (before.invalid + r.invalid) }
    → resource_spans_onto before bytes ≡ Ok after
reading_onto before after bytes r read some is =
    let taken = resource_taken before (resource_reading_view r) (rw (length-map r.scopes.items scope_parts_view) some) in
    ap (λ (x : Result KeptResource ReadFault). x >>= λ k. Ok (with_kept_resource before k)) read ∙ ap (λ (b : BodyTexts). Ok b) (taken ∙ sym is)
