-- Texts that are held for spans to come, several at once. This project's own rule.
use Rattle.std.specs.Prelude.{◌≡◌, ◌≢◌, ◌<◌, ◌+◌, ◌∷◌, [], ℕ, List, Option, Some, None, IfSome, option_copied}
use Rattle.std.specs.Borrow.{Bor}
use Rattle.span_pool.specs.declared.keys.TextKeys.{TextKeys}
use Rattle.span_pool.specs.Stored as keyed
use Rattle.span_pool.specs.Stored.{Origin, bytes_of}
use Rattle.text_pool.specs.Part as pool
use Rattle.text_pool.specs.declared.pool.TextPool.{TextPool}
use Rattle.text_pool.specs.declared.pool.CountedText.{CountedText}
use Rattle.tenant_stores.specs.declared.texts.TextRequest.{TextRequest}
use Rattle.tenant_stores.specs.declared.texts.TextRequest.TheVariants.{Nothing, New, Again}
use Rattle.tenant_stores.specs.Part.{Part}
use Rattle.tenant_stores.specs.Counts.{count}
use Rattle.tenant_stores.specs.View.{text_at}
use Rattle.tenant_stores.specs.Invariant.{uses_of}
use Rattle.tenant_stores.specs.Changes.{all_released}

-- each text that is kept is so for one at least
abbrev pub AreKept : (ℕ → Option CountedText) → Type 0
AreKept texts = (key : ℕ) → IfSome (texts key) (λ text. 0 < text.uses)

-- the texts at these keys are kept for one more each, which can be given back, and those that were kept before stay
pub record AreHeld (keys : List ℕ) (old new : ℕ → Option CountedText) : Type 0 where
  pub back : all_released keys new ≡ old
  pub uses : (key : ℕ) → uses_of (new key) ≡ uses_of (old key) + count key keys
  pub kept : AreKept new
  pub stay : (key : ℕ) → 0 < uses_of (old key) → text_at new key ≡ text_at old key

-- a text that is wanted by its key is there
abbrev pub IsKnown : TextRequest → (ℕ → Option CountedText) → Type 0
IsKnown Nothing texts = Unit
IsKnown (New text) texts = Unit
IsKnown (Again key) texts = 0 < uses_of (texts key)

-- the text that is wanted
abbrev pub wanted_text : TextRequest → (ℕ → Option CountedText) → Option (List ℕ)
wanted_text Nothing texts = None
wanted_text (New text) texts = Some text.now
wanted_text (Again key) texts = text_at texts key

-- a text that may be missing, as one that is wanted
abbrev pub again_of : Option ℕ → TextRequest
again_of None = Nothing
again_of (Some key) = Again key

-- an origin of these texts; a URL that is missing is empty
abbrev pub origin_of : Option (List ℕ) → Option (List ℕ) → Option (List ℕ) → Option (List ℕ) → Origin
origin_of resource resource_schema_url scope scope_schema_url = record {
  resource = resource;
  resource_schema_url = bytes_of resource_schema_url;
  scope = scope;
  scope_schema_url = bytes_of scope_schema_url;
}

-- the same of texts that are given, where they are
abbrev pub origin_copied : Option (Bor (List ℕ)) → Option (Bor (List ℕ)) → Option (Bor (List ℕ)) → Option (Bor (List ℕ))
    → Origin
origin_copied resource resource_schema_url scope scope_schema_url = origin_of (option_copied resource)
    (option_copied resource_schema_url) (option_copied scope) (option_copied scope_schema_url)

-- an origin with these texts of a scope in the place of its own, where they are
abbrev pub with_scope : Origin → Option (Bor (List ℕ)) → Option (Bor (List ℕ)) → Origin
with_scope origin scope scope_schema_url = record {
  resource = origin.resource;
  resource_schema_url = origin.resource_schema_url;
  scope = option_copied scope;
  scope_schema_url = bytes_of (option_copied scope_schema_url);
}

-- the origin whose texts a part has at these keys
abbrev pub origin_in : {N : Type 0} → Part N → TextKeys → Origin
origin_in p keys = keyed.origin_at (text_at p.texts) keys

-- each other tenant's texts are what they were
abbrev pub OtherTextsUnchanged : ℕ → TextPool → TextPool → Type 0
OtherTextsUnchanged tenant old new = (other : ℕ) → other ≢ tenant → pool.part other new ≡ pool.part other old

-- where these are known, this holds
abbrev pub IfAllKnown : List TextRequest → (ℕ → Option CountedText) → Type 0 → Type 0
IfAllKnown [] texts Holds = Holds
IfAllKnown (wanted ∷ rest) texts Holds = IsKnown wanted texts → IfAllKnown rest texts Holds

-- wherever each text that is kept is so for one at least, and those of these that are wanted by their keys are there
abbrev pub WhereKnown : List TextRequest → (ℕ → Option CountedText) → Type 0 → Type 0
WhereKnown wanted texts Holds = AreKept texts → IfAllKnown wanted texts Holds

-- the text at this key is the one that is wanted
abbrev pub IsWantedAt : TextRequest → Option ℕ → (old new : ℕ → Option CountedText) → Type 0
IsWantedAt wanted key old new = keyed.text_at (text_at new) key ≡ wanted_text wanted old

-- wherever these four are known, the origin at these keys is that of the texts that are wanted
abbrev pub IsWantedOrigin : (resource resource_schema_url scope scope_schema_url : TextRequest) → TextKeys
    → (old new : ℕ → Option CountedText) → Type 0
IsWantedOrigin resource resource_schema_url scope scope_schema_url keys old new =
    WhereKnown (resource ∷ resource_schema_url ∷ scope ∷ scope_schema_url ∷ []) old
    (keyed.origin_at (text_at new) keys ≡ origin_of (wanted_text resource old) (wanted_text resource_schema_url old)
    (wanted_text scope old) (wanted_text scope_schema_url old))
