-- What a call promises of the other tenants' parts, and of its own tenant's wherever that is sound: by any counts, keys
-- of spans that wait for a batch (pending), and keys of texts that are kept for spans to come (held). This project's
-- own rule.
use Rattle.std.specs.Prelude.{◌≡◌, ◌≢◌, ◌<◌, ◌≤◌, ◌+◌, ◌∷◌, ◌++◌, [], ℕ, List, Some}
use Rattle.span_pool.specs.declared.keys.TextKeys.{TextKeys}
use Rattle.span_pool.specs.Stored.{StoredData, texts_of}
use Rattle.tenant_stores.specs.declared.stores.Stores.{Stores}
use Rattle.tenant_stores.specs.Part.{Part, part}
use Rattle.tenant_stores.specs.Counts.{Counts, one_opened, one_decided, one_swept, count}
use Rattle.tenant_stores.specs.View.{text_at, text_keys, view}
use Rattle.tenant_stores.specs.Invariant.{StoreInvariant}
use Rattle.tenant_stores.specs.Shows.{AreAmong, Stay, with_joined, with_opened, with_late, first_kept, first_dropped}

-- each other tenant's part is what it was
abbrev pub OthersUnchanged : {N : Type 0} → ℕ → Stores N → Stores N → Type 0
OthersUnchanged tenant old new = (other : ℕ) → other ≢ tenant → part other new ≡ part other old

-- the texts at these keys are what they were
abbrev pub TextsStay : {N : Type 0} → List ℕ → Part N → Part N → Type 0
TextsStay keys old new = Stay keys old.texts new.texts

-- ---- where a promise holds

-- wherever the part is sound
abbrev pub WhereSound : {N : Type 0} → Part N → (Counts → List ℕ → List ℕ → Type 0) → Type 0
WhereSound p Holds = (n : Counts) (pending held : List ℕ) → StoreInvariant n pending held p → Holds n pending held

-- wherever the part is sound, and these keys of texts are among those held
abbrev pub WhereInHand : {N : Type 0} → TextKeys → Part N → (Counts → List ℕ → List ℕ → Type 0) → Type 0
WhereInHand keys p Holds = (n : Counts) (pending held : List ℕ) → AreAmong (text_keys keys) held
    → StoreInvariant n pending held p → Holds n pending held

-- wherever the part is sound with these keys of texts held before others
abbrev pub WhereHeld : {N : Type 0} → List ℕ → Part N → (Counts → List ℕ → List ℕ → Type 0) → Type 0
WhereHeld keys p Holds = (n : Counts) (pending held : List ℕ) → StoreInvariant n pending (keys ++ held) p
    → Holds n pending held

-- the same, where the row of this number waits for its decision
abbrev pub WhereWaits : {N : Type 0} → ℕ → List ℕ → Part N → (Counts → List ℕ → List ℕ → Type 0) → Type 0
WhereWaits number keys p Holds = (n : Counts) (pending held : List ℕ) → n.decided < number → number ≤ n.opened
    → StoreInvariant n pending (keys ++ held) p → Holds n pending held

-- the same, where the row of this number is the next to open
abbrev pub WhereOpens : {N : Type 0} → ℕ → List ℕ → Part N → (Counts → List ℕ → List ℕ → Type 0) → Type 0
WhereOpens number keys p Holds = (n : Counts) (pending held : List ℕ) → number ≡ n.opened + 1
    → StoreInvariant n pending (keys ++ held) p → Holds n pending held

-- wherever the part is sound, and the row of this number is the next to be decided
abbrev pub WhereDecides : {N : Type 0} → ℕ → Part N → (Counts → List ℕ → List ℕ → Type 0) → Type 0
WhereDecides number p Holds = (n : Counts) (pending held : List ℕ) → number ≡ n.decided + 1 → number ≤ n.opened
    → StoreInvariant n pending held p → Holds n pending held

-- wherever the part is sound, and the row of this number is the next to leave the table, being no longer present
abbrev pub WhereSweeps : {N : Type 0} → ℕ → Part N → (Counts → List ℕ → List ℕ → Type 0) → Type 0
WhereSweeps number p Holds = (n : Counts) (pending held : List ℕ) → number ≡ n.swept + 1 → number ≤ n.first
    → StoreInvariant n pending held p → Holds n pending held

-- wherever the part is sound, and these are keys of spans that wait for a batch: by the keys of those that are left
abbrev pub WhereLeave : {N : Type 0} → List ℕ → Part N → (Counts → List ℕ → List ℕ → Type 0) → Type 0
WhereLeave keys p Holds = (n : Counts) (pending left held : List ℕ)
    → ((key : ℕ) → count key keys + count key left ≡ count key pending)
    → StoreInvariant n pending held p → Holds n left held

-- ---- what is shown, wherever the part was sound, with any of the spans that wait for a batch

-- the same is
abbrev pub ShowsSame : {N : Type 0} → Part N → Part N → Type 0
ShowsSame old new = (n : Counts) (pending held keys : List ℕ) → StoreInvariant n pending held old
    → AreAmong keys pending → view n keys new ≡ view n keys old

-- the same is, where these keys of texts are among those held
abbrev pub ShowsSameInHand : {N : Type 0} → TextKeys → Part N → Part N → Type 0
ShowsSameInHand texts old new = (n : Counts) (pending held keys : List ℕ) → AreAmong (text_keys texts) held
    → StoreInvariant n pending held old → AreAmong keys pending → view n keys new ≡ view n keys old

-- the same is, where these keys of texts were held before others
abbrev pub ShowsSameHeld : {N : Type 0} → List ℕ → Part N → Part N → Type 0
ShowsSameHeld texts old new = (n : Counts) (pending held keys : List ℕ) → StoreInvariant n pending (texts ++ held) old
    → AreAmong keys pending → view n keys new ≡ view n keys old

-- the span has joined the row of this number, where that is its trace's latest and waits
abbrev pub ShowsJoined : {N : Type 0} → ℕ → StoredData → N → Part N → Part N → Type 0
ShowsJoined number span note old new = (n : Counts) (pending held keys trace : List ℕ)
    → StoreInvariant n pending held old → AreAmong keys pending
    → old.latest_rows trace ≡ Some number → n.decided < number
    → view n keys new ≡ with_joined trace (texts_of (text_at old.texts) span) note (view n keys old)

-- a row of this number, the next one, has opened with the span
abbrev pub ShowsOpened : {N : Type 0} → ℕ → ℕ → List ℕ → StoredData → N → Part N → Part N → Type 0
ShowsOpened number due trace span note old new = (n : Counts) (pending held keys : List ℕ)
    → number ≡ n.opened + 1 → StoreInvariant n pending held old → AreAmong keys pending
    → view (one_opened n) keys new ≡ with_opened trace due (texts_of (text_at old.texts) span) note (view n keys old)

-- the span, at this key, waits for a batch behind the others
abbrev pub ShowsLate : {N : Type 0} → ℕ → StoredData → Part N → Part N → Type 0
ShowsLate key span old new = (n : Counts) (pending held keys : List ℕ)
    → StoreInvariant n pending held old → AreAmong keys pending
    → view n (keys ++ key ∷ []) new ≡ with_late (texts_of (text_at old.texts) span) (view n keys old)

-- the row of this number, the next one, is decided and sampled, and its spans, which have these keys, wait for a batch
abbrev pub ShowsKept : {N : Type 0} → ℕ → List ℕ → Part N → Part N → Type 0
ShowsKept number row old new = (n : Counts) (pending held keys : List ℕ)
    → number ≡ n.decided + 1 → number ≤ n.opened → StoreInvariant n pending held old
    → view (one_decided n) (keys ++ row) new ≡ first_kept (view n keys old)

-- the row of this number, the next one, is decided and not sampled
abbrev pub ShowsDropped : {N : Type 0} → ℕ → Part N → Part N → Type 0
ShowsDropped number old new = (n : Counts) (pending held keys : List ℕ)
    → number ≡ n.decided + 1 → number ≤ n.opened → StoreInvariant n pending held old → AreAmong keys pending
    → view (one_decided n) keys new ≡ first_dropped (view n keys old)

-- the same is with any of the spans that are left, once those at these keys have left
abbrev pub ShowsLeft : {N : Type 0} → List ℕ → Part N → Part N → Type 0
ShowsLeft gone old new = (n : Counts) (pending left held keys : List ℕ)
    → ((key : ℕ) → count key gone + count key left ≡ count key pending)
    → StoreInvariant n pending held old → AreAmong keys left → view n keys new ≡ view n keys old

-- the same is, once the row of this number, the next one, has left the table
abbrev pub ShowsSwept : {N : Type 0} → ℕ → Part N → Part N → Type 0
ShowsSwept number old new = (n : Counts) (pending held keys : List ℕ)
    → number ≡ n.swept + 1 → number ≤ n.first → StoreInvariant n pending held old → AreAmong keys pending
    → view (one_swept n) keys new ≡ view n keys old
