-- From what became of a document and its tenant to what came of the line that asked for it.
use Rattle.std.proofs.Common.{◌≡◌, ℕ, List, [], ◌∷◌, ◌++◌, append_assoc, Option, None, Result, Ok, Err, IfErr, inl, sym, ap, subst, ◌∙◌}
use Rattle.service_runtime.specs.Documents.{Reads}
use Rattle.shared_hub.specs.Logs.{CallerState}
use Rattle.tail_settings.specs.Change.{Change, admit, strike}
use Rattle.tail_settings.specs.Fault.{FaultData}
use Rattle.tail_settings.specs.Settings.{SettingsData}
use Rattle.tenant_registry.specs.declared.documents.NotAdded.{NotAdded}
use Rattle.tenant_registry.specs.declared.documents.NotAdded.TheVariants.{OutOfMemory}
use Rattle.tenant_registry.specs.declared.in_force.Newcomer.{Newcomer}
use Rattle.tenant_registry.specs.NotAdded.{why_not, not_added_text}
use Rattle.tenant_registry.specs.Documents.{IsUnread}
use Rattle.tenant_registry.specs.InForce.{IsLetIn, IsTurnedAway}
use Rattle.service_control.specs.Comings.{Standing, IsAdded, added, not_joined, turned_away, unread, IsJoined, IsNotJoined, IsStruck}

module _ (reads : Reads) (first : SettingsData) (shards : ℕ) (path : List ℕ) (standing : Standing) (old : CallerState) (left : Standing) where
  -- nobody came, and no step was made
  abbrev pub NobodyCame : NotAdded → Type 0
  NobodyCame why = IsAdded reads first shards path standing old left old (not_added_text why)

  pub not_heard : (why : NotAdded) → IsUnread reads path why → left ≡ standing → NobodyCame why
  not_heard why is same = unread why is same

  -- there was no memory
  pub without_room : (text : List ℕ) (why : NotAdded) → reads path (Ok text) → why ≡ OutOfMemory → left ≡ standing → NobodyCame why
  without_room text why read is same =
      subst NobodyCame (sym is) (turned_away text None read (inl (ap (λ (s : Standing). s.changes) same)) (ap (λ (s : Standing). s.present) same))

  pub not_let_in : (text : List ℕ) (fault : Option FaultData) (why : NotAdded) → why ≡ why_not fault → reads path (Ok text)
      → IsTurnedAway first standing.changes text fault left.changes → left.present ≡ standing.present → NobodyCame why
  not_let_in text fault why is read away same = subst NobodyCame (sym is) (turned_away text fault read away same)

  -- who was let in joined its shard
  pub joins : (text : List ℕ) (newcomer : Newcomer) (changes : List Change) (new : CallerState) (line : List ℕ) → reads path (Ok text)
      → IsLetIn first standing.changes text newcomer changes
      → IsJoined shards newcomer standing.present old left.present new line × (left.changes ≡ changes)
      → IsAdded reads first shards path standing old left new line
  joins text newcomer changes new line read came joined = added text newcomer new line read (came.0, joined.1 ∙ came.1) joined.0

  -- or it didn't, and there is no line of it
  pub joins_not : {T : Type 0} (text : List ℕ) (newcomer : Newcomer) (known : Standing) (new : CallerState) (line : Result T NotAdded)
      → reads path (Ok text) → IsLetIn first standing.changes text newcomer known.changes → known.present ≡ standing.present
      → IfErr line (λ why. IsNotJoined shards newcomer old new why × IsStruck newcomer known left)
      → IfErr line (λ why. IsAdded reads first shards path standing old left new (not_added_text why))
  joins_not text newcomer known new (Ok line) read came same out = tt
  joins_not text newcomer known new (Err why) read came same out =
      not_joined text newcomer why new read came.0 out.0 (out.1.0 ∙ same)
      (out.1.1 ∙ ap (λ l. l ++ strike newcomer.number ∷ []) came.1 ∙ append_assoc standing.changes (admit text ∷ []) (strike newcomer.number ∷ []))
