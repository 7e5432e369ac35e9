-- What is remembered of how a reader or a writer failed. This project's own rule.
use Rattle.std.specs.Prelude.{◌≡◌, ◌≢◌, ◌+◌, ◌-◌, ◌^◌, min, Some}
use Rattle.std.specs.declared.io.ErrorKind.{ErrorKind}
use Rattle.std.specs.declared.io.ErrorKind.TheVariants as kinds
use Rattle.collector_command.specs.declared.watched.Watched.{Watched}

-- as much is remembered as before
abbrev pub RemembersNoMore : {S : Type 0} → Watched S → Watched S → Type 0
RemembersNoMore old new = (new.fault ≡ old.fault) × (new.failed ≡ old.failed)

-- a call that failed so is remembered, but for one that was only interrupted
pub record Remembers {S : Type 0} (kind : ErrorKind) (old new : Watched S) : Type 0 where
  pub fault : kind ≢ kinds.Interrupted → new.fault ≡ Some kind
  pub counted : kind ≢ kinds.Interrupted → new.failed ≡ min (old.failed + 1) (2 ^ 64 - 1)
  pub interrupted : kind ≡ kinds.Interrupted → RemembersNoMore old new
