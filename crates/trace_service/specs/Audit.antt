-- What the service prints of its shards' logs. This project's own rule.
use Rattle.std.specs.Prelude.{◌≡◌, ℕ, List, [], ◌∷◌, ◌++◌, codes, length, Bool, true, false}
use Rattle.std.specs.Fmt.{decimal}
use Rattle.service_runtime.specs.Output.{Output, IsPut}
use Rattle.shared_hub.specs.Logs.{LoggedShard}

-- how many entries a shard's log has
abbrev pub audit_line : ℕ → ℕ → List ℕ
audit_line shard entries = codes "audit " ++ decimal shard ++ codes " " ++ decimal entries ++ codes "\n"

-- the same of each shard, in their order
abbrev pub audit_text : List LoggedShard → List ℕ
audit_text [] = []
audit_text (s ∷ ss) = audit_line s.number (length s.entries) ++ audit_text ss

-- behind what was written so far these lines stand where an audit is asked for, and else nothing
abbrev pub IsFollowed : Bool → List ℕ → Output → Output → Type 0
IsFollowed true lines so_far written = IsPut so_far written lines
IsFollowed false lines so_far written = written ≡ so_far
