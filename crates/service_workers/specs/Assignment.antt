-- Who works at what. This project's own rule.
use Rattle.std.specs.Prelude.{ℕ, zero, suc, ◌-◌, List, [], ◌∷◌, ◌++◌, nat_lt, if◌then◌else◌}
use Rattle.service_workers.specs.declared.workers.Role.{Role}
use Rattle.service_workers.specs.declared.workers.Role.TheVariants.{Turner, Sender, Admin, Receiver}

-- what the thread of this number does, and at which shard's context: a turner for each shard, then so many senders, so
-- many for the admin port, and receivers
abbrev pub place_of : ℕ → ℕ → ℕ → ℕ → Role × ℕ
place_of shards senders admins number =
    if nat_lt number shards then (Turner, number)
    else if nat_lt (number - shards) senders then (Sender, 0)
    else if nat_lt (number - shards - senders) admins then (Admin, 0) else (Receiver, 0)

-- the places of so many threads, in the order of their numbers
abbrev pub places : ℕ → ℕ → ℕ → ℕ → List (Role × ℕ)
places shards senders admins zero = []
places shards senders admins (suc n) = places shards senders admins n ++ place_of shards senders admins n ∷ []
