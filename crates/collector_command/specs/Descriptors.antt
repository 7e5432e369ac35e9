-- How many files a process may have open, as Linux tells it in /proc/self/limits (proc(5): a line for each limit, which
-- is a title, the soft limit and the hard limit, parted by spaces), and how many a service needs. This project's own
-- rule.
use Rattle.std.specs.Prelude.{codes, ℕ, ◌+◌, List, [], nat_le, Option, Some, None, if◌then◌else◌}
use Rattle.service_runtime.specs.ProcText.{number_behind}
use Rattle.collector_command.specs.declared.descriptors.ThreadCounts.{ThreadCounts}

-- behind this stands the limit
abbrev pub title : List ℕ
title = codes "Max open files"

-- the soft limit of open files that a text tells; none where it tells none, or `unlimited`
abbrev pub open_files : List ℕ → Option ℕ
open_files limits = number_behind title [] limits

-- what an admin port with so many threads has open: its listener, the file of what the system tells of the
-- process, and a connection of each
abbrev pub port_needs : Option ℕ → ℕ
port_needs None = 0
port_needs (Some admins) = admins + 2

-- a descriptor for each connection of a receiver or a sender, and those of an admin port; three standard ones,
-- the listener, and one of who reads the input, for a file that a line names or a connection that wakes a receiver
abbrev pub needed : ThreadCounts → ℕ
needed threads = threads.receivers + threads.senders + port_needs threads.admins + 5

-- a limit that is lower than what is needed
abbrev pub lower_than : ℕ → Option ℕ → Option ℕ
lower_than needed None = None
lower_than needed (Some limit) = if nat_le needed limit then None else Some limit

-- the limit of open files, where these threads need more
abbrev pub too_low : List ℕ → ThreadCounts → Option ℕ
too_low limits threads = lower_than (needed threads) (open_files limits)
