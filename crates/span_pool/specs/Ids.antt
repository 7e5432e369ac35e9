-- The ids of traces and spans, as the trace data model of OpenTelemetry has them.
use Rattle.std.specs.Prelude.{ℕ, Bool, List, length, not, ◌==◌, ◌&&◌}
use Rattle.std.specs.List.{list_all}

-- an id of this many bytes, not all of them zero (W3C Trace Context, "trace-id" and "parent-id")
abbrev pub is_id : ℕ → List ℕ → Bool
is_id size bytes = length bytes == size && not (list_all (λ byte. byte == 0) bytes)
