use Rattle.std.proofs.Common.{◌≡◌, ◌<◌, ℕ, List, [], ◌∷◌, arith, length, lit<, refl}
use Rattle.http_edge.specs.Reply.{status_body}
use Rattle.otlp_trace.proofs.Spelled.{unless_full}
use Rattle.otlp_trace.specs.Text.{bytes_field, refusal_text}
use Rattle.pb_wire.proofs.Written.{groups_one}
use Rattle.tenant_registry.proofs.statuses_agree.Goals as goal

agree : (message : List ℕ) → 0 < length message → length message < 128 → status_body message ≡ refusal_text message
agree [] some small = absurd (omega arith)
agree (byte ∷ bytes) some small =
    rw (unless_full byte bytes (bytes_field 2 (byte ∷ bytes)), groups_one 9 18 (lit< tt), groups_one 9 (length (byte ∷ bytes)) small) refl

pub returns : goal.returns
returns c = agree
