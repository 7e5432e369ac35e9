-- How many spans a reply refused that was read, or that can't be.
use Rattle.std.proofs.Common.{◌≡◌, ℕ, List, Result, Ok, Err, refl, sym, ap, ◌∙◌}
use Rattle.otlp_trace.specs.Data.{ResponseData}
use Rattle.otlp_read.specs.declared.fault.ReadFault.{ReadFault}
use Rattle.otlp_read.specs.Response.{response_step, no_response, response_value_of, IsResponse}
use Rattle.otlp_read.proofs.Answered.{whole}
use Rattle.otlp_read.proofs.Laws.{makes, made}
use Rattle.send_retry.specs.Class.{refused_in, refused_by, refused_of}

pub read_refuses : (body : List ℕ) (v : ResponseData) → IsResponse body v → refused_of body ≡ refused_in v.partial_success
read_refuses body v is = ap refused_by (whole response_step no_response body ∙ made (response_step 100) 0 no_response v body is)

refuses_none : (body : List ℕ) (read : Result ResponseData ReadFault) → response_value_of body ≡ read → ((v : ResponseData) → IsResponse body v → ⊥) → refused_by read ≡ 0
refuses_none body (Ok v) is never = absurd (never v (makes (response_step 100) 0 no_response v body (sym (whole response_step no_response body) ∙ is)))
refuses_none body (Err fault) is never = refl

pub unread_refuses : (body : List ℕ) → ((v : ResponseData) → IsResponse body v → ⊥) → refused_of body ≡ 0
unread_refuses body never = refuses_none body (response_value_of body) refl never
