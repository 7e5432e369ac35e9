-- Which statuses a client is told where spans come in, by the definitions of who tells them. Each has a count of its
-- own.
use Rattle.std.specs.Prelude.{◌≡◌, ℕ, ◌<◌, Bool, List, [], ◌⊎◌, ◌++◌, length}
use Rattle.admin_pages.specs.Status.{told_statuses, status_place}
use Rattle.http_edge.specs.Message.{Request, Response}
use Rattle.http_edge.specs.Reply.{continue_text, refusal_text, out_of_memory}
use Rattle.http_edge.specs.Talk.{Refuses}
use Rattle.http_edge.specs.declared.message.RefusalForm.{RefusalForm}
use Rattle.otlp_front.specs.Route.{Names, route_of, refuse}
use Rattle.tenant_rules.specs.Answers.{reply_of}
use Rattle.tenant_rules.specs.Intake.{Verdict}

-- a status is among those that have counts of their own
abbrev pub HasCount : ℕ → Type 0
HasCount status = status_place status < length told_statuses

-- bytes that are written for a bad message: a refusal in this form and of such a status, behind the leave to go on or
-- nothing
pub record IsRefusal (form : RefusalForm) (text : List ℕ) : Type 0 where
  pub front : List ℕ
  pub bodiless : Bool
  pub status : ℕ
  pub at_front : (front ≡ []) ⊎ (front ≡ continue_text)
  pub text_is : text ≡ front ++ refusal_text form bodiless status
  pub counted : HasCount status

pub record ToldAreCounted : Type 0 where
  -- two of these statuses have two counts
  pub own : (one other : ℕ) → HasCount one → status_place one ≡ status_place other → one ≡ other
  -- what is told of a message that is none
  pub bad : (form : RefusalForm) (bytes text : List ℕ) → Refuses form bytes text → IsRefusal form text
  -- of one for which no memory is left
  pub no_memory : (form : RefusalForm) → HasCount (out_of_memory form).status
  -- of one for no tenant
  pub no_tenant : (names : Names) (request : Request) (due : Response) → route_of names request ≡ refuse due
      → HasCount due.status
  -- and of a body that came to its tenant
  pub posted : (verdict : Verdict) → HasCount (reply_of verdict).status
