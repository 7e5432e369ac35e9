-- What came of a connection, whether it was broken off or not.
use Rattle.std.proofs.Common.{◌≡◌, ◌⊎◌, ℕ, List, [], ◌∷◌, Bool, Result, Ok, Err, OnOk, IfErr, inl, inr, subst, sym}
use Rattle.http_edge.specs.Message.{Request, Response, request_of}
use Rattle.http_edge.specs.Talk.{Talk, Begins, Exchange, Runs, Ends, waits, refuses, closing, Due, reading_head, reading_body, interim, refusing, replying, Lacks, at_front, behind_head, at_refusal, at_body, at_reply, IsDue, breaking, lacking}
use Rattle.http_edge.specs.declared.message.RefusalForm.{RefusalForm}
use Rattle.http_edge.specs.declared.wire.EdgeFault.{EdgeFault}
use Rattle.service_runtime.specs.Receiving.{IsTalk}

pub talked : {form : RefusalForm} {H T : Type 0} (answers : H → Request → Response → H → Type 0) (old new : H) (M : List ℕ → List ℕ → Type 0) (E : Bool → Type 0)
    (r : Result T EdgeFault)
    → OnOk r ((read : List ℕ) × (written : List ℕ) × (over : Bool) × M read written × Talk form answers old read new written over × E over)
    → IfErr r (λ fault. (read : List ℕ) × (written : List ℕ) × M read written × Begins form fault answers old read new written)
    → IsTalk form answers old new
talked answers old new M E (Ok x) talk fault = (talk.0, talk.1, inl (talk.2, talk.4))
talked answers old new M E (Err e) talk fault = (fault.0, fault.1, inr (e, fault.3))

-- what each answer keeps, and what is kept along, is kept over a whole connection
module _ {H : Type 0} (answers : H → Request → Response → H → Type 0) (Keeps : H → H → Type 0) (at_rest : (s : H) → Keeps s s)
    (along : (a b c : H) → Keeps a b → Keeps b c → Keeps a c)
    (each : (a : H) (request : Request) (told : Response) (b : H) → answers a request told b → Keeps a b) where
  stays : (old new : H) → new ≡ old → Keeps old new
  stays old new same = subst (λ s. Keeps old s) (sym same) (at_rest old)

  runs_keep : (old : H) (es : List Exchange) (new : H) → Runs answers old es new → Keeps old new
  runs_keep old [] new runs = stays old new runs
  runs_keep old (e ∷ es) new runs =
      along old runs.0 new (each old (request_of e.message) e.reply runs.0 runs.1) (runs_keep runs.0 es new runs.2)

  module _ (old : H) (rest : List ℕ) (new : H) where
    ends_keep : {form : RefusalForm} {text : List ℕ} {over : Bool} → Ends form answers old rest new text over → Keeps old new
    ends_keep (waits text due same) = stays old new same
    ends_keep (refuses text due same) = stays old new same
    ends_keep (closing e after message closes answer) = each old (request_of e.message) e.reply new answer

    due_keep : {form : RefusalForm} {fault : EdgeFault} {text : List ℕ} → Due form fault answers old rest new text → Keeps old new
    due_keep (reading_head is none same) = stays old new same
    due_keep (reading_body is h may none same) = stays old new same
    due_keep (interim is h may same) = stays old new same
    due_keep (refusing is text due same) = stays old new same
    due_keep (replying is e after message answer) = each old (request_of e.message) e.reply new answer

    lacks_keep : {bodiless : Bool} {text : List ℕ} → Lacks answers old rest new bodiless text → Keeps old new
    lacks_keep (at_front lack same) = stays old new same
    lacks_keep (behind_head h after has same) = stays old new same
    lacks_keep (at_refusal bodiless status bad same) = stays old new same
    lacks_keep (at_body h may same) = stays old new same
    lacks_keep (at_reply e after message answer some) = each old (request_of e.message) e.reply new answer

    fault_keeps : {form : RefusalForm} {fault : EdgeFault} {text : List ℕ} → IsDue form fault answers old rest new text → Keeps old new
    fault_keeps (breaking text due) = due_keep due
    fault_keeps (lacking text bodiless other lacks) = lacks_keep lacks

  one_keeps : {form : RefusalForm} (old new : H) (read written : List ℕ)
      → ((over : Bool) × Talk form answers old read new written over) ⊎ ((fault : EdgeFault) × Begins form fault answers old read new written)
      → Keeps old new
  one_keeps old new read written (inl whole) =
      let talk = whole.1 in
      along old talk.mid new (runs_keep old talk.exchanges talk.mid talk.runs) (ends_keep talk.mid talk.rest new talk.due)
  one_keeps old new read written (inr broken) =
      let talk = broken.1.1 in
      along old talk.mid new (runs_keep old talk.exchanges talk.mid talk.runs) (fault_keeps talk.mid talk.rest new talk.due)

  pub talk_keeps : {form : RefusalForm} (old new : H) → IsTalk form answers old new → Keeps old new
  talk_keeps old new talk = one_keeps old new talk.0 talk.1 talk.2
