-- Each status that is told has a count of its own.
use Rattle.std.proofs.Common.{◌≡◌, ◌<◌, ◌+◌, ℕ, Bool, true, false, List, [], ◌∷◌, ◌⊎◌, ◌++◌, length, not, cond, Option, Some, None, inl, inr, arith, refl, subst}
use Rattle.admin_pages.specs.Status.{place_among}
use Rattle.http_edge.specs.Message.{Request, Response, expects}
use Rattle.http_edge.specs.Reply.{continue_text, refusal_text}
use Rattle.http_edge.specs.Talk.{Refuses, at_head, many_lines, long_chunks, bad_chunks, RefusesHead, bad_head, many_fields, long_head, bad_framing, long_length}
use Rattle.http_edge.specs.declared.message.RefusalForm.{RefusalForm}
use Rattle.otlp_front.specs.Route.{Names, Route, post, refuse, route_of, route_to, is_post, tenant_in, no_such_path, method_not_allowed, unknown_tenant, unsupported_type, unsupported_encoding}
use Rattle.otlp_front.specs.Fields.{has_protobuf, are_plain}
use Rattle.otlp_front.specs.Target.{is_for_traces}
use Rattle.tenant_rules.specs.Answers.{reply_of}
use Rattle.tenant_rules.specs.Intake.{Verdict, shutting_down, counter_limit, exhausted, accepted}
use Rattle.admin_tests.specs.Statuses.{HasCount, IsRefusal}

pub place_own : (ss : List ℕ) (a b : ℕ) → place_among ss a < length ss → place_among ss a ≡ place_among ss b → a ≡ b
place_own [] a b small same = absurd (omega (arith, small))
place_own (s ∷ ss) a b small same = grind (arith, place_own ss a b)

-- a refusal behind nothing
at_once : {form : RefusalForm} (bodiless : Bool) (status : ℕ) → HasCount status
    → IsRefusal form (refusal_text form bodiless status)
at_once bodiless status counted = record { front = []; bodiless = bodiless; status = status; at_front = inl refl; text_is = refl; counted = counted }

of_head : (bytes : List ℕ) (bodiless : Bool) (status : ℕ) → RefusesHead bytes bodiless status → HasCount status
of_head bytes _ _ (bad_head _) = omega arith
of_head bytes _ _ (many_fields _ _) = omega arith
of_head bytes _ _ (long_head _ _) = omega arith
of_head bytes _ _ (bad_framing h after _ _) = omega arith
of_head bytes _ _ (long_length h after n _ _ _) = omega arith

-- what is written before a body is read
either : (b : Bool) → (cond b continue_text [] ≡ []) ⊎ (cond b continue_text [] ≡ continue_text)
either true = inr refl
either false = inl refl

-- a refusal behind that
behind : {form : RefusalForm} (b bodiless : Bool) (status : ℕ) → HasCount status
    → IsRefusal form (cond b continue_text [] ++ refusal_text form bodiless status)
behind b bodiless status counted = record { front = cond b continue_text []; bodiless = bodiless; status = status; at_front = either b; text_is = refl; counted = counted }

pub of_bad : (form : RefusalForm) (bytes text : List ℕ) → Refuses form bytes text → IsRefusal form text
of_bad form bytes _ (at_head bodiless status e) = at_once bodiless status (of_head bytes bodiless status e)
of_bad form bytes _ (many_lines _ _ _) = at_once false 431 (omega arith)
of_bad form bytes _ (long_chunks h after _ _ _) = behind (expects h) _ 413 (omega arith)
of_bad form bytes _ (bad_chunks h after _ _ _) = behind (expects h) _ 400 (omega arith)

-- the status of a refusal
abbrev status_of : Route → ℕ
status_of (post tenant) = 200
status_of (refuse due) = due.status

for_200 : HasCount 200
for_200 = omega arith

for_403 : HasCount 403
for_403 = omega arith

for_404 : HasCount 404
for_404 = omega arith

for_405 : HasCount 405
for_405 = omega arith

for_415 : HasCount 415
for_415 = omega arith

by_tenant : (request : Request) (tenant : Option ℕ) → HasCount (status_of (route_to request.headers tenant))
by_tenant request None = for_403
by_tenant request (Some tenant) = by_type (has_protobuf request.headers) (are_plain request.headers)
  where
    by_type : (a b : Bool) → HasCount (status_of (cond (not a) (refuse unsupported_type) (cond (not b) (refuse unsupported_encoding) (post tenant))))
    by_type false b = for_415
    by_type true false = for_415
    by_type true true = for_200

by_route : (names : Names) (request : Request) → HasCount (status_of (route_of names request))
unfolding route_of
by_route names request = by_path (is_for_traces request.target) (is_post request.method)
  where
    by_path : (a b : Bool) → HasCount (status_of (cond (not a) (refuse no_such_path) (cond (not b) (refuse method_not_allowed) (route_to request.headers (tenant_in names request.headers)))))
    by_path false b = for_404
    by_path true false = for_405
    by_path true true = by_tenant request (tenant_in names request.headers)

pub of_no_tenant : (names : Names) (request : Request) (due : Response) → route_of names request ≡ refuse due → HasCount due.status
of_no_tenant names request due is = subst (λ route. HasCount (status_of route)) is (by_route names request)

pub of_post : (verdict : Verdict) → HasCount (reply_of verdict).status
of_post shutting_down = omega arith
of_post counter_limit = omega arith
of_post exhausted = omega arith
of_post (accepted invalid over_budget) = omega arith
