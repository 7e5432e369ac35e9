-- What becomes of a body that is posted, and what its sender is told (OTLP/HTTP).
use Rattle.std.specs.Prelude.{◌≡◌, ℕ, ◌%◌, List, [], ◌∷◌, Option, Some, None}
use Rattle.http_edge.specs.Message.{Request, Response}
use Rattle.machine_hub.specs.declared.receipt.Receipt.{Receipt}
use Rattle.machine_hub.specs.Hub.{IsRefusedOn}
use Rattle.otlp_front.specs.Route.{Route, names_in, route_of, post, refuse, unknown_tenant}
use Rattle.prepared_body.specs.Prepared.{PreparedData}
use Rattle.otlp_prepare.specs.Prepared.{prepared_of}
use Rattle.otlp_read.specs.Value.{IsValue}
use Rattle.otlp_trace.specs.Data.{RequestData}
use Rattle.service_runtime.specs.Moments.{Rises}
use Rattle.shared_hub.specs.Logs.{CallerState, IsStepOn}
use Rattle.tail_settings.specs.Section.{SectionData}
use Rattle.tail_settings.specs.Settings.{SettingsData, section_at}
use Rattle.tenant_registry.specs.InForce.{CameOf}
use Rattle.tenant_registry.specs.Replies.{answer, bad_request, no_memory, MayTell}
use Rattle.tenant_shard.specs.declared.step.Step.TheVariants as steps
use Rattle.tenant_shard.specs.declared.step.Outcome.{Outcome}
use Rattle.tenant_shard.specs.declared.step.Outcome.TheVariants as outcomes

-- what the sender of a body is told of its outcome: the shard's reply; or that there is no such tenant, where the shard
-- refused the step
abbrev pub Tells : Outcome → Response → Type 0
Tells (outcomes.Reply tenant reply) told = told ≡ answer reply.status reply.body
Tells _ told = MayTell unknown_tenant told

-- one post of what was prepared was made at a shard, and its outcome told; or it was refused memory
pub data IsStepped (old new : CallerState) (shard now : ℕ) (prepared : PreparedData) (told : Response) : Type 0 where
  made : (outcome : Outcome) (receipt : Option Receipt)
      → IsStepOn old new shard (steps.Post now prepared) outcome receipt → Tells outcome told
      → IsStepped old new shard now prepared told
  not_made : IsRefusedOn old new shard → told ≡ no_memory → IsStepped old new shard now prepared told

-- a body that has no value is answered so, and is no step; of one that has one, one post is made at its tenant's shard;
-- or memory was refused before any step
pub data IsPosted (old new : CallerState) (shards now tenant : ℕ) (section : SectionData) (body : List ℕ)
    (told : Response)
    : Type 0 where
  bad : ((v : RequestData) → IsValue body v → ⊥) → new ≡ old → MayTell bad_request told
      → IsPosted old new shards now tenant section body told
  stepped : (v : RequestData) → IsValue body v
      → IsStepped old new (tenant % shards) now (prepared_of tenant section v) told
      → IsPosted old new shards now tenant section body told
  not_read : new ≡ old → told ≡ no_memory → IsPosted old new shards now tenant section body told

-- the body of a tenant with this section is posted, at the moment that the beat gave, which is its last one then and
-- not below the one before; where there is no such tenant, nothing is done
abbrev pub IsSent : Option SectionData → ℕ → ℕ → CallerState → CallerState → ℕ → ℕ → List ℕ → Response → Type 0
IsSent (Some section) before last old new shards tenant body told =
    (now : ℕ) × Rises before (now ∷ []) last × IsPosted old new shards now tenant section body told
IsSent None before last old new shards tenant body told =
    (new ≡ old) × (last ≡ before) × MayTell unknown_tenant told

-- a message that goes to no tenant is refused, and makes no step; the body of one that goes to a tenant is posted
abbrev pub IsSentBy : Route → SettingsData → ℕ → ℕ → CallerState → CallerState → ℕ → List ℕ → Response → Type 0
IsSentBy (refuse due) settings before last old new shards body told =
    (new ≡ old) × (last ≡ before) × MayTell due told
IsSentBy (post tenant) settings before last old new shards body told =
    IsSent (section_at settings tenant) before last old new shards tenant body told

-- A message is handled so, by who has a beat whose last moments these are, before and after: as settings say that came
-- of the first ones; or memory was refused, for a copy of the tenant's section, or for the body, of which nothing is
-- kept.
pub data IsHandled (first : SettingsData) (before last : ℕ) (old new : CallerState) (shards : ℕ) (request : Request)
    (told : Response) : Type 0 where
  handled : (now : SettingsData) → CameOf first now
      → IsSentBy (route_of (names_in now) request) now before last old new shards request.body told
      → IsHandled first before last old new shards request told
  no_room : last ≡ before → new ≡ old → told ≡ no_memory
      → IsHandled first before last old new shards request told
