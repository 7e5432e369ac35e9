-- From where a message goes to what becomes of it.
use Rattle.std.proofs.Common.{◌≡◌, ℕ, List, Option, Some, None, refl, subst}
use Rattle.http_edge.specs.Message.{Request, Response, with_body}
use Rattle.otlp_front.specs.Route.{Names, Route, post, refuse, route_of}
use Rattle.otlp_front.specs.Seen.{response_for}
use Rattle.otlp_front.specs.declared.refusal.RouteRefusal.{RouteRefusal}
use Rattle.shared_hub.specs.Logs.{CallerState}
use Rattle.tail_settings.specs.declared.section.Section.{Section}
use Rattle.tail_settings.specs.Section.{SectionData, section_view}
use Rattle.tail_settings.specs.Settings.{SettingsData, section_at}
use Rattle.tenant_registry.specs.declared.in_force.Destination.TheVariants.{To, Nowhere}
use Rattle.tenant_registry.specs.InForce.{IsTenant, IsWhere}
use Rattle.tenant_registry.specs.Replies.{MayTell}
use Rattle.service_context.specs.Post.{IsSent, IsSentBy}

-- where a request goes its body has no say in
pub route_with_body : (names : Names) (request : Request) (body : List ℕ)
    → route_of names (with_body request body) ≡ route_of names request
unfolding route_of
route_with_body names request body = refl

module _ (before last : ℕ) (old new : CallerState) (shards : ℕ) (body : List ℕ) (told : Response) where
  to_tenant : (found : Option SectionData) (number tenant : ℕ) (own : Section) → IsTenant found number (To tenant own)
      → IsSent (Some (section_view own)) before last old new shards tenant body told
      → IsSent found before last old new shards number body told
  to_tenant (Some section) number tenant own is sent =
      subst (λ n. IsSent (Some section) before last old new shards n body told) is.0
      (subst (λ s. IsSent (Some s) before last old new shards tenant body told) is.1 sent)
  to_tenant None number tenant own is sent = absurd is

  -- a body was posted to the tenant that the route leads to
  pub sent_to : (route : Route) (now : SettingsData) (tenant : ℕ) (own : Section) → IsWhere route now (To tenant own)
      → IsSent (Some (section_view own)) before last old new shards tenant body told
      → IsSentBy route now before last old new shards body told
  sent_to (post number) now tenant own is sent = to_tenant (section_at now number) number tenant own is sent
  sent_to (refuse due) now tenant own is sent = absurd is

  nobody_there : (found : Option SectionData) (number : ℕ) (refusal : RouteRefusal) → IsTenant found number (Nowhere refusal)
      → new ≡ old → last ≡ before → MayTell (response_for refusal) told → IsSent found before last old new shards number body told
  nobody_there (Some section) number refusal is same stays tells = absurd is
  nobody_there None number refusal is same stays tells = (same, stays, subst (λ due. MayTell due told) is tells)

  -- a message was refused that the route leads to no tenant
  pub sent_nowhere : (route : Route) (now : SettingsData) (refusal : RouteRefusal) → IsWhere route now (Nowhere refusal)
      → new ≡ old → last ≡ before → MayTell (response_for refusal) told → IsSentBy route now before last old new shards body told
  sent_nowhere (post number) now refusal is same stays tells = nobody_there (section_at now number) number refusal is same stays tells
  sent_nowhere (refuse due) now refusal is same stays tells = (same, stays, subst (λ d. MayTell d told) is tells)
