-- What the admin port tells, route by route, and which steps are made for it. This project's own rule.
use Rattle.std.specs.Prelude.{◌≡◌, ℕ, Bool, ◌&&◌, List, [], ◌∷◌, ◌++◌, length, true, false, Option, Some, None, codes, string_bytes}
use Rattle.admin_pages.specs.Figures.{TenantData}
use Rattle.admin_pages.specs.Json.{tenants_text}
use Rattle.admin_pages.specs.Metrics.{tenants_text as metrics_text}
use Rattle.admin_pages.specs.Route.{RouteData, Page, Metrics, Health, Readiness, Drain, Tenants, Add, Tenant, Retire, NoSuchPath, OtherMethod, route_of}
use Rattle.admin_pages.specs.Service.{service_text}
use Rattle.admin_pages.specs.Settings.{settled_text}
use Rattle.admin_pages.specs.declared.figures.LastAnswer.{LastAnswer}
use Rattle.admin_pages.specs.declared.service.ServiceFigures.{ServiceFigures}
use Rattle.drop_ledger.specs.Ledger.{LedgerData}
use Rattle.http_edge.specs.Message.{Request, Response}
use Rattle.http_edge.specs.Seen.{response_of}
use Rattle.http_edge.specs.declared.message.MediaType.TheVariants as media
use Rattle.http_edge.specs.declared.message.Reply.{Reply}
use Rattle.otlp_front.specs.Route.{names_in}
use Rattle.otlp_front.specs.Target.{path_of}
use Rattle.service_runtime.specs.LastAnswers.{IsAnswered}
use Rattle.service_runtime.specs.Notice.{notice_of, reply_of, not_allowed, unknown_reply}
use Rattle.service_runtime.specs.Token.{is_let_in}
use Rattle.service_runtime.specs.declared.desk.Asked.{Asked}
use Rattle.shared_hub.specs.Logs.{CallerState}
use Rattle.tail_settings.specs.Section.{SectionData}
use Rattle.tail_settings.specs.Settings.{SettingsData}
use Rattle.tenant_registry.specs.Changed.{TellsAdding}
use Rattle.tenant_registry.specs.Roster.{Present}
use Rattle.tenant_registry.specs.InForce.{CameOf}
use Rattle.tenant_registry.specs.Replies.{no_memory}
use Rattle.tenant_registry.specs.declared.roster.Present.{Present as Entry}
use Rattle.tenant_shard.specs.declared.waiting.Waiting.{Waiting}
use Rattle.service_front.specs.Figures.{figures_with, told_of}
use Rattle.service_front.specs.Pages.{AdminData, IsOfService, IsKnown, IsNobody, HasSection, TellsGoing, TellsReadiness, page_reply, drained_reply, refused_reply}
use Rattle.service_context.specs.Looks.{IsLooked, IsSeen, OnlyLooks}

-- a tenant was asked for so, its counters first, and what was told of it, if anything, is behind the figures of others
abbrev pub LooksMore : ℕ → Entry → CallerState → CallerState → List TenantData → List TenantData → Type 0
LooksMore shards tenant old new before after =
    (ledger : Option LedgerData) × (waiting : Waiting) × (answer : Option LastAnswer)
    × IsLooked old new shards tenant.number ledger × IsSeen new shards tenant.number waiting
    × IsAnswered tenant.number answer
    × (after ≡ told_of before (string_bytes tenant.name) ledger waiting answer)

-- these tenants were asked for so, one after the other, and this was told of those that hadn't gone
pub data AreLooked (shards : ℕ) (old : CallerState) : Present → List TenantData → CallerState → Type 0 where
  no_look : AreLooked shards old [] [] old
  look_more : (tenants : Present) (figures : List TenantData) (mid : CallerState) (tenant : ℕ) (name : List ℕ)
      (ledger : Option LedgerData) (waiting : Waiting) (answer : Option LastAnswer) (new : CallerState)
      → AreLooked shards old tenants figures mid → IsLooked mid new shards tenant ledger
      → IsSeen new shards tenant waiting → IsAnswered tenant answer
      → AreLooked shards old (tenants ++ (tenant, name) ∷ []) (told_of figures name ledger waiting answer) new

-- ---- the tenants' figures

-- these are the figures of the tenants of settings in force
pub record AreFigures (first : SettingsData) (shards : ℕ) (old new : CallerState) (figures : List TenantData)
    : Type 0 where
  pub now : SettingsData
  pub came : CameOf first now
  pub looked : AreLooked shards old (names_in now).tenants figures new

-- all tenants' figures as metrics, and those of the service behind them
pub record ShowsMetrics (first : SettingsData) (shards : ℕ) (admin : AdminData) (old new : CallerState)
    (told : Response) : Type 0 where
  pub figures : List TenantData
  pub looked : AreFigures first shards old new figures
  pub service : ServiceFigures
  pub of_service : IsOfService admin (length figures) service
  pub reply : told ≡ reply_of 200 media.Metrics (metrics_text figures ++ service_text service)

-- all tenants' figures as JSON
pub record ShowsTenants (first : SettingsData) (shards : ℕ) (old new : CallerState) (told : Response) : Type 0 where
  pub figures : List TenantData
  pub looked : AreFigures first shards old new figures
  pub reply : told ≡ reply_of 200 media.Json (tenants_text figures)

-- ---- one tenant

-- a tenant's figures with its settings in force; or that nobody has its name, or that it has gone meanwhile, as its
-- settings say or its shard
pub data ShowsTenant (first : SettingsData) (shards : ℕ) (name : List ℕ) (old new : CallerState) (told : Response)
    : Type 0 where
  shown : (number : ℕ) (section : SectionData) (ledger : LedgerData) (waiting : Waiting) (answer : Option LastAnswer)
      → IsKnown first name number
      → HasSection first number (Some section) → IsLooked old new shards number (Some ledger)
      → IsSeen new shards number waiting → IsAnswered number answer
      → told ≡ reply_of 200 media.Json (settled_text (figures_with name ledger waiting answer) section)
      → ShowsTenant first shards name old new told
  nobody : IsNobody first name → new ≡ old → told ≡ unknown_reply → ShowsTenant first shards name old new told
  left : (number : ℕ) → IsKnown first name number → HasSection first number None → new ≡ old → told ≡ unknown_reply
      → ShowsTenant first shards name old new told
  gone : (number : ℕ) (section : SectionData) → IsKnown first name number → HasSection first number (Some section)
      → IsLooked old new shards number None → told ≡ unknown_reply → ShowsTenant first shards name old new told

-- ---- all routes

-- What whoever is let in is told, by what is asked for with this body, and which steps were made meanwhile.
abbrev pub Shows : SettingsData → ℕ → AdminData → RouteData → List ℕ → CallerState → CallerState → Response → Type 0
Shows first shards admin Page body old new told = (told ≡ page_reply) × (new ≡ old)
Shows first shards admin Metrics body old new told = ShowsMetrics first shards admin old new told
Shows first shards admin Health body old new told = (told ≡ notice_of 200 (codes "state") (codes "ok")) × (new ≡ old)
Shows first shards admin Readiness body old new told = TellsReadiness told × (new ≡ old)
Shows first shards admin Drain body old new told = (told ≡ drained_reply) × (new ≡ old)
Shows first shards admin Tenants body old new told = ShowsTenants first shards old new told
Shows first shards admin Add body old new told = ((asked : Asked) × TellsAdding asked body told) × (new ≡ old)
Shows first shards admin (Tenant name) body old new told = ShowsTenant first shards name old new told
Shows first shards admin (Retire name) body old new told = TellsGoing first name told × (new ≡ old)
Shows first shards admin NoSuchPath body old new told =
    (told ≡ notice_of 404 (codes "error") (codes "no such path")) × (new ≡ old)
Shows first shards admin (OtherMethod methods) body old new told = (told ≡ not_allowed methods) × (new ≡ old)

-- the same of a reply of the code
abbrev pub ShowsReply : SettingsData → ℕ → AdminData → RouteData → List ℕ → CallerState → CallerState → Reply → Type 0
ShowsReply first shards admin route body old new reply =
    Shows first shards admin route body old new (response_of reply)

-- what a request asks for
abbrev pub route_in : Request → RouteData
route_in request = route_of request.method (path_of request.target)

-- whether counters are asked for there
abbrev pub is_for_figures : RouteData → Bool
is_for_figures Metrics = true
is_for_figures Tenants = true
is_for_figures (Tenant name) = true
is_for_figures _ = false

-- nothing was done, but that counters were asked for, where they may be
abbrev pub OnlyLooksIf : Bool → ℕ → CallerState → CallerState → Type 0
OnlyLooksIf true shards old new = OnlyLooks shards old new
OnlyLooksIf false shards old new = new ≡ old

-- a request may have counters asked for: it is let in, and asks for figures
abbrev pub may_look : AdminData → Request → Bool
may_look admin request =
    is_let_in admin.token request.headers (route_in request) && is_for_figures (route_in request)

-- A request is answered so: by its route, where it is let in, and else refused; or memory was refused, and nothing was
-- done but that counters were asked for.
pub data IsShown (first : SettingsData) (shards : ℕ) (admin : AdminData) (request : Request) (old new : CallerState)
    (told : Response) : Type 0 where
  let_in : is_let_in admin.token request.headers (route_in request) ≡ true
      → Shows first shards admin (route_in request) request.body old new told
      → IsShown first shards admin request old new told
  not_let_in : is_let_in admin.token request.headers (route_in request) ≡ false
      → told ≡ refused_reply admin.token → new ≡ old
      → IsShown first shards admin request old new told
  without_memory : OnlyLooksIf (may_look admin request) shards old new → told ≡ no_memory
      → IsShown first shards admin request old new told
