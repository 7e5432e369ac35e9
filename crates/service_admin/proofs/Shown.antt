-- What is shown, and what was asked for it.
use Rattle.std.proofs.Common.{◌≡◌, ℕ, ◌+◌, ◌%◌, ◌<◌, List, [], ◌∷◌, ◌++◌, length, map, take, get_or, Bool, true, false, ◌&&◌, Result, Ok, Err, IfOk, OnOk, OnErr, Option, Some, None, Vec, Global, refl, sym, ap, subst, ◌∙◌, string_bytes}
use Rattle.std.proofs.lemmas.List.{map_more}
use Rattle.admin_pages.specs.Figures.{TenantData, tenant_of}
use Rattle.admin_pages.specs.declared.figures.LastAnswer.{LastAnswer}
use Rattle.admin_pages.specs.declared.figures.TenantFigures.{TenantFigures}
use Rattle.drop_ledger.specs.Ledger.{LedgerData}
use Rattle.admin_pages.specs.Route.{RouteData, Page, Metrics, Health, Readiness, Drain, Tenants, Add, Tenant, Retire, NoSuchPath, OtherMethod}
use Rattle.admin_pages.specs.declared.service.ServiceFigures.{ServiceFigures}
use Rattle.http_edge.specs.declared.message.RefusalForm.{RefusalForm}
use Rattle.http_edge.specs.Message.{Request, Response}
use Rattle.http_edge.specs.Seen.{response_of}
use Rattle.http_edge.specs.declared.message.Reply.{Reply}
use Rattle.machine_hub.specs.Hub.{IsRefusedOn}
use Rattle.otlp_front.specs.Route.{names_in}
use Rattle.service_runtime.specs.LastAnswers.{IsAnswered}
use Rattle.service_runtime.specs.Receiving.{IsTalk}
use Rattle.service_runtime.specs.Token.{is_let_in}
use Rattle.service_runtime.proofs.Talked.{talk_keeps}
use Rattle.shared_hub.specs.Logs.{CallerState}
use Rattle.tail_settings.specs.Settings.{SettingsData}
use Rattle.tenant_registry.specs.declared.roster.Present.{Present as Entry}
use Rattle.tenant_registry.specs.Roster.{Present, entry_of}
use Rattle.tenant_registry.specs.InForce.{CameOf}
use Rattle.tenant_registry.proofs.Answered.{if_ok, on_err}
use Rattle.tenant_shard.specs.declared.waiting.Waiting.{Waiting}
use Rattle.service_admin.specs.Shown.{AreFigures, AreLooked, no_look, look_more, LooksMore, IsShown, let_in, not_let_in, without_memory, route_in, Shows, ShowsTenant, shown, nobody, left, gone, OnlyLooksIf, is_for_figures, may_look}
use Rattle.service_front.specs.Pages.{AdminData, IsOfService, refused_reply}
use Rattle.service_context.specs.Looks.{IsLooked, IsSeen, OnlyLooks, nothing, looked, refused}
use Rattle.service_front.specs.Figures.{told_of}

pub unchanged : (shards : ℕ) (old new : CallerState) → new ≡ old → OnlyLooks shards old new
unchanged shards old new same = subst (λ s. OnlyLooks shards old s) (sym same) nothing

pub one_refused : (shards : ℕ) (old : CallerState) (tenant : ℕ) (new : CallerState) → IsRefusedOn old new (tenant % shards)
    → OnlyLooks shards old new
one_refused shards old tenant new refusal = refused old tenant new nothing refusal

pub one_looked : (shards : ℕ) (old : CallerState) (tenant : ℕ) (ledger : Option LedgerData) (new : CallerState)
    → IsLooked old new shards tenant ledger → OnlyLooks shards old new
one_looked shards old tenant ledger new look = looked old tenant ledger new nothing look

pub looks_then : (shards : ℕ) (old mid : CallerState) {new : CallerState} → OnlyLooks shards old mid → OnlyLooks shards mid new
    → OnlyLooks shards old new
looks_then shards old mid before nothing = before
looks_then shards old mid before (looked at tenant ledger new more look) =
    looked at tenant ledger new (looks_then shards old mid before more) look
looks_then shards old mid before (refused at tenant new more refusal) =
    refused at tenant new (looks_then shards old mid before more) refusal

pub all_looked : (shards : ℕ) (old : CallerState) {tenants : Present} {figures : List TenantData} {new : CallerState}
    → AreLooked shards old tenants figures new → OnlyLooks shards old new
all_looked shards old no_look = nothing
all_looked shards old (look_more tenants figures mid tenant name ledger waiting answer new before look seen answered) =
    looked mid tenant ledger new (all_looked shards old before) look

-- ---- whatever was asked, it was only looked

looks_if : (b : Bool) (shards : ℕ) (old new : CallerState) → OnlyLooksIf b shards old new → OnlyLooks shards old new
looks_if true shards old new looks = looks
looks_if false shards old new same = unchanged shards old new same

tenant_looked : (first : SettingsData) (shards : ℕ) (name : List ℕ) (old new : CallerState) (told : Response)
    → ShowsTenant first shards name old new told → OnlyLooks shards old new
tenant_looked first shards name old new told (shown number section ledger waiting answer known has look seen answered reply) =
    one_looked shards old number (Some ledger) new look
tenant_looked first shards name old new told (nobody is same reply) = unchanged shards old new same
tenant_looked first shards name old new told (left number known has same reply) = unchanged shards old new same
tenant_looked first shards name old new told (gone number section known has look reply) =
    one_looked shards old number None new look

route_looked : (first : SettingsData) (shards : ℕ) (admin : AdminData) (route : RouteData) (body : List ℕ) (old new : CallerState)
    (told : Response) → Shows first shards admin route body old new told → OnlyLooks shards old new
route_looked first shards admin Page body old new told is = unchanged shards old new is.1
route_looked first shards admin Metrics body old new told is = all_looked shards old is.looked.looked
route_looked first shards admin Health body old new told is = unchanged shards old new is.1
route_looked first shards admin Readiness body old new told is = unchanged shards old new is.1
route_looked first shards admin Drain body old new told is = unchanged shards old new is.1
route_looked first shards admin Tenants body old new told is = all_looked shards old is.looked.looked
route_looked first shards admin Add body old new told is = unchanged shards old new is.1
route_looked first shards admin (Tenant name) body old new told is = tenant_looked first shards name old new told is
route_looked first shards admin (Retire name) body old new told is = unchanged shards old new is.1
route_looked first shards admin NoSuchPath body old new told is = unchanged shards old new is.1
route_looked first shards admin (OtherMethod methods) body old new told is = unchanged shards old new is.1

request_looked : (first : SettingsData) (shards : ℕ) (admin : AdminData) (request : Request) (old new : CallerState)
    (told : Response) → IsShown first shards admin request old new told → OnlyLooks shards old new
request_looked first shards admin request old new told (let_in may shows) =
    route_looked first shards admin (route_in request) request.body old new told shows
request_looked first shards admin request old new told (not_let_in may is same) = unchanged shards old new same
request_looked first shards admin request old new told (without_memory looks is) =
    looks_if (may_look admin request) shards old new looks

-- so it is over a whole connection, while the same caller is lent
pub connection_looked : {form : RefusalForm} {H N : Type 0} (answers : H → Request → Response → H → Type 0) (caller : H → CallerState) (name : H → N)
    (admin : H → AdminData) (first : SettingsData) (shards : ℕ) (old new : H) → IsTalk form answers old new
    → ((a : H) (request : Request) (told : Response) (b : H) → answers a request told b
    → IsShown first shards (admin a) request (caller a) (caller b) told × (name b ≡ name a))
    → OnlyLooks shards (caller old) (caller new) × (name new ≡ name old)
connection_looked {H = H} answers caller name admin first shards old new talk says =
    let Keeps : H → H → Type 0 = λ a b. OnlyLooks shards (caller a) (caller b) × (name b ≡ name a) in
    talk_keeps answers Keeps (λ s. (nothing, refl))
    (λ a b c before after. (looks_then shards (caller a) (caller b) before.0 after.0, after.1 ∙ before.1))
    (λ a request told b answer. let is = says a request told b answer in
    (request_looked first shards (admin a) request (caller a) (caller b) told is.0, is.1))
    old new talk

-- ---- one tenant more

pub looks_more : (shards : ℕ) (x : Entry) (old mid new : CallerState) (before after : List TenantData) (ledger : Option LedgerData)
    (waiting : Waiting) (answer : Option LastAnswer) → IsLooked old mid shards x.number ledger → IsSeen mid shards x.number waiting
    → IsAnswered x.number answer → new ≡ mid → after ≡ told_of before (string_bytes x.name) ledger waiting answer
    → LooksMore shards x old new before after
looks_more shards x old mid new before after ledger waiting answer look seen answered same is =
    subst (λ s. LooksMore shards x old s before after) (sym same) (ledger, waiting, answer, look, seen, answered, is)

one_more : (xs : List Entry) (i : ℕ) (x : Entry) → i < length xs → x ≡ get_or xs i x
    → map entry_of (take (i + 1) xs) ≡ map entry_of (take i xs) ++ entry_of x ∷ []
one_more xs i x within at = map_more entry_of xs i x within ∙ ap (λ y. map entry_of (take i xs) ++ entry_of y ∷ []) (sym at)

module _ (shards : ℕ) (old : CallerState) (xs : List Entry) (i : ℕ) (x : Entry) (figures more : List TenantData)
    (mid : CallerState) (ledger : Option LedgerData) (waiting : Waiting) (answer : Option LastAnswer) (new : CallerState) where
  pub looked_more : i < length xs → x ≡ get_or xs i x → AreLooked shards old (map entry_of (take i xs)) figures mid
      → IsLooked mid new shards x.number ledger → IsSeen new shards x.number waiting → IsAnswered x.number answer
      → more ≡ told_of figures (string_bytes x.name) ledger waiting answer
      → AreLooked shards old (map entry_of (take (i + 1) xs)) more new
  looked_more within at before look seen answered more_is =
      subst (λ ts. AreLooked shards old ts more new) (sym (one_more xs i x within at))
      (subst (λ fs. AreLooked shards old (map entry_of (take i xs) ++ entry_of x ∷ []) fs new) (sym more_is)
      (look_more (map entry_of (take i xs)) figures mid x.number (string_bytes x.name) ledger waiting answer new before look seen answered))

-- ---- replies

-- so it is told, and nothing was done
pub says : {E : Type 0} (r : Result Reply E) (P : Response → Type 0) (old new : CallerState) → new ≡ old
    → IfOk r (λ reply. P (response_of reply)) → IfOk r (λ reply. P (response_of reply) × (new ≡ old))
says (Ok reply) P old new same is = (is, same)
says (Err e) P old new same is = tt

-- the same by a route that is known
pub shown_at : {E : Type 0} (r : Result Reply E) (first : SettingsData) (shards : ℕ) (admin : AdminData) (there route : RouteData)
    (body : List ℕ) (old new : CallerState) → there ≡ route
    → IfOk r (λ reply. Shows first shards admin route body old new (response_of reply))
    → IfOk r (λ reply. Shows first shards admin there body old new (response_of reply))
shown_at r first shards admin there route body old new same shows =
    subst (λ x. IfOk r (λ reply. Shows first shards admin x body old new (response_of reply))) (sym same) shows

pub looked_at : {T E : Type 0} (r : Result T E) (shards : ℕ) (there route : RouteData) (old new : CallerState) → there ≡ route
    → OnErr r (OnlyLooksIf (is_for_figures route) shards old new) → OnErr r (OnlyLooksIf (is_for_figures there) shards old new)
looked_at r shards there route old new same looks =
    subst (λ x. OnErr r (OnlyLooksIf (is_for_figures x) shards old new)) (sym same) looks

module _ {E : Type 0} (first : SettingsData) (shards : ℕ) (admin : AdminData) (request : Request) (old new : CallerState)
    (r : Result Reply E) where
  pub shown_so : (route : RouteData) → route ≡ route_in request → is_let_in admin.token request.headers route ≡ true
      → IfOk r (λ reply. Shows first shards admin route request.body old new (response_of reply))
      → IfOk r (λ reply. IsShown first shards admin request old new (response_of reply))
  shown_so route same may shows =
      if_ok r (λ told. Shows first shards admin route request.body old new told) (λ told. IsShown first shards admin request old new told)
      (λ told is. let_in (subst (λ x. is_let_in admin.token request.headers x ≡ true) same may)
      (subst (λ x. Shows first shards admin x request.body old new told) same is)) shows

  pub refused_so : (route : RouteData) → route ≡ route_in request → is_let_in admin.token request.headers route ≡ false
      → new ≡ old → IfOk r (λ reply. response_of reply ≡ refused_reply admin.token)
      → IfOk r (λ reply. IsShown first shards admin request old new (response_of reply))
  refused_so route same may unchanged says =
      if_ok r (λ told. told ≡ refused_reply admin.token) (λ told. IsShown first shards admin request old new told)
      (λ told is. not_let_in (subst (λ x. is_let_in admin.token request.headers x ≡ false) same may) is unchanged) says

-- what was done where memory was refused
module _ {T E : Type 0} (shards : ℕ) (admin : AdminData) (request : Request) (old new : CallerState) (r : Result T E) where
  pub looked_so : (route : RouteData) → route ≡ route_in request → is_let_in admin.token request.headers route ≡ true
      → OnErr r (OnlyLooksIf (is_for_figures route) shards old new) → OnErr r (OnlyLooksIf (may_look admin request) shards old new)
  looked_so route same may looks =
      subst (λ x. OnErr r (OnlyLooksIf (x && is_for_figures (route_in request)) shards old new))
      (sym (subst (λ x. is_let_in admin.token request.headers x ≡ true) same may))
      (subst (λ x. OnErr r (OnlyLooksIf (is_for_figures x) shards old new)) same looks)

  pub not_looked : (route : RouteData) → route ≡ route_in request → is_let_in admin.token request.headers route ≡ false
      → new ≡ old → OnErr r (OnlyLooksIf (may_look admin request) shards old new)
  not_looked route same may unchanged =
      subst (λ x. OnErr r (OnlyLooksIf (x && is_for_figures (route_in request)) shards old new))
      (sym (subst (λ x. is_let_in admin.token request.headers x ≡ false) same may)) (on_err r (new ≡ old) unchanged)

-- ---- figures

pub on_ok : {T E : Type 0} (r : Result T E) (P Q : Type 0) → (P → Q) → OnOk r P → OnOk r Q
on_ok (Ok x) P Q f is = f is
on_ok (Err e) P Q f is = tt

pub figures_found : {E : Type 0} (first : SettingsData) (shards : ℕ) (old new : CallerState) (now : SettingsData) (xs : List Entry)
    (r : Result (Vec TenantFigures Global) E) → CameOf first now → map entry_of xs ≡ (names_in now).tenants
    → IfOk r (λ fs. AreLooked shards old (map entry_of xs) (map tenant_of fs.items) new)
    → IfOk r (λ fs. AreFigures first shards old new (map tenant_of fs.items))
figures_found first shards old new now xs (Ok fs) came are look = record {
  now = now;
  came = came;
  looked = subst (λ ts. AreLooked shards old ts (map tenant_of fs.items) new) are look;
}
figures_found first shards old new now xs (Err e) came are look = tt

-- ---- the service's figures

pub of_service : (admin : AdminData) (n m : ℕ) (s : ServiceFigures) → n ≡ m → IsOfService admin n s → IsOfService admin m s
of_service admin n m s count of = subst (λ k. IsOfService admin k s) count of
