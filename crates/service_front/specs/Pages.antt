-- What the admin port answers beside the tenants' figures. This project's own rule.
use Rattle.std.specs.Prelude.{◌≡◌, ◌⊎◌, ℕ, List, Option, Some, None, option_copied, codes, IsUtf8}
use Rattle.std.specs.Borrow.{Bor}
use Rattle.admin_page.specs.declared.page.TheConstants.{PAGE}
use Rattle.admin_pages.specs.declared.service.ServiceFigures.{ServiceFigures}
use Rattle.http_edge.specs.Message.{Response}
use Rattle.http_edge.specs.declared.message.MediaType.TheVariants as media
use Rattle.service_runtime.specs.Notice.{notice_of, reply_of, unknown_reply}
use Rattle.service_runtime.specs.declared.desk.Asked.{Asked}
use Rattle.service_runtime.specs.declared.admin_port.AdminPort.{AdminPort}
use Rattle.tail_settings.specs.Section.{SectionData}
use Rattle.tail_settings.specs.Settings.{SettingsData, number_of, section_at}
use Rattle.tenant_registry.specs.Changed.{TellsRetiring}
use Rattle.tenant_registry.specs.InForce.{CameOf}
use Rattle.service_front.specs.declared.limits.ServiceLimits.{ServiceLimits}

-- what stays the same of who serves there: the token that is wanted, if one is, and what is told of the service
pub record AdminData : Type 0 where
  pub token : Option (List ℕ)
  pub version : List ℕ
  pub receivers : ℕ
  pub senders : ℕ
  pub lane_capacity : ℕ

-- that of who serves at this port for these threads, with a lane of so much room
abbrev pub admin_of : Bor AdminPort → ServiceLimits → ℕ → AdminData
admin_of port limits lane_capacity = record {
  token = option_copied port.now.token;
  version = port.now.version.now;
  receivers = limits.receivers;
  senders = limits.senders;
  lane_capacity = lane_capacity;
}

-- figures of the whole service with so many tenants, of which only uptime, memory and counts, and whether it drains,
-- are any
pub record IsOfService (admin : AdminData) (tenants : ℕ) (service : ServiceFigures) : Type 0 where
  pub tenants_are : service.tenants ≡ tenants
  pub version : service.version.now ≡ admin.version
  pub receivers : service.receivers ≡ admin.receivers
  pub senders : service.senders ≡ admin.senders
  pub lane_capacity : service.lane_capacity ≡ admin.lane_capacity

-- the tenant of this name has this number by settings in force
pub record IsKnown (first : SettingsData) (name : List ℕ) (number : ℕ) : Type 0 where
  pub now : SettingsData
  pub came : CameOf first now
  pub known : number_of now name ≡ Some number

-- nobody has this name by settings in force, or it is no text
pub data IsNobody (first : SettingsData) (name : List ℕ) : Type 0 where
  no_text : (IsUtf8 name → ⊥) → IsNobody first name
  not_known : (now : SettingsData) → CameOf first now → number_of now name ≡ None → IsNobody first name

-- by settings in force the tenant of this number has this section, or there is no such tenant
abbrev pub HasSection : SettingsData → ℕ → Option SectionData → Type 0
HasSection first number section = (now : SettingsData) × CameOf first now × (section_at now number ≡ section)

-- what became of the question that a tenant of this name goes; or that nobody has it
pub data TellsGoing (first : SettingsData) (name : List ℕ) (told : Response) : Type 0 where
  asked : (number : ℕ) (asked : Asked) → IsKnown first name number → TellsRetiring asked name told
      → TellsGoing first name told
  not_asked : IsNobody first name → told ≡ unknown_reply → TellsGoing first name told

-- whether spans are taken (503, RFC 9110, section 15.6.4)
abbrev pub TellsReadiness : Response → Type 0
TellsReadiness told =
    (told ≡ notice_of 503 (codes "state") (codes "draining")) ⊎ (told ≡ notice_of 200 (codes "state") (codes "ready"))

-- the page (its bytes are those of admin_page's constant)
abbrev pub page_reply : Response
page_reply = reply_of 200 media.Html PAGE.now

-- that no more spans are taken
abbrev pub drained_reply : Response
drained_reply = notice_of 200 (codes "state") (codes "draining")

-- who isn't let in, by the token that is wanted: who doesn't give it (401, RFC 9110, section 15.5.2), or where none is
-- wanted a page that asks for a change (403, section 15.5.4), since there is no token that it could give
abbrev pub refused_reply : Option (List ℕ) → Response
refused_reply (Some wanted) = notice_of 401 (codes "error") (codes "the token is missing or another")
refused_reply None = notice_of 403 (codes "error") (codes "a change from a page needs a token, and none is configured")
