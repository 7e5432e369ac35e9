-- What a script's commands are answered, by the settings as they are now and the own steps that each tenant has had
-- before, the newest first. This project's own rule (docs/SCRIPT.md).
use Rattle.std.specs.Prelude.{◌≡◌, ℕ, ◌%◌, ◌==◌, ◌⊎◌, ◌&&◌, Bool, true, List, [], ◌∷◌, Option, Some, None, Result, Ok, Err, codes, if◌then◌else◌, nat_lt, MatchBool}
use Rattle.std.specs.Str.{is_utf8}
use Rattle.otlp_trace.specs.Data.{RequestData}
use Rattle.otlp_read.specs.Value.{IsValue}
use Rattle.tail_settings.specs.Change.{admitted, struck}
use Rattle.tail_settings.specs.Fault.{FaultData, not_toml, fault_number}
use Rattle.tail_settings.specs.Section.{SectionData}
use Rattle.tail_settings.specs.Settings.{SettingsData, section_at, number_of}
use Rattle.tenant_rules.specs.Own.{Own}
use Rattle.tenant_rules.specs.Own as own
use Rattle.otlp_prepare.specs.Prepared.{prepared_of}
use Rattle.tenant_shard.specs.declared.step.Outcome.{Outcome}
use Rattle.tenant_shard.specs.declared.step.Outcome.TheVariants as outcomes
use Rattle.tenant_shard.specs.Lives.{Lives}
use Rattle.tenant_shard.specs.Outcomes.{OwnStep, plain, own_post, Piped, whose, is_tenant, is_taken}
use Rattle.tenant_shard.specs.Run.{IsOutcomeOf}
use Rattle.replay_script.specs.Command.{CommandData, Post, Turn, Answer, Report, Drain, Add, Retire}
use Rattle.replay_script.specs.Answer.{reply_text, refused_text, added_text}
use Rattle.trace_collector.specs.Outcomes.{outcome_text, name_at, bad_protobuf}
use Rattle.trace_collector.specs.Session.{Session, new_among}

-- a shard's members are the tenants whose number, divided by the count of shards, leaves the shard's
abbrev pub section_in : SettingsData → ℕ → ℕ → Option SectionData
section_in settings shard tenant = if tenant % settings.global.shards == shard then section_at settings tenant else None

-- a shard's members so far are all such numbers that were given
abbrev pub used_in : SettingsData → ℕ → ℕ → Bool
used_in settings shard tenant = nat_lt tenant settings.next && (tenant % settings.global.shards == shard)

-- what a shard knows of its members: their settings and, of each, the own steps that it has had
abbrev pub lives_of : SettingsData → (ℕ → List Own) → ℕ → Lives
lives_of settings pasts shard tenant = record {
  section = section_in settings shard tenant;
  past = pasts tenant;
  known = true;
  used = used_in settings shard tenant;
}

-- a step joins the own steps of a member where it reaches its pipeline
abbrev pub recorded : Option SectionData → OwnStep → List Own → List Own
recorded None step past = past
recorded (Some section) step past = if is_taken section step then step.step ∷ past else past

-- the own steps after one more: it joins those of the member whose it is, which is the tenant that it names or else the
-- one that its outcome names
abbrev pub joined : Option ℕ → OwnStep → Outcome → Lives → ℕ → List Own
joined named step outcome lives tenant =
    if is_tenant tenant (whose named outcome) then recorded (lives tenant).section step (lives tenant).past
    else (lives tenant).past

-- a step of a shard was done, which names a tenant or none: this outcome is the next in the shard's run, and this is
-- its line
abbrev pub IsStep : SettingsData → (ℕ → List Own) → ℕ → Option ℕ → OwnStep → Outcome → Option (List ℕ)
    → (ℕ → List Own) → Type 0
IsStep settings pasts shard named step outcome line new =
    IsOutcomeOf named (lives_of settings pasts shard) [] (Piped step) outcome
    × (line ≡ Some (outcome_text settings shard outcome))
    × (new ≡ joined named step outcome (lives_of settings pasts shard))

-- the same by its line
abbrev pub IsStepped : SettingsData → (ℕ → List Own) → ℕ → Option ℕ → OwnStep → Option (List ℕ) → (ℕ → List Own)
    → Type 0
IsStepped settings pasts shard named step line new =
    (outcome : Outcome) × IsStep settings pasts shard named step outcome line new

-- a step that names a tenant was done by that tenant's shard
abbrev pub IsSteppedFor : SettingsData → (ℕ → List Own) → ℕ → OwnStep → Option (List ℕ) → (ℕ → List Own) → Type 0
IsSteppedFor settings pasts tenant step line new =
    IsStepped settings pasts (tenant % settings.global.shards) (Some tenant) step line new

-- by Protocol Buffers' rules the body is no request
abbrev pub HasNoValue : List ℕ → Type 0
HasNoValue body = (v : RequestData) → IsValue body v → ⊥

-- the value of a body, prepared for the policies of its tenant, as a step of its tenant
abbrev pub posted : ℕ → ℕ → SectionData → RequestData → OwnStep
posted moment tenant section v = own_post moment (prepared_of tenant section v)

-- what is posted: the value of a body, as a step of that tenant's shard
abbrev pub IsTaken : SettingsData → (ℕ → List Own) → ℕ → ℕ → List ℕ → Option (List ℕ) → (ℕ → List Own) → Type 0
IsTaken settings pasts tenant moment body line new = (section : SectionData) × (v : RequestData)
    × (section_at settings tenant ≡ Some section) × IsValue body v
    × IsSteppedFor settings pasts tenant (posted moment tenant section v) line new

-- a body's value is posted; a body without a value is answered 400 and is no step
abbrev pub IsPosted : SettingsData → (ℕ → List Own) → ℕ → List ℕ → ℕ → List ℕ → Option (List ℕ)
    → (ℕ → List Own) → Type 0
IsPosted settings pasts tenant name moment body line new =
    IsTaken settings pasts tenant moment body line new
    ⊎ (HasNoValue body × (line ≡ Some (reply_text name 400 bad_protobuf)) × (new ≡ pasts))

-- a body is posted to the tenant of a name, if there is one
abbrev pub IsPostedTo : SettingsData → (ℕ → List Own) → Option ℕ → List ℕ → ℕ → List ℕ → Option (List ℕ)
    → (ℕ → List Own) → Type 0
IsPostedTo settings pasts None name moment body line new = (line ≡ None) × (new ≡ pasts)
IsPostedTo settings pasts (Some tenant) name moment body line new =
    IsPosted settings pasts tenant name moment body line new

-- an answer, a report or a drain is a step of the tenant of a name, if there is one
abbrev pub IsAskedOf : SettingsData → (ℕ → List Own) → Option ℕ → Own → Option (List ℕ) → (ℕ → List Own) → Type 0
IsAskedOf settings pasts None step line new = (line ≡ None) × (new ≡ pasts)
IsAskedOf settings pasts (Some tenant) step line new = IsSteppedFor settings pasts tenant (plain step) line new

-- the settings without a tenant whose retirement this is the outcome of, where it was told its last report
abbrev pub without : ℕ → Outcome → SettingsData → SettingsData
without tenant (outcomes.Report whom report) settings = struck settings tenant
without tenant outcome settings = settings

-- a retirement is a step of the tenant of a name, if there is one, who then leaves
abbrev pub IsRetired : Session → Option ℕ → ℕ → Option (List ℕ) → Session → Type 0
IsRetired old None moment line new = (line ≡ None) × (new ≡ old)
IsRetired old (Some tenant) moment line new = (outcome : Outcome)
    × IsStep old.table old.pasts (tenant % old.table.global.shards) (Some tenant) (plain (own.Retire moment)) outcome
    line new.pasts
    × (new.table ≡ without tenant outcome old.table)

-- the settings with the tenant of a document, or the document's fault, which has to be text first
abbrev pub arrived : SettingsData → List ℕ → Result SettingsData FaultData
arrived settings document = if is_utf8 document then admitted settings document else Err not_toml

-- a tenant joined, who has the next number and has had no steps; or the document was refused, and nothing has changed
abbrev pub IsAdded : Session → Result SettingsData FaultData → Option (List ℕ) → Session → Type 0
IsAdded old (Ok table) line new = (line ≡ Some (added_text (name_at table old.table.next) old.table.next))
    × (new ≡ record { table = table; pasts = new_among old.pasts old.table.next })
IsAdded old (Err fault) line new = (line ≡ Some (refused_text (codes "add") (fault_number fault))) × (new ≡ old)

-- the line of a command, none where it names no tenant or no shard, and the settings and own steps afterwards
abbrev pub IsAnswered : Session → CommandData → Option (List ℕ) → Session → Type 0
IsAnswered old (Post name moment body) line new = (new.table ≡ old.table)
    × IsPostedTo old.table old.pasts (number_of old.table name) name moment body line new.pasts
IsAnswered old (Turn shard moment) line new = (new.table ≡ old.table)
    × MatchBool (nat_lt shard old.table.global.shards)
    (IsStepped old.table old.pasts shard None (plain (own.Turn moment)) line new.pasts)
    ((line ≡ None) × (new.pasts ≡ old.pasts))
IsAnswered old (Answer name moment ticket word answer) line new = (new.table ≡ old.table)
    × IsAskedOf old.table old.pasts (number_of old.table name) (own.Answer moment ticket word answer) line new.pasts
IsAnswered old (Report name moment) line new = (new.table ≡ old.table)
    × IsAskedOf old.table old.pasts (number_of old.table name) (own.Report moment) line new.pasts
IsAnswered old (Drain name moment) line new = (new.table ≡ old.table)
    × IsAskedOf old.table old.pasts (number_of old.table name) (own.Drain moment) line new.pasts
IsAnswered old (Add document) line new = IsAdded old (arrived old.table document) line new
IsAnswered old (Retire name moment) line new = IsRetired old (number_of old.table name) moment line new
