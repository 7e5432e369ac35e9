-- A body that was read, for a tenant with its section. This project's own rule.
use Rattle.std.specs.Prelude.{◌≡◌, ℕ, List, Result, IfErr, MatchResult}
use Rattle.otlp_trace.specs.Data.{RequestData}
use Rattle.otlp_read.specs.Value.{IsValue, IsFault}
use Rattle.otlp_read.specs.declared.fault.ReadFault.{ReadFault}
use Rattle.otlp_read.specs.declared.fault.ReadFault.TheVariants as faults
use Rattle.otlp_parts.specs.Texts.{invalid_in}
use Rattle.tail_settings.specs.Section.{SectionData}
use Rattle.prepared_body.specs.Prepared.{PreparedData}
use Rattle.otlp_prepare.specs.declared.refusal.Refusal.{Refusal}
use Rattle.otlp_prepare.specs.declared.refusal.Refusal.TheVariants as refusal
use Rattle.otlp_prepare.specs.Arrivals.{arrivals_of}

-- what a request is made ready as, for the tenant of this number and section
abbrev pub prepared_of : ℕ → SectionData → RequestData → PreparedData
prepared_of tenant section request = record {
  tenant = tenant;
  policies = section.tail_sampling.policies;
  arrivals = arrivals_of request;
  invalid = invalid_in request;
}

-- the tenant, the section's policies and the spans of the body's value
abbrev pub IsPrepared : ℕ → SectionData → List ℕ → PreparedData → Type 0
IsPrepared tenant section body prepared = (v : RequestData) × IsValue body v × (prepared ≡ prepared_of tenant section v)

-- a body with a value is prepared as that, unless memory runs out
abbrev pub PreparesValue : ℕ → SectionData → List ℕ → Result PreparedData Refusal → Type 0
PreparesValue tenant section body result = (v : RequestData) → IsValue body v
    → MatchResult result (λ prepared. prepared ≡ prepared_of tenant section v)
    (λ refused. refused ≡ refusal.OutOfMemory)

-- the fault of a body that is bad stands in it
abbrev pub NamesFault : List ℕ → Result PreparedData Refusal → Type 0
NamesFault body result =
    (fault : ReadFault) → IfErr result (λ refused. refused ≡ refusal.Bad fault → IsFault body fault)

-- want of memory says nothing of the body
abbrev pub refusal_of : ReadFault → Refusal
refusal_of faults.OutOfMemory = refusal.OutOfMemory
refusal_of fault = refusal.Bad fault
