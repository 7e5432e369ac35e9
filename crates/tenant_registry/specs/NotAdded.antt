-- Why no tenant came, as it is told. This project's own rule.
use Rattle.std.specs.Prelude.{ℕ, List, codes, Option, Some, None}
use Rattle.replay_script.specs.Answer.{refused_text}
use Rattle.tail_settings.specs.Fault.{FaultData, fault_number}
use Rattle.tenant_registry.specs.declared.documents.NotAdded.{NotAdded}
use Rattle.tenant_registry.specs.declared.documents.NotAdded.TheVariants.{Refused, OutOfMemory}

-- why no tenant came, as it is printed
abbrev pub not_added_text : NotAdded → List ℕ
not_added_text (Refused number) = refused_text (codes "add") number
not_added_text OutOfMemory = codes "refused add memory\n"

-- what is told of a document's fault, or of refused memory
abbrev pub why_not : Option FaultData → NotAdded
why_not (Some fault) = Refused (fault_number fault)
why_not None = OutOfMemory
