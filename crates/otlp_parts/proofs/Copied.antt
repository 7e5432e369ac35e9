-- A copy is the canonical text of what the bytes are.
use Rattle.std.proofs.Common.{List, ℕ, Result, ap, ◌∙◌}
use Rattle.std.specs.Prelude.{is_ok}
use Rattle.otlp_trace.specs.Data.{ResourceData, ScopeData}
use Rattle.otlp_trace.specs.Defaults.{no_resource, no_scope}
use Rattle.otlp_trace.specs.Text.{resource_text, scope_text}
use Rattle.otlp_read.specs.declared.fault.ReadFault.{ReadFault}
use Rattle.otlp_canonical.specs.Canonical.{ResourceCopy, ScopeCopy}
use Rattle.otlp_parts.specs.Embedded.{HasText, resource_embedding, scope_embedding}
use Rattle.otlp_parts.specs.ReadAs.{value_or}

pub resource_copied : (bytes copy : List ℕ) → ResourceCopy 99 bytes copy → HasText resource_embedding bytes copy
resource_copied bytes copy c = record {
  sound = ap is_ok (c.same ∙ c.canonical.read);
  written = ap (λ (r : Result ResourceData ReadFault). resource_text (value_or no_resource r)) (c.same ∙ c.canonical.read) ∙ c.canonical.written;
}

pub scope_copied : (bytes copy : List ℕ) → ScopeCopy 98 bytes copy → HasText scope_embedding bytes copy
scope_copied bytes copy c = record {
  sound = ap is_ok (c.same ∙ c.canonical.read);
  written = ap (λ (r : Result ScopeData ReadFault). scope_text (value_or no_scope r)) (c.same ∙ c.canonical.read) ∙ c.canonical.written;
}
