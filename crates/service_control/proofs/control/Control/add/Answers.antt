use Rattle.tenant_registry.specs.NotAdded.{not_added_text}
use Rattle.tenant_registry.specs.declared.documents.NotAdded.TheVariants.{Refused, OutOfMemory}
use Rattle.service_control.proofs.control.Control.add.Goals as goal

pub returns-in-Ok-clause-added : goal.returns-in-Ok-clause-added
returns-in-Ok-clause-added g c =
    (c.in-Ok.line.items, c.in-Ok.ensures.added, rw c.as_slice.ensures.value at c.write_text.ensures)

pub returns-in-Err-Refused-clause-added : goal.returns-in-Err-Refused-clause-added
returns-in-Err-Refused-clause-added g c = (
  not_added_text (Refused c.in-Err-Refused.number),
  rw c.in-Err-Refused.field-0-is at c.in-Err-Refused.ensures.not_added,
  rw (c.as_slice-in-Err-Refused.ensures.value, c.line_again-line.ensures) at c.write_text-in-Err-Refused.ensures,
)

pub returns-in-Err-OutOfMemory-clause-added : goal.returns-in-Err-OutOfMemory-clause-added
returns-in-Err-OutOfMemory-clause-added g c = (
  not_added_text OutOfMemory,
  rw c.in-Err-OutOfMemory.field-0-is at c.in-Err-OutOfMemory.ensures.not_added,
  rw c.as_slice-in-Err-OutOfMemory.ensures at c.write_text-in-Err-OutOfMemory.ensures,
)
