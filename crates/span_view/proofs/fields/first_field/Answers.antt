use Rattle.span_view.proofs.Walks.{fields_none, fields_found}
use Rattle.span_view.proofs.fields.first_field.Goals as goal

pub returns-in-Ok-clause-fields : goal.returns-in-Ok-clause-fields
returns-in-Ok-clause-fields c = fields_found c.args.text.now c.in-Ok.found c.in-Ok.ensures.exact

pub returns-in-Err-clause-fields : goal.returns-in-Err-clause-fields
returns-in-Err-clause-fields c = fields_none c.args.text.now c.in-Err.field-0 c.in-Err.ensures.exact
