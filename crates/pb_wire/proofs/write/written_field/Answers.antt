use Rattle.pb_wire.proofs.Written.{field_written, field_least}
use Rattle.pb_wire.proofs.write.written_field.Goals as goal

pub returns-clause-reads : goal.returns-clause-reads
returns-clause-reads c = field_written

pub returns-clause-shortest : goal.returns-clause-shortest
returns-clause-shortest c = field_least
