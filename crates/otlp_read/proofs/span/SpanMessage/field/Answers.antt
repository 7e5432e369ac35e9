use Rattle.otlp_read.proofs.span.SpanMessage.field.Goals as goal

pub returns-in-Varint : goal.returns-in-Varint
returns-in-Varint c = record { exact = rw c.in-Varint.is (c.span_number.ensures.exact c.args.room) }

pub returns-in-Eight : goal.returns-in-Eight
returns-in-Eight c = record { exact = rw c.in-Eight.is (c.span_time.ensures.exact c.args.room) }
