use Rattle.std.proofs.Common.{arith, ap, Err}
use Rattle.http_edge.proofs.Pieces.{trailer_here, trailer_lacks, trailer_many, trailer_long, trailer_faulty, stops_trailer}
use Rattle.http_edge.specs.Chunks.{FailsAt, LacksAt}
use Rattle.http_edge.proofs.chunks.next_trailer.Goals as goal

pub returns-in-Ok-Complete-clause-piece : goal.returns-in-Ok-Complete-clause-piece
returns-in-Ok-Complete-clause-piece c = λ stream body r.
    let found = rw c.in-Ok-Complete.field-0-is at c.in-Ok-Complete.ensures.complete in
    let here = trailer_here c.args.input.now c.min.result c.in-Ok-Complete.len c.in-Ok-Complete.field-0-0-1
    c.parse_headers.new.headers found.0 found.1 (omega arith) (omega arith) found.2 in
    record { rest = c.args.input.now; reaches = r; trailer = here.has }

pub returns-then-input-ge-MAX_PART-clause-piece : goal.returns-then-input-ge-MAX_PART-clause-piece
returns-then-input-ge-MAX_PART-clause-piece c = λ stream body r.
    let none = rw c.in-Ok-Partial.field-0-is at c.in-Ok-Partial.ensures.partial in
    stops_trailer {Fact = FailsAt} r (trailer_long c.args.input.now c.min.result (omega arith)
    c.if-input-ge-MAX_PART.true none)

pub returns-then-line_ends-gt-MAX_FIELDS-clause-piece :
    goal.returns-then-line_ends-gt-MAX_FIELDS-clause-piece
returns-then-line_ends-gt-MAX_FIELDS-clause-piece c = λ stream body r.
    let none = rw c.in-Ok-Partial.field-0-is at c.in-Ok-Partial.ensures.partial in
    stops_trailer {Fact = FailsAt} r (trailer_many c.args.input.now c.min.result (omega arith)
    (omega (arith, c.line_ends.ensures)) none)

pub returns-else-line_ends-gt-MAX_FIELDS-clause-piece :
    goal.returns-else-line_ends-gt-MAX_FIELDS-clause-piece
returns-else-line_ends-gt-MAX_FIELDS-clause-piece c = λ stream body r.
    let none = rw c.in-Ok-Partial.field-0-is at c.in-Ok-Partial.ensures.partial in
    let may = rw c.in-Ok-Partial.field-0-is at c.in-Ok-Partial.ensures.unfinished in
    stops_trailer {Fact = LacksAt} r (trailer_lacks c.args.input.now c.min.result (omega arith) (omega arith)
    (omega (arith, c.line_ends.ensures)) none may)

pub returns-in-Err-clause-piece : goal.returns-in-Err-clause-piece
returns-in-Err-clause-piece c = λ stream body r.
    stops_trailer {Fact = FailsAt} r (trailer_faulty c.args.input.now c.min.result c.in-Err.field-0
    c.in-Err.ensures.invalid (λ e. c.in-Err.ensures.too_many (ap Err e)) c.in-Err.ensures.no_room)
