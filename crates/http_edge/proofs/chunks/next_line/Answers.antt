use Rattle.std.proofs.Common.{arith}
use Rattle.http_edge.proofs.Pieces.{line_here, line_lacks, line_long, line_faulty, reaches_bytes, reaches_trailer, stops_line}
use Rattle.http_edge.specs.Chunks.{FailsAt, LacksAt}
use Rattle.http_edge.proofs.chunks.next_line.Goals as goal

pub returns-then-size-gt0-clause-step : goal.returns-then-size-gt0-clause-step
returns-then-size-gt0-clause-step c =
    let found = rw c.in-Ok-Complete.field-0-is at c.in-Ok-Complete.ensures.complete in
    (line_here c.args.input.now c.min.result c.in-Ok-Complete.len c.in-Ok-Complete.size found.0 (omega arith)
    found.1).some

pub returns-then-size-gt0-clause-piece : goal.returns-then-size-gt0-clause-piece
returns-then-size-gt0-clause-piece c = λ stream body r.
    let found = rw c.in-Ok-Complete.field-0-is at c.in-Ok-Complete.ensures.complete in
    let here = line_here c.args.input.now c.min.result c.in-Ok-Complete.len c.in-Ok-Complete.size found.0 (omega arith)
    found.1 in
    reaches_bytes c.in-Ok-Complete.size r here.has found.1.size_is c.if-size-gt0.true

pub returns-else-size-gt0-clause-step : goal.returns-else-size-gt0-clause-step
returns-else-size-gt0-clause-step c =
    let found = rw c.in-Ok-Complete.field-0-is at c.in-Ok-Complete.ensures.complete in
    (line_here c.args.input.now c.min.result c.in-Ok-Complete.len c.in-Ok-Complete.size found.0 (omega arith)
    found.1).some

pub returns-else-size-gt0-clause-piece : goal.returns-else-size-gt0-clause-piece
returns-else-size-gt0-clause-piece c = λ stream body r.
    let found = rw c.in-Ok-Complete.field-0-is at c.in-Ok-Complete.ensures.complete in
    let here = line_here c.args.input.now c.min.result c.in-Ok-Complete.len c.in-Ok-Complete.size found.0 (omega arith)
    found.1 in
    reaches_trailer c.in-Ok-Complete.size r here.has found.1.size_is c.if-size-gt0.false

pub returns-then-input-lt-MAX_PART-clause-piece : goal.returns-then-input-lt-MAX_PART-clause-piece
returns-then-input-lt-MAX_PART-clause-piece c = λ stream body r.
    let none = rw c.in-Ok-Partial.field-0-is at c.in-Ok-Partial.ensures.partial in
    let may = rw c.in-Ok-Partial.field-0-is at c.in-Ok-Partial.ensures.unfinished in
    stops_line {Fact = LacksAt} r (line_lacks c.args.input.now c.min.result (omega arith) c.if-input-lt-MAX_PART.true
    none may)

pub returns-else-input-lt-MAX_PART-clause-piece : goal.returns-else-input-lt-MAX_PART-clause-piece
returns-else-input-lt-MAX_PART-clause-piece c = λ stream body r.
    let none = rw c.in-Ok-Partial.field-0-is at c.in-Ok-Partial.ensures.partial in
    stops_line {Fact = FailsAt} r (line_long c.args.input.now c.min.result (omega arith) c.if-input-lt-MAX_PART.false
    none)

pub returns-in-Err-clause-piece : goal.returns-in-Err-clause-piece
returns-in-Err-clause-piece c = λ stream body r.
    stops_line {Fact = FailsAt} r (line_faulty c.args.input.now c.min.result c.in-Err.ensures.invalid)
