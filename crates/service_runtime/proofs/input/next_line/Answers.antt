use Rattle.std.proofs.Common.{◌≡◌, ◌==◌, false, arith}
use Rattle.std.proofs.lemmas.Bool.Decides.{nat_tests}
use Rattle.service_runtime.proofs.Lines.{reading_none, reading_more}
use Rattle.service_runtime.proofs.input.next_line.Goals as goal

pub bytes-init : goal.bytes-init
bytes-init g c = reading_none _ c.clear.new.self.items c.clear.ensures

pub bytes-preserved-in-Byte : goal.bytes-preserved-in-Byte
bytes-preserved-in-Byte g c =
    let other : (c.in-Byte.byte == 10) ≡ false = grind (arith, nat_tests, c.if-byte-eq10.false) in
    reading_more _ _ _ _ c.keep.new.line.items c.in-Byte.byte c.bytes.invariant (rw c.in-Byte.is at c.in_ok-byte.ensures) other c.keep.ensures
