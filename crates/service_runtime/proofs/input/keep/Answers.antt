use Rattle.std.proofs.Common.{arith}
use Rattle.std.proofs.lemmas.Bool.Decides.{nat_tests}
use Rattle.service_runtime.proofs.Lines.{kept_one, kept_none}
use Rattle.service_runtime.proofs.input.keep.Goals as goal

pub returns-then-is_full : goal.returns-then-is_full
returns-then-is_full c = λ front is. kept_none front c.args.line.now.items c.args.byte is (grind (arith, nat_tests, c.if-is_full.ensures.value))

pub returns : goal.returns
returns c = λ front is. kept_one front c.args.line.now.items c.push.new.self.items c.args.byte is (grind (arith, nat_tests, c.if-is_full.ensures.value, c.if-is_full.ensures.fits)) c.push.ensures.items
