use Rattle.std.proofs.Common.{◌≡◌, ◌+◌, ◌%◌, bit_and, bit_or, arith}
use Rattle.std.proofs.lemmas.Grind.{common_steps}
use Rattle.pb_wire.proofs.Written.{writing_more, writing_last, appended, refused}
use Rattle.pb_wire.proofs.write.put_groups.Goals as goal

pub loop-left-preserved : goal.loop-left-preserved
loop-left-preserved c =
    let byte : bit_or (bit_and c.loop-left.left 127) 128 ≡ c.loop-left.left % 128 + 128 = grind (arith, common_steps) in
    record {
      written = writing_more c.args.value c.loop-left.text c.loop-left.len c.loop-left.left _ c.loop-left.invariant.written c.loop-left-test.true byte;
      same = c.loop-left.invariant.same;
      len = c.loop-left.invariant.len;
      capacity = c.loop-left.invariant.capacity;
    }

pub returns-clause-on_success : goal.returns-clause-on_success
returns-clause-on_success c =
    appended c.extend_from_slice.result _ _ _ _ c.extend_from_slice.ensures.items (writing_last c.args.value c.loop-left.text c.loop-left.len c.loop-left.left c.loop-left.invariant.written c.loop-left-test.false)

pub returns-clause-full : goal.returns-clause-full
returns-clause-full c =
    refused c.extend_from_slice.result _ _ _ _ _ _ c.extend_from_slice.ensures.full c.loop-left.invariant.capacity c.loop-left.invariant.len (writing_last c.args.value c.loop-left.text c.loop-left.len c.loop-left.left c.loop-left.invariant.written c.loop-left-test.false)
