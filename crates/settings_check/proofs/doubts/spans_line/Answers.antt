use Rattle.std.proofs.Common.{◌≡◌, codes, false, ◌==◌, ◌∙◌, arith}
use Rattle.std.specs.Fmt.{decimal}
use Rattle.std.specs.Prelude.{nat_le}
use Rattle.std.proofs.lemmas.Grind.{common_steps}
use Rattle.settings_check.proofs.Joined.{seven}
use Rattle.settings_check.proofs.doubts.spans_line.Goals as goal

pub returns : goal.returns
returns c =
    let size = c.args.batch.send_batch_size in
    let fewer : nat_le size c.args.max_spans ≡ false = grind (arith, common_steps) in
    let waits : (c.args.batch.timeout == 0) ≡ false = grind (arith, common_steps) in
    rw (fewer, waits)
    (c.in_ok-line.ensures.ok ∙ seven (codes "warning: tenant ") c.args.name.now (codes ": max_spans is ") (decimal c.args.max_spans)
    (codes ", and send_batch_size is ") (decimal size) (codes ": a batch is cut by timeout_ms alone, and posts can get 429 until then\n"))
