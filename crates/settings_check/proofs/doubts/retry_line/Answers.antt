use Rattle.std.proofs.Common.{◌≡◌, codes, false, ◌∙◌, arith}
use Rattle.std.specs.Fmt.{decimal}
use Rattle.std.specs.Prelude.{nat_le}
use Rattle.std.proofs.lemmas.Grind.{common_steps}
use Rattle.tail_settings.specs.RetryOnFailure.{retry_view}
use Rattle.settings_check.specs.Doubts.{least_delay}
use Rattle.settings_check.proofs.Joined.{seven}
use Rattle.settings_check.proofs.doubts.retry_line.Goals as goal

pub returns : goal.returns
returns c =
    let longest = c.args.retry.max_elapsed_time in
    let least = least_delay (retry_view c.args.retry) in
    let tried : nat_le longest 1 ≡ false = grind (arith, common_steps) in
    let late : nat_le least longest ≡ false = grind (arith, common_steps) in
    rw (tried, late)
    ((rw c.least_delay-least.ensures at c.in_ok-line.ensures.ok) ∙ seven (codes "warning: tenant ") c.args.name.now (codes ": max_elapsed_time_ms is ")
    (decimal longest) (codes ", and the delay before a retry is at least ") (decimal least) (codes " ms: no batch is sent again\n"))
