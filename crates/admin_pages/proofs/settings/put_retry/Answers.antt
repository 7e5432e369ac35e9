use Rattle.std.proofs.Common.{codes, ◌∙◌}
use Rattle.std.specs.Fmt.{decimal}
use Rattle.admin_pages.specs.Settings.{retry_text}
use Rattle.admin_pages.proofs.Pieces.{appended, pieces11}
use Rattle.admin_pages.proofs.settings.put_retry.Goals as goal

pub returns : goal.returns
unfolding retry_text
returns c =
    let retry = c.args.retry.now in
    let done = appended c.extend_from_slice.result c.args.out.now.items c.extend_from_slice.new.self.items c.as_bytes.result.now _ c.extend_from_slice.ensures.items
    (c.as_bytes.ensures.value ∙ (c.in_ok-table.ensures.ok ∙ pieces11 (codes "{\"initial_interval_ms\":") (decimal retry.initial_interval) (codes ",\"max_interval_ms\":") (decimal retry.max_interval)
    (codes ",\"max_elapsed_time_ms\":") (decimal retry.max_elapsed_time) (codes ",\"multiplier\":") (decimal retry.multiplier)
    (codes ",\"randomization_factor\":") (decimal retry.randomization_factor) (codes "}"))) in
    done
