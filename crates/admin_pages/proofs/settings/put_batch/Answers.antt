use Rattle.std.proofs.Common.{codes, ◌∙◌}
use Rattle.std.specs.Fmt.{decimal}
use Rattle.admin_pages.specs.Settings.{batch_text}
use Rattle.admin_pages.proofs.Pieces.{appended, pieces7}
use Rattle.admin_pages.proofs.settings.put_batch.Goals as goal

pub returns : goal.returns
unfolding batch_text
returns c =
    let batch = c.args.batch.now in
    let done = appended c.extend_from_slice.result c.args.out.now.items c.extend_from_slice.new.self.items c.as_bytes.result.now _ c.extend_from_slice.ensures.items
    (c.as_bytes.ensures.value ∙ (c.in_ok-table.ensures.ok ∙ pieces7 (codes "{\"send_batch_size\":") (decimal batch.send_batch_size) (codes ",\"timeout_ms\":") (decimal batch.timeout) (codes ",\"send_batch_max_size\":") (decimal batch.send_batch_max_size) (codes "}"))) in
    done
