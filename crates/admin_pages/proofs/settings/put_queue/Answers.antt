use Rattle.std.proofs.Common.{codes, ◌∙◌}
use Rattle.std.specs.Fmt.{decimal}
use Rattle.admin_pages.specs.Settings.{queue_text}
use Rattle.admin_pages.proofs.Pieces.{appended, pieces5}
use Rattle.admin_pages.proofs.settings.put_queue.Goals as goal

pub returns : goal.returns
unfolding queue_text
returns c =
    let queue = c.args.queue.now in
    let done = appended c.extend_from_slice.result c.args.out.now.items c.extend_from_slice.new.self.items c.as_bytes.result.now _ c.extend_from_slice.ensures.items
    (c.as_bytes.ensures.value ∙ (c.in_ok-table.ensures.ok ∙ pieces5 (codes "{\"queue_size\":") (decimal queue.queue_size) (codes ",\"num_consumers\":") (decimal queue.num_consumers) (codes "}"))) in
    done
