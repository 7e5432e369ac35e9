use Rattle.admin_pages.specs.Settings.{tables_text}
use Rattle.admin_pages.proofs.Joined.{more}
use Rattle.admin_pages.proofs.Pieces.{last}
use Rattle.admin_pages.proofs.settings.put_tables.Goals as goal

pub returns : goal.returns
unfolding tables_text
returns c =
    let old = c.args.out.now.items in
    let sampling = more old _ c.put_sampling.new.out.items _ _ c.in_ok-extend_from_slice.ensures.items c.in_ok-put_sampling.ensures in
    let batch_key = more old _ c.extend_from_slice-2.new.self.items _ _ sampling c.in_ok-extend_from_slice-2.ensures.items in
    let batch = more old _ c.put_batch.new.out.items _ _ batch_key c.in_ok-put_batch.ensures in
    let queue_key = more old _ c.extend_from_slice-3.new.self.items _ _ batch c.in_ok-extend_from_slice-3.ensures.items in
    let queue = more old _ c.put_queue.new.out.items _ _ queue_key c.in_ok-put_queue.ensures in
    let retry_key = more old _ c.extend_from_slice-4.new.self.items _ _ queue c.in_ok-extend_from_slice-4.ensures.items in
    let all = last c.put_retry.result old c.extend_from_slice-4.new.self.items c.put_retry.new.out.items _ _ retry_key c.put_retry.ensures in
    all
