use Rattle.admin_pages.proofs.Pieces.{last}
use Rattle.admin_pages.proofs.metrics.put_tenant_metrics.Goals as goal

pub returns : goal.returns
returns c =
    last c.put_families-2.result c.args.out.now.items c.put_families.new.out.items c.put_families-2.new.out.items _ _
    (rw c.counters.ensures at c.in_ok-put_families.ensures) (rw c.others.ensures at c.put_families-2.ensures)
