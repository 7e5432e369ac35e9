use Rattle.admin_pages.specs.Json.{figures_text}
use Rattle.admin_pages.proofs.Pieces.{last}
use Rattle.admin_pages.proofs.json.put_figures.Goals as goal

pub returns : goal.returns
unfolding figures_text
returns c =
    last c.put_members.result c.args.out.now.items c.put_counted.new.out.items c.put_members.new.out.items _ _
    c.in_ok-put_counted.ensures (rw c.others.ensures at c.put_members.ensures)
