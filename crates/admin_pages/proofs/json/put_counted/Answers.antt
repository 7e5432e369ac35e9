use Rattle.admin_pages.specs.Json.{counted_text}
use Rattle.admin_pages.proofs.Joined.{more}
use Rattle.admin_pages.proofs.Pieces.{last}
use Rattle.admin_pages.proofs.json.put_counted.Goals as goal

pub returns : goal.returns
unfolding counted_text
returns c =
    let old = c.args.out.now.items in
    let name = more old _ c.put_string.new.out.items _ _ c.in_ok-extend_from_slice.ensures.items (rw c.as_str.ensures.value at c.in_ok-put_string.ensures) in
    let all = last c.put_members.result old c.put_string.new.out.items c.put_members.new.out.items _ _ name (rw c.counters.ensures at c.put_members.ensures) in
    all
