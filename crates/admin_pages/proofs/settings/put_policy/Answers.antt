use Rattle.std.proofs.Common.{refl}
use Rattle.admin_pages.specs.Settings.{policy_text}
use Rattle.admin_pages.proofs.Joined.{more}
use Rattle.admin_pages.proofs.Pieces.{appended, last}
use Rattle.admin_pages.proofs.settings.put_policy.Goals as goal

pub returns-in_ok-put_leaves-in-And : goal.returns-in_ok-put_leaves-in-And
unfolding policy_text
returns-in_ok-put_leaves-in-And c =
    let old = c.args.out.now.items in
    let leaves = more old _ c.put_leaves.new.out.items _ _ c.in_ok-extend_from_slice-in-And.ensures.items (rw c.deref.ensures.value at c.in_ok-put_leaves-in-And.ensures) in
    let end = appended c.extend_from_slice-in-And.result c.put_leaves.new.out.items c.extend_from_slice-in-And.new.self.items _ _ c.extend_from_slice-in-And.ensures.items refl in
    let all = last c.extend_from_slice-in-And.result old c.put_leaves.new.out.items c.extend_from_slice-in-And.new.self.items _ _ leaves end in
    rw c.in-And.is all
