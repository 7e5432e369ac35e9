use Rattle.std.proofs.Common.{refl}
use Rattle.admin_pages.specs.Settings.{settled_text}
use Rattle.admin_pages.proofs.Joined.{more}
use Rattle.admin_pages.proofs.Pieces.{appended, last}
use Rattle.admin_pages.proofs.settings.put_settled_tenant.Goals as goal

pub returns : goal.returns
unfolding settled_text
returns c =
    let old = c.args.out.now.items in
    let settings_key = more old _ c.extend_from_slice.new.self.items _ _ c.in_ok-put_figures.ensures c.in_ok-extend_from_slice.ensures.items in
    let settings = more old _ c.put_section.new.out.items _ _ settings_key c.in_ok-put_section.ensures in
    let end = appended c.extend_from_slice-2.result c.put_section.new.out.items c.extend_from_slice-2.new.self.items _ _ c.extend_from_slice-2.ensures.items refl in
    let all = last c.extend_from_slice-2.result old c.put_section.new.out.items c.extend_from_slice-2.new.self.items _ _ settings end in
    all
