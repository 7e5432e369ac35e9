use Rattle.std.proofs.Common.{codes, ◌++◌, ◌∙◌}
use Rattle.std.specs.Fmt.{decimal}
use Rattle.std.specs.Prelude.{string_bytes}
use Rattle.admin_pages.specs.Json.{string_text}
use Rattle.admin_pages.specs.Settings.{plain_text}
use Rattle.admin_pages.proofs.Joined.{more}
use Rattle.admin_pages.proofs.Pieces.{appended, last, shown, pieces5}
use Rattle.admin_pages.proofs.settings.put_plain.Goals as goal

pub returns : goal.returns
unfolding plain_text
returns c =
    let section = c.args.section.now in
    let old = c.args.out.now.items in
    let endpoint = codes "\"endpoint\":" ++ string_text (string_bytes section.endpoint) in
    let named = more old _ c.put_string.new.out.items _ _ c.in_ok-extend_from_slice.ensures.items (rw c.as_str.ensures.value at c.in_ok-put_string.ensures) in
    let numbers = appended c.extend_from_slice-2.result c.put_string.new.out.items c.extend_from_slice-2.new.self.items c.as_bytes.result.now _ c.extend_from_slice-2.ensures.items
    (c.as_bytes.ensures.value ∙ c.in_ok-numbers.ensures.ok) in
    let all = last c.extend_from_slice-2.result old c.put_string.new.out.items c.extend_from_slice-2.new.self.items endpoint _ named numbers in
    shown c.extend_from_slice-2.result old c.extend_from_slice-2.new.self.items _ _
    (pieces5 endpoint (codes ",\"max_spans\":") (decimal section.max_spans) (codes ",\"seed\":") (decimal section.seed)) all
