use Rattle.std.proofs.Common.{codes, ◌++◌, ◌∙◌, refl}
use Rattle.std.specs.Fmt.{signed_decimal}
use Rattle.std.specs.Prelude.{string_bytes}
use Rattle.admin_pages.specs.Json.{string_text}
use Rattle.admin_pages.specs.Settings.{leaf_text}
use Rattle.admin_pages.proofs.Joined.{more}
use Rattle.admin_pages.proofs.Pieces.{appended, last, shown, pieces6}
use Rattle.admin_pages.proofs.settings.put_leaf.Goals as goal

pub returns-in_ok-put_statuses-in-StatusCode : goal.returns-in_ok-put_statuses-in-StatusCode
unfolding leaf_text
returns-in_ok-put_statuses-in-StatusCode c =
    let old = c.args.out.now.items in
    let statuses = more old _ c.put_statuses.new.out.items _ _ c.in_ok-extend_from_slice-in-StatusCode.ensures.items (rw c.deref.ensures.value at c.in_ok-put_statuses-in-StatusCode.ensures) in
    let end = appended c.extend_from_slice-in-StatusCode-2.result c.put_statuses.new.out.items c.extend_from_slice-in-StatusCode-2.new.self.items _ _ c.extend_from_slice-in-StatusCode-2.ensures.items refl in
    let all = last c.extend_from_slice-in-StatusCode-2.result old c.put_statuses.new.out.items c.extend_from_slice-in-StatusCode-2.new.self.items _ _ statuses end in
    rw c.in-StatusCode.is all

pub returns-in_ok-put_strings-in-StringAttribute : goal.returns-in_ok-put_strings-in-StringAttribute
unfolding leaf_text
returns-in_ok-put_strings-in-StringAttribute c =
    let old = c.args.out.now.items in
    let key = more old _ c.put_string.new.out.items _ _ c.in_ok-extend_from_slice-in-StringAttribute.ensures.items (rw c.as_str.ensures.value at c.in_ok-put_string-in-StringAttribute.ensures) in
    let between = more old _ c.extend_from_slice-in-StringAttribute-2.new.self.items _ _ key c.in_ok-extend_from_slice-in-StringAttribute-2.ensures.items in
    let values = more old _ c.put_strings.new.out.items _ _ between (rw c.deref-in-StringAttribute.ensures.value at c.in_ok-put_strings-in-StringAttribute.ensures) in
    let end = appended c.extend_from_slice-in-StringAttribute-3.result c.put_strings.new.out.items c.extend_from_slice-in-StringAttribute-3.new.self.items _ _ c.extend_from_slice-in-StringAttribute-3.ensures.items refl in
    let all = last c.extend_from_slice-in-StringAttribute-3.result old c.put_strings.new.out.items c.extend_from_slice-in-StringAttribute-3.new.self.items _ _ values end in
    rw c.in-StringAttribute.is all

pub returns-in_ok-bounds-in-NumericAttribute : goal.returns-in_ok-bounds-in-NumericAttribute
unfolding leaf_text
returns-in_ok-bounds-in-NumericAttribute c =
    let old = c.args.out.now.items in
    let attribute = c.in-NumericAttribute in
    let begin = codes "{\"type\":\"numeric_attribute\",\"key\":" ++ string_text (string_bytes attribute.key) in
    let key = more old _ c.put_string-in-NumericAttribute.new.out.items _ _ c.in_ok-extend_from_slice-in-NumericAttribute.ensures.items (rw c.as_str-in-NumericAttribute.ensures.value at c.in_ok-put_string-in-NumericAttribute.ensures) in
    let end = appended c.extend_from_slice-in-NumericAttribute-2.result c.put_string-in-NumericAttribute.new.out.items c.extend_from_slice-in-NumericAttribute-2.new.self.items c.as_bytes-in-NumericAttribute.result.now _ c.extend_from_slice-in-NumericAttribute-2.ensures.items
    (c.as_bytes-in-NumericAttribute.ensures.value ∙ c.in_ok-bounds-in-NumericAttribute.ensures.ok) in
    let all = last c.extend_from_slice-in-NumericAttribute-2.result old c.put_string-in-NumericAttribute.new.out.items c.extend_from_slice-in-NumericAttribute-2.new.self.items begin _ key end in
    let whole = shown c.extend_from_slice-in-NumericAttribute-2.result old c.extend_from_slice-in-NumericAttribute-2.new.self.items _ _
    (pieces6 begin (codes ",\"min_value\":") (signed_decimal attribute.min_value) (codes ",\"max_value\":") (signed_decimal attribute.max_value) (codes "}")) all in
    rw attribute.is whole
