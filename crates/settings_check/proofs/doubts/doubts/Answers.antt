use Rattle.std.proofs.Common.{◌++◌, codes, ap, ◌∙◌}
use Rattle.tail_settings.specs.Settings.{settings_view}
use Rattle.settings_check.specs.Doubts.{address_line, receivers_line, senders_line, header_line, lines_of_tenants}
use Rattle.settings_check.proofs.doubts.doubts.Goals as goal

pub returns : goal.returns
returns c =
    let s = settings_view c.args.settings.now in
    let listen = c.as_str-3.ensures.value ∙ c.in_ok-listen.ensures ∙ ap (address_line (codes "table global: listen")) c.as_str.ensures.value in
    let receivers = c.as_str-4.ensures.value ∙ c.in_ok-receivers.ensures ∙ ap (receivers_line s.global.receivers) c.tenants_len.ensures.len in
    let senders = c.as_str-6.ensures.value ∙ c.in_ok-senders.ensures ∙ ap (senders_line s.global.senders) c.consumers.ensures in
    let header = c.as_str-8.ensures.value ∙ c.in_ok-header.ensures ∙ ap header_line c.as_str-2.ensures.value in
    let head = c.as_str-5.ensures.value ∙ (rw (listen, receivers) at c.in_ok-head.ensures) in
    let counts = c.as_str-7.ensures.value ∙ (rw (head, senders) at c.in_ok-counts.ensures) in
    let lines = rw (counts, header) at c.in_ok-lines.ensures in
    c.in_ok-put_tenant_lines.ensures ∙ ap (λ t. t ++ lines_of_tenants s.global.listen s.tenants) lines
