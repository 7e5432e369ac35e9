use Rattle.std.proofs.Common.{map, ap, ◌∙◌}
use Rattle.tail_settings.specs.Policy.{policy_view}
use Rattle.settings_check.specs.Doubts.{endpoint_line, own_line, grpc_line, lines_of_policies, tenant_lines}
use Rattle.settings_check.proofs.doubts.tenant_lines.Goals as goal

pub returns : goal.returns
unfolding tenant_lines
returns c =
    let listen = c.args.listen.now in
    let name = c.args.name.now in
    let endpoint = c.as_str-4.ensures.value ∙ c.in_ok-endpoint.ensures ∙ ap (endpoint_line name) c.as_str.ensures.value in
    let own = c.as_str-5.ensures.value ∙ c.in_ok-own.ensures ∙ ap (own_line listen name) c.as_str-2.ensures.value in
    let grpc = c.as_str-7.ensures.value ∙ c.in_ok-grpc.ensures ∙ ap (grpc_line name) c.as_str-3.ensures.value in
    let spans = c.as_str-9.ensures.value ∙ c.in_ok-spans.ensures in
    let retry = c.as_str-11.ensures.value ∙ c.in_ok-retry.ensures in
    let hosts = c.as_str-6.ensures.value ∙ (rw (endpoint, own) at c.in_ok-hosts.ensures) in
    let addresses = c.as_str-8.ensures.value ∙ (rw (hosts, grpc) at c.in_ok-addresses.ensures) in
    let head = c.as_str-10.ensures.value ∙ (rw (addresses, spans) at c.in_ok-head.ensures) in
    let numbers = c.as_str-12.ensures.value ∙ (rw (head, retry) at c.in_ok-numbers.ensures) in
    let policies = c.as_str-13.ensures.value ∙ c.in_ok-policies.ensures ∙ ap (λ ps. lines_of_policies name (map policy_view ps)) c.as_slice.ensures.value in
    rw (numbers, policies) at c.in_ok-lines.ensures
