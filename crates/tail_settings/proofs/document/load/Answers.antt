use Rattle.std.proofs.Common.{◌≡◌, ◌≤◌, ◌^◌, ◌∙◌, ap, sym, subst, arith, ℕ, map, length, Ok}
use Rattle.std.proofs.lemmas.Bool.{le-leb}
use Rattle.std.proofs.lemmas.List.{length-map}
use Rattle.toml.specs.View.{table_view}
use Rattle.tail_settings.specs.Global.{global_view}
use Rattle.tail_settings.specs.SendingQueue.{most_queue_bytes}
use Rattle.tail_settings.specs.Settings.{tenant_view, spans_of, settings_of, settings_of_table}
use Rattle.tail_settings.proofs.Numbers.{rise_by_place, below_by_place}
use Rattle.tail_settings.proofs.Rules.{settings_of-not_toml}
use Rattle.tail_settings.proofs.Sound.{tenants_of-sound, settings_of-sound}
use Rattle.tail_settings.proofs.document.load.Goals as goal

pub returns-in_err-document-clause-not_toml : goal.returns-in_err-document-clause-not_toml
returns-in_err-document-clause-not_toml c = settings_of-not_toml c.args.text.now

pub returns-in_err-global-clause-not_toml : goal.returns-in_err-global-clause-not_toml
returns-in_err-global-clause-not_toml c = settings_of-not_toml c.args.text.now

pub returns-in_err-tenants-clause-not_toml : goal.returns-in_err-tenants-clause-not_toml
returns-in_err-tenants-clause-not_toml c = settings_of-not_toml c.args.text.now

pub invariant_of-result : goal.invariant_of-result
invariant_of-result c =
    let es = c.in_ok-tenants.tenants.entries in
    let placed = (tenants_of-sound (table_view c.in_ok-document.document.table) (map tenant_view es) c.in_ok-tenants.ensures.meaning).3 in
    let few : c.spans.result ≤ 2 ^ 31 = omega arith in
    let numbers : c.len-next.result ≤ 2 ^ 32 = omega (arith, c.len-next.ensures.len, c.in_ok-tenants.ensures.at_most_1000) in
    record {
      few_tenants = c.in_ok-tenants.ensures.at_most_1000;
      few_spans = subst (λ (n : ℕ). n ≤ 2 ^ 31) c.spans.ensures.entries few;
      few_numbers = numbers;
      few_bytes = omega arith;
      rising = rise_by_place es placed;
      below = below_by_place es placed c.len-next.result (omega (arith, c.len-next.ensures.len));
    }

pub returns-clause-on_success : goal.returns-clause-on_success
unfolding settings_of settings_of_table
returns-clause-on_success c =
    let es = c.in_ok-tenants.tenants.entries in
    let total = spans_of (map tenant_view es) in
    let few : total ≤ 2 ^ 31 = omega (arith, c.spans.ensures.meaning) in
    let next : length (map tenant_view es) ≡ c.len-next.result = length-map es tenant_view ∙ sym c.len-next.ensures.len in
    rw (c.in_ok-document.ensures, c.in_ok-global.ensures, c.in_ok-tenants.ensures.meaning, le-leb total (2 ^ 31) few)
    (ap (λ (n : ℕ). Ok (record { global = global_view c.in_ok-global.global; tenants = map tenant_view es; next = n; queue_bytes = most_queue_bytes })) next)

pub returns-clause-valid : goal.returns-clause-valid
unfolding settings_of settings_of_table
returns-clause-valid c =
    let es = c.in_ok-tenants.tenants.entries in
    let total = spans_of (map tenant_view es) in
    let few : total ≤ 2 ^ 31 = omega (arith, c.spans.ensures.meaning) in
    let next : length (map tenant_view es) ≡ c.len-next.result = length-map es tenant_view ∙ sym c.len-next.ensures.len in
    settings_of-sound c.args.text.now _
    (rw (c.in_ok-document.ensures, c.in_ok-global.ensures, c.in_ok-tenants.ensures.meaning, le-leb total (2 ^ 31) few)
    (ap (λ (n : ℕ). Ok (record { global = global_view c.in_ok-global.global; tenants = map tenant_view es; next = n; queue_bytes = most_queue_bytes })) next))
