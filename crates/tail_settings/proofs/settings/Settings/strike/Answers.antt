use Rattle.std.proofs.Common.{◌≡◌, ◌≤◌, ◌<◌, ◌^◌, ◌∙◌, ap, sym, subst, arith, List, map, length}
use Rattle.std.specs.Prelude.{All, option_map, sum_by}
use Rattle.std.specs.List.{remove}
use Rattle.tail_settings.specs.Global.{global_view}
use Rattle.tail_settings.specs.Settings.{TenantData, tenant_view}
use Rattle.tail_settings.proofs.Numbers.{Rise, place_within, tenant_at_place, no_tenant, all_left, one_struck, not_past, Rise-remove, sum_by-remove-le, All-remove}
use Rattle.tail_settings.proofs.Tenants.{Entry, Entries}
use Rattle.tail_settings.proofs.settings.Settings.strike.Goals as goal

pub returns-in_default-clause-section : goal.returns-in_default-clause-section
returns-in_default-clause-section c =
    ap (option_map (λ (t : TenantData). t.section)) (sym (no_tenant c.args.number c.args.self.now.tenants.entries (sym c.in_default.ensures)))

pub returns-in_default-clause-left : goal.returns-in_default-clause-left
returns-in_default-clause-left c =
    let s = c.args.self.now in
    ap (λ (ts : List TenantData). record { global = global_view s.global; tenants = ts; next = s.next; queue_bytes = s.queue_bytes }) (sym (all_left c.args.number s.tenants.entries (sym c.in_default.ensures)))

pub unreachable-requires : goal.unreachable-requires
unreachable-requires c =
    let es = c.args.self.now.tenants.entries in
    not_past es c.in-Some.place (place_within c.args.number es c.in-Some.place (sym c.in-Some.ensures)) (sym c.in_default-shift_remove_index.ensures.entry)

pub invariant_of-self : goal.invariant_of-self
invariant_of-self c =
    let s = c.args.self.now in
    let es = s.tenants.entries in
    let i = c.in-Some.place in
    let within : i < length es = place_within c.args.number es i (sym c.in-Some.ensures) in
    let now : c.shift_remove_index.new.self.entries ≡ remove es i = c.shift_remove_index.ensures.entries in
    let seen = λ (d : Entry). d.1.section.max_spans in
    let few : sum_by seen (remove es i) ≤ 2 ^ 31 = omega (arith, sum_by-remove-le es i within seen, s.few_spans) in
    let tenants : length c.shift_remove_index.new.self.entries ≤ 1000 = omega (arith, c.shift_remove_index.ensures.len, s.few_tenants) in
    record {
      few_tenants = tenants;
      few_spans = subst (λ (l : Entries). sum_by seen l ≤ 2 ^ 31) (sym now) few;
      few_numbers = s.few_numbers;
      few_bytes = s.few_bytes;
      rising = subst Rise (sym now) (Rise-remove es i within s.rising);
      below = subst (All (λ (d : Entry). d.1.number < s.next)) (sym now) (All-remove (λ (d : Entry). d.1.number < s.next) es i s.below);
    }

pub returns-clause-section : goal.returns-clause-section
returns-clause-section c =
    let es = c.args.self.now.tenants.entries in
    ap (option_map (λ (t : TenantData). t.section))
    (sym (tenant_at_place c.args.number es c.in-Some.place (sym c.in-Some.ensures) ∙ ap (option_map tenant_view) (sym c.in-Some-shift_remove_index.ensures.entry)))

pub returns-clause-left : goal.returns-clause-left
returns-clause-left c =
    let s = c.args.self.now in
    let es = s.tenants.entries in
    let e : Entry = (c.in-Some-shift_remove_index._name, c.in-Some-shift_remove_index.tenant) in
    ap (λ (ts : List TenantData). record { global = global_view s.global; tenants = ts; next = s.next; queue_bytes = s.queue_bytes })
    (ap (map tenant_view) c.shift_remove_index.ensures.entries ∙ sym (one_struck c.args.number es c.in-Some.place e s.rising (sym c.in-Some.ensures) (sym c.in-Some-shift_remove_index.ensures.entry)))
