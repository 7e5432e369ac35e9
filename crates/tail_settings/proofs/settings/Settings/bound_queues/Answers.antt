use Rattle.std.proofs.Common.{◌≤◌, ◌^◌, ◌∙◌, ap, subst, sym, arith, ℕ, List, map}
use Rattle.tail_settings.specs.Global.{global_view}
use Rattle.tail_settings.specs.QueueBytes.{bounded_tenant}
use Rattle.tail_settings.specs.Settings.{TenantData, tenant_view}
use Rattle.tail_settings.proofs.QueueBytes.{as_many, as_many_spans, still_rising, still_below}
use Rattle.tail_settings.proofs.settings.Settings.bound_queues.Goals as goal

pub invariant_of-self : goal.invariant_of-self
invariant_of-self c =
    let s = c.args.self.now in
    let es = s.tenants.entries in
    let new = c.bound_tenants.new.tenants.entries in
    let bytes = c.min-bytes.result in
    let same = c.bound_tenants.ensures in
    record {
      few_tenants = omega (arith, as_many bytes es new same, s.few_tenants);
      few_spans = subst (λ n. n ≤ 2 ^ 31) (sym (as_many_spans bytes es new same)) s.few_spans;
      few_numbers = s.few_numbers;
      few_bytes = omega arith;
      rising = still_rising bytes es new same s.rising;
      below = still_below bytes es new same s.next s.below;
    }

pub returns : goal.returns
returns c =
    let s = c.args.self.now in
    let b = c.min-bytes.result in
    ap (λ (ts : List TenantData). record { global = global_view s.global; tenants = ts; next = s.next; queue_bytes = b }) c.bound_tenants.ensures
    ∙ ap (λ (n : ℕ). record { global = global_view s.global; tenants = map (bounded_tenant n) (map tenant_view s.tenants.entries); next = s.next; queue_bytes = n }) c.min-bytes.ensures
