use Rattle.std.proofs.Common.{◌≡◌, ◌<◌, ◌≤◌, ◌+◌, ◌^◌, ◌∙◌, ap, sym, subst, arith, List, [], ◌∷◌, ◌++◌, map, length, Ok}
use Rattle.std.specs.Prelude.{All, sum_by}
use Rattle.std.specs.String.{string_eq}
use Rattle.std.proofs.lemmas.List.{length_push, map-append}
use Rattle.std.proofs.lemmas.List.Sums.{sum_by_push}
use Rattle.indexmap.proofs.CallerLemmas.{insert_entry-new}
use Rattle.tail_settings.specs.Global.{global_view}
use Rattle.tail_settings.specs.Settings.{TenantData, tenant_view}
use Rattle.tail_settings.proofs.Numbers.{Rise, Rise-push, below-push}
use Rattle.tail_settings.proofs.Tenants.{Entry, Entries}
use Rattle.tail_settings.proofs.settings.Settings.admit_document.Goals as goal

pub invariant_of-self-2 : goal.invariant_of-self-2
invariant_of-self-2 c =
    let s = c.args.self.now in
    let es = s.tenants.entries in
    let e : Entry = (c.in_ok-name.name, c.in_ok-name.tenant) in
    let seen = λ (d : Entry). d.1.section.max_spans in
    let now : c.insert.new.self.entries ≡ es ++ e ∷ [] = c.in_ok-insert.ensures.entries ∙ insert_entry-new string_eq s.tenants c.in_ok-name.name c.in_ok-name.tenant c.in_ok-name.ensures.name in
    let few : sum_by seen (es ++ e ∷ []) ≤ 2 ^ 31 = omega (arith, sum_by_push seen es e, c.in_ok-name.ensures.spans) in
    let tenants : length c.insert.new.self.entries ≤ 1000 = omega (arith, ap length now, length_push es e, c.in_ok-name.ensures.room) in
    let numbers : s.next + 1 ≤ 2 ^ 32 = omega (arith, c.in_ok-name.ensures.left) in
    record {
      few_tenants = tenants;
      few_spans = subst (λ (l : Entries). sum_by seen l ≤ 2 ^ 31) (sym now) few;
      few_numbers = numbers;
      few_bytes = s.few_bytes;
      rising = subst Rise (sym now) (Rise-push es e s.next c.in_ok-name.ensures.number s.below s.rising);
      below = subst (All (λ (d : Entry). d.1.number < s.next + 1)) (sym now) (below-push es e s.next c.in_ok-name.ensures.number s.below);
    }

pub returns-clause-on_success : goal.returns-clause-on_success
returns-clause-on_success c =
    let s = c.args.self.now in
    let es = s.tenants.entries in
    let e : Entry = (c.in_ok-name.name, c.in_ok-name.tenant) in
    let now : c.insert.new.self.entries ≡ es ++ e ∷ [] = c.in_ok-insert.ensures.entries ∙ insert_entry-new string_eq s.tenants c.in_ok-name.name c.in_ok-name.tenant c.in_ok-name.ensures.name in
    c.in_ok-name.ensures.meaning
    ∙ ap (λ (ts : List TenantData). Ok (record { global = global_view s.global; tenants = ts; next = s.next + 1; queue_bytes = s.queue_bytes })) (sym (ap (map tenant_view) now ∙ map-append tenant_view es (e ∷ [])))
