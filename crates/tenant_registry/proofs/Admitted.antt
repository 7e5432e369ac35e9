-- Who is let in is there.
use Rattle.std.proofs.Common.{◌≡◌, ℕ, List, ◌==◌, ◌^◌, true, ◌&&◌, [], ◌∷◌, length, Option, Some, None, Ok, IsSome, nat_lt, refl, sym, subst, ◌∙◌, arith}
use Rattle.std.specs.Option.{option_or}
use Rattle.std.proofs.lemmas.Bool.Decides.{nat_tests}
use Rattle.std.proofs.lemmas.List.Folds.{find-append}
use Rattle.toml.specs.Data.{Members}
use Rattle.toml.specs.Parse.{parse_document}
use Rattle.tail_settings.specs.Change.{only_tenant, free_number, joined, admitted_table, admitted}
use Rattle.tail_settings.specs.Fault.{too_many}
use Rattle.tail_settings.specs.QueueBytes.{bounded_tenant}
use Rattle.tail_settings.specs.Settings.{TenantData, SettingsData, tenant_at, numbered_tenant, few_spans, document_in}
use Rattle.tail_settings.proofs.Sound.{bound, chosen, ok_is, numbered_tenant-number}

-- who comes has the next number
came : (s new : SettingsData) (document : Members) → admitted_table s document ≡ Ok new → (t : TenantData) × (t.number ≡ s.next) × (joined s t ≡ new)
unfolding admitted_table
came s new document h =
    let table = bound (only_tenant document) _ new h in
    let number = bound (free_number s) _ new table.2 in
    let read = bound (numbered_tenant number.0 s.tenants table.0) _ new number.2 in
    let tenant = bounded_tenant s.queue_bytes read.0 in
    let fits = bound (few_spans (joined s tenant).tenants) _ new read.2 in
    let next = chosen (nat_lt (length s.tenants) 1000 && nat_lt s.next (2 ^ 32)) s.next number.0 too_many number.1 in
    (tenant, numbered_tenant-number number.0 s.tenants table.0 read.0 read.1 ∙ sym next.1, ok_is (joined s tenant) new fits.2)

-- the same with a text
pub came_with : (s new : SettingsData) (text : List ℕ) → admitted s text ≡ Ok new → (t : TenantData) × (t.number ≡ s.next) × (joined s t ≡ new)
unfolding admitted
came_with s new text h =
    let document = bound (document_in (parse_document text)) (admitted_table s) new h in came s new document.0 document.2

one_of : {X : Type 0} (a : Option X) (x : X) → IsSome (option_or a (Some x))
one_of None x = refl
one_of (Some y) x = refl

joined_there : (s : SettingsData) (t : TenantData) → t.number ≡ s.next → IsSome (tenant_at (joined s t) s.next)
joined_there s t next =
    let test : (t.number == s.next) ≡ true = grind (arith, nat_tests) in
    rw (find-append (λ (u : TenantData). u.number == s.next) s.tenants (t ∷ []), test) (one_of (tenant_at s s.next) t)

pub is_there : (s new : SettingsData) (document : Members) (number : ℕ) → admitted_table s document ≡ Ok new → number ≡ s.next → IsSome (tenant_at new number)
is_there s new document number h is =
    let one = came s new document h in
    rw is (subst (λ (n : SettingsData). IsSome (tenant_at n s.next)) one.2 (joined_there s one.0 one.1))
