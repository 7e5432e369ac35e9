use Rattle.std.proofs.Common.{◌≡◌, ap, sym, subst, ◌∙◌, map, length, ℕ, Ok}
use Rattle.std.specs.String.{string_eq}
use Rattle.std.proofs.lemmas.List.{length-map}
use Rattle.indexmap.proofs.CallerLemmas.{insert_entry-new}
use Rattle.tail_settings.specs.Keys.{keys_of}
use Rattle.tail_settings.specs.Settings.{tenant_view, numbered_tenant}
use Rattle.tail_settings.proofs.Tenants.{with_tenant-read}
use Rattle.tail_settings.proofs.document.add_tenant.Goals as goal

pub returns-clause-meaning : goal.returns-clause-meaning
returns-clause-meaning c =
    let es = c.args.tenants.now.entries in
    let name = c.in_ok-name.name in
    let tenant = c.in_ok-name.tenant in
    let number : c.len-number.result ≡ length (map tenant_view es) = c.len-number.ensures.len ∙ sym (length-map es tenant_view) in
    let read = subst (λ (n : ℕ). numbered_tenant n (map tenant_view es) (keys_of c.args.table) ≡ Ok (tenant_view (name, tenant))) number c.in_ok-name.ensures.meaning in
    with_tenant-read es (keys_of c.args.table) name tenant read
    ∙ ap (λ es. Ok (map tenant_view es)) (sym (c.in_ok-insert.ensures.entries ∙ insert_entry-new string_eq c.args.tenants.now name tenant c.in_ok-name.ensures.new))
