-- The tenant that a document brings.
use Rattle.std.proofs.Common.{◌≡◌, ◌==◌, ◌&&◌, ◌^◌, ℕ, Bool, true, false, cond, List, [], ◌∷◌, ◌++◌, length, codes, IfOk, IfErr, Option, Some, None, Result, Ok, Err, refl, ap, sym, subst, ◌∙◌, nat_lt}
use Rattle.std.specs.List.{list_any}
use Rattle.std.specs.Option.{is_some, option_map}
use Rattle.std.specs.Prelude.{find}
use Rattle.std.specs.Str.{bytes_eq, is_utf8, IsUtf8}
use Rattle.std.proofs.lemmas.Bool.{eq-eqb}
use Rattle.std.proofs.lemmas.Str.{IsUtf8-from_is_utf8, is_utf8-from_IsUtf8}
use Rattle.toml.specs.Data.{Members}
use Rattle.toml.specs.Parse.{parse_document}
use Rattle.tail_settings.specs.Change.{only_tenant, free_number, joined, admitted_table, admitted}
use Rattle.tail_settings.specs.Fault.{FaultData, not_toml, out_of_range, double_tenant, too_many, ◌>>=◌}
use Rattle.tail_settings.specs.Keys.{text_at, allowed}
use Rattle.tail_settings.specs.QueueBytes.{bounded_tenant}
use Rattle.tail_settings.specs.Section.{section_of}
use Rattle.tail_settings.specs.SendingQueue.{most_queue_bytes}
use Rattle.tail_settings.specs.Settings.{TenantData, SettingsData, section_at, tenant_at, name_of, numbered_tenant, few_spans, document_in}
use Rattle.tail_settings.specs.Texts.{is_name}
use Rattle.tail_settings.proofs.Sound.{ok_is, bound, chosen, numbered_tenant-number, section_of-sound}
use Rattle.trace_collector.specs.Answered.{arrived}
use Rattle.trace_collector.specs.Alone.{tenant_in}
use Rattle.trace_collector.proofs.Named.{IsNewTo}

-- a document brought a tenant to these settings, and made them those
pub record Arrives (settings : SettingsData) (document : List ℕ) (table : SettingsData) : Type 0 where
  pub tenant : TenantData
  pub new : IsNewTo settings tenant
  pub joins : joined settings tenant ≡ table
  pub alone : settings.queue_bytes ≡ most_queue_bytes → tenant_in document ≡ Ok (record tenant { number = 0 })

-- after a step of which this came
went : {A B : Type 0} (m : Result A FaultData) (k : A → Result B FaultData) (x : A) → m ≡ Ok x → (m >>= k) ≡ k x
went m k x is = ap (λ r. r >>= k) is

not_any : (b : Bool) (name same : List ℕ) → cond b (Err (double_tenant name)) (Ok name) ≡ Ok same → (b ≡ false) × (name ≡ same)
not_any true name same h = absurd (cc)
not_any false name same h = (refl, ok_is name same h)

-- a tenant's name, and that nobody has it
record Reads (before : List TenantData) (table : Members) (name : List ℕ) : Type 0 where
  named : is_name name ≡ true
  new : list_any (λ t. bytes_eq name t.name) before ≡ false
  alone : name_of [] table ≡ Ok name

reads : (before : List TenantData) (table : Members) (name : List ℕ) → name_of before table ≡ Ok name → Reads before table name
unfolding name_of
reads before table name h =
    let text = bound (text_at (codes "name") table) _ name h in
    let tested = bound (allowed (codes "name") is_name text.0) _ name text.2 in
    let test = chosen (is_name text.0) text.0 tested.0 (out_of_range (codes "name")) tested.1 in
    let new = not_any (list_any (λ t. bytes_eq tested.0 t.name) before) tested.0 name tested.2 in
    record {
      named = subst (λ n. is_name n ≡ true) (test.1 ∙ new.1) test.0;
      new = subst (λ n. list_any (λ t. bytes_eq n t.name) before ≡ false) new.1 new.0;
      alone = rw (text.1, tested.1) (ap Ok new.1);
    }

-- the same of the tenant's whole table, which bounds no bytes
record Comes (before : List TenantData) (table : Members) (tenant : TenantData) : Type 0 where
  named : is_name tenant.name ≡ true
  new : list_any (λ t. bytes_eq tenant.name t.name) before ≡ false
  alone : numbered_tenant 0 [] table ≡ Ok (record tenant { number = 0 })
  unbounded : tenant.section.sending_queue.queue_bytes ≡ most_queue_bytes

comes : (number : ℕ) (before : List TenantData) (table : Members) (tenant : TenantData) → numbered_tenant number before table ≡ Ok tenant → Comes before table tenant
unfolding numbered_tenant
comes number before table tenant h =
    let name = bound (name_of before table) _ tenant h in
    let section = bound (section_of table) _ tenant name.2 in
    let read : TenantData = record { number = number; name = name.0; section = section.0 } in
    let same : read ≡ tenant = ok_is read tenant section.2 in
    let parts = reads before table name.0 name.1 in
    subst (Comes before table) same (record {
      named = parts.named;
      new = parts.new;
      alone = went (name_of [] table) _ name.0 parts.alone ∙ went (section_of table) _ section.0 section.1;
      unbounded = (section_of-sound table section.0 section.1).sending_queue.queue_bytes;
    })

-- a bound that it has already
bounded_again : (bytes : ℕ) (tenant : TenantData) → tenant.section.sending_queue.queue_bytes ≡ bytes → bounded_tenant bytes tenant ≡ tenant
bounded_again bytes tenant is = ap (λ n. bounded_tenant n tenant) (sym is)

admitted_brings : (settings : SettingsData) (document : List ℕ) (table : SettingsData) → admitted settings document ≡ Ok table → Arrives settings document table
unfolding admitted admitted_table
admitted_brings settings document table h =
    let parsed = bound (document_in (parse_document document)) (admitted_table settings) table h in
    let one = bound (only_tenant parsed.0) _ table parsed.2 in
    let number = bound (free_number settings) _ table one.2 in
    let read = bound (numbered_tenant number.0 settings.tenants one.0) _ table number.2 in
    let tenant = bounded_tenant settings.queue_bytes read.0 in
    let fits = bound (few_spans (joined settings tenant).tenants) _ table read.2 in
    let next = chosen (nat_lt (length settings.tenants) 1000 && nat_lt settings.next (2 ^ 32)) settings.next number.0 too_many number.1 in
    let parts = comes number.0 settings.tenants one.0 read.0 read.1 in
    record {
      tenant = tenant;
      new = record { number = numbered_tenant-number number.0 settings.tenants one.0 read.0 read.1 ∙ sym next.1; name = parts.named; new = parts.new };
      joins = ok_is (joined settings tenant) table fits.2;
      alone = λ none.
          ap (λ r. r >>= numbered_tenant 0 []) (went (document_in (parse_document document)) only_tenant parsed.0 parsed.1 ∙ one.1)
          ∙ parts.alone
          ∙ ap (λ (t : TenantData). Ok (record t { number = 0 })) (sym (bounded_again settings.queue_bytes read.0 (parts.unbounded ∙ sym none)));
    }

by_text : (b : Bool) (settings : SettingsData) (document : List ℕ) (table : SettingsData) → cond b (admitted settings document) (Err not_toml) ≡ Ok table → Arrives settings document table
by_text true settings document table h = admitted_brings settings document table h
by_text false settings document table h = absurd (cc)

pub arrives : (settings : SettingsData) (document : List ℕ) (table : SettingsData) → arrived settings document ≡ Ok table → Arrives settings document table
arrives settings document table h = by_text (is_utf8 document) settings document table h

-- a document that is text is read
pub text_arrives : (settings : SettingsData) (text document : List ℕ) → text ≡ document → IsUtf8 document → arrived settings document ≡ admitted settings text
text_arrives settings text document same utf8 = rw (is_utf8-from_IsUtf8 document utf8) (ap (admitted settings) (sym same))

-- and no other one
pub none_arrives : (settings : SettingsData) (document : List ℕ) → (IsUtf8 document → ⊥) → arrived settings document ≡ Err not_toml
none_arrives settings document never = by (is_utf8 document) refl
  where
    by : (b : Bool) → is_utf8 document ≡ b → cond b (admitted settings document) (Err not_toml) ≡ Err not_toml
    by true is = absurd (never (IsUtf8-from_is_utf8 document is))
    by false is = refl

-- a document changes nothing that holds for all tenants
pub shards_stay : {E : Type 0} (r : Result ℕ E) (old new : SettingsData) (document : List ℕ) → IfOk r (λ _. arrived old document ≡ Ok new) → IfErr r (λ _. new ≡ old)
    → old.global.shards ≡ new.global.shards
shards_stay (Ok number) old new document means same = ap (λ (s : SettingsData). s.global.shards) (arrives old document new means).joins
shards_stay (Err fault) old new document means same = ap (λ (s : SettingsData). s.global.shards) (sym same)

either : (b : Bool) (t : TenantData) (found : Option TenantData) → is_some found ≡ true → is_some (cond b (Some t) found) ≡ true
either true t found is = refl
either false t found is = is

found_last : (tenants : List TenantData) (tenant : TenantData) (number : ℕ) → tenant.number ≡ number → is_some (find (λ (t : TenantData). t.number == number) (tenants ++ tenant ∷ [])) ≡ true
found_last [] tenant number its = rw (eq-eqb tenant.number number its) refl
found_last (t ∷ tenants) tenant number its = either (t.number == number) t (find (λ (t : TenantData). t.number == number) (tenants ++ tenant ∷ [])) (found_last tenants tenant number its)

some_section : (found : Option TenantData) → is_some found ≡ true → is_some (option_map (λ (t : TenantData). t.section) found) ≡ true
some_section (Some t) is = refl
some_section None is = absurd (cc)

-- the newcomer is a tenant of the settings then
pub newcomer_found : (old new : SettingsData) (document : List ℕ) (number : ℕ) → arrived old document ≡ Ok new → number ≡ old.next → is_some (section_at new number) ≡ true
newcomer_found old new document number means next =
    let brings = arrives old document new means in
    subst (λ s. is_some (section_at s number) ≡ true) brings.joins
    (some_section (tenant_at (joined old brings.tenant) number) (found_last old.tenants brings.tenant number (brings.new.number ∙ sym next)))
