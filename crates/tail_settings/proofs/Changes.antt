-- What changes of the tenants do to numbers.
use Rattle.std.proofs.Common.{◌≡◌, ℕ, zero, suc, ◌+◌, ◌<◌, ◌≤◌, ◌==◌, ◌^◌, Bool, true, false, cond, not, ◌&&◌, ◌⊎◌, inl, inr, List, [], ◌∷◌, filter, length, get_or, Option, Some, None, Result, Ok, Err, refl, sym, ap, ◌∙◌, subst, arith, nat_lt}
use Rattle.std.specs.Prelude.{find, slice_get}
use Rattle.std.specs.Option.{option_or}
use Rattle.std.proofs.lemmas.Bool.{cases_eq}
use Rattle.std.proofs.lemmas.Bool.Decides.{nat_tests}
use Rattle.std.proofs.lemmas.List.Folds.{find-append}
use Rattle.toml.specs.Parse.{parse_document}
use Rattle.tail_settings.specs.Change.{only_tenant, free_number, joined, admitted_table, admitted, struck, Change, admit, strike, or_before, changed, after, NumbersAreUsedOnce}
use Rattle.tail_settings.specs.Fault.{FaultData, too_many}
use Rattle.tail_settings.specs.QueueBytes.{bounded_tenant}
use Rattle.tail_settings.specs.Settings.{TenantData, SettingsData, tenant_at, numbered_tenant, few_spans, document_in}
use Rattle.tail_settings.specs.Valid.{AreFoundByPlace}
use Rattle.tail_settings.proofs.Sound.{bound, chosen, ok_is, numbered_tenant-number}

-- ---- one more

-- who comes has the next number
came : (s new : SettingsData) (text : List ℕ) → admitted s text ≡ Ok new → (t : TenantData) × (t.number ≡ s.next) × (joined s t ≡ new)
unfolding admitted admitted_table
came s new text h =
    let document = bound (document_in (parse_document text)) (admitted_table s) new h in
    let table = bound (only_tenant document.0) _ new document.2 in
    let number = bound (free_number s) _ new table.2 in
    let read = bound (numbered_tenant number.0 s.tenants table.0) _ new number.2 in
    let tenant = bounded_tenant s.queue_bytes read.0 in
    let fits = bound (few_spans (joined s tenant).tenants) _ new read.2 in
    let next = chosen (nat_lt (length s.tenants) 1000 && nat_lt s.next (2 ^ 32)) s.next number.0 too_many number.1 in
    (tenant, numbered_tenant-number number.0 s.tenants table.0 read.0 read.1 ∙ sym next.1, ok_is (joined s tenant) new fits.2)

-- ---- numbers that were given

or_none : {X : Type 0} (o : Option X) → option_or o None ≡ o
or_none None = refl
or_none (Some x) = refl

not_it : {X : Type 0} (b : Bool) (x : X) → b ≡ false → cond b (Some x) None ≡ None
not_it true x h = absurd (let no : ⊥ = cc in no)
not_it false x h = refl

joined_at : (s : SettingsData) (t : TenantData) (number : ℕ) → t.number ≡ s.next → number < s.next → tenant_at (joined s t) number ≡ tenant_at s number
joined_at s t number next below =
    let other : (t.number == number) ≡ false = grind (arith, nat_tests) in
    find-append (λ (u : TenantData). u.number == number) s.tenants (t ∷ [])
    ∙ ap (option_or (tenant_at s number)) (not_it (t.number == number) t other)
    ∙ or_none (tenant_at s number)

gone : {X : Type 0} (p : X → Bool) (xs : List X) → find p (filter (λ x. not (p x)) xs) ≡ None
gone p [] = refl
gone p (x ∷ xs) = by (p x) refl (gone p xs)
  where
    by : (b : Bool) → p x ≡ b → find p (filter (λ x. not (p x)) xs) ≡ None → find p (cond (not b) (x ∷ filter (λ x. not (p x)) xs) (filter (λ x. not (p x)) xs)) ≡ None
    by true h rest = rest
    by false h rest = rw h rest

kept : {X : Type 0} (p q : X → Bool) → ((x : X) → q x ≡ true → p x ≡ false) → (xs : List X) → find p (filter (λ x. not (q x)) xs) ≡ find p xs
kept p q apart [] = refl
kept p q apart (x ∷ xs) = by (q x) refl (kept p q apart xs)
  where
    by : (b : Bool) → q x ≡ b → find p (filter (λ x. not (q x)) xs) ≡ find p xs → find p (cond (not b) (x ∷ filter (λ x. not (q x)) xs) (filter (λ x. not (q x)) xs)) ≡ cond (p x) (Some x) (find p xs)
    by true h rest = rw (apart x h) rest
    by false h rest = ap (cond (p x) (Some x)) rest

struck_at : (s : SettingsData) (other number : ℕ) → (tenant_at (struck s other) number ≡ tenant_at s number) ⊎ (tenant_at (struck s other) number ≡ None)
struck_at s other number = elim (cases_eq other number) [
  | inl same ↦ inr (subst (λ k. tenant_at (struck s k) number ≡ None) (sym same) (gone (λ (t : TenantData). t.number == number) s.tenants))
  | inr apart ↦ inl (kept (λ (t : TenantData). t.number == number) (λ (t : TenantData). t.number == other) (λ t h. grind (arith, nat_tests)) s.tenants)
]

abbrev IsIts : Option TenantData → Option TenantData → Type 0
IsIts before now = (now ≡ before) ⊎ (now ≡ None)

then_its : (a b c : Option TenantData) → IsIts a b → IsIts b c → IsIts a c
then_its a b c (inl one) (inl more) = inl (more ∙ one)
then_its a b c (inr none) (inl more) = inr (more ∙ none)
then_its a b c one (inr none) = inr none

module _ (number : ℕ) where
  abbrev Keeps : SettingsData → SettingsData → Type 0
  Keeps s new = (s.next ≤ new.next) × IsIts (tenant_at s number) (tenant_at new number)

  or_before_keeps : (s : SettingsData) (text : List ℕ) (r : Result SettingsData FaultData) → admitted s text ≡ r → number < s.next → Keeps s (or_before s r)
  or_before_keeps s text (Ok new) h below =
      let one = came s new text h in
      subst (Keeps s) one.2 (omega arith, inl (joined_at s one.0 number one.1 below))
  or_before_keeps s text (Err fault) h below = (omega arith, inl refl)

  change_keeps : (s : SettingsData) (change : Change) → number < s.next → Keeps s (changed s change)
  change_keeps s (admit text) below = or_before_keeps s text (admitted s text) refl below
  change_keeps s (strike other) below = (omega arith, struck_at s other number)

  changes_keep : (s : SettingsData) (changes : List Change) → number < s.next → IsIts (tenant_at s number) (tenant_at (after s changes) number)
  changes_keep s [] below = inl refl
  changes_keep s (change ∷ changes) below =
      let one = change_keeps s change below in
      then_its (tenant_at s number) (tenant_at (changed s change) number) (tenant_at (after (changed s change) changes) number) one.1
      (changes_keep (changed s change) changes (omega (arith, below, one.0)))

pub used_once : NumbersAreUsedOnce
used_once s changes number below = changes_keep number s changes below

-- ---- numbers that are places

by_place_from : (first : ℕ) (ts : List TenantData) (k : ℕ) → ((i : ℕ) (d : TenantData) → i < length ts → (get_or ts i d).number ≡ first + i) → find (λ (t : TenantData). t.number == first + k) ts ≡ slice_get ts k
by_place_from first [] k all = refl
by_place_from first (t ∷ ts) zero all =
    let here = all 0 t (omega arith) in
    let test : (t.number == first + 0) ≡ true = grind (arith, nat_tests) in
    rw test refl
by_place_from first (t ∷ ts) (suc k) all =
    let here = all 0 t (omega arith) in
    let test : (t.number == first + suc k) ≡ false = grind (arith, nat_tests) in
    rw test
    (subst (λ n. find (λ (u : TenantData). u.number == n) ts ≡ slice_get ts k) (let same : suc first + k ≡ first + suc k = omega arith in same)
    (by_place_from (suc first) ts k (λ i d short. omega (arith, all (suc i) d (omega (arith, short))))))

pub found_by_place : AreFoundByPlace
found_by_place s number all =
    subst (λ n. find (λ (t : TenantData). t.number == n) s.tenants ≡ slice_get s.tenants number) (let same : 0 + number ≡ number = omega arith in same)
    (by_place_from 0 s.tenants number (λ i d short. omega (arith, all i d short)))
