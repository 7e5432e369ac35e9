-- The names and numbers of tenants in settings that come and go: each name is a word, and no two tenants have the same
-- name or number.
use Rattle.std.proofs.Common.{◌≡◌, ◌≢◌, ◌<◌, ◌+◌, ◌==◌, ◌||◌, ℕ, zero, suc, Bool, true, false, cond, not, List, [], ◌∷◌, Option, Some, None, Ok, All, refl, ap, sym, subst, ◌∙◌, arith, inl, inr}
use Rattle.std.specs.Prelude.{find, filter, get_or}
use Rattle.std.specs.List.{slice_get, list_all, list_any, AllPairs}
use Rattle.std.specs.Option.{option_map, option_or, unwrap_or}
use Rattle.std.specs.Str.{bytes_eq}
use Rattle.std.proofs.lemmas.Bool.{cases_lt, and_parts, both_ways, eq-eqb, eqb-true}
use Rattle.std.proofs.lemmas.Bool.Decides.{nat_tests}
use Rattle.std.proofs.lemmas.List.Elements.{All-nil, All-cons, All-filter, All-push}
use Rattle.std.proofs.lemmas.List.Folds.{find-append}
use Rattle.std.proofs.lemmas.List.Kept.{AllPairs-filter}
use Rattle.std.proofs.lemmas.List.Quantifiers.{all_pairs_push}
use Rattle.std.proofs.lemmas.List.Sums.{AllPass-from_list_all}
use Rattle.std.proofs.lemmas.Option.{same_Some, slice_get_within, get_or_from_slice_get}
use Rattle.std.proofs.lemmas.Slice.Eq.{bytes_eq-Decides}
use Rattle.tail_settings.specs.Change.{joined, struck}
use Rattle.tail_settings.specs.Texts.{is_name, is_name_byte, is_long}
use Rattle.tail_settings.specs.SendingQueue.{most_queue_bytes}
use Rattle.tail_settings.specs.Settings.{SettingsData, TenantData, tenant_at, section_at, number_of, settings_of}
use Rattle.tail_settings.proofs.Sound.{settings_of-sound}
use Rattle.trace_collector.specs.Outcomes.{name_at}
use Rattle.trace_collector.proofs.OneLine.{IsWord}

pub record AreNamed (settings : SettingsData) : Type 0 where
  pub words : (number : ℕ) (tenant : TenantData) → tenant_at settings number ≡ Some tenant → IsWord tenant.name
  pub apart : (a b : ℕ) (t u : TenantData) → tenant_at settings a ≡ Some t → tenant_at settings b ≡ Some u → t.name ≡ u.name → a ≡ b
  pub known : (name : List ℕ) (number : ℕ) → number_of settings name ≡ Some number → (tenant : TenantData) × (tenant_at settings number ≡ Some tenant) × (name ≡ tenant.name)

-- what stays so, whoever comes and goes
pub record AreListed (settings : SettingsData) : Type 0 where
  pub names : All (λ t. is_name t.name ≡ true) settings.tenants
  pub distinct : AllPairs (λ t u. t.name ≢ u.name) settings.tenants
  pub rising : AllPairs (λ t u. t.number < u.number) settings.tenants
  pub below : All (λ t. t.number < settings.next) settings.tenants
  pub unbounded : settings.queue_bytes ≡ most_queue_bytes

not_feed : (byte : ℕ) → is_name_byte byte ≡ true → byte ≢ 10
not_feed byte h e = grind (arith, nat_tests)

not_space : (byte : ℕ) → is_name_byte byte ≡ true → (byte == 32) ≡ false
not_space byte h = grind (arith, nat_tests)

pub word_of : (name : List ℕ) → is_name name ≡ true → IsWord name
word_of name h =
    let all = and_parts (is_long 64 name) (list_all is_name_byte name) h in
    let pass = AllPass-from_list_all is_name_byte name all.1 in
    record {
      plain = λ k d below. not_feed _ (pass k d below);
      whole = λ k d below. not_space _ (pass k d below);
    }

-- of two places where what holds of no pair holds, neither is the first
module _ (R : TenantData → TenantData → Type 0) (tenants : List TenantData) (pairs : AllPairs (λ t u. R t u → ⊥) tenants) where
  in_order : (a b : ℕ) (t u : TenantData) → slice_get tenants a ≡ Some t → slice_get tenants b ≡ Some u → a < b → R t u → ⊥
  in_order a b t u at_a at_b less related =
      let differ = pairs a b t less (slice_get_within tenants b u at_b) in
      differ (subst (λ x. R x (get_or tenants b t)) (sym (get_or_from_slice_get tenants a t t at_a)) (subst (R t) (sym (get_or_from_slice_get tenants b u t at_b)) related))

  one_place : (a b : ℕ) (t u : TenantData) → slice_get tenants a ≡ Some t → slice_get tenants b ≡ Some u → R t u → R u t → a ≡ b
  one_place a b t u at_a at_b related back = elim (cases_lt a b) [
    | inl less ↦ absurd (in_order a b t u at_a at_b less related)
    | inr past ↦ elim (cases_lt b a) [
      | inl less ↦ absurd (in_order b a u t at_b at_a less back)
      | inr past' ↦ omega (arith, past, past')
    ]
  ]

  one_tenant : (a b : ℕ) (t u : TenantData) → slice_get tenants a ≡ Some t → slice_get tenants b ≡ Some u → R t u → R u t → t ≡ u
  one_tenant a b t u at_a at_b related back =
      let place = one_place a b t u at_a at_b related back in
      same_Some t u (sym at_a ∙ subst (λ k. slice_get tenants k ≡ Some u) (sym place) at_b)

-- who is found stands somewhere, and passes
module _ {X : Type 0} (p : X → Bool) where
  first_found : (xs : List X) (x : X) → find p xs ≡ Some x → (place : ℕ) × (slice_get xs place ≡ Some x) × (p x ≡ true)
  first_found [] x found = absurd (cc)
  first_found (y ∷ ys) x found = by (p y) refl found (first_found ys x)
    where
      by : (b : Bool) → p y ≡ b → cond b (Some y) (find p ys) ≡ Some x → (find p ys ≡ Some x → (place : ℕ) × (slice_get ys place ≡ Some x) × (p x ≡ true))
          → (place : ℕ) × (slice_get (y ∷ ys) place ≡ Some x) × (p x ≡ true)
      by true passes found rest = (0, found, subst (λ z. p z ≡ true) (same_Some y x found) passes)
      by false passes found rest = let later = rest found in (suc later.0, later.1, later.2)

none_passes : {X : Type 0} (p : X → Bool) (xs : List X) → find p xs ≡ None → All (λ x. p x ≡ false) xs
none_passes p [] none = All-nil (λ x. p x ≡ false)
none_passes p (x ∷ xs) none = by (p x) refl none (none_passes p xs)
  where
    by : (b : Bool) → p x ≡ b → cond b (Some x) (find p xs) ≡ None → (find p xs ≡ None → All (λ x. p x ≡ false) xs) → All (λ x. p x ≡ false) (x ∷ xs)
    by true is none rest = absurd (cc)
    by false is none rest = All-cons (λ x. p x ≡ false) x xs is (rest none)

-- the tenant with a number has that number
pub number_at : (settings : SettingsData) (number : ℕ) (tenant : TenantData) → tenant_at settings number ≡ Some tenant → tenant.number ≡ number
number_at settings number tenant at =
    let there = first_found (λ (t : TenantData). t.number == number) settings.tenants tenant at in
    eqb-true tenant.number number there.2

-- who is found by a name is found by the number
module _ (p : TenantData → Bool) where
  found_number : (ts : List TenantData) (t : TenantData) → find p ts ≡ Some t → find (λ u. u.number == t.number) ts ≡ None → ⊥
  found_number [] t is none = absurd (cc)
  found_number (u ∷ us) t is none = by (p u) (u.number == t.number) refl is none (found_number us t)
    where
      by : (b c : Bool) → (u.number == t.number) ≡ c → cond b (Some u) (find p us) ≡ Some t → cond c (Some u) (find (λ v. v.number == t.number) us) ≡ None
          → (find p us ≡ Some t → find (λ v. v.number == t.number) us ≡ None → ⊥) → ⊥
      by true true own is none rest = absurd (let no : ⊥ = cc in no)
      by false true own is none rest = absurd (let no : ⊥ = cc in no)
      by true false own is none rest = both_ways (u.number == t.number) own (eq-eqb u.number t.number (ap (λ v. v.number) (same_Some u t is)))
      by false false own is none rest = rest is none

no_tenant : (o : Option TenantData) → option_map (λ t. t.section) o ≡ None → o ≡ None
no_tenant None none = refl
no_tenant (Some t) none = absurd (cc)

found_section : (settings : SettingsData) (name : List ℕ) (number : ℕ) (found : Option TenantData) → find (λ t. bytes_eq name t.name) settings.tenants ≡ found
    → option_map (λ t. t.number) found ≡ Some number → section_at settings number ≡ None → ⊥
found_section settings name number None is at none = absurd (cc)
found_section settings name number (Some t) is at none =
    found_number (λ u. bytes_eq name u.name) settings.tenants t is
    (subst (λ n. find (λ u. u.number == n) settings.tenants ≡ None) (sym (same_Some t.number number at)) (no_tenant (tenant_at settings number) none))

-- who has a name has a section
pub named_section : (settings : SettingsData) (name : List ℕ) (number : ℕ) → number_of settings name ≡ Some number → section_at settings number ≡ None → ⊥
named_section settings name number = found_section settings name number (find (λ t. bytes_eq name t.name) settings.tenants) refl

-- ---- tenants with names and numbers of their own

module _ (settings : SettingsData) (are : AreListed settings) where
  -- two tenants at places, of one name or of one number, are one
  same_name : (a b : ℕ) (t u : TenantData) → slice_get settings.tenants a ≡ Some t → slice_get settings.tenants b ≡ Some u → t.name ≡ u.name → t ≡ u
  same_name a b t u at_a at_b same = one_tenant (λ t u. t.name ≡ u.name) settings.tenants are.distinct a b t u at_a at_b same (sym same)

  same_number : (a b : ℕ) (t u : TenantData) → slice_get settings.tenants a ≡ Some t → slice_get settings.tenants b ≡ Some u → t.number ≡ u.number → t ≡ u
  same_number a b t u at_a at_b same =
      one_tenant (λ t u. t.number ≡ u.number) settings.tenants (λ i j d less within e. omega (arith, are.rising i j d less within, e)) a b t u at_a at_b same (sym same)

  -- who stands at a place is found by its number
  placed_at : (place : ℕ) (t : TenantData) (found : Option TenantData) → slice_get settings.tenants place ≡ Some t → tenant_at settings t.number ≡ found → found ≡ Some t
  placed_at place t None at is =
      let all : All (λ u. (u.number == t.number) ≡ false) settings.tenants = none_passes (λ u. u.number == t.number) settings.tenants is in
      let here = all place t (slice_get_within settings.tenants place t at) in
      let own : (get_or settings.tenants place t).number ≡ t.number = ap (λ v. v.number) (get_or_from_slice_get settings.tenants place t t at) in
      absurd (both_ways _ here (eq-eqb _ _ own))
  placed_at place t (Some u) at is =
      let there = first_found (λ (v : TenantData). v.number == t.number) settings.tenants u is in
      ap Some (same_number there.0 place u t there.1 at (eqb-true u.number t.number there.2))

  known_by : (name : List ℕ) (number : ℕ) (found : Option TenantData) → find (λ t. bytes_eq name t.name) settings.tenants ≡ found → option_map (λ t. t.number) found ≡ Some number
      → (tenant : TenantData) × (tenant_at settings number ≡ Some tenant) × (name ≡ tenant.name)
  known_by name number None is at = absurd (cc)
  known_by name number (Some t) is at =
      let there = first_found (λ t. bytes_eq name t.name) settings.tenants t is in
      (t, subst (λ n. tenant_at settings n ≡ Some t) (same_Some t.number number at) (placed_at there.0 t (tenant_at settings t.number) there.1 refl), (bytes_eq-Decides name t.name).0 there.2)

  place_of : (number : ℕ) (tenant : TenantData) → tenant_at settings number ≡ Some tenant → (place : ℕ) × (slice_get settings.tenants place ≡ Some tenant) × ((tenant.number == number) ≡ true)
  place_of number tenant at = first_found (λ (t : TenantData). t.number == number) settings.tenants tenant at

  pub listed_named : AreNamed settings
  listed_named = record {
    words = λ number tenant at.
        let there = place_of number tenant at in
        word_of tenant.name (subst (λ t. is_name t.name ≡ true) (get_or_from_slice_get settings.tenants there.0 tenant tenant there.1)
        (are.names there.0 tenant (slice_get_within settings.tenants there.0 tenant there.1)));
    apart = λ a b t u at_a at_b same.
        let one = place_of a t at_a in
        let two = place_of b u at_b in
        sym (eqb-true t.number a one.2) ∙ ap (λ v. v.number) (same_name one.0 two.0 t u one.1 two.1 same) ∙ eqb-true u.number b two.2;
    known = λ name number is. known_by name number (find (λ t. bytes_eq name t.name) settings.tenants) refl is;
  }

  -- a number that is yet to be given has no tenant
  pub none_at_next : (found : Option TenantData) → tenant_at settings settings.next ≡ found → found ≡ None
  none_at_next None is = refl
  none_at_next (Some t) is =
      let there = place_of settings.next t is in
      let small = are.below there.0 t (slice_get_within settings.tenants there.0 t there.1) in
      let own : (get_or settings.tenants there.0 t).number ≡ t.number = ap (λ v. v.number) (get_or_from_slice_get settings.tenants there.0 t t there.1) in
      absurd (omega (arith, small, own, eqb-true t.number settings.next there.2))

pub listed_text : (text : List ℕ) (settings : SettingsData) → settings_of text ≡ Ok settings → AreListed settings
listed_text text settings means =
    let sound = settings_of-sound text settings means in
    record {
      names = sound.tenants.names;
      distinct = sound.tenants.distinct;
      rising = λ a b d less within. omega (arith, sound.numbers a d (omega (arith, less, within)), sound.numbers b d within, less);
      below = λ k d within. omega (arith, sound.numbers k d within, sound.next, within);
      unbounded = sound.queue_bytes;
    }

pub name_of_number : (settings : SettingsData) (number : ℕ) (tenant : TenantData) → tenant_at settings number ≡ Some tenant → name_at settings number ≡ tenant.name
name_of_number settings number tenant at = ap (λ o. unwrap_or (option_map (λ t. t.name) o) []) at

-- ---- who comes

-- a name that no tenant has
none_named : (name : List ℕ) (ts : List TenantData) → list_any (λ t. bytes_eq name t.name) ts ≡ false → All (λ t. t.name ≢ name) ts
none_named name [] none k d within = absurd (omega (arith, within))
none_named name (t ∷ ts) none zero d within = by (bytes_eq name t.name) refl none
  where
    by : (b : Bool) → bytes_eq name t.name ≡ b → (b || list_any (λ t. bytes_eq name t.name) ts) ≡ false → t.name ≢ name
    by true is none same = absurd (cc)
    by false is none same = both_ways (bytes_eq name t.name) is ((bytes_eq-Decides name t.name).1 (sym same))
none_named name (t ∷ ts) none (suc k) d within = none_named name ts (rest (bytes_eq name t.name) none) k d (omega (arith, within))
  where
    rest : (b : Bool) → (b || list_any (λ t. bytes_eq name t.name) ts) ≡ false → list_any (λ t. bytes_eq name t.name) ts ≡ false
    rest true none = absurd (cc)
    rest false none = none

pub record IsNewTo (settings : SettingsData) (tenant : TenantData) : Type 0 where
  pub number : tenant.number ≡ settings.next
  pub name : is_name tenant.name ≡ true
  pub new : list_any (λ t. bytes_eq tenant.name t.name) settings.tenants ≡ false

pub listed_joined : (settings : SettingsData) (tenant : TenantData) → AreListed settings → IsNewTo settings tenant → AreListed (joined settings tenant)
listed_joined settings tenant are is =
    record {
      names = All-push (λ t. is_name t.name ≡ true) settings.tenants tenant are.names is.name;
      distinct = all_pairs_push (λ t u. t.name ≢ u.name) settings.tenants tenant are.distinct (none_named tenant.name settings.tenants is.new);
      rising = all_pairs_push (λ t u. t.number < u.number) settings.tenants tenant are.rising (λ k d within. omega (arith, are.below k d within, is.number));
      below = All-push (λ t. t.number < settings.next + 1) settings.tenants tenant (λ k d within. omega (arith, are.below k d within)) (omega (arith, is.number));
      unbounded = are.unbounded;
    }

pub stays_joined : (settings : SettingsData) (tenant other : TenantData) (number : ℕ) → tenant_at settings number ≡ Some other → tenant_at (joined settings tenant) number ≡ Some other
stays_joined settings tenant other number at =
    find-append (λ (t : TenantData). t.number == number) settings.tenants (tenant ∷ [])
    ∙ ap (λ found. option_or found (find (λ (t : TenantData). t.number == number) (tenant ∷ []))) at

joined_other : (b : Bool) (found : Option TenantData) (tenant : TenantData) → b ≡ false → option_or found (cond b (Some tenant) None) ≡ found
joined_other true found tenant apart = absurd (cc)
joined_other false None tenant apart = refl
joined_other false (Some t) tenant apart = refl

-- other numbers have whom they had
pub others_joined : (settings : SettingsData) (tenant : TenantData) (number : ℕ) → tenant.number ≢ number → tenant_at (joined settings tenant) number ≡ tenant_at settings number
others_joined settings tenant number apart =
    let test : (tenant.number == number) ≡ false = grind (arith, nat_tests) in
    find-append (λ (t : TenantData). t.number == number) settings.tenants (tenant ∷ []) ∙ joined_other (tenant.number == number) (tenant_at settings number) tenant test

newcomer : (b : Bool) (found : Option TenantData) (tenant : TenantData) → found ≡ None → b ≡ true → option_or found (cond b (Some tenant) None) ≡ Some tenant
newcomer true None tenant none is = refl
newcomer false None tenant none is = absurd (cc)
newcomer b (Some t) tenant none is = absurd (cc)

pub joined_at_next : (settings : SettingsData) (tenant : TenantData) (number : ℕ) → tenant_at settings number ≡ None → tenant.number ≡ number → tenant_at (joined settings tenant) number ≡ Some tenant
joined_at_next settings tenant number none is =
    find-append (λ (t : TenantData). t.number == number) settings.tenants (tenant ∷ []) ∙ newcomer (tenant.number == number) (tenant_at settings number) tenant none (eq-eqb tenant.number number is)

-- a tenant that is present has another name
pub new_name_apart : (settings : SettingsData) (tenant other : TenantData) (number : ℕ) → IsNewTo settings tenant → tenant_at settings number ≡ Some other → tenant.name ≢ other.name
new_name_apart settings tenant other number is at same =
    let there = first_found (λ (t : TenantData). t.number == number) settings.tenants other at in
    let differ = none_named tenant.name settings.tenants is.new there.0 other (slice_get_within settings.tenants there.0 other there.1) in
    differ (ap (λ t. t.name) (get_or_from_slice_get settings.tenants there.0 other other there.1) ∙ sym same)

-- ---- who leaves

pub listed_struck : (settings : SettingsData) (number : ℕ) → AreListed settings → AreListed (struck settings number)
listed_struck settings number are =
    let stays : TenantData → Bool = λ t. not (t.number == number) in
    record {
      names = All-filter (λ (t : TenantData). not (t.number == number)) (λ t. is_name t.name ≡ true) settings.tenants are.names;
      distinct = AllPairs-filter (λ t u. t.name ≢ u.name) (λ (t : TenantData). not (t.number == number)) settings.tenants are.distinct;
      rising = AllPairs-filter (λ t u. t.number < u.number) (λ (t : TenantData). not (t.number == number)) settings.tenants are.rising;
      below = All-filter (λ (t : TenantData). not (t.number == number)) (λ t. t.number < settings.next) settings.tenants are.below;
      unbounded = are.unbounded;
    }

kept_found : {X : Type 0} (p q : X → Bool) → ((x : X) → q x ≡ true → p x ≡ false) → (xs : List X) → find p (filter (λ x. not (q x)) xs) ≡ find p xs
kept_found p q apart [] = refl
kept_found p q apart (x ∷ xs) = by (q x) refl (kept_found p q apart xs)
  where
    by : (b : Bool) → q x ≡ b → find p (filter (λ x. not (q x)) xs) ≡ find p xs → find p (cond (not b) (x ∷ filter (λ x. not (q x)) xs) (filter (λ x. not (q x)) xs)) ≡ cond (p x) (Some x) (find p xs)
    by true h rest = rw (apart x h) rest
    by false h rest = ap (cond (p x) (Some x)) rest

pub others_struck : (settings : SettingsData) (gone number : ℕ) → number ≢ gone → tenant_at (struck settings gone) number ≡ tenant_at settings number
others_struck settings gone number apart =
    kept_found (λ (t : TenantData). t.number == number) (λ (t : TenantData). t.number == gone) (λ t h. grind (arith, nat_tests)) settings.tenants

gone_found : {X : Type 0} (p : X → Bool) (xs : List X) → find p (filter (λ x. not (p x)) xs) ≡ None
gone_found p [] = refl
gone_found p (x ∷ xs) = by (p x) refl (gone_found p xs)
  where
    by : (b : Bool) → p x ≡ b → find p (filter (λ x. not (p x)) xs) ≡ None → find p (cond (not b) (x ∷ filter (λ x. not (p x)) xs) (filter (λ x. not (p x)) xs)) ≡ None
    by true h rest = rest
    by false h rest = rw h rest

pub struck_gone : (settings : SettingsData) (number : ℕ) → tenant_at (struck settings number) number ≡ None
struck_gone settings number = gone_found (λ (t : TenantData). t.number == number) settings.tenants
