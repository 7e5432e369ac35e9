-- Entries of which others say the same but for the bytes that their queues hold.
use Rattle.std.proofs.Common.{◌≡◌, ℕ, zero, suc, ◌+◌, ◌<◌, List, [], ◌∷◌, map, length, get_or, Some, refl, sym, ap, ◌∙◌, arith, string_bytes}
use Rattle.std.specs.Prelude.{slice_get, sum_by, All}
use Rattle.std.proofs.lemmas.List.{get_or-map, length-map}
use Rattle.std.proofs.lemmas.List.Sums.{sum_by-cons}
use Rattle.std.specs.Map.{values_of}
use Rattle.indexmap.specs.Layout.{set_value_at}
use Rattle.tail_settings.specs.declared.tenant.Tenant.{Tenant}
use Rattle.tail_settings.specs.QueueBytes.{bounded_section, bounded_tenant}
use Rattle.tail_settings.specs.Section.{SectionData, section_view}
use Rattle.tail_settings.specs.Settings.{TenantData, tenant_view, spans_of}
use Rattle.tail_settings.proofs.Numbers.{Rise}
use Rattle.tail_settings.proofs.Tenants.{Entry, Entries, spans_of-entries}

parts : {X : Type 0} (x y : X) (xs ys : List X) → x ∷ xs ≡ y ∷ ys → (x ≡ y) × (xs ≡ ys)
parts x y xs ys same = (cc, cc)

made : (m n : ℕ) (name : List ℕ) (r s : SectionData) → m ≡ n → r ≡ s
    → ◌≡◌ {A = TenantData} (record { number = m; name = name; section = r }) (record { number = n; name = name; section = s })
made m n name r s number section = rw (number, section) refl

module _ (bytes : ℕ) where
  -- the first ones are bounded
  abbrev pub front : ℕ → List TenantData → List TenantData
  front zero ts = ts
  front (suc n) [] = []
  front (suc n) (t ∷ ts) = bounded_tenant bytes t ∷ front n ts

  pub front_whole : (ts : List TenantData) → front (length ts) ts ≡ map (bounded_tenant bytes) ts
  front_whole [] = refl
  front_whole (t ∷ ts) = ap (λ us. bounded_tenant bytes t ∷ us) (front_whole ts)

  -- one more of them
  pub front_more : (es : Entries) (ts : List TenantData) (n : ℕ) (old new : Tenant) → map tenant_view es ≡ front n ts → slice_get (values_of es) n ≡ Some old
      → new.number ≡ old.number → section_view new.section ≡ bounded_section bytes (section_view old.section)
      → map tenant_view (set_value_at es n new) ≡ front (suc n) ts
  front_more [] ts n old new same at number section = absurd (let no : ⊥ = cc in no)
  front_more (e ∷ es) [] zero old new same at number section = absurd (let no : ⊥ = cc in no)
  front_more (e ∷ es) [] (suc n) old new same at number section = absurd (let no : ⊥ = cc in no)
  front_more (e ∷ es) (t ∷ ts) zero old new same at number section =
      let both = parts (tenant_view e) t (map tenant_view es) ts same in
      let is : e.1 ≡ old = cc in
      let one : tenant_view (e.0, new) ≡ bounded_tenant bytes (tenant_view (e.0, old)) =
      made new.number old.number (string_bytes e.0) (section_view new.section) (bounded_section bytes (section_view old.section)) number section in
      ap (λ (u : TenantData). u ∷ map tenant_view es)
      (one ∙ ap (λ (v : Tenant). bounded_tenant bytes (tenant_view (e.0, v))) (sym is) ∙ ap (bounded_tenant bytes) both.0)
      ∙ ap (λ (us : List TenantData). bounded_tenant bytes t ∷ us) both.1
  front_more (e ∷ es) (t ∷ ts) (suc n) old new same at number section =
      let both = parts (tenant_view e) (bounded_tenant bytes t) (map tenant_view es) (front n ts) same in
      ap (λ (u : TenantData). u ∷ map tenant_view (set_value_at es n new)) both.0
      ∙ ap (λ (us : List TenantData). bounded_tenant bytes t ∷ us) (front_more es ts n old new both.1 at number section)

  spans_bounded : (ts : List TenantData) → spans_of (map (bounded_tenant bytes) ts) ≡ spans_of ts
  spans_bounded [] = refl
  spans_bounded (t ∷ ts) =
      sum_by-cons (λ (u : TenantData). u.section.max_spans) (bounded_tenant bytes t) (map (bounded_tenant bytes) ts)
      ∙ ap (λ n. t.section.max_spans + n) (spans_bounded ts)
      ∙ sym (sum_by-cons (λ (u : TenantData). u.section.max_spans) t ts)

  -- what holds of all entries holds of those that are bounded
  module _ (es new : Entries) (same : map tenant_view new ≡ map (bounded_tenant bytes) (map tenant_view es)) where
    pub as_many : length new ≡ length es
    as_many =
        sym (length-map new tenant_view) ∙ ap length same ∙ length-map (map tenant_view es) (bounded_tenant bytes) ∙ length-map es tenant_view

    pub as_many_spans : sum_by (λ (e : Entry). e.1.section.max_spans) new ≡ sum_by (λ (e : Entry). e.1.section.max_spans) es
    as_many_spans = spans_of-entries new ∙ ap spans_of same ∙ spans_bounded (map tenant_view es) ∙ sym (spans_of-entries es)

    same_number : (k : ℕ) (d : Entry) → k < length new → (get_or new k d).1.number ≡ (get_or es k d).1.number
    same_number k d short =
        let within : k < length es = omega (arith, short, as_many) in
        let there : k < length (map tenant_view es) = rw (length-map es tenant_view) within in
        ap (λ (t : TenantData). t.number)
        (sym (get_or-map tenant_view new k d (tenant_view d) short)
        ∙ ap (λ (us : List TenantData). get_or us k (tenant_view d)) same
        ∙ get_or-map (bounded_tenant bytes) (map tenant_view es) k (tenant_view d) (tenant_view d) there
        ∙ ap (bounded_tenant bytes) (get_or-map tenant_view es k d (tenant_view d) within))

    pub still_rising : Rise es → Rise new
    still_rising rise i j d less within =
        let one = same_number i d (omega (arith, less, within)) in
        let later = same_number j d within in
        let before = rise i j d less (omega (arith, within, as_many)) in
        omega (arith, one, later, before)

    pub still_below : (next : ℕ) → All (λ (e : Entry). e.1.number < next) es → All (λ (e : Entry). e.1.number < next) new
    still_below next below k d short =
        let one = same_number k d short in
        let before = below k d (omega (arith, short, as_many)) in
        omega (arith, one, before)
