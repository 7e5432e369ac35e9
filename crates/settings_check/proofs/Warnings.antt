-- The warnings of keys in turn.
use Rattle.std.proofs.Common.{◌≡◌, ℕ, ◌+◌, ◌<◌, codes, true, false, List, [], ◌∷◌, ◌++◌, length, get_or, drop, Option, Some, None, option_map, String, BTreeMap, Global, Bor, string_bytes, refl, ap, sym, ◌∙◌, append_assoc}
use Rattle.std.specs.Fmt.{decimal}
use Rattle.toml.proofs.Views.{items_view-drop}
use Rattle.toml.specs.Data.{Data, as_table}
use Rattle.toml.specs.View.{view, table_view, items_view, members_view}
use Rattle.toml.specs.declared.value.Value.{Value}
use Rattle.tail_settings.specs.Keys.{keys_of}
use Rattle.settings_check.specs.declared.table.TableKind.{TableKind}
use Rattle.settings_check.specs.Table.{is_known}
use Rattle.settings_check.specs.Unknown.{UnknownKey, table_of, tenant_words, kind_of, unknown_in, unknown_in_leaves, unknown_in_policy, unknown_in_policies, unknown_in_section, unknown_in_tenants}
use Rattle.settings_check.specs.Warning.{warning_text, warnings}

pub warnings-append : (us vs : List UnknownKey) → warnings (us ++ vs) ≡ warnings us ++ warnings vs
warnings-append [] vs = refl
warnings-append (u ∷ us) vs = ap (λ t. warning_text u ++ t) (warnings-append us vs) ∙ sym (append_assoc (warning_text u) (warnings us) (warnings vs))

-- behind a text, those of two lists are those of the first and then of the second
pub put_both : (out : List ℕ) (us vs : List UnknownKey) → (out ++ warnings us) ++ warnings vs ≡ out ++ warnings (us ++ vs)
put_both out us vs = append_assoc out (warnings us) (warnings vs) ∙ ap (λ t. out ++ t) (sym (warnings-append us vs))

-- the first of all is put
pub put_first : (out new : List ℕ) (us rest all : List UnknownKey) → all ≡ us ++ rest → new ≡ out ++ warnings us → new ++ warnings rest ≡ out ++ warnings all
put_first out new us rest all whole put = rw (whole, put) (put_both out us rest)

-- the line of one key is put
pub put_new : (out new : List ℕ) (u : UnknownKey) (rest all : List UnknownKey) → all ≡ u ∷ rest → new ≡ out ++ warning_text u → new ++ warnings rest ≡ out ++ warnings all
put_new out new u rest all whole put = rw (whole, put) (append_assoc out (warning_text u) (warnings rest))

pub keys_of-table : (r : Option (Bor (BTreeMap (String Global) Value))) (d : Data) → option_map (λ m. table_view m.now) r ≡ as_table d → keys_of r ≡ table_of d
keys_of-table None d h = rw (← h) refl
keys_of-table (Some m) d h = rw (← h) refl

module _ (xs : List Value) (i : ℕ) (x : Value) (within : i < length xs) (at : get_or xs i x ≡ x) where
  pub leaves-first : (place : List ℕ) (m : ℕ) → unknown_in_leaves place m (items_view (drop i xs))
      ≡ unknown_in (place ++ codes ", part " ++ decimal m) (kind_of (table_of (view x))) (table_of (view x)) ++ unknown_in_leaves place (m + 1) (items_view (drop (i + 1) xs))
  leaves-first place m = rw (items_view-drop xs i x within, at) refl

  pub policies-first : (place : List ℕ) (m : ℕ) → unknown_in_policies place m (items_view (drop i xs))
      ≡ unknown_in_policy (place ++ codes ", policy " ++ decimal m) (table_of (view x)) ++ unknown_in_policies place (m + 1) (items_view (drop (i + 1) xs))
  policies-first place m = rw (items_view-drop xs i x within, at) refl

  pub tenants-first : (m : ℕ) → unknown_in_tenants m (items_view (drop i xs))
      ≡ unknown_in_section (tenant_words m (table_of (view x))) (table_of (view x)) ++ unknown_in_tenants (m + 1) (items_view (drop (i + 1) xs))
  tenants-first m = rw (items_view-drop xs i x within, at) refl

abbrev pub Entry : Type 0
Entry = String Global × Value

module _ (place : List ℕ) (kind : TableKind) (e : Entry) (es : List Entry) where
  pub known-first : is_known kind (string_bytes e.0) ≡ true → unknown_in place kind (members_view (e ∷ es)) ≡ unknown_in place kind (members_view es)
  known-first h = rw h refl

  pub new-first : is_known kind (string_bytes e.0) ≡ false → unknown_in place kind (members_view (e ∷ es)) ≡ (let u : UnknownKey = record { place = place; kind = kind; key = string_bytes e.0 } in u) ∷ unknown_in place kind (members_view es)
  new-first h = rw h refl
