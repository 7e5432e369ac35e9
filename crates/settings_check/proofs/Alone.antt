-- Documents of one tenant, policy or part, and the first that has a fault by itself.
use Rattle.std.proofs.Common.{◌≡◌, ℕ, suc, ◌+◌, ◌<◌, Bool, true, false, List, [], ◌∷◌, length, get_or, drop, Option, Some, None, option_map, Err, String, BTreeMap, Global, Bor, refl, ap, inl, inr}
use Rattle.std.specs.Prelude.{◌↔◌, IsSome, IsTrue, unwrap_or, option_copied}
use Rattle.std.proofs.lemmas.Bool.{false≢true}
use Rattle.toml.proofs.Views.{items_view-drop}
use Rattle.toml.specs.Data.{Data, no_members, as_table}
use Rattle.toml.specs.Parse.{parse_document}
use Rattle.toml.specs.View.{view, table_view, items_view}
use Rattle.toml.specs.declared.value.Value.{Value}
use Rattle.tail_settings.specs.Fault.{FaultData}
use Rattle.tail_settings.specs.Keys.{keys_of}
use Rattle.tail_settings.specs.Settings.{settings_of}
use Rattle.settings_check.specs.declared.place.Level.{Level}
use Rattle.settings_check.specs.Place.{document_with, IsWritable, HasAlone, IsFirst, count_of}

-- the fault of the text of a document is that of the document
pub alone_iff : (level : Level) (seen : FaultData) (d : Data) (text : List ℕ) (has : Bool) → IsSome (as_table d) → parse_document text ≡ Some (document_with level d)
    → (IsTrue has ↔ (settings_of text ≡ Err seen)) → IsTrue has ↔ HasAlone level seen d
unfolding settings_of
alone_iff level seen d text has some parsed same =
    (λ h. (some, rw parsed at (same.0 h)), λ h. same.1 (rw parsed h.1))

module _ (level : Level) (seen : FaultData) (xs : List Value) (i : ℕ) (x : Value) (within : i < length xs) (at : get_or xs i x ≡ x) (n : ℕ) where
  -- the first is the one
  pub first_found : (IsWritable (document_with level (view x)) → IsTrue true ↔ HasAlone level seen (view x)) → IsFirst level seen n (items_view (drop i xs)) (Some (n, view x))
  first_found same = rw (items_view-drop xs i x within, at) (λ w. inl ((same w).0 refl, refl))

  -- the first is passed over
  pub next_found : (found : Option (ℕ × Data)) → (IsWritable (document_with level (view x)) → IsTrue false ↔ HasAlone level seen (view x))
      → IsFirst level seen (n + 1) (items_view (drop (i + 1) xs)) found
      → IsFirst level seen n (items_view (drop i xs)) found
  next_found found same rest = rw (items_view-drop xs i x within, at) (λ w. inr (λ h. false≢true ((same w).1 h), rest))

-- how many there are
pub count_of-view : (xs : List Value) → count_of (items_view xs) ≡ length xs
count_of-view [] = refl
count_of-view (x ∷ xs) = ap suc (count_of-view xs)

pub keys_by_ref : (r : Option (Bor (BTreeMap (String Global) Value))) (d : Option (BTreeMap (String Global) Value)) → option_copied r ≡ d → keys_of r ≡ unwrap_or (option_map table_view d) no_members
keys_by_ref None d same = rw (← same) refl
keys_by_ref (Some t) d same = rw (← same) refl
