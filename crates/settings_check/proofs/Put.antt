-- What an insert into the map of a table does to its members, and one more value of an array.
use Rattle.std.proofs.Common.{◌≡◌, ℕ, ◌+◌, ◌<◌, List, [], ◌∷◌, ◌++◌, length, get_or, drop, map, String, Vec, Global, Ordering, Less, Equal, Greater, string_bytes, refl, sym, ap, ◌∙◌, append_assoc, append-nil}
use Rattle.std.proofs.lemmas.List.{map-append, drop_more}
use Rattle.std.specs.BTreeMap.{insert_entry}
use Rattle.std.specs.Ordering.{match_ordering}
use Rattle.std.specs.String.{string_cmp}
use Rattle.toml.proofs.Views.{view-Array}
use Rattle.toml.specs.Data.{Data, array, member}
use Rattle.toml.specs.View.{view, items_of, members_view}
use Rattle.toml.specs.declared.value.Value.{Value}
use Rattle.toml.specs.declared.value.Value.TheVariants.{Array}
use Rattle.settings_check.specs.Put.{put_member}

put_at : (o : Ordering) (k : String Global) (v : Value) (e : String Global × Value) (es : List (String Global × Value))
    → members_view (insert_entry string_cmp es k v) ≡ put_member (string_bytes k) (view v) (members_view es)
    → members_view (match_ordering o ((k, v) ∷ e ∷ es) ((e.0, v) ∷ es) (e ∷ insert_entry string_cmp es k v))
    ≡ match_ordering o (member (string_bytes k) (view v) (members_view (e ∷ es))) (member (string_bytes e.0) (view v) (members_view es))
    (member (string_bytes e.0) (view e.1) (put_member (string_bytes k) (view v) (members_view es)))
put_at Less k v e es ih = refl
put_at Equal k v e es ih = refl
put_at Greater k v e es ih = ap (member (string_bytes e.0) (view e.1)) ih

pub members_view-insert : (k : String Global) (v : Value) (es : List (String Global × Value))
    → members_view (insert_entry string_cmp es k v) ≡ put_member (string_bytes k) (view v) (members_view es)
members_view-insert k v [] = refl
members_view-insert k v (e ∷ es) = put_at (string_cmp k e.0) k v e es (members_view-insert k v es)

-- one value more of an array, made of the first of those that are left
pub next_made : {A B C D : Type 0} (view : C → D) (g : A → B) (f : B → D) (made : List C) (v : C) (x : A) (rest : List A) → view v ≡ f (g x)
    → map view (made ++ v ∷ []) ++ map f (map g rest) ≡ map view made ++ map f (map g (x ∷ rest))
next_made view g f made v x rest is =
    rw (map-append view made (v ∷ []), is) (append_assoc (map view made) (f (g x) ∷ []) (map f (map g rest)))

-- the same of the one at an index
pub made_at : {A B C D : Type 0} (view : C → D) (g : A → B) (f : B → D) (made : List C) (v : C) (xs : List A) (i : ℕ) (d : A) → i < length xs → view v ≡ f (g (get_or xs i d))
    → map view (made ++ v ∷ []) ++ map f (map g (drop (i + 1) xs)) ≡ map view made ++ map f (map g (drop i xs))
made_at view g f made v xs i d within is =
    next_made view g f made v (get_or xs i d) (drop (i + 1) xs) is ∙ ap (λ ys. map view made ++ map f (map g ys)) (sym (drop_more xs i d within))

-- the array of what was made, where nothing is left
pub all_made : {A B : Type 0} (g : A → B) (f : B → Data) (made : Vec Value Global) (left all : List A) → left ≡ []
    → map view made.items ++ map f (map g left) ≡ map f (map g all) → view (Array made) ≡ array (items_of (map f (map g all)))
all_made g f made left all none is =
    view-Array made ∙ ap (λ ds. array (items_of ds)) (sym (append-nil (map view made.items)) ∙ rw none at is)
