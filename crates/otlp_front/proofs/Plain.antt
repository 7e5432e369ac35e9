-- Codings, field by field and as the values of one name.
use Rattle.std.proofs.Common.{◌≡◌, ℕ, Bool, true, false, cond, not, ◌||◌, ◌&&◌, List, [], ◌∷◌, ◌++◌, refl, ap, codes}
use Rattle.std.specs.List.{list_all}
use Rattle.http1.specs.Fields.{Header, is_named, values_named}
use Rattle.otlp_front.specs.Fields.{is_identity, is_plain, are_plain}

one_more : (b : Bool) (v : List ℕ) (vs : List (List ℕ)) (r : Bool) → r ≡ list_all is_identity vs
    → ((not b || is_identity v) && r) ≡ list_all is_identity (cond b (v ∷ []) [] ++ vs)
one_more true v vs r e = ap (λ y. is_identity v && y) e
one_more false v vs r e = e

-- no field says of a coding
pub plain_values : (hs : List Header) → list_all is_plain hs ≡ are_plain hs
plain_values [] = refl
plain_values (h ∷ hs) =
    one_more (is_named (codes "content-encoding") h) h.1 (values_named (codes "content-encoding") hs)
    (list_all is_plain hs) (plain_values hs)
