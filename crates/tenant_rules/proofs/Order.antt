-- Things by moment: what comes later stands at the end.
use Rattle.std.proofs.Common.{◌≡◌, ℕ, ◌+◌, ◌<◌, ◌≤◌, List, [], ◌∷◌, ◌++◌, refl, sym, ap, ◌∙◌, arith, append-nil, true, false, leb, cond}
use Rattle.std.proofs.lemmas.Bool.Decides.{nat_tests}
use Rattle.span_batcher.specs.Batches.{Group}
use Rattle.tenant_rules.specs.Decisions.{put, by_moment}

-- no group is later than the moment
abbrev pub AllUpTo : {X : Type 0} → ℕ → List (Group X) → Type 0
AllUpTo m [] = Unit
AllUpTo m (g ∷ gs) = (g.moment ≤ m) × AllUpTo m gs

-- no group is earlier than the moment
abbrev pub AllFrom : {X : Type 0} → ℕ → List (Group X) → Type 0
AllFrom m [] = Unit
AllFrom m (g ∷ gs) = (m ≤ g.moment) × AllFrom m gs

abbrev pub Ascending : {X : Type 0} → List (Group X) → Type 0
Ascending [] = Unit
Ascending (g ∷ gs) = AllFrom g.moment gs × Ascending gs

pub AllUpTo-append : {X : Type 0} (m : ℕ) (xs ys : List (Group X)) → AllUpTo m xs → AllUpTo m ys → AllUpTo m (xs ++ ys)
AllUpTo-append m [] ys p q = q
AllUpTo-append m (x ∷ xs) ys p q = (p.0, AllUpTo-append m xs ys p.1 q)

pub AllUpTo_more : {X : Type 0} (m n : ℕ) (xs : List (Group X)) → m ≤ n → AllUpTo m xs → AllUpTo n xs
AllUpTo_more m n [] le p = tt
AllUpTo_more m n (x ∷ xs) le p = (omega (arith, p.0), AllUpTo_more m n xs le p.1)

pub AllFrom_less : {X : Type 0} (m n : ℕ) (xs : List (Group X)) → m ≤ n → AllFrom n xs → AllFrom m xs
AllFrom_less m n [] le p = tt
AllFrom_less m n (x ∷ xs) le p = (omega (arith, p.0), AllFrom_less m n xs le p.1)

-- a group before later ones
put_first : {X : Type 0} (g : Group X) (gs : List (Group X)) → AllFrom g.moment gs → put g gs ≡ g ∷ gs
put_first g [] from = refl
put_first g (x ∷ xs) from = let le : g.moment ≤ x.moment = from.0 in grind (arith, nat_tests)

put-append : {X : Type 0} (g : Group X) (gs rest : List (Group X)) → AllFrom g.moment rest → put g (gs ++ rest) ≡ put g gs ++ rest
put-append g [] rest from = put_first g rest from
put-append g (x ∷ xs) rest from = grind (arith, nat_tests, put-append g xs rest from)

-- a group behind earlier ones
put_behind : {X : Type 0} (m : ℕ) (g : Group X) (gs rest : List (Group X)) → AllUpTo m gs → m < g.moment → put g (gs ++ rest) ≡ gs ++ put g rest
put_behind m g [] rest up lt = refl
put_behind m g (x ∷ xs) rest up lt = let le : x.moment ≤ m = up.0 in grind (arith, nat_tests, put_behind m g xs rest up.1 lt)

AllUpTo-put : {X : Type 0} (m : ℕ) (g : Group X) (gs : List (Group X)) → g.moment ≤ m → AllUpTo m gs → AllUpTo m (put g gs)
AllUpTo-put m g [] le up = (le, tt)
AllUpTo-put m g (x ∷ xs) le up = elim (leb g.moment x.moment) as (λ b. AllUpTo m (cond b (g ∷ x ∷ xs) (x ∷ put g xs))) [ true ↦ (le, up) | false ↦ (up.0, AllUpTo-put m g xs le up.1) ]

pub AllUpTo-by_moment : {X : Type 0} (m : ℕ) (gs : List (Group X)) → AllUpTo m gs → AllUpTo m (by_moment gs)
AllUpTo-by_moment m [] up = tt
AllUpTo-by_moment m (x ∷ xs) up = AllUpTo-put m x (by_moment xs) up.0 (AllUpTo-by_moment m xs up.1)

-- a last group that none is later than
pub by_moment-push : {X : Type 0} (xs : List (Group X)) (g : Group X) → AllUpTo g.moment xs → by_moment (xs ++ g ∷ []) ≡ by_moment xs ++ g ∷ []
by_moment-push [] g up = refl
by_moment-push (x ∷ xs) g up = ap (put x) (by_moment-push xs g up.1) ∙ put-append x (by_moment xs) (g ∷ []) (up.0, tt)

-- groups that are later than all others, put before some
by_moment_later : {X : Type 0} (m : ℕ) (more others : List (Group X)) → AllFrom (m + 1) more → Ascending more → AllUpTo m others → by_moment (more ++ others) ≡ by_moment others ++ more
by_moment_later m [] others from asc up = sym (append-nil (by_moment others))
by_moment_later m (x ∷ xs) others from asc up =
    ap (put x) (by_moment_later m xs others from.1 asc.1 up) ∙ (put_behind m x (by_moment others) xs (AllUpTo-by_moment m others up) (omega (arith, from.0)) ∙ ap (λ ys. by_moment others ++ ys) (put_first x xs asc.0))

pub by_moment-middle : {X : Type 0} (m : ℕ) (some more others : List (Group X)) → AllUpTo m some → AllFrom (m + 1) more → Ascending more → AllUpTo m others → by_moment ((some ++ more) ++ others) ≡ by_moment (some ++ others) ++ more
by_moment-middle m [] more others up from asc up' = by_moment_later m more others from asc up'
by_moment-middle m (x ∷ xs) more others up from asc up' =
    ap (put x) (by_moment-middle m xs more others up.1 from asc up') ∙ put-append x (by_moment (xs ++ others)) more (AllFrom_less x.moment (m + 1) more (omega (arith, up.0)) from)
