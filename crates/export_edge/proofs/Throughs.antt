-- Steps that follow one another.
use Rattle.std.proofs.Common.{◌≡◌, List, [], ◌∷◌, ◌++◌, map, flat_map, refl, sym, ap, ◌∙◌, append_assoc, append-nil}
use Rattle.export_edge.specs.Work.{Through}

-- one walk, and then another
pub through_both : {S X : Type 0} (step : S → X → S → Type 0) (old mid new : S) (xs ys : List X)
    → Through step old xs mid → Through step mid ys new → Through step old (xs ++ ys) new
through_both step old mid new [] ys p q = rw p at q
through_both step old mid new (x ∷ xs) ys p q = (p.0, p.1, through_both step p.0 mid new xs ys p.2 q)

pub through_more : {S X : Type 0} (step : S → X → S → Type 0) (old mid new : S) (xs : List X) (x : X)
    → Through step old xs mid → step mid x new → Through step old (xs ++ x ∷ []) new
through_more step old mid new [] x p q = (new, rw p at q, refl)
through_more step old mid new (y ∷ ys) x p q = (p.0, p.1, through_more step p.0 mid new ys x p.2 q)

-- what each step adds to a list stands there in the end
pub noted_all : {S X Y : Type 0} (step : S → X → S → Type 0) (f : X → List Y) (noted : S → List Y)
    → ((old new : S) (x : X) → step old x new → noted new ≡ noted old ++ f x)
    → (old new : S) (xs : List X) → Through step old xs new → noted new ≡ noted old ++ flat_map f xs
noted_all step f noted adds old new [] p = ap noted p ∙ sym (append-nil (noted old))
noted_all step f noted adds old new (x ∷ xs) p = noted_all step f noted adds p.0 new xs p.2
    ∙ (ap (λ v. v ++ flat_map f xs) (adds old p.0 x p.1) ∙ append_assoc (noted old) (f x) (flat_map f xs))

-- the same where each step adds one
pub noted_through : {S X Y : Type 0} (step : S → X → S → Type 0) (f : X → Y) (noted : S → List Y)
    → ((old new : S) (x : X) → step old x new → noted new ≡ noted old ++ f x ∷ [])
    → (old new : S) (xs : List X) → Through step old xs new → noted new ≡ noted old ++ map f xs
noted_through step f noted adds old new [] p = ap noted p ∙ sym (append-nil (noted old))
noted_through step f noted adds old new (x ∷ xs) p = noted_through step f noted adds p.0 new xs p.2
    ∙ (ap (λ v. v ++ map f xs) (adds old p.0 x p.1) ∙ append_assoc (noted old) (f x ∷ []) (map f xs))

-- what no step changes is the same in the end
pub same_through : {S X Y : Type 0} (step : S → X → S → Type 0) (noted : S → Y)
    → ((old new : S) (x : X) → step old x new → noted new ≡ noted old)
    → (old new : S) (xs : List X) → Through step old xs new → noted new ≡ noted old
same_through step noted same old new [] p = ap noted p
same_through step noted same old new (x ∷ xs) p = same_through step noted same p.0 new xs p.2 ∙ same old p.0 x p.1
