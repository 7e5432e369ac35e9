-- Moments that a beat gives, one more at a time.
use Rattle.std.proofs.Common.{◌≡◌, ℕ, ◌≤◌, List, [], ◌∷◌, ◌++◌, sym, subst, arith}
use Rattle.service_runtime.specs.Moments.{Rises}

pub rises_more : (before last moment next : ℕ) (moments : List ℕ) → Rises before moments last → (last ≤ moment) × (next ≡ moment) → Rises before (moments ++ moment ∷ []) next
rises_more before last moment next [] r m =
    let first : before ≤ moment = omega (arith, r, m.0) in
    (first, m.1)
rises_more before last moment next (x ∷ xs) r m = (r.0, rises_more x last moment next xs r.1 m)

pub rises_same : (before last next : ℕ) (moments : List ℕ) → Rises before moments last → next ≡ last → Rises before moments next
rises_same before last next moments r same = subst (λ l. Rises before moments l) (sym same) r
