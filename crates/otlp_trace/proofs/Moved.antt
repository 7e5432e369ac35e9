-- Bytes at the end of a list that are moved before others.
use Rattle.std.proofs.Common.{◌≡◌, ℕ, ◌+◌, ◌-◌, ◌≤◌, List, [], ◌++◌, length, take, drop, sym, ap, subst, ◌∙◌, arith}
use Rattle.std.specs.List.{copy_within}
use Rattle.std.proofs.Math.Seq.{paste, take-append_seam, drop-append_seam}
use Rattle.std.proofs.lemmas.List.{take-append-le, take-take, take_all, length-take-le, length-drop, drop-take, drop_all, append-nil, append_assoc}
use Rattle.std.proofs.lemmas.List.Edits.{take-paste, paste_all}

-- the front of a list, as long as what stands there
pub front : (hs xs ys : List ℕ) (n : ℕ) → hs ≡ xs → n ≡ length xs → take n (hs ++ ys) ≡ xs
front hs xs ys n is size = ap (λ zs. take n (zs ++ ys)) is ∙ (ap (λ m. take m (xs ++ ys)) size ∙ take-append_seam xs ys)

-- those from s to e
pub between : (xs : List ℕ) (s e : ℕ) → s ≤ e → take (e - s) (drop s xs) ≡ drop s (take e xs)
between xs s e order = sym (drop-take s (e - s) xs) ∙ ap (λ m. drop s (take m xs)) (omega arith)

-- those from s to e are copied behind
copied : (xs W : List ℕ) (s e a : ℕ) → s ≤ e → e + a ≡ length xs → W ≡ copy_within xs s e (s + a) → length W ≡ length xs → W ≡ take (s + a) xs ++ drop s (take e xs)
copied xs W s e a order whole is len =
    let n = e - s in
    let pasted : take (s + a + n) W ≡ take (s + a) xs ++ take n (drop s xs) = ap (take (s + a + n)) is ∙ take-paste xs (s + a) (drop s xs) n (omega arith) (subst (λ n. e - s ≤ n) (sym (length-drop s xs)) (omega arith)) in
    let all : take (s + a + n) W ≡ W = take_all (s + a + n) W (omega arith) in
    sym all ∙ (pasted ∙ ap (λ ys. take (s + a) xs ++ ys) (between xs s e order))

-- and those from e on are put in their place
pub moved : (xs W : List ℕ) (s e a : ℕ) → s ≤ e → e + a ≡ length xs → W ≡ copy_within xs s e (s + a) → length W ≡ length xs → a ≡ length (drop e xs) → paste W s (drop e xs) a ≡ take s xs ++ (drop e xs ++ drop s (take e xs))
moved xs W s e a order whole is len size =
    let now : W ≡ take (s + a) xs ++ drop s (take e xs) = copied xs W s e a order whole is len in
    let front : length (take (s + a) xs) ≡ s + a = length-take-le (s + a) xs (omega arith) in
    let before : take s W ≡ take s xs = ap (take s) now ∙ (take-append-le s (take (s + a) xs) _ (omega (arith, front)) ∙ take-take s (s + a) xs (omega arith)) in
    let behind : drop (s + a) W ≡ drop s (take e xs) = ap (drop (s + a)) now ∙ (ap (λ m. drop m (take (s + a) xs ++ drop s (take e xs))) (sym front) ∙ drop-append_seam (take (s + a) xs) _) in
    paste_all W s (drop e xs) a size ∙ (ap (λ ys. ys ++ (drop e xs ++ drop (s + a) W)) before ∙ ap (λ ys. take s xs ++ (drop e xs ++ ys)) behind)

-- those from e on are copied to the front, and those from s to e, which were kept, put behind them
pub moved_over : (xs W ys : List ℕ) (s e a : ℕ) → s ≤ e → e + a ≡ length xs → W ≡ copy_within xs e (length xs) s → length W ≡ length xs → ys ≡ drop s (take e xs)
    → take (s + a) W ++ (ys ++ drop (length W - (s + a)) (drop (s + a) W)) ≡ take s xs ++ (drop e xs ++ drop s (take e xs))
moved_over xs W ys s e a order whole is len kept =
    let size : length (drop e xs) ≡ a = length-drop e xs ∙ omega (arith, whole) in
    let n : length xs - e ≡ a = omega (arith, whole) in
    let copied : W ≡ paste xs s (drop e xs) a = is ∙ ap (λ m. paste xs s (drop e xs) m) n in
    let front : take (s + a) W ≡ take s xs ++ take a (drop e xs) = ap (take (s + a)) copied ∙ take-paste xs s (drop e xs) a (omega (arith, whole, order)) (omega (arith, size)) in
    let all : take a (drop e xs) ≡ drop e xs = take_all a (drop e xs) (omega (arith, size)) in
    let none : drop (length W - (s + a)) (drop (s + a) W) ≡ [] = drop_all (length W - (s + a)) (drop (s + a) W) (omega (arith, length-drop (s + a) W)) in
    let behind : ys ++ drop (length W - (s + a)) (drop (s + a) W) ≡ drop s (take e xs) = ap (λ zs. ys ++ zs) none ∙ (append-nil ys ∙ kept) in
    ap (λ zs. take (s + a) W ++ zs) behind ∙ (ap (λ zs. zs ++ drop s (take e xs)) (front ∙ ap (λ zs. take s xs ++ zs) all) ∙ append_assoc (take s xs) (drop e xs) (drop s (take e xs)))
