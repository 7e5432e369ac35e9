-- Texts with a space between each two.
use Rattle.std.proofs.Common.{◌≡◌, ℕ, List, ◌++◌, codes, sym, ◌∙◌, append_assoc}

-- a text behind another and a space, in either bracketing
spaced : (before x rest : List ℕ) → before ++ (codes " " ++ (x ++ rest)) ≡ ((before ++ codes " ") ++ x) ++ rest
spaced before x rest = sym (append_assoc before (codes " ") (x ++ rest)) ∙ sym (append_assoc (before ++ codes " ") x rest)

-- the last one
last : (before x : List ℕ) → before ++ (codes " " ++ x) ≡ (before ++ codes " ") ++ x
last before x = sym (append_assoc before (codes " ") x)

pub three : (a b c x y z : List ℕ) → a ≡ x → b ≡ y → c ≡ z → a ++ (codes " " ++ (b ++ (codes " " ++ c))) ≡ x ++ codes " " ++ y ++ codes " " ++ z
three a b c x y z p q r =
    let same : a ++ (codes " " ++ (b ++ (codes " " ++ c))) ≡ x ++ (codes " " ++ (y ++ (codes " " ++ z))) = cc in
    same ∙ spaced x y (codes " " ++ z) ∙ last (x ++ codes " " ++ y) z

pub four : (a b c d w x y z : List ℕ) → a ≡ w → b ≡ x → c ≡ y → d ≡ z
    → a ++ (codes " " ++ (b ++ (codes " " ++ (c ++ (codes " " ++ d))))) ≡ w ++ codes " " ++ x ++ codes " " ++ y ++ codes " " ++ z
four a b c d w x y z p q r s =
    let rest : b ++ (codes " " ++ (c ++ (codes " " ++ d))) ≡ x ++ (codes " " ++ (y ++ (codes " " ++ z))) = cc in
    let same : a ++ (codes " " ++ (b ++ (codes " " ++ (c ++ (codes " " ++ d))))) ≡ w ++ (codes " " ++ (x ++ (codes " " ++ (y ++ (codes " " ++ z))))) = cc in
    same ∙ spaced w x (codes " " ++ (y ++ (codes " " ++ z))) ∙ spaced (w ++ codes " " ++ x) y (codes " " ++ z) ∙ last (w ++ codes " " ++ x ++ codes " " ++ y) z

pub six : (a b c d e f u v w x y z : List ℕ) → a ≡ u → b ≡ v → c ≡ w → d ≡ x → e ≡ y → f ≡ z
    → a ++ (codes " " ++ (b ++ (codes " " ++ (c ++ (codes " " ++ (d ++ (codes " " ++ (e ++ (codes " " ++ f)))))))))
    ≡ u ++ codes " " ++ v ++ codes " " ++ w ++ codes " " ++ x ++ codes " " ++ y ++ codes " " ++ z
six a b c d e f u v w x y z p q r s t o =
    let rest : d ++ (codes " " ++ (e ++ (codes " " ++ f))) ≡ x ++ (codes " " ++ (y ++ (codes " " ++ z))) = cc in
    let more : b ++ (codes " " ++ (c ++ (codes " " ++ (d ++ (codes " " ++ (e ++ (codes " " ++ f))))))) ≡ v ++ (codes " " ++ (w ++ (codes " " ++ (x ++ (codes " " ++ (y ++ (codes " " ++ z))))))) = cc in
    let same : a ++ (codes " " ++ (b ++ (codes " " ++ (c ++ (codes " " ++ (d ++ (codes " " ++ (e ++ (codes " " ++ f))))))))) ≡ u ++ (codes " " ++ (v ++ (codes " " ++ (w ++ (codes " " ++ (x ++ (codes " " ++ (y ++ (codes " " ++ z))))))))) = cc in
    same ∙ spaced u v (codes " " ++ (w ++ (codes " " ++ (x ++ (codes " " ++ (y ++ (codes " " ++ z)))))))
    ∙ spaced (u ++ codes " " ++ v) w (codes " " ++ (x ++ (codes " " ++ (y ++ (codes " " ++ z)))))
    ∙ spaced (u ++ codes " " ++ v ++ codes " " ++ w) x (codes " " ++ (y ++ (codes " " ++ z)))
    ∙ spaced (u ++ codes " " ++ v ++ codes " " ++ w ++ codes " " ++ x) y (codes " " ++ z)
    ∙ last (u ++ codes " " ++ v ++ codes " " ++ w ++ codes " " ++ x ++ codes " " ++ y) z
