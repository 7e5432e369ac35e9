-- A text from its parts.
use Rattle.std.proofs.Common.{◌≡◌, List, ◌++◌, ap, ◌∙◌, append_assoc}

-- one part more, after a text that ends so
pub part : {A : Type 0} {text : List A} (front last rest : List A) → text ≡ front ++ last → text ++ rest ≡ front
    ++ (last ++ rest)
part {A} {text} front last rest e = ap (λ v. v ++ rest) e ∙ append_assoc front last rest

pub joined_ten : {A : Type 0} (a b c d e f g h i j : List A) (t0 t1 t2 t3 t4 t5 t6 t7 t8 t9 : List A)
    → t0 ≡ a → t1 ≡ t0 ++ b → t2 ≡ t1 ++ c → t3 ≡ t2 ++ d → t4 ≡ t3 ++ e → t5 ≡ t4 ++ f → t6 ≡ t5 ++ g → t7 ≡ t6 ++ h
    → t8 ≡ t7 ++ i → t9 ≡ t8 ++ j
    → t9 ≡ a ++ (b ++ (c ++ (d ++ (e ++ (f ++ (g ++ (h ++ (i ++ j))))))))
joined_ten a b c d e f g h i j t0 t1 t2 t3 t4 t5 t6 t7 t8 t9 e0 e1 e2 e3 e4 e5 e6 e7 e8 e9 =
    e9
    ∙ (part t7 i j e8
    ∙ (part t6 h (i ++ j) e7
    ∙ (part t5 g (h ++ (i ++ j)) e6
    ∙ (part t4 f (g ++ (h ++ (i ++ j))) e5
    ∙ (part t3 e (f ++ (g ++ (h ++ (i ++ j)))) e4
    ∙ (part t2 d (e ++ (f ++ (g ++ (h ++ (i ++ j))))) e3
    ∙ (part t1 c (d ++ (e ++ (f ++ (g ++ (h ++ (i ++ j)))))) e2
    ∙ (part t0 b (c ++ (d ++ (e ++ (f ++ (g ++ (h ++ (i ++ j))))))) e1
    ∙ ap (λ v. v ++ (b ++ (c ++ (d ++ (e ++ (f ++ (g ++ (h ++ (i ++ j))))))))) e0))))))))
