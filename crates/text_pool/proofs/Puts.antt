-- What a text that comes under a key makes of its owner's part.
use Rattle.std.proofs.Common.{◌≡◌, ◌≢◌, ℕ, refl, ap, ◌∙◌, arith, Bool, true, false, Some, eqb, cond}
use Rattle.std.proofs.lemmas.Bool.Decides.{nat_tests}
use Rattle.std.proofs.Math.Path.{fun_ext}
use Rattle.slab.specs.Slab.{Slab, Updates}
use Rattle.text_pool.specs.declared.pool.CountedText.{CountedText}
use Rattle.text_pool.specs.Part.{owned, part, with_text}

own : (kept : CountedText) → owned kept.owner (Some kept) ≡ Some kept
own kept = let same : eqb kept.owner kept.owner ≡ true = grind (arith, nat_tests) in rw same refl

pub put_part : (old new : Slab CountedText) (key : ℕ) (kept : CountedText) → Updates old new key (Some kept) → part kept.owner new ≡ with_text key (Some kept) (part kept.owner old)
put_part old new key kept put = fun_ext (λ j. one j (eqb j key) refl)
  where
    one : (j : ℕ) (b : Bool) → eqb j key ≡ b → part kept.owner new j ≡ cond (eqb j key) (Some kept) (part kept.owner old j)
    one j true e =
        let same : j ≡ key = grind (arith, nat_tests, e) in
        let there : part kept.owner new j ≡ Some kept = ap (part kept.owner new) same ∙ (ap (owned kept.owner) put.changed ∙ own kept) in
        rw e there
    one j false e =
        let other : j ≢ key = grind (arith, nat_tests, e) in
        let same : part kept.owner new j ≡ part kept.owner old j = ap (owned kept.owner) (put.others j other) in
        rw e same
