-- Text that was sent to a writer, a part after another.
use Rattle.std.proofs.Common.{◌≡◌, ◌≤◌, ℕ, List, [], ◌++◌, length, Option, ap, sym, subst, ◌∙◌, arith}
use Rattle.std.proofs.lemmas.List.{append-nil, append_assoc, length-append}
use Rattle.std.proofs.KnownBytes.{Appends-nil, Appends-trans}
use Rattle.replay_script.specs.Output.{Sends}

pub sends_nothing : (w : Option (List ℕ)) (held : List ℕ) → Sends w w held [] held
sends_nothing w held = ([], Appends-nil w, append-nil held)

-- text was sent and then more of what was held
pub sends_on : (a b c : Option (List ℕ)) (held text mid left : List ℕ) → Sends a b held text mid → Sends b c mid [] left → Sends a c held text left
sends_on a b c held text mid left first second = (
  first.0 ++ second.0,
  Appends-trans a b c first.0 second.0 first.1 second.1,
  first.2 ∙ ap (λ l. first.0 ++ l) (sym (append-nil mid) ∙ second.2) ∙ sym (append_assoc first.0 second.0 left),
)

-- text was sent and then more came, of which some was sent
pub sends_more : (a b c : Option (List ℕ)) (held text mid added left : List ℕ) → Sends a b held text mid → Sends b c (mid ++ added) [] left → Sends a c held (text ++ added) left
sends_more a b c held text mid added left first second = (
  first.0 ++ second.0,
  Appends-trans a b c first.0 second.0 first.1 second.1,
  sym (append_assoc held text added) ∙ ap (λ l. l ++ added) first.2 ∙ append_assoc first.0 mid added
      ∙ ap (λ l. first.0 ++ l) (sym (append-nil (mid ++ added)) ∙ second.2) ∙ sym (append_assoc first.0 second.0 left),
)

pub sends_added : (w1 w2 : Option (List ℕ)) (new old added left : List ℕ) → new ≡ old ++ added → Sends w1 w2 new [] left → Sends w1 w2 (old ++ added) [] left
sends_added w1 w2 new old added left is = subst (λ h. Sends w1 w2 h [] left) is

pub fewer_held : (a b : Option (List ℕ)) (held left : List ℕ) → Sends a b held [] left → length left ≤ length held
fewer_held a b held left sends =
    let same : length held ≡ length (sends.0 ++ left) = ap length (sym (append-nil held) ∙ sends.2) in
    omega (arith, same, length-append sends.0 left)
