use Rattle.std.proofs.Common.{◌≡◌, ◌+◌, ℕ, true, false, List, length, drop, take, Option, Some, None, Bor, refl}
use Rattle.std.specs.Prelude.{MatchOption, option_copied}
use Rattle.std.specs.Str.{bytes_eq}
use Rattle.service_runtime.specs.Front.{strip_front}
use Rattle.service_runtime.proofs.front.strip_front.Goals as goal

stripped : (front text : List ℕ) (r : Option (Bor (List ℕ)))
    → MatchOption r (bytes_eq (take (length front) text) front ≡ false)
    (λ x. (bytes_eq (take (length front) text) front ≡ true) × (x.now ≡ drop (length front) text)
    × (length x.now + length front ≡ length text))
    → option_copied r ≡ strip_front front text
stripped front text None h = rw h refl
stripped front text (Some x) h = rw (h.0, h.1) refl

pub returns : goal.returns
returns c = stripped c.args.front.now c.args.text.now c.strip_prefix.result c.strip_prefix.ensures.cases
