use Rattle.std.proofs.Common.{◌≡◌, ℕ, ◌+◌, ◌<◌, List, ◌++◌, length, get_or, drop, string_bytes, sym, ap, ◌∙◌, append_assoc}
use Rattle.std.proofs.lemmas.List.{at_drop_more}
use Rattle.settings_check.specs.Shown.{shown_byte, shown}
use Rattle.settings_check.proofs.shown.shown_bytes.Goals as goal

shown_more : (out xs : List ℕ) (i d : ℕ) → i < length xs → (out ++ shown_byte (get_or xs i d)) ++ shown (drop (i + 1) xs) ≡ out ++ shown (drop i xs)
shown_more out xs i d within =
    append_assoc out (shown_byte (get_or xs i d)) (shown (drop (i + 1) xs)) ∙ ap (λ t. out ++ t) (sym (at_drop_more shown xs i d within))

pub loop-byte-preserved : goal.loop-byte-preserved
loop-byte-preserved c =
    rw c.in_ok-put_byte.ensures (shown_more (string_bytes c.loop-byte.line) c.args.text.now c.loop-byte.byte-index 0 c.loop-byte-test.true
    ∙ c.loop-byte.invariant)
