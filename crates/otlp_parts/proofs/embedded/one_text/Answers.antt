use Rattle.std.proofs.Common.{rules, ◌≡◌, [], refl}
use Rattle.otlp_parts.proofs.embedded.one_text.Goals as goal

pub returns : goal.returns
returns g c =
    let none : c.in_ok-text.text.items ≡ [] = search rules in
    record { exact = rw (c.in_ok-extend_from_slice.ensures.items, none) refl; sound = rw (c.in_ok-extend_from_slice.ensures.items, none) c.requires.sound }
