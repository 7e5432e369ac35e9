use Rattle.std.proofs.Common.{◌≡◌, ◌-◌, length, take, drop, arith, ◌∙◌}
use Rattle.std.proofs.lemmas.List.{length-drop, length-take-le}
use Rattle.otlp_trace.proofs.Moved.{between, front, moved_over}
use Rattle.otlp_trace.proofs.write.fields.move_over_short.Goals as goal

pub returns : goal.returns
returns c =
    let xs = c.args.out.now in
    let s = c.args.start in
    let e = c.args.end in
    let size : e - s ≡ length (drop s (take e xs)) = omega (arith, length-drop s (take e xs), length-take-le e xs c.requires.within) in
    let noted : c.copy_from_slice.new.self ≡ drop s (take e xs) = c.copy_from_slice.ensures.after ∙ between xs s e c.requires.order in
    let kept : c.copy_from_slice-2.new.self ≡ drop s (take e xs) = c.copy_from_slice-2.ensures.after ∙ front c.copy_from_slice.new.self (drop s (take e xs)) _ (e - s) noted size in
    moved_over xs c.copy_within.new.self c.copy_from_slice-2.new.self s e (length xs - e) c.requires.order (omega (arith, c.requires.within)) c.copy_within.ensures.after c.copy_within.ensures.len kept
