use Rattle.std.proofs.Common.{◌≡◌, ◌+◌, ◌-◌, length, drop, arith, sym, ◌∙◌}
use Rattle.std.proofs.lemmas.Slice.{put_mid-paste}
use Rattle.std.proofs.lemmas.List.{length-drop, take_rest}
use Rattle.otlp_trace.proofs.Moved.{front, moved}
use Rattle.otlp_trace.proofs.write.fields.move_over_long.Goals as goal

pub returns : goal.returns
returns c =
    let xs = c.args.out.now in
    let s = c.args.start in
    let e = c.args.end in
    let a = length xs - e in
    let W = c.copy_within.new.self in
    let size : a ≡ length (drop e xs) = sym (length-drop e xs) in
    let noted : c.copy_from_slice.new.self ≡ drop e xs = c.copy_from_slice.ensures.after ∙ take_rest xs e in
    let filled : c.copy_from_slice-2.new.self ≡ drop e xs = c.copy_from_slice-2.ensures.after ∙ front c.copy_from_slice.new.self (drop e xs) _ a noted size in
    put_mid-paste s (s + a - s) W c.copy_from_slice-2.new.self (drop e xs) a filled (omega arith) size ∙ moved xs W s e a c.requires.order (omega (arith, c.requires.within)) c.copy_within.ensures.after c.copy_within.ensures.len size
