use Rattle.std.proofs.Common.{◌-◌, ◌++◌, length, take, drop, sym, ap, subst, ◌∙◌, arith, length-take}
use lib.Seq.{take-add, take-take}
use Rattle.std.specs.Io.KnownBytes.{Appends}
use Rattle.std.proofs.KnownBytes.{Appends-trans}
use Rattle.replay_script.proofs.output.write_out.Goals as goal

pub loop-written-preserved-in-Ok : goal.loop-written-preserved-in-Ok
loop-written-preserved-in-Ok g c =
    let done = c.loop-written.written in
    let n = c.in-Ok.n in
    let text = c.args.text.now in
    let fits = c.in-Ok.ensures.bound in
    let most = length-take (length text - done) (drop done text) in
    let joined = ap (λ l. take done text ++ l) (take-take n (length text - done) (drop done text) (omega arith)) ∙ sym (take-add done n text) in
    record {
      within = omega arith;
      sent = subst (Appends _ _) joined (Appends-trans _ _ _ _ _ c.loop-written.invariant.sent c.in-Ok.ensures.bytes);
    }
