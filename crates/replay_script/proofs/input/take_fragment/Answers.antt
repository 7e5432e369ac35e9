use Rattle.std.proofs.Common.{◌≤◌, [], length, take, subst, rules, arith}
use Rattle.std.specs.Io.KnownBytes.{Consumes}
use Rattle.std.specs.Io.BufRead.{FillKeeps}
use Rattle.std.proofs.KnownBytes.{Consumes-nil, Consumes-kept}
use Rattle.std.proofs.BufReadLemmas.{Consumes_shown}
use Rattle.std.proofs.lemmas.List.Elements.{All-nil}
use Rattle.replay_script.proofs.Kept.{kept_nothing, take_none}
use Rattle.replay_script.proofs.input.take_fragment.Goals as goal

pub returns-then-eq-clause-part : goal.returns-then-eq-clause-part
returns-then-eq-clause-part g c = (
  [],
  All-nil _,
  kept_nothing c.args.line.now.items c.requires.kept,
  Consumes-kept _ _ _ [] (Consumes-nil _) c.fill_buf.follows.holds-at-none.0,
  λ e. absurd (cc),
)

pub returns-clause-part : goal.returns-clause-part
returns-clause-part g c =
    let cut = c.find_fragment-cut in
    let rested = c.fill_buf.follows.lender-at-none in
    let filled = subst (FillKeeps _ (g.R.Read.remaining rested) (g.R.BufRead.consumable_len rested)) c.in-Ok.is c.fill_buf.follows.holds-at-none in
    let within : cut.result.read ≤ length c.in-Ok.shown.now = omega (arith, cut.ensures.read) in
    let moved = Consumes_shown _ _ _ _ c.in-Ok.shown.now cut.result.read within c.in-Ok.ensures.front c.in-Ok.ensures.end filled.0 filled.1 c.consume.ensures.bytes in (
      take cut.result.len c.in-Ok.shown.now,
      cut.ensures.inside,
      search rules,
      subst (Consumes _ _) cut.ensures.taken moved.0,
      λ over. let none = cut.ensures.end over in (take_none cut.result.len c.in-Ok.shown.now none, moved.1 none),
    )
