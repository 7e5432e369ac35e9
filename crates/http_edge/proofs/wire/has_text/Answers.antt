use Rattle.std.proofs.Common.{not, rules, tests}
use Rattle.std.proofs.lemmas.Iterator.{YieldsList-from_slice}
use Rattle.std.proofs.lemmas.Iterator.Search.{any_from_yields_List}
use Rattle.httparse.specs.Pieces.{is_newline}
use Rattle.http_edge.proofs.wire.has_text.Goals as goal

pub returns : goal.returns
returns c =
    any_from_yields_List (λ b. not (is_newline b)) _ _ _ c.any.ensures.ran (YieldsList-from_slice c.args.bytes.now (cc))
    (λ x b q k. search (rules, tests))
