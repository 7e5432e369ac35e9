use Rattle.std.proofs.Common.{◌≡◌, ◌++◌, drop, flat_map}
use Rattle.audit_log.proofs.Spans.{text_in}
use Rattle.audit_log.proofs.body.texts_of.Given as goal

-- what is written and what is left give the whole
abbrev pub invariant-loop-span : goal.invariant-loop-span
invariant-loop-span l = l.texts.items ++ flat_map text_in (drop l.span-index l.spans) ≡ flat_map text_in l.spans
