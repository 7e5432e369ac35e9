use Rattle.std.proofs.Common.{◌≡◌, ◌≤◌, ◌+◌, ◌++◌, length, drop}
use Rattle.audit_log.specs.Bodies.{spans_from, texts_size}
use Rattle.audit_log.proofs.body.with_texts.Given as goal

-- the texts that are left are there, and with them the spans are whole
abbrev pub invariant-loop-span : goal.invariant-loop-span
invariant-loop-span l =
    (l.start + texts_size (drop l.span-index l.spans) ≤ length l.fn.texts.items)
    × (l.all.items ++ spans_from (drop l.start l.fn.texts.items) (drop l.span-index l.spans) ≡ spans_from l.fn.texts.items l.spans)
