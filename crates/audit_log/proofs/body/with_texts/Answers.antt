use Rattle.std.proofs.Common.{rules, ◌++◌, List, ℕ, length, arith, ap}
use Rattle.prepared_body.specs.declared.noted.NotedSpan.{NotedSpan}
use Rattle.audit_log.specs.Bodies.{spans_from}
use Rattle.audit_log.proofs.Spans.{next_fits, others_fit, one_made, all_made}
use Rattle.audit_log.proofs.body.with_texts.Goals as goal

pub overflow_add-end : goal.overflow_add-end
overflow_add-end c =
    let fits = next_fits c.args.spans.now c.loop-span.span-index c.loop-span-test.true c.loop-span.start (length c.args.texts.items) c.loop-span.invariant.0 in
    search (rules, fits, c.args.texts.small)

pub slice-requires-clause-within : goal.slice-requires-clause-within
slice-requires-clause-within c =
    let fits = next_fits c.args.spans.now c.loop-span.span-index c.loop-span-test.true c.loop-span.start (length c.args.texts.items) c.loop-span.invariant.0 in
    let size = ap (λ (bs : List ℕ). length bs) c.in_ok-block.ensures in
    omega (arith, fits, size)

pub loop-span-init : goal.loop-span-init
loop-span-init c = (search (rules, c.requires), ap (λ (ss : List NotedSpan). ss ++ spans_from c.args.texts.items c.args.spans.now) c.in_ok-all.ensures.items)

pub loop-span-preserved : goal.loop-span-preserved
loop-span-preserved c = (
  others_fit c.args.spans.now c.loop-span.span-index c.loop-span-test.true c.loop-span.start (length c.args.texts.items) c.loop-span.invariant.0,
  one_made c.args.spans.now c.loop-span.span-index c.loop-span-test.true _ _ c.args.texts.items c.in_ok-text.text c.in_ok-block.block c.loop-span.start c.in_ok-block.ensures c.in_ok-text.ensures c.in_ok-push.ensures.items c.loop-span.invariant.1,
)

pub returns : goal.returns
returns c = all_made c.args.spans.now c.loop-span.span-index c.loop-span.all.items c.args.texts.items _ (search (rules, c.loop-span-test.false)) c.loop-span.invariant.1
