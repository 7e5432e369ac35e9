use Rattle.otlp_canonical.proofs.Sorted.{of_places}
use Rattle.otlp_canonical.proofs.order.put_run.Goals as goal

pub returns-then-run : goal.returns-then-run
returns-then-run c whole = of_places c.args.depth c.args.place c.args.text.now c.args.copy.now.items _ (c.in_ok-whole.ensures whole)
