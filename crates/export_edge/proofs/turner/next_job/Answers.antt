use Rattle.export_edge.specs.Work.{turn_at}
use Rattle.export_edge.proofs.turner.next_job.Goals as goal

pub returns : goal.returns
returns g c = (
  turn_at c.now-now.result c.turn-turned.result,
  c.turn-turned.ensures,
  c.job_in.ensures.job,
  (c.now-now.new.self, c.now-now.ensures, c.job_in.ensures.pauses),
)
