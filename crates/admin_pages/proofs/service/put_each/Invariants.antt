use Rattle.std.proofs.Common.{◌≡◌, ◌++◌, length, map}
use Rattle.admin_pages.specs.Service.{measure_view, families_of}
use Rattle.admin_pages.proofs.service.put_each.Given as goal

abbrev pub invariant-loop-measures : goal.invariant-loop-measures
invariant-loop-measures l = l.out.items ++ families_of (map measure_view l.measures) ≡ l.fn.out.items ++ families_of (map measure_view l.fn.measures)

abbrev pub decreases-loop-measures : goal.decreases-loop-measures
decreases-loop-measures l = length l.measures
