use Rattle.std.proofs.Common.{arith}
use Rattle.admin_pages.specs.Status.{told_statuses}
use Rattle.admin_tests.proofs.Counted.{place_own, of_bad, of_no_tenant, of_post}
use Rattle.admin_tests.proofs.statuses.told_statuses_are_counted.Goals as goal

pub returns : goal.returns
returns c = record { own = λ one other. place_own told_statuses one other; bad = of_bad; no_memory = λ form. omega arith; no_tenant = of_no_tenant; posted = of_post }
