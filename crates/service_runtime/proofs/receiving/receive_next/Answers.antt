use Rattle.service_runtime.specs.Receiving.{somebody, nobody}
use Rattle.service_runtime.proofs.receiving.receive_next.Goals as goal

pub returns-in-Some : goal.returns-in-Some
returns-in-Some g c = somebody c.in-Some.guest c.next.new.self (rw c.in-Some.is at c.next.ensures) c.serve_in_time.ensures

pub returns-in-None : goal.returns-in-None
returns-in-None g c = nobody c.next.new.self (rw c.in-None.is at c.next.ensures) c.pause.ensures
