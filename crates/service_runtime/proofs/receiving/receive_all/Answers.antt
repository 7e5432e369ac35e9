use Rattle.service_runtime.specs.Receiving.{no_round, round_more}
use Rattle.service_runtime.proofs.receiving.receive_all.Goals as goal

pub rounds-init : goal.rounds-init
rounds-init g c = no_round

pub rounds-preserved : goal.rounds-preserved
rounds-preserved g c = round_more c.rounds.reception c.is_closing.new.self c.receive_next.new.reception c.rounds.invariant
    c.if-is_closing.ensures c.receive_next.ensures

pub returns-then-is_closing : goal.returns-then-is_closing
returns-then-is_closing g c = record {
  last = c.rounds.reception;
  rounds = c.rounds.invariant;
  over = c.if-is_closing.ensures;
}
