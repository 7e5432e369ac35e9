use Rattle.std.proofs.Common.{refl, arith}
use Rattle.processor_tests.proofs.ledgers.definitions_of_ledgers.Goals as goal

pub returns : goal.returns
returns c = record {
  soundness = record {
    none = record { each_once = refl; few = omega arith };
    in_one_place = record { each_once = refl; few = omega arith };
    lost = λ is. (let each = is.each_once in omega (arith, each));
    twice = λ is. (let each = is.each_once in omega (arith, each));
    most = record { each_once = refl; few = omega arith };
    one_more = λ is. (let few = is.few in omega (arith, few));
  };
}
