use Rattle.tail_settings.proofs.Changes.{used_once, found_by_place}
use Rattle.tail_settings.proofs.change.numbers_of_tenants.Goals as goal

pub returns-clause-used_once : goal.returns-clause-used_once
returns-clause-used_once c = used_once

pub returns-clause-by_place : goal.returns-clause-by_place
returns-clause-by_place c = found_by_place
