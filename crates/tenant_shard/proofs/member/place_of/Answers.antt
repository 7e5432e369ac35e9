use Rattle.std.proofs.Common.{rules}
use Rattle.std.proofs.lemmas.List.Sorted.{answers_always}
use Rattle.tenant_pipeline.specs.declared.pipeline.Pipeline.{Pipeline}
use Rattle.tenant_shard.proofs.Places.{searched}
use Rattle.tenant_shard.proofs.member.place_of.Goals as goal

-- the closure gives a member's number, and the members stand by number
pub returns : goal.returns
returns c =
    let facts = c.binary_search_by_key.ensures in
    let by_key = facts.position (λ (m : Pipeline). m.tenant) (answers_always _ _ _ (λ f a r g called. search rules)) in
    searched c.args.tenant c.args.members.now c.requires c.binary_search_by_key.result facts.bound by_key
