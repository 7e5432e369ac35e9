use Rattle.tenant_rules.proofs.Others.{moments_count, others_dont_count, replies_dont_change}
use Rattle.tenant_rules.proofs.posts_stand_alone.Goals as goal

pub returns : goal.returns
returns c = record { moments = moments_count; others_unchanged = others_dont_count; replies = replies_dont_change }
