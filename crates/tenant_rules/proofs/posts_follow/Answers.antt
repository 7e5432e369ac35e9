use Rattle.tenant_rules.proofs.Posted.{post_goes_on, post_told}
use Rattle.tenant_rules.proofs.posts_follow.Goals as goal

pub returns : goal.returns
returns c = λ section some wait sound past now arrivals. record { state_is = post_goes_on section past now arrivals some wait sound; told_is = post_told section past now arrivals some wait sound }
