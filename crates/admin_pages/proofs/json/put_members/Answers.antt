use Rattle.std.proofs.Common.{refl}
use Rattle.admin_pages.specs.Figures.{tenant_of}
use Rattle.admin_pages.specs.Json.{members_text}
use Rattle.admin_pages.proofs.Joined.{ended}
use Rattle.admin_pages.proofs.json.put_members.Goals as goal

pub returns : goal.returns
unfolding members_text
returns c =
    ended _ _ c.loop-metrics.metrics.now (members_text (tenant_of c.args.tenant.now)) refl c.in_default.len_below c.loop-metrics.invariant
