use Rattle.tail_settings.specs.Global.{global_of}
use Rattle.tail_settings.proofs.Told.{passed_on}
use Rattle.tail_settings.proofs.global.GlobalSettings.read.Goals as goal

pub returns-in_err-listen : goal.returns-in_err-listen
unfolding global_of
returns-in_err-listen c =
    rw (c.in_ok-global.ensures.meaning, c.in_ok-shards.ensures.meaning, c.in_ok-parts.ensures.meaning, c.in_ok-receivers.ensures.meaning, c.in_ok-senders.ensures.meaning, c.in_ok-lane_size.ensures.meaning)
    (passed_on _ _ _ _ _ c.from_residual-in_err-listen.ensures.1 c.in_err-listen.ensures.meaning)

pub returns-in_err-tenant_header : goal.returns-in_err-tenant_header
unfolding global_of
returns-in_err-tenant_header c =
    rw (c.in_ok-global.ensures.meaning, c.in_ok-shards.ensures.meaning, c.in_ok-parts.ensures.meaning, c.in_ok-receivers.ensures.meaning, c.in_ok-senders.ensures.meaning, c.in_ok-lane_size.ensures.meaning, c.in_ok-listen.ensures.meaning)
    (passed_on _ _ _ _ _ c.from_residual-in_err-tenant_header.ensures.1 c.in_err-tenant_header.ensures.meaning)

pub returns : goal.returns
unfolding global_of
returns c =
    rw (
      c.in_ok-global.ensures.meaning,
      c.in_ok-shards.ensures.meaning,
      c.in_ok-parts.ensures.meaning,
      c.in_ok-receivers.ensures.meaning,
      c.in_ok-senders.ensures.meaning,
      c.in_ok-lane_size.ensures.meaning,
      c.in_ok-listen.ensures.meaning,
      c.in_ok-tenant_header.ensures.meaning,
    )
