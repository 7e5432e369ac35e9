use Rattle.settings_check.proofs.unknown.warn_in_cache.Goals as goal

pub returns : goal.returns
returns c = rw (c.as_str.ensures.value, c.in_ok-title.ensures, c.table-cache.ensures) at c.warn_in.ensures
