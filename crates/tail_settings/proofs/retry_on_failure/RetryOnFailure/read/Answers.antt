use Rattle.tail_settings.specs.RetryOnFailure.{retry_of}
use Rattle.tail_settings.proofs.Told.{passed_on}
use Rattle.tail_settings.proofs.retry_on_failure.RetryOnFailure.read.Goals as goal

pub returns-in_err-max_interval-clause-meaning : goal.returns-in_err-max_interval-clause-meaning
unfolding retry_of
returns-in_err-max_interval-clause-meaning c =
    rw (c.in_ok-retry.ensures.meaning, c.in_ok-initial_interval.ensures.meaning) (passed_on _ _ _ _ _ c.from_residual-in_err-max_interval.ensures.1 c.in_err-max_interval.ensures.meaning)

pub returns-in_err-max_elapsed_time-clause-meaning : goal.returns-in_err-max_elapsed_time-clause-meaning
unfolding retry_of
returns-in_err-max_elapsed_time-clause-meaning c =
    rw (c.in_ok-retry.ensures.meaning, c.in_ok-initial_interval.ensures.meaning, c.in_ok-max_interval.ensures.meaning)
    (passed_on _ _ _ _ _ c.from_residual-in_err-max_elapsed_time.ensures.1 c.in_err-max_elapsed_time.ensures.meaning)

pub returns-in_err-multiplier-clause-meaning : goal.returns-in_err-multiplier-clause-meaning
unfolding retry_of
returns-in_err-multiplier-clause-meaning c =
    rw (c.in_ok-retry.ensures.meaning, c.in_ok-initial_interval.ensures.meaning, c.in_ok-max_interval.ensures.meaning, c.in_ok-max_elapsed_time.ensures.meaning)
    (passed_on _ _ _ _ _ c.from_residual-in_err-multiplier.ensures.1 c.in_err-multiplier.ensures.meaning)

pub returns-in_err-randomization_factor-clause-meaning : goal.returns-in_err-randomization_factor-clause-meaning
unfolding retry_of
returns-in_err-randomization_factor-clause-meaning c =
    rw (c.in_ok-retry.ensures.meaning, c.in_ok-initial_interval.ensures.meaning, c.in_ok-max_interval.ensures.meaning, c.in_ok-max_elapsed_time.ensures.meaning, c.in_ok-multiplier.ensures.meaning)
    (passed_on _ _ _ _ _ c.from_residual-in_err-randomization_factor.ensures.1 c.in_err-randomization_factor.ensures.meaning)

pub returns-clause-meaning : goal.returns-clause-meaning
unfolding retry_of
returns-clause-meaning c =
    rw (
      c.in_ok-retry.ensures.meaning,
      c.in_ok-initial_interval.ensures.meaning,
      c.in_ok-max_interval.ensures.meaning,
      c.in_ok-max_elapsed_time.ensures.meaning,
      c.in_ok-multiplier.ensures.meaning,
      c.in_ok-randomization_factor.ensures.meaning,
    )
