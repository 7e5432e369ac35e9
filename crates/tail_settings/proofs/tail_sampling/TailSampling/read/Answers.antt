use Rattle.tail_settings.specs.TailSampling.{tail_sampling_of}
use Rattle.tail_settings.proofs.Told.{passed_on}
use Rattle.tail_settings.proofs.tail_sampling.TailSampling.read.Goals as goal

pub returns-in_err-cache : goal.returns-in_err-cache
unfolding tail_sampling_of
returns-in_err-cache c =
    rw (c.in_ok-sampling.ensures.meaning, c.in_ok-decision_wait.ensures.meaning, c.in_ok-num_traces.ensures.meaning)
    (passed_on _ _ _ _ _ c.from_residual-in_err-cache.ensures.1 c.in_err-cache.ensures.meaning)

pub returns-in_err-sampled : goal.returns-in_err-sampled
unfolding tail_sampling_of
returns-in_err-sampled c =
    rw (c.in_ok-sampling.ensures.meaning, c.in_ok-decision_wait.ensures.meaning, c.in_ok-num_traces.ensures.meaning, c.in_ok-cache.ensures.meaning)
    (passed_on _ _ _ _ _ c.from_residual-in_err-sampled.ensures.1 c.in_err-sampled.ensures.meaning)

pub returns-in_err-non_sampled : goal.returns-in_err-non_sampled
unfolding tail_sampling_of
returns-in_err-non_sampled c =
    rw (c.in_ok-sampling.ensures.meaning, c.in_ok-decision_wait.ensures.meaning, c.in_ok-num_traces.ensures.meaning, c.in_ok-cache.ensures.meaning, c.in_ok-sampled.ensures.meaning)
    (passed_on _ _ _ _ _ c.from_residual-in_err-non_sampled.ensures.1 c.in_err-non_sampled.ensures.meaning)

pub returns-in_err-policies : goal.returns-in_err-policies
unfolding tail_sampling_of
returns-in_err-policies c =
    rw (c.in_ok-sampling.ensures.meaning, c.in_ok-decision_wait.ensures.meaning, c.in_ok-num_traces.ensures.meaning, c.in_ok-cache.ensures.meaning, c.in_ok-sampled.ensures.meaning, c.in_ok-non_sampled.ensures.meaning)
    (passed_on _ _ _ _ _ c.from_residual-in_err-policies.ensures.1 c.in_err-policies.ensures.meaning)

pub returns : goal.returns
unfolding tail_sampling_of
returns c =
    rw (
      c.in_ok-sampling.ensures.meaning,
      c.in_ok-decision_wait.ensures.meaning,
      c.in_ok-num_traces.ensures.meaning,
      c.in_ok-cache.ensures.meaning,
      c.in_ok-sampled.ensures.meaning,
      c.in_ok-non_sampled.ensures.meaning,
      c.in_ok-policies.ensures.meaning,
    )
