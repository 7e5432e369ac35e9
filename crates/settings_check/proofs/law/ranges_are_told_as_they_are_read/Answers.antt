use Rattle.std.proofs.Common.{refl}
use Rattle.std.specs.Fmt.{digits}
use Rattle.tail_settings.proofs.OnLiterals.{settings_on_literals}
use Rattle.settings_check.proofs.law.ranges_are_told_as_they_are_read.Goals as goal

pub returns : goal.returns
unfolding settings_on_literals digits
returns c = record {
  shards = (refl, (refl, refl, refl, refl), refl);
  parts = (refl, (refl, refl, refl, refl), refl);
  receivers = (refl, (refl, refl, refl, refl), refl);
  senders = (refl, (refl, refl, refl, refl), refl);
  lane_size = (refl, (refl, refl, refl, refl), refl);
  max_spans = (refl, (refl, refl, refl, refl), refl);
  seed = (refl, (refl, refl, refl, refl), refl);
  decision_wait = (refl, (refl, refl, refl, refl), refl);
  num_traces = (refl, (refl, refl, refl, refl), refl);
  sampled = (refl, (refl, refl, refl, refl), refl);
  non_sampled = (refl, (refl, refl, refl, refl), refl);
  batch_size = (refl, (refl, refl, refl, refl), refl);
  timeout = (refl, (refl, refl, refl, refl), refl);
  queue_size = (refl, (refl, refl, refl, refl), refl);
  num_consumers = (refl, (refl, refl, refl, refl), refl);
  initial_interval = (refl, (refl, refl, refl, refl), refl);
  max_interval = (refl, (refl, refl, refl, refl), refl);
  max_elapsed_time = (refl, (refl, refl, refl, refl), refl);
  multiplier = (refl, (refl, refl, refl, refl), refl);
  randomization = (refl, (refl, refl, refl, refl), refl);
  max_size_words = refl;
  max_size_none = refl;
  max_size = (refl, refl, refl, refl);
  max_size_default = refl;
  threshold_words = refl;
  threshold = (refl, refl, refl, refl);
}
