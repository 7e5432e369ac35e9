-- What no policies sample, worked out by hand. Settings have one at least, so no test of what loads them comes here
-- (the Collector's tailsamplingprocessor).
use Rattle.std.specs.Prelude.{◌≡◌, false, [], ◌∷◌}
use Rattle.tail_policy.specs.Meaning.{keeps}
use Rattle.tail_policy.specs.Note.{verdict_of}
use Rattle.processor_tests.specs.Views.{nothing}

pub record NoPolicies : Type 0 where
  pub no_trace : keeps [] (nothing ∷ []) ≡ false
  pub no_note : verdict_of [] (record { met = 1; start = 0; end = 5 }) ≡ false
