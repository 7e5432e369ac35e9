use Rattle.std.proofs.Common.{refl}
use Rattle.tail_settings.proofs.OnLiterals.{settings_on_literals}
use Rattle.settings_check.proofs.Agree.{document_alike, global_alike, tenant_alike, sampling_alike, cache_alike, batch_alike, queue_alike, retry_alike, policy_alike, part_alike}
use Rattle.settings_check.proofs.law.known_keys_are_those_that_are_read.Goals as goal

pub returns-clause-others_mean_nothing : goal.returns-clause-others_mean_nothing
returns-clause-others_mean_nothing c = record {
  document = document_alike;
  global = global_alike;
  tenant = tenant_alike;
  tail_sampling = sampling_alike;
  decision_cache = cache_alike;
  batch = batch_alike;
  sending_queue = queue_alike;
  retry_on_failure = retry_alike;
  policy = policy_alike;
  part = part_alike;
}

pub returns-clause-each_is_read : goal.returns-clause-each_is_read
unfolding settings_on_literals
returns-clause-each_is_read c = record {
  document = (refl, (refl, tt));
  global = (refl, (refl, (refl, (refl, (refl, (refl, (refl, tt)))))));
  tenant = (refl, (refl, (refl, (refl, (refl, (refl, (refl, (refl, tt))))))));
  tail_sampling = (refl, (refl, (refl, (refl, tt))));
  decision_cache = (refl, (refl, tt));
  batch = (refl, (refl, (refl, tt)));
  sending_queue = (refl, (refl, tt));
  retry_on_failure = (refl, (refl, (refl, (refl, (refl, tt)))));
  always_sample = (refl, tt);
  latency = (refl, (refl, tt));
  status_code = (refl, (refl, tt));
  string_attribute = (refl, (refl, (refl, tt)));
  numeric_attribute = (refl, (refl, (refl, (refl, tt))));
  and = (refl, (refl, tt));
}
