-- Sections are equal where they say the same.
use Rattle.std.proofs.Common.{◌≡◌, true, refl, ap}
use Rattle.std.specs.Prelude.{◌↔◌, ℕ, ◌==◌}
use Rattle.std.specs.Arc.{arc_slice_items}
use Rattle.std.proofs.lemmas.Bool.{and_parts, eq-eqb, eqb-true}
use Rattle.tail_settings.specs.contracts.batch.BatchPartialEq.TheImpl as batch_equal
use Rattle.tail_settings.specs.contracts.sending_queue.SendingQueuePartialEq.TheImpl as queue_equal
use Rattle.tail_settings.specs.contracts.retry_on_failure.RetryOnFailurePartialEq.TheImpl as retry_equal
use Rattle.tail_settings.specs.contracts.tail_sampling.TailSamplingPartialEq.TheImpl as sampling_equal
use Rattle.tail_settings.specs.contracts.section.SectionPartialEq.TheImpl as section_equal
use Rattle.tail_settings.specs.contracts.policy.PolicySpecPartialEq.TheImpl as policy_equal
use Rattle.tail_settings.specs.declared.batch.Batch.{Batch}
use Rattle.tail_settings.specs.declared.sending_queue.SendingQueue.{SendingQueue}
use Rattle.tail_settings.specs.declared.retry_on_failure.RetryOnFailure.{RetryOnFailure}
use Rattle.tail_settings.specs.declared.tail_sampling.TailSampling.{TailSampling}
use Rattle.tail_settings.specs.declared.section.Section.{Section}
use Rattle.tail_settings.specs.Policy.{policy_view}
use Rattle.tail_settings.specs.Batch.{batch_view}
use Rattle.tail_settings.specs.SendingQueue.{sending_queue_view}
use Rattle.tail_settings.specs.RetryOnFailure.{retry_view}
use Rattle.tail_settings.specs.TailSampling.{tail_sampling_view}
use Rattle.tail_settings.specs.Section.{section_view}
use Rattle.tail_settings.proofs.Policies.{lists_equal, policies_equal, texts_equal}

numbers_equal : (m n : ℕ) → ((m == n) ≡ true) ↔ (m ≡ n)
numbers_equal m n = (eqb-true m n, eq-eqb m n)

pub batches_equal : (a b : Batch) → (batch_equal.eq-value.it a b ≡ true) ↔ (batch_view a ≡ batch_view b)
batches_equal a b =
    let size = numbers_equal a.send_batch_size b.send_batch_size in
    let timeout = numbers_equal a.timeout b.timeout in
    let max = numbers_equal a.send_batch_max_size b.send_batch_max_size in (
      λ h.
          let p = and_parts _ _ h in
          let q = and_parts _ _ p.1 in
          rw (size.0 p.0, timeout.0 q.0, max.0 q.1) refl,
      λ h. rw (
        size.1 (ap (λ v. v.send_batch_size) h),
        timeout.1 (ap (λ v. v.timeout) h),
        max.1 (ap (λ v. v.send_batch_max_size) h),
      ) refl,
    )

pub queues_equal : (a b : SendingQueue) → (queue_equal.eq-value.it a b ≡ true) ↔ (sending_queue_view a ≡ sending_queue_view b)
queues_equal a b =
    let size = numbers_equal a.queue_size b.queue_size in
    let bytes = numbers_equal a.queue_bytes b.queue_bytes in
    let consumers = numbers_equal a.num_consumers b.num_consumers in (
      λ h.
          let p = and_parts _ _ h in
          let q = and_parts _ _ p.1 in
          rw (size.0 p.0, bytes.0 q.0, consumers.0 q.1) refl,
      λ h. rw (
        size.1 (ap (λ v. v.queue_size) h),
        bytes.1 (ap (λ v. v.queue_bytes) h),
        consumers.1 (ap (λ v. v.num_consumers) h),
      ) refl,
    )

pub retries_equal : (a b : RetryOnFailure) → (retry_equal.eq-value.it a b ≡ true) ↔ (retry_view a ≡ retry_view b)
retries_equal a b =
    let initial = numbers_equal a.initial_interval b.initial_interval in
    let max = numbers_equal a.max_interval b.max_interval in
    let elapsed = numbers_equal a.max_elapsed_time b.max_elapsed_time in
    let multiplier = numbers_equal a.multiplier b.multiplier in
    let factor = numbers_equal a.randomization_factor b.randomization_factor in (
      λ h.
          let p = and_parts _ _ h in
          let q = and_parts _ _ p.1 in
          let r = and_parts _ _ q.1 in
          let s = and_parts _ _ r.1 in
          rw (initial.0 p.0, max.0 q.0, elapsed.0 r.0, multiplier.0 s.0, factor.0 s.1) refl,
      λ h. rw (
        initial.1 (ap (λ v. v.initial_interval) h),
        max.1 (ap (λ v. v.max_interval) h),
        elapsed.1 (ap (λ v. v.max_elapsed_time) h),
        multiplier.1 (ap (λ v. v.multiplier) h),
        factor.1 (ap (λ v. v.randomization_factor) h),
      ) refl,
    )

pub samplings_equal : (a b : TailSampling) → (sampling_equal.eq-value.it a b ≡ true) ↔ (tail_sampling_view a ≡ tail_sampling_view b)
samplings_equal a b =
    let wait = numbers_equal a.decision_wait b.decision_wait in
    let traces = numbers_equal a.num_traces b.num_traces in
    let sampled = numbers_equal a.sampled_cache_size b.sampled_cache_size in
    let others = numbers_equal a.non_sampled_cache_size b.non_sampled_cache_size in
    let policies = lists_equal policy_equal.eq-value.it policy_view policies_equal (arc_slice_items a.policies) (arc_slice_items b.policies) in (
      λ h.
          let p = and_parts _ _ h in
          let q = and_parts _ _ p.1 in
          let r = and_parts _ _ q.1 in
          let s = and_parts _ _ r.1 in
          rw (wait.0 p.0, traces.0 q.0, sampled.0 r.0, others.0 s.0, policies.0 s.1) refl,
      λ h. rw (
        wait.1 (ap (λ v. v.decision_wait) h),
        traces.1 (ap (λ v. v.num_traces) h),
        sampled.1 (ap (λ v. v.sampled_cache_size) h),
        others.1 (ap (λ v. v.non_sampled_cache_size) h),
        policies.1 (ap (λ v. v.policies) h),
      ) refl,
    )

pub sections_equal : (a b : Section) → (section_equal.eq-value.it a b ≡ true) ↔ (section_view a ≡ section_view b)
sections_equal a b =
    let endpoint = texts_equal a.endpoint b.endpoint in
    let spans = numbers_equal a.max_spans b.max_spans in
    let seed = numbers_equal a.seed b.seed in
    let sampling = samplings_equal a.tail_sampling b.tail_sampling in
    let batch = batches_equal a.batch b.batch in
    let queue = queues_equal a.sending_queue b.sending_queue in
    let retry = retries_equal a.retry_on_failure b.retry_on_failure in (
      λ h.
          let p = and_parts _ _ h in
          let q = and_parts _ _ p.1 in
          let r = and_parts _ _ q.1 in
          let s = and_parts _ _ r.1 in
          let t = and_parts _ _ s.1 in
          let u = and_parts _ _ t.1 in
          rw (endpoint.0 p.0, spans.0 q.0, seed.0 r.0, sampling.0 s.0, batch.0 t.0, queue.0 u.0, retry.0 u.1) refl,
      λ h. rw (
        endpoint.1 (ap (λ v. v.endpoint) h),
        spans.1 (ap (λ v. v.max_spans) h),
        seed.1 (ap (λ v. v.seed) h),
        sampling.1 (ap (λ v. v.tail_sampling) h),
        batch.1 (ap (λ v. v.batch) h),
        queue.1 (ap (λ v. v.sending_queue) h),
        retry.1 (ap (λ v. v.retry_on_failure) h),
      ) refl,
    )
