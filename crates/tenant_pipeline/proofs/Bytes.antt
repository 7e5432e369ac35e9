-- How many bytes a tenant's batches that wait have together, and how many they may have.
use Rattle.std.proofs.Common.{◌≡◌, ◌++◌, ◌∙◌, ◌^◌, List, [], ◌∷◌, sym, refl, ap, arith, append-nil, Bool, true, false, cond}
use Rattle.std.specs.Prelude.{ℕ, max}
use Rattle.send_queue.specs.Sender.{payload_bytes}
use Rattle.span_batcher.specs.Batches.{Batch}
use Rattle.tail_policy.specs.declared.note.TraceNote.{TraceNote}
use Rattle.tail_settings.specs.SendingQueue.{most_queue_bytes}
use Rattle.tenant_stores.specs.Part.{Part}
use Rattle.tenant_pipeline.specs.declared.pipeline.Pipeline.{Pipeline}
use Rattle.tenant_pipeline.specs.Invariant.{AreBehind, PipelineInvariantBy}
use Rattle.tenant_pipeline.specs.Present.{bytes_waiting}
use Rattle.tenant_pipeline.specs.StateIn.{state_of, unsent_at}

-- who isn't drained has no batches that aren't written
none_unsent : (us : List (Batch ℕ)) (own : Pipeline) → own.drained ≡ false → AreBehind us own → us ≡ []
none_unsent [] own not behind = refl
none_unsent (u ∷ us) own not behind = let both : Path Bool true false = sym behind.1 ∙ not in absurd (cc)

module _ (own : Pipeline) (p : Part TraceNote) (holds : PipelineInvariantBy own p) where
  -- no bytes of who is drained count
  pub none_waiting : own.drained ≡ true → bytes_waiting (state_of own p) ≡ 0
  none_waiting is = ap (λ (b : Bool). cond b 0 (payload_bytes (own.sender.queue ++ unsent_at p own.unsent))) is

  -- and all of others
  pub all_waiting : own.drained ≡ false → bytes_waiting (state_of own p) ≡ payload_bytes own.sender.queue
  all_waiting not =
      let none = none_unsent own.unsent own not holds.behind in
      ap (λ (b : Bool). cond b 0 (payload_bytes (own.sender.queue ++ unsent_at p own.unsent))) not ∙
      (ap (λ (us : List (Batch ℕ)). payload_bytes (own.sender.queue ++ unsent_at p us)) none ∙ ap payload_bytes (append-nil own.sender.queue))

  -- after a drain as many may wait as any queue has
  pub most_allowed : own.drained ≡ true → own.sender.sending.queue_bytes ≡ 2 ^ 42
  most_allowed is =
      let own_bytes = own.section.sending_queue.queue_bytes in
      let range = own.section.sending_queue.queue_bytes_range in
      let bytes : own.sender.sending.queue_bytes ≡ max own_bytes most_queue_bytes = holds.whole.within.queue_bytes_is ∙ ap (λ (b : Bool). cond b (max own_bytes most_queue_bytes) own_bytes) is in
      omega (arith, bytes, range)

  -- and else as many as the section says
  pub own_allowed : own.drained ≡ false → own.sender.sending.queue_bytes ≡ own.section.sending_queue.queue_bytes
  own_allowed not =
      let own_bytes = own.section.sending_queue.queue_bytes in
      holds.whole.within.queue_bytes_is ∙ ap (λ (b : Bool). cond b (max own_bytes most_queue_bytes) own_bytes) not
