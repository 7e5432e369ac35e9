-- The batches that a drain forms are added to those that wait.
use Rattle.std.proofs.Common.{◌≡◌, ◌<◌, ◌≤◌, ◌+◌, ◌++◌, ◌∙◌, ◌||◌, ℕ, zero, suc, List, [], ◌∷◌, drop, length, map, refl, sym, ap, subst, arith, append-nil, append_assoc, length-append, true, false}
use Rattle.std.specs.Prelude.{nat_lt}
use Rattle.drop_ledger.specs.Ledger.{LedgerData, moved}
use Rattle.drop_ledger.specs.declared.places.Place.TheVariants.{Undecided, Pending, Queued, QueueFull}
use Rattle.send_queue.specs.Sender.{BatchData, SenderData, payload_bytes}
use Rattle.send_queue.proofs.Queued.{payload_bytes-append}
use Rattle.span_batcher.specs.Batches.{Batch}
use Rattle.span_batcher.specs.Maps.{spans_of}
use Rattle.tail_policy.specs.declared.note.TraceNote.{TraceNote}
use Rattle.tenant_stores.specs.Part.{Part}
use Rattle.tenant_stores.specs.Counts.{count}
use Rattle.tenant_stores.proofs.Lists.{count-append}
use Rattle.tenant_rules.specs.Batching.{as_sent, all_sent}
use Rattle.tenant_rules.specs.Sender.{finds_no_room, most_bytes}
use Rattle.tenant_rules.specs.State.{State}
use Rattle.tenant_rules.specs.Timers.{recount, queued, all_queued}
use Rattle.tenant_pipeline.specs.declared.pipeline.Pipeline.{Pipeline}
use Rattle.tenant_pipeline.specs.declared.unsent.Leaving.{Leaving}
use Rattle.tenant_pipeline.specs.Outbox.{AreThere, Fits, Sends}
use Rattle.tenant_pipeline.specs.StateIn.{arrivals_at, batch_at, unsent_at, with_behind, written_with}
use Rattle.tenant_pipeline.specs.Unsent.{AddsAll, IsWeighed, has_no_room}
use Rattle.tenant_pipeline.proofs.Sending.{full_has_none, room_by_bytes, took_one}
use Rattle.tenant_pipeline.proofs.Spans.{there-back, there-front}
use Rattle.tenant_pipeline.proofs.Unwritten.{spans_of-append, there_size, unsent-append, unsent_length}

-- ---- whether one finds room

-- as many wait as may
pub full_by : (sender : SenderData) (p : Part TraceNote) (us : List (Batch ℕ)) (u : Batch ℕ) → sender.sending.queue_size ≤ length sender.queue + length us → has_no_room p u us sender ≡ true
full_by sender p us u full =
    let both = length-append sender.queue (unsent_at p us) in
    let many = unsent_length p us in
    full_has_none (as_sent (batch_at p u)) (with_behind (unsent_at p us) sender) (omega (arith, both, many, full))

-- fewer do
pub large_by : (sender : SenderData) (p : Part TraceNote) (us : List (Batch ℕ)) (u : Batch ℕ) → length sender.queue + length us < sender.sending.queue_size → has_no_room p u us sender
    ≡ (nat_lt most_bytes (length (as_sent (batch_at p u)).payload) || nat_lt sender.sending.queue_bytes (payload_bytes sender.queue + payload_bytes (unsent_at p us) + length (as_sent (batch_at p u)).payload))
large_by sender p us u room =
    let both = length-append sender.queue (unsent_at p us) in
    let many = unsent_length p us in
    room_by_bytes (as_sent (batch_at p u)) (with_behind (unsent_at p us) sender) (omega (arith, both, many, room))
    ∙ ap (λ (n : ℕ). nat_lt most_bytes (length (as_sent (batch_at p u)).payload) || nat_lt sender.sending.queue_bytes (n + length (as_sent (batch_at p u)).payload)) (payload_bytes-append sender.queue (unsent_at p us))

-- ---- one batch

queued_none : (b : BatchData) (s : State) → finds_no_room b s.sender ≡ true → queued b s ≡ recount Pending QueueFull b.spans s
queued_none b s none = rw none refl

queued_room : (b : BatchData) (s : State) → finds_no_room b s.sender ≡ false → queued b s ≡ recount Pending Queued b.spans (record s { sender = record (s.sender) { queue = s.sender.queue ++ b ∷ [] } })
queued_room b s room = rw room refl

module _ (p : Part TraceNote) (sender : SenderData) (old new : Leaving) (l l' : LedgerData) (u : Batch ℕ) (n : ℕ) (n_is : n ≡ length u.spans) (few : n ≤ l.places.pending) where
  abbrev b : BatchData
  b = as_sent (batch_at p u)

  one_key : (key : ℕ) → count key (u.spans ++ []) ≡ count key u.spans
  one_key key = ap (count key) (append-nil u.spans)

  one_size : length (u.spans ++ []) ≡ length u.spans
  one_size = ap length (append-nil u.spans)

  size_by : AreThere p (u.spans ++ []) → length (arrivals_at p u.spans) ≡ n
  size_by there = there_size p u.spans (there-front p u.spans [] there) ∙ sym n_is

  -- its spans were dropped
  pub adds_none : IsWeighed p old → has_no_room p u old.unsent sender ≡ true → new.unsent ≡ old.unsent → new.bytes ≡ old.bytes → new.gone.items ≡ old.gone.items ++ u.spans → l' ≡ moved Pending QueueFull n l → AddsAll p (u ∷ []) sender old new l l'
  adds_none weighed none unsent bytes gone ledger = record {
    rules = λ there s sender_is ledger_is.
        let size = size_by there in
        queued_none b s (ap (finds_no_room b) sender_is ∙ none)
        ∙ (λ i. record s { sender = sender_here s sender_is i; ledger = moved Pending QueueFull (size i) (ledger_is i) })
        ∙ ap (λ (x : LedgerData). let t : State = record s { sender = with_behind (unsent_at p new.unsent) sender; ledger = x } in t) (sym ledger);
    gone = λ key.
        let more = ap (count key) gone in
        let both = count-append key old.gone.items u.spans in
        let same = ap (λ (us : List (Batch ℕ)). count key (spans_of us)) unsent in
        let one = one_key key in
        omega (arith, more, both, same, one);
    room = λ fits. subst (λ (us : List (Batch ℕ)). Fits (with_behind (unsent_at p us) sender)) (sym unsent) fits;
    weighed = bytes ∙ (weighed ∙ ap (λ (us : List (Batch ℕ)). payload_bytes (unsent_at p us)) (sym unsent));
    pending =
        let less = ap (λ (x : LedgerData). x.places.pending) ledger in
        let one = one_size in
        omega (arith, less, one, n_is, few);
  }
    where
      sender_here : (s : State) → s.sender ≡ with_behind (unsent_at p old.unsent) sender → s.sender ≡ with_behind (unsent_at p new.unsent) sender
      sender_here s is = is ∙ ap (λ (us : List (Batch ℕ)). with_behind (unsent_at p us) sender) (sym unsent)

  -- it waits
  pub adds_one : IsWeighed p old → has_no_room p u old.unsent sender ≡ false → new.unsent ≡ old.unsent ++ u ∷ [] → new.bytes ≡ old.bytes + length (as_sent (batch_at p u)).payload → new.gone.items ≡ old.gone.items → l' ≡ moved Pending Queued n l → AddsAll p (u ∷ []) sender old new l l'
  adds_one weighed some unsent bytes gone ledger = record {
    rules = λ there s sender_is ledger_is.
        let size = size_by there in
        queued_room b s (ap (finds_no_room b) sender_is ∙ some)
        ∙ (λ i. record s { sender = sender_then s sender_is i; ledger = moved Pending Queued (size i) (ledger_is i) })
        ∙ ap (λ (x : LedgerData). let t : State = record s { sender = with_behind (unsent_at p new.unsent) sender; ledger = x } in t) (sym ledger);
    gone = λ key.
        let same = ap (count key) gone in
        let more = ap (λ (us : List (Batch ℕ)). count key (spans_of us)) unsent ∙ ap (count key) (spans_of-append old.unsent (u ∷ [])) in
        let both = count-append key (spans_of old.unsent) (u.spans ++ []) in
        omega (arith, same, more, both);
    room = λ fits. subst (λ (q : List BatchData). Fits (let y : SenderData = record sender { queue = q } in y)) queue_then ((took_one b (with_behind (unsent_at p old.unsent) sender) some).room fits);
    weighed =
        let more = ap payload_bytes behind in
        let both = payload_bytes-append (unsent_at p old.unsent) (b ∷ []) in
        omega (arith, bytes, weighed, more, both);
    pending =
        let less = ap (λ (x : LedgerData). x.places.pending) ledger in
        let one = one_size in
        omega (arith, less, one, n_is, few);
  }
    where
      behind : unsent_at p old.unsent ++ b ∷ [] ≡ unsent_at p new.unsent
      behind = sym (unsent-append p old.unsent (u ∷ [])) ∙ ap (unsent_at p) (sym unsent)

      queue_then : (sender.queue ++ unsent_at p old.unsent) ++ b ∷ [] ≡ sender.queue ++ unsent_at p new.unsent
      queue_then = append_assoc sender.queue (unsent_at p old.unsent) (b ∷ []) ∙ ap (λ (bs : List BatchData). sender.queue ++ bs) behind

      sender_then : (s : State) → s.sender ≡ with_behind (unsent_at p old.unsent) sender →
          record (s.sender) { queue = s.sender.queue ++ b ∷ [] } ≡ with_behind (unsent_at p new.unsent) sender
      sender_then s is =
          ap (λ (x : SenderData). let y : SenderData = record x { queue = x.queue ++ b ∷ [] } in y) is
          ∙ ap (λ (q : List BatchData). let y : SenderData = record sender { queue = q } in y) queue_then

-- ---- several

pub there-drop : (p : Part TraceNote) (i : ℕ) (bs : List (Batch ℕ)) → AreThere p (spans_of bs) → AreThere p (spans_of (drop i bs))
there-drop p zero bs there = there
there-drop p (suc i) [] there = there
there-drop p (suc i) (b ∷ bs) there = there-drop p i bs (there-back p b.spans (spans_of bs) there)

-- batches that are added behind those of a tenant, once spans are pending
module _ (p : Part TraceNote) (own : Pipeline) (bs : List (Batch ℕ)) (old new : Leaving) (n : ℕ) (l l' : LedgerData) (l_is : l ≡ moved Undecided Pending n own.ledger) (adds : AddsAll p bs own.sender old new l l') (there : AreThere p (spans_of bs)) where
  abbrev pub added_own : Pipeline
  added_own = record own { ledger = l' }

  pub adds_sends : Sends (λ s. all_queued (all_sent (map (batch_at p) bs)) (recount Undecided Pending n s)) (written_with old.unsent p own) (written_with new.unsent p added_own)
  adds_sends = record {
    rules = λ s sender ledger. adds.rules there (recount Undecided Pending n s) sender (ap (moved Undecided Pending n) ledger ∙ sym l_is);
    same = refl;
  }

-- one that is added with the same spans pending
module _ (p : Part TraceNote) (own : Pipeline) (u : Batch ℕ) (old new : Leaving) (l' : LedgerData) (adds : AddsAll p (u ∷ []) own.sender old new own.ledger l') (there : AreThere p (u.spans ++ [])) where
  pub rest_sends : Sends (queued (as_sent (batch_at p u))) (written_with old.unsent p own) (written_with new.unsent p (record own { ledger = l' }))
  rest_sends = record {
    rules = λ s sender ledger. adds.rules there s sender ledger;
    same = refl;
  }
