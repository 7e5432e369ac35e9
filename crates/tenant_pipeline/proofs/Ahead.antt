-- Steps of a tenant that was drained, while batches wait that aren't written.
use Rattle.std.proofs.Common.{◌≡◌, ◌<◌, ◌≤◌, ◌+◌, ◌^◌, ◌++◌, ◌∙◌, ℕ, List, [], ◌∷◌, drop, length, refl, sym, ap, subst, arith, append_assoc, length-append, true, false, Option, None, Some}
use Rattle.send_retry.specs.Class.{AnswerData}
use Rattle.send_queue.specs.Sender.{is_full}
use Rattle.span_batcher.specs.Batches.{Batch}
use Rattle.span_batcher.specs.Machine.{fired}
use Rattle.span_batcher.specs.Maps.{spans_of}
use Rattle.span_batcher.specs.Timers.{is_due}
use Rattle.tail_policy.specs.declared.note.TraceNote.{TraceNote}
use Rattle.tenant_stores.specs.Counts.{Counts, count}
use Rattle.tenant_stores.specs.Invariant.{StoreInvariant}
use Rattle.tenant_stores.specs.Part.{Part}
use Rattle.tenant_stores.specs.Shows.{AreAmong}
use Rattle.tenant_stores.specs.View.{View, view}
use Rattle.tenant_stores.proofs.Lists.{count-append}
use Rattle.tenant_rules.specs.Batching.{as_sent}
use Rattle.tenant_rules.specs.Machine.{acts, settled, turned, turned_by}
use Rattle.tenant_rules.specs.Own.{Own, Turn, Answer}
use Rattle.tenant_rules.specs.Sender.{ActiveData, BatchData, SenderData, Choice, Retried, Oldest, NoBatch, answered, answered_by, choice, handed_of, in_flight}
use Rattle.tenant_rules.specs.State.{State}
use Rattle.tenant_rules.specs.Timers.{enough, next_timer}
use Rattle.tenant_rules.proofs.Fronts.{ran_none}
use Rattle.tenant_pipeline.specs.declared.pipeline.Pipeline.{Pipeline}
use Rattle.tenant_pipeline.specs.Acts.{ActsAt, all_run}
use Rattle.tenant_pipeline.specs.Invariant.{PipelineInvariantAt, PipelineInvariantBy, PipelineInvariantFrom}
use Rattle.tenant_pipeline.specs.Outbox.{Fits, Sends}
use Rattle.tenant_pipeline.specs.StateIn.{all_written, batch_at, counts_in, state_by, state_of, unsent_at, view_in, with_behind, written_state_of, written_with}
use Rattle.tenant_pipeline.specs.Unsent.{IsAhead}
use Rattle.tenant_pipeline.proofs.Behind.{IsDrained, at_any, behind_is, is_behind, none_due, sends_behind, settled_behind, turned_behind}
use Rattle.tenant_pipeline.proofs.Posting.{held_over}
use Rattle.tenant_pipeline.proofs.Ranges.{room_within}
use Rattle.tenant_pipeline.proofs.Sending.{first_fits}
use Rattle.tenant_pipeline.proofs.Stepping.{turn_sent, answer_sent}
use Rattle.tenant_pipeline.proofs.Unwritten.{ShowSame, unsent_same}

-- what a step at a moment makes of a tenant
pub record Stepped (step : Own) (moment : ℕ) (own new : Pipeline) (p q : Part TraceNote) : Type 0 where
  pub change : ActsAt moment (acts moment step) (state_of own p) (state_of new q)
  pub holds : PipelineInvariantFrom moment new q

-- ---- a queue where a back end answers, or a job is handed out

answered_queue : (ticket now word : ℕ) (given : AnswerData) (s : SenderData) → (answered ticket now word given s).queue ≡ s.queue
answered_queue ticket now word given s = by_flight (in_flight ticket s)
  where
    by_flight : (o : Option ActiveData) → (answered_by now word given o s).queue ≡ s.queue
    by_flight None = refl
    by_flight (Some a) = refl

one_less : (q : List BatchData) → length q ≤ length (drop 1 q) + 1
one_less [] = omega arith
one_less (b ∷ q) = omega arith

handed_queue : (moment : ℕ) (c : Choice) (s : SenderData) → length s.queue ≤ length (handed_of moment c s).queue + 1
handed_queue moment (Retried a) s = omega arith
handed_queue moment (Oldest b) s = one_less s.queue
handed_queue moment NoBatch s = omega arith

turned_queue : (moment : ℕ) (c : Choice) (s : State) → length s.sender.queue ≤ length (turned_by moment c s).sender.queue + 1
turned_queue moment (Retried a) s = handed_queue moment (Retried a) s.sender
turned_queue moment (Oldest b) s = handed_queue moment (Oldest b) s.sender
turned_queue moment NoBatch s = omega arith

-- one batch at most leaves the queue
pub turned_leaves : (moment : ℕ) (own new : Pipeline) (p : Part TraceNote) → Sends (turned moment) own new → length own.sender.queue ≤ length new.sender.queue + 1
turned_leaves moment own new p sends =
    let s : State = written_state_of own p in
    let is : length (turned moment s).sender.queue ≡ length new.sender.queue = ap (λ (t : State). length t.sender.queue) (sends.rules s refl refl) in
    let most = turned_queue moment (choice moment own.sender) s in
    omega (arith, is, most)

-- and none comes
kept_queue : (moment : ℕ) (c : Choice) (s : State) → length (turned_by moment c s).sender.queue ≤ length s.sender.queue
kept_queue moment (Retried a) s = omega arith
kept_queue moment (Oldest b) s = by_queue s.sender.queue
  where
    by_queue : (q : List BatchData) → length (drop 1 q) ≤ length q
    by_queue [] = omega arith
    by_queue (b ∷ q) = omega arith
kept_queue moment NoBatch s = omega arith

pub turned_keeps : (moment : ℕ) (own new : Pipeline) (p : Part TraceNote) → Sends (turned moment) own new → length new.sender.queue ≤ length own.sender.queue
turned_keeps moment own new p sends =
    let s : State = written_state_of own p in
    let is : length (turned moment s).sender.queue ≡ length new.sender.queue = ap (λ (t : State). length t.sender.queue) (sends.rules s refl refl) in
    let most = kept_queue moment (choice moment own.sender) s in
    omega (arith, is, most)

-- where a back end answers, the same wait
pub answered_keeps : (moment ticket word : ℕ) (given : AnswerData) (own new : Pipeline) (p : Part TraceNote) → Sends (settled ticket moment word given) own new → length new.sender.queue ≡ length own.sender.queue
answered_keeps moment ticket word given own new p sends =
    sym (ap (λ (t : State). length t.sender.queue) (sends.rules (written_state_of own p) refl refl))
    ∙ ap (λ (q : List BatchData). length q) (answered_queue ticket moment word given own.sender)

-- ---- a batch is written

-- what the rules see
pub state_ahead : (own new : Pipeline) (p q : Part TraceNote) → IsAhead own new p q → state_of new q ≡ state_of own p
state_ahead own new p q ahead =
    ap (λ (o : Pipeline). written_state_of o q) ahead.whole ∙ ap (state_by (all_written own p)) ahead.shows

-- the queue has room for the next one
pub room_ahead : (reached : ℕ) (own : Pipeline) (p : Part TraceNote) (u : Batch ℕ) (rest : List (Batch ℕ)) → PipelineInvariantFrom reached own p → own.unsent ≡ u ∷ rest → is_full (as_sent (batch_at p u)) own.sender ≡ false
room_ahead reached own p u rest holds us_is =
    first_fits own.sender (as_sent (batch_at p u)) (unsent_at p rest)
    (subst (λ (us : List (Batch ℕ)). Fits (with_behind (unsent_at p us) own.sender)) us_is (room_within (all_written own p) p holds.whole.within).fits)

module _ (own : Pipeline) (p q : Part TraceNote) (u : Batch ℕ) (rest : List (Batch ℕ)) (sender : SenderData) (us_is : own.unsent ≡ u ∷ rest) (sender_is : sender ≡ with_behind (as_sent (batch_at p u) ∷ []) own.sender)
    (leaves : (n : Counts) (pending left held : List ℕ) → ((key : ℕ) → count key u.spans + count key left ≡ count key pending) → StoreInvariant n pending held p → StoreInvariant n left held q)
    (leaves_shown : (n : Counts) (pending left held shown : List ℕ) → ((key : ℕ) → count key u.spans + count key left ≡ count key pending) → StoreInvariant n pending held p → AreAmong shown left → view n shown q ≡ view n shown p)
    (sound : StoreInvariant (counts_in own) (spans_of own.unsent ++ own.batcher.spans) [] p)
    (short : length own.sender.queue ≤ 1) where
  abbrev new : Pipeline
  new = record own { sender = sender; unsent = rest }

  all_left : (key : ℕ) → count key u.spans + count key (spans_of rest ++ own.batcher.spans) ≡ count key (spans_of own.unsent ++ own.batcher.spans)
  all_left key =
      let whole = ap (λ (us : List (Batch ℕ)). count key (spans_of us ++ own.batcher.spans)) us_is in
      let both = count-append key (u.spans ++ spans_of rest) own.batcher.spans in
      let first = count-append key u.spans (spans_of rest) in
      let last = count-append key (spans_of rest) own.batcher.spans in
      omega (arith, whole, both, first, last)

  same_rest : (keys : List ℕ) → AreAmong keys (spans_of rest) → ShowSame keys p q
  same_rest keys among =
      let front : AreAmong keys (spans_of rest ++ own.batcher.spans) = λ key. let few = among key in let both = count-append key (spans_of rest) own.batcher.spans in omega (arith, few, both) in
      ap (λ (v : View TraceNote). v.pending) (leaves_shown (counts_in own) (spans_of own.unsent ++ own.batcher.spans) (spans_of rest ++ own.batcher.spans) [] keys all_left sound front)

  queue_is : sender.queue ++ unsent_at q rest ≡ own.sender.queue ++ unsent_at p own.unsent
  queue_is =
      let x = as_sent (batch_at p u) in
      ap (λ (s : SenderData). s.queue ++ unsent_at q rest) sender_is
      ∙ (append_assoc own.sender.queue (x ∷ []) (unsent_at q rest)
      ∙ (ap (λ (bs : List BatchData). own.sender.queue ++ (x ∷ bs)) (unsent_same rest p q same_rest)
      ∙ ap (λ (us : List (Batch ℕ)). own.sender.queue ++ unsent_at p us) (sym us_is)))

  whole_is : all_written new q ≡ all_written own p
  whole_is =
      ap (λ (s : SenderData). let y : Pipeline = record own { sender = record s { queue = sender.queue ++ unsent_at q rest }; unsent = [] } in y) sender_is
      ∙ ap (λ (bs : List BatchData). let y : Pipeline = record own { sender = record (own.sender) { queue = bs }; unsent = [] } in y) queue_is

  shows_is : view_in own q ≡ view_in own p
  shows_is =
      let back : AreAmong own.batcher.spans (spans_of rest ++ own.batcher.spans) = λ key. let both = count-append key (spans_of rest) own.batcher.spans in omega (arith, both) in
      leaves_shown (counts_in own) (spans_of own.unsent ++ own.batcher.spans) (spans_of rest ++ own.batcher.spans) [] own.batcher.spans all_left sound back

  holds_then : (reached : ℕ) → PipelineInvariantAt reached (spans_of own.unsent) [] (all_written own p) p → PipelineInvariantAt reached (spans_of rest) [] (all_written new q) q
  holds_then reached holds =
      let sound' = leaves (counts_in own) (spans_of own.unsent ++ own.batcher.spans) (spans_of rest ++ own.batcher.spans) [] all_left holds.sound in
      subst (λ (o : Pipeline). PipelineInvariantAt reached (spans_of rest) [] o q) (sym whole_is)
      (held_over reached own.rows.swept (spans_of own.unsent) (spans_of rest) [] [] (all_written own p) p q holds sound' shows_is)

  pub written_ahead : IsAhead own new p q
  written_ahead = record {
    whole = whole_is;
    shows = shows_is;
    holds = holds_then;
    same = refl;
    more = let longer = ap (λ (s : SenderData). length s.queue) sender_is in let both = length-append own.sender.queue (as_sent (batch_at p u) ∷ []) in omega (arith, longer, both);
    few = let longer = ap (λ (s : SenderData). length s.queue) sender_is in let both = length-append own.sender.queue (as_sent (batch_at p u) ∷ []) in omega (arith, longer, both, short);
  }

-- ---- steps

module _ (own : Pipeline) (p : Part TraceNote) (moment : ℕ) (inv : PipelineInvariantBy own p) (some : 0 < length own.unsent) (later : own.clock ≤ moment) (fits : moment ≤ 2 ^ 62) where
  pub drained_is : IsDrained own
  drained_is = behind_is own.unsent own some inv.behind

  whole_at : PipelineInvariantAt moment (spans_of own.unsent) [] (all_written own p) p
  whole_at = at_any (all_written own p) p drained_is.decided drained_is.fired_is own.clock moment (spans_of own.unsent) [] later fits inv.whole

  quiet : is_due (next_timer (state_of own p)) moment ≡ false
  quiet = none_due (all_written own p) p drained_is.decided drained_is.fired_is moment

  -- nothing changes
  pub stays : PipelineInvariantFrom moment own p
  stays = record { whole = whole_at; behind = inv.behind }

  -- no timer runs
  pub none_runs : all_run moment (state_of own p) ≡ state_of own p
  none_runs = ran_none (enough (state_of own p)) moment (state_of own p) quiet

  -- nor does one of what is written
  pub none_runs_written : all_run moment (written_state_of own p) ≡ written_state_of own p
  none_runs_written = ran_none (enough (written_state_of own p)) moment (written_state_of own p) (none_due own p drained_is.decided drained_is.fired_is moment)

  -- a back end answers
  pub answers : (now ticket word : ℕ) (given : AnswerData) (new : Pipeline) → Sends (settled ticket moment word given) own new → Stepped (Answer now ticket word given) moment own new p p
  answers now ticket word given new sends =
      let us = own.unsent in
      let sends' : Sends (settled ticket moment word given) (all_written own p) (written_with us p new) =
      sends_behind (unsent_at p us) (settled ticket moment word given) own new (λ s is. settled_behind (unsent_at p us) ticket moment word given s) sends in
      let sent = answer_sent now moment (spans_of us) (all_written own p) (written_with us p new) p whole_at quiet ticket word given sends' in
      let unsent_is : new.unsent ≡ us = ap (λ (x : Pipeline). x.unsent) sends.same in
      let queue : length (answered ticket moment word given own.sender).queue ≡ length new.sender.queue = ap (λ (t : State). length t.sender.queue) (sends.rules (written_state_of own p) refl refl) in
      let kept = ap (λ (q : List BatchData). length q) (answered_queue ticket moment word given own.sender) in
      let first = drained_is.some in
      record {
        change = subst (λ (vs : List (Batch ℕ)). ActsAt moment (acts moment (Answer now ticket word given)) (state_of own p) (written_state_of (written_with vs p new) p)) (sym unsent_is) sent.change;
        holds = record {
          whole = subst (λ (vs : List (Batch ℕ)). PipelineInvariantAt moment (spans_of vs) [] (written_with vs p new) p) (sym unsent_is) sent.holds;
          behind = is_behind new.unsent new (λ more. omega (arith, queue, kept, first)) (ap (λ (x : Pipeline). x.drained) sends.same ∙ drained_is.drained)
              (ap (λ (x : Pipeline). x.rows.decided) sends.same ∙ (drained_is.decided ∙ sym (ap (λ (x : Pipeline). x.rows.opened) sends.same)))
              (ap (λ (x : Pipeline). x.batcher) sends.same ∙ (drained_is.fired_is ∙ sym (ap (λ (x : Pipeline). fired x.batcher) sends.same)));
        };
      }

  -- what holds once a batch is written
  module _ (mid : Pipeline) (q : Part TraceNote) (ahead : IsAhead own mid p q) where
    mid_some : 0 < length mid.sender.queue
    mid_some = let first = drained_is.some in let more = ahead.more in omega (arith, first, more)

    mid_drained : mid.drained ≡ true
    mid_drained = ap (λ (x : Pipeline). x.drained) ahead.same ∙ drained_is.drained

    mid_decided : mid.rows.decided ≡ mid.rows.opened
    mid_decided = ap (λ (x : Pipeline). x.rows.decided) ahead.same ∙ (drained_is.decided ∙ sym (ap (λ (x : Pipeline). x.rows.opened) ahead.same))

    mid_fired : mid.batcher ≡ fired mid.batcher
    mid_fired = ap (λ (x : Pipeline). x.batcher) ahead.same ∙ (drained_is.fired_is ∙ sym (ap (λ (x : Pipeline). fired x.batcher) ahead.same))

    pub ahead_holds : PipelineInvariantBy mid q
    ahead_holds =
        let clock : mid.clock ≡ own.clock = ap (λ (x : Pipeline). x.clock) ahead.same in
        record {
          whole = subst (λ (c : ℕ). PipelineInvariantAt c (spans_of mid.unsent) [] (all_written mid q) q) (sym clock) (ahead.holds own.clock inv.whole);
          behind = is_behind mid.unsent mid (λ more. mid_some) mid_drained mid_decided mid_fired;
        }

    -- and then a job is handed out
    pub hands_out : (now : ℕ) (new : Pipeline) → Sends (turned moment) mid new → (0 < length new.unsent → 0 < length new.sender.queue) → Stepped (Turn now) moment own new p q
    hands_out now new sends first =
        let us = mid.unsent in
        let state : state_of mid q ≡ state_of own p = state_ahead own mid p q ahead in
        let quiet' : is_due (next_timer (state_of mid q)) moment ≡ false = ap (λ (s : State). is_due (next_timer s) moment) state ∙ quiet in
        let sends' : Sends (turned moment) (all_written mid q) (written_with us q new) =
        sends_behind (unsent_at q us) (turned moment) mid new
        (λ s is. turned_behind (unsent_at q us) moment s (let queue = ap (λ (x : SenderData). length x.queue) is in let one = mid_some in omega (arith, queue, one))) sends in
        let sent = turn_sent now moment (spans_of us) (all_written mid q) (written_with us q new) q (ahead.holds moment whole_at) quiet' sends' in
        let unsent_is : new.unsent ≡ us = ap (λ (x : Pipeline). x.unsent) sends.same in
        let change : ActsAt moment (acts moment (Turn now)) (state_of own p) (written_state_of (written_with us q new) q) =
        subst (λ (s : State). ActsAt moment (acts moment (Turn now)) s (written_state_of (written_with us q new) q)) state sent.change in
        record {
          change = subst (λ (vs : List (Batch ℕ)). ActsAt moment (acts moment (Turn now)) (state_of own p) (written_state_of (written_with vs q new) q)) (sym unsent_is) change;
          holds = record {
            whole = subst (λ (vs : List (Batch ℕ)). PipelineInvariantAt moment (spans_of vs) [] (written_with vs q new) q) (sym unsent_is) sent.holds;
            behind = is_behind new.unsent new first (ap (λ (x : Pipeline). x.drained) sends.same ∙ mid_drained)
                (ap (λ (x : Pipeline). x.rows.decided) sends.same ∙ (mid_decided ∙ sym (ap (λ (x : Pipeline). x.rows.opened) sends.same)))
                (ap (λ (x : Pipeline). x.batcher) sends.same ∙ (mid_fired ∙ sym (ap (λ (x : Pipeline). fired x.batcher) sends.same)));
          };
        }
