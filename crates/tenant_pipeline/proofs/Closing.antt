-- The end of a tenant over the stores: its state afterwards, and what always holds of it.
use Rattle.std.proofs.Common.{◌≡◌, ◌+◌, ◌++◌, ◌∙◌, ℕ, List, [], ◌∷◌, length, map, refl, sym, ap, subst, arith, append-nil, ◌≤◌, ◌<◌, Bool, true, false, cond, Option, None, Some}
use Rattle.std.specs.List.{AllByRecursion}
use Rattle.std.proofs.lemmas.List.{map-append}
use Rattle.span_batcher.specs.State as batcher
use Rattle.span_batcher.specs.Machine.{fired}
use Rattle.tail_policy.specs.declared.note.TraceNote.{TraceNote}
use Rattle.tail_settings.specs.Policy.{PolicyData}
use Rattle.tenant_stores.specs.declared.stores.Stores.{Stores}
use Rattle.tenant_stores.specs.Part.{Part, part}
use Rattle.tenant_stores.specs.Counts.{Counts, count, in_table, waiting_numbers}
use Rattle.tenant_stores.specs.Invariant.{StoreInvariant, named_keys}
use Rattle.tenant_stores.specs.Shows.{AreAmong}
use Rattle.tenant_stores.specs.View.{WaitingRow, View, keys_in, view}
use Rattle.tenant_stores.proofs.Keys.{keys_are_shown}
use Rattle.tenant_stores.proofs.Lists.{count-append}
use Rattle.tenant_stores.proofs.Shown.{waiting_keys}
use Rattle.trace_rows.specs.declared.table.Row.{Row}
use Rattle.trace_rows.specs.Part.{keys_of}
use Rattle.tail_policy.specs.Note.{verdict_of}
use Rattle.span_batcher.specs.Batches.{Batch}
use Rattle.span_batcher.specs.Maps.{spans_of}
use Rattle.tenant_rules.specs.Fate.{SettledData, WaitingData}
use Rattle.tenant_rules.specs.Fronts.{decided_rows, AreInOrder, AllDueBy}
use Rattle.tenant_rules.specs.Limits.{IsWithinLimits}
use Rattle.tenant_rules.specs.Machine.{emptied}
use Rattle.tenant_rules.specs.State.{State}
use Rattle.tenant_rules.specs.Sum.{IsCounted}
use Rattle.tenant_rules.proofs.Limits.{ends_stay_within}
use Rattle.tenant_rules.proofs.Sums.{Kept, fixed_of, kept_of, counted_of, emptied_kept}
use Rattle.tenant_pipeline.specs.declared.pipeline.Pipeline.{Pipeline}
use Rattle.tenant_pipeline.specs.Acts.{at, ActsAt}
use Rattle.tenant_pipeline.specs.Drains.{SendsAll, all_settled, keys_if, sampled_keys, closed_state}
use Rattle.tenant_pipeline.specs.Invariant.{IsNoted, PipelineInvariantAt, PipelineInvariantFrom}
use Rattle.tenant_pipeline.specs.StateIn.{all_written, arrivals_of, counts_in, policies_of, settled_of, waiting_of, part_in, state_by, state_of, unsent_at, view_in, with_behind, written_state_of, written_with}
use Rattle.tenant_pipeline.proofs.Timing.{verdict_is}
use Rattle.tenant_pipeline.proofs.Behind.{is_behind}
use Rattle.tenant_pipeline.proofs.Stepping.{within_with}
use Rattle.tenant_pipeline.proofs.Unwritten.{ShowSame, some_same, unsent_same}

-- ---- verdicts

-- notes say what the spans say
settled_are : (policies : List PolicyData) (rows : List (WaitingRow TraceNote)) → AllByRecursion (IsNoted policies) rows →
    map settled_of (all_settled policies rows) ≡ decided_rows policies (map waiting_of rows)
settled_are policies [] noted = refl
settled_are policies (row ∷ rows) noted =
    let verdict = verdict_is policies row.note (arrivals_of row.spans) noted.0 in
    let rest = settled_are policies rows noted.1 in
    λ i. record { trace = row.trace; sampled = verdict i } ∷ rest i

-- ---- the end

-- what is known of a state is known of it at another moment
counted_at : (moment : ℕ) (s : State) → IsCounted (at moment s) → IsCounted s
counted_at moment s c = record {
  sound = c.sound;
  undecided_is = c.undecided_is;
  pending_is = c.pending_is;
  queued_is = c.queued_is;
  active_is = c.active_is;
  within_budget = c.within_budget;
}

at_counted : (moment : ℕ) (s : State) → IsCounted s → IsCounted (at moment s)
at_counted moment s c = record {
  sound = c.sound;
  undecided_is = c.undecided_is;
  pending_is = c.pending_is;
  queued_is = c.queued_is;
  active_is = c.active_is;
  within_budget = c.within_budget;
}

-- the state, and what holds while spans at these keys are still stored
pub record Closed (moment : ℕ) (gone : List ℕ) (own new : Pipeline) (p q : Part TraceNote) : Type 0 where
  pub state : ActsAt moment (emptied moment) (written_state_of own p) (written_state_of new q)
  pub held : PipelineInvariantAt moment gone [] new q

module _ (own mid : Pipeline) (p q : Part TraceNote) (moment : ℕ) (gone : List ℕ) (held : PipelineInvariantAt moment [] [] own p) (first : own.drained ≡ true) (sends : SendsAll moment p own mid)
    (shows : view (record (counts_in own) { decided = own.rows.opened }) [] q ≡ record {
      settled = (view_in own p).settled ++ all_settled (policies_of own) (view_in own p).waiting;
      waiting = [];
      pending = [];
    })
    (sound : StoreInvariant (record (counts_in own) { decided = own.rows.opened }) gone [] q) where
  abbrev s : State
  s = written_state_of own p

  abbrev new : Pipeline
  new = record own {
    rows = record own.rows { decided = own.rows.opened };
    batcher = fired mid.batcher;
    sender = mid.sender;
    ledger = mid.ledger;
  }

  settled_all : map settled_of ((view_in own p).settled ++ all_settled (policies_of own) (view_in own p).waiting) ≡ s.settled ++ decided_rows (policies_of own) s.waiting
  settled_all =
      map-append settled_of (view_in own p).settled (all_settled (policies_of own) (view_in own p).waiting)
      ∙ ap (λ (rs : List SettledData). s.settled ++ rs) (settled_are (policies_of own) (view_in own p).waiting held.noted)

  state_is : at moment (written_state_of new q) ≡ closed_state moment s mid
  state_is =
      ap (λ (v : View TraceNote). at moment (state_by new v)) shows
      ∙ (λ i. record (at moment s) {
        drained = first i;
        settled = settled_all i;
        waiting = [];
        pending = record { rules = sends.rules_are i; start = None; spans = [] };
        sender = mid.sender;
        ledger = mid.ledger;
      })

  kept : Kept (fixed_of s) 0 0 (closed_state moment s mid)
  kept = subst (λ (t : State). Kept (fixed_of s) 0 0 t) sends.rules (emptied_kept (fixed_of s) moment (at moment s) (kept_of (at moment s) (at_counted moment s held.counted)))

  counted : IsCounted (written_state_of new q)
  counted = counted_at moment (written_state_of new q)
      (subst (λ (t : State). IsCounted t) (sym state_is) (counted_of (fixed_of s) (closed_state moment s mid) kept held.counted.sound.few))

  within : IsWithinLimits (written_state_of new q)
  within =
      let was : IsWithinLimits (at moment s) = within_with s.clock moment s held.within in
      let limits : IsWithinLimits (closed_state moment s mid) = subst IsWithinLimits sends.rules (ends_stay_within moment (at moment s) first was) in
      within_with moment (written_state_of new q).clock (written_state_of new q) (subst IsWithinLimits (sym state_is) limits)

  pub closed_by : Closed moment gone own new p q
  closed_by =
      let waiting : (written_state_of new q).waiting ≡ [] = ap (λ (t : State). t.waiting) state_is in
      let left : (view_in new q).waiting ≡ [] = ap (λ (v : View TraceNote). v.waiting) shows in
      record {
        state = state_is ∙ sym sends.rules;
        held = record {
          sound = subst (λ (keys : List ℕ). StoreInvariant (counts_in new) keys [] q) (sym (append-nil gone)) sound;
          first_is = held.first_is;
          noted = subst (λ (rs : List (WaitingRow TraceNote)). AllByRecursion (IsNoted (policies_of own)) rs) (sym left) tt;
          rules_are = sends.rules_are ∙ held.rules_are;
          order = subst (λ (rs : List WaitingData). AreInOrder moment rs) (sym waiting) tt;
          due_by = subst (λ (rs : List WaitingData). AllDueBy (moment + own.section.tail_sampling.decision_wait) rs) (sym waiting) tt;
          timer = tt;
          counted = counted;
          within = within;
          few = let a = kept.accepted_is in let few = held.few in omega (arith, a, few);
          clock_by = held.clock_by;
          reached_fits = held.reached_fits;
          unsent_is = held.unsent_is;
        };
      }

-- ---- over the stores

-- the tenant then, by the rules
pub record Ended (moment : ℕ) (own new : Pipeline) (p q : Part TraceNote) : Type 0 where
  pub state : ActsAt moment (emptied moment) (written_state_of own p) (state_of new q)
  pub held : PipelineInvariantFrom moment new q

-- batches that aren't written stand behind those that are, and nothing else differs
pub mid_as : (own mid : Pipeline) (us : List (Batch ℕ)) (p : Part TraceNote) → written_with us p mid ≡ record own { batcher = mid.batcher; sender = (written_with us p mid).sender; ledger = mid.ledger } →
    mid ≡ record own { batcher = mid.batcher; sender = mid.sender; ledger = mid.ledger; unsent = mid.unsent }
mid_as own mid us p same = ap (λ (x : Pipeline). let y : Pipeline = record x { sender = mid.sender; unsent = mid.unsent } in y) same

-- keys of sampled rows are theirs
sampled_few : (policies : List PolicyData) (rows : ℕ → Option (Row TraceNote)) (numbers : List ℕ) (key : ℕ) → count key (sampled_keys policies rows numbers) ≤ count key (keys_in rows numbers)
sampled_few policies rows [] key = omega arith
sampled_few policies rows (number ∷ numbers) key =
    let rest = sampled_few policies rows numbers key in
    let here = by_row (rows number) in
    let all = count-append key (keys_if policies (rows number)) (sampled_keys policies rows numbers) in
    let both = count-append key (keys_of (rows number)) (keys_in rows numbers) in
    omega (arith, rest, here, all, both)
  where
    by_verdict : (b : Bool) (keys : List ℕ) → count key (cond b keys []) ≤ count key keys
    by_verdict true keys = omega arith
    by_verdict false keys = omega arith

    by_row : (o : Option (Row TraceNote)) → count key (keys_if policies o) ≤ count key (keys_of o)
    by_row None = omega arith
    by_row (Some row) = by_verdict (verdict_of policies row.note) row.keys

-- the rows have their verdicts in the stores, and the spans leave them whose batches were dropped or written
module _ (own mid end : Pipeline) (b : batcher.State ℕ) (stores decided last : Stores TraceNote) (gone : List ℕ) (us : List (Batch ℕ)) (moment : ℕ)
    (held : PipelineInvariantAt moment [] [] own (part_in own stores)) (first : own.drained ≡ true) (sends : SendsAll moment (part_in own stores) own (written_with us (part_in own stores) mid)) (b_is : b ≡ fired mid.batcher)
    (behind : 0 < length us → 0 < length mid.sender.queue)
    (end_is : end ≡ record mid { batcher = b; rows = record mid.rows { decided = mid.rows.opened } })
    (keys : (key : ℕ) → count key gone + count key (spans_of us) ≡ count key own.batcher.spans + count key (sampled_keys (policies_of own) (part_in own stores).rows (waiting_numbers (counts_in own))))
    (settles : (pending : List ℕ) → StoreInvariant (counts_in mid) pending [] (part_in mid stores)
    → StoreInvariant (counts_in end) (pending ++ sampled_keys (policies_of mid) (part_in mid stores).rows (waiting_numbers (counts_in mid))) [] (part_in end decided))
    (shows : view (counts_in end) [] (part_in end decided) ≡ record {
      settled = (view (counts_in mid) [] (part_in mid stores)).settled ++ all_settled (policies_of mid) (view (counts_in mid) [] (part_in mid stores)).waiting;
      waiting = [];
      pending = [];
    })
    (alike : (pending : List ℕ) → StoreInvariant (counts_in mid) pending [] (part_in mid stores)
    → ShowSame (pending ++ sampled_keys (policies_of mid) (part_in mid stores).rows (waiting_numbers (counts_in mid))) (part_in mid stores) (part_in end decided))
    (leaves : (n : Counts) (pending left held : List ℕ) → ((key : ℕ) → count key gone + count key left ≡ count key pending)
    → StoreInvariant n pending held (part end.tenant decided) → StoreInvariant n left held (part end.tenant last))
    (leaves_shown : (n : Counts) (pending left held shown : List ℕ) → ((key : ℕ) → count key gone + count key left ≡ count key pending)
    → StoreInvariant n pending held (part end.tenant decided) → AreAmong shown left → view n shown (part end.tenant last) ≡ view n shown (part end.tenant decided)) where
  abbrev p : Part TraceNote
  p = part_in own stores

  abbrev sampled : List ℕ
  sampled = sampled_keys (policies_of own) p.rows (waiting_numbers (counts_in own))

  abbrev whole : List ℕ
  whole = own.batcher.spans ++ sampled

  abbrev counts : Counts
  counts = record (counts_in own) { decided = own.rows.opened }

  abbrev ended : Pipeline
  ended = record own {
    rows = record own.rows { decided = own.rows.opened };
    batcher = fired mid.batcher;
    sender = mid.sender;
    ledger = mid.ledger;
    unsent = mid.unsent;
  }

  mid_is : mid ≡ record own { batcher = mid.batcher; sender = mid.sender; ledger = mid.ledger; unsent = mid.unsent }
  mid_is = mid_as own mid us p sends.same

  ended_is : end ≡ ended
  ended_is =
      end_is
      ∙ (ap (λ (s : batcher.State ℕ). let y : Pipeline = record mid { batcher = s; rows = record mid.rows { decided = mid.rows.opened } } in y) b_is
      ∙ ap (λ (x : Pipeline). let y : Pipeline = record x { batcher = fired x.batcher; rows = record x.rows { decided = x.rows.opened } } in y) mid_is)

  all_gone : (key : ℕ) → count key gone + count key (spans_of us) ≡ count key whole
  all_gone key =
      let is = keys key in
      let both = count-append key own.batcher.spans sampled in
      omega (arith, is, both)

  decided_sound : StoreInvariant counts whole [] (part own.tenant decided)
  decided_sound =
      let settles' : StoreInvariant (counts_in own) own.batcher.spans [] p → StoreInvariant (counts_in end) whole [] (part_in end decided) =
      subst (λ (x : Pipeline). StoreInvariant (counts_in x) own.batcher.spans [] (part_in x stores)
      → StoreInvariant (counts_in end) (own.batcher.spans ++ sampled_keys (policies_of x) (part_in x stores).rows (waiting_numbers (counts_in x))) [] (part_in end decided)) mid_is (settles own.batcher.spans) in
      subst (λ (x : Pipeline). StoreInvariant (counts_in x) whole [] (part_in x decided)) ended_is (settles' held.sound)

  decided_shows : view counts [] (part own.tenant decided) ≡ record {
    settled = (view_in own p).settled ++ all_settled (policies_of own) (view_in own p).waiting;
    waiting = [];
    pending = [];
  }
  decided_shows =
      let shows' : view (counts_in end) [] (part_in end decided) ≡ record {
        settled = (view_in own p).settled ++ all_settled (policies_of own) (view_in own p).waiting;
        waiting = [];
        pending = [];
      } = subst (λ (x : Pipeline). view (counts_in end) [] (part_in end decided) ≡ record {
        settled = (view (counts_in x) [] (part_in x stores)).settled ++ all_settled (policies_of x) (view (counts_in x) [] (part_in x stores)).waiting;
        waiting = [];
        pending = [];
      }) mid_is shows in
      subst (λ (x : Pipeline). view (counts_in x) [] (part_in x decided) ≡ record {
        settled = (view_in own p).settled ++ all_settled (policies_of own) (view_in own p).waiting;
        waiting = [];
        pending = [];
      }) ended_is shows'

  decided_same : ShowSame whole p (part own.tenant decided)
  decided_same =
      let alike' : StoreInvariant (counts_in own) own.batcher.spans [] p → ShowSame whole p (part_in end decided) =
      subst (λ (x : Pipeline). StoreInvariant (counts_in x) own.batcher.spans [] (part_in x stores)
      → ShowSame (own.batcher.spans ++ sampled_keys (policies_of x) (part_in x stores).rows (waiting_numbers (counts_in x))) (part_in x stores) (part_in end decided)) mid_is (alike own.batcher.spans) in
      subst (λ (x : Pipeline). ShowSame whole p (part_in x decided)) ended_is (alike' held.sound)

  tenant : end.tenant ≡ own.tenant
  tenant = ap (λ (x : Pipeline). x.tenant) ended_is

  left_sound : StoreInvariant counts (spans_of us) [] (part own.tenant last)
  left_sound =
      subst (λ (t : ℕ). StoreInvariant counts whole [] (part t decided) → StoreInvariant counts (spans_of us) [] (part t last)) tenant (leaves counts whole (spans_of us) [] all_gone) decided_sound

  left_shown : (shown : List ℕ) → AreAmong shown (spans_of us) → view counts shown (part own.tenant last) ≡ view counts shown (part own.tenant decided)
  left_shown shown among =
      subst (λ (t : ℕ). StoreInvariant counts whole [] (part t decided) → view counts shown (part t last) ≡ view counts shown (part t decided)) tenant
      (λ sound. leaves_shown counts whole (spans_of us) [] shown all_gone sound among) decided_sound

  -- each key is named before
  whole_named : AreAmong whole (named_keys (counts_in own) own.batcher.spans p)
  whole_named key =
      let few = sampled_few (policies_of own) p.rows (waiting_numbers (counts_in own)) key in
      let waits = waiting_keys (counts_in own) p.rows key held.sound.order in
      let both = count-append key own.batcher.spans sampled in
      let named = count-append key (keys_in p.rows (in_table (counts_in own))) own.batcher.spans in
      omega (arith, few, waits, both, named)

  -- the spans that are left show what they did
  left_same : (shown : List ℕ) → AreAmong shown (spans_of us) → ShowSame shown p (part own.tenant last)
  left_same shown among =
      let q = part own.tenant decided in
      let old = keys_are_shown TraceNote (counts_in own) own.batcher.spans [] p held.sound in
      let new = keys_are_shown TraceNote counts whole [] q decided_sound in
      let in_whole : AreAmong shown whole = λ key. let few = among key in let all = all_gone key in omega (arith, few, all) in
      let rest : ShowSame shown p q = some_same whole p q
      (λ ks few. old.each ks (λ key. let a = few key in let b = whole_named key in omega (arith, a, b)))
      (λ ks few. new.each ks (λ key. let a = few key in let b = new.waits key in omega (arith, a, b))) decided_same shown in_whole in
      ap (λ (v : View TraceNote). v.pending) (left_shown shown among) ∙ rest

  sent_same : unsent_at (part own.tenant last) us ≡ unsent_at p us
  sent_same = unsent_same us p (part own.tenant last) left_same

  pub ends : Ended moment own (record end { unsent = us }) p (part_in end last)
  ends =
      let q = part own.tenant last in
      let sent = written_with us p mid in
      let now : Pipeline = record own {
        rows = record own.rows { decided = own.rows.opened };
        batcher = fired sent.batcher;
        sender = sent.sender;
        ledger = sent.ledger;
      } in
      let new : Pipeline = record ended { unsent = us } in
      let closed : Closed moment (spans_of us) own now p q =
      closed_by own sent p q moment (spans_of us) held first sends (left_shown [] (λ key. omega arith) ∙ decided_shows) left_sound in
      let now_is : now ≡ all_written new q = λ i. record now { sender = with_behind (sym sent_same i) mid.sender; unsent = held.unsent_is i } in
      let done : Ended moment own new p q = record {
        state = subst (λ (o : Pipeline). ActsAt moment (emptied moment) (written_state_of own p) (written_state_of o q)) now_is closed.state;
        held = record {
          whole = subst (λ (o : Pipeline). PipelineInvariantAt moment (spans_of us) [] o q) now_is closed.held;
          behind = is_behind us new behind first refl refl;
        };
      } in
      subst (λ (x : Pipeline). Ended moment own (record x { unsent = us }) p (part_in x last)) (sym ended_is) done
