-- What a tenant is after one more span that was taken: the definitions over all spans, and what the machine does with
-- the span, come to the same state.
use Rattle.std.proofs.Common.{◌≡◌, ℕ, ◌+◌, ◌-◌, ◌<◌, ◌≤◌, List, [], ◌∷◌, ◌++◌, length, map, drop, refl, sym, subst, ap, ◌∙◌, arith, append_assoc, append-nil, length-append, Bool, true, false, cond, leb, ltb, ◌||◌, not, Option, Some, None}
use Rattle.std.proofs.lemmas.Bool.Decides.{nat_tests}
use Rattle.std.proofs.lemmas.List.{map-append}
use Rattle.tail_settings.specs.Section.{SectionData}
use Rattle.span_pool.specs.Stored.{same_bytes}
use Rattle.drop_ledger.specs.declared.places.Place.TheVariants.{Undecided, Pending, NotSampled, TooEarly}
use Rattle.drop_ledger.specs.declared.places.Places.{Places}
use Rattle.drop_ledger.specs.Ledger.{LedgerData, taken, moved}
use Rattle.span_batcher.specs.Batches.{AreValidRules, Group, batches}
use Rattle.span_batcher.specs.State as batcher
use Rattle.span_batcher.specs.Machine.{cuts, uncut, added}
use Rattle.tenant_rules.specs.Arrivals.{Arrival, trace_of}
use Rattle.tenant_rules.specs.Rows.{Taken, Opened, RowOpening, SpanInRow, Hit, SpanPlacement, InRow, CacheHit, in_rows, present_row}
use Rattle.tenant_rules.specs.Fate.{most_of, is_sampled, SettledData, WaitingData, settled, waiting, dropped, late_dropped, too_early}
use Rattle.tenant_rules.specs.Decisions.{by_moment}
use Rattle.decision_cache.specs.Caches.{BothData, noted_in}
use Rattle.tenant_rules.specs.Events.{decisions, caches_of}
use Rattle.tenant_rules.specs.Placement.{known, placement, opened, placements, spans_in_rows}
use Rattle.tenant_rules.specs.Groups.{decided, cut_short, late, groups_of, groups}
use Rattle.tenant_rules.specs.Sender.{BatchData, SenderData, sizes, active_sizes}
use Rattle.tenant_rules.specs.Batching.{rules_of, as_sent, all_sent, formed, pending, waiting_rows, spans_in}
use Rattle.tenant_rules.specs.Intake.{IntakeData}
use Rattle.tenant_rules.specs.Sending.{EndedData, all_offered, overflow, met_no_room}
use Rattle.tenant_rules.specs.State.{State, ended_places, not_sampled, ledger_at}
use Rattle.tenant_rules.specs.Timers.{recount, all_queued, remembered}
use Rattle.tenant_rules.specs.Machine.{has_row, sampled_in, joined, evict_waiting, evict_first, evicted, opens, joins, cached_or_opens, late_or_opens, goes, counted_in}
use Rattle.tenant_rules.proofs.Order.{AllUpTo-append, by_moment-push}
use Rattle.tenant_rules.proofs.Times.{TakenBy, OpenedBy-opened, cut_none}
use Rattle.tenant_rules.proofs.Later.{AllUpTo-decided, AllUpTo-late, IsUpTo-groups}
use Rattle.tenant_rules.proofs.Events.{caches_same, caches_hit, found_is}
use Rattle.tenant_rules.proofs.Fronts.{all_queued-is}
use Rattle.tenant_rules.proofs.Tally.{set_counts, cut_sizes, queued_tally}
use Rattle.tenant_rules.proofs.Elapsed.{state_with, ended_met}
use Rattle.tenant_rules.proofs.Closing.{one_more}
use Rattle.tenant_rules.proofs.Lookups.{waits_at, sampled_at, waiting_found, settled_found}
use Rattle.tenant_rules.proofs.Rooms.{rest_of, room_left, room_made}
use Rattle.tenant_rules.proofs.Coming.{SeatedUpTo-seated, over_of, settled_same, waiting_same, decided_same, decisions_same, dropped_same, early_same, same_late, same_join, waiting_joined, early_joined, seat_found, opened_some, placed_some, opened_hit, placed_hit, opened_none, placed_none}
use Rattle.tenant_rules.proofs.Opening.{first_of, row_of, settled_first, waiting_first, decided_first, decisions_first, dropped_first, late_first, late_dropped_first, spans_append, early_first}

-- ---- the counters

-- counters of so many taken spans, so many of them of evicted rows
abbrev pub based : LedgerData → ℕ → ℕ → LedgerData
based l accepted early = record l { accepted = accepted; places = record l.places { too_early = early } }

based_same : (l : LedgerData) (c c' t t' u u' p p' q x n n' f f' : ℕ) → c ≡ c' → t ≡ t' → u ≡ u' → p ≡ p' → n ≡ n' → f ≡ f' → set_counts (based l c t) u p q x n f ≡ set_counts (based l c' t') u' p' q x n' f'
based_same l c c' t t' u u' p p' q x n n' f f' e1 e2 e3 e4 e5 e6 = cc (e1, e2, e3, e4, e5, e6)

-- of other spans, from those of these
counts_came : (w : SectionData) (i : IntakeData) (B : List Taken) (e : ℕ) (D D' : SenderData) (P : Places) (f : ℕ) →
    ledger_at w (record i { spans = B }) e None D' (record P { queue_full = f })
    ≡ set_counts (based (ledger_at w i e None D P) (length B) (too_early w (spans_in_rows w B) (opened w B) (opened w B))) (spans_in (waiting_rows w e None B)) (length (pending w e None B).spans) (sizes D'.queue) (active_sizes D'.active) (not_sampled w e None B) f
unfolding ledger_at
counts_came w i B e D D' P f = refl

-- one more is counted, undecided at first
counted : (w : SectionData) (i : IntakeData) (e : ℕ) (D : SenderData) (es : List EndedData) →
    taken 1 (ledger_at w i e None D (ended_places es))
    ≡ set_counts (based (ledger_at w i e None D (ended_places es)) (length i.spans + 1) (too_early w (spans_in_rows w i.spans) (opened w i.spans) (opened w i.spans))) (spans_in (waiting_rows w e None i.spans) + 1) (length (pending w e None i.spans).spans) (sizes D.queue) (active_sizes D.active) (not_sampled w e None i.spans) (ended_places es).queue_full
unfolding ledger_at
counted w i e D es = refl

-- ---- the state, from its parts

parts_same : (s : State) (k k' : ℕ) (S S' : List SettledData) (W W' : List WaitingData) (P P' : batcher.State Arrival) (D : SenderData) (L L' : LedgerData) (K K' : BothData) → k ≡ k' → S ≡ S' → W ≡ W' → P ≡ P' → L ≡ L' → K ≡ K' →
    Path State (record s { opened = k; settled = S; waiting = W; caches = K; pending = P; sender = D; ledger = L }) (record s { opened = k'; settled = S'; waiting = W'; caches = K'; pending = P'; sender = D; ledger = L' })
parts_same s k k' S S' W W' P P' D L L' K K' e1 e2 e3 e4 e5 e6 = cc (e1, e2, e3, e4, e5, e6)

came_is : (w : SectionData) (i : IntakeData) (B : List Taken) (e : ℕ) (D : SenderData) (es : List EndedData) (new : List BatchData)
    (k : ℕ) (S : List SettledData) (W : List WaitingData) (P : batcher.State Arrival) (accepted early ns : ℕ) (L : LedgerData) (K : BothData) →
    length (opened w B) ≡ k → settled w e None (spans_in_rows w B) (length (opened w B)) (opened w B) ≡ S → waiting_rows w e None B ≡ W → pending w e None B ≡ P → caches_of w e None (placements w B) (opened w B) ≡ K →
    length B ≡ accepted → too_early w (spans_in_rows w B) (opened w B) (opened w B) ≡ early → not_sampled w e None B ≡ ns →
    L ≡ set_counts (based (ledger_at w i e None D (ended_places es)) accepted early) (spans_in W) (length P.spans) (sizes (all_offered new D).queue) (active_sizes (all_offered new D).active) ns ((ended_places es).queue_full + sizes (overflow new D)) →
    state_with w (record i { spans = B }) e None (all_offered new D) (map met_no_room (overflow new D) ++ es)
    ≡ record (state_with w i e None D es) { opened = k; settled = S; waiting = W; caches = K; pending = P; sender = all_offered new D; ledger = L }
came_is w i B e D es new k S W P accepted early ns L K opens settles waits pends remembers takes evicts drops counts =
    let l = ledger_at w i e None D (ended_places es) in
    let D' = all_offered new D in
    let f = (ended_places es).queue_full + sizes (overflow new D) in
    let now : ledger_at w (record i { spans = B }) e None D' (ended_places (map met_no_room (overflow new D) ++ es))
    ≡ set_counts (based l (length B) (too_early w (spans_in_rows w B) (opened w B) (opened w B))) (spans_in (waiting_rows w e None B)) (length (pending w e None B).spans) (sizes D'.queue) (active_sizes D'.active) (not_sampled w e None B) f =
    ap (λ (q : Places). ledger_at w (record i { spans = B }) e None D' q) (ended_met (overflow new D) es) ∙ counts_came w i B e D D' (ended_places es) f in
    let same = based_same l (length B) accepted _ early (spans_in (waiting_rows w e None B)) (spans_in W) (length (pending w e None B).spans) (length P.spans) (sizes D'.queue) (active_sizes D'.active) (not_sampled w e None B) ns f f
    takes evicts (ap spans_in waits) (ap (λ (q : batcher.State Arrival). length q.spans) pends) drops refl in
    let ledger_is : ledger_at w (record i { spans = B }) e None D' (ended_places (map met_no_room (overflow new D) ++ es)) ≡ L = now ∙ (same ∙ sym counts) in
    parts_same (state_with w i e None D es) (length (opened w B)) k _ S (waiting_rows w e None B) W (pending w e None B) P D' (ledger_at w (record i { spans = B }) e None D' (ended_places (map met_no_room (overflow new D) ++ es))) L (caches_of w e None (placements w B) (opened w B)) K opens settles waits pends ledger_is remembers

-- ---- groups and batches

-- a function of rows and spans in them
both : {S : Type 0} (C : Type 0) (f : S → List Opened → C) (N N' : S) (R R' : List Opened) → N ≡ N' → R ≡ R' → f N R ≡ f N' R'
both C f N N' R R' sits rows = ap (λ X. f X R) sits ∙ ap (λ (Y : List Opened). f N' Y) rows

groups_are : (w : SectionData) (e : ℕ) (B : List Taken) (Q : List SpanPlacement) (R : List Opened) → placements w B ≡ Q → opened w B ≡ R → groups w e None B ≡ by_moment (decided w e None (in_rows Q) R R ++ late w Q)
unfolding groups
groups_are w e B Q R spots rows =
    let none : late w Q ++ cut_short w e None (in_rows Q) R R ≡ late w Q = ap (λ (gs : List (Group Arrival)). late w Q ++ gs) (cut_none w e (in_rows Q) R R) ∙ append-nil (late w Q) in
    both (List (Group Arrival)) (λ X Y. groups_of w e None X Y) (placements w B) Q (opened w B) R spots rows ∙ ap (λ (gs : List (Group Arrival)). by_moment (decided w e None (in_rows Q) R R ++ gs)) none

groups_same : (w : SectionData) (e : ℕ) (A B : List Taken) (Q : List SpanPlacement) (R : List Opened) → placements w B ≡ Q → opened w B ≡ R →
    decided w e None (in_rows Q) R R ≡ decided w e None (spans_in_rows w A) (opened w A) (opened w A) → late w Q ≡ late w (placements w A) → groups w e None B ≡ groups w e None A
groups_same w e A B Q R spots rows decides lates =
    groups_are w e B Q R spots rows
    ∙ (ap (λ (gs : List (Group Arrival)). by_moment (gs ++ late w Q)) decides
    ∙ (ap (λ (gs : List (Group Arrival)). by_moment (decided w e None (spans_in_rows w A) (opened w A) (opened w A) ++ gs)) lates
    ∙ sym (groups_are w e A (placements w A) (opened w A) refl refl)))

groups_more : (w : SectionData) (e : ℕ) (A B : List Taken) (Q : List SpanPlacement) (R : List Opened) (g : Group Arrival) → TakenBy e A → g.moment ≡ e → placements w B ≡ Q → opened w B ≡ R →
    decided w e None (in_rows Q) R R ≡ decided w e None (spans_in_rows w A) (opened w A) (opened w A) → late w Q ≡ late w (placements w A) ++ g ∷ [] → groups w e None B ≡ groups w e None A ++ g ∷ []
groups_more w e A B Q R g by moment spots rows decides lates =
    let Q' = placements w A in
    let R' = opened w A in
    let X = decided w e None (in_rows Q') R' R' in
    let up = AllUpTo-append e X (late w Q') (AllUpTo-decided w e (in_rows Q') R' R') (AllUpTo-late w e A by) in
    groups_are w e B Q R spots rows
    ∙ (ap (λ (gs : List (Group Arrival)). by_moment (gs ++ late w Q)) decides
    ∙ (ap (λ (gs : List (Group Arrival)). by_moment (X ++ gs)) lates
    ∙ (ap by_moment (sym (append_assoc X (late w Q') (g ∷ [])))
    ∙ (by_moment-push (X ++ late w Q') g (rw moment up)
    ∙ ap (λ (gs : List (Group Arrival)). gs ++ g ∷ []) (sym (groups_are w e A Q' R' refl refl))))))

formed_same : (w : SectionData) (e : ℕ) (A B : List Taken) → groups w e None B ≡ groups w e None A → formed w e None B ≡ formed w e None A ++ []
unfolding formed
formed_same w e A B same = ap (λ (gs : List (Group Arrival)). all_sent (batches (rules_of w) e None gs)) same ∙ sym (append-nil (all_sent (batches (rules_of w) e None (groups w e None A))))

pending_same : (w : SectionData) (e : ℕ) (A B : List Taken) → groups w e None B ≡ groups w e None A → pending w e None B ≡ pending w e None A
unfolding pending
pending_same w e A B same = ap (batcher.state (rules_of w) e None) same

-- one group more, of one span
formed_more : (w : SectionData) (e : ℕ) (a : Arrival) (A B : List Taken) → AreValidRules (rules_of w) → TakenBy e A → groups w e None B ≡ groups w e None A ++ record { moment = e; spans = a ∷ [] } ∷ [] →
    formed w e None B ≡ formed w e None A ++ all_sent (cuts (pending w e None A).rules e ((pending w e None A).spans ++ a ∷ []))
unfolding formed pending
formed_more w e a A B sound by more =
    let G = groups w e None A in
    let s = batcher.state (rules_of w) e None G in
    let adds = one_more (rules_of w) e G (a ∷ []) (omega arith) sound (IsUpTo-groups w e A by) in
    ap (λ (gs : List (Group Arrival)). all_sent (batches (rules_of w) e None gs)) more
    ∙ (ap all_sent adds.0 ∙ map-append as_sent (batches (rules_of w) e None G) (cuts s.rules e (s.spans ++ a ∷ [])))

pending_more : (w : SectionData) (e : ℕ) (a : Arrival) (A B : List Taken) → AreValidRules (rules_of w) → TakenBy e A → groups w e None B ≡ groups w e None A ++ record { moment = e; spans = a ∷ [] } ∷ [] →
    pending w e None B ≡ added e (a ∷ []) (pending w e None A)
unfolding pending
pending_more w e a A B sound by more =
    let G = groups w e None A in
    let adds = one_more (rules_of w) e G (a ∷ []) (omega arith) sound (IsUpTo-groups w e A by) in
    ap (batcher.state (rules_of w) e None) more ∙ sym adds.1

-- the caches, where the span has a row and no row that is decided changes
seat_remembers : (w : SectionData) (e : ℕ) (A B : List Taken) (n : SpanInRow) (R : List Opened) → placements w B ≡ InRow n ∷ placements w A → opened w B ≡ R →
    ((v : Bool) → decisions w v e None (n ∷ spans_in_rows w A) R R ≡ decisions w v e None (spans_in_rows w A) (opened w A) (opened w A)) → caches_of w e None (placements w B) (opened w B) ≡ caches_of w e None (placements w A) (opened w A)
seat_remembers w e A B n R spots rows decides =
    both BothData (λ X Y. caches_of w e None X Y) (placements w B) (InRow n ∷ placements w A) (opened w B) R spots rows ∙ caches_same w e n (placements w A) R (opened w A) decides

-- ---- what the machine does with a span

goes_joins : (e : ℕ) (a : Arrival) (s : State) → has_row (trace_of a) s.waiting ≡ true → goes e a s ≡ joins a s
goes_joins e a s found = ap (λ (b : Bool). cond b (joins a s) (late_or_opens e a (sampled_in (trace_of a) s.settled) s)) found

goes_by : (e : ℕ) (a : Arrival) (s : State) (o : Option Bool) → has_row (trace_of a) s.waiting ≡ false → sampled_in (trace_of a) s.settled ≡ o → goes e a s ≡ late_or_opens e a o s
goes_by e a s o found is = ap (λ (b : Bool). cond b (joins a s) (late_or_opens e a (sampled_in (trace_of a) s.settled) s)) found ∙ ap (λ (q : Option Bool). late_or_opens e a q s) is

-- ---- one more span

abbrev pub more : ℕ → Arrival → List Taken → List Taken
more e a A = record { moment = e; arrival = a } ∷ A

-- with the batches that it fills, definitions and machine come to the same state
abbrev pub Came : SectionData → IntakeData → ℕ → SenderData → List EndedData → Arrival → Type 0
Came w i e D es a = (new : List BatchData) × (formed w e None (more e a i.spans) ≡ formed w e None i.spans ++ new)
    × (state_with w (record i { spans = more e a i.spans }) e None (all_offered new D) (map met_no_room (overflow new D) ++ es) ≡ goes e a (counted_in (state_with w i e None D es)))

one_taken : (e : ℕ) (a : Arrival) (A : List Taken) → length (more e a A) ≡ length A + 1
one_taken e a A = omega arith

-- ---- a late span

-- the state's parts, whatever becomes of the span
late_parts : (w : SectionData) (e : ℕ) (a : Arrival) (s : RowOpening) (A : List Taken) → present_row (most_of w) (trace_of a) (opened w A) ≡ Some s → s.opening + w.tail_sampling.decision_wait ≤ e →
    (length (opened w (more e a A)) ≡ length (opened w A))
    × (settled w e None (spans_in_rows w (more e a A)) (length (opened w (more e a A))) (opened w (more e a A)) ≡ settled w e None (spans_in_rows w A) (length (opened w A)) (opened w A))
    × (waiting_rows w e None (more e a A) ≡ waiting_rows w e None A)
    × (too_early w (spans_in_rows w (more e a A)) (opened w (more e a A)) (opened w (more e a A)) ≡ too_early w (spans_in_rows w A) (opened w A) (opened w A))
late_parts w e a s A is due =
    let B = more e a A in
    let R = opened w A in
    let Q = placements w A in
    let N = in_rows Q in
    let n : SpanInRow = record { row = s.row; opening = s.opening; moment = e; arrival = a } in
    let rows = opened_some w e a A s is in
    let spots = placed_some w e a A s is in
    let sits = ap in_rows spots in
    let same = same_late w n N R due in (
      ap (λ (X : List Opened). length X) rows,
      both (List SettledData) (λ X Y. settled w e None X (length Y) Y) (spans_in_rows w B) (n ∷ N) (opened w B) R sits rows ∙ settled_same w e (length R) (n ∷ N) N R (over_of w e (n ∷ N) N R same),
      both (List WaitingData) (λ X Y. waiting w e None X (length Y) Y) (spans_in_rows w B) (n ∷ N) (opened w B) R sits rows ∙ waiting_same w e (length R) (n ∷ N) N R same,
      both ℕ (λ X Y. too_early w X Y Y) (spans_in_rows w B) (n ∷ N) (opened w B) R sits rows ∙ early_same w (n ∷ N) N R R same,
    )

late_decided : (w : SectionData) (e : ℕ) (a : Arrival) (s : RowOpening) (N : List SpanInRow) (R : List Opened) → s.opening + w.tail_sampling.decision_wait ≤ e →
    decided w e None (record { row = s.row; opening = s.opening; moment = e; arrival = a } ∷ N) R R ≡ decided w e None N R R
late_decided w e a s N R due =
    let n : SpanInRow = record { row = s.row; opening = s.opening; moment = e; arrival = a } in
    decided_same w e (n ∷ N) N R R (over_of w e (n ∷ N) N R (same_late w n N R due))

-- the machine finds its row among those that were decided
late_found : (w : SectionData) (i : IntakeData) (e : ℕ) (D : SenderData) (es : List EndedData) (a : Arrival) (s : RowOpening) → present_row (most_of w) (trace_of a) (opened w i.spans) ≡ Some s → s.opening + w.tail_sampling.decision_wait ≤ e → TakenBy e i.spans →
    goes e a (counted_in (state_with w i e None D es)) ≡ late_or_opens e a (Some (is_sampled w s.row (spans_in_rows w i.spans))) (counted_in (state_with w i e None D es))
late_found w i e D es a s is due by =
    let R = opened w i.spans in
    let N = spans_in_rows w i.spans in
    let t = trace_of a in
    let over : leb (s.opening + w.tail_sampling.decision_wait) e ≡ true = grind (arith, nat_tests, due) in
    let idle : waits_at w e (present_row (most_of w) t R) ≡ false = ap (waits_at w e) is ∙ ap not over in
    let waits = waiting_found t w e e N R (OpenedBy-opened w e i.spans by) in
    let settles = settled_found t w e N R idle in
    goes_by e a (counted_in (state_with w i e None D es)) (Some (is_sampled w s.row N)) (waits ∙ idle) (settles ∙ ap (sampled_at w N) is)

late_drops : (w : SectionData) (e : ℕ) (a : Arrival) (s : RowOpening) (A : List Taken) (b : Bool) → present_row (most_of w) (trace_of a) (opened w A) ≡ Some s → s.opening + w.tail_sampling.decision_wait ≤ e → is_sampled w s.row (spans_in_rows w A) ≡ b →
    not_sampled w e None (more e a A) ≡ not_sampled w e None A + cond (not b) 1 0
late_drops w e a s A b is due sampled =
    let B = more e a A in
    let R = opened w A in
    let Q = placements w A in
    let N = in_rows Q in
    let n : SpanInRow = record { row = s.row; opening = s.opening; moment = e; arrival = a } in
    let rows = opened_some w e a A s is in
    let spots = placed_some w e a A s is in
    let sits = ap in_rows spots in
    let over : leb (s.opening + w.tail_sampling.decision_wait) e ≡ true = grind (arith, nat_tests, due) in
    let same = dropped_same w e (n ∷ N) N R R (over_of w e (n ∷ N) N R (same_late w n N R due)) in
    let lates : late_dropped w (InRow n ∷ Q) ≡ late_dropped w Q + cond (not b) 1 0 = rw (over, sampled) refl in
    let all : not_sampled w e None B ≡ dropped w e None (n ∷ N) R R + late_dropped w (InRow n ∷ Q) = both ℕ (λ X Y. dropped w e None (in_rows X) Y Y + late_dropped w X) (placements w B) (InRow n ∷ Q) (opened w B) R spots rows in
    omega (arith, all, same, lates)

-- of a row that isn't sampled: it is dropped
late_lost : (w : SectionData) (i : IntakeData) (e : ℕ) (D : SenderData) (es : List EndedData) (a : Arrival) (s : RowOpening) → present_row (most_of w) (trace_of a) (opened w i.spans) ≡ Some s → s.opening + w.tail_sampling.decision_wait ≤ e → TakenBy e i.spans →
    is_sampled w s.row (spans_in_rows w i.spans) ≡ false → Came w i e D es a
late_lost w i e D es a s is due by sampled =
    let A = i.spans in
    let B = more e a A in
    let R = opened w A in
    let Q = placements w A in
    let N = in_rows Q in
    let n : SpanInRow = record { row = s.row; opening = s.opening; moment = e; arrival = a } in
    let st = state_with w i e None D es in
    let l = ledger_at w i e None D (ended_places es) in
    let W = waiting_rows w e None A in
    let P = pending w e None A in
    let early = too_early w N R R in
    let ns = not_sampled w e None A in
    let f = (ended_places es).queue_full in
    let rows = opened_some w e a A s is in
    let spots = placed_some w e a A s is in
    let sits = ap in_rows spots in
    let over : leb (s.opening + w.tail_sampling.decision_wait) e ≡ true = grind (arith, nat_tests, due) in
    let parts = late_parts w e a s A is due in
    let drops : not_sampled w e None B ≡ ns + 1 = late_drops w e a s A false is due sampled in
    let lates : late w (InRow n ∷ Q) ≡ late w Q = rw (over, sampled) (append-nil (late w Q)) in
    let groups_is = groups_same w e A B (InRow n ∷ Q) R spots rows (late_decided w e a s N R due) lates in
    let remembers = seat_remembers w e A B n R spots rows (λ v. decisions_same w v e (n ∷ N) N R R (over_of w e (n ∷ N) N R (same_late w n N R due))) in
    let L = moved Undecided NotSampled 1 (taken 1 l) in
    let counts : L ≡ set_counts (based l (length A + 1) early) (spans_in W) (length P.spans) (sizes D.queue) (active_sizes D.active) (ns + 1) (f + 0) =
    ap (λ (z : LedgerData). moved Undecided NotSampled 1 z) (counted w i e D es)
    ∙ based_same l (length A + 1) (length A + 1) early early (spans_in W + 1 - 1) (spans_in W) (length P.spans) (length P.spans) (sizes D.queue) (active_sizes D.active) (ns + 1) (ns + 1) f (f + 0) refl refl (omega arith) refl refl (omega arith) in
    let came = came_is w i B e D es [] (length R) st.settled W P (length A + 1) early (ns + 1) L st.caches parts.0 parts.1 parts.2 (pending_same w e A B groups_is) remembers (one_taken e a A) parts.3 drops counts in
    let found = late_found w i e D es a s is due by ∙ ap (λ (b : Bool). late_or_opens e a (Some b) (counted_in st)) sampled in
    ([], formed_same w e A B groups_is, came ∙ sym found)

-- of one that is: it leaves alone
late_kept : (w : SectionData) (i : IntakeData) (e : ℕ) (D : SenderData) (es : List EndedData) (a : Arrival) (s : RowOpening) → AreValidRules (rules_of w) → present_row (most_of w) (trace_of a) (opened w i.spans) ≡ Some s → s.opening + w.tail_sampling.decision_wait ≤ e → TakenBy e i.spans →
    is_sampled w s.row (spans_in_rows w i.spans) ≡ true → Came w i e D es a
unfolding added
late_kept w i e D es a s sound is due by sampled =
    let A = i.spans in
    let B = more e a A in
    let R = opened w A in
    let Q = placements w A in
    let N = in_rows Q in
    let n : SpanInRow = record { row = s.row; opening = s.opening; moment = e; arrival = a } in
    let st = state_with w i e None D es in
    let l = ledger_at w i e None D (ended_places es) in
    let W = waiting_rows w e None A in
    let P = pending w e None A in
    let early = too_early w N R R in
    let ns = not_sampled w e None A in
    let f = (ended_places es).queue_full in
    let q = sizes D.queue in
    let x = active_sizes D.active in
    let rows = opened_some w e a A s is in
    let spots = placed_some w e a A s is in
    let sits = ap in_rows spots in
    let over : leb (s.opening + w.tail_sampling.decision_wait) e ≡ true = grind (arith, nat_tests, due) in
    let parts = late_parts w e a s A is due in
    let drops : not_sampled w e None B ≡ ns = late_drops w e a s A true is due sampled ∙ (omega arith) in
    let lates : late w (InRow n ∷ Q) ≡ late w Q ++ record { moment = e; spans = a ∷ [] } ∷ [] = rw (over, sampled) refl in
    let groups_is = groups_more w e A B (InRow n ∷ Q) R (record { moment = e; spans = a ∷ [] }) by refl spots rows (late_decided w e a s N R due) lates in
    let remembers = seat_remembers w e A B n R spots rows (λ v. decisions_same w v e (n ∷ N) N R R (over_of w e (n ∷ N) N R (same_late w n N R due))) in
    let all = P.spans ++ a ∷ [] in
    let new = all_sent (cuts P.rules e all) in
    let s0 : State = recount Undecided Pending (length (a ∷ [])) (record (counted_in st) { pending = added e (a ∷ []) P }) in
    let L = (all_queued new s0).ledger in
    let rest = length (uncut P.rules all) in
    let moves : s0.ledger ≡ set_counts (based l (length A + 1) early) (spans_in W + 1 - length (a ∷ [])) (length P.spans + length (a ∷ [])) q x ns f = ap (λ (z : LedgerData). moved Undecided Pending (length (a ∷ [])) z) (counted w i e D es) in
    let whole = cut_sizes P.rules e all in
    let start : s0.ledger ≡ set_counts (based l (length A + 1) early) (spans_in W) (rest + sizes new) q x ns f =
    moves ∙ based_same l (length A + 1) (length A + 1) early early (spans_in W + 1 - length (a ∷ [])) (spans_in W) (length P.spans + length (a ∷ [])) (rest + sizes new) q x ns ns f f refl refl (omega arith) (omega (arith, whole, length-append P.spans (a ∷ []))) refl refl in
    let counts = queued_tally new s0 (based l (length A + 1) early) (spans_in W) rest ns f start in
    let came = came_is w i B e D es new (length R) st.settled W (added e (a ∷ []) P) (length A + 1) early ns L st.caches parts.0 parts.1 parts.2 (pending_more w e a A B sound by groups_is) remembers (one_taken e a A) parts.3 drops counts in
    let found = late_found w i e D es a s is due by ∙ ap (λ (b : Bool). late_or_opens e a (Some b) (counted_in st)) sampled in
    (new, formed_more w e a A B sound by groups_is, came ∙ (sym (all_queued-is new s0) ∙ sym found))

-- ---- a span that joins a row that waits

spans_joined : (a : Arrival) (ws : List WaitingData) → has_row (trace_of a) ws ≡ true → spans_in (joined a ws) ≡ spans_in ws + 1
spans_joined a [] is = absurd (cc)
spans_joined a (r ∷ rs) is = by_tests (has_row (trace_of a) rs) (same_bytes (trace_of a) r.trace) is (λ here. spans_joined a rs here)
  where
    by_tests : (b c : Bool) → (b || c) ≡ true → (b ≡ true → spans_in (joined a rs) ≡ spans_in rs + 1) →
        spans_in (cond b (r ∷ joined a rs) (cond c (record r { spans = r.spans ++ a ∷ [] } ∷ rs) (r ∷ rs))) ≡ length r.spans + spans_in rs + 1
    by_tests true c here ih = let all : length r.spans + spans_in (joined a rs) ≡ length r.spans + spans_in rs + 1 = omega (arith, ih refl) in all
    by_tests false true here ih = let all : length (r.spans ++ a ∷ []) + spans_in rs ≡ length r.spans + spans_in rs + 1 = omega (arith, length-append r.spans (a ∷ [])) in all
    by_tests false false here ih = absurd (cc)

joins_row : (w : SectionData) (i : IntakeData) (e : ℕ) (D : SenderData) (es : List EndedData) (a : Arrival) (s : RowOpening) → present_row (most_of w) (trace_of a) (opened w i.spans) ≡ Some s → e < s.opening + w.tail_sampling.decision_wait → TakenBy e i.spans → Came w i e D es a
joins_row w i e D es a s is lt by =
    let A = i.spans in
    let B = more e a A in
    let R = opened w A in
    let Q = placements w A in
    let N = in_rows Q in
    let t = trace_of a in
    let n : SpanInRow = record { row = s.row; opening = s.opening; moment = e; arrival = a } in
    let st = state_with w i e None D es in
    let l = ledger_at w i e None D (ended_places es) in
    let W = waiting_rows w e None A in
    let P = pending w e None A in
    let early = too_early w N R R in
    let ns = not_sampled w e None A in
    let f = (ended_places es).queue_full in
    let opens_by = OpenedBy-opened w e A by in
    let rows = opened_some w e a A s is in
    let spots = placed_some w e a A s is in
    let sits = ap in_rows spots in
    let there = seat_found (most_of w) t R s is in
    let early_yet : leb (s.opening + w.tail_sampling.decision_wait) e ≡ false = grind (arith, nat_tests, lt) in
    let same = same_join t w e n N R there.0 lt in
    let settles : settled w e None (spans_in_rows w B) (length (opened w B)) (opened w B) ≡ settled w e None N (length R) R =
    both (List SettledData) (λ X Y. settled w e None X (length Y) Y) (spans_in_rows w B) (n ∷ N) (opened w B) R sits rows ∙ settled_same w e (length R) (n ∷ N) N R same in
    let waits : waiting_rows w e None B ≡ joined a W =
    both (List WaitingData) (λ X Y. waiting w e None X (length Y) Y) (spans_in_rows w B) (n ∷ N) (opened w B) R sits rows ∙ waiting_joined w e (length R) n N R there.0 there.1 lt refl in
    let evicts : too_early w (spans_in_rows w B) (opened w B) (opened w B) ≡ early =
    both ℕ (λ X Y. too_early w X Y Y) (spans_in_rows w B) (n ∷ N) (opened w B) R sits rows ∙ early_joined t w e n N R R there.0 there.1 lt opens_by in
    let lates : late w (InRow n ∷ Q) ≡ late w Q = rw early_yet (append-nil (late w Q)) in
    let late_drops_is : late_dropped w (InRow n ∷ Q) ≡ late_dropped w Q + 0 = rw early_yet refl in
    let drops_all : not_sampled w e None B ≡ dropped w e None (n ∷ N) R R + late_dropped w (InRow n ∷ Q) = both ℕ (λ X Y. dropped w e None (in_rows X) Y Y + late_dropped w X) (placements w B) (InRow n ∷ Q) (opened w B) R spots rows in
    let drops : not_sampled w e None B ≡ ns = omega (arith, drops_all, dropped_same w e (n ∷ N) N R R same, late_drops_is) in
    let groups_is = groups_same w e A B (InRow n ∷ Q) R spots rows (decided_same w e (n ∷ N) N R R same) lates in
    let remembers = seat_remembers w e A B n R spots rows (λ v. decisions_same w v e (n ∷ N) N R R same) in
    let found : has_row t W ≡ true = waiting_found t w e e N R opens_by ∙ (ap (waits_at w e) is ∙ ap not early_yet) in
    let L = taken 1 l in
    let counts : L ≡ set_counts (based l (length A + 1) early) (spans_in (joined a W)) (length P.spans) (sizes D.queue) (active_sizes D.active) ns (f + 0) =
    counted w i e D es
    ∙ based_same l (length A + 1) (length A + 1) early early (spans_in W + 1) (spans_in (joined a W)) (length P.spans) (length P.spans) (sizes D.queue) (active_sizes D.active) ns ns f (f + 0) refl refl (sym (spans_joined a W found)) refl refl (omega arith) in
    let came = came_is w i B e D es [] (length R) st.settled (joined a W) P (length A + 1) early ns L st.caches (ap (λ (X : List Opened). length X) rows) settles waits (pending_same w e A B groups_is) remembers (one_taken e a A) evicts drops counts in
    ([], formed_same w e A B groups_is, came ∙ sym (goes_joins e a (counted_in st) found))

-- ---- a span that opens a row

-- how many spans are evicted where the first row leaves
abbrev pub gone_with : List SettledData → List WaitingData → ℕ
gone_with [] [] = 0
gone_with [] (r ∷ rs) = length r.spans
gone_with (s ∷ ss) ws = 0

gone_spans : (S : List SettledData) (W : List WaitingData) → spans_in W ≡ gone_with S W + spans_in (rest_of S W)
gone_spans [] [] = omega arith
gone_spans [] (r ∷ rs) = refl
gone_spans (s ∷ ss) W = omega arith

lists_same : (c : State) (S S' : List SettledData) (W W' : List WaitingData) (L : LedgerData) → S ≡ S' → W ≡ W' → Path State (record c { settled = S; waiting = W; ledger = L }) (record c { settled = S'; waiting = W'; ledger = L })
lists_same c S S' W W' L e1 e2 = cc (e1, e2)

abbrev pub IsLeft : State → List SettledData → List WaitingData → State → Type 0
IsLeft c S W t = t ≡ record c { settled = S; waiting = W; ledger = t.ledger }

waiting_left : (W : List WaitingData) (c : State) → c.settled ≡ [] → c.waiting ≡ W → IsLeft c [] (drop 1 W) (evict_waiting W c)
waiting_left [] c settles waits = lists_same c c.settled [] c.waiting [] c.ledger settles waits
waiting_left (r ∷ rs) c settles waits = lists_same c c.settled [] rs rs (moved Undecided TooEarly (length r.spans) c.ledger) settles refl

first_left : (S : List SettledData) (W : List WaitingData) (c : State) → c.settled ≡ S → c.waiting ≡ W → IsLeft c (drop 1 S) (rest_of S W) (evict_first S c)
first_left [] W c settles waits = subst (λ (V : List WaitingData). IsLeft c [] (drop 1 W) (evict_waiting V c)) (sym waits) (waiting_left W c settles waits)
first_left (s ∷ ss) W c settles waits = lists_same c ss ss c.waiting W c.ledger refl waits

waiting_counts : (W : List WaitingData) (c : State) (l : LedgerData) (k early p q x n f : ℕ) → c.ledger ≡ set_counts (based l k early) (spans_in W + 1) p q x n f →
    (evict_waiting W c).ledger ≡ set_counts (based l k (early + gone_with [] W)) (spans_in (drop 1 W) + 1) p q x n f
waiting_counts [] c l k early p q x n f counts = counts ∙ based_same l k k early (early + 0) (0 + 1) (0 + 1) p p q x n n f f refl (omega arith) refl refl refl refl
waiting_counts (r ∷ rs) c l k early p q x n f counts =
    ap (λ (z : LedgerData). moved Undecided TooEarly (length r.spans) z) counts
    ∙ based_same l k k (early + length r.spans) (early + length r.spans) (length r.spans + spans_in rs + 1 - length r.spans) (spans_in rs + 1) p p q x n n f f refl refl (omega arith) refl refl refl

first_counts : (S : List SettledData) (W : List WaitingData) (c : State) (l : LedgerData) (k early p q x n f : ℕ) → c.waiting ≡ W → c.ledger ≡ set_counts (based l k early) (spans_in W + 1) p q x n f →
    (evict_first S c).ledger ≡ set_counts (based l k (early + gone_with S W)) (spans_in (rest_of S W) + 1) p q x n f
first_counts [] W c l k early p q x n f waits counts =
    subst (λ (V : List WaitingData). (evict_waiting V c).ledger ≡ set_counts (based l k (early + gone_with [] W)) (spans_in (drop 1 W) + 1) p q x n f) (sym waits) (waiting_counts W c l k early p q x n f counts)
first_counts (s ∷ ss) W c l k early p q x n f waits counts = counts ∙ based_same l k k early (early + 0) (spans_in W + 1) (spans_in W + 1) p p q x n n f f refl (omega arith) refl refl refl refl

-- what is left when there is room for one more row
pub record Room (w : SectionData) (i : IntakeData) (e : ℕ) (D : SenderData) (es : List EndedData) (t : State) : Type 0 where
  pub decided_ones : List SettledData
  pub waiting_ones : List WaitingData
  pub early : ℕ
  pub left : IsLeft (counted_in (state_with w i e None D es)) decided_ones waiting_ones t
  pub counts : t.ledger ≡ set_counts (based (ledger_at w i e None D (ended_places es)) (length i.spans + 1) early) (spans_in waiting_ones + 1) (length (pending w e None i.spans).spans) (sizes D.queue) (active_sizes D.active) (not_sampled w e None i.spans) (ended_places es).queue_full
  pub settled_is : settled w e None (spans_in_rows w i.spans) (length (opened w i.spans) + 1) (opened w i.spans) ≡ decided_ones
  pub waiting_is : waiting w e None (spans_in_rows w i.spans) (length (opened w i.spans) + 1) (opened w i.spans) ≡ waiting_ones
  pub gone : too_early w (spans_in_rows w i.spans) (opened w i.spans) (opened w i.spans) + spans_in (waiting_rows w e None i.spans) ≡ early + spans_in waiting_ones

room : (w : SectionData) (i : IntakeData) (e : ℕ) (D : SenderData) (es : List EndedData) → TakenBy e i.spans → Room w i e D es (evicted (counted_in (state_with w i e None D es)))
room w i e D es by = by_test (ltb (length R) w.tail_sampling.num_traces) refl
  where
    A : List Taken
    A = i.spans

    R : List Opened
    R = opened w A

    N : List SpanInRow
    N = spans_in_rows w A

    c : State
    c = counted_in (state_with w i e None D es)

    by_test : (b : Bool) → ltb (length R) w.tail_sampling.num_traces ≡ b → Room w i e D es (cond b c (evict_first c.settled c))
    by_test true is =
        let left = room_left w e (length R) N R (grind (arith, nat_tests, is)) in
        record {
          decided_ones = settled w e None N (length R) R;
          waiting_ones = waiting_rows w e None A;
          early = too_early w N R R;
          left = refl;
          counts = counted w i e D es;
          settled_is = left.0;
          waiting_is = left.1;
          gone = refl;
        }
    by_test false is =
        let S = settled w e None N (length R) R in
        let W = waiting_rows w e None A in
        let made = room_made w e e (length R) N R (grind (arith, nat_tests, is)) (omega arith) (OpenedBy-opened w e A by) in
        record {
          decided_ones = drop 1 S;
          waiting_ones = rest_of S W;
          early = too_early w N R R + gone_with S W;
          left = first_left S W c refl refl;
          counts = first_counts S W c (ledger_at w i e None D (ended_places es)) (length A + 1) (too_early w N R R) (length (pending w e None A).spans) (sizes D.queue) (active_sizes D.active) (not_sampled w e None A) (ended_places es).queue_full refl (counted w i e D es);
          settled_is = made.0;
          waiting_is = made.1;
          gone = omega (arith, gone_spans S W);
        }

opens_row : (w : SectionData) (i : IntakeData) (e : ℕ) (D : SenderData) (es : List EndedData) (a : Arrival) → 0 < w.tail_sampling.num_traces → 0 < w.tail_sampling.decision_wait → present_row (most_of w) (trace_of a) (opened w i.spans) ≡ None → known w e (trace_of a) (placement w i.spans) ≡ None → TakenBy e i.spans → Came w i e D es a
opens_row w i e D es a pos wait is new by =
    let A = i.spans in
    let B = more e a A in
    let R = opened w A in
    let Q = placements w A in
    let N = in_rows Q in
    let t = trace_of a in
    let n = first_of e a R in
    let r = row_of e a in
    let st = state_with w i e None D es in
    let c = counted_in st in
    let l = ledger_at w i e None D (ended_places es) in
    let P = pending w e None A in
    let q = sizes D.queue in
    let x = active_sizes D.active in
    let ns = not_sampled w e None A in
    let f = (ended_places es).queue_full in
    let opens_by = OpenedBy-opened w e A by in
    let rows = opened_none w e a A is new in
    let spots = placed_none w e a A is new in
    let sits = ap in_rows spots in
    let left = room w i e D es by in
    let S = left.decided_ones in
    let row : WaitingData = record { trace = t; due = e + w.tail_sampling.decision_wait; spans = a ∷ [] } in
    let W = left.waiting_ones ++ row ∷ [] in
    let L = (evicted c).ledger in
    let number : length (opened w B) ≡ length R + 1 = ap (λ (X : List Opened). length X) rows ∙ (omega arith) in
    let settles : settled w e None (spans_in_rows w B) (length (opened w B)) (opened w B) ≡ S =
    both (List SettledData) (λ X Y. settled w e None X (length Y) Y) (spans_in_rows w B) (n ∷ N) (opened w B) (r ∷ R) sits rows ∙ (settled_first w e a N R wait ∙ left.settled_is) in
    let waits : waiting_rows w e None B ≡ W =
    both (List WaitingData) (λ X Y. waiting w e None X (length Y) Y) (spans_in_rows w B) (n ∷ N) (opened w B) (r ∷ R) sits rows
    ∙ (waiting_first w e a N R pos wait (SeatedUpTo-seated w A) ∙ ap (λ (ws : List WaitingData). ws ++ row ∷ []) left.waiting_is) in
    let left_spans : spans_in (waiting w e None N (length R + 1) R) ≡ spans_in left.waiting_ones = ap spans_in left.waiting_is in
    let new_early : too_early w (n ∷ N) (r ∷ R) (r ∷ R) ≡ left.early = omega (arith, early_first w e a N R pos opens_by, left_spans, left.gone) in
    let evicts : too_early w (spans_in_rows w B) (opened w B) (opened w B) ≡ left.early = both ℕ (λ X Y. too_early w X Y Y) (spans_in_rows w B) (n ∷ N) (opened w B) (r ∷ R) sits rows ∙ new_early in
    let drops_all : not_sampled w e None B ≡ dropped w e None (n ∷ N) (r ∷ R) (r ∷ R) + late_dropped w (InRow n ∷ Q) = both ℕ (λ X Y. dropped w e None (in_rows X) Y Y + late_dropped w X) (placements w B) (InRow n ∷ Q) (opened w B) (r ∷ R) spots rows in
    let drops : not_sampled w e None B ≡ ns = omega (arith, drops_all, dropped_first w e a N R wait, late_dropped_first w e a Q R wait) in
    let groups_is = groups_same w e A B (InRow n ∷ Q) (r ∷ R) spots rows (decided_first w e a N R wait) (late_first w e a Q R wait) in
    let remembers = seat_remembers w e A B n (r ∷ R) spots rows (λ v. decisions_first w v e a N R wait) in
    let alone : spans_in (row ∷ []) ≡ 1 = refl in
    let sum : spans_in left.waiting_ones + 1 ≡ spans_in W = omega (arith, alone, spans_append left.waiting_ones (row ∷ [])) in
    let counts : L ≡ set_counts (based l (length A + 1) left.early) (spans_in W) (length P.spans) q x ns (f + 0) =
    left.counts ∙ based_same l (length A + 1) (length A + 1) left.early left.early (spans_in left.waiting_ones + 1) (spans_in W) (length P.spans) (length P.spans) q x ns ns f (f + 0) refl refl sum refl refl (omega arith) in
    let came = came_is w i B e D es [] (length R + 1) S W P (length A + 1) left.early ns L st.caches number settles waits (pending_same w e A B groups_is) remembers (one_taken e a A) evicts drops counts in
    let idle : waits_at w e (present_row (most_of w) t R) ≡ false = ap (waits_at w e) is in
    let found = goes_by e a c None (waiting_found t w e e N R opens_by ∙ idle) (settled_found t w e N R idle ∙ ap (sampled_at w N) is)
    ∙ ap (λ (o : Option Bool). cached_or_opens e a o c) (found_is w e t A ∙ new) in
    let made : opens e a (evicted c) ≡ opens e a (record c { settled = S; waiting = left.waiting_ones; ledger = L }) = ap (opens e a) left.left in
    ([], formed_same w e A B groups_is, came ∙ (sym made ∙ sym found))

-- ---- a span whose trace a cache has

-- the state's parts, whatever becomes of the span
hit_parts : (w : SectionData) (e : ℕ) (a : Arrival) (b : Bool) (A : List Taken) → present_row (most_of w) (trace_of a) (opened w A) ≡ None → known w e (trace_of a) (placement w A) ≡ Some b →
    (length (opened w (more e a A)) ≡ length (opened w A))
    × (settled w e None (spans_in_rows w (more e a A)) (length (opened w (more e a A))) (opened w (more e a A)) ≡ settled w e None (spans_in_rows w A) (length (opened w A)) (opened w A))
    × (waiting_rows w e None (more e a A) ≡ waiting_rows w e None A)
    × (too_early w (spans_in_rows w (more e a A)) (opened w (more e a A)) (opened w (more e a A)) ≡ too_early w (spans_in_rows w A) (opened w A) (opened w A))
hit_parts w e a b A is known_is =
    let B = more e a A in
    let R = opened w A in
    let N = spans_in_rows w A in
    let rows = opened_hit w e a A b is known_is in
    let sits : spans_in_rows w B ≡ N = ap in_rows (placed_hit w e a A b is known_is) in (
      ap (λ (X : List Opened). length X) rows,
      both (List SettledData) (λ X Y. settled w e None X (length Y) Y) (spans_in_rows w B) N (opened w B) R sits rows,
      both (List WaitingData) (λ X Y. waiting w e None X (length Y) Y) (spans_in_rows w B) N (opened w B) R sits rows,
      both ℕ (λ X Y. too_early w X Y Y) (spans_in_rows w B) N (opened w B) R sits rows,
    )

hit_drops : (w : SectionData) (e : ℕ) (a : Arrival) (b : Bool) (A : List Taken) → present_row (most_of w) (trace_of a) (opened w A) ≡ None → known w e (trace_of a) (placement w A) ≡ Some b →
    not_sampled w e None (more e a A) ≡ not_sampled w e None A + cond b 0 1
hit_drops w e a b A is known_is =
    let B = more e a A in
    let R = opened w A in
    let Q = placements w A in
    let h : Hit = record { moment = e; arrival = a; sampled = b } in
    let all : not_sampled w e None B ≡ dropped w e None (in_rows Q) R R + late_dropped w (CacheHit h ∷ Q) =
    both ℕ (λ X Y. dropped w e None (in_rows X) Y Y + late_dropped w X) (placements w B) (CacheHit h ∷ Q) (opened w B) R (placed_hit w e a A b is known_is) (opened_hit w e a A b is known_is) in
    let lates : late_dropped w (CacheHit h ∷ Q) ≡ late_dropped w Q + cond b 0 1 = refl in
    omega (arith, all, lates)

hit_remembers : (w : SectionData) (e : ℕ) (a : Arrival) (b : Bool) (A : List Taken) → TakenBy e A → present_row (most_of w) (trace_of a) (opened w A) ≡ None → known w e (trace_of a) (placement w A) ≡ Some b →
    caches_of w e None (placements w (more e a A)) (opened w (more e a A)) ≡ noted_in b (trace_of a) (caches_of w e None (placements w A) (opened w A))
hit_remembers w e a b A by is known_is =
    let B = more e a A in
    let h : Hit = record { moment = e; arrival = a; sampled = b } in
    both BothData (λ X Y. caches_of w e None X Y) (placements w B) (CacheHit h ∷ placements w A) (opened w B) (opened w A) (placed_hit w e a A b is known_is) (opened_hit w e a A b is known_is) ∙ caches_hit w e a b A by

-- the machine finds its trace in the cache
hit_found : (w : SectionData) (i : IntakeData) (e : ℕ) (D : SenderData) (es : List EndedData) (a : Arrival) (b : Bool) → present_row (most_of w) (trace_of a) (opened w i.spans) ≡ None → known w e (trace_of a) (placement w i.spans) ≡ Some b → TakenBy e i.spans →
    goes e a (counted_in (state_with w i e None D es)) ≡ cached_or_opens e a (Some b) (counted_in (state_with w i e None D es))
hit_found w i e D es a b is known_is by =
    let R = opened w i.spans in
    let N = spans_in_rows w i.spans in
    let t = trace_of a in
    let c = counted_in (state_with w i e None D es) in
    let idle : waits_at w e (present_row (most_of w) t R) ≡ false = ap (waits_at w e) is in
    goes_by e a c None (waiting_found t w e e N R (OpenedBy-opened w e i.spans by) ∙ idle) (settled_found t w e N R idle ∙ ap (sampled_at w N) is)
    ∙ ap (λ (o : Option Bool). cached_or_opens e a o c) (found_is w e t i.spans ∙ known_is)

-- of a trace that wasn't sampled: it is dropped
hit_lost : (w : SectionData) (i : IntakeData) (e : ℕ) (D : SenderData) (es : List EndedData) (a : Arrival) → present_row (most_of w) (trace_of a) (opened w i.spans) ≡ None → known w e (trace_of a) (placement w i.spans) ≡ Some false → TakenBy e i.spans → Came w i e D es a
hit_lost w i e D es a is known_is by =
    let A = i.spans in
    let B = more e a A in
    let R = opened w A in
    let Q = placements w A in
    let N = in_rows Q in
    let h : Hit = record { moment = e; arrival = a; sampled = false } in
    let st = state_with w i e None D es in
    let l = ledger_at w i e None D (ended_places es) in
    let W = waiting_rows w e None A in
    let P = pending w e None A in
    let early = too_early w N R R in
    let ns = not_sampled w e None A in
    let f = (ended_places es).queue_full in
    let parts = hit_parts w e a false A is known_is in
    let drops : not_sampled w e None B ≡ ns + 1 = hit_drops w e a false A is known_is in
    let groups_is = groups_same w e A B (CacheHit h ∷ Q) R (placed_hit w e a A false is known_is) (opened_hit w e a A false is known_is) refl (append-nil (late w Q)) in
    let remembers = hit_remembers w e a false A by is known_is in
    let L = moved Undecided NotSampled 1 (taken 1 l) in
    let counts : L ≡ set_counts (based l (length A + 1) early) (spans_in W) (length P.spans) (sizes D.queue) (active_sizes D.active) (ns + 1) (f + 0) =
    ap (λ (z : LedgerData). moved Undecided NotSampled 1 z) (counted w i e D es)
    ∙ based_same l (length A + 1) (length A + 1) early early (spans_in W + 1 - 1) (spans_in W) (length P.spans) (length P.spans) (sizes D.queue) (active_sizes D.active) (ns + 1) (ns + 1) f (f + 0) refl refl (omega arith) refl refl (omega arith) in
    let came = came_is w i B e D es [] (length R) st.settled W P (length A + 1) early (ns + 1) L (noted_in false (trace_of a) st.caches) parts.0 parts.1 parts.2 (pending_same w e A B groups_is) remembers (one_taken e a A) parts.3 drops counts in
    ([], formed_same w e A B groups_is, came ∙ sym (hit_found w i e D es a false is known_is by))

-- of one that was: it leaves alone
hit_kept : (w : SectionData) (i : IntakeData) (e : ℕ) (D : SenderData) (es : List EndedData) (a : Arrival) → AreValidRules (rules_of w) → present_row (most_of w) (trace_of a) (opened w i.spans) ≡ None → known w e (trace_of a) (placement w i.spans) ≡ Some true → TakenBy e i.spans → Came w i e D es a
unfolding added
hit_kept w i e D es a sound is known_is by =
    let A = i.spans in
    let B = more e a A in
    let R = opened w A in
    let Q = placements w A in
    let N = in_rows Q in
    let h : Hit = record { moment = e; arrival = a; sampled = true } in
    let st = state_with w i e None D es in
    let l = ledger_at w i e None D (ended_places es) in
    let W = waiting_rows w e None A in
    let P = pending w e None A in
    let early = too_early w N R R in
    let ns = not_sampled w e None A in
    let f = (ended_places es).queue_full in
    let q = sizes D.queue in
    let x = active_sizes D.active in
    let parts = hit_parts w e a true A is known_is in
    let drops : not_sampled w e None B ≡ ns = hit_drops w e a true A is known_is ∙ (omega arith) in
    let groups_is = groups_more w e A B (CacheHit h ∷ Q) R (record { moment = e; spans = a ∷ [] }) by refl (placed_hit w e a A true is known_is) (opened_hit w e a A true is known_is) refl refl in
    let remembers = hit_remembers w e a true A by is known_is in
    let K = noted_in true (trace_of a) st.caches in
    let all = P.spans ++ a ∷ [] in
    let new = all_sent (cuts P.rules e all) in
    let s0 : State = recount Undecided Pending (length (a ∷ [])) (record (remembered true (trace_of a) (counted_in st)) { pending = added e (a ∷ []) P }) in
    let L = (all_queued new s0).ledger in
    let rest = length (uncut P.rules all) in
    let moves : s0.ledger ≡ set_counts (based l (length A + 1) early) (spans_in W + 1 - length (a ∷ [])) (length P.spans + length (a ∷ [])) q x ns f = ap (λ (z : LedgerData). moved Undecided Pending (length (a ∷ [])) z) (counted w i e D es) in
    let whole = cut_sizes P.rules e all in
    let start : s0.ledger ≡ set_counts (based l (length A + 1) early) (spans_in W) (rest + sizes new) q x ns f =
    moves ∙ based_same l (length A + 1) (length A + 1) early early (spans_in W + 1 - length (a ∷ [])) (spans_in W) (length P.spans + length (a ∷ [])) (rest + sizes new) q x ns ns f f refl refl (omega arith) (omega (arith, whole, length-append P.spans (a ∷ []))) refl refl in
    let counts = queued_tally new s0 (based l (length A + 1) early) (spans_in W) rest ns f start in
    let came = came_is w i B e D es new (length R) st.settled W (added e (a ∷ []) P) (length A + 1) early ns L K parts.0 parts.1 parts.2 (pending_more w e a A B sound by groups_is) remembers (one_taken e a A) parts.3 drops counts in
    (new, formed_more w e a A B sound by groups_is, came ∙ (sym (all_queued-is new s0) ∙ sym (hit_found w i e D es a true is known_is by)))

-- ---- any span

pub came : (w : SectionData) (i : IntakeData) (e : ℕ) (D : SenderData) (es : List EndedData) (a : Arrival) → 0 < w.tail_sampling.num_traces → 0 < w.tail_sampling.decision_wait → AreValidRules (rules_of w) → TakenBy e i.spans → Came w i e D es a
came w i e D es a pos wait sound by = by_seat (present_row (most_of w) (trace_of a) (opened w i.spans)) refl
  where
    by_seat : (o : Option RowOpening) → present_row (most_of w) (trace_of a) (opened w i.spans) ≡ o → Came w i e D es a
    by_seat None is = by_verdict (known w e (trace_of a) (placement w i.spans)) refl
      where
        by_verdict : (h : Option Bool) → known w e (trace_of a) (placement w i.spans) ≡ h → Came w i e D es a
        by_verdict None new = opens_row w i e D es a pos wait is new by
        by_verdict (Some true) found = hit_kept w i e D es a sound is found by
        by_verdict (Some false) found = hit_lost w i e D es a is found by
    by_seat (Some s) is = by_due (leb (s.opening + w.tail_sampling.decision_wait) e) refl
      where
        by_due : (b : Bool) → leb (s.opening + w.tail_sampling.decision_wait) e ≡ b → Came w i e D es a
        by_due false late = joins_row w i e D es a s is (grind (arith, nat_tests, late)) by
        by_due true late = by_kept (is_sampled w s.row (spans_in_rows w i.spans)) refl
          where
            by_kept : (b : Bool) → is_sampled w s.row (spans_in_rows w i.spans) ≡ b → Came w i e D es a
            by_kept true kept = late_kept w i e D es a s sound is (grind (arith, nat_tests, late)) by kept
            by_kept false kept = late_lost w i e D es a s is (grind (arith, nat_tests, late)) by kept
