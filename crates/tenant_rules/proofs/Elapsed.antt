-- What a tenant is at a later moment, where nothing but time went on.
use Rattle.std.proofs.Common.{◌≡◌, ℕ, ◌+◌, ◌<◌, ◌≤◌, List, [], ◌∷◌, ◌++◌, length, map, refl, sym, ap, ◌∙◌, arith, Option, None}
use Rattle.tail_settings.specs.Section.{SectionData}
use Rattle.drop_ledger.specs.declared.places.Places.{Places}
use Rattle.drop_ledger.specs.Ledger.{LedgerData}
use Rattle.span_batcher.specs.Batches.{AreValidRules}
use Rattle.tenant_rules.specs.Rows.{Taken}
use Rattle.tenant_rules.specs.Fate.{SettledData, WaitingData, settled}
use Rattle.decision_cache.specs.Caches.{BothData}
use Rattle.tenant_rules.specs.Events.{caches_of}
use Rattle.tenant_rules.specs.Placement.{opened, placements, spans_in_rows}
use Rattle.tenant_rules.specs.Sender.{BatchData, SenderData, sizes, active_sizes}
use Rattle.tenant_rules.specs.Batching.{rules_of, all_sent, pending, waiting_rows, spans_in}
use Rattle.tenant_rules.specs.Intake.{IntakeData}
use Rattle.tenant_rules.specs.Sending.{EndedData, all_offered, overflow, met_no_room}
use Rattle.tenant_rules.specs.State.{State, ended_places, not_sampled, ledger_at, state_at}
use Rattle.tenant_rules.specs.Timers.{advanced}
use Rattle.tenant_rules.proofs.Times as times
use Rattle.tenant_rules.proofs.Times.{TakenBy, OpenedBy-opened, done, later, Ascends-waiting, waiting_later, settled_later, dropped_later}
use Rattle.tenant_rules.proofs.Later.{meanwhile, left_then, pending_later}
use Rattle.tenant_rules.proofs.Events.{due_noted, caches_later}
use Rattle.tenant_rules.proofs.Walks.{walk, all_ran}
use Rattle.tenant_rules.proofs.Walked.{set_to, became, walk-is}
use Rattle.tenant_rules.proofs.Tally.{set_counts, set_same, sizes_cons, Tally, walk_tally}

-- the state from what came in by a moment, the sender, and what became of settled batches
abbrev pub state_with : SectionData → IntakeData → ℕ → Option ℕ → SenderData → List EndedData → State
state_with w i e x sender ended = state_at w i.spans e x sender (ledger_at w i e x sender (ended_places ended))

-- the batches that form between two moments, where there was no drain
abbrev pub between : SectionData → ℕ → ℕ → List Taken → List BatchData
between w d e A = all_sent (meanwhile w.tail_sampling.policies e (waiting_rows w d None A) (pending w d None A))

-- batches that found no room
pub ended_met : (bs : List BatchData) (es : List EndedData) →
    ended_places (map met_no_room bs ++ es) ≡ record (ended_places es) { queue_full = (ended_places es).queue_full + sizes bs }
ended_met [] es = ap (λ (n : ℕ). record (ended_places es) { queue_full = n }) none
  where
    none : (ended_places es).queue_full ≡ (ended_places es).queue_full + 0
    none = omega arith
ended_met (b ∷ bs) es =
    ap (λ (p : Places). record p { queue_full = p.queue_full + b.spans }) (ended_met bs es)
    ∙ ap (λ (n : ℕ). record (ended_places es) { queue_full = n }) sum
  where
    sum : (ended_places es).queue_full + sizes bs + b.spans ≡ (ended_places es).queue_full + sizes (b ∷ bs)
    sum = omega (arith, sizes_cons b bs)

-- the counters at a moment, from those at another
counts_are : (w : SectionData) (i : IntakeData) (d e : ℕ) (D D' : SenderData) (P : Places) (f : ℕ) →
    ledger_at w i e None D' (record P { queue_full = f })
    ≡ set_counts (ledger_at w i d None D P) (spans_in (waiting_rows w e None i.spans)) (length (pending w e None i.spans).spans) (sizes D'.queue) (active_sizes D'.active) (not_sampled w e None i.spans) f
unfolding ledger_at
counts_are w i d e D D' P f = refl

pub tally_at : (w : SectionData) (i : IntakeData) (d : ℕ) (D : SenderData) (es : List EndedData) →
    Tally (ledger_at w i d None D (ended_places es)) (not_sampled w d None i.spans) (ended_places es).queue_full (state_with w i d None D es)
unfolding ledger_at
tally_at w i d D es = refl

pub state_same : (s : State) (S S' : List SettledData) (W W' : List WaitingData) (P P' : Rattle.span_batcher.specs.State.State Rattle.tenant_rules.specs.Arrivals.Arrival) (D : SenderData) (e : ℕ) (L L' : LedgerData) (K K' : BothData) → S ≡ S' → W ≡ W' → P ≡ P' → L ≡ L' → K ≡ K' →
    Path State (record s { clock = e; settled = S; waiting = W; caches = K; pending = P; sender = D; ledger = L }) (record s { clock = e; settled = S'; waiting = W'; caches = K'; pending = P'; sender = D; ledger = L' })
state_same s S S' W W' P P' D e L L' K K' a b c d f = cc (a, b, c, d, f)

pub elapsed : (w : SectionData) (i : IntakeData) (d e : ℕ) (D : SenderData) (es : List EndedData) → 0 < w.tail_sampling.num_traces → AreValidRules (rules_of w) → d ≤ e → TakenBy d i.spans →
    state_with w i e None (all_offered (between w d e i.spans) D) (map met_no_room (overflow (between w d e i.spans) D) ++ es) ≡ advanced e (state_with w i d None D es)
elapsed w i d e D es pos sound le by =
    let A = i.spans in
    let p = w.tail_sampling.policies in
    let N = spans_in_rows w A in
    let R = opened w A in
    let s = state_with w i d None D es in
    let l = ledger_at w i d None D (ended_places es) in
    let W = waiting_rows w d None A in
    let P = pending w d None A in
    let M = between w d e A in
    let D' = all_offered M D in
    let f = (ended_places es).queue_full + sizes (overflow M D) in
    let opens = OpenedBy-opened w d A by in
    let asc = Ascends-waiting w d d (length R) N R opens in
    let t = walk e W s in
    let fields = walk-is e e (d + 1) p W s refl refl asc in
    let tally = walk_tally l (not_sampled w d None A) (ended_places es).queue_full e (d + 1) p W s refl refl asc (tally_at w i d D es) in
    let waits : waiting_rows w e None A ≡ later e W = waiting_later w d e (length R) N R le in
    let settles : settled w e None N (length R) R ≡ settled w d None N (length R) R ++ done p e W = settled_later w d e d (length R) N R le opens in
    let pends : pending w e None A ≡ left_then p e W P = pending_later w d e A pos sound le by in
    let drops = dropped_later w d e d N R R pos le opens opens in
    let ns : not_sampled w e None A ≡ not_sampled w d None A + times.lost p e W = omega (arith, drops) in
    let now : ledger_at w i e None D' (ended_places (map met_no_room (overflow M D) ++ es)) ≡ set_counts l (spans_in (waiting_rows w e None A)) (length (pending w e None A).spans) (sizes D'.queue) (active_sizes D'.active) (not_sampled w e None A) f =
    ap (λ (q : Places). ledger_at w i e None D' q) (ended_met (overflow M D) es) ∙ counts_are w i d e D D' (ended_places es) f in
    let then_is : set_counts l (spans_in (waiting_rows w e None A)) (length (pending w e None A).spans) (sizes D'.queue) (active_sizes D'.active) (not_sampled w e None A) f
    ≡ set_counts l (spans_in t.waiting) (length t.pending.spans) (sizes t.sender.queue) (active_sizes t.sender.active) (not_sampled w d None A + times.lost p e W) f =
    set_same l _ _ _ _ _ _ _ _ _ _ f f (ap spans_in waits ∙ sym (ap (λ (z : State). spans_in z.waiting) fields)) (ap (λ q. length q.spans) pends ∙ sym (ap (λ (z : State). length z.pending.spans) fields))
    (sym (ap (λ (z : State). sizes z.sender.queue) fields)) (sym (ap (λ (z : State). active_sizes z.sender.active) fields)) ns refl in
    let ledger_is : ledger_at w i e None D' (ended_places (map met_no_room (overflow M D) ++ es)) ≡ t.ledger = now ∙ (then_is ∙ sym tally) in
    let all : state_with w i e None D' (map met_no_room (overflow M D) ++ es) ≡ became s (s.settled ++ done p e W) (later e W) (left_then p e W P) M e t.ledger (due_noted p e W s.caches) =
    state_same s (settled w e None N (length R) R) (settled w d None N (length R) R ++ done p e W) (waiting_rows w e None A) (later e W) (pending w e None A) (left_then p e W P) D' e (ledger_at w i e None D' (ended_places (map met_no_room (overflow M D) ++ es))) t.ledger (caches_of w e None (placements w A) R) (due_noted p e W s.caches) settles waits pends ledger_is (caches_later w d e A pos le by) in
    all ∙ (sym fields ∙ sym (ap (set_to e) (all_ran e s)))
