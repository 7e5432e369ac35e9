-- The groups and batches at a later moment, from those at an earlier one: the rows that are decided meanwhile make one
-- group after the other.
use Rattle.std.proofs.Common.{◌≡◌, ℕ, ◌+◌, ◌<◌, ◌≤◌, List, [], ◌∷◌, ◌++◌, length, refl, sym, subst, ap, ◌∙◌, arith, append_assoc, append-nil, Bool, true, false, leb, cond, ◌&&◌, Option, Some, None}
use Rattle.std.proofs.lemmas.Bool.Decides.{nat_tests}
use Rattle.std.proofs.lemmas.List.{map-append}
use Rattle.tail_settings.specs.Policy.{PolicyData}
use Rattle.tail_settings.specs.Section.{SectionData}
use Rattle.span_batcher.specs.Batches.{Rules, AreValidRules, Group, Batch, batches}
use Rattle.span_batcher.specs.State.{IsUpTo}
use Rattle.span_batcher.specs.State as batcher
use Rattle.span_batcher.specs.Timers.{passed, after, come, come_batches, InOrder, last_moment}
use Rattle.span_batcher.proofs.Timers.{passes, all_come}
use Rattle.tenant_rules.specs.Arrivals.{Arrival, trace_of}
use Rattle.tenant_rules.specs.Rows.{Taken, Opened, SpanInRow, RowOpening, present_row}
use Rattle.tenant_rules.specs.Fate.{most_of, on_time, are_sampled, is_sampled, WaitingData}
use Rattle.tenant_rules.specs.Placement.{place_by, known, placement, opened, placements, spans_in_rows}
use Rattle.tenant_rules.specs.Decisions.{by_moment}
use Rattle.tenant_rules.specs.Groups.{decided, cut_short, late, groups}
use Rattle.tenant_rules.specs.Batching.{rules_of, as_sent, all_sent, formed, pending, waiting_rows}
use Rattle.tenant_rules.proofs.Order.{AllUpTo, AllFrom, Ascending, AllUpTo-append, AllUpTo_more, AllFrom_less, AllUpTo-by_moment, by_moment-middle}
use Rattle.tenant_rules.proofs.Times.{TakenBy, OpenedBy-opened, fired, Ascends, Ascends-waiting, decided_later, cut_none}

-- ---- what is there is of moments up to the one reached

AllUpTo_if : (m : ℕ) (g : Group Arrival) (b : Bool) → (b ≡ true → g.moment ≤ m) → AllUpTo m (cond b (g ∷ []) [])
AllUpTo_if m g true le = (le refl, tt)
AllUpTo_if m g false le = tt

pub AllUpTo-decided : (w : SectionData) (e : ℕ) (N : List SpanInRow) (all R : List Opened) → AllUpTo e (decided w e None N all R)
AllUpTo-decided w e N all [] = tt
AllUpTo-decided w e N all (r ∷ R) = AllUpTo-append e (decided w e None N all R) _ (AllUpTo-decided w e N all R) (by_test (leb (r.moment + w.tail_sampling.decision_wait) e) _ refl)
  where
    one : Group Arrival
    one = record { moment = r.moment + w.tail_sampling.decision_wait; spans = on_time w (length R + 1) N }

    by_test : (a b : Bool) → leb (r.moment + w.tail_sampling.decision_wait) e ≡ a → AllUpTo e (cond ((a && b) && true) (cond (is_sampled w (length R + 1) N) (one ∷ []) []) [])
    by_test true true is = AllUpTo_if e one (is_sampled w (length R + 1) N) (λ _. grind (arith, nat_tests, is))
    by_test true false is = tt
    by_test false b is = tt

pub AllUpTo-late : (w : SectionData) (e : ℕ) (A : List Taken) → TakenBy e A → AllUpTo e (late w (placements w A))
AllUpTo-late w e [] by = tt
AllUpTo-late w e (x ∷ A) by =
    by_seat (present_row (most_of w) (trace_of x.arrival) (opened w A)) (known w x.moment (trace_of x.arrival) (placement w A))
    (AllUpTo_more x.moment e (late w (placements w A)) by.0 (AllUpTo-late w x.moment A by.1))
  where
    one : Group Arrival
    one = record { moment = x.moment; spans = x.arrival ∷ [] }

    by_seat : (o : Option RowOpening) (h : Option Bool) → AllUpTo e (late w (placements w A)) → AllUpTo e (late w (place_by x (placement w A) o h).placements)
    by_seat None None rest = AllUpTo-append e (late w (placements w A)) _ rest (AllUpTo_if e one _ (λ _. by.0))
    by_seat None (Some b) rest = AllUpTo-append e (late w (placements w A)) _ rest (AllUpTo_if e one b (λ _. by.0))
    by_seat (Some s) h rest = AllUpTo-append e (late w (placements w A)) _ rest (AllUpTo_if e one _ (λ _. by.0))

-- ---- the groups of rows that are decided meanwhile

AllFrom_fired : (p : List PolicyData) (m e : ℕ) (ws : List WaitingData) → Ascends m ws → AllFrom m (fired p e ws)
AllFrom_fired p m e [] asc = tt
AllFrom_fired p m e (r ∷ ws) asc = by_test (leb r.due e && are_sampled p r.spans) (AllFrom_less m r.due (fired p e ws) asc.0 (AllFrom_fired p r.due e ws asc.1))
  where
    by_test : (b : Bool) → AllFrom m (fired p e ws) → AllFrom m (cond b (record { moment = r.due; spans = r.spans } ∷ fired p e ws) (fired p e ws))
    by_test true rest = (asc.0, rest)
    by_test false rest = rest

Ascending_fired : (p : List PolicyData) (m e : ℕ) (ws : List WaitingData) → Ascends m ws → Ascending (fired p e ws)
Ascending_fired p m e [] asc = tt
Ascending_fired p m e (r ∷ ws) asc = by_test (leb r.due e && are_sampled p r.spans) (AllFrom_fired p r.due e ws asc.1) (Ascending_fired p r.due e ws asc.1)
  where
    by_test : (b : Bool) → AllFrom r.due (fired p e ws) → Ascending (fired p e ws) → Ascending (cond b (record { moment = r.due; spans = r.spans } ∷ fired p e ws) (fired p e ws))
    by_test true from rest = (from, rest)
    by_test false from rest = rest

-- all groups at a later moment
pub groups_later : (w : SectionData) (d e : ℕ) (A : List Taken) → 0 < w.tail_sampling.num_traces → d ≤ e → TakenBy d A →
    groups w e None A ≡ groups w d None A ++ fired w.tail_sampling.policies e (waiting_rows w d None A)
unfolding groups
groups_later w d e A pos le by =
    let p = w.tail_sampling.policies in
    let N = spans_in_rows w A in
    let R = opened w A in
    let W = waiting_rows w d None A in
    let opens = OpenedBy-opened w d A by in
    let asc = Ascends-waiting w d d (length R) N R opens in
    let L = late w (placements w A) in
    let more : decided w e None N R R ≡ decided w d None N R R ++ fired p e W = decided_later w d e d N R R pos le opens opens in
    let none : L ++ cut_short w e None N R R ≡ L = ap (λ (gs : List (Group Arrival)). L ++ gs) (cut_none w e N R R) ∙ append-nil L in
    let none' : L ++ cut_short w d None N R R ≡ L = ap (λ (gs : List (Group Arrival)). L ++ gs) (cut_none w d N R R) ∙ append-nil L in
    let now : by_moment (decided w e None N R R ++ (L ++ cut_short w e None N R R)) ≡ by_moment ((decided w d None N R R ++ fired p e W) ++ L) =
    ap (λ (gs : List (Group Arrival)). by_moment (decided w e None N R R ++ gs)) none ∙ ap (λ (gs : List (Group Arrival)). by_moment (gs ++ L)) more in
    let before : by_moment (decided w d None N R R ++ (L ++ cut_short w d None N R R)) ≡ by_moment (decided w d None N R R ++ L) =
    ap (λ (gs : List (Group Arrival)). by_moment (decided w d None N R R ++ gs)) none' in
    now ∙ (by_moment-middle d (decided w d None N R R) (fired p e W) L (AllUpTo-decided w d N R R) (AllFrom_fired p (d + 1) e W asc) (Ascending_fired p (d + 1) e W asc) (AllUpTo-late w d A by)
    ∙ ap (λ (gs : List (Group Arrival)). gs ++ fired p e W) (sym before))

-- groups that came up to a moment, as the batcher has it
IsUpTo_is : (m : ℕ) (gs : List (Group Arrival)) → AllUpTo m gs → IsUpTo m gs
IsUpTo_is m [] up = tt
IsUpTo_is m (g ∷ gs) up = (up.0, IsUpTo_is m gs up.1)

pub IsUpTo-groups : (w : SectionData) (e : ℕ) (A : List Taken) → TakenBy e A → IsUpTo e (groups w e None A)
unfolding groups
IsUpTo-groups w e A by =
    let N = spans_in_rows w A in
    let R = opened w A in
    let L = late w (placements w A) in
    let none : L ++ cut_short w e None N R R ≡ L = ap (λ (gs : List (Group Arrival)). L ++ gs) (cut_none w e N R R) ∙ append-nil L in
    IsUpTo_is e _ (AllUpTo-by_moment e _ (AllUpTo-append e (decided w e None N R R) _ (AllUpTo-decided w e N R R) (rw none (AllUpTo-late w e A by))))

-- ---- batches

-- every group has a span, since no policy samples a row without one
pub some_spans : (p : List PolicyData) (xs : List Arrival) → are_sampled p xs ≡ true → 0 < length xs
some_spans p [] is = absurd (cc)
some_spans p (x ∷ xs) is = omega arith

pub InOrder-fired : (p : List PolicyData) (m e : ℕ) (ws : List WaitingData) → Ascends m ws → InOrder m (fired p e ws)
InOrder-fired p m e [] asc = tt
InOrder-fired p m e (r ∷ ws) asc = by_test (leb r.due e) (are_sampled p r.spans) refl (InOrder-fired p r.due e ws asc.1)
  where
    less : (k : ℕ) (gs : List (Group Arrival)) → m ≤ k → InOrder k gs → InOrder m gs
    less k [] le ord = tt
    less k (g ∷ gs) le ord = (omega (arith, le, ord.0), ord.1, ord.2)

    by_test : (a b : Bool) → are_sampled p r.spans ≡ b → InOrder r.due (fired p e ws) → InOrder m (cond (a && b) (record { moment = r.due; spans = r.spans } ∷ fired p e ws) (fired p e ws))
    by_test true true is rest = (asc.0, some_spans p r.spans is, rest)
    by_test true false is rest = less r.due (fired p e ws) asc.0 rest
    by_test false b is rest = less r.due (fired p e ws) asc.0 rest

last_fired : (p : List PolicyData) (m e : ℕ) (ws : List WaitingData) → m ≤ e → last_moment m (fired p e ws) ≤ e
last_fired p m e [] le = le
last_fired p m e (r ∷ ws) le = by_test (leb r.due e) (are_sampled p r.spans) refl (λ due. last_fired p r.due e ws due) (last_fired p m e ws le)
  where
    by_test : (a b : Bool) → leb r.due e ≡ a → (r.due ≤ e → last_moment r.due (fired p e ws) ≤ e) → last_moment m (fired p e ws) ≤ e →
        last_moment m (cond (a && b) (record { moment = r.due; spans = r.spans } ∷ fired p e ws) (fired p e ws)) ≤ e
    by_test true true is ih rest = ih (grind (arith, nat_tests, is))
    by_test true false is ih rest = rest
    by_test false b is ih rest = rest

InOrder_less : (m k : ℕ) (gs : List (Group Arrival)) → m ≤ k → InOrder k gs → InOrder m gs
InOrder_less m k [] le ord = tt
InOrder_less m k (g ∷ gs) le ord = (omega (arith, le, ord.0), ord.1, ord.2)

IsUpTo_later : (m n : ℕ) (gs : List (Group Arrival)) → m ≤ n → IsUpTo m gs → IsUpTo n gs
IsUpTo_later m n [] le up = tt
IsUpTo_later m n (g ∷ gs) le up = (omega (arith, le, up.0), IsUpTo_later m n gs le up.1)

IsUpTo_last : (m : ℕ) (gs more : List (Group Arrival)) → IsUpTo m gs → InOrder m more → IsUpTo (last_moment m more) (gs ++ more)
IsUpTo_last m gs [] up ord = rw append-nil up
IsUpTo_last m gs (g ∷ more) up ord =
    let here : IsUpTo g.moment (gs ++ g ∷ []) = push gs (IsUpTo_later m g.moment gs ord.0 up) in
    subst (λ (xs : List (Group Arrival)). IsUpTo (last_moment g.moment more) xs) (append_assoc gs (g ∷ []) more) (IsUpTo_last g.moment (gs ++ g ∷ []) more here ord.2)
  where
    push : (xs : List (Group Arrival)) → IsUpTo g.moment xs → IsUpTo g.moment (xs ++ g ∷ [])
    push [] up' = (omega arith, tt)
    push (x ∷ xs) up' = (up'.0, push xs up'.1)

-- all batches that form up to a later moment, of groups and of those that come meanwhile
batches_more : (r : Rules) (d e : ℕ) (G M : List (Group Arrival)) → AreValidRules r → IsUpTo d G → InOrder d M → last_moment d M ≤ e →
    (batches r e None (G ++ M) ≡ batches r d None G ++ (come_batches M (batcher.state r d None G) ++ passed e (come M (batcher.state r d None G))))
    × (batcher.state r e None (G ++ M) ≡ after e (come M (batcher.state r d None G)))
batches_more r d e G M sound up ord le =
    let P = batcher.state r d None G in
    let l = last_moment d M in
    let come_all = all_come r d G M sound up ord in
    let pass = passes r l e (G ++ M) sound (IsUpTo_last d G M up ord) le in
    let both : batches r l None (G ++ M) ++ passed e (batcher.state r l None (G ++ M)) ≡ (batches r d None G ++ come_batches M P) ++ passed e (come M P) =
    ap (λ (bs : List (Batch Arrival)). bs ++ passed e (batcher.state r l None (G ++ M))) come_all.0 ∙ ap (λ (s : batcher.State Arrival). (batches r d None G ++ come_batches M P) ++ passed e s) come_all.1 in
    (pass.0 ∙ (both ∙ append_assoc (batches r d None G) (come_batches M P) (passed e (come M P))), pass.1 ∙ ap (after e) come_all.1)

-- the batches of a tenant that form as time goes on from a batcher, by the rows that wait
abbrev pub meanwhile : List PolicyData → ℕ → List WaitingData → batcher.State Arrival → List (Batch Arrival)
meanwhile p e ws s = come_batches (fired p e ws) s ++ passed e (come (fired p e ws) s)

-- what is pending then
abbrev pub left_then : List PolicyData → ℕ → List WaitingData → batcher.State Arrival → batcher.State Arrival
left_then p e ws s = after e (come (fired p e ws) s)

pub formed_later : (w : SectionData) (d e : ℕ) (A : List Taken) → 0 < w.tail_sampling.num_traces → AreValidRules (rules_of w) → d ≤ e → TakenBy d A →
    formed w e None A ≡ formed w d None A ++ all_sent (meanwhile w.tail_sampling.policies e (waiting_rows w d None A) (pending w d None A))
unfolding formed pending
formed_later w d e A pos sound le by =
    let p = w.tail_sampling.policies in
    let R = opened w A in
    let W = waiting_rows w d None A in
    let G = groups w d None A in
    let asc = Ascends-waiting w d d (length R) (spans_in_rows w A) R (OpenedBy-opened w d A by) in
    let ord = InOrder_less d (d + 1) (fired p e W) (omega arith) (InOrder-fired p (d + 1) e W asc) in
    let more = batches_more (rules_of w) d e G (fired p e W) sound (IsUpTo-groups w d A by) ord (last_fired p d e W le) in
    let P = batcher.state (rules_of w) d None G in
    ap (λ (gs : List (Group Arrival)). all_sent (batches (rules_of w) e None gs)) (groups_later w d e A pos le by)
    ∙ (ap all_sent more.0 ∙ map-append as_sent (batches (rules_of w) d None G) (meanwhile p e W P))

pub pending_later : (w : SectionData) (d e : ℕ) (A : List Taken) → 0 < w.tail_sampling.num_traces → AreValidRules (rules_of w) → d ≤ e → TakenBy d A →
    pending w e None A ≡ left_then w.tail_sampling.policies e (waiting_rows w d None A) (pending w d None A)
unfolding pending
pending_later w d e A pos sound le by =
    let p = w.tail_sampling.policies in
    let R = opened w A in
    let W = waiting_rows w d None A in
    let G = groups w d None A in
    let asc = Ascends-waiting w d d (length R) (spans_in_rows w A) R (OpenedBy-opened w d A by) in
    let ord = InOrder_less d (d + 1) (fired p e W) (omega arith) (InOrder-fired p (d + 1) e W asc) in
    let more = batches_more (rules_of w) d e G (fired p e W) sound (IsUpTo-groups w d A by) ord (last_fired p d e W le) in
    ap (batcher.state (rules_of w) e None) (groups_later w d e A pos le by) ∙ more.1
