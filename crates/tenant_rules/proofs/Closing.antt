-- What a drain makes of rows, groups and batches: the rows that wait are decided at its moment, and what is pending then
-- is one batch.
use Rattle.std.proofs.Common.{◌≡◌, ℕ, ◌+◌, ◌<◌, ◌≤◌, List, [], ◌∷◌, ◌++◌, length, refl, sym, subst, ap, ◌∙◌, arith, append_assoc, append-nil, Bool, true, false, cond, leb, Some, None}
use Rattle.std.specs.Prelude.{min, option_to_list, if◌then◌else◌}
use Rattle.std.proofs.lemmas.Bool.Decides.{nat_tests}
use Rattle.std.proofs.lemmas.List.{map-append}
use Rattle.tail_settings.specs.Policy.{PolicyData}
use Rattle.tail_settings.specs.Section.{SectionData}
use Rattle.span_batcher.specs.Batches.{Rules, AreValidRules, Group, Batch, batches}
use Rattle.span_batcher.specs.State.{IsUpTo, IsAfter, next_due}
use Rattle.span_batcher.specs.State as batcher
use Rattle.span_batcher.specs.Machine.{cuts, added, fired}
use Rattle.span_batcher.specs.Machine as machine
use Rattle.span_batcher.proofs.Timers.{passes}
use Rattle.span_batcher.proofs.Laws.{adds, drains}
use Rattle.tenant_rules.specs.Arrivals.{Arrival}
use Rattle.tenant_rules.specs.Rows.{Taken, Opened, SpanInRow}
use Rattle.tenant_rules.specs.Fate.{are_sampled, is_evicted, SettledData, WaitingData, settled, waiting, dropped}
use Rattle.tenant_rules.specs.Placement.{opened, placements, spans_in_rows}
use Rattle.tenant_rules.specs.Decisions.{by_moment}
use Rattle.tenant_rules.specs.Groups.{decided, cut_short, late, groups}
use Rattle.tenant_rules.specs.Batching.{rules_of, as_sent, all_sent, formed, pending, waiting_rows}
use Rattle.tenant_rules.proofs.Order.{AllUpTo, AllUpTo-append, by_moment-push}
use Rattle.tenant_rules.proofs.Times.{TakenBy, OpenedBy, OpenedBy-opened, evicted_late, waiting_none, cut_none}
use Rattle.tenant_rules.proofs.Later.{AllUpTo-decided, AllUpTo-late, IsUpTo-groups, some_spans}
use Rattle.tenant_rules.proofs.Stays.{not_due, sound_of}

-- ---- rows that a drain decides at a moment

-- the groups that these rows make
abbrev pub cut_groups : List PolicyData → ℕ → List WaitingData → List (Group Arrival)
cut_groups p m [] = []
cut_groups p m (r ∷ rs) = if are_sampled p r.spans then record { moment = m; spans = r.spans } ∷ cut_groups p m rs else cut_groups p m rs

-- the rows as they are decided
abbrev pub all_done : List PolicyData → List WaitingData → List SettledData
all_done p [] = []
all_done p (r ∷ rs) = record { trace = r.trace; sampled = are_sampled p r.spans } ∷ all_done p rs

-- how many of their spans are dropped
abbrev pub all_lost : List PolicyData → List WaitingData → ℕ
all_lost p [] = 0
all_lost p (r ∷ rs) = (if are_sampled p r.spans then 0 else length r.spans) + all_lost p rs

cut_append : (p : List PolicyData) (m : ℕ) (xs ys : List WaitingData) → cut_groups p m (xs ++ ys) ≡ cut_groups p m xs ++ cut_groups p m ys
cut_append p m [] ys = refl
cut_append p m (x ∷ xs) ys = grind (arith, nat_tests, cut_append p m xs ys)

done_append : (p : List PolicyData) (xs ys : List WaitingData) → all_done p (xs ++ ys) ≡ all_done p xs ++ all_done p ys
done_append p [] ys = refl
done_append p (x ∷ xs) ys = ap (λ (ss : List SettledData). record { trace = x.trace; sampled = are_sampled p x.spans } ∷ ss) (done_append p xs ys)

lost_append : (p : List PolicyData) (xs ys : List WaitingData) → all_lost p (xs ++ ys) ≡ all_lost p xs + all_lost p ys
lost_append p [] ys = omega arith
lost_append p (x ∷ xs) ys = grind (arith, nat_tests, lost_append p xs ys)

-- a due moment and a drain: which comes first
min_due : (a e : ℕ) → a ≤ e → min a e ≡ a
min_due a e le = omega (arith, le)

min_drain : (a e : ℕ) → leb (min a e) e ≡ true
min_drain a e = let few : min a e ≤ e = omega arith in grind (arith, nat_tests, few)

pub decided_drained : (w : SectionData) (e : ℕ) (N : List SpanInRow) (all R : List Opened) → decided w e (Some e) N all R ≡ decided w e None N all R
decided_drained w e N all [] = refl
decided_drained w e N all (r ∷ R) =
    let a = r.moment + w.tail_sampling.decision_wait in
    let same : a ≤ e → min a e ≡ a = min_due a e in
    let over : leb (min a e) e ≡ true = min_drain a e in
    grind (arith, nat_tests, same, over, decided_drained w e N all R)

pub cut_drained : (w : SectionData) (e m : ℕ) (N : List SpanInRow) (all R : List Opened) → 0 < w.tail_sampling.num_traces → OpenedBy e all →
    cut_short w e (Some e) N all R ≡ cut_groups w.tail_sampling.policies e (waiting w e None N (length all) R)
cut_drained w e m N all [] pos by = refl
cut_drained w e m N all (r ∷ R) pos by =
    let a = r.moment + w.tail_sampling.decision_wait in
    let over : leb (min a e) e ≡ true = min_drain a e in
    let last : e < a → min a e ≡ e = λ lt. omega (arith, lt) in
    let out : e < a → is_evicted w (length R + 1) a all ≡ leb (length R + 1 + w.tail_sampling.num_traces) (length all) = λ lt. evicted_late e a (length R + 1 + w.tail_sampling.num_traces) all by lt (omega arith) in
    grind (arith, nat_tests, over, last, out, cut_append, append-nil, cut_drained w e m N all R pos by)

pub settled_drained : (w : SectionData) (e m n : ℕ) (N : List SpanInRow) (R : List Opened) → OpenedBy m R →
    settled w e (Some e) N n R ≡ settled w e None N n R ++ all_done w.tail_sampling.policies (waiting w e None N n R)
settled_drained w e m n N [] by = refl
settled_drained w e m n N (r ∷ R) by =
    let a = r.moment + w.tail_sampling.decision_wait in
    let over : leb (min a e) e ≡ true = min_drain a e in
    let none : a ≤ e → waiting w e None N n R ≡ [] = λ due. waiting_none w e r.moment n N R due by.1 in
    grind (arith, nat_tests, over, none, done_append, append_assoc, append-nil, settled_drained w e r.moment n N R by.1)

pub dropped_drained : (w : SectionData) (e : ℕ) (N : List SpanInRow) (all R : List Opened) → 0 < w.tail_sampling.num_traces → OpenedBy e all →
    dropped w e (Some e) N all R ≡ dropped w e None N all R + all_lost w.tail_sampling.policies (waiting w e None N (length all) R)
dropped_drained w e N all [] pos by = omega arith
dropped_drained w e N all (r ∷ R) pos by =
    let a = r.moment + w.tail_sampling.decision_wait in
    let over : leb (min a e) e ≡ true = min_drain a e in
    let out : e < a → is_evicted w (length R + 1) a all ≡ leb (length R + 1 + w.tail_sampling.num_traces) (length all) = λ lt. evicted_late e a (length R + 1 + w.tail_sampling.num_traces) all by lt (omega arith) in
    grind (arith, nat_tests, over, out, lost_append, dropped_drained w e N all R pos by)

-- ---- groups

-- groups of one moment, behind others that are no later
last_ones : (p : List PolicyData) (m : ℕ) (xs : List (Group Arrival)) (ws : List WaitingData) → AllUpTo m xs → by_moment (xs ++ cut_groups p m ws) ≡ by_moment xs ++ cut_groups p m ws
last_ones p m xs [] up = ap by_moment (append-nil xs) ∙ sym (append-nil (by_moment xs))
last_ones p m xs (r ∷ rs) up = by_test (are_sampled p r.spans) (last_ones p m xs rs up) (last_ones p m (xs ++ record { moment = m; spans = r.spans } ∷ []) rs (AllUpTo-append m xs (record { moment = m; spans = r.spans } ∷ []) up (omega arith, tt)))
  where
    by_test : (b : Bool) → by_moment (xs ++ cut_groups p m rs) ≡ by_moment xs ++ cut_groups p m rs →
        by_moment ((xs ++ record { moment = m; spans = r.spans } ∷ []) ++ cut_groups p m rs) ≡ by_moment (xs ++ record { moment = m; spans = r.spans } ∷ []) ++ cut_groups p m rs →
        by_moment (xs ++ cond b (record { moment = m; spans = r.spans } ∷ cut_groups p m rs) (cut_groups p m rs)) ≡ by_moment xs ++ cond b (record { moment = m; spans = r.spans } ∷ cut_groups p m rs) (cut_groups p m rs)
    by_test false without with_it = without
    by_test true without with_it =
        let g : Group Arrival = record { moment = m; spans = r.spans } in
        ap by_moment (sym (append_assoc xs (g ∷ []) (cut_groups p m rs)))
        ∙ (with_it ∙ (ap (λ (gs : List (Group Arrival)). gs ++ cut_groups p m rs) (by_moment-push xs g up) ∙ append_assoc (by_moment xs) (g ∷ []) (cut_groups p m rs)))

pub groups_drained : (w : SectionData) (e : ℕ) (A : List Taken) → 0 < w.tail_sampling.num_traces → TakenBy e A →
    groups w e (Some e) A ≡ groups w e None A ++ cut_groups w.tail_sampling.policies e (waiting_rows w e None A)
unfolding groups
groups_drained w e A pos by =
    let p = w.tail_sampling.policies in
    let N = spans_in_rows w A in
    let R = opened w A in
    let W = waiting_rows w e None A in
    let L = late w (placements w A) in
    let D = decided w e None N R R in
    let opens = OpenedBy-opened w e A by in
    let one : by_moment (decided w e (Some e) N R R ++ (L ++ cut_short w e (Some e) N R R)) ≡ by_moment (D ++ (L ++ cut_groups p e W)) =
    ap (λ (gs : List (Group Arrival)). by_moment (gs ++ (L ++ cut_short w e (Some e) N R R))) (decided_drained w e N R R) ∙ ap (λ (gs : List (Group Arrival)). by_moment (D ++ (L ++ gs))) (cut_drained w e e N R R pos opens) in
    let two : by_moment (D ++ (L ++ cut_groups p e W)) ≡ by_moment (D ++ L) ++ cut_groups p e W =
    ap by_moment (sym (append_assoc D L (cut_groups p e W))) ∙ last_ones p e (D ++ L) W (AllUpTo-append e D L (AllUpTo-decided w e N R R) (AllUpTo-late w e A by)) in
    let none : L ++ cut_short w e None N R R ≡ L = ap (λ (gs : List (Group Arrival)). L ++ gs) (cut_none w e N R R) ∙ append-nil L in
    one ∙ (two ∙ ap (λ (gs : List (Group Arrival)). by_moment (D ++ gs) ++ cut_groups p e W) (sym none))

-- ---- batches

-- what rows that are decided at one moment make of a batcher, one after the other
abbrev pub all_added : List PolicyData → ℕ → List WaitingData → batcher.State Arrival → batcher.State Arrival
all_added p m [] s = s
all_added p m (r ∷ rs) s = if are_sampled p r.spans then all_added p m rs (added m r.spans s) else all_added p m rs s

-- and the batches that they fill
abbrev pub all_cut : List PolicyData → ℕ → List WaitingData → batcher.State Arrival → List (Batch Arrival)
all_cut p m [] s = []
all_cut p m (r ∷ rs) s = if are_sampled p r.spans then cuts s.rules m (s.spans ++ r.spans) ++ all_cut p m rs (added m r.spans s) else all_cut p m rs s

pub later_than : (r : Rules) (m : ℕ) (G : List (Group Arrival)) → AreValidRules r → IsUpTo m G → IsAfter (next_due (batcher.state r m None G)) m
later_than r m G sound up =
    let s = batcher.state r m None G in
    let same = (passes r m m G sound up (omega arith)).1 in
    subst (λ (q : batcher.State Arrival). IsAfter (next_due q) m) (sym same) (not_due (next_due s) m s refl)

push_up : (m : ℕ) (G : List (Group Arrival)) (spans : List Arrival) → IsUpTo m G → IsUpTo m (G ++ record { moment = m; spans = spans } ∷ [])
push_up m [] spans up = (omega arith, tt)
push_up m (g ∷ G) spans up = (up.0, push_up m G spans up.1)

-- one group more at the moment reached
pub one_more : (r : Rules) (m : ℕ) (G : List (Group Arrival)) (xs : List Arrival) → 0 < length xs → AreValidRules r → IsUpTo m G →
    (batches r m None (G ++ record { moment = m; spans = xs } ∷ []) ≡ batches r m None G ++ cuts (batcher.state r m None G).rules m ((batcher.state r m None G).spans ++ xs))
    × (added m xs (batcher.state r m None G) ≡ batcher.state r m None (G ++ record { moment = m; spans = xs } ∷ []))
one_more r m G [] some sound up = absurd (omega (arith, some))
one_more r m G (x ∷ xs) some sound up = let s = batcher.state r m None G in adds m x xs s (sound_of r m G sound) (later_than r m G sound up) r m G up (omega arith) refl

cut_batches : (p : List PolicyData) (r : Rules) (m : ℕ) (G : List (Group Arrival)) (ws : List WaitingData) → AreValidRules r → IsUpTo m G →
    (batches r m None (G ++ cut_groups p m ws) ≡ batches r m None G ++ all_cut p m ws (batcher.state r m None G))
    × (batcher.state r m None (G ++ cut_groups p m ws) ≡ all_added p m ws (batcher.state r m None G)) × IsUpTo m (G ++ cut_groups p m ws)
cut_batches p r m G [] sound up = (ap (batches r m None) (append-nil G) ∙ sym (append-nil (batches r m None G)), ap (batcher.state r m None) (append-nil G), rw append-nil up)
cut_batches p r m G (row ∷ ws) sound up = by_test (are_sampled p row.spans) refl (cut_batches p r m G ws sound up) (cut_batches p r m (G ++ record { moment = m; spans = row.spans } ∷ []) ws sound (push_up m G row.spans up))
  where
    by_test : (b : Bool) → are_sampled p row.spans ≡ b →
        (batches r m None (G ++ cut_groups p m ws) ≡ batches r m None G ++ all_cut p m ws (batcher.state r m None G)) × (batcher.state r m None (G ++ cut_groups p m ws) ≡ all_added p m ws (batcher.state r m None G)) × IsUpTo m (G ++ cut_groups p m ws) →
        (batches r m None ((G ++ record { moment = m; spans = row.spans } ∷ []) ++ cut_groups p m ws) ≡ batches r m None (G ++ record { moment = m; spans = row.spans } ∷ []) ++ all_cut p m ws (batcher.state r m None (G ++ record { moment = m; spans = row.spans } ∷ [])))
        × (batcher.state r m None ((G ++ record { moment = m; spans = row.spans } ∷ []) ++ cut_groups p m ws) ≡ all_added p m ws (batcher.state r m None (G ++ record { moment = m; spans = row.spans } ∷ []))) × IsUpTo m ((G ++ record { moment = m; spans = row.spans } ∷ []) ++ cut_groups p m ws) →
        (batches r m None (G ++ cond b (record { moment = m; spans = row.spans } ∷ cut_groups p m ws) (cut_groups p m ws)) ≡ batches r m None G ++ cond b (cuts (batcher.state r m None G).rules m ((batcher.state r m None G).spans ++ row.spans) ++ all_cut p m ws (added m row.spans (batcher.state r m None G))) (all_cut p m ws (batcher.state r m None G)))
        × (batcher.state r m None (G ++ cond b (record { moment = m; spans = row.spans } ∷ cut_groups p m ws) (cut_groups p m ws)) ≡ cond b (all_added p m ws (added m row.spans (batcher.state r m None G))) (all_added p m ws (batcher.state r m None G)))
        × IsUpTo m (G ++ cond b (record { moment = m; spans = row.spans } ∷ cut_groups p m ws) (cut_groups p m ws))
    by_test false is without with_it = without
    by_test true is without with_it =
        let g : Group Arrival = record { moment = m; spans = row.spans } in
        let s = batcher.state r m None G in
        let C = cuts s.rules m (s.spans ++ row.spans) in
        let split : (G ++ g ∷ []) ++ cut_groups p m ws ≡ G ++ g ∷ cut_groups p m ws = append_assoc G (g ∷ []) (cut_groups p m ws) in
        let one = one_more r m G row.spans (some_spans p row.spans is) sound up in
        let b1 : batches r m None (G ++ g ∷ cut_groups p m ws) ≡ (batches r m None G ++ C) ++ all_cut p m ws (added m row.spans s) =
        ap (batches r m None) (sym split) ∙ (with_it.0 ∙ (ap (λ (bs : List (Batch Arrival)). bs ++ all_cut p m ws (batcher.state r m None (G ++ g ∷ []))) one.0 ∙ ap (λ (q : batcher.State Arrival). (batches r m None G ++ C) ++ all_cut p m ws q) (sym one.1))) in (
          b1 ∙ append_assoc (batches r m None G) C (all_cut p m ws (added m row.spans s)),
          ap (batcher.state r m None) (sym split) ∙ (with_it.1 ∙ ap (all_added p m ws) (sym one.1)),
          subst (λ (gs : List (Group Arrival)). IsUpTo m gs) split with_it.2,
        )

-- the batches of a drain
abbrev pub closing : List PolicyData → ℕ → List WaitingData → batcher.State Arrival → List (Batch Arrival)
closing p m ws s = all_cut p m ws s ++ option_to_list (machine.drained m (all_added p m ws s).spans)

both_drained : (w : SectionData) (e : ℕ) (A : List Taken) → 0 < w.tail_sampling.num_traces → AreValidRules (rules_of w) → TakenBy e A →
    (batches (rules_of w) e (Some e) (groups w e (Some e) A) ≡ batches (rules_of w) e None (groups w e None A) ++ closing w.tail_sampling.policies e (waiting_rows w e None A) (batcher.state (rules_of w) e None (groups w e None A)))
    × (batcher.state (rules_of w) e (Some e) (groups w e (Some e) A) ≡ fired (all_added w.tail_sampling.policies e (waiting_rows w e None A) (batcher.state (rules_of w) e None (groups w e None A))))
both_drained w e A pos sound by =
    let p = w.tail_sampling.policies in
    let r = rules_of w in
    let G = groups w e None A in
    let W = waiting_rows w e None A in
    let more = cut_groups p e W in
    let s = batcher.state r e None G in
    let cut = cut_batches p r e G W sound (IsUpTo-groups w e A by) in
    let t = batcher.state r e None (G ++ more) in
    let last = drains e t (sound_of r e (G ++ more) sound) (later_than r e (G ++ more) sound cut.2) r e (G ++ more) cut.2 (omega arith) refl in
    let same = groups_drained w e A pos by in (
      ap (batches r e (Some e)) same ∙ (last.0 ∙ (ap (λ (bs : List (Batch Arrival)). bs ++ option_to_list (machine.drained e t.spans)) cut.0
          ∙ (ap (λ (q : batcher.State Arrival). (batches r e None G ++ all_cut p e W s) ++ option_to_list (machine.drained e q.spans)) cut.1
          ∙ append_assoc (batches r e None G) (all_cut p e W s) (option_to_list (machine.drained e (all_added p e W s).spans))))),
      ap (batcher.state r e (Some e)) same ∙ (sym last.1 ∙ ap fired cut.1),
    )

pub formed_drained : (w : SectionData) (e : ℕ) (A : List Taken) → 0 < w.tail_sampling.num_traces → AreValidRules (rules_of w) → TakenBy e A →
    formed w e (Some e) A ≡ formed w e None A ++ all_sent (closing w.tail_sampling.policies e (waiting_rows w e None A) (pending w e None A))
unfolding formed pending
formed_drained w e A pos sound by =
    ap all_sent (both_drained w e A pos sound by).0
    ∙ map-append as_sent (batches (rules_of w) e None (groups w e None A)) (closing w.tail_sampling.policies e (waiting_rows w e None A) (batcher.state (rules_of w) e None (groups w e None A)))

pub pending_drained : (w : SectionData) (e : ℕ) (A : List Taken) → 0 < w.tail_sampling.num_traces → AreValidRules (rules_of w) → TakenBy e A →
    pending w e (Some e) A ≡ fired (all_added w.tail_sampling.policies e (waiting_rows w e None A) (pending w e None A))
unfolding pending
pending_drained w e A pos sound by = (both_drained w e A pos sound by).1
