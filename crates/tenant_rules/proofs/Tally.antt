-- The counters along a walk: what waits, is pending, queued and active is counted where it is.
use Rattle.std.proofs.Common.{◌≡◌, ℕ, ◌+◌, ◌-◌, ◌<◌, ◌≤◌, List, [], ◌∷◌, ◌++◌, length, refl, sym, ap, ◌∙◌, arith, length-append, Bool, true, false, cond, leb, ◌&&◌, not, Option, Some, None}
use Rattle.std.specs.Prelude.{if◌then◌else◌, unwrap_or}
use Rattle.std.proofs.lemmas.Bool.Decides.{nat_tests}
use Rattle.std.proofs.lemmas.List.{map-append}
use Rattle.tail_settings.specs.Policy.{PolicyData}
use Rattle.drop_ledger.specs.declared.places.Place.TheVariants.{Undecided, Pending, Queued, NotSampled, QueueFull}
use Rattle.drop_ledger.specs.Ledger.{LedgerData, moved}
use Rattle.span_batcher.specs.Batches.{Rules, Batch}
use Rattle.span_batcher.specs.State.{next_due}
use Rattle.span_batcher.specs.Machine.{cuts, uncut, added, fired}
use Rattle.span_batcher.specs.Maps.{spans_of}
use Rattle.span_batcher.specs.Timers.{is_due, passed, after}
use Rattle.span_batcher.proofs.Maps.{cuts-whole}
use Rattle.tenant_rules.specs.Arrivals.{Arrival}
use Rattle.tenant_rules.specs.Fate.{WaitingData, are_sampled}
use Rattle.tenant_rules.specs.Sender.{BatchData, SenderData, sizes, active_sizes, finds_no_room}
use Rattle.tenant_rules.specs.Sending.{all_offered, overflow}
use Rattle.tenant_rules.specs.Batching.{as_sent, all_sent, spans_in}
use Rattle.tenant_rules.specs.State.{State}
use Rattle.tenant_rules.specs.Timers.{recount, queued, all_queued, flushed, settle, sample, decide_row, decide}
use Rattle.tenant_rules.proofs.Times as times
use Rattle.tenant_rules.proofs.Times.{Ascends}
use Rattle.tenant_rules.proofs.Later.{meanwhile}
use Rattle.tenant_rules.proofs.Fronts.{resent, all_queued-is}
use Rattle.tenant_rules.proofs.Walks.{flush_by, walk, flush_by-waiting, decide-waiting}
use Rattle.tenant_rules.proofs.Walked.{flush_by-is, decide-is, pending_with, batches_with, step_pending, none_due}

-- counters with these six numbers
abbrev pub set_counts : LedgerData → ℕ → ℕ → ℕ → ℕ → ℕ → ℕ → LedgerData
set_counts l undecided pending queued active not_sampled queue_full = record l {
  places = record l.places { undecided = undecided; pending = pending; queued = queued; active = active; not_sampled = not_sampled; queue_full = queue_full };
}

pub set_same : (l : LedgerData) (u u' p p' q q' a a' n n' f f' : ℕ) → u ≡ u' → p ≡ p' → q ≡ q' → a ≡ a' → n ≡ n' → f ≡ f' → set_counts l u p q a n f ≡ set_counts l u' p' q' a' n' f'
set_same l u u' p p' q q' a a' n n' f f' e1 e2 e3 e4 e5 e6 = cc (e1, e2, e3, e4, e5, e6)

-- four of them are what a state's lists have
abbrev pub Tally : LedgerData → ℕ → ℕ → State → Type 0
Tally l n f s = s.ledger ≡ set_counts l (spans_in s.waiting) (length s.pending.spans) (sizes s.sender.queue) (active_sizes s.sender.active) n f

pub sizes_cons : (b : BatchData) (bs : List BatchData) → sizes (b ∷ bs) ≡ b.spans + sizes bs
sizes_cons b bs = refl

pub sizes-append : (xs ys : List BatchData) → sizes (xs ++ ys) ≡ sizes xs + sizes ys
sizes-append [] ys = omega arith
sizes-append (x ∷ xs) ys =
    let all : x.spans + sizes (xs ++ ys) ≡ (x.spans + sizes xs) + sizes ys = omega (arith, sizes-append xs ys) in all

sizes-sent : (bs : List (Batch Arrival)) → sizes (all_sent bs) ≡ length (spans_of bs)
sizes-sent [] = refl
sizes-sent (b ∷ bs) =
    let all : length b.spans + sizes (all_sent bs) ≡ length (b.spans ++ spans_of bs) = omega (arith, sizes-sent bs, length-append b.spans (spans_of bs)) in all

-- what is cut and what is left are all
pub cut_sizes : (r : Rules) (m : ℕ) (xs : List Arrival) → length xs ≡ length (uncut r xs) + sizes (all_sent (cuts r m xs))
cut_sizes r m xs =
    let whole : length (spans_of (cuts r m xs) ++ uncut r xs) ≡ length xs = ap length (cuts-whole r m xs) in
    omega (arith, whole, sizes-sent (cuts r m xs), length-append (spans_of (cuts r m xs)) (uncut r xs))

pub overflow-append : (xs ys : List BatchData) (s : SenderData) → overflow (xs ++ ys) s ≡ overflow xs s ++ overflow ys (all_offered xs s)
overflow-append [] ys s = refl
overflow-append (x ∷ xs) ys s = by_test (finds_no_room x s) (overflow-append xs ys s) (overflow-append xs ys (record s { queue = s.queue ++ x ∷ [] }))
  where
    by_test : (f : Bool) → overflow (xs ++ ys) s ≡ overflow xs s ++ overflow ys (all_offered xs s) →
        overflow (xs ++ ys) (record s { queue = s.queue ++ x ∷ [] }) ≡ overflow xs (record s { queue = s.queue ++ x ∷ [] }) ++ overflow ys (all_offered xs (record s { queue = s.queue ++ x ∷ [] })) →
        cond f (x ∷ overflow (xs ++ ys) s) (overflow (xs ++ ys) (cond f s (record s { queue = s.queue ++ x ∷ [] })))
        ≡ cond f (x ∷ overflow xs s) (overflow xs (cond f s (record s { queue = s.queue ++ x ∷ [] }))) ++ overflow ys (all_offered xs (cond f s (record s { queue = s.queue ++ x ∷ [] })))
    by_test true full room = ap (λ (bs : List BatchData). x ∷ bs) full
    by_test false full room = room

-- ---- batches are offered

pub queued_tally : (bs : List BatchData) (s : State) (l : LedgerData) (u k n f : ℕ) → s.ledger ≡ set_counts l u (k + sizes bs) (sizes s.sender.queue) (active_sizes s.sender.active) n f →
    (all_queued bs s).ledger ≡ set_counts l u k (sizes (all_offered bs s.sender).queue) (active_sizes (all_offered bs s.sender).active) n (f + sizes (overflow bs s.sender))
queued_tally [] s l u k n f is = is ∙ set_same l u u (k + 0) k (sizes s.sender.queue) (sizes s.sender.queue) (active_sizes s.sender.active) (active_sizes s.sender.active) n n f (f + 0) refl (omega arith) refl refl refl (omega arith)
queued_tally (b ∷ bs) s l u k n f is = by_test (finds_no_room b s.sender) (λ t f' is'. queued_tally bs t l u k n f' is')
  where
    by_test : (g : Bool) → ((t : State) (f' : ℕ) → t.ledger ≡ set_counts l u (k + sizes bs) (sizes t.sender.queue) (active_sizes t.sender.active) n f' →
        (all_queued bs t).ledger ≡ set_counts l u k (sizes (all_offered bs t.sender).queue) (active_sizes (all_offered bs t.sender).active) n (f' + sizes (overflow bs t.sender))) →
        (all_queued bs (cond g (recount Pending QueueFull b.spans s) (recount Pending Queued b.spans (record s { sender = cond g s.sender (record s.sender { queue = s.sender.queue ++ b ∷ [] }) })))).ledger
        ≡ set_counts l u k (sizes (all_offered bs (cond g s.sender (record s.sender { queue = s.sender.queue ++ b ∷ [] }))).queue) (active_sizes (all_offered bs (cond g s.sender (record s.sender { queue = s.sender.queue ++ b ∷ [] }))).active) n
        (f + sizes (cond g (b ∷ overflow bs s.sender) (overflow bs (cond g s.sender (record s.sender { queue = s.sender.queue ++ b ∷ [] })))))
    by_test true ih =
        let q = sizes s.sender.queue in let a = active_sizes s.sender.active in
        let moves : moved Pending QueueFull b.spans s.ledger ≡ set_counts l u (k + sizes (b ∷ bs) - b.spans) q a n (f + b.spans) = ap (moved Pending QueueFull b.spans) is in
        let rest = ih (recount Pending QueueFull b.spans s) (f + b.spans) (moves ∙ set_same l u u (k + sizes (b ∷ bs) - b.spans) (k + sizes bs) q q a a n n (f + b.spans) (f + b.spans) refl (omega (arith, sizes_cons b bs)) refl refl refl refl) in
        let t = all_offered bs s.sender in
        rest ∙ set_same l u u k k (sizes t.queue) (sizes t.queue) (active_sizes t.active) (active_sizes t.active) n n (f + b.spans + sizes (overflow bs s.sender)) (f + sizes (b ∷ overflow bs s.sender)) refl refl refl refl refl (omega (arith, sizes_cons b (overflow bs s.sender)))
    by_test false ih =
        let q = sizes s.sender.queue in let a = active_sizes s.sender.active in
        let moves : moved Pending Queued b.spans s.ledger ≡ set_counts l u (k + sizes (b ∷ bs) - b.spans) (q + b.spans) a n f = ap (moved Pending Queued b.spans) is in
        let alone : sizes (b ∷ []) ≡ b.spans = omega (arith, sizes_cons b []) in
        let longer : q + b.spans ≡ sizes (s.sender.queue ++ b ∷ []) = omega (arith, alone, sizes-append s.sender.queue (b ∷ [])) in
        ih (recount Pending Queued b.spans (record s { sender = record s.sender { queue = s.sender.queue ++ b ∷ [] } })) f (moves ∙ set_same l u u (k + sizes (b ∷ bs) - b.spans) (k + sizes bs) (q + b.spans) (sizes (s.sender.queue ++ b ∷ [])) a a n n f f refl (omega (arith, sizes_cons b bs)) longer refl refl refl)

-- the lists of a state to whose sender batches were offered
tally_of : (l : LedgerData) (n f : ℕ) (t s : State) (D : SenderData) → t ≡ resent D t.ledger s →
    t.ledger ≡ set_counts l (spans_in s.waiting) (length s.pending.spans) (sizes D.queue) (active_sizes D.active) n f → Tally l n f t
tally_of l n f t s D is counts =
    counts ∙ set_same l (spans_in s.waiting) (spans_in t.waiting) (length s.pending.spans) (length t.pending.spans) (sizes D.queue) (sizes t.sender.queue) (active_sizes D.active) (active_sizes t.sender.active) n n f f
    (sym (ap (λ (z : State). spans_in z.waiting) is)) (sym (ap (λ (z : State). length z.pending.spans) is)) (sym (ap (λ (z : State). sizes z.sender.queue) is)) (sym (ap (λ (z : State). active_sizes z.sender.active) is)) refl refl

-- ---- timers

flush_tally : (l : LedgerData) (n f m : ℕ) (o : Option ℕ) (s : State) → Tally l n f s →
    Tally l n (f + sizes (overflow (all_sent (cond (is_due o m) (record { moment = unwrap_or o m; spans = s.pending.spans } ∷ []) [])) s.sender)) (cond (is_due o m) (flushed o s) s)
flush_tally l n f m None s is = is ∙ set_same l _ _ _ _ _ _ _ _ n n f (f + 0) refl refl refl refl refl (omega arith)
flush_tally l n f m (Some d) s is = by_test (leb d m)
  where
    by_test : (b : Bool) → Tally l n (f + sizes (overflow (all_sent (cond b (record { moment = d; spans = s.pending.spans } ∷ []) [])) s.sender)) (cond b (flushed (Some d) s) s)
    by_test false = is ∙ set_same l _ _ _ _ _ _ _ _ n n f (f + 0) refl refl refl refl refl (omega arith)
    by_test true =
        let one = all_sent (record { moment = d; spans = s.pending.spans } ∷ []) in
        let s0 : State = record s { clock = d; pending = fired s.pending } in
        let q = sizes s.sender.queue in let a = active_sizes s.sender.active in let u = spans_in s.waiting in
        let size : sizes one ≡ length s.pending.spans + 0 = refl in
        let start : s0.ledger ≡ set_counts l u (0 + sizes one) q a n f = is ∙ set_same l u u (length s.pending.spans) (0 + sizes one) q q a a n n f f refl (omega (arith, size)) refl refl refl refl in
        tally_of l n (f + sizes (overflow one s.sender)) (all_queued one s0) s0 (all_offered one s.sender) (all_queued-is one s0) (queued_tally one s0 l u 0 n f start)

pub flush_by_tally : (l : LedgerData) (n f m : ℕ) (s : State) → Tally l n f s → Tally l n (f + sizes (overflow (all_sent (passed m s.pending)) s.sender)) (flush_by m s)
flush_by_tally l n f m s is = flush_tally l n f m (next_due s.pending) s is

-- how many spans of a row are dropped at its decision
abbrev pub lost_in : Bool → List Arrival → ℕ
lost_in sampled spans = if sampled then 0 else length spans

decide_tally : (l : LedgerData) (n f m : ℕ) (r : WaitingData) (rs : List WaitingData) (s : State) (b sampled : Bool) → s.waiting ≡ r ∷ rs → Tally l n f s →
    Tally l (n + lost_in b r.spans) (f + sizes (overflow (all_sent (batches_with b m r.spans s.pending)) s.sender)) (sample m r b (settle m r rs sampled s))
unfolding added
decide_tally l n f m r rs s true sampled waits is =
    let all = s.pending.spans ++ r.spans in
    let bs = all_sent (cuts s.pending.rules m all) in
    let s0 : State = recount Undecided Pending (length r.spans) (record (settle m r rs sampled s) { pending = added m r.spans s.pending }) in
    let q = sizes s.sender.queue in let a = active_sizes s.sender.active in let u = spans_in s.waiting in let p = length s.pending.spans in
    let few : u ≡ length r.spans + spans_in rs = ap spans_in waits in
    let moves : s0.ledger ≡ set_counts l (u - length r.spans) (p + length r.spans) q a n f = ap (moved Undecided Pending (length r.spans)) is in
    let whole = cut_sizes s.pending.rules m all in
    let start : s0.ledger ≡ set_counts l (spans_in rs) (length (uncut s.pending.rules all) + sizes bs) q a n f =
    moves ∙ set_same l (u - length r.spans) (spans_in rs) (p + length r.spans) (length (uncut s.pending.rules all) + sizes bs) q q a a n n f f (omega (arith, few)) (omega (arith, whole, length-append s.pending.spans r.spans)) refl refl refl refl in
    let done = tally_of l n (f + sizes (overflow bs s.sender)) (all_queued bs s0) s0 (all_offered bs s.sender) (all_queued-is bs s0) (queued_tally bs s0 l (spans_in rs) (length (uncut s.pending.rules all)) n f start) in
    done ∙ set_same l _ _ _ _ _ _ _ _ n (n + 0) _ _ refl refl refl refl (omega arith) refl
decide_tally l n f m r rs s false sampled waits is =
    let q = sizes s.sender.queue in let a = active_sizes s.sender.active in let u = spans_in s.waiting in let p = length s.pending.spans in
    let few : u ≡ length r.spans + spans_in rs = ap spans_in waits in
    let moves : moved Undecided NotSampled (length r.spans) s.ledger ≡ set_counts l (u - length r.spans) p q a (n + length r.spans) f = ap (moved Undecided NotSampled (length r.spans)) is in
    moves ∙ set_same l (u - length r.spans) (spans_in rs) p p q q a a (n + length r.spans) (n + length r.spans) f (f + 0) (omega (arith, few)) refl refl refl refl (omega arith)

pub decide_row_tally : (l : LedgerData) (n f m : ℕ) (p : List PolicyData) (r : WaitingData) (rs : List WaitingData) (s : State) → s.section.tail_sampling.policies ≡ p → s.waiting ≡ r ∷ rs → Tally l n f s →
    Tally l (n + lost_in (are_sampled p r.spans) r.spans) (f + sizes (overflow (all_sent (batches_with (are_sampled p r.spans) m r.spans s.pending)) s.sender)) (decide_row m r rs s)
decide_row_tally l n f m p r rs s pol waits is =
    let at = are_sampled s.section.tail_sampling.policies r.spans in
    let same : at ≡ are_sampled p r.spans = ap (λ (q : List PolicyData). are_sampled q r.spans) pol in
    decide_tally l n f m r rs s at at waits is ∙ set_same l _ _ _ _ _ _ _ _ _ _ _ _ refl refl refl refl
    (ap (λ (b : Bool). n + lost_in b r.spans) same) (ap (λ (b : Bool). f + sizes (overflow (all_sent (batches_with b m r.spans s.pending)) s.sender)) same)

-- ---- the walk

-- what finds no room of three lists of batches
overflow_thrice : (xs ys zs : List (Batch Arrival)) (s : SenderData) →
    sizes (overflow (all_sent (xs ++ (ys ++ zs))) s) ≡ sizes (overflow (all_sent xs) s) + (sizes (overflow (all_sent ys) (all_offered (all_sent xs) s)) + sizes (overflow (all_sent zs) (all_offered (all_sent ys) (all_offered (all_sent xs) s))))
overflow_thrice xs ys zs s =
    let a : all_sent (xs ++ (ys ++ zs)) ≡ all_sent xs ++ (all_sent ys ++ all_sent zs) = map-append as_sent xs (ys ++ zs) ∙ ap (λ (bs : List BatchData). all_sent xs ++ bs) (map-append as_sent ys zs) in
    let t = all_offered (all_sent xs) s in
    let one : overflow (all_sent (xs ++ (ys ++ zs))) s ≡ overflow (all_sent xs) s ++ overflow (all_sent ys ++ all_sent zs) t = ap (λ (bs : List BatchData). overflow bs s) a ∙ overflow-append (all_sent xs) (all_sent ys ++ all_sent zs) s in
    let two = overflow-append (all_sent ys) (all_sent zs) t in
    let all : overflow (all_sent (xs ++ (ys ++ zs))) s ≡ overflow (all_sent xs) s ++ (overflow (all_sent ys) t ++ overflow (all_sent zs) (all_offered (all_sent ys) t)) = one ∙ ap (λ (bs : List BatchData). overflow (all_sent xs) s ++ bs) two in
    let n1 = sizes-append (overflow (all_sent xs) s) (overflow (all_sent ys) t ++ overflow (all_sent zs) (all_offered (all_sent ys) t)) in
    let n2 = sizes-append (overflow (all_sent ys) t) (overflow (all_sent zs) (all_offered (all_sent ys) t)) in
    omega (arith, ap sizes all, n1, n2)

pub walk_tally : (l : LedgerData) (n f e m : ℕ) (p : List PolicyData) (ws : List WaitingData) (s : State) → s.section.tail_sampling.policies ≡ p → s.waiting ≡ ws → Ascends m ws → Tally l n f s →
    Tally l (n + times.lost p e ws) (f + sizes (overflow (all_sent (meanwhile p e ws s.pending)) s.sender)) (walk e ws s)
walk_tally l n f e m p [] s pol waits asc is = flush_by_tally l n f e s is ∙ set_same l _ _ _ _ _ _ _ _ n (n + 0) _ _ refl refl refl refl (omega arith) refl
walk_tally l n f e m p (r ∷ rs) s pol waits asc is = by_test (leb r.due e) refl (λ t n' f' pol' waits' is'. walk_tally l n' f' e r.due p rs t pol' waits' asc.1 is')
  where
    by_test : (b : Bool) → leb r.due e ≡ b → ((t : State) (n' f' : ℕ) → t.section.tail_sampling.policies ≡ p → t.waiting ≡ rs → Tally l n' f' t →
        Tally l (n' + times.lost p e rs) (f' + sizes (overflow (all_sent (meanwhile p e rs t.pending)) t.sender)) (walk e rs t)) →
        Tally l (n + times.lost p e (r ∷ rs)) (f + sizes (overflow (all_sent (meanwhile p e (r ∷ rs) s.pending)) s.sender)) (cond b (walk e rs (decide (r ∷ rs) (flush_by r.due s))) (flush_by e s))
    by_test true b ih =
        let le : r.due ≤ e = grind (arith, nat_tests, b) in
        let sampled = are_sampled p r.spans in
        let s1 = flush_by r.due s in
        let s2 = decide (r ∷ rs) s1 in
        let e1 = flush_by-is 0 r.due s in
        let pol1 : s1.section.tail_sampling.policies ≡ p = ap (λ (t : State). t.section.tail_sampling.policies) e1 ∙ pol in
        let e2 = decide-is 0 p r rs s1 pol1 in
        let pol2 : s2.section.tail_sampling.policies ≡ p = ap (λ (t : State). t.section.tail_sampling.policies) e2 ∙ pol1 in
        let t1 = flush_by_tally l n f r.due s is in
        let f1 = f + sizes (overflow (all_sent (passed r.due s.pending)) s.sender) in
        let t2 = decide_row_tally l n f1 r.due p r rs s1 pol1 (flush_by-waiting r.due s ∙ waits) t1 in
        let f2 = f1 + sizes (overflow (all_sent (batches_with sampled r.due r.spans s1.pending)) s1.sender) in
        let rest = ih s2 (n + lost_in sampled r.spans) f2 pol2 (decide-waiting r rs s1) t2 in
        let P1 = after r.due s.pending in
        let sent1 = all_offered (all_sent (passed r.due s.pending)) s.sender in
        let P2 = pending_with sampled r.due r.spans P1 in
        let sent2 = all_offered (all_sent (batches_with sampled r.due r.spans P1)) sent1 in
        let pending1 : s1.pending ≡ P1 = ap (λ (t : State). t.pending) e1 in
        let sender1 : s1.sender ≡ sent1 = ap (λ (t : State). t.sender) e1 in
        let pending2 : s2.pending ≡ P2 = ap (λ (t : State). t.pending) e2 ∙ ap (pending_with sampled r.due r.spans) pending1 in
        let sender2 : s2.sender ≡ sent2 = ap (λ (t : State). t.sender) e2 ∙ cc (pending1, sender1) in
        let o2 : sizes (overflow (all_sent (batches_with sampled r.due r.spans s1.pending)) s1.sender) ≡ sizes (overflow (all_sent (batches_with sampled r.due r.spans P1)) sent1) = cc (pending1, sender1) in
        let o3 : sizes (overflow (all_sent (meanwhile p e rs s2.pending)) s2.sender) ≡ sizes (overflow (all_sent (meanwhile p e rs P2)) sent2) = cc (pending2, sender2) in
        let sp = step_pending p e r rs s.pending le asc.1 in
        let sum3 = overflow_thrice (passed r.due s.pending) (batches_with sampled r.due r.spans P1) (meanwhile p e rs P2) s.sender in
        let whole : sizes (overflow (all_sent (meanwhile p e (r ∷ rs) s.pending)) s.sender) ≡ sizes (overflow (all_sent (passed r.due s.pending ++ (batches_with sampled r.due r.spans P1 ++ meanwhile p e rs P2))) s.sender) = ap (λ (bs : List (Batch Arrival)). sizes (overflow (all_sent bs) s.sender)) (sym sp.1) in
        let lost_is : n + lost_in sampled r.spans + times.lost p e rs ≡ n + times.lost p e (r ∷ rs) = lost_step b in
        rest ∙ set_same l _ _ _ _ _ _ _ _ (n + lost_in sampled r.spans + times.lost p e rs) (n + times.lost p e (r ∷ rs)) (f2 + sizes (overflow (all_sent (meanwhile p e rs s2.pending)) s2.sender)) (f + sizes (overflow (all_sent (meanwhile p e (r ∷ rs) s.pending)) s.sender)) refl refl refl refl lost_is (omega (arith, o2, o3, sum3, whole))
      where
        lost_step : leb r.due e ≡ true → n + lost_in (are_sampled p r.spans) r.spans + times.lost p e rs ≡ n + times.lost p e (r ∷ rs)
        lost_step due = rw due (by_kept (are_sampled p r.spans))
          where
            by_kept : (k : Bool) → n + lost_in k r.spans + times.lost p e rs ≡ n + (cond (true && not k) (length r.spans) 0 + times.lost p e rs)
            by_kept true = omega arith
            by_kept false = omega arith
    by_test false b ih =
        let lt : e < r.due = grind (arith, nat_tests, b) in
        let none = none_due p e r.due (r ∷ rs) lt (omega arith, asc.1) in
        let batches_is : passed e s.pending ≡ meanwhile p e (r ∷ rs) s.pending = ap (λ gs. Rattle.span_batcher.specs.Timers.come_batches gs s.pending ++ passed e (Rattle.span_batcher.specs.Timers.come gs s.pending)) (sym none.2) in
        flush_by_tally l n f e s is ∙ set_same l _ _ _ _ _ _ _ _ n (n + times.lost p e (r ∷ rs)) _ _ refl refl refl refl (omega (arith, none.3)) (ap (λ (bs : List (Batch Arrival)). f + sizes (overflow (all_sent bs) s.sender)) batches_is)
