-- Timers that run one at a time do what a walk over the rows that wait does.
use Rattle.std.proofs.Common.{◌≡◌, ℕ, ◌+◌, ◌<◌, ◌≤◌, List, [], ◌∷◌, ◌++◌, length, refl, sym, ap, ◌∙◌, arith, Bool, true, false, cond, leb, Option, Some, None, subst}
use Rattle.std.specs.Prelude.{if◌then◌else◌}
use Rattle.std.proofs.lemmas.Bool.Decides.{nat_tests}
use Rattle.span_batcher.specs.State.{next_due}
use Rattle.span_batcher.specs.Machine.{cuts, added, fired}
use Rattle.span_batcher.specs.Timers.{is_due}
use Rattle.drop_ledger.specs.declared.places.Place.TheVariants.{Undecided, Pending}
use Rattle.tenant_rules.specs.Fate.{WaitingData, are_sampled}
use Rattle.tenant_rules.specs.Batching.{all_sent}
use Rattle.tenant_rules.specs.Ready.{lesser}
use Rattle.tenant_rules.specs.State.{State}
use Rattle.tenant_rules.specs.Timers.{recount, flushed, settle, sample, decide, first_due, next_timer, is_batch, one_run, ran, IsFront, enough}
use Rattle.tenant_rules.proofs.Fronts.{ran_none, ran-more, IsFront-push, all_queued-is, enough_done}

-- the batch timer runs where it is due by then
abbrev pub flush_by : ℕ → State → State
flush_by m s = if is_due (next_due s.pending) m then flushed (next_due s.pending) s else s

-- each row that is due by then is decided, the batch timer before it; then the batch timer
abbrev pub walk : ℕ → List WaitingData → State → State
walk e [] s = flush_by e s
walk e (r ∷ rs) s = if leb r.due e then walk e rs (decide (r ∷ rs) (flush_by r.due s)) else flush_by e s

IsFront-trans : (e : ℕ) (a b c : State) → IsFront e a b → IsFront e b c → IsFront e a c
IsFront-trans e a b c p q = (p.0 + q.0, q.1 ∙ (ap (ran q.0 e) p.1 ∙ sym (ran-more p.0 q.0 e a)))

IsFront-one : (e : ℕ) (s : State) → is_due (next_timer s) e ≡ true → IsFront e s (one_run s)
IsFront-one e s due = IsFront-push e s s (one_run s) (0, refl) due refl

flushed-waiting : (o : Option ℕ) (s : State) → (flushed o s).waiting ≡ s.waiting
flushed-waiting None s = refl
flushed-waiting (Some d) s = ap (λ (t : State). t.waiting) (all_queued-is (all_sent (record { moment = d; spans = s.pending.spans } ∷ [])) (record s { clock = d; pending = fired s.pending }))

pub flush_by-waiting : (m : ℕ) (s : State) → (flush_by m s).waiting ≡ s.waiting
flush_by-waiting m s = by_test (is_due (next_due s.pending) m)
  where
    by_test : (b : Bool) → (cond b (flushed (next_due s.pending) s) s).waiting ≡ s.waiting
    by_test true = flushed-waiting (next_due s.pending) s
    by_test false = refl

-- the batch timer is the first where it is due before the first row is
is_first : (o w : Option ℕ) (m e : ℕ) → is_due o m ≡ true → m ≤ e → ((d : ℕ) → w ≡ Some d → m ≤ d) → (is_batch o w ≡ true) × (is_due (lesser o w) e ≡ true)
is_first None w m e due le after = absurd (cc)
is_first (Some d) None m e due le after = (refl, grind (arith, nat_tests, due, le))
is_first (Some d) (Some r) m e due le after = let a : m ≤ r = after r refl in (grind (arith, nat_tests, due, a), grind (arith, nat_tests, due, le, a))

flush_by-front : (m e : ℕ) (s : State) → m ≤ e → ((d : ℕ) → first_due s.waiting ≡ Some d → m ≤ d) → IsFront e s (flush_by m s)
flush_by-front m e s le after = by_test (is_due (next_due s.pending) m) refl
  where
    by_test : (b : Bool) → is_due (next_due s.pending) m ≡ b → IsFront e s (cond b (flushed (next_due s.pending) s) s)
    by_test true is =
        let first = is_first (next_due s.pending) (first_due s.waiting) m e is le after in
        let run : one_run s ≡ flushed (next_due s.pending) s = rw first.0 refl in
        subst (λ (t : State). IsFront e s t) run (IsFront-one e s first.1)
    by_test false is = (0, refl)

-- after it the first row is the first timer
none_by : (m : ℕ) (s : State) → is_due (next_due (flush_by m s).pending) m ≡ false
none_by m s = by_test (is_due (next_due s.pending) m) refl
  where
    gone : (o : Option ℕ) → is_due o m ≡ true → is_due (next_due (flushed o s).pending) m ≡ false
    gone None is = absurd (cc)
    gone (Some d) is = ap (λ (t : State). is_due (next_due t.pending) m) (all_queued-is (all_sent (record { moment = d; spans = s.pending.spans } ∷ [])) (record s { clock = d; pending = fired s.pending }))

    by_test : (b : Bool) → is_due (next_due s.pending) m ≡ b → is_due (next_due (cond b (flushed (next_due s.pending) s) s).pending) m ≡ false
    by_test true is = gone (next_due s.pending) is
    by_test false is = is

row_first : (o : Option ℕ) (d e : ℕ) → is_due o d ≡ false → d ≤ e → (is_batch o (Some d) ≡ false) × (is_due (lesser o (Some d)) e ≡ true)
row_first None d e late le = (refl, grind (arith, nat_tests, le))
row_first (Some b) d e late le = (grind (arith, nat_tests, late), grind (arith, nat_tests, late, le))

decide-front : (r : WaitingData) (rs : List WaitingData) (e : ℕ) (s : State) → s.waiting ≡ r ∷ rs → is_due (next_due s.pending) r.due ≡ false → r.due ≤ e → IsFront e s (decide (r ∷ rs) s)
decide-front r rs e s is late le =
    let first = row_first (next_due s.pending) r.due e late le in
    let w : first_due s.waiting ≡ Some r.due = ap first_due is in
    let due : is_due (next_timer s) e ≡ true = ap (λ (o : Option ℕ). is_due (lesser (next_due s.pending) o) e) w ∙ first.1 in
    let test : is_batch (next_due s.pending) (first_due s.waiting) ≡ false = ap (is_batch (next_due s.pending)) w ∙ first.0 in
    let run : one_run s ≡ decide (r ∷ rs) s = rw test (ap (λ (l : List WaitingData). decide l s) is) in
    subst (λ (t : State). IsFront e s t) run (IsFront-one e s due)

pub decide-waiting : (r : WaitingData) (rs : List WaitingData) (s : State) → (decide (r ∷ rs) s).waiting ≡ rs
decide-waiting r rs s = by_test (are_sampled s.section.tail_sampling.policies r.spans) (are_sampled s.section.tail_sampling.policies r.spans)
  where
    by_test : (b sampled : Bool) → (sample r.due r b (settle r.due r rs sampled s)).waiting ≡ rs
    by_test true sampled = ap (λ (t : State). t.waiting) (all_queued-is (all_sent (cuts s.pending.rules r.due (s.pending.spans ++ r.spans))) (recount Undecided Pending (length r.spans) (record (settle r.due r rs sampled s) { pending = added r.due r.spans s.pending })))
    by_test false sampled = refl

pub walk_front : (e : ℕ) (ws : List WaitingData) (s : State) → s.waiting ≡ ws → IsFront e s (walk e ws s)
walk_front e [] s is = flush_by-front e e s (omega arith) (λ d at. absurd (none (sym (ap first_due is) ∙ at)))
  where
    none : {d : ℕ} → first_due [] ≡ Some d → ⊥
    none at = absurd (cc)
walk_front e (r ∷ rs) s is = by_test (leb r.due e) refl (λ t same. walk_front e rs t same)
  where
    head : (m : ℕ) → m ≤ r.due → (d : ℕ) → first_due s.waiting ≡ Some d → m ≤ d
    head m le d at = let same : Some r.due ≡ Some d = sym (ap first_due is) ∙ at in let eq : r.due ≡ d = cc in omega (arith, le, eq)

    by_test : (b : Bool) → leb r.due e ≡ b → ((t : State) → t.waiting ≡ rs → IsFront e t (walk e rs t)) → IsFront e s (cond b (walk e rs (decide (r ∷ rs) (flush_by r.due s))) (flush_by e s))
    by_test true b ih =
        let le : r.due ≤ e = grind (arith, nat_tests, b) in
        let s1 = flush_by r.due s in
        let one = flush_by-front r.due e s le (head r.due (omega arith)) in
        let two = decide-front r rs e s1 (flush_by-waiting r.due s ∙ is) (none_by r.due s) le in
        let rest = ih (decide (r ∷ rs) s1) (decide-waiting r rs s1) in
        IsFront-trans e s s1 (walk e rs (decide (r ∷ rs) s1)) one (IsFront-trans e s1 (decide (r ∷ rs) s1) (walk e rs (decide (r ∷ rs) s1)) two rest)
    by_test false b ih = let lt : e < r.due = grind (arith, nat_tests, b) in flush_by-front e e s (omega arith) (head e (omega (arith, lt)))

-- none is due after it
pub not_first : (o w : Option ℕ) (e : ℕ) → is_due o e ≡ false → is_due w e ≡ false → is_due (lesser o w) e ≡ false
not_first None w e a b = b
not_first (Some x) None e a b = a
not_first (Some x) (Some y) e a b = grind (arith, nat_tests, a, b)

flush_by-done : (e : ℕ) (s : State) → is_due (first_due s.waiting) e ≡ false → is_due (next_timer (flush_by e s)) e ≡ false
flush_by-done e s late = not_first (next_due (flush_by e s).pending) (first_due (flush_by e s).waiting) e (none_by e s) (ap (λ (ws : List WaitingData). is_due (first_due ws) e) (flush_by-waiting e s) ∙ late)

pub walk_done : (e : ℕ) (ws : List WaitingData) (s : State) → s.waiting ≡ ws → is_due (next_timer (walk e ws s)) e ≡ false
walk_done e [] s is = flush_by-done e s (ap (λ (ws : List WaitingData). is_due (first_due ws) e) is)
walk_done e (r ∷ rs) s is = by_test (leb r.due e) refl (λ t same. walk_done e rs t same)
  where
    by_test : (b : Bool) → leb r.due e ≡ b → ((t : State) → t.waiting ≡ rs → is_due (next_timer (walk e rs t)) e ≡ false) → is_due (next_timer (cond b (walk e rs (decide (r ∷ rs) (flush_by r.due s))) (flush_by e s))) e ≡ false
    by_test true b ih = ih (decide (r ∷ rs) (flush_by r.due s)) (decide-waiting r rs (flush_by r.due s))
    by_test false b ih = flush_by-done e s (ap (λ (ws : List WaitingData). is_due (first_due ws) e) is ∙ b)

-- so however many timers are asked for, where none is left it is this state
pub ran_is : (n e : ℕ) (s : State) → is_due (next_timer (ran n e s)) e ≡ false → ran n e s ≡ walk e s.waiting s
ran_is n e s done =
    let front = walk_front e s.waiting s refl in
    let m = front.0 in
    let is : walk e s.waiting s ≡ ran m e s = front.1 in
    let done' : is_due (next_timer (ran m e s)) e ≡ false = ap (λ (t : State). is_due (next_timer t) e) (sym is) ∙ walk_done e s.waiting s refl in
    let sum : n + m ≡ m + n = omega arith in
    let one : ran (n + m) e s ≡ ran n e s = ran-more n m e s ∙ ran_none m e (ran n e s) done in
    let two : ran (m + n) e s ≡ ran m e s = ran-more m n e s ∙ ran_none n e (ran m e s) done' in
    sym one ∙ (ap (λ (k : ℕ). ran k e s) sum ∙ (two ∙ sym is))

-- all due timers run
pub all_ran : (e : ℕ) (s : State) → ran (enough s) e s ≡ walk e s.waiting s
all_ran e s = ran_is (enough s) e s (enough_done e s)
