-- What a tenant is after a post, and what it is told of it.
use Rattle.std.proofs.Common.{◌≡◌, ℕ, ◌+◌, ◌<◌, ◌≤◌, List, [], ◌∷◌, ◌++◌, length, map, drop, refl, sym, ap, ◌∙◌, arith, append_assoc, append-nil, Bool, true, false, cond, ltb, Option, Some, None}
use Rattle.std.specs.Prelude.{is_some}
use Rattle.std.proofs.Math.Seq.{drop-append_seam}
use Rattle.tail_settings.specs.Section.{SectionData}
use Rattle.drop_ledger.specs.declared.places.Places.{Places}
use Rattle.drop_ledger.specs.Ledger.{left_out, most_counted}
use Rattle.drop_ledger.specs.Ledger as counters
use Rattle.span_batcher.specs.Batches.{AreValidRules}
use Rattle.tenant_rules.specs.declared.reply.StepReply.TheVariants as replies
use Rattle.tenant_rules.specs.Arrivals.{Arrival, valid}
use Rattle.tenant_rules.specs.Own.{Own, Post, clock, drained}
use Rattle.tenant_rules.specs.Sender.{BatchData, SenderData}
use Rattle.tenant_rules.specs.Batching.{rules_of, formed, held}
use Rattle.tenant_rules.specs.Intake.{taken_after, IntakeData, Verdict, shutting_down, counter_limit, exhausted, accepted, counted, verdict_of, verdict, intake_by, intake}
use Rattle.tenant_rules.specs.Sending.{EndedData, newly_formed, all_offered, overflow, met_no_room, sender, ended}
use Rattle.tenant_rules.specs.State.{State, ended_places, ledger_at, state_at, state}
use Rattle.tenant_rules.specs.Answers.{reply_of, answer}
use Rattle.tenant_rules.specs.Timers.{advanced}
use Rattle.tenant_rules.specs.Machine.{goes, counted_in, come, all_come, post_verdict, posted, post, next, told}
use Rattle.tenant_rules.specs.Machine as machine
use Rattle.tenant_rules.proofs.Times.{TakenBy, TakenBy_more}
use Rattle.tenant_rules.proofs.Later.{formed_later}
use Rattle.tenant_rules.proofs.Tally.{overflow-append}
use Rattle.tenant_rules.proofs.Walked.{all_offered-append}
use Rattle.tenant_rules.proofs.Elapsed.{state_with, between, elapsed}
use Rattle.tenant_rules.proofs.Stays.{stays}
use Rattle.tenant_rules.proofs.Steps.{newly_is}
use Rattle.tenant_rules.proofs.Drained.{met_append}
use Rattle.tenant_rules.proofs.Intakes.{TakenBy-intake, DrainedBy, DrainedBy-intake}
use Rattle.tenant_rules.proofs.Came.{more, came}

-- ---- batches that are offered in two parts

offered_in_two : (w : SectionData) (i : IntakeData) (e : ℕ) (o : Option ℕ) (D : SenderData) (es : List EndedData) (xs ys : List BatchData) →
    state_with w i e o (all_offered (xs ++ ys) D) (map met_no_room (overflow (xs ++ ys) D) ++ es)
    ≡ state_with w i e o (all_offered ys (all_offered xs D)) (map met_no_room (overflow ys (all_offered xs D)) ++ (map met_no_room (overflow xs D) ++ es))
offered_in_two w i e o D es xs ys =
    let places : ended_places (map met_no_room (overflow (xs ++ ys) D) ++ es) ≡ ended_places (map met_no_room (overflow ys (all_offered xs D)) ++ (map met_no_room (overflow xs D) ++ es)) =
    ap (λ (bs : List BatchData). ended_places (map met_no_room bs ++ es)) (overflow-append xs ys D) ∙ met_append (overflow xs D) (overflow ys (all_offered xs D)) es in
    ap (λ (s : SenderData). state_at w i.spans e o s (ledger_at w i e o s (ended_places (map met_no_room (overflow (xs ++ ys) D) ++ es)))) (all_offered-append xs ys D)
    ∙ ap (λ (q : Places). state_at w i.spans e o (all_offered ys (all_offered xs D)) (ledger_at w i e o (all_offered ys (all_offered xs D)) q)) places

-- ---- all spans of a post

held_is : (w : SectionData) (i : IntakeData) (e : ℕ) (D : SenderData) (es : List EndedData) → machine.held (state_with w i e None D es) ≡ held w e None i.spans
unfolding ledger_at held
held_is w i e D es = refl

-- with the batches that they fill, definitions and machine come to the same state
abbrev pub AllCame : SectionData → ℕ → List Arrival → IntakeData → SenderData → List EndedData → Type 0
AllCame w e xs i D es = (new : List BatchData) × (formed w e None (taken_after w e xs i.spans) ≡ formed w e None i.spans ++ new)
    × (state_with w (record i { spans = taken_after w e xs i.spans }) e None (all_offered new D) (map met_no_room (overflow new D) ++ es) ≡ all_come e xs (state_with w i e None D es))

all_came : (w : SectionData) (e : ℕ) (xs : List Arrival) (i : IntakeData) (D : SenderData) (es : List EndedData) → 0 < w.tail_sampling.num_traces → 0 < w.tail_sampling.decision_wait → AreValidRules (rules_of w) → TakenBy e i.spans → AllCame w e xs i D es
all_came w e [] i D es pos wait sound by = ([], sym (append-nil (formed w e None i.spans)), refl)
all_came w e (x ∷ xs) i D es pos wait sound by = by_room (ltb (held w e None i.spans) w.max_spans) come_is (λ i' D' es' by'. all_came w e xs i' D' es' pos wait sound by')
  where
    s : State
    s = state_with w i e None D es

    come_is : come e x s ≡ cond (ltb (held w e None i.spans) w.max_spans) (goes e x (counted_in s)) s
    come_is = ap (λ (n : ℕ). cond (ltb n w.max_spans) (goes e x (counted_in s)) s) (held_is w i e D es)

    by_room : (b : Bool) → come e x s ≡ cond b (goes e x (counted_in s)) s → ((i' : IntakeData) (D' : SenderData) (es' : List EndedData) → TakenBy e i'.spans → AllCame w e xs i' D' es') →
        (new : List BatchData) × (formed w e None (taken_after w e xs (cond b (more e x i.spans) i.spans)) ≡ formed w e None i.spans ++ new)
        × (state_with w (record i { spans = taken_after w e xs (cond b (more e x i.spans) i.spans) }) e None (all_offered new D) (map met_no_room (overflow new D) ++ es) ≡ all_come e xs (come e x s))
    by_room false is ih = let rest = ih i D es by in (rest.0, rest.1, rest.2 ∙ ap (all_come e xs) (sym is))
    by_room true is ih =
        let first = came w i e D es x pos wait sound by in
        let i1 : IntakeData = record i { spans = more e x i.spans } in
        let offered = all_offered first.0 D in
        let es1 = map met_no_room (overflow first.0 D) ++ es in
        let rest = ih i1 offered es1 (omega arith, by) in
        let i2 : IntakeData = record i { spans = taken_after w e xs (more e x i.spans) } in (
          first.0 ++ rest.0,
          rest.1 ∙ (ap (λ (bs : List BatchData). bs ++ rest.0) first.1 ∙ append_assoc (formed w e None i.spans) first.0 rest.0),
          offered_in_two w i2 e None D es first.0 rest.0 ∙ (rest.2 ∙ ap (all_come e xs) (first.2 ∙ sym is)),
        )

-- ---- the post

counted_is : (w : SectionData) (i : IntakeData) (e : ℕ) (o : Option ℕ) (D : SenderData) (P : Places) → counters.counted (ledger_at w i e o D P) ≡ counted i
unfolding ledger_at
counted_is w i e o D P = refl

accepted_is : (w : SectionData) (i : IntakeData) (e : ℕ) (o : Option ℕ) (D : SenderData) (P : Places) → (ledger_at w i e o D P).accepted ≡ length i.spans
unfolding ledger_at
accepted_is w i e o D P = refl

-- before a drain the machine's verdict is the definitions'
verdict_is : (w : SectionData) (i : IntakeData) (e : ℕ) (D : SenderData) (es : List EndedData) (xs : List Arrival) → AllCame w e (valid xs) i D es → post_verdict e xs (state_with w i e None D es) ≡ verdict w false e xs i
verdict_is w i e D es xs all =
    let P = ended_places es in
    let s = state_with w i e None D es in
    let t = all_come e (valid xs) s in
    let T = taken_after w e (valid xs) i.spans in
    let after : t.ledger.accepted ≡ length T = sym (ap (λ (z : State). z.ledger.accepted) all.2) ∙ accepted_is w (record i { spans = T }) e None (all_offered all.0 D) (ended_places (map met_no_room (overflow all.0 D) ++ es)) in
    ap (λ (n : ℕ). cond (ltb most_counted (n + length xs)) counter_limit (verdict_of (length xs) (length (valid xs)) s.ledger.accepted t.ledger.accepted)) (counted_is w i e None D P)
    ∙ (ap (λ (n : ℕ). cond (ltb most_counted (counted i + length xs)) counter_limit (verdict_of (length xs) (length (valid xs)) n t.ledger.accepted)) (accepted_is w i e None D P)
    ∙ ap (λ (n : ℕ). cond (ltb most_counted (counted i + length xs)) counter_limit (verdict_of (length xs) (length (valid xs)) (length i.spans) n)) after)

-- spans that are left out are counted, and change nothing else
left_out_is : (w : SectionData) (i : IntakeData) (e : ℕ) (o : Option ℕ) (D : SenderData) (es : List EndedData) (n m : ℕ) →
    state_with w (record i { invalid = i.invalid + n; over_budget = i.over_budget + m }) e o D es ≡ record (state_with w i e o D es) { ledger = left_out n m (state_with w i e o D es).ledger }
unfolding ledger_at
left_out_is w i e o D es n m = refl

-- whatever becomes of the post
posted_is : (w : SectionData) (i : IntakeData) (d e : ℕ) (D : SenderData) (es : List EndedData) (xs : List Arrival) (new : List BatchData) (v : Verdict) → 0 < w.tail_sampling.num_traces → AreValidRules (rules_of w) → d ≤ e → TakenBy d i.spans →
    AllCame w e (valid xs) i (all_offered (between w d e i.spans) D) (map met_no_room (overflow (between w d e i.spans) D) ++ es) →
    new ≡ drop (length (formed w d None i.spans)) (formed w e None (intake_by w e xs i v).spans) →
    state_with w (intake_by w e xs i v) e None (all_offered new D) (map met_no_room (overflow new D) ++ es)
    ≡ posted v (state_with w i e None (all_offered (between w d e i.spans) D) (map met_no_room (overflow (between w d e i.spans) D) ++ es))
    (all_come e (valid xs) (state_with w i e None (all_offered (between w d e i.spans) D) (map met_no_room (overflow (between w d e i.spans) D) ++ es)))
posted_is w i d e D es xs new shutting_down pos sound le by all is =
    ap (λ (bs : List BatchData). state_with w i e None (all_offered bs D) (map met_no_room (overflow bs D) ++ es)) (is ∙ newly_is w d e None i.spans pos sound le by tt)
posted_is w i d e D es xs new counter_limit pos sound le by all is =
    ap (λ (bs : List BatchData). state_with w i e None (all_offered bs D) (map met_no_room (overflow bs D) ++ es)) (is ∙ newly_is w d e None i.spans pos sound le by tt)
posted_is w i d e D es xs new exhausted pos sound le by all is =
    ap (λ (bs : List BatchData). state_with w i e None (all_offered bs D) (map met_no_room (overflow bs D) ++ es)) (is ∙ newly_is w d e None i.spans pos sound le by tt)
posted_is w i d e D es xs new (accepted n m) pos sound le by all is =
    let M = between w d e i.spans in
    let offered = all_offered M D in
    let es1 = map met_no_room (overflow M D) ++ es in
    let T = taken_after w e (valid xs) i.spans in
    let F = formed w d None i.spans in
    let i1 : IntakeData = record i { spans = T } in
    let i2 : IntakeData = record { spans = T; invalid = i.invalid + n; over_budget = i.over_budget + m } in
    let later : formed w e None T ≡ F ++ (M ++ all.0) = all.1 ∙ (ap (λ (bs : List BatchData). bs ++ all.0) (formed_later w d e i.spans pos sound le by) ∙ append_assoc F M all.0) in
    let new_is : new ≡ M ++ all.0 = is ∙ (ap (drop (length F)) later ∙ drop-append_seam F (M ++ all.0)) in
    ap (λ (bs : List BatchData). state_with w i2 e None (all_offered bs D) (map met_no_room (overflow bs D) ++ es)) new_is
    ∙ (offered_in_two w i2 e None D es M all.0
    ∙ (left_out_is w i1 e None (all_offered all.0 offered) (map met_no_room (overflow all.0 offered) ++ es1) n m
    ∙ ap (λ (s : State). record s { ledger = left_out n m s.ledger }) all.2))

-- before a drain or after it
post_by : (w : SectionData) (i : IntakeData) (d e : ℕ) (o : Option ℕ) (D : SenderData) (es : List EndedData) (xs : List Arrival) (new : List BatchData) → 0 < w.tail_sampling.num_traces → 0 < w.tail_sampling.decision_wait → AreValidRules (rules_of w) → d ≤ e → TakenBy d i.spans → DrainedBy o d i.spans →
    new ≡ drop (length (formed w d o i.spans)) (formed w e o (intake_by w e xs i (verdict w (is_some o) e xs i)).spans) →
    state_with w (intake_by w e xs i (verdict w (is_some o) e xs i)) e o (all_offered new D) (map met_no_room (overflow new D) ++ es) ≡ post e xs (advanced e (state_with w i d o D es))
post_by w i d e (Some x) D es xs new pos wait sound le by drain is =
    let none : new ≡ [] = is ∙ newly_is w d e (Some x) i.spans pos sound le by drain in
    ap (λ (bs : List BatchData). state_with w i e (Some x) (all_offered bs D) (map met_no_room (overflow bs D) ++ es)) none
    ∙ ap (post e xs) (stays w i x d e D es sound drain.0 le drain.1)
post_by w i d e None D es xs new pos wait sound le by drain is =
    let M = between w d e i.spans in
    let offered = all_offered M D in
    let es1 = map met_no_room (overflow M D) ++ es in
    let s = state_with w i e None offered es1 in
    let all = all_came w e (valid xs) i offered es1 pos wait sound (TakenBy_more d e i.spans le by) in
    posted_is w i d e D es xs new (verdict w false e xs i) pos sound le by all is
    ∙ (ap (λ (v : Verdict). posted v s (all_come e (valid xs) s)) (sym (verdict_is w i e offered es1 xs all)) ∙ ap (post e xs) (elapsed w i d e D es pos sound le by))

told_by : (w : SectionData) (i : IntakeData) (d e : ℕ) (o : Option ℕ) (D : SenderData) (es : List EndedData) (xs : List Arrival) → 0 < w.tail_sampling.num_traces → 0 < w.tail_sampling.decision_wait → AreValidRules (rules_of w) → d ≤ e → TakenBy d i.spans → DrainedBy o d i.spans →
    verdict w (is_some o) e xs i ≡ post_verdict e xs (advanced e (state_with w i d o D es))
told_by w i d e (Some x) D es xs pos wait sound le by drain = ap (post_verdict e xs) (stays w i x d e D es sound drain.0 le drain.1)
told_by w i d e None D es xs pos wait sound le by drain =
    let M = between w d e i.spans in
    let offered = all_offered M D in
    let es1 = map met_no_room (overflow M D) ++ es in
    let all = all_came w e (valid xs) i offered es1 pos wait sound (TakenBy_more d e i.spans le by) in
    sym (verdict_is w i e offered es1 xs all) ∙ ap (post_verdict e xs) (elapsed w i d e D es pos sound le by)

pub post_goes_on : (w : SectionData) (past : List Own) (now : ℕ) (xs : List Arrival) → 0 < w.tail_sampling.num_traces → 0 < w.tail_sampling.decision_wait → AreValidRules (rules_of w) → state w (Post now xs ∷ past) ≡ next (Post now xs) (state w past)
unfolding state next sender ended
post_goes_on w past now xs pos wait sound =
    post_by w (intake w past) (clock past) (clock (Post now xs ∷ past)) (drained past) (sender w past) (ended w past) xs (newly_formed w (Post now xs) past) pos wait sound (omega arith) (TakenBy-intake w past) (DrainedBy-intake w past) refl

pub post_told : (w : SectionData) (past : List Own) (now : ℕ) (xs : List Arrival) → 0 < w.tail_sampling.num_traces → 0 < w.tail_sampling.decision_wait → AreValidRules (rules_of w) → answer w past (Post now xs) ≡ told (Post now xs) (state w past)
unfolding state answer told
post_told w past now xs pos wait sound =
    ap (λ (v : Verdict). replies.Reply (reply_of v))
    (told_by w (intake w past) (clock past) (clock (Post now xs ∷ past)) (drained past) (sender w past) (ended w past) xs pos wait sound (omega arith) (TakenBy-intake w past) (DrainedBy-intake w past))
