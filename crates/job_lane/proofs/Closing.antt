-- The seats are taken in one by one, the last first.
use Rattle.std.proofs.Common.{◌≡◌, ℕ, ◌+◌, ◌-◌, ◌*◌, ◌^◌, ◌<◌, ◌≤◌, List, [], ◌∷◌, ◌++◌, length, All, refl, sym, ap, ◌∙◌, subst, arith, length-append, append_assoc, append-nil}
use Rattle.std.proofs.lemmas.List.{nil_from_length}
use Rattle.std.proofs.lemmas.List.Elements.{All-nil, All-cons, All-head}
use Rattle.crossbeam_queue.specs.Fifo.{Held}
use Rattle.log_positions.specs.Numbered.{AreRising, AreAllOf}
use Rattle.log_positions.proofs.Orders.{all_front, all_back}
use Rattle.log_positions.proofs.Numbered.{length-AreAllOf}
use Rattle.job_lane.specs.declared.view.SeatView.{SeatView}
use Rattle.job_lane.specs.Lane.{LaneName, SeatLists, IsWholeRun}
use Rattle.job_lane.specs.Rule.{seat_view, with_seat, Counted}
use Rattle.job_lane.specs.Law.{all_pushes, all_pops}

-- each is a seat of this lane
abbrev pub AreOf : LaneName → List SeatLists → Type 0
AreOf lane seats = All (λ s. s.lane ≡ lane) seats

-- the numbers of each rise
abbrev pub AllRise : List SeatLists → Type 0
AllRise seats = All (λ s. AreRising s.pushes × AreRising s.pops) seats

-- some of the last seats are taken in
pub record IsTakenIn (lane : LaneName) (seats rest : List SeatLists) (root : SeatView) (pushed : ℕ) : Type 0 where
  pub done : List SeatLists
  pub split : rest ++ done ≡ seats
  pub view : root ≡ seat_view (length done) lane.seats (all_pushes done) (all_pops done)
  pub count : pushed ≡ length (all_pushes done)
  pub small : pushed ≤ length done * 2 ^ 62
  pub rising : AllRise done
  pub ours : AreOf lane rest

pub taken_first : (lane : LaneName) (seats : List SeatLists) (root : SeatView) → root ≡ seat_view 0 lane.seats [] [] → AreOf lane seats → IsTakenIn lane seats seats root 0
taken_first lane seats root is ours = record {
  done = [];
  split = append-nil seats;
  view = is;
  count = refl;
  small = omega arith;
  rising = All-nil (λ s. AreRising s.pushes × AreRising s.pops);
  ours = ours;
}

pub taken_lane : (lane : LaneName) (seats old rest : List SeatLists) (s : SeatLists) (root : SeatView) (n : ℕ) → IsTakenIn lane seats old root n → old ≡ rest ++ s ∷ [] → s.lane ≡ lane
taken_lane lane seats old rest s root n h is = All-head (λ t. t.lane ≡ lane) s [] (all_back (λ t. t.lane ≡ lane) rest (s ∷ []) (subst (AreOf lane) is h.ours))

pub taken_next : (lane : LaneName) (seats old rest : List SeatLists) (s : SeatLists) (root root' : SeatView) (n m : ℕ) → IsTakenIn lane seats old root n → old ≡ rest ++ s ∷ []
    → root' ≡ with_seat root s → (m ≡ length s.pushes) × (m ≤ 2 ^ 62) → AreRising s.pushes × AreRising s.pops → IsTakenIn lane seats rest root' (n + m)
taken_next lane seats old rest s root root' n m h is now count rising = record {
  done = s ∷ h.done;
  split = sym (append_assoc rest (s ∷ []) h.done) ∙ ap (λ l. l ++ h.done) (sym is) ∙ h.split;
  view = now ∙ ap (λ v. with_seat v s) h.view ∙ named (omega arith) (ap (λ (l : LaneName). l.seats) (taken_lane lane seats old rest s root n h is));
  count = omega (arith, h.count, count.0, length-append s.pushes (all_pushes h.done));
  small = omega (arith, h.small, count.1);
  rising = All-cons (λ t. AreRising t.pushes × AreRising t.pops) s h.done rising h.rising;
  ours = all_front (λ t. t.lane ≡ lane) rest (s ∷ []) (subst (AreOf lane) is h.ours);
}
  where
    named : {i k a b : ℕ} → i ≡ k → a ≡ b → seat_view i a (s.pushes ++ all_pushes h.done) (s.pops ++ all_pops h.done) ≡ seat_view k b (s.pushes ++ all_pushes h.done) (s.pops ++ all_pops h.done)
    named {i} {k} {a} {b} e f = ap (λ p. seat_view p a (s.pushes ++ all_pushes h.done) (s.pops ++ all_pops h.done)) e ∙ ap (λ q. seat_view k q (s.pushes ++ all_pushes h.done) (s.pops ++ all_pops h.done)) f

pub taken_end : (lane : LaneName) (seats rest : List SeatLists) (root : SeatView) (n left : ℕ) → IsTakenIn lane seats rest root n → length rest ≡ 0 → length seats ≡ lane.seats → 0 < lane.seats
    → Held left (Counted root) → (left ≤ n) × IsWholeRun seats (n - left) left
taken_end lane seats rest root n left h none all some_seat held =
    let same : h.done ≡ seats = ap (λ l. l ++ h.done) (sym (nil_from_length rest none)) ∙ h.split in
    let len : length h.done ≡ lane.seats = ap length same ∙ all in
    let parts : root.parts ≡ length h.done = ap (λ (v : SeatView). v.parts) h.view in
    let whole : root.whole ≡ lane.seats = ap (λ (v : SeatView). v.whole) h.view in
    let pushes_are : root.pushes ≡ all_pushes seats = ap (λ (v : SeatView). v.pushes) h.view ∙ ap all_pushes same in
    let pops_are : root.pops ≡ all_pops seats = ap (λ (v : SeatView). v.pops) h.view ∙ ap all_pops same in
    let told = held.2 (omega (arith, parts, len, some_seat)) (parts ∙ len ∙ sym whole) in
    let run = told.1 in
    let every : length (told.0 ++ held.0) ≡ n = sym (length-AreAllOf (told.0 ++ held.0) root.pushes run.pushed) ∙ ap length pushes_are ∙ ap length (ap all_pushes (sym same)) ∙ sym h.count in (
      omega (arith, every, held.1, length-append told.0 held.0),
      record {
        gone = told.0;
        held = held.0;
        run = record { pushed = subst (AreAllOf (told.0 ++ held.0)) pushes_are run.pushed; popped = subst (AreAllOf told.0) pops_are run.popped };
        taken_is = omega (arith, every, held.1, length-append told.0 held.0);
        left_is = held.1;
        rising = subst AllRise same h.rising;
      },
    )
