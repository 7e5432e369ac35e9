-- Each step keeps the rule of a lane.
use Rattle.std.proofs.Common.{◌≡◌, ◌≢◌, ℕ, zero, suc, ◌+◌, ◌-◌, ◌<◌, List, [], ◌∷◌, ◌++◌, length, set, sum_by, flat_map, refl, sym, ◌∙◌, subst, ⊎_elim, append_assoc, arith}
use mathlib.Core.Option.{some, some-ne-none, some-injective}
use lib.ListN.{get_elem?}
use Rattle.crossbeam_queue.specs.Fifo as fifo
use Rattle.crossbeam_queue.proofs.Lists.{at_set, at_snoc}
use Rattle.std.proofs.lemmas.List.Sums.{sum_by_push}
use Rattle.log_positions.specs.Numbered.{AreAllOf}
use Rattle.log_positions.proofs.Shares.{sum-set, two_parts, each_set}
use Rattle.log_positions.proofs.Gathered.{gathered-only}
use Rattle.log_positions.proofs.Numbered.{AreAllOf-none, AreBelow-from, holder_from, holder_adds, holder_keeps, holder_comes, holder_takes_in}
use Rattle.job_lane.specs.declared.job.Job.{Job}
use Rattle.job_lane.specs.declared.view.SeatView.{SeatView}
use Rattle.job_lane.specs.Lane.{NumberedJob, IsInOrder}
use Rattle.job_lane.specs.Rule.{seat_view, Fits, IsLane, Pushes, Pops, Learned, Counted}

abbrev parts_of : SeatView → ℕ
parts_of v = v.parts

abbrev pushes_of : SeatView → List NumberedJob
pushes_of v = v.pushes

abbrev pops_of : SeatView → List NumberedJob
pops_of v = v.pops

-- who has nothing fits
nobody : (all n : ℕ) → Fits all (seat_view 0 n [] [])
nobody all n = record { whole = λ some_part. absurd (omega arith); idle = λ _. (refl, refl) }

newcomer : (all : ℕ) → Fits all (seat_view 1 all [] [])
newcomer all = record { whole = λ _. refl; idle = λ _. (refl, refl) }

pub pushes : (n i : ℕ) (v : SeatView) (x : Job) → 0 < v.parts → fifo.Pushes IsLane n i v x (Pushes v x)
pushes n i v x some_part held views room h at =
    let before = h.gone ++ held in
    let w = seat_view v.parts v.whole (v.pushes ++ (length before, x) ∷ []) v.pops in
    let mine = h.fits i v at in
    let longer = holder_adds pushes_of before x views i v w at refl h.run.pushed in (
      w,
      record {
        gone = h.gone;
        all = h.all;
        run = record {
          pushed = subst (λ l. AreAllOf l (flat_map pushes_of (set views i w))) (append_assoc h.gone held (x ∷ [])) longer;
          popped = holder_keeps pops_of h.gone views i v w at refl h.run.popped;
        };
        parts = omega (arith, sum-set parts_of views i v w at, h.parts);
        fits = each_set (Fits h.all) views i w (record { whole = mine.whole; idle = λ none. absurd (omega arith) }) (λ j u _ there. h.fits j u there);
      },
      (length before, AreBelow-from before v.pushes (holder_from pushes_of before views i v h.run.pushed at), refl),
    )

pub pops : (i : ℕ) (v : SeatView) → 0 < v.parts → fifo.Pops IsLane i v (Pops v)
pops i v some_part x held views h at =
    let w = seat_view v.parts v.whole v.pushes (v.pops ++ (length h.gone, x) ∷ []) in
    let mine = h.fits i v at in (
      w,
      record {
        gone = h.gone ++ x ∷ [];
        all = h.all;
        run = record {
          pushed = holder_keeps pushes_of ((h.gone ++ x ∷ []) ++ held) views i v w at refl (subst (λ l. AreAllOf l (flat_map pushes_of views)) (sym (append_assoc h.gone (x ∷ []) held)) h.run.pushed);
          popped = holder_adds pops_of h.gone x views i v w at refl h.run.popped;
        };
        parts = omega (arith, sum-set parts_of views i v w at, h.parts);
        fits = each_set (Fits h.all) views i w (record { whole = mine.whole; idle = λ none. absurd (omega arith) }) (λ j u _ there. h.fits j u there);
      },
      (length h.gone, AreBelow-from h.gone v.pops (holder_from pops_of h.gone views i v h.run.popped at), refl),
    )

-- one part more, where one pass has them all
pub widens : (i n : ℕ) → 0 < n → fifo.Forks IsLane i (seat_view n n [] []) (seat_view (n + 1) (n + 1) [] []) (seat_view 0 0 [] [])
widens i n some_part held views h at =
    let v = seat_view n n [] [] in
    let left = seat_view (n + 1) (n + 1) [] [] in
    let right = seat_view 0 0 [] [] in
    let vs = set views i left in
    let whole : n ≡ h.all = (h.fits i v at).whole some_part in
    let others : (j : ℕ) (u : SeatView) → j ≢ i → get_elem? views j ≡ some u → Fits (n + 1) u = λ j u apart there.
    let few = two_parts parts_of views i j v u at there apart in
    record { whole = λ has. absurd (omega (arith, few, h.parts, whole, has)); idle = (h.fits j u there).idle }
    in
    record {
      gone = h.gone;
      all = n + 1;
      run = record {
        pushed = holder_comes pushes_of (h.gone ++ held) vs right refl (holder_keeps pushes_of (h.gone ++ held) views i v left at refl h.run.pushed);
        popped = holder_comes pops_of h.gone vs right refl (holder_keeps pops_of h.gone views i v left at refl h.run.popped);
      };
      parts = omega (arith, sum_by_push parts_of vs right, sum-set parts_of views i v left at, h.parts, whole);
      fits = λ j u there. ⊎_elim (λ was. each_set (Fits (n + 1)) views i left (record { whole = λ _. refl; idle = λ _. (refl, refl) }) others j u was)
          (λ (is : right ≡ u). subst (Fits (n + 1)) is (nobody (n + 1) 0)) (at_snoc vs right u j there);
    }

-- a part for a new seat
pub forks : (i n all : ℕ) → 0 < n → fifo.Forks IsLane i (seat_view n all [] []) (seat_view (n - 1) all [] []) (seat_view 1 all [] [])
forks i n all some_part held views h at =
    let v = seat_view n all [] [] in
    let left = seat_view (n - 1) all [] [] in
    let right = seat_view 1 all [] [] in
    let vs = set views i left in
    let whole : all ≡ h.all = (h.fits i v at).whole some_part in
    record {
      gone = h.gone;
      all = h.all;
      run = record {
        pushed = holder_comes pushes_of (h.gone ++ held) vs right refl (holder_keeps pushes_of (h.gone ++ held) views i v left at refl h.run.pushed);
        popped = holder_comes pops_of h.gone vs right refl (holder_keeps pops_of h.gone views i v left at refl h.run.popped);
      };
      parts = omega (arith, sum_by_push parts_of vs right, sum-set parts_of views i v left at, h.parts, some_part);
      fits = λ j u there. ⊎_elim
          (λ was. each_set (Fits h.all) views i left (record { whole = λ _. whole; idle = λ _. (refl, refl) }) (λ k y _ here. h.fits k y here) j u was)
          (λ (is : right ≡ u). subst (Fits h.all) is (record { whole = λ _. whole; idle = λ none. absurd (omega arith) })) (at_snoc vs right u j there);
    }

pub merges : (i : ℕ) (v : SeatView) (other : ℕ) (u : SeatView) → 0 < u.parts
    → fifo.Merges IsLane i v other u (seat_view (v.parts + u.parts) u.whole (u.pushes ++ v.pushes) (u.pops ++ v.pops)) (seat_view 0 0 [] [])
merges i v other u some_part held views h at two at' =
    let both = seat_view (v.parts + u.parts) u.whole (u.pushes ++ v.pushes) (u.pops ++ v.pops) in
    let spent = seat_view 0 0 [] [] in
    let vs = set views i both in
    let theirs = h.fits other u (⊎_elim (λ (t : (other ≡ i) × (both ≡ u)). absurd (two t.0)) (λ (t : (other ≢ i) × (get_elem? views other ≡ some u)). t.1) (at_set views i other both u at')) in
    record {
      gone = h.gone;
      all = h.all;
      run = record {
        pushed = holder_takes_in pushes_of (h.gone ++ held) views i other v u both spent at two at' refl refl h.run.pushed;
        popped = holder_takes_in pops_of h.gone views i other v u both spent at two at' refl refl h.run.popped;
      };
      parts = omega (arith, sum-set parts_of views i v both at, sum-set parts_of vs other u spent at', h.parts);
      fits = each_set (Fits h.all) vs other spent (nobody h.all 0)
          (λ j y _ there. each_set (Fits h.all) views i both (record { whole = λ _. theirs.whole some_part; idle = λ none. absurd (omega (arith, none, some_part)) })
          (λ k z _ here. h.fits k z here) j y there);
    }

-- who has all parts did all
whole_run : (i : ℕ) (v : SeatView) (held : List Job) (views : List SeatView) (h : IsLane held views) → get_elem? views i ≡ some v → 0 < v.parts → v.parts ≡ v.whole
    → IsInOrder v.pushes v.pops h.gone held
whole_run i v held views h at some_part all =
    let is : sum_by parts_of views ≡ v.parts = h.parts ∙ sym ((h.fits i v at).whole some_part) ∙ sym all in
    record {
      pushed = subst (AreAllOf (h.gone ++ held)) (gathered-only parts_of pushes_of views i v at is (λ j u there none. ((h.fits j u there).idle none).0)) h.run.pushed;
      popped = subst (AreAllOf h.gone) (gathered-only parts_of pops_of views i v at is (λ j u there none. ((h.fits j u there).idle none).1)) h.run.popped;
    }

pub learns : (i : ℕ) (v : SeatView) → fifo.Learns IsLane i v (Learned v)
learns i v held views h at one = record {
  gone = h.gone;
  pushed = holder_from pushes_of (h.gone ++ held) views i v h.run.pushed at;
  popped = holder_from pops_of h.gone views i v h.run.popped at;
  alone = λ only. whole_run i v held views h at (omega (arith, one)) (one ∙ sym only);
}

pub counts : (i : ℕ) (v : SeatView) → fifo.Learns IsLane i v (Counted v)
counts i v held views h at some_part all = (h.gone, whole_run i v held views h at some_part all)

pub begins : IsLane [] (seat_view 1 1 [] [] ∷ [])
begins = record {
  gone = [];
  all = 1;
  run = record { pushed = AreAllOf-none; popped = AreAllOf-none };
  parts = refl;
  fits = only;
}
  where
    only : (i : ℕ) (v : SeatView) → get_elem? (seat_view 1 1 [] [] ∷ []) i ≡ some v → Fits 1 v
    only zero v at = subst (Fits 1) (some-injective _ v at) (newcomer 1)
    only (suc i) v at = absurd (some-ne-none v (sym at))

-- the same of passes that are known
pub widens_as : (i n : ℕ) (v : SeatView) → v ≡ seat_view n n [] [] → 0 < n → fifo.Forks IsLane i v (seat_view (v.parts + 1) (v.whole + 1) v.pushes v.pops) (seat_view 0 0 [] [])
widens_as i n v is some_part =
    subst (λ (y : SeatView). fifo.Forks IsLane i y (seat_view (y.parts + 1) (y.whole + 1) y.pushes y.pops) (seat_view 0 0 [] [])) (sym is) (widens i n some_part)

pub forks_as : (i n all : ℕ) (v : SeatView) → v ≡ seat_view n all [] [] → 0 < n → fifo.Forks IsLane i v (seat_view (v.parts - 1) v.whole v.pushes v.pops) (seat_view 1 v.whole [] [])
forks_as i n all v is some_part =
    subst (λ (y : SeatView). fifo.Forks IsLane i y (seat_view (y.parts - 1) y.whole y.pushes y.pops) (seat_view 1 y.whole [] [])) (sym is) (forks i n all some_part)
