-- One more round of a turner or a sender.
use Rattle.std.proofs.Common.{◌≡◌, ℕ, false, List, [], ◌∷◌, ◌++◌, map, flat_map, Option, Some, None, MatchOption, option_to_list, refl, sym, ap, subst, ◌∙◌, append_assoc, append-nil}
use Rattle.std.proofs.lemmas.List.{map-append}
use Rattle.std.proofs.lemmas.List.Concat.{flat_map-append}
use Rattle.log_positions.specs.Numbered.{items_of}
use Rattle.job_lane.specs.declared.job.Job.{Job}
use Rattle.job_lane.specs.Lane.{NumberedJob, LaneName, SeatLists, WasEmpty}
use Rattle.export_edge.specs.Work.{Through, BeatCall, looked, gave, paused, Turn, turn_made, job_pushed, lane_full, turn_in, push_in, pause_after, turner_calls, HoldsAround, with_push, HadNoRoom, PushesAt, TurningAt, jobs_in, Posted, Given, Handed, posted_of, hand_calls, Hands, job_sent, lane_empty, sent_in, sender_calls, with_pop, PopsAt, SendingAt}
use Rattle.export_edge.proofs.Throughs.{through_more, through_both}

-- what one round more adds
pub one_more : {X Y : Type 0} (f : X → List Y) (xs : List X) (x : X) → flat_map f (xs ++ x ∷ []) ≡ flat_map f xs ++ f x
one_more f xs x = flat_map-append f xs (x ∷ []) ∙ ap (λ v. flat_map f xs ++ v) (append-nil (f x))

-- the calls of one round more
pub called_more : {B R : Type 0} (calls : B → BeatCall → B → Type 0) (of_round : R → List BeatCall) (old mid new : B)
    (rounds : List R) (r : R) → Through calls old (flat_map of_round rounds) mid → Through calls mid (of_round r) new
    → Through calls old (flat_map of_round (rounds ++ r ∷ [])) new
called_more calls of_round old mid new rounds r before more =
    subst (λ v. Through calls old v new) (sym (one_more of_round rounds r))
    (through_both calls old mid new (flat_map of_round rounds) (of_round r) before more)

-- a seat is what its parts are
pub seat_with : (s : SeatLists) (lane : LaneName) (pushes pops : List NumberedJob) → s.lane ≡ lane → s.pushes ≡ pushes
    → s.pops ≡ pops → s ≡ record { lane = lane; pushes = pushes; pops = pops }
seat_with s lane pushes pops p q r = rw (sym p, sym q, sym r) refl

module _ {S B : Type 0} (turns : S → Turn → S → Type 0) (calls : B → BeatCall → B → Type 0) (capacity : ℕ) where
  -- the job that is held was pushed, or comes back
  pub offered : (start now : S) (b0 last b b' : B) (first seat seat' : SeatLists) (job : Job) (back : Option Job)
      → MatchOption back ((n : ℕ) × (seat' ≡ with_push seat (n, job))) (λ k. (k ≡ job) × (seat' ≡ seat) × HadNoRoom capacity seat)
      → MatchOption back (b' ≡ b) (λ _. calls b paused b')
      → TurningAt turns calls capacity start now b0 last first seat (Some job)
      → calls last (looked false) b
      → TurningAt turns calls capacity start now b0 b' first seat' back
  offered start now b0 last b b' first seat seat' job None p same w look =
      let t = w.0 in
      let pushes : seat'.pushes ≡ seat.pushes ++ (p.0, job) ∷ [] = ap (λ (s : SeatLists). s.pushes) p.1 in (
        record {
          rounds = t.rounds ++ job_pushed (p.0, job) ∷ [];
          beats = called_more calls turner_calls b0 last b' t.rounds (job_pushed (p.0, job)) t.beats (b, look, same);
          holds = through_more HoldsAround None (Some job) None t.rounds (job_pushed (p.0, job)) t.holds (refl, refl);
          made = t.made;
          makes = one_more turn_in t.rounds (job_pushed (p.0, job)) ∙ (append-nil (flat_map turn_in t.rounds) ∙ t.makes);
          runs = t.runs;
          pushed = t.pushed ++ (p.0, job) ∷ [];
          puts = one_more push_in t.rounds (job_pushed (p.0, job)) ∙ ap (λ v. v ++ (p.0, job) ∷ []) t.puts;
          pushes = pushes ∙ (ap (λ v. v ++ (p.0, job) ∷ []) t.pushes ∙ append_assoc first.pushes t.pushed ((p.0, job) ∷ []));
          jobs = t.jobs ∙ (sym (map-append (λ e. e.1) t.pushed ((p.0, job) ∷ []))
              ∙ sym (append-nil (items_of (t.pushed ++ (p.0, job) ∷ []))));
        },
        through_more (PushesAt capacity) first seat seat' t.rounds (job_pushed (p.0, job)) w.1 p.1,
      )
  offered start now b0 last b b' first seat seat' job (Some k) p rest w look =
      let t = w.0 in (
        record {
          rounds = t.rounds ++ lane_full ∷ [];
          beats = called_more calls turner_calls b0 last b' t.rounds lane_full t.beats (b, look, (b', rest, refl));
          holds = through_more HoldsAround None (Some job) (Some k) t.rounds lane_full t.holds (job, refl, ap (λ j. Some j) p.0);
          made = t.made;
          makes = one_more turn_in t.rounds lane_full ∙ (append-nil (flat_map turn_in t.rounds) ∙ t.makes);
          runs = t.runs;
          pushed = t.pushed;
          puts = one_more push_in t.rounds lane_full ∙ (append-nil (flat_map push_in t.rounds) ∙ t.puts);
          pushes = ap (λ (s : SeatLists). s.pushes) p.1 ∙ t.pushes;
          jobs = t.jobs ∙ ap (λ j. items_of t.pushed ++ j ∷ []) (sym p.0);
        },
        through_more (PushesAt capacity) first seat seat' t.rounds lane_full w.1 (p.1, p.2),
      )

  -- a turn was made, at the moment that it was
  pub turned : (start mid new : S) (b0 last b told b' : B) (first seat : SeatLists) (made : Turn) (next : Option Job)
      → turns mid made new → jobs_in made ≡ option_to_list next → calls b (gave made.now) told
      → Through calls told (pause_after made.came_to) b'
      → TurningAt turns calls capacity start mid b0 last first seat None
      → calls last (looked false) b
      → TurningAt turns calls capacity start new b0 b' first seat next
  turned start mid new b0 last b told b' first seat made next p gave_job at rest w look =
      let t = w.0 in (
        record {
          rounds = t.rounds ++ turn_made made ∷ [];
          beats = called_more calls turner_calls b0 last b' t.rounds (turn_made made) t.beats (b, look, (told, at, rest));
          holds = through_more HoldsAround None None next t.rounds (turn_made made) t.holds (refl, gave_job);
          made = t.made ++ made ∷ [];
          makes = one_more turn_in t.rounds (turn_made made) ∙ ap (λ v. v ++ made ∷ []) t.makes;
          runs = through_more turns start mid new t.made made t.runs p;
          pushed = t.pushed;
          puts = one_more push_in t.rounds (turn_made made) ∙ (append-nil (flat_map push_in t.rounds) ∙ t.puts);
          pushes = t.pushes;
          jobs = one_more jobs_in t.made made
              ∙ (ap (λ v. v ++ jobs_in made) (t.jobs ∙ append-nil (items_of t.pushed))
              ∙ ap (λ v. items_of t.pushed ++ v) gave_job);
        },
        through_more (PushesAt capacity) first seat seat t.rounds (turn_made made) w.1 refl,
      )

  -- nothing was done yet
  pub unturned : (start : S) (b : B) (first : SeatLists) → TurningAt turns calls capacity start start b b first first None
  unturned start b first = (
    record {
      rounds = [];
      beats = refl;
      holds = refl;
      made = [];
      makes = refl;
      runs = refl;
      pushed = [];
      puts = refl;
      pushes = sym (append-nil first.pushes);
      jobs = refl;
    },
    refl,
  )

module _ {B S T : Type 0} (posts : B → Posted → B → Type 0) (takes refuses : S → Given → S → Type 0) (calls : T → BeatCall → T → Type 0) where
  -- a job was popped and posted, and its answer was handed in
  pub sent : (b0 b b' : B) (s0 s s' : S) (t0 last t t' : T) (first seat seat' : SeatLists) (n : ℕ) (h : Handed)
      → seat' ≡ with_pop seat (n, h.post.job) → posts b h.post b' → Hands takes refuses s h s'
      → Through calls t (hand_calls h.refusals h.now) t'
      → SendingAt posts takes refuses calls b0 b s0 s t0 last first seat
      → calls last (looked false) t
      → SendingAt posts takes refuses calls b0 b' s0 s' t0 t' first seat'
  sent b0 b b' s0 s s' t0 last t t' first seat seat' n h popped posts_it hands_it called did look =
      let w = did.0 in
      let posting = through_more posts b0 b b' (map posted_of w.sent) h.post w.posting posts_it in
      let pops : seat'.pops ≡ seat.pops ++ (n, h.post.job) ∷ [] = ap (λ (s : SeatLists). s.pops) popped in (
        record {
          rounds = w.rounds ++ job_sent h ∷ [];
          beats = called_more calls sender_calls t0 last t' w.rounds (job_sent h) w.beats (t, look, called);
          sent = w.sent ++ h ∷ [];
          sends = one_more sent_in w.rounds (job_sent h) ∙ ap (λ v. v ++ h ∷ []) w.sends;
          posting = subst (λ v. Through posts b0 v b') (sym (map-append posted_of w.sent (h ∷ []))) posting;
          handing = through_more (Hands takes refuses) s0 s s' w.sent h w.handing hands_it;
          popped = w.popped ++ (n, h.post.job) ∷ [];
          pops = pops ∙ (ap (λ v. v ++ (n, h.post.job) ∷ []) w.pops ∙ append_assoc first.pops w.popped ((n, h.post.job) ∷ []));
          jobs = map-append (λ q. q.post.job) w.sent (h ∷ []) ∙ (ap (λ v. v ++ h.post.job ∷ []) w.jobs
              ∙ sym (map-append (λ e. e.1) w.popped ((n, h.post.job) ∷ [])));
        },
        through_more PopsAt first seat seat' w.rounds (job_sent h) did.1 (n, popped),
      )

  -- there was no job
  pub sender_rested : (b0 b : B) (s0 s : S) (t0 last t t' : T) (first seat seat' : SeatLists) → seat' ≡ seat → WasEmpty seat
      → calls t paused t'
      → SendingAt posts takes refuses calls b0 b s0 s t0 last first seat
      → calls last (looked false) t
      → SendingAt posts takes refuses calls b0 b s0 s t0 t' first seat'
  sender_rested b0 b s0 s t0 last t t' first seat seat' same empty rest did look =
      let w = did.0 in (
        record {
          rounds = w.rounds ++ lane_empty ∷ [];
          beats = called_more calls sender_calls t0 last t' w.rounds lane_empty w.beats (t, look, (t', rest, refl));
          sent = w.sent;
          sends = one_more sent_in w.rounds lane_empty ∙ (append-nil (flat_map sent_in w.rounds) ∙ w.sends);
          posting = w.posting;
          handing = w.handing;
          popped = w.popped;
          pops = ap (λ (s : SeatLists). s.pops) same ∙ w.pops;
          jobs = w.jobs;
        },
        through_more PopsAt first seat seat' w.rounds lane_empty did.1 (same, empty),
      )

  -- nothing was done yet
  pub unsent : (b : B) (s : S) (t : T) (first : SeatLists) → SendingAt posts takes refuses calls b b s s t t first first
  unsent b s t first = (
    record {
      rounds = [];
      beats = refl;
      sent = [];
      sends = refl;
      posting = refl;
      handing = refl;
      popped = [];
      pops = sym (append-nil first.pops);
      jobs = refl;
    },
    refl,
  )
