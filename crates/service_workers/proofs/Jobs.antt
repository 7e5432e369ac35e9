-- From what a thread's work is proved to be to what it did to the shards and to the lane.
use Rattle.std.proofs.Common.{◌≡◌, ℕ, List, [], ◌∷◌, ◌++◌, map, flat_map, Option, option_to_list, refl, sym, ap, subst, ◌∙◌}
use Rattle.std.specs.List.{AllZip}
use Rattle.export_edge.specs.Work.{Through, BeatCall, Turn, Turning, moment_of, jobs_in, attempts, Posted, Given, given_for, taken_of, Hands, Handed, Sending}
use Rattle.job_lane.specs.declared.job.Job.{Job}
use Rattle.job_lane.specs.Lane.{LaneName, SeatLists, new_seat}
use Rattle.log_positions.specs.Numbered.{items_of}
use Rattle.service_runtime.specs.Moments.{RisesBy, Rises}
use Rattle.shared_hub.specs.Logs.{CallerState}
use Rattle.tail_settings.specs.Settings.{SettingsData}
use Rattle.service_workers.specs.Jobs.{IsThread, IsApart, turner, sender, idle, admin, AreThreads}
use Rattle.service_context.specs.Looks.{OnlyLooks}
use Rattle.service_context.specs.Work.{MakesTurn, TakesAnswer, RefusesAnswer}
use Rattle.service_workers.proofs.Rising.{turns_rise, attempts_rise}

-- what is said of each step is said of all in a row
through_view : {S T X : Type 0} (view : S → T) (step : S → X → S → Type 0) (told : T → X → T → Type 0)
    → ((s : S) (x : X) (t : S) → step s x t → told (view s) x (view t))
    → (old : S) (xs : List X) (new : S) → Through step old xs new → Through told (view old) xs (view new)
through_view view step told says old [] new is = ap view is
through_view view step told says old (x ∷ xs) new runs =
    (view runs.0, says old x runs.0 runs.1, through_view view step told says runs.0 xs new runs.2)

-- a context's turns are turns of its shard, which stays the same
turns_view : {S : Type 0} (caller : S → CallerState) (shard : S → ℕ) (turns : S → Turn → S → Type 0)
    → ((s : S) (t : Turn) (after : S) → turns s t after → (shard after ≡ shard s) × MakesTurn (caller s) (caller after) (shard s) t)
    → (k : ℕ) (old : S) (made : List Turn) (new : S) → shard old ≡ k → Through turns old made new
    → Through (λ a t b. MakesTurn a b k t) (caller old) made (caller new)
turns_view caller shard turns says k old [] new at is = ap caller is
turns_view caller shard turns says k old (t ∷ ts) new at runs =
    let told = says old t runs.0 runs.1 in
    (caller runs.0, subst (λ n. MakesTurn (caller old) (caller runs.0) n t) at told.1, turns_view caller shard turns says k runs.0 ts new (told.0 ∙ at) runs.2)

hands_view : {S : Type 0} (caller : S → CallerState) (shards : ℕ) (takes refuses : S → Given → S → Type 0)
    → ((s : S) (g : Given) (after : S) → takes s g after → TakesAnswer (caller s) (caller after) shards g)
    → ((s : S) (g : Given) (after : S) → refuses s g after → RefusesAnswer (caller s) (caller after) shards g)
    → (old : S) (h : Handed) (new : S) → Hands takes refuses old h new
    → Hands (λ a g b. TakesAnswer a b shards g) (λ a g b. RefusesAnswer a b shards g) (caller old) h (caller new)
hands_view caller shards takes refuses taken refused old h new hands = record {
  mid = caller hands.mid;
  refused = through_view caller (λ s now t. refuses s (given_for h.post now) t) (λ a now b. RefusesAnswer a b shards (given_for h.post now))
      (λ s now t is. refused s (given_for h.post now) t is) old h.refusals hands.mid hands.refused;
  taken = taken hands.mid (taken_of h) new hands.taken;
}

-- who left its new seat as it was did nothing at the lane
pub apart : (lane : LaneName) (before after : SeatLists) → before ≡ new_seat lane → after ≡ before → IsApart after
apart lane before after empty same =
    record { no_pushes = ap (λ (s : SeatLists). s.pushes) (same ∙ empty); no_pops = ap (λ (s : SeatLists). s.pops) (same ∙ empty) }

module _ (first : SettingsData) (shards : ℕ) (lane : LaneName) (fresh : CallerState) where
  pub turner_did : {S B : Type 0} (old new : S) (before after : SeatLists) (beat last : B) (held : Option Job)
      (caller : S → CallerState) (shard : S → ℕ) (turns : S → Turn → S → Type 0) (calls : B → BeatCall → B → Type 0) (moment : B → ℕ)
      → caller old ≡ fresh → before ≡ new_seat lane → after.pops ≡ before.pops
      → Turning turns calls old new beat last before.pushes after.pushes held
      → ((s : S) (t : Turn) (next : S) → turns s t next → (shard next ≡ shard s) × MakesTurn (caller s) (caller next) (shard s) t)
      → ((b : B) (call : BeatCall) (next : B) → calls b call next → RisesBy (moment b) call (moment next))
      → IsThread first shards fresh (caller new) after
  turner_did old new before after beat last held caller shard turns calls moment is empty same work says rises =
      let pushed : after.pushes ≡ work.pushed = work.pushes ∙ ap (λ (s : SeatLists). s.pushes ++ work.pushed) empty in
      turner (record {
        shard = shard old;
        made = work.made;
        runs = subst (λ c. Through (λ a t b. MakesTurn a b (shard old) t) c work.made (caller new)) is
            (turns_view caller shard turns says (shard old) old work.made new refl work.runs);
        before = moment beat;
        last = moment last;
        moments = subst (λ ts. Rises (moment beat) (map moment_of ts) (moment last)) work.makes (turns_rise moment calls rises work.rounds beat last work.beats);
        held = held;
        jobs = subst (λ ps. flat_map jobs_in work.made ≡ items_of ps ++ option_to_list held) (sym pushed) work.jobs;
        no_pops = same ∙ ap (λ (s : SeatLists). s.pops) empty;
      })

  pub sender_did : {B S T : Type 0} (old new : S) (before after : SeatLists) (back_end left : B) (beat last : T)
      (caller : S → CallerState) (posts : B → Posted → B → Type 0) (takes refuses : S → Given → S → Type 0) (calls : T → BeatCall → T → Type 0) (moment : T → ℕ)
      → caller old ≡ fresh → before ≡ new_seat lane → after.pushes ≡ before.pushes
      → Sending posts takes refuses calls back_end left old new beat last before.pops after.pops
      → ((s : S) (g : Given) (next : S) → takes s g next → TakesAnswer (caller s) (caller next) shards g)
      → ((s : S) (g : Given) (next : S) → refuses s g next → RefusesAnswer (caller s) (caller next) shards g)
      → ((b : T) (call : BeatCall) (next : T) → calls b call next → RisesBy (moment b) call (moment next))
      → IsThread first shards fresh (caller new) after
  sender_did old new before after back_end left beat last caller posts takes refuses calls moment is empty same work taken refused rises =
      let popped : after.pops ≡ work.popped = work.pops ∙ ap (λ (s : SeatLists). s.pops ++ work.popped) empty in
      sender (record {
        sent = work.sent;
        handing = subst (λ c. Through (Hands (λ a g b. TakesAnswer a b shards g) (λ a g b. RefusesAnswer a b shards g)) c work.sent (caller new)) is
            (through_view caller (Hands takes refuses) (Hands (λ a g b. TakesAnswer a b shards g) (λ a g b. RefusesAnswer a b shards g))
            (hands_view caller shards takes refuses taken refused) old work.sent new work.handing);
        before = moment beat;
        last = moment last;
        moments = subst (λ hs. Rises (moment beat) (flat_map attempts hs) (moment last)) work.sends (attempts_rise moment calls rises work.rounds beat last work.beats);
        jobs = subst (λ ps. map (λ h. h.post.job) work.sent ≡ items_of ps) (sym popped) work.jobs;
        no_pushes = same ∙ ap (λ (s : SeatLists). s.pushes) empty;
      })

  pub nothing_done : (caller : CallerState) (before after : SeatLists) → before ≡ new_seat lane → after ≡ before → caller ≡ fresh
      → IsThread first shards fresh caller after
  nothing_done caller before after empty same none = idle (apart lane before after empty same) none

  pub only_looked : (old new : CallerState) (before after : SeatLists) → before ≡ new_seat lane → after ≡ before → old ≡ fresh
      → OnlyLooks shards old new → IsThread first shards fresh new after
  only_looked old new before after empty same none looks =
      admin (apart lane before after empty same) (subst (λ c. OnlyLooks shards c new) none looks)

-- one thread more
each_more : (first : SettingsData) (shards : ℕ) (fresh : CallerState) (callers : List CallerState) (seats : List SeatLists) (caller : CallerState) (seat : SeatLists)
    → AllZip (IsThread first shards fresh) callers seats → IsThread first shards fresh caller seat
    → AllZip (IsThread first shards fresh) (callers ++ caller ∷ []) (seats ++ seat ∷ [])
each_more first shards fresh [] [] caller seat each one = (one, tt)
each_more first shards fresh [] (s ∷ ss) caller seat each one = absurd each
each_more first shards fresh (c ∷ cs) [] caller seat each one = absurd each
each_more first shards fresh (c ∷ cs) (s ∷ ss) caller seat each one = (each.0, each_more first shards fresh cs ss caller seat each.1 one)

pub thread_more : (first : SettingsData) (shards : ℕ) (fresh : CallerState) (callers next : List CallerState) (seats more : List SeatLists) (caller : CallerState) (seat : SeatLists)
    → AreThreads first shards fresh callers seats → IsThread first shards fresh caller seat → next ≡ callers ++ caller ∷ [] → more ≡ seats ++ seat ∷ []
    → AreThreads first shards fresh next more
thread_more first shards fresh callers next seats more caller seat all one now is = record {
  own = all.own;
  others = all.others ++ caller ∷ [];
  callers_are = now ∙ ap (λ cs. cs ++ caller ∷ []) all.callers_are;
  each = subst (λ ss. AllZip (IsThread first shards fresh) (all.others ++ caller ∷ []) ss) (sym is) (each_more first shards fresh all.others seats caller seat all.each one);
}

pub no_threads : (first : SettingsData) (shards : ℕ) (fresh own : CallerState) (callers : List CallerState) (seats : List SeatLists) → callers ≡ own ∷ [] → seats ≡ []
    → AreThreads first shards fresh callers seats
no_threads first shards fresh own callers seats is none =
    record { own = own; others = []; callers_are = is; each = subst (AllZip (IsThread first shards fresh) []) (sym none) tt }

-- of these settings, of so many shards, and of that new caller
pub threads_told : (first table : SettingsData) (slots shards : ℕ) (fresh new : CallerState) (callers : List CallerState) (seats : List SeatLists)
    → first ≡ table → slots ≡ shards → fresh ≡ new → AreThreads first slots fresh callers seats → AreThreads table shards new callers seats
threads_told first table slots shards fresh new callers seats settings same begun threads = rw (settings, same, begun) at threads
