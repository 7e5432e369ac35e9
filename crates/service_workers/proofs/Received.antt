-- What a receiver did, from what it did with each who came.
use Rattle.std.proofs.Common.{◌≡◌, ℕ, List, [], ◌∷◌, ◌++◌, inl, inr, refl, subst, sym}
use Rattle.export_edge.specs.Work.{Through}
use Rattle.http_edge.specs.Message.{Request, Response}
use Rattle.http_edge.specs.declared.message.RefusalForm.{RefusalForm}
use Rattle.job_lane.specs.Lane.{LaneName, SeatLists, new_seat}
use Rattle.service_runtime.specs.Receiving.{IsTalk, Served, IsRound, somebody, nobody, Rounds, no_round, round_more, Receiving}
use Rattle.service_runtime.proofs.Talked.{talk_keeps}
use Rattle.shared_hub.specs.Logs.{CallerState}
use Rattle.tail_settings.specs.Settings.{SettingsData}
use Rattle.service_workers.specs.Jobs.{IsThread, Handling, Handles, receiver}
use Rattle.service_context.specs.Post.{IsHandled}
use Rattle.service_workers.proofs.Jobs.{apart}

-- what is kept while each guest is served is kept over all rounds, where nothing is done else
module _ {D G : Type 0} (serves : D → G → D → Type 0) (Keeps : D → D → Type 0) (at_rest : (s : D) → Keeps s s)
    (along : (a b c : D) → Keeps a b → Keeps b c → Keeps a c) (each : (a : D) (guest : G) (b : D) → serves a guest b → Keeps a b) where
  stays : (old new : D) → new ≡ old → Keeps old new
  stays old new same = subst (λ s. Keeps old s) (sym same) (at_rest old)

  serving_keeps : (came : D) (guest : G) (new : D) → Served (λ a seen b. b ≡ a) serves came guest new → Keeps came new
  serving_keeps came guest new (inl over) = stays came new over
  serving_keeps came guest new (inr served) =
      along came served.0 new (stays came served.0 served.1) (each served.0 guest new served.2)

  round_keeps : (old new : D) → IsRound (λ a seen b. b ≡ a) (λ a guest b. b ≡ a) serves (λ a b. b ≡ a) old new → Keeps old new
  round_keeps old new (somebody guest came takes served) =
      along old came new (stays old came takes) (serving_keeps came guest new served)
  round_keeps old new (nobody came takes rests) = along old came new (stays old came takes) (stays came new rests)

  rounds_keep : (old : D) {new : D} → Rounds (λ a seen b. b ≡ a) (λ a guest b. b ≡ a) serves (λ a b. b ≡ a) old new → Keeps old new
  rounds_keep old no_round = at_rest old
  rounds_keep old (round_more before seen new rounds looks round) =
      along old before new (rounds_keep old rounds) (along before seen new (stays before seen looks) (round_keeps seen new round))

  pub receiving_keeps : (old new : D) → Receiving (λ a seen b. b ≡ a) (λ a guest b. b ≡ a) serves (λ a b. b ≡ a) old new → Keeps old new
  receiving_keeps old new received = along old received.last new (rounds_keep old received.rounds) (stays received.last new received.over)

-- one thing after another, and others behind them
through_all : {S X : Type 0} (step : S → X → S → Type 0) (old mid new : S) (xs ys : List X) → Through step old xs mid → Through step mid ys new
    → Through step old (xs ++ ys) new
through_all step old mid new [] ys same more = subst (λ s. Through step s ys new) same more
through_all step old mid new (x ∷ xs) ys runs more = (runs.0, runs.1, through_all step runs.0 mid new xs ys runs.2 more)

module _ (first : SettingsData) (shards : ℕ) where
  -- some messages were handled between
  Handled : CallerState × ℕ → CallerState × ℕ → Type 0
  Handled old new = (handled : List Handling) × Through (Handles first shards) old handled new

  handled_none : (state : CallerState × ℕ) → Handled state state
  unfolding Handled
  handled_none state = ([], refl)

  handled_more : (a b c : CallerState × ℕ) → Handled a b → Handled b c → Handled a c
  unfolding Handled
  handled_more a b c before after =
      (before.0 ++ after.0, through_all (Handles first shards) a b c before.0 after.0 before.1 after.1)

  handled_one : (a : CallerState × ℕ) (request : Request) (told : Response) (b : CallerState × ℕ)
      → IsHandled first a.1 b.1 a.0 b.0 shards request told → Handled a b
  unfolding Handled
  handled_one a request told b is = (record { request = request; told = told } ∷ [], (b, is, refl))

  module _ (lane : LaneName) (fresh : CallerState) where
    pub receiver_did : {form : RefusalForm} {S G : Type 0} (old new : S) (before after : SeatLists) (caller : S → CallerState) (moment : S → ℕ)
        (answers : S → Request → Response → S → Type 0) → caller old ≡ fresh → before ≡ new_seat lane → after ≡ before
        → Receiving {D = S} {G = G} (λ a seen b. b ≡ a) (λ a guest b. b ≡ a) (λ a guest b. IsTalk form answers a b) (λ a b. b ≡ a) old new
        → ((a : S) (request : Request) (told : Response) (b : S) → answers a request told b
        → IsHandled first (moment a) (moment b) (caller a) (caller b) shards request told)
        → IsThread first shards fresh (caller new) after
    unfolding Handled
    receiver_did {form} {S} old new before after caller moment answers is empty same received says =
        let Keeps : S → S → Type 0 = λ a b. Handled (caller a, moment a) (caller b, moment b) in
        let none : (s : S) → Keeps s s = λ s. handled_none (caller s, moment s) in
        let along : (a b c : S) → Keeps a b → Keeps b c → Keeps a c =
        λ a b c one more. handled_more (caller a, moment a) (caller b, moment b) (caller c, moment c) one more in
        let each : (a : S) (request : Request) (told : Response) (b : S) → answers a request told b → Keeps a b =
        λ a request told b answer. handled_one (caller a, moment a) request told (caller b, moment b) (says a request told b answer) in
        let all = receiving_keeps (λ a guest b. IsTalk form answers a b) Keeps none along (λ a guest b talk. talk_keeps answers Keeps none along each a b talk)
        old new received in
        receiver (apart lane before after empty same) (record {
          handled = all.0;
          before = moment old;
          last = moment new;
          runs = subst (λ c. Through (Handles first shards) (c, moment old) all.0 (caller new, moment new)) is all.1;
        })
