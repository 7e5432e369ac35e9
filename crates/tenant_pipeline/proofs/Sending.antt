-- Batches that are offered, by what is a tenant's own.
use Rattle.std.proofs.Common.{◌≡◌, ◌<◌, ◌≤◌, ◌+◌, ◌-◌, ◌++◌, ◌∙◌, ℕ, zero, suc, List, [], ◌∷◌, length, length-append, take, min, ◌^◌, refl, sym, ap, arith, Bool, true, false, cond, ◌||◌, None}
use Rattle.std.specs.Prelude.{nat_le, nat_lt}
use Rattle.std.proofs.Math.Seq.{take-append_seam}
use Rattle.std.proofs.lemmas.Bool.Decides.{nat_tests}
use Rattle.drop_ledger.specs.Ledger.{LedgerData, moved}
use Rattle.drop_ledger.specs.declared.places.Place.TheVariants.{Pending, Queued, QueueFull}
use Rattle.send_queue.specs.Sender.{BatchData, SenderData, payload_bytes, is_full, offered, taken_back}
use Rattle.send_queue.proofs.Queued.{payload_bytes-append}
use Rattle.span_batcher.specs.Blocks.{capped}
use Rattle.tail_settings.specs.Section.{section_view}
use Rattle.tenant_rules.specs.Sender.{sizes, most_bytes, finds_no_room, admitted}
use Rattle.decision_cache.specs.Caches.{shown}
use Rattle.tenant_rules.specs.State.{State}
use Rattle.tenant_rules.specs.Timers.{recount, queued, all_queued}
use Rattle.tenant_pipeline.specs.declared.pipeline.Pipeline.{Pipeline}
use Rattle.tenant_pipeline.specs.Outbox.{undone, Fits, Offers, Sends, Took}

pub took_none : (s : SenderData) → Took 0 s s
took_none s = record { back = refl; count = omega arith; settings = refl; room = λ fits. fits }

pub undone-add : (n m : ℕ) (s : SenderData) → undone (n + m) s ≡ undone n (undone m s)
undone-add n zero s = let z : n + 0 ≡ n = omega arith in ap (λ (k : ℕ). undone k s) z
undone-add n (suc m) s = let z : n + suc m ≡ suc (n + m) = omega arith in ap (λ (k : ℕ). undone k s) z ∙ undone-add n m (taken_back s)

pub took_more : (n m : ℕ) (s t u : SenderData) → Took n s t → Took m t u → Took (n + m) s u
took_more n m s t u first then = record {
  back = undone-add n m u ∙ (ap (undone n) then.back ∙ first.back);
  count = omega (arith, first.count, then.count);
  settings = then.settings ∙ first.settings;
  room = λ fits. then.room (first.room fits);
}

-- ---- whether a batch finds room

-- a size that is told up to a greatest one is above the bound where the whole is
pub is_above : (size n : ℕ) → size ≡ capped n → nat_lt most_bytes size ≡ nat_lt most_bytes n
is_above size n is = by_test (nat_lt most_bytes n) refl
  where
    by_test : (b : Bool) → nat_lt most_bytes n ≡ b → nat_lt most_bytes size ≡ b
    by_test true t = let above : most_bytes < n = grind (arith, nat_tests, t) in let more : most_bytes < size = omega (arith, is, above) in grind (arith, nat_tests, more)
    by_test false t = let below : n ≤ most_bytes = grind (arith, nat_tests, t) in let less : size ≤ most_bytes = omega (arith, is, below) in grind (arith, nat_tests, less)

-- more bytes than are left are those with which there would be too many
pub is_beyond : (left waiting most ahead size sum : ℕ) → left + waiting ≡ most → most ≤ 2 ^ 42 → sum ≡ min (ahead + size) (2 ^ 64 - 1) → nat_lt left sum ≡ nat_lt most (waiting + ahead + size)
is_beyond left waiting most ahead size sum is few sum_is = by_test (nat_lt most (waiting + ahead + size)) refl
  where
    by_test : (b : Bool) → nat_lt most (waiting + ahead + size) ≡ b → nat_lt left sum ≡ b
    by_test true t = let above : most < waiting + ahead + size = grind (arith, nat_tests, t) in let more : left < sum = omega (arith, is, few, sum_is, above) in grind (arith, nat_tests, more)
    by_test false t = let below : waiting + ahead + size ≤ most = grind (arith, nat_tests, t) in let less : sum ≤ left = omega (arith, is, few, sum_is, below) in grind (arith, nat_tests, less)

pub either_order : (many heavy long : Bool) → many ≡ false → ((many || heavy) || long) ≡ (long || heavy)
either_order true heavy long few = absurd (cc)
either_order false true true few = refl
either_order false true false few = refl
either_order false false true few = refl
either_order false false false few = refl

pub one_of_two : (f g : Bool) → f ≡ true → (f || g) ≡ true
one_of_two true g is = refl
one_of_two false g is = absurd (cc)

pub none_of_two : (f g : Bool) → (f || g) ≡ false → (f ≡ false) × (g ≡ false)
none_of_two true g is = absurd (cc)
none_of_two false g is = (refl, is)

neither_of_two : (f g : Bool) → f ≡ false → g ≡ false → (f || g) ≡ false
neither_of_two true g none other = absurd (cc)
neither_of_two false g none other = other

-- where those that wait and others are few and light, there is room for the first of the others
pub first_fits : (s : SenderData) (b : BatchData) (bs : List BatchData) → Fits (record s { queue = s.queue ++ b ∷ bs }) → is_full b s ≡ false
first_fits s b bs fits =
    let few = fits.few in
    let light = fits.light in
    let fewer : length s.queue < s.sending.queue_size = omega (arith, few, length-append s.queue (b ∷ bs)) in
    let lighter : payload_bytes s.queue + length b.payload ≤ s.sending.queue_bytes = omega (arith, light, payload_bytes-append s.queue (b ∷ bs)) in
    let not_many : nat_le s.sending.queue_size (length s.queue) ≡ false = grind (arith, nat_tests, fewer) in
    let not_heavy : nat_lt s.sending.queue_bytes (payload_bytes s.queue + length b.payload) ≡ false = grind (arith, nat_tests, lighter) in
    neither_of_two _ _ not_many not_heavy

module _ (b : BatchData) (s : SenderData) where
  -- it has more bytes than any may have, or with those that wait more than may wait
  abbrev pub has_too_many : Bool
  has_too_many = nat_lt most_bytes (length b.payload) || nat_lt s.sending.queue_bytes (payload_bytes s.queue + length b.payload)

  pub full_has_none : s.sending.queue_size ≤ length s.queue → finds_no_room b s ≡ true
  full_has_none full =
      let many : nat_le s.sending.queue_size (length s.queue) ≡ true = grind (arith, nat_tests, full) in
      one_of_two (is_full b s) (nat_lt most_bytes (length b.payload)) (one_of_two (nat_le s.sending.queue_size (length s.queue)) (nat_lt s.sending.queue_bytes (payload_bytes s.queue + length b.payload)) many)

  -- where fewer wait than may it goes by its bytes
  pub room_by_bytes : length s.queue < s.sending.queue_size → finds_no_room b s ≡ has_too_many
  room_by_bytes room =
      let few : nat_le s.sending.queue_size (length s.queue) ≡ false = grind (arith, nat_tests, room) in
      either_order (nat_le s.sending.queue_size (length s.queue)) (nat_lt s.sending.queue_bytes (payload_bytes s.queue + length b.payload)) (nat_lt most_bytes (length b.payload)) few

  -- what finds room meets no full queue
  pub is_not_full : finds_no_room b s ≡ false → is_full b s ≡ false
  is_not_full room = (none_of_two (is_full b s) (nat_lt most_bytes (length b.payload)) room).0

  abbrev pub behind : SenderData
  behind = record s { queue = s.queue ++ b ∷ [] }

  pub offered_is : finds_no_room b s ≡ false → offered b s ≡ behind
  offered_is room = ap (λ (f : Bool). cond f s behind) (is_not_full room)

  admitted_is : finds_no_room b s ≡ false → admitted b s ≡ behind
  admitted_is room = ap (λ (f : Bool). cond f s behind) room

  -- with one more the queue isn't beyond its bounds
  fits_behind : is_full b s ≡ false → Fits behind
  fits_behind room =
      let tests = none_of_two (nat_le s.sending.queue_size (length s.queue)) (nat_lt s.sending.queue_bytes (payload_bytes s.queue + length b.payload)) room in
      let few : nat_le s.sending.queue_size (length s.queue) ≡ false = tests.0 in
      let light : nat_lt s.sending.queue_bytes (payload_bytes s.queue + length b.payload) ≡ false = tests.1 in
      let fewer : length s.queue < s.sending.queue_size = grind (arith, nat_tests, few) in
      let lighter : payload_bytes s.queue + length b.payload ≤ s.sending.queue_bytes = grind (arith, nat_tests, light) in
      record {
        few = omega (arith, fewer, length-append s.queue (b ∷ []));
        light = omega (arith, lighter, payload_bytes-append s.queue (b ∷ []));
      }

  -- one more waits
  pub took_one : finds_no_room b s ≡ false → Took 1 s behind
  took_one room =
      let size = length-append s.queue (b ∷ []) in
      let last : length (s.queue ++ b ∷ []) - 1 ≡ length s.queue = omega (arith, size) in
      let front : take (length (s.queue ++ b ∷ []) - 1) (s.queue ++ b ∷ []) ≡ s.queue =
      ap (λ (n : ℕ). take n (s.queue ++ b ∷ [])) last ∙ take-append_seam s.queue (b ∷ []) in
      record {
        back = ap (λ (q : List BatchData). let y : SenderData = record s { queue = q } in y) front;
        count = omega (arith, size);
        settings = refl;
        room = λ fits. fits_behind (is_not_full room);
      }

  -- its spans were dropped
  pub offers_none : (l l' : LedgerData) (n : ℕ) → b.spans ≡ n → finds_no_room b s ≡ true → l' ≡ moved Pending QueueFull n l → Offers b s s l l'
  offers_none l l' n size none ledger t sender_is ledger_is =
      let here : finds_no_room b t.sender ≡ true = ap (finds_no_room b) sender_is ∙ none in
      ap (λ (f : Bool). cond f (recount Pending QueueFull b.spans t) (recount Pending Queued b.spans (record t { sender = admitted b t.sender }))) here
      ∙ ((λ i. record t { sender = sender_is i; ledger = moved Pending QueueFull (size i) (ledger_is i) })
      ∙ ap (λ (x : LedgerData). let u : State = record t { sender = s; ledger = x } in u) (sym ledger))

  -- it waits
  pub offers_one : (s' : SenderData) (l l' : LedgerData) (n : ℕ) → b.spans ≡ n → finds_no_room b s ≡ false → s' ≡ behind → l' ≡ moved Pending Queued n l → Offers b s s' l l'
  offers_one s' l l' n size room sender ledger t sender_is ledger_is =
      let here : finds_no_room b t.sender ≡ false = ap (finds_no_room b) sender_is ∙ room in
      let then : admitted b t.sender ≡ s' = ap (admitted b) sender_is ∙ (admitted_is room ∙ sym sender) in
      ap (λ (f : Bool). cond f (recount Pending QueueFull b.spans t) (recount Pending Queued b.spans (record t { sender = admitted b t.sender }))) here
      ∙ ((λ i. record t { sender = then i; ledger = moved Pending Queued (size i) (ledger_is i) })
      ∙ ap (λ (x : LedgerData). let u : State = record t { sender = s'; ledger = x } in u) (sym ledger))

-- ---- how many spans stay pending

pending_queued : (b : BatchData) (s : State) → b.spans ≤ s.ledger.places.pending → (queued b s).ledger.places.pending + b.spans ≡ s.ledger.places.pending
pending_queued b s few = by_test (finds_no_room b s.sender)
  where
    by_test : (full : Bool) → (cond full (recount Pending QueueFull b.spans s) (recount Pending Queued b.spans (record s { sender = cond full s.sender (record s.sender { queue = s.sender.queue ++ b ∷ [] }) }))).ledger.places.pending + b.spans ≡ s.ledger.places.pending
    by_test true = omega (arith, few)
    by_test false = omega (arith, few)

pub pending_after : (bs : List BatchData) (s : State) → sizes bs ≤ s.ledger.places.pending → (all_queued bs s).ledger.places.pending + sizes bs ≡ s.ledger.places.pending
pending_after [] s few = omega arith
pending_after (b ∷ bs) s few =
    let one = pending_queued b s (omega (arith, few)) in
    let rest = pending_after bs (queued b s) (omega (arith, few, one)) in
    omega (arith, one, rest)

-- a state of these numbers
abbrev bare : Pipeline → State
bare own = record {
  section = section_view own.section;
  clock = 0;
  drained = false;
  opened = 0;
  settled = [];
  waiting = [];
  caches = shown own.caches;
  pending = record { rules = own.batcher.rules; start = None; spans = [] };
  sender = own.sender;
  ledger = own.ledger;
}

-- after one batch
pub pending_one : (b : BatchData) (own new : Pipeline) → Sends (queued b) own new → b.spans ≤ own.ledger.places.pending → new.ledger.places.pending + b.spans ≡ own.ledger.places.pending
pending_one b own new sends few =
    let s : State = bare own in
    let is : (queued b s).ledger.places.pending ≡ new.ledger.places.pending = ap (λ (u : State). u.ledger.places.pending) (sends.rules s refl refl) in
    let one = pending_queued b s few in
    omega (arith, is, one)
