-- A text's fields go by, and what is put in place of some of them makes the same of what is read.
use Rattle.std.proofs.Common.{◌≡◌, ◌-◌, ℕ, Bool, true, ◌<◌, ◌≤◌, List, [], ◌++◌, length, Some, Result, Ok, Err, IfOk, refl, sym, ap, ◌∙◌, append_assoc, append-nil, arith}
use Rattle.pb_wire.specs.Grammar.{Entry, IsField}
use Rattle.pb_wire.specs.Reading.{next_at}
use Rattle.pb_wire.proofs.Again.{next_takes}
use Rattle.otlp_read.specs.declared.fault.ReadFault.{ReadFault}
use Rattle.otlp_read.specs.Walk.{◌>>=◌, Step, before, onward, walk, read_with}
use Rattle.otlp_read.proofs.Laws.{begins_at}
use Rattle.otlp_read.proofs.Opened.{opened}
use Rattle.otlp_read.proofs.Walks.{walk_step, before_rest}
use Rattle.otlp_canonical.specs.Inner.{DefaultLaws, TurnedFields}

-- What a reader makes of what was copied and what goes on behind it is what it makes of the whole text: both come to the
-- same state, in which the fields of greater numbers are at their defaults.
pub record Dropped {A : Type 0} (step : Step A) (none : A) (Above : ℕ → A → Type 0) (d : ℕ) (text copy from left : List ℕ) (most : ℕ) : Type 0 where
  pub skipped : List ℕ
  pub parts : from ≡ skipped ++ left
  pub state : Result A ReadFault
  pub copied : (rest : List ℕ) → walk step d none ((copy ++ skipped) ++ rest) ≡ (state >>= λ s. walk step d s rest)
  pub whole : walk step d none text ≡ (state >>= λ s. walk step d s left)
  pub defaults : IfOk state (Above most)

-- the same between two fields of the loop, behind what stood there before
pub record Going {A : Type 0} (step : ℕ → Step A) (none : A) (Above : ℕ → A → Type 0) (room : ℕ) (text old copy from left : List ℕ) (most : ℕ) : Type 0 where
  pub within : length left ≤ length from
  pub put : List ℕ
  pub is : copy ≡ old ++ put
  pub so_far : Dropped (step (room - 1)) none Above (101 - room) text put from left most

-- a field, and then the others
pub front_walked : {A : Type 0} (step : Step A) (d : ℕ) (a : A) (front rest : List ℕ) (field : Entry) → IsField d front field → walk step d a (front ++ rest) ≡ (step a field front >>= λ b. walk step d b rest)
front_walked step d a front rest field first =
    walk_step step d a (front ++ rest) ∙ ap (onward step (walk step d) a (front ++ rest)) (begins_at d front rest field first)
    ∙ ap (λ (spelled : List ℕ). step a field spelled >>= λ b. walk step d b rest) (before_rest front rest)

module _ {A : Type 0} (step : ℕ → Step A) (none : A) (default : Entry → Bool) (Above : ℕ → A → Type 0) (laws : DefaultLaws step none default Above) (inner d : ℕ) where
  pub none_dropped : (text : List ℕ) → Dropped (step inner) none Above d text [] text text 0
  none_dropped text = record { skipped = []; parts = refl; state = Ok none; copied = λ rest. refl; whole = refl; defaults = laws.first }

  state_walked : (state : Result A ReadFault) (front rest : List ℕ) (field : Entry) → IsField d front field
      → (state >>= λ s. walk (step inner) d s (front ++ rest)) ≡ ((state >>= λ s. step inner s field front) >>= λ t. walk (step inner) d t rest)
  state_walked (Ok s) front rest field first = front_walked (step inner) d s front rest field first
  state_walked (Err f) front rest field first = refl

  state_leaves : (state : Result A ReadFault) (low high : ℕ) (field : Entry) (spelled : List ℕ) → low ≤ high → field.number ≤ high → IfOk state (Above low) → IfOk (state >>= λ s. step inner s field spelled) (Above high)
  state_leaves (Ok s) low high field spelled le fits c = laws.leaves inner high s field spelled fits (laws.fewer low high s le c)
  state_leaves (Err f) low high field spelled le fits c = tt

  -- what is put in place of a field
  abbrev pub Alike : ℕ → Entry → List ℕ → Type 0
  Alike most field put =
      (s : A) (spelled rest : List ℕ) → Above most s → walk (step inner) d s (put ++ rest) ≡ (step inner s field spelled >>= λ t. walk (step inner) d t rest)

  state_alike : (state : Result A ReadFault) (most : ℕ) (field : Entry) (put front rest : List ℕ) → Alike most field put → IfOk state (Above most)
      → (state >>= λ s. walk (step inner) d s (put ++ rest)) ≡ ((state >>= λ s. step inner s field front) >>= λ t. walk (step inner) d t rest)
  state_alike (Ok s) most field put front rest alike c = alike s front rest c
  state_alike (Err f) most field put front rest alike c = refl

  -- nothing in place of a default
  pub default_alike : (most : ℕ) (field : Entry) → default field ≡ true → most < field.number → Alike most field []
  default_alike most field is lt s spelled rest c = sym (ap (λ (r : Result A ReadFault). r >>= λ t. walk (step inner) d t rest) (laws.same inner most s field spelled is lt c))

  pub one_kept : (text copy from left rest : List ℕ) (low high : ℕ) (field : Entry) → low ≤ high → field.number ≤ high → next_at d left ≡ Ok (Some (field, rest)) → Dropped (step inner) none Above d text copy from left low
      → Dropped (step inner) none Above d text copy from rest high
  one_kept text copy from left rest low high field le fits found p =
      let b = next_takes d left field rest found in
      let front = b.front in
      record {
        skipped = p.skipped ++ front;
        parts = p.parts ∙ ap (λ (t : List ℕ). p.skipped ++ t) b.parts ∙ sym (append_assoc p.skipped front rest);
        state = p.state >>= λ s. step inner s field front;
        copied = λ others.
            ap (walk (step inner) d none) (ap (λ (t : List ℕ). t ++ others) (sym (append_assoc copy p.skipped front)) ∙ append_assoc (copy ++ p.skipped) front others)
            ∙ p.copied (front ++ others) ∙ state_walked p.state front others field b.first;
        whole = p.whole ∙ ap (λ (t : List ℕ). p.state >>= λ s. walk (step inner) d s t) b.parts ∙ state_walked p.state front rest field b.first;
        defaults = state_leaves p.state low high field front le fits p.defaults;
      }

  -- a field behind which nothing is copied yet, with another text in its place
  pub one_put : (text copy from left rest : List ℕ) (low high : ℕ) (field : Entry) (longer put : List ℕ) → longer ≡ (copy ++ before from left) ++ put → Alike low field put → low ≤ high → field.number ≤ high → next_at d left ≡ Ok (Some (field, rest))
      → Dropped (step inner) none Above d text copy from left low → Dropped (step inner) none Above d text longer rest rest high
  one_put text copy from left rest low high field longer put is alike le fits found p =
      let b = next_takes d left field rest found in
      let front = b.front in
      let run : before from left ≡ p.skipped = ap (λ (t : List ℕ). before t left) p.parts ∙ before_rest p.skipped left in
      let so_far : longer ++ [] ≡ (copy ++ p.skipped) ++ put = append-nil longer ∙ is ∙ ap (λ (t : List ℕ). (copy ++ t) ++ put) run in
      record {
        skipped = [];
        parts = refl;
        state = p.state >>= λ s. step inner s field front;
        copied = λ others.
            ap (λ (t : List ℕ). walk (step inner) d none (t ++ others)) so_far ∙ ap (walk (step inner) d none) (append_assoc (copy ++ p.skipped) put others)
            ∙ p.copied (put ++ others) ∙ state_alike p.state low field put front others alike p.defaults;
        whole = p.whole ∙ ap (λ (t : List ℕ). p.state >>= λ s. walk (step inner) d s t) b.parts ∙ state_walked p.state front rest field b.first;
        defaults = state_leaves p.state low high field front le fits p.defaults;
      }

  -- what was copied, and what isn't yet
  pub walked_same : (text copy from left : List ℕ) (most : ℕ) → Dropped (step inner) none Above d text copy from left most → walk (step inner) d none text ≡ walk (step inner) d none (copy ++ from)
  walked_same text copy from left most p =
      p.whole ∙ sym (p.copied left) ∙ ap (walk (step inner) d none) (append_assoc copy p.skipped left ∙ ap (λ (t : List ℕ). copy ++ t) (sym p.parts))

  -- two fields the other way round
  two_walked : (s : A) (first second rest : List ℕ) (one other : Entry) → IsField d first one → IsField d second other
      → walk (step inner) d s (first ++ (second ++ rest)) ≡ ((step inner s one first >>= λ a. step inner a other second) >>= λ t. walk (step inner) d t rest)
  two_walked s first second rest one other is_one is_other =
      front_walked (step inner) d s first (second ++ rest) one is_one ∙ state_walked (step inner s one first) second rest other is_other

  pub turned_dropped : (text first second rest : List ℕ) → TurnedFields step none d text first second rest → Dropped (step inner) none Above d text (second ++ first) rest rest 2
  turned_dropped text first second rest t = record {
    skipped = [];
    parts = refl;
    state = step inner none t.one first >>= λ a. step inner a t.other second;
    copied = λ others.
        ap (λ (front : List ℕ). walk (step inner) d none (front ++ others)) (append-nil (second ++ first)) ∙ ap (walk (step inner) d none) (append_assoc second first others)
        ∙ two_walked none second first others t.other t.one t.follows t.begins ∙ ap (λ (r : Result A ReadFault). r >>= λ s. walk (step inner) d s others) (sym (t.same inner));
    whole = ap (walk (step inner) d none) t.parts ∙ two_walked none first second rest t.one t.other t.begins t.follows;
    defaults = state_leaves (step inner none t.one first) 2 2 t.other second (omega arith) t.other_low (state_leaves (Ok none) 0 2 t.one first (omega arith) t.one_low laws.first);
  }

module _ {A : Type 0} (step : ℕ → Step A) (none : A) (default : Entry → Bool) (Above : ℕ → A → Type 0) (laws : DefaultLaws step none default Above) (room : ℕ) (text old : List ℕ) where
  -- two fields the other way round, one put behind the other
  pub going_turned : (one copy first second rest : List ℕ) → one ≡ old ++ second → copy ≡ one ++ first → TurnedFields step none (101 - room) text first second rest → Going step none Above room text old copy rest rest 2
  going_turned one copy first second rest is behind t = record {
    within = omega arith;
    put = second ++ first;
    is = behind ∙ ap (λ (t : List ℕ). t ++ first) is ∙ append_assoc old second first;
    so_far = turned_dropped step none default Above laws (room - 1) (101 - room) text first second rest t;
  }

  pub going_none : Going step none Above room text old old text text 0
  going_none = record { within = omega arith; put = []; is = sym (append-nil old); so_far = none_dropped step none default Above laws (room - 1) (101 - room) text }

  pub going_kept : (copy from left rest : List ℕ) (low high : ℕ) (field : Entry) → length rest < length left → low ≤ high → field.number ≤ high → next_at (101 - room) left ≡ Ok (Some (field, rest))
      → Going step none Above room text old copy from left low → Going step none Above room text old copy from rest high
  going_kept copy from left rest low high field shorter le fits found g = record {
    within = omega (arith, g.within);
    put = g.put;
    is = g.is;
    so_far = one_kept step none default Above laws (room - 1) (101 - room) text g.put from left rest low high field le fits found g.so_far;
  }

  pub going_put : (copy run longer from left rest : List ℕ) (low high : ℕ) (field : Entry) (put : List ℕ) → run ≡ copy ++ before from left → longer ≡ run ++ put → Alike step none default Above laws (room - 1) (101 - room) low field put
      → low ≤ high → field.number ≤ high → next_at (101 - room) left ≡ Ok (Some (field, rest)) → Going step none Above room text old copy from left low → Going step none Above room text old longer rest rest high
  going_put copy run longer from left rest low high field put first is alike le fits found g = record {
    within = omega arith;
    put = (g.put ++ before from left) ++ put;
    is =
        is ∙ ap (λ (t : List ℕ). t ++ put) (first ∙ ap (λ (t : List ℕ). t ++ before from left) g.is ∙ append_assoc old g.put (before from left))
        ∙ append_assoc old (g.put ++ before from left) put;
    so_far = one_put step none default Above laws (room - 1) (101 - room) text g.put from left rest low high field ((g.put ++ before from left) ++ put) put refl alike le fits found g.so_far;
  }

  -- with what isn't copied yet
  pub going_same : (copy from left : List ℕ) (most : ℕ) → 0 < room → (g : Going step none Above room text old copy from left most) → read_with step room none text ≡ read_with step room none (g.put ++ from)
  going_same copy from left most some g =
      opened step room none text some ∙ walked_same step none default Above laws (room - 1) (101 - room) text g.put from left most g.so_far
      ∙ sym (opened step room none (g.put ++ from) some)
