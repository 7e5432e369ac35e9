-- Which keys no policy asks for: a table of 256 marks, of which that of each key that a policy asks for is set. Other
-- keys may have the same mark, so one that is set says nothing. This project's own rule.
use Rattle.std.proofs.Common.{◌≡◌, ◌∙◌, ◌<◌, ◌≤◌, ◌+◌, ◌-◌, ◌*◌, ◌%◌, ◌&&◌, ℕ, Bool, true, false, List, [], ◌∷◌, ◌++◌, length, get_or, set, refl, sym, ap, arith, inl, inr}
use Rattle.std.specs.Prelude.{replicate, slice_index, slice_set}
use Rattle.std.proofs.lemmas.Bool.Decides.{eqb_tells}
use Rattle.std.proofs.lemmas.List.{get_or-set_same, get_or-set_other, length-set}
use Rattle.std.proofs.lemmas.Slice.Eq.{bytes_eq-Decides}
use Rattle.std.specs.Str.{bytes_eq}
use Rattle.tail_settings.specs.Policy.{LeafData, PolicyData, leaf, and, leaves_of}
use Rattle.tail_settings.specs.Policy.{always_sample, latency, status_code, string_attribute, numeric_attribute}
use Rattle.span_view.specs.Facts.{AttributeFact}
use Rattle.tail_policy.specs.Meaning.{is_one_of, is_within}
use Rattle.tail_policy.specs.Note.{leaves_in, with_bit, bits_of, attribute, fact_meets}

-- the mark of a key, by its length and its last byte
abbrev pub mark_of : List ℕ → ℕ
mark_of key = (length key % 256 * 31 + slice_index key (length key - 1)) % 256

-- the table with the mark of the key that a leaf asks for
abbrev pub marked : List Bool → LeafData → List Bool
marked marks always_sample = marks
marked marks (latency threshold) = marks
marked marks (status_code codes) = marks
marked marks (string_attribute key values) = slice_set marks (mark_of key) true
marked marks (numeric_attribute key low high) = slice_set marks (mark_of key) true

-- with those of all leaves
abbrev pub all_marked : List Bool → List LeafData → List Bool
all_marked marks [] = marks
all_marked marks (l ∷ ls) = all_marked (marked marks l) ls

-- with those of all policies
abbrev pub policies_marked : List Bool → List PolicyData → List Bool
policies_marked marks [] = marks
policies_marked marks (leaf l ∷ policies) = policies_marked (marked marks l) policies
policies_marked marks (and ls ∷ policies) = policies_marked (all_marked marks ls) policies

-- a table without marks
abbrev pub no_marks : List Bool
no_marks = replicate 256 false

-- the table of these policies, of which there are at most 64, counting those that an `and` holds
pub record IsReady (policies : List PolicyData) (marks : List Bool) : Type 0 where
  pub few : leaves_of policies ≤ 64
  pub table : marks ≡ policies_marked no_marks policies

-- ---- a key without a mark is one that no leaf asks for

mark_below : (key : List ℕ) → mark_of key < 256
mark_below key = omega arith

stays_at : (marks : List Bool) (mark place : ℕ) → mark < length marks
    → get_or (set marks mark true) place false ≡ false → get_or marks place false ≡ false
stays_at marks mark place inside unset = elim (eqb_tells place mark) [
  | inl h ↦ (let here : get_or (set marks mark true) mark false ≡ true = get_or-set_same marks mark true false inside in
      let same : place ≡ mark = h.1 in cc)
  | inr h ↦ sym (get_or-set_other marks mark place true false h.1) ∙ unset
]

module _ (place : ℕ) where
  -- what has no mark afterwards had none before
  stays : (l : LeafData) (marks : List Bool) → length marks ≡ 256 → get_or (marked marks l) place false ≡ false
      → get_or marks place false ≡ false
  stays always_sample marks room unset = unset
  stays (latency threshold) marks room unset = unset
  stays (status_code codes) marks room unset = unset
  stays (string_attribute key values) marks room unset =
      stays_at marks (mark_of key) place (let below = mark_below key in omega (arith, below, room)) unset
  stays (numeric_attribute key low high) marks room unset =
      stays_at marks (mark_of key) place (let below = mark_below key in omega (arith, below, room)) unset

marked_room : (l : LeafData) (marks : List Bool) → length marks ≡ 256 → length (marked marks l) ≡ 256
marked_room always_sample marks room = room
marked_room (latency threshold) marks room = room
marked_room (status_code codes) marks room = room
marked_room (string_attribute key values) marks room = length-set marks (mark_of key) true ∙ room
marked_room (numeric_attribute key low high) marks room = length-set marks (mark_of key) true ∙ room

all_stay : (place : ℕ) (ls : List LeafData) (marks : List Bool) → length marks ≡ 256
    → get_or (all_marked marks ls) place false ≡ false → get_or marks place false ≡ false
all_stay place [] marks room unset = unset
all_stay place (l ∷ ls) marks room unset =
    stays place l marks room (all_stay place ls (marked marks l) (marked_room l marks room) unset)

other_key : (same rest : Bool) → (same ≡ true → ⊥) → (same && rest) ≡ false
other_key true rest other = absurd (other refl)
other_key false rest other = refl

differs : (marks : List Bool) (key other : List ℕ) → length marks ≡ 256
    → get_or (set marks (mark_of key) true) (mark_of other) false ≡ false → bytes_eq other key ≡ true → ⊥
differs marks key other room unset equal =
    let same : other ≡ key = (bytes_eq-Decides other key).0 equal in
    let below = mark_below key in
    let inside : mark_of key < length marks = omega (arith, below, room) in
    let there : get_or (set marks (mark_of key) true) (mark_of key) false ≡ true =
    get_or-set_same marks (mark_of key) true false inside in
    let places : mark_of other ≡ mark_of key = ap (λ k. mark_of k) same in
    let none : get_or (set marks (mark_of key) true) (mark_of key) false ≡ false =
    ap (λ place. get_or (set marks (mark_of key) true) place false) (sym places) ∙ unset in
    let clash : true ≡ false = sym there ∙ none in
    cc

unmet : (l : LeafData) (marks : List Bool) (a : AttributeFact) → length marks ≡ 256
    → get_or (marked marks l) (mark_of a.key) false ≡ false → fact_meets (attribute a) l ≡ false
unmet always_sample marks a room unset = refl
unmet (latency threshold) marks a room unset = refl
unmet (status_code codes) marks a room unset = refl
unmet (string_attribute key values) marks a room unset =
    other_key (bytes_eq a.key key) (is_one_of values a.value) (differs marks key a.key room unset)
unmet (numeric_attribute key low high) marks a room unset =
    other_key (bytes_eq a.key key) (is_within low high a.value) (differs marks key a.key room unset)

unmarked_in : (ls : List LeafData) (marks : List Bool) (a : AttributeFact) → length marks ≡ 256
    → get_or (all_marked marks ls) (mark_of a.key) false ≡ false → bits_of (fact_meets (attribute a)) ls ≡ 0
unmarked_in [] marks a room unset = refl
unmarked_in (l ∷ ls) marks a room unset =
    let room' : length (marked marks l) ≡ 256 = marked_room l marks room in
    let first : fact_meets (attribute a) l ≡ false =
    unmet l marks a room (all_stay (mark_of a.key) ls (marked marks l) room' unset) in
    ap (λ b. with_bit b (bits_of (fact_meets (attribute a)) ls)) first
    ∙ ap (λ n. n * 2) (unmarked_in ls (marked marks l) a room' unset)

all_marked-append : (ls ms : List LeafData) (marks : List Bool)
    → all_marked (all_marked marks ls) ms ≡ all_marked marks (ls ++ ms)
all_marked-append [] ms marks = refl
all_marked-append (l ∷ ls) ms marks = all_marked-append ls ms (marked marks l)

in_leaves : (policies : List PolicyData) (marks : List Bool)
    → policies_marked marks policies ≡ all_marked marks (leaves_in policies)
in_leaves [] marks = refl
in_leaves (leaf l ∷ policies) marks = in_leaves policies (marked marks l)
in_leaves (and ls ∷ policies) marks =
    in_leaves policies (all_marked marks ls) ∙ all_marked-append ls (leaves_in policies) marks

all_room : (ls : List LeafData) (marks : List Bool) → length marks ≡ 256 → length (all_marked marks ls) ≡ 256
all_room [] marks room = room
all_room (l ∷ ls) marks room = all_room ls (marked marks l) (marked_room l marks room)

-- the table of policies has a place for each mark
pub table_room : (policies : List PolicyData) (marks : List Bool) → length marks ≡ 256
    → length (policies_marked marks policies) ≡ 256
table_room policies marks room =
    ap (λ table. length table) (in_leaves policies marks) ∙ all_room (leaves_in policies) marks room

-- an attribute whose key has no mark in the table of policies meets none of them that holds no other
pub unmarked : (policies : List PolicyData) (marks : List Bool) (a : AttributeFact) → IsReady policies marks
    → get_or marks (mark_of a.key) false ≡ false → bits_of (fact_meets (attribute a)) (leaves_in policies) ≡ 0
unmarked policies marks a ready unset =
    unmarked_in (leaves_in policies) no_marks a refl
    (ap (λ table. get_or table (mark_of a.key) false) (sym (ready.table ∙ in_leaves policies no_marks)) ∙ unset)
