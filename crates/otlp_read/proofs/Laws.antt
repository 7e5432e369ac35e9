-- A walk gives what the pieces of the text make, and else a fault that stands in the text.
use Rattle.std.proofs.Common.{◌≡◌, ◌<◌, ◌≤◌, arith, ℕ, zero, suc, List, [], ◌∷◌, ◌++◌, length, map, Option, Some, None, Result, Ok, Err, refl, sym, ap, subst, ◌∙◌}
use Rattle.pb_wire.specs.declared.field.WireFault.{WireFault}
use Rattle.pb_wire.specs.Grammar.{Entry, IsField, Fields, no_fields, more_fields}
use Rattle.pb_wire.specs.Reading.{next_at}
use Rattle.pb_wire.proofs.Again.{next_again, next_takes}
use Rattle.pb_wire.proofs.Answered.{none_from}
use Rattle.pb_wire.proofs.Faults.{next_fault}
use Rattle.pb_wire.proofs.Sound.{fault_or_fields}
use Rattle.pb_wire.proofs.Whole.{next_shorter}
use Rattle.otlp_read.specs.declared.fault.ReadFault.{ReadFault}
use Rattle.otlp_read.specs.Fault.{of_wire}
use Rattle.otlp_read.specs.Walk.{◌>>=◌, Step, Piece, Pieces, no_pieces, more_pieces, before, fold_fields, onward, walk_in, walk}
use Rattle.otlp_read.specs.Stands.{Makes, Stands, no_field, unsound, behind}
use Rattle.otlp_read.proofs.Walks.{walk_step, before_rest, turn_end, turn_more, turn_fault, bind_same}

pub bind_ok : {A B : Type 0} (r : Result A ReadFault) (f : A → Result B ReadFault) (y : B) → (r >>= f) ≡ Ok y → (x : A) × (r ≡ Ok x) × (f x ≡ Ok y)
bind_ok (Ok x) f y e = (x, refl, e)
bind_ok (Err g) f y e = absurd (let never : ◌≡◌ {A = Result _ ReadFault} (Err g) (Ok y) = e in cc)

-- lists one after the other
pub fold_append : {A : Type 0} (step : Step A) (a : A) (xs ys : List Piece) → fold_fields step a (xs ++ ys) ≡ (fold_fields step a xs >>= λ b. fold_fields step b ys)
fold_append step a [] ys = refl
fold_append step a (x ∷ xs) ys = after step (step a x.field x.spelled) xs ys (λ b. fold_append step b xs ys)
  where
    after : {A : Type 0} (step : Step A) (r : Result A ReadFault) (xs ys : List Piece) → ((b : A) → fold_fields step b (xs ++ ys) ≡ (fold_fields step b xs >>= λ c. fold_fields step c ys))
        → (r >>= λ b. fold_fields step b (xs ++ ys)) ≡ ((r >>= λ b. fold_fields step b xs) >>= λ c. fold_fields step c ys)
    after step (Ok b) xs ys same = same b
    after step (Err f) xs ys same = refl

-- pieces of a text are its fields
pub pieces_fields : {d : ℕ} {text : List ℕ} {pieces : List Piece} → Pieces d text pieces → Fields d text (map (λ p. p.field) pieces)
pieces_fields no_pieces = no_fields
pieces_fields (more_pieces first inner) = more_fields first (pieces_fields inner)

pub begins_at : (d : ℕ) (front rest : List ℕ) (field : Entry) → IsField d front field → next_at d (front ++ rest) ≡ Ok (Some (field, rest))
begins_at d front rest field first = next_again d (front ++ rest) field rest (record { front = front; parts = refl; first = first })

-- a field at the front is taken
pub front_taken : {A : Type 0} (step : Step A) (d : ℕ) (a b : A) (front rest : List ℕ) (e : Entry) → IsField d front e → step a e front ≡ Ok b → walk step d a (front ++ rest) ≡ walk step d b rest
front_taken step d a b front rest e first taken = turn_more step d a b (front ++ rest) rest e (begins_at d front rest e first) (ap (step a e) (before_rest front rest) ∙ taken)

pub front_failed : {A : Type 0} (step : Step A) (d : ℕ) (a : A) (front rest : List ℕ) (e : Entry) (f : ReadFault) → IsField d front e → step a e front ≡ Err f → walk step d a (front ++ rest) ≡ Err f
front_failed step d a front rest e f first failed = turn_fault step d a (front ++ rest) rest e f (begins_at d front rest e first) (ap (step a e) (before_rest front rest) ∙ failed)

-- pieces are walked
pub walk_pieces : {A : Type 0} (step : Step A) {d : ℕ} {bytes : List ℕ} {pieces : List Piece} (a : A) → Pieces d bytes pieces → walk step d a bytes ≡ fold_fields step a pieces
walk_pieces step a (no_pieces {d = d}) = turn_end step d a [] refl
walk_pieces step a (more_pieces {d = d} {front = front} {rest = rest} {field = field} {pieces = pieces} first inner) =
    walk_step step d a (front ++ rest) ∙ ap (onward step (walk step d) a (front ++ rest)) (begins_at d front rest field first)
    ∙ ap (λ spelled. step a field spelled >>= λ b. walk step d b rest) (before_rest front rest)
    ∙ bind_same (step a field front) (λ b. walk step d b rest) (λ b. fold_fields step b pieces) (λ b. walk_pieces step b inner)

-- what is spelled is what stands before the rest
spelled_is : {A : Type 0} (step : Step A) (a : A) (bytes front rest : List ℕ) (field : Entry) → bytes ≡ front ++ rest → step a field front ≡ step a field (before bytes rest)
spelled_is step a bytes front rest field parts = ap (step a field) (sym (ap (λ t. before t rest) parts ∙ before_rest front rest))

-- what is walked is pieces
makes_in : {A : Type 0} (step : Step A) (n d : ℕ) (a b : A) (bytes : List ℕ) → length bytes ≤ n → walk_in step d n a bytes ≡ Ok b → Makes step d a bytes b
unfolding walk_in
makes_in step zero d a b [] le e = record { pieces = []; are = no_pieces; made = e }
makes_in step zero d a b (x ∷ bytes) le e = absurd (omega arith)
makes_in step (suc n) d a b bytes le e = by_first step n d a b bytes (next_at d bytes) refl e (λ c rest lt e'. makes_in step n d c b rest (omega arith) e')
  where
    by_first : {A : Type 0} (step : Step A) (n d : ℕ) (a b : A) (bytes : List ℕ) (r : Result (Option (Entry × List ℕ)) WireFault) → next_at d bytes ≡ r → onward step (walk_in step d n) a bytes r ≡ Ok b
        → ((c : A) (rest : List ℕ) → length rest < length bytes → walk_in step d n c rest ≡ Ok b → Makes step d c rest b) → Makes step d a bytes b
    by_first step n d a b bytes (Ok None) is e deeper =
        subst (λ t. Makes step d a t b) (sym (none_from d bytes is)) (record { pieces = []; are = no_pieces; made = e })
    by_first step n d a b bytes (Ok (Some x)) is e deeper =
        let begins = next_takes d bytes x.0 x.1 is in
        let one = bind_ok (step a x.0 (before bytes x.1)) (λ c. walk_in step d n c x.1) b e in
        let inner = deeper one.0 x.1 (next_shorter d bytes x.0 x.1 is) one.2 in
        record {
          pieces = record { field = x.0; spelled = begins.front } ∷ inner.pieces;
          are = subst (λ t. Pieces d t (record { field = x.0; spelled = begins.front } ∷ inner.pieces)) (sym begins.parts) (more_pieces begins.first inner.are);
          made = ap (λ (r : Result _ ReadFault). r >>= λ c. fold_fields step c inner.pieces) (spelled_is step a bytes begins.front x.1 x.0 begins.parts ∙ one.1) ∙ inner.made;
        }
    by_first step n d a b bytes (Err f) is e deeper = absurd (let never : ◌≡◌ {A = Result _ ReadFault} (Err (of_wire f)) (Ok b) = e in cc)

pub makes : {A : Type 0} (step : Step A) (d : ℕ) (a b : A) (bytes : List ℕ) → walk step d a bytes ≡ Ok b → Makes step d a bytes b
unfolding walk
makes step d a b bytes e = makes_in step (length bytes) d a b bytes (omega arith) e

pub made : {A : Type 0} (step : Step A) (d : ℕ) (a b : A) (bytes : List ℕ) → Makes step d a bytes b → walk step d a bytes ≡ Ok b
made step d a b bytes m = walk_pieces step a m.are ∙ m.made

-- a fault that ends the walk stands in the text
stands_in : {A : Type 0} (step : Step A) (n d : ℕ) (a : A) (bytes : List ℕ) (fault : ReadFault) → walk_in step d n a bytes ≡ Err fault → Stands step d a bytes fault
unfolding walk_in
stands_in step zero d a bytes fault e = absurd (let never : ◌≡◌ {A = Result _ ReadFault} (Ok a) (Err fault) = e in cc)
stands_in step (suc n) d a bytes fault e = by_first step n d a bytes fault (next_at d bytes) refl e (λ c rest e'. stands_in step n d c rest fault e')
  where
    err_is : {A : Type 0} (f g : ReadFault) → ◌≡◌ {A = Result A ReadFault} (Err f) (Err g) → f ≡ g
    err_is f g e = cc

    by_step : {A : Type 0} (step : Step A) (n d : ℕ) (a : A) (text rest : List ℕ) (field : Entry) (fault : ReadFault) (r : Result A ReadFault) → step a field text ≡ r → (r >>= λ c. walk_in step d n c rest) ≡ Err fault
        → IsField d text field → ((c : A) → walk_in step d n c rest ≡ Err fault → Stands step d c rest fault) → Stands step d a (text ++ rest) fault
    by_step step n d a text rest field fault (Ok c) is e first deeper = behind first is (deeper c e)
    by_step {A} step n d a text rest field fault (Err g) is e first deeper = unsound rest first (is ∙ ap (λ (h : ReadFault). Err h) (err_is {A = A} g fault e))

    by_first : {A : Type 0} (step : Step A) (n d : ℕ) (a : A) (bytes : List ℕ) (fault : ReadFault) (r : Result (Option (Entry × List ℕ)) WireFault) → next_at d bytes ≡ r → onward step (walk_in step d n) a bytes r ≡ Err fault
        → ((c : A) (rest : List ℕ) → walk_in step d n c rest ≡ Err fault → Stands step d c rest fault) → Stands step d a bytes fault
    by_first step n d a bytes fault (Ok None) is e deeper = absurd (let never : ◌≡◌ {A = Result _ ReadFault} (Ok a) (Err fault) = e in cc)
    by_first step n d a bytes fault (Ok (Some x)) is e deeper =
        let b = next_takes d bytes x.0 x.1 is in
        subst (λ (t : List ℕ). Stands step d a t fault) (sym b.parts) (by_step step n d a b.front x.1 x.0 fault (step a x.0 (before bytes x.1)) (spelled_is step a bytes b.front x.1 x.0 b.parts) e b.first (λ c. deeper c x.1))
    by_first {A} step n d a bytes fault (Err w) is e deeper = no_field (next_fault d bytes w is) (err_is {A = A} fault (of_wire w) (sym e))

pub stands : {A : Type 0} (step : Step A) (d : ℕ) (a : A) (bytes : List ℕ) (fault : ReadFault) → walk step d a bytes ≡ Err fault → Stands step d a bytes fault
unfolding walk
stands step d a bytes fault e = stands_in step (length bytes) d a bytes fault e

stands_made : {A : Type 0} (step : Step A) (d : ℕ) {a : A} {bytes : List ℕ} {fault : ReadFault} (b : A) → Stands step d a bytes fault → walk step d a bytes ≡ Ok b → ⊥
stands_made step d b (no_field {a = a} {text = text} {wire = wire} faulty is) e =
    let m = makes step d a b text e in fault_or_fields d text wire (map (λ p. p.field) m.pieces) faulty (pieces_fields m.are)
stands_made {A} step d b (unsound {a = a} {text = text} {field = field} {fault = fault} rest first failed) e =
    let failing : walk step d a (text ++ rest) ≡ Err fault = front_failed step d a text rest field fault first failed in
    absurd (let never : ◌≡◌ {A = Result A ReadFault} (Err fault) (Ok b) = sym failing ∙ e in cc)
stands_made step d b (behind {a = a} {b = c} {text = text} {rest = rest} {field = field} first taken inner) e =
    stands_made step d b inner (sym (front_taken step d a c text rest field first taken) ∙ e)

-- no fault stands in a text with a value
pub apart : {A : Type 0} (step : Step A) (d : ℕ) (a b : A) (bytes : List ℕ) (fault : ReadFault) → Stands step d a bytes fault → Makes step d a bytes b → ⊥
apart step d a b bytes fault s m = stands_made step d b s (made step d a b bytes m)
