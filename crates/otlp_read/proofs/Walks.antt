-- A walk over the fields, field by field.
use Rattle.std.proofs.Common.{◌≡◌, ℕ, zero, suc, ◌-◌, ◌<◌, ◌≤◌, List, [], ◌∷◌, ◌++◌, length, take, Option, Some, None, Result, Ok, Err, refl, ap, ◌∙◌, arith, length-append}
use Rattle.std.proofs.Math.Seq.{take-append_seam}
use Rattle.pb_wire.specs.declared.field.WireFault.{WireFault}
use Rattle.pb_wire.specs.declared.field.WireFault.TheVariants as wire
use Rattle.pb_wire.specs.Grammar.{Entry}
use Rattle.pb_wire.specs.Reading.{next_at}
use Rattle.pb_wire.proofs.Whole.{next_shorter}
use Rattle.otlp_read.specs.declared.fault.ReadFault.{ReadFault}
use Rattle.otlp_read.specs.declared.fault.ReadFault.TheVariants.{Truncated, VarintTooLong, BadTag, GroupMismatch, TooDeep, NotUtf8, OutOfMemory}
use Rattle.otlp_read.specs.Fault.{of_wire, Fails, Gives}
use Rattle.otlp_read.specs.Walk.{◌>>=◌, Step, before, onward, walk_in, walk}

pub bind_same : {A B : Type 0} (r : Result A ReadFault) (f g : A → Result B ReadFault) → ((a : A) → f a ≡ g a) → (r >>= f) ≡ (r >>= g)
bind_same (Ok a) f g same = same a
bind_same (Err e) f g same = refl

-- what stands before the rest is the front
pub before_rest : (front rest : List ℕ) → before (front ++ rest) rest ≡ front
before_rest front rest =
    let long : length (front ++ rest) - length rest ≡ length front = omega (arith, length-append front rest) in
    ap (λ n. take n (front ++ rest)) long ∙ take-append_seam front rest

onward_same : {A : Type 0} (step : Step A) (p q : A → List ℕ → Result A ReadFault) (d : ℕ) (a : A) (bytes : List ℕ) (r : Result (Option (Entry × List ℕ)) WireFault) → next_at d bytes ≡ r
    → ((b : A) (rest : List ℕ) → length rest < length bytes → p b rest ≡ q b rest) → onward step p a bytes r ≡ onward step q a bytes r
onward_same step p q d a bytes (Ok None) e agree = refl
onward_same step p q d a bytes (Ok (Some x)) e agree = bind_same (step a x.0 (before bytes x.1)) (λ b. p b x.1) (λ b. q b x.1) (λ b. agree b x.1 (next_shorter d bytes x.0 x.1 e))
onward_same step p q d a bytes (Err f) e agree = refl

walk_enough : {A : Type 0} (step : Step A) (m n d : ℕ) (a : A) (bytes : List ℕ) → length bytes ≤ m → length bytes ≤ n → walk_in step d m a bytes ≡ walk_in step d n a bytes
unfolding walk_in
walk_enough step zero zero d a bytes le le' = refl
walk_enough step zero (suc n) d a [] le le' = refl
walk_enough step zero (suc n) d a (b ∷ bytes) le le' = absurd (omega arith)
walk_enough step (suc m) zero d a [] le le' = refl
walk_enough step (suc m) zero d a (b ∷ bytes) le le' = absurd (omega arith)
walk_enough step (suc m) (suc n) d a bytes le le' =
    onward_same step (walk_in step d m) (walk_in step d n) d a bytes (next_at d bytes) refl (λ b rest lt. walk_enough step m n d b rest (omega arith) (omega arith))

-- one field, and then the others
pub walk_step : {A : Type 0} (step : Step A) (d : ℕ) (a : A) (bytes : List ℕ) → walk step d a bytes ≡ onward step (walk step d) a bytes (next_at d bytes)
unfolding walk walk_in
walk_step step d a [] = refl
walk_step step d a (b ∷ bytes) =
    onward_same step (walk_in step d (length bytes)) (walk step d) d a (b ∷ bytes) (next_at d (b ∷ bytes)) refl (λ c rest lt. walk_enough step (length bytes) (length rest) d c rest (omega arith) (omega arith))

pub turn_end : {A : Type 0} (step : Step A) (d : ℕ) (a : A) (bytes : List ℕ) → next_at d bytes ≡ Ok None → walk step d a bytes ≡ Ok a
turn_end step d a bytes e = walk_step step d a bytes ∙ ap (onward step (walk step d) a bytes) e

pub turn_wire : {A : Type 0} (step : Step A) (d : ℕ) (a : A) (bytes : List ℕ) (f : WireFault) → next_at d bytes ≡ Err f → walk step d a bytes ≡ Err (of_wire f)
turn_wire step d a bytes f e = walk_step step d a bytes ∙ ap (onward step (walk step d) a bytes) e

pub turn_more : {A : Type 0} (step : Step A) (d : ℕ) (a b : A) (bytes rest : List ℕ) (field : Entry) → next_at d bytes ≡ Ok (Some (field, rest)) → step a field (before bytes rest) ≡ Ok b → walk step d a bytes ≡ walk step d b rest
turn_more step d a b bytes rest field e taken =
    walk_step step d a bytes ∙ ap (onward step (walk step d) a bytes) e ∙ ap (λ (r : Result _ ReadFault). r >>= λ c. walk step d c rest) taken

pub turn_fault : {A : Type 0} (step : Step A) (d : ℕ) (a : A) (bytes rest : List ℕ) (field : Entry) (f : ReadFault) → next_at d bytes ≡ Ok (Some (field, rest)) → step a field (before bytes rest) ≡ Err f → walk step d a bytes ≡ Err f
turn_fault step d a bytes rest field f e failed =
    walk_step step d a bytes ∙ ap (onward step (walk step d) a bytes) e ∙ ap (λ (r : Result _ ReadFault). r >>= λ c. walk step d c rest) failed

-- ---- exits of a loop

fails_wire : {Y : Type 0} (f : WireFault) (read : Result Y ReadFault) → read ≡ Err (of_wire f) → Fails (of_wire f) read
fails_wire wire.Truncated read h = h
fails_wire wire.VarintTooLong read h = h
fails_wire wire.BadTag read h = h
fails_wire wire.GroupMismatch read h = h
fails_wire wire.TooDeep read h = h

pub gives_wire : {X Y : Type 0} (view : X → Y) (r : Result X ReadFault) (x : ReadFault) (f : WireFault) (read : Result Y ReadFault) → r ≡ Err x → x ≡ of_wire f → read ≡ Err (of_wire f) → Gives view r read
gives_wire view r x f read is of h = rw (is, of) (fails_wire f read h)

fails_on : {Y Z : Type 0} (e : ReadFault) (inner : Result Z ReadFault) (read : Result Y ReadFault) → Fails e inner → (inner ≡ Err e → read ≡ Err e) → Fails e read
fails_on Truncated inner read h on = on h
fails_on VarintTooLong inner read h on = on h
fails_on BadTag inner read h on = on h
fails_on GroupMismatch inner read h on = on h
fails_on TooDeep inner read h on = on h
fails_on NotUtf8 inner read h on = on h
fails_on OutOfMemory inner read h on = tt

pub gives_fault : {X Y Z : Type 0} (view : X → Y) (r : Result X ReadFault) (x e : ReadFault) (inner : Result Z ReadFault) (read : Result Y ReadFault) → r ≡ Err x → x ≡ e → Fails e inner → (inner ≡ Err e → read ≡ Err e) → Gives view r read
gives_fault view r x e inner read is of h on = rw (is, of) (fails_on e inner read h on)
