-- What a reader of whole bodies answered, in the words of the public clauses.
use Rattle.std.proofs.Common.{◌≡◌, ◌≢◌, ℕ, List, Result, Ok, Err, IfOk, IfErr, IsOkAnd, refl}
use Rattle.otlp_read.specs.declared.fault.ReadFault.{ReadFault}
use Rattle.otlp_read.specs.declared.fault.ReadFault.TheVariants.{Truncated, VarintTooLong, BadTag, GroupMismatch, TooDeep, NotUtf8, OutOfMemory}
use Rattle.otlp_read.specs.Fault.{Fails, Gives}
use Rattle.otlp_read.specs.Stands.{Makes, Stands}
use Rattle.otlp_read.specs.Walk.{Step, walk, read_with}
use Rattle.otlp_read.proofs.Laws.{makes, made, stands}
use Rattle.otlp_read.proofs.Opened.{opened_at}

pub whole : {A : Type 0} (step : ℕ → Step A) (a : A) (bytes : List ℕ) → read_with step 101 a bytes ≡ walk (step 100) 0 a bytes
whole step a bytes = opened_at step 100 a bytes

pub answered_value : {X A : Type 0} (view : X → A) (step : ℕ → Step A) (a : A) (bytes : List ℕ) (r : Result X ReadFault) → Gives view r (read_with step 101 a bytes) → IfOk r (λ x. Makes (step 100) 0 a bytes (view x))
answered_value view step a bytes (Ok x) h = makes (step 100) 0 a (view x) bytes (rw (whole step a bytes) at h)
answered_value view step a bytes (Err f) h = tt

failed : {Y : Type 0} (f : ReadFault) (read : Result Y ReadFault) → Fails f read → f ≢ OutOfMemory → read ≡ Err f
failed Truncated read h other = h
failed VarintTooLong read h other = h
failed BadTag read h other = h
failed GroupMismatch read h other = h
failed TooDeep read h other = h
failed NotUtf8 read h other = h
failed OutOfMemory read h other = absurd (other refl)

-- where the body has a value, only want of memory refuses it
pub only_memory : {Y : Type 0} (f : ReadFault) (y : Y) → Fails f (Ok y) → f ≡ OutOfMemory
only_memory Truncated y is = absurd (cc)
only_memory VarintTooLong y is = absurd (cc)
only_memory BadTag y is = absurd (cc)
only_memory GroupMismatch y is = absurd (cc)
only_memory TooDeep y is = absurd (cc)
only_memory NotUtf8 y is = absurd (cc)
only_memory OutOfMemory y is = refl

pub answered_fault : {X A : Type 0} (view : X → A) (step : ℕ → Step A) (a : A) (bytes : List ℕ) (r : Result X ReadFault) → Gives view r (read_with step 101 a bytes) → IfErr r (λ f. f ≢ OutOfMemory → Stands (step 100) 0 a bytes f)
answered_fault view step a bytes (Ok x) h = tt
answered_fault view step a bytes (Err f) h = λ other. stands (step 100) 0 a bytes f (rw (whole step a bytes) at (failed f (read_with step 101 a bytes) h other))

pub answered_only : {X A : Type 0} (view : X → A) (step : ℕ → Step A) (a : A) (bytes : List ℕ) (r : Result X ReadFault) (v : A) → Makes (step 100) 0 a bytes v → Gives view r (read_with step 101 a bytes) → Gives view r (Ok v)
answered_only view step a bytes r v is h = let same : read_with step 101 a bytes ≡ Ok v = rw (whole step a bytes) (made (step 100) 0 a v bytes is) in rw same at h

-- ---- readers that never want memory

pub sure_fault : {X : Type 0} (P : ReadFault → Type 0) (r : Result X ReadFault) → IfErr r (λ f. f ≢ OutOfMemory) → IfErr r (λ f. f ≢ OutOfMemory → P f) → IfErr r P
sure_fault P (Ok x) sure h = tt
sure_fault P (Err f) sure h = h sure

pub sure_only : {X A : Type 0} (view : X → A) (r : Result X ReadFault) (v : A) → IfErr r (λ f. f ≢ OutOfMemory) → Gives view r (Ok v) → IsOkAnd r (λ x. view x ≡ v)
sure_only view (Ok x) v sure h = cc
sure_only {A = A} view (Err f) v sure h = absurd (let never : ◌≡◌ {A = Result A ReadFault} (Ok v) (Err f) = failed f (Ok v) h sure in cc)
