-- What one state tells is what another tells that goes along with it.
use Rattle.std.proofs.Common.{ℕ, ◌+◌, List, [], ◌∷◌, ◌++◌, Option, Some, None}
use Rattle.replay_script.specs.Command.{CommandData}
use Rattle.replay_script.specs.Line.{Kind, Skipped, Says, Faulty, kind_of}
use Rattle.replay_script.specs.Transcript.{Answered, Goes, Told, BeginsTold, ToldSoFar}

module _ {S H : Type 0} (told_by : S → CommandData → Option (List ℕ) → S → Type 0) (answers : H → CommandData → Option (List ℕ) → H → Type 0) (Along : S → H → Type 0)
    (each : (s t : S) (h : H) (command : CommandData) (line : Option (List ℕ)) → Along s h → told_by s command line t
    → (k : H) × answers h command line k × Along t k) where
  answered : (number : ℕ) (line : Option (List ℕ)) (rest rest' : List ℕ → Option ℕ → Type 0) (text : List ℕ) (fault : Option ℕ)
      → ((text : List ℕ) (fault : Option ℕ) → rest text fault → rest' text fault) → Answered number line rest text fault → Answered number line rest' text fault
  answered number (Some line) rest rest' text fault on h = (h.0, h.1, on h.0 fault h.2)
  answered number None rest rest' text fault on h = h

  goes : (kind : Kind) (number : ℕ) (s : S) (h : H) (rest : S → List ℕ → Option ℕ → Type 0) (rest' : H → List ℕ → Option ℕ → Type 0) (text : List ℕ) (fault : Option ℕ)
      → ((s : S) (h : H) (text : List ℕ) (fault : Option ℕ) → Along s h → rest s text fault → rest' h text fault)
      → Along s h → Goes told_by number s kind rest text fault → Goes answers number h kind rest' text fault
  goes Skipped number s h rest rest' text fault on along told = on s h text fault along told
  goes (Says command) number s h rest rest' text fault on along told =
      let next = each s told.1 h command told.0 along told.2 in
      (told.0, next.0, next.1, answered number told.0 (rest told.1) (rest' next.0) text fault (λ t f. on told.1 next.0 t f next.2) told.3)
  goes Faulty number s h rest rest' text fault on along told = told

  pub told_through : (lines : List (List ℕ)) (number : ℕ) (s : S) (h : H) (text : List ℕ) (fault : Option ℕ) → Along s h
      → Told told_by lines number s text fault → Told answers lines number h text fault
  told_through [] number s h text fault along told = told
  told_through (line ∷ lines) number s h text fault along told =
      goes (kind_of line) number s h (Told told_by lines (number + 1)) (Told answers lines (number + 1)) text fault
      (λ s h t f. told_through lines (number + 1) s h t f) along told

  pub begins_through : (lines : List (List ℕ)) (s : S) (h : H) (text : List ℕ) → Along s h → BeginsTold told_by lines s text → BeginsTold answers lines h text
  begins_through lines s h text along told =
      (told.0, told.1, told.2, told.3, told.4, told_through told.0 1 s h (text ++ told.2) told.3 along told.5)

  pub so_far_through : (lines : List (List ℕ)) (s : S) (h : H) (unread : Option (List ℕ)) (text : List ℕ) → Along s h
      → ToldSoFar told_by lines s unread text → ToldSoFar answers lines h unread text
  so_far_through lines s h unread text along told =
      record {
        done = told.done;
        left = told.left;
        rest = told.rest;
        parted = told.parted;
        told = told_through told.done 1 s h text None along told.told;
        to_read = told.to_read;
        one_read = told.one_read;
      }
