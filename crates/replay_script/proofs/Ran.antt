-- A script that was run so far, and what the next line adds.
use Rattle.std.proofs.Common.{◌≡◌, ◌≤◌, ◌+◌, ℕ, List, [], ◌∷◌, ◌++◌, length, Option, Some, None, Result, Ok, Err, refl, ap, sym, subst, ◌∙◌, arith}
use Rattle.std.proofs.lemmas.List.{append-nil, append_assoc, length-append}
use Rattle.replay_script.specs.declared.fault.ScriptFault.{ScriptFault}
use Rattle.replay_script.specs.declared.fault.ScriptFault.TheVariants.{Script, Line, OutOfMemory}
use Rattle.replay_script.specs.Command.{CommandData}
use Rattle.replay_script.specs.Line.{Kind, Skipped, Says, Faulty, kind_of, lines_of}
use Rattle.replay_script.specs.Transcript.{Goes, Told, BeginsTold, ToldSoFar, ReadTo, Ends}
use Rattle.replay_script.specs.Step.{Adds, IsFaulty}

module _ {S : Type 0} (answers : S → CommandData → Option (List ℕ) → S → Type 0) where
  -- so many lines were run, and this is told for them
  pub record RanTo (all : List (List ℕ)) (start : S) (left : List (List ℕ)) (number : ℕ) (state : S) (text : List ℕ) : Type 0 where
    pub done : List (List ℕ)
    pub split : all ≡ done ++ left
    pub counted : length done ≡ number
    pub goes : (lines : List (List ℕ)) (more : List ℕ) (fault : Option ℕ) → Told answers lines (number + 1) state more fault
        → Told answers (done ++ lines) 1 start (text ++ more) fault

  goes_on : (kind : Kind) (number : ℕ) (old new : S) (text more : List ℕ) (fault : Option ℕ) (rest : S → List ℕ → Option ℕ → Type 0)
      → Adds answers old kind text new → rest new more fault → Goes answers number old kind rest (text ++ more) fault
  goes_on Skipped number old new text more fault rest adds told =
      subst (λ t. rest old t fault) (ap (λ t. t ++ more) (sym adds.0)) (subst (λ s. rest s more fault) adds.1 told)
  goes_on (Says command) number old new text more fault rest adds told = (Some text, new, adds, (more, refl, told))
  goes_on Faulty number old new text more fault rest adds told = absurd adds

  one_more : (done : List (List ℕ)) (line : List ℕ) (number : ℕ) → length done ≡ number → length (done ++ line ∷ []) ≡ number + 1
  one_more done line number counted = let both = length-append done (line ∷ []) in omega (arith, both, counted)

  pub ran_more : (all : List (List ℕ)) (start : S) (line : List ℕ) (left : List (List ℕ)) (number : ℕ) (state after : S) (text added : List ℕ)
      → RanTo all start (line ∷ left) number state text → Adds answers state (kind_of line) added after
      → RanTo all start left (number + 1) after (text ++ added)
  ran_more all start line left number state after text added ran adds =
      record {
        done = ran.done ++ line ∷ [];
        split = ran.split ∙ sym (append_assoc ran.done (line ∷ []) left);
        counted = one_more ran.done line number ran.counted;
        goes = λ lines more fault told.
            subst (λ l. Told answers l 1 start ((text ++ added) ++ more) fault) (sym (append_assoc ran.done (line ∷ []) lines))
            (subst (λ t. Told answers (ran.done ++ line ∷ lines) 1 start t fault) (sym (append_assoc text added more))
            (ran.goes (line ∷ lines) (added ++ more) fault
            (goes_on (kind_of line) (number + 1) state after added more fault (Told answers lines (number + 1 + 1)) adds told)));
      }

  pub ran_over : (all : List (List ℕ)) (start : S) (number : ℕ) (state : S) (text : List ℕ) → RanTo all start [] number state text → Told answers all 1 start text None
  ran_over all start number state text ran =
      subst (λ l. Told answers l 1 start text None) (sym ran.split)
      (subst (λ t. Told answers (ran.done ++ []) 1 start t None) (append-nil text) (ran.goes [] [] None (refl, refl)))

  stops : (kind : Kind) (number : ℕ) (old : S) (rest : S → List ℕ → Option ℕ → Type 0) → IsFaulty answers old kind → Goes answers number old kind rest [] (Some number)
  stops Skipped number old rest faulty = absurd faulty
  stops (Says command) number old rest faulty = (None, faulty.0, faulty.1, (refl, refl))
  stops Faulty number old rest faulty = (refl, refl)

  pub ran_faulty : (all : List (List ℕ)) (start : S) (line : List ℕ) (left : List (List ℕ)) (number : ℕ) (state : S) (text : List ℕ)
      → RanTo all start (line ∷ left) number state text → IsFaulty answers state (kind_of line) → Told answers all 1 start text (Some (number + 1))
  ran_faulty all start line left number state text ran faulty =
      subst (λ l. Told answers l 1 start text (Some (number + 1))) (sym ran.split)
      (subst (λ t. Told answers (ran.done ++ line ∷ left) 1 start t (Some (number + 1))) (append-nil text)
      (ran.goes (line ∷ left) [] (Some (number + 1)) (stops (kind_of line) (number + 1) state (Told answers left (number + 1 + 1)) faulty)))

  pub ran_read : (all : List (List ℕ)) (start : S) (line rest : List ℕ) (number : ℕ) (state : S) (text : List ℕ) (unread : Option (List ℕ))
      → RanTo all start (line ∷ lines_of rest) number state text → unread ≡ Some rest → ReadTo (number + 1) all unread
  ran_read all start line rest number state text unread ran is =
      record {
        done = ran.done ++ line ∷ [];
        rest = rest;
        parted = ran.split ∙ sym (append_assoc ran.done (line ∷ []) (lines_of rest));
        counted = one_more ran.done line number ran.counted;
        to_read = is;
      }

  pub ran_begins : (all : List (List ℕ)) (start : S) (left : List (List ℕ)) (number : ℕ) (state : S) (text : List ℕ) → RanTo all start left number state text → BeginsTold answers all start text
  ran_begins all start left number state text ran = (
    ran.done,
    left,
    [],
    None,
    ran.split,
    subst (λ l. Told answers l 1 start (text ++ []) None) (append-nil ran.done) (ran.goes [] [] None (refl, refl)),
  )

  pub ran_so_far : (all : List (List ℕ)) (start : S) (left : List (List ℕ)) (number : ℕ) (state : S) (text : List ℕ) (unread : Option (List ℕ)) (rest : List ℕ)
      → RanTo all start left number state text → unread ≡ Some rest → length left ≤ 1 + length (lines_of rest) → ToldSoFar answers all start unread text
  ran_so_far all start left number state text unread rest ran is few =
      record {
        done = ran.done;
        left = left;
        rest = rest;
        parted = ran.split;
        told = subst (λ t. Told answers ran.done 1 start t None) (append-nil text)
            (subst (λ l. Told answers l 1 start (text ++ []) None) (append-nil ran.done) (ran.goes [] [] None (refl, refl)));
        to_read = is;
        one_read = few;
      }

  pub begins : (lines : List (List ℕ)) (start : S) (unread : Option (List ℕ)) (written left : List ℕ) (r : Result Unit ScriptFault)
      → Ends answers lines start unread (written ++ left) r → BeginsTold answers lines start written
  begins lines start unread written left (Ok done) told = (lines, [], left, None, sym (append-nil lines), told)
  begins lines start unread written left (Err (Script line)) told = (lines, [], left, Some line, sym (append-nil lines), told.0)
  begins lines start unread written left (Err Line) told =
      (told.0, told.1, left ++ told.2, told.3, told.4, subst (λ t. Told answers told.0 1 start t told.3) (append_assoc written left told.2) told.5)
  begins lines start unread written left (Err OutOfMemory) told = (told.done, told.left, left, None, told.parted, told.told)
