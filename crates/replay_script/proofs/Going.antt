-- A script that is being run: what was read, done, told and written.
use Rattle.std.proofs.Common.{◌≡◌, ◌≤◌, ◌+◌, ℕ, Bool, true, false, List, [], ◌∷◌, ◌++◌, length, Option, Some, None, Result, Ok, Err, IfSome, ap, sym, subst, ◌∙◌, arith}
use Rattle.std.proofs.lemmas.List.{append-nil}
use Rattle.std.specs.Io.KnownBytes.{Appends}
use Rattle.replay_script.specs.declared.fault.ScriptFault.{ScriptFault}
use Rattle.replay_script.specs.declared.fault.ScriptFault.TheVariants.{Script, Line, OutOfMemory}
use Rattle.replay_script.specs.Command.{CommandData}
use Rattle.replay_script.specs.Line.{kind_of, lines_of}
use Rattle.replay_script.specs.Transcript.{Told, BeginsTold, ReadTo, Ends}
use Rattle.replay_script.specs.Step.{Adds, Refuses}
use Rattle.replay_script.specs.Input.{TakesLine, ReadsOne, kept_of, IsOutside}
use Rattle.replay_script.specs.Output.{Sends}
use Rattle.replay_script.proofs.Long.{kind_kept}
use Rattle.replay_script.proofs.Ran.{RanTo, ran_more, ran_over, ran_faulty, ran_read, ran_begins, ran_so_far, begins}
use Rattle.replay_script.proofs.Sent.{sends_on, sends_more}

few : (line : List ℕ) (lines : List (List ℕ)) → length (line ∷ lines) ≤ 1 + length lines
few line lines = omega arith

pub when_found : (r1 r2 : Option (List ℕ)) (f g : Bool) (kept : List ℕ) → f ≡ g → IfSome r1 (λ rest. TakesLine rest r2 f kept) → IfSome r1 (λ rest. TakesLine rest r2 g kept)
when_found r1 r2 f g kept is = subst (λ b. IfSome r1 (λ rest. TakesLine rest r2 b kept)) is

pub line_found : (r1 r2 : Option (List ℕ)) (f : Bool) (kept line : List ℕ) → f ≡ true → line ≡ kept → IfSome r1 (λ rest. TakesLine rest r2 f kept) → IfSome r1 (λ rest. TakesLine rest r2 true line)
line_found r1 r2 f kept line is same takes =
    subst (λ l. IfSome r1 (λ rest. TakesLine rest r2 true l)) (sym same) (when_found r1 r2 f true kept is takes)

module _ {S : Type 0} (answers : S → CommandData → Option (List ℕ) → S → Type 0) where
  pub record Going (reader_then reader writer_then writer : Option (List ℕ)) (held_then held : List ℕ) (start state : S) (number : ℕ) : Type 0 where
    pub so_far : IfSome reader_then (λ script. (rest : List ℕ) × (text : List ℕ) × (reader ≡ Some rest)
        × Sends writer_then writer held_then text held × RanTo answers (lines_of script) start (lines_of rest) number state text)

  at_line : (all : List (List ℕ)) (start : S) (lines : List (List ℕ)) (line : List ℕ) (left : List (List ℕ)) (number : ℕ) (state : S) (text : List ℕ)
      → lines ≡ line ∷ left → RanTo answers all start lines number state text → RanTo answers all start (line ∷ left) number state text
  at_line all start lines line left number state text is ran = subst (λ l. RanTo answers all start l number state text) is ran

  kept_kind : (kept line : List ℕ) → kept ≡ kept_of line → kind_of kept ≡ kind_of line
  kept_kind kept line is = ap kind_of is ∙ kind_kept line

  found : (r : Option (List ℕ)) (rest : List ℕ) (P : List ℕ → Type 0) → IfSome r P → r ≡ Some rest → P rest
  found r rest P h e = subst (λ o. IfSome o P) e h

  pub going_sent : (r0 r1 w0 w1 w2 : Option (List ℕ)) (h0 h1 h2 : List ℕ) (s0 s1 : S) (n : ℕ) → Going r0 r1 w0 w1 h0 h1 s0 s1 n → Sends w1 w2 h1 [] h2
      → Going r0 r1 w0 w2 h0 h2 s0 s1 n
  going_sent None r1 w0 w1 w2 h0 h1 h2 s0 s1 n going sends = record { so_far = tt }
  going_sent (Some script) r1 w0 w1 w2 h0 h1 h2 s0 s1 n going sends =
      let so_far = going.so_far in
      record { so_far = (so_far.0, so_far.1, so_far.2, sends_on w0 w1 w2 h0 so_far.1 h1 h2 so_far.3 sends, so_far.4) }

  pub going_line : (r0 r1 r2 w0 w1 w2 : Option (List ℕ)) (h0 h1 h2 kept added : List ℕ) (s0 s1 s2 : S) (n : ℕ) → Going r0 r1 w0 w1 h0 h1 s0 s1 n
      → IfSome r1 (λ rest. TakesLine rest r2 true kept) → Adds answers s1 (kind_of kept) added s2 → Sends w1 w2 (h1 ++ added) [] h2
      → Going r0 r2 w0 w2 h0 h2 s0 s2 (n + 1)
  going_line None r1 r2 w0 w1 w2 h0 h1 h2 kept added s0 s1 s2 n going takes adds sends = record { so_far = tt }
  going_line (Some script) r1 r2 w0 w1 w2 h0 h1 h2 kept added s0 s1 s2 n going takes adds sends =
      let so_far = going.so_far in
      let line = found r1 so_far.0 (λ rest. TakesLine rest r2 true kept) takes so_far.2 in
      let at = at_line _ _ _ line.0 (lines_of line.1) n s1 so_far.1 line.3 so_far.4 in
      record {
        so_far = (
          line.1,
          so_far.1 ++ added,
          line.2,
          sends_more w0 w1 w2 h0 so_far.1 h1 added h2 so_far.3 sends,
          ran_more answers _ _ line.0 (lines_of line.1) n s1 s2 so_far.1 added at (subst (λ k. Adds answers s1 k added s2) (kept_kind kept line.0 line.4) adds),
        );
      }

  pub going_over : (r0 r1 r2 w0 w1 : Option (List ℕ)) (h0 h1 kept : List ℕ) (s0 s1 : S) (n : ℕ) (done : Unit) → Going r0 r1 w0 w1 h0 h1 s0 s1 n
      → IfSome r1 (λ rest. TakesLine rest r2 false kept)
      → IfSome r0 (λ script. (text : List ℕ) × Sends w0 w1 h0 text h1 × Ends answers (lines_of script) s0 r2 text (Ok done))
  going_over None r1 r2 w0 w1 h0 h1 kept s0 s1 n done going takes = tt
  going_over (Some script) r1 r2 w0 w1 h0 h1 kept s0 s1 n done going takes =
      let so_far = going.so_far in
      let none = found r1 so_far.0 (λ rest. TakesLine rest r2 false kept) takes so_far.2 in
      (so_far.1, so_far.3, ran_over answers _ _ n s1 so_far.1 (subst (λ l. RanTo answers (lines_of script) s0 l n s1 so_far.1) none so_far.4))

  outside : (all : List (List ℕ)) (start : S) (left : List (List ℕ)) (number : ℕ) (state : S) (text : List ℕ) (unread : Option (List ℕ)) (rest : List ℕ) (fault : ScriptFault)
      → RanTo answers all start left number state text → unread ≡ Some rest → length left ≤ 1 + length (lines_of rest) → IsOutside fault → Ends answers all start unread text (Err fault)
  outside all start left number state text unread rest (Script line) ran is one kind = absurd kind
  outside all start left number state text unread rest Line ran is one kind = ran_begins answers all start left number state text ran
  outside all start left number state text unread rest OutOfMemory ran is one kind = ran_so_far answers all start left number state text unread rest ran is one

  -- no further line was read whole
  pub going_stops : (r0 r1 r2 w0 w1 : Option (List ℕ)) (h0 h1 : List ℕ) (s0 s1 : S) (n : ℕ) (fault : ScriptFault) → Going r0 r1 w0 w1 h0 h1 s0 s1 n → IsOutside fault
      → IfSome r1 (λ rest. ReadsOne rest r2) → IfSome r0 (λ script. (text : List ℕ) × Sends w0 w1 h0 text h1 × Ends answers (lines_of script) s0 r2 text (Err fault))
  going_stops None r1 r2 w0 w1 h0 h1 s0 s1 n fault going is reads = tt
  going_stops (Some script) r1 r2 w0 w1 h0 h1 s0 s1 n fault going is reads =
      let so_far = going.so_far in
      let one = found r1 so_far.0 (λ rest. ReadsOne rest r2) reads so_far.2 in
      (so_far.1, so_far.3, outside _ _ _ n s1 so_far.1 r2 one.0 fault so_far.4 one.1 one.2 is)

  -- the writer failed
  pub going_failed : (r0 r1 w0 w1 : Option (List ℕ)) (h0 h1 : List ℕ) (s0 s1 : S) (n : ℕ) (fault : ScriptFault) → Going r0 r1 w0 w1 h0 h1 s0 s1 n → fault ≡ Line
      → IfSome r0 (λ script. (text : List ℕ) × Sends w0 w1 h0 text h1 × Ends answers (lines_of script) s0 r1 text (Err fault))
  going_failed None r1 w0 w1 h0 h1 s0 s1 n fault going is = tt
  going_failed (Some script) r1 w0 w1 h0 h1 s0 s1 n fault going is =
      let so_far = going.so_far in
      (so_far.1, so_far.3, subst (λ f. Ends answers (lines_of script) s0 r1 so_far.1 (Err f)) (sym is) (ran_begins answers _ _ _ n s1 so_far.1 so_far.4))

  refused : (all : List (List ℕ)) (start : S) (line rest : List ℕ) (number : ℕ) (state : S) (text : List ℕ) (unread : Option (List ℕ)) (fault : ScriptFault) → unread ≡ Some rest
      → RanTo answers all start (line ∷ lines_of rest) number state text → Refuses answers state (kind_of line) (number + 1) fault → Ends answers all start unread text (Err fault)
  refused all start line rest number state text unread (Script n) is ran refuses =
      subst (λ k. Told answers all 1 start text (Some k) × ReadTo k all unread) (sym refuses.0) (
        ran_faulty answers all start line (lines_of rest) number state text ran refuses.1,
        ran_read answers all start line rest number state text unread ran is,
      )
  refused all start line rest number state text unread Line is ran refuses = absurd refuses
  refused all start line rest number state text unread OutOfMemory is ran refuses =
      ran_so_far answers all start (line ∷ lines_of rest) number state text unread rest ran is (few line (lines_of rest))

  pub going_refused : (r0 r1 r2 w0 w1 : Option (List ℕ)) (h0 h1 h2 kept : List ℕ) (s0 s1 : S) (n : ℕ) (fault : ScriptFault) → Going r0 r1 w0 w1 h0 h1 s0 s1 n
      → IfSome r1 (λ rest. TakesLine rest r2 true kept) → Refuses answers s1 (kind_of kept) (n + 1) fault → h2 ≡ h1
      → IfSome r0 (λ script. (text : List ℕ) × Sends w0 w1 h0 text h2 × Ends answers (lines_of script) s0 r2 text (Err fault))
  going_refused None r1 r2 w0 w1 h0 h1 h2 kept s0 s1 n fault going takes refuses same = tt
  going_refused (Some script) r1 r2 w0 w1 h0 h1 h2 kept s0 s1 n fault going takes refuses same =
      let so_far = going.so_far in
      let line = found r1 so_far.0 (λ rest. TakesLine rest r2 true kept) takes so_far.2 in
      let at = at_line _ _ _ line.0 (lines_of line.1) n s1 so_far.1 line.3 so_far.4 in (
        so_far.1,
        subst (λ h. Sends w0 w1 h0 so_far.1 h) (sym same) so_far.3,
        refused _ _ line.0 line.1 n s1 so_far.1 r2 fault line.2 at
            (subst (λ k. Refuses answers s1 k (n + 1) fault) (kept_kind kept line.0 line.4) refuses),
      )

  pub from_nothing : (r0 r1 w0 w1 : Option (List ℕ)) (h0 h1 : List ℕ) (s0 : S) (r : Result Unit ScriptFault) → h0 ≡ []
      → IfSome r0 (λ script. (text : List ℕ) × Sends w0 w1 h0 text h1 × Ends answers (lines_of script) s0 r1 text r)
      → IfSome r0 (λ script. (text : List ℕ) × Sends w0 w1 [] text h1 × Ends answers (lines_of script) s0 r1 text r)
  from_nothing r0 r1 w0 w1 h0 h1 s0 r none = subst (λ h. IfSome r0 (λ script. (text : List ℕ) × Sends w0 w1 h text h1 × Ends answers (lines_of script) s0 r1 text r)) none

  -- the held text was sent too, as far as that went
  pub sent_all : (r0 r1 w0 w1 w2 : Option (List ℕ)) (h1 h2 : List ℕ) (s0 : S) (r : Result Unit ScriptFault)
      → IfSome r0 (λ script. (text : List ℕ) × Sends w0 w1 [] text h1 × Ends answers (lines_of script) s0 r1 text r)
      → Sends w1 w2 h1 [] h2 → h2 ≡ []
      → IfSome r0 (λ script. (written : List ℕ) × Appends w0 w2 written × Ends answers (lines_of script) s0 r1 written r)
  sent_all None r1 w0 w1 w2 h1 h2 s0 r told sends all = tt
  sent_all (Some script) r1 w0 w1 w2 h1 h2 s0 r told sends all =
      let both = sends_on w0 w1 w2 [] told.0 h1 h2 told.1 sends in
      let is : told.0 ≡ both.0 = both.2 ∙ ap (λ l. both.0 ++ l) all ∙ append-nil both.0 in
      (both.0, both.1, subst (λ t. Ends answers (lines_of script) s0 r1 t r) is told.2)

  pub sent_part : (r0 r1 w0 w1 w2 : Option (List ℕ)) (h1 h2 : List ℕ) (s0 : S) (r : Result Unit ScriptFault)
      → IfSome r0 (λ script. (text : List ℕ) × Sends w0 w1 [] text h1 × Ends answers (lines_of script) s0 r1 text r)
      → Sends w1 w2 h1 [] h2
      → IfSome r0 (λ script. (written : List ℕ) × Appends w0 w2 written × BeginsTold answers (lines_of script) s0 written)
  sent_part None r1 w0 w1 w2 h1 h2 s0 r told sends = tt
  sent_part (Some script) r1 w0 w1 w2 h1 h2 s0 r told sends =
      let both = sends_on w0 w1 w2 [] told.0 h1 h2 told.1 sends in
      (both.0, both.1, begins answers (lines_of script) s0 r1 both.0 h2 r (subst (λ t. Ends answers (lines_of script) s0 r1 t r) both.2 told.2))
