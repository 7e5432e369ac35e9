use Rattle.std.proofs.Common.{◌≡◌, ◌+◌, ℕ, List, [], ◌∷◌, ◌++◌, slice_index, length, Option, Some, None, refl, sym, ap, subst, ◌∙◌, arith}
use Rattle.std.proofs.lemmas.List.{length-append}
use Rattle.std.specs.Prelude.{codes}
use Rattle.std.specs.Fmt.{digits}
use Rattle.replay_script.specs.Word.{number_of}
use Rattle.replay_script.specs.Command.{turn_of, command_from, command_of}
use Rattle.replay_script.specs.Line.{kind_of, lines_of}
use Rattle.replay_script.specs.Answer.{idle_text}
use Rattle.replay_script.specs.Transcript.{Told, Goes, Answered, BeginsTold, ReadTo}
use Rattle.collector_tests.specs.ScriptExamples.{Counts, two_answers, third_faulty}
use Rattle.collector_tests.proofs.definitions.answers_of_scripts.Goals as goal

-- what a turn of shard 0 adds
turned : (number turns : ℕ) (rest : ℕ → List ℕ → Option ℕ → Type 0) (text : List ℕ) (fault : Option ℕ) (line : Option (List ℕ)) (later : ℕ)
    → line ≡ Some (idle_text turns) → later ≡ turns + 1 → Answered number line (rest later) text fault → (more : List ℕ) × (text ≡ idle_text turns ++ more) × rest (turns + 1) more fault
turned number turns rest text fault line later l s h =
    subst (λ x. Answered number x (rest (turns + 1)) text fault) l (subst (λ x. Answered number line (rest x) text fault) s h)

third_told : Told Counts third_faulty 1 0 two_answers (Some 3)
unfolding kind_of command_of command_from turn_of number_of digits
third_told = (Some (idle_text 0), 1, (refl, refl), (codes "idle 1\n", refl, (Some (idle_text 1), 2, (refl, refl), ([], refl, (refl, refl)))))

third_alone : (text : List ℕ) (fault : Option ℕ) → Told Counts third_faulty 1 0 text fault → (text ≡ two_answers) × (fault ≡ Some 3)
unfolding kind_of command_of command_from turn_of number_of digits
third_alone text fault h =
    let first = turned 1 0 (Told Counts (codes "turn 0 6" ∷ codes "turn 0" ∷ codes "turn 0 7" ∷ []) 2) text fault h.0 h.1 h.2.0 h.2.1 h.3 in
    let t = first.2 in
    let second = turned 2 1 (Told Counts (codes "turn 0" ∷ codes "turn 0 7" ∷ []) 3) first.0 fault t.0 t.1 t.2.0 t.2.1 t.3 in
    (first.1 ∙ ap (λ l. idle_text 0 ++ l) (second.1 ∙ ap (λ l. idle_text 1 ++ l) second.2.0), second.2.1)

nothing_more : Told Counts (codes "turn 0 5" ∷ []) 1 0 [] None → ⊥
unfolding kind_of command_of command_from turn_of number_of digits
nothing_more h =
    let first = turned 1 0 (Told Counts [] 2) [] None h.0 h.1 h.2.0 h.2.1 h.3 in
    let same : 0 ≡ 105 = ap (λ l. slice_index l 0) first.1 in
    omega (arith, same)

fourth_left : ReadTo 3 third_faulty (Some (codes "turn 0 7\n"))
fourth_left =
    record {
      done = codes "turn 0 5" ∷ codes "turn 0 6" ∷ codes "turn 0" ∷ [];
      rest = codes "turn 0 7\n";
      parted = refl;
      counted = refl;
      to_read = refl;
    }

nothing_left : (rest : List ℕ) → Some [] ≡ Some rest → lines_of rest ≡ []
nothing_left [] is = refl
nothing_left (byte ∷ rest) is = absurd (cc)

not_behind : ReadTo 3 third_faulty (Some []) → ⊥
not_behind read =
    let lines : 4 ≡ length read.done + length (lines_of read.rest) = ap length read.parted ∙ length-append read.done (lines_of read.rest) in
    let none : length (lines_of read.rest) ≡ 0 = ap length (nothing_left read.rest read.to_read) in
    let counted = read.counted in
    omega (arith, lines, none, counted)

pub returns-clause-third_faulty : goal.returns-clause-third_faulty
returns-clause-third_faulty c =
    record { told = third_told; alone = third_alone; ends = (third_told, fourth_left); not_read_on = λ ends. not_behind ends.1; not_all_of_it = nothing_more }

abbrev first_of_all : List (List ℕ) → List ℕ
first_of_all [] = []
first_of_all (line ∷ lines) = line

otherwise : (done left : List (List ℕ)) (missing : List ℕ) (fault : Option ℕ) → codes "turn 0 5" ∷ [] ≡ done ++ left
    → Told Counts done 1 0 (codes "idle 1" ++ missing) fault → ⊥
unfolding kind_of command_of command_from turn_of number_of digits
otherwise [] left missing fault are h = let same : 105 ≡ 0 = ap (λ l. slice_index l 0) h.0 in omega (arith, same)
otherwise (line ∷ done) left missing fault are h =
    let t = subst (λ l. Goes Counts 1 0 (kind_of l) (Told Counts done 2) (codes "idle 1" ++ missing) fault) (sym (ap first_of_all are)) h in
    let first = turned 1 0 (Told Counts done 2) (codes "idle 1" ++ missing) fault t.0 t.1 t.2.0 t.2.1 t.3 in
    let same : 49 ≡ 48 = ap (λ l. slice_index l 5) first.1 in
    omega (arith, same)

two_begin : BeginsTold Counts (codes "turn 0 5" ∷ codes "turn 0 6" ∷ []) 0 (codes "idle 0\nid")
unfolding kind_of command_of command_from turn_of number_of digits
two_begin = (
  codes "turn 0 5" ∷ codes "turn 0 6" ∷ [],
  [],
  codes "le 1\n",
  None,
  refl,
  (Some (idle_text 0), 1, (refl, refl), (codes "idle 1\n", refl, (Some (idle_text 1), 2, (refl, refl), ([], refl, (refl, refl))))),
)

pub returns-clause-beginnings : goal.returns-clause-beginnings
returns-clause-beginnings c = record { begins = two_begin; ends = two_begin; begins_otherwise = λ h. otherwise h.0 h.1 h.2 h.3 h.4 h.5 }
