-- Lines that were heard, one more at a time.
use Rattle.std.proofs.Common.{◌≡◌, ◌∙◌, sym, ap, arith, append_assoc, append-nil, ℕ, eqb, cond, Bool, true, false, List, [], ◌∷◌, ◌++◌, Option, Some, None, IfSome, refl, subst}
use Rattle.std.specs.Prelude.{take, map}
use Rattle.std.specs.Io.BufRead.{drop_through}
use Rattle.std.specs.List.{onto_first}
use Rattle.replay_script.specs.Line.{lines_of}
use Rattle.service_runtime.specs.Documents.{Reads}
use Rattle.service_runtime.specs.Output.{Output}
use Rattle.service_runtime.specs.Input.{line_in, line_room, TakesLine}
use Rattle.shared_hub.specs.Logs.{CallerState}
use Rattle.tail_settings.specs.Settings.{SettingsData}
use Rattle.service_control.specs.Comings.{Standing}
use Rattle.service_control.specs.Commands.{kept_lines, IsAnswered, AreAnswered, no_answer, answer_more, AreCommandsRead}

-- a text that isn't empty begins with its first line
first_line : (b : ℕ) (bytes : List ℕ) → lines_of (b ∷ bytes) ≡ line_in (b ∷ bytes) ∷ lines_of (drop_through 10 (b ∷ bytes))
first_line b [] =
    elim (eqb b 10) as (λ t. cond t ([] ∷ []) (onto_first b []) ≡ cond t [] (b ∷ []) ∷ lines_of (cond t [] [])) [ true ↦ refl | false ↦ refl ]
first_line b (c ∷ bytes) =
    elim (eqb b 10) as (λ t. cond t ([] ∷ lines_of (c ∷ bytes)) (onto_first b (lines_of (c ∷ bytes))) ≡ cond t [] (b ∷ line_in (c ∷ bytes)) ∷ lines_of (cond t (c ∷ bytes) (drop_through 10 (c ∷ bytes))))
    [ true ↦ refl | false ↦ ap (onto_first b) (first_line c bytes) ]

-- what is kept of the lines of a text of which one was taken
taken_line : (text line rest : List ℕ) → TakesLine text (Some rest) line true → kept_lines text ≡ line ∷ kept_lines rest
taken_line [] line rest t = absurd (omega (arith, t.0))
taken_line (b ∷ text) line rest t =
    let left : kept_lines (drop_through 10 (b ∷ text)) ≡ kept_lines rest =
    sym (subst (λ (o : Option (List ℕ)). IfSome o (λ r. kept_lines rest ≡ kept_lines r)) t.2 refl) in
    rw (t.1, sym left) (ap (map (take line_room)) (first_line b text))

-- of a known text these are the first lines, and what stands behind them is left
abbrev pub Taken : Option (List ℕ) → Option (List ℕ) → List (List ℕ) → Type 0
Taken before after lines = IfSome before (λ text. (rest : List ℕ) × (after ≡ Some rest) × (kept_lines text ≡ lines ++ kept_lines rest))

pub record HeardSoFar (port : Bool) (reads : Reads) (settings : SettingsData) (shards : ℕ) (before after : Option (List ℕ)) (standing : Standing) (old : CallerState) (first : ℕ)
    (so_far : Output) (left : Standing) (new : CallerState) (last : ℕ) (written : Output) : Type 0 where
  pub lines : List (List ℕ)
  pub taken : Taken before after lines
  pub answered : AreAnswered port reads settings shards standing old first so_far lines left new last written

taken_none : (before : Option (List ℕ)) → Taken before before []
taken_none None = tt
taken_none (Some text) = (text, refl, refl)

taken_more : (before mid after : Option (List ℕ)) (lines : List (List ℕ)) (line : List ℕ) → Taken before mid lines → IfSome mid (λ text. TakesLine text after line true) → Taken before after (lines ++ line ∷ [])
taken_more None mid after lines line t l = tt
taken_more (Some text) mid after lines line t l =
    let here : IfSome (Some t.0) (λ rest. TakesLine rest after line true) = subst (λ (m : Option (List ℕ)). IfSome m (λ rest. TakesLine rest after line true)) t.1 l in
    let next = here.2 in
    (_, next, t.2 ∙ ap (λ more. lines ++ more) (taken_line t.0 line _ (here.0, here.1, refl)) ∙ sym (append_assoc lines (line ∷ []) _))

taken_all : (before mid after : Option (List ℕ)) (lines : List (List ℕ)) (line : List ℕ) → Taken before mid lines → IfSome mid (λ text. TakesLine text after line false) → IfSome before (λ text. lines ≡ kept_lines text)
taken_all None mid after lines line t l = tt
taken_all (Some text) mid after lines line t l =
    let none : t.0 ≡ [] = subst (λ (m : Option (List ℕ)). IfSome m (λ rest. TakesLine rest after line false)) t.1 l in
    sym (t.2 ∙ ap (λ rest. lines ++ kept_lines rest) none ∙ append-nil lines)

module _ (port : Bool) (reads : Reads) (settings : SettingsData) (shards : ℕ) (before : Option (List ℕ)) (standing : Standing) (old : CallerState) (first : ℕ) (so_far : Output) where
  pub heard_none : HeardSoFar port reads settings shards before before standing old first so_far standing old first so_far
  heard_none = record { lines = []; taken = taken_none before; answered = no_answer }

  pub heard_more : (mid after : Option (List ℕ)) (known left : Standing) (now new : CallerState) (then_last last : ℕ) (text written : Output) (line : List ℕ)
      → HeardSoFar port reads settings shards before mid standing old first so_far known now then_last text
      → IfSome mid (λ rest. TakesLine rest after line true) → IsAnswered port reads settings shards line known now then_last text left new last written
      → HeardSoFar port reads settings shards before after standing old first so_far left new last written
  heard_more mid after known left now new then_last last text written line h takes answer = record {
    lines = h.lines ++ line ∷ [];
    taken = taken_more before mid after h.lines line h.taken takes;
    answered = answer_more h.lines known now then_last text line left new last written h.answered answer;
  }

  pub heard_all : (mid after : Option (List ℕ)) (left : Standing) (new : CallerState) (last : ℕ) (written : Output) (line : List ℕ)
      → HeardSoFar port reads settings shards before mid standing old first so_far left new last written
      → IfSome mid (λ rest. TakesLine rest after line false)
      → AreCommandsRead port reads settings shards before standing old first so_far left new last written
  heard_all mid after left new last written line h takes = record {
    lines = h.lines;
    known = taken_all before mid after h.lines line h.taken takes;
    answered = h.answered;
  }
