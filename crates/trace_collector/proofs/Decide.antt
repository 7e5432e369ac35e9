-- What a tenant alone is answered is one.
use Rattle.std.proofs.Common.{◌≡◌, ℕ, List, [], ◌∷◌, ◌++◌, codes, refl, ap, sym, subst, ◌∙◌, inl, inr}
use Rattle.std.proofs.lemmas.List.{append_cancel_right}
use Rattle.otlp_trace.specs.Data.{RequestData}
use Rattle.otlp_read.specs.Value.{IsValue}
use Rattle.tail_settings.specs.Section.{SectionData}
use Rattle.tenant_rules.specs.Own.{Own}
use Rattle.tenant_rules.specs.Own as own
use Rattle.replay_script.specs.Command.{CommandData, Post, Turn, Answer, Report, Drain, Add, Retire}
use Rattle.trace_collector.specs.Alone.{post_alone, IsStepAlone, IsPostAlone, IsAnsweredAlone, AnswersAlone, IsToldIn, OwnCommandsDecide}
use Rattle.trace_collector.specs.Own.{own_commands, lines_for}
use Rattle.trace_collector.proofs.Named.{listed_text}
use Rattle.trace_collector.proofs.Alone.{whole_alone}

module _ (one_value : (body : List ℕ) (v v' : RequestData) → IsValue body v → IsValue body v' → v ≡ v') where
  step_one : (name : List ℕ) (section : SectionData) (past later later' : List Own) (step : Own) (line line' : List ℕ)
      → IsStepAlone name section past step line later → IsStepAlone name section past step line' later' → (line ≡ line') × (later ≡ later')
  step_one name section past later later' step line line' h k = (h.0 ∙ sym k.0, h.1 ∙ sym k.1)

  post_one : (name : List ℕ) (section : SectionData) (past later later' : List Own) (moment : ℕ) (body line line' : List ℕ)
      → IsPostAlone name section past moment body line later → IsPostAlone name section past moment body line' later' → (line ≡ line') × (later ≡ later')
  post_one name section past later later' moment body line line' (inl h) (inl k) =
      let value = one_value body h.0 k.0 h.1 k.1 in
      step_one name section past later later' (post_alone moment k.0) line line'
      (subst (λ v. IsStepAlone name section past (post_alone moment v) line later) value h.2) k.2
  post_one name section past later later' moment body line line' (inl h) (inr k) = absurd (k.0 h.0 h.1)
  post_one name section past later later' moment body line line' (inr h) (inl k) = absurd (h.0 k.0 k.1)
  post_one name section past later later' moment body line line' (inr h) (inr k) = (h.1 ∙ sym k.1, h.2 ∙ sym k.2)

  answered_one : (name : List ℕ) (section : SectionData) (past later later' : List Own) (command : CommandData) (line line' : List ℕ)
      → IsAnsweredAlone name section past command line later → IsAnsweredAlone name section past command line' later' → (line ≡ line') × (later ≡ later')
  answered_one name section past later later' (Post named moment body) line line' h k = post_one name section past later later' moment body line line' h k
  answered_one name section past later later' (Turn shard moment) line line' h k = step_one name section past later later' (own.Turn moment) line line' h.1 k.1
  answered_one name section past later later' (Answer named moment ticket word given) line line' h k =
      step_one name section past later later' (own.Answer moment ticket word given) line line' h k
  answered_one name section past later later' (Report named moment) line line' h k = step_one name section past later later' (own.Report moment) line line' h k
  answered_one name section past later later' (Drain named moment) line line' h k = step_one name section past later later' (own.Drain moment) line line' h k
  answered_one name section past later later' (Add document) line line' h k = absurd h
  answered_one name section past later later' (Retire named moment) line line' h k = step_one name section past later later' (own.Retire moment) line line' h k

  alone_one : (name : List ℕ) (section : SectionData) (past : List Own) (commands : List CommandData) (lines lines' : List (List ℕ))
      → AnswersAlone name section past commands lines → AnswersAlone name section past commands lines' → lines' ≡ lines
  alone_one name section past [] [] [] h k = refl
  alone_one name section past [] [] (line' ∷ lines') h k = absurd k
  alone_one name section past [] (line ∷ lines) lines' h k = absurd h
  alone_one name section past (command ∷ commands) [] lines' h k = absurd h
  alone_one name section past (command ∷ commands) (line ∷ lines) [] h k = absurd k
  alone_one name section past (command ∷ commands) (line ∷ lines) (line' ∷ lines') h k =
      let same = answered_one name section past h.0 k.0 command (line ++ codes "\n") (line' ++ codes "\n") h.1 k.1 in
      let rest = alone_one name section k.0 commands lines lines' (subst (λ p. AnswersAlone name section p commands lines) same.1 h.2) k.2 in
      ap (λ l. l ∷ lines') (sym (append_cancel_right line line' (codes "\n") same.0)) ∙ ap (λ ls. line ∷ ls) rest

  told_in : (name : List ℕ) (section : SectionData) (commands : List CommandData) (lines : List (List ℕ)) → IsToldIn name section commands lines → AnswersAlone name section [] commands lines
  told_in name section commands lines is =
      let alone : AnswersAlone name section [] (own_commands name is.behind is.lines_behind) (lines_for name is.behind is.lines_behind) =
      whole_alone is.settings is.script is.text is.fault (listed_text is.settings_text is.settings is.means) is.told name section is.behind is.lines_behind is.begins in
      subst (λ cs. AnswersAlone name section [] cs lines) is.commands_are
      (subst (λ ls. AnswersAlone name section [] (own_commands name is.behind is.lines_behind) ls) is.lines_are alone)

  pub own_commands_decide : OwnCommandsDecide
  own_commands_decide name section commands lines lines' is is' =
      alone_one name section [] commands lines lines' (told_in name section commands lines is) (told_in name section commands lines' is')
