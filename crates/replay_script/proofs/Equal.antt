-- Commands are equal where they say the same.
use Rattle.std.proofs.Common.{◌≡◌, ◌==◌, ◌&&◌, true, refl}
use Rattle.std.specs.Prelude.{◌↔◌}
use Rattle.std.specs.Str.{bytes_eq}
use Rattle.std.proofs.lemmas.Bool.{and_parts, eq-eqb, eqb-true}
use Rattle.std.proofs.lemmas.Slice.Eq.{bytes_eq-Decides}
use Rattle.send_retry.specs.contracts.answer.AnswerPartialEq.TheImpl as answer_equal
use Rattle.send_retry.proofs.Equals.{answers_equal}
use Rattle.replay_script.specs.contracts.command.CommandPartialEq.TheImpl as command_equal
use Rattle.replay_script.specs.contracts.fault.ScriptFaultPartialEq.TheImpl as script_fault_equal
use Rattle.replay_script.specs.contracts.session.AnswerFaultPartialEq.TheImpl as answer_fault_equal
use Rattle.replay_script.specs.declared.command.Command.{Command}
use Rattle.replay_script.specs.declared.command.Command.TheVariants as commands
use Rattle.replay_script.specs.declared.fault.ScriptFault.{ScriptFault}
use Rattle.replay_script.specs.declared.fault.ScriptFault.TheVariants as script_faults
use Rattle.replay_script.specs.declared.session.AnswerFault.{AnswerFault}
use Rattle.replay_script.specs.declared.session.AnswerFault.TheVariants as answer_faults
use Rattle.replay_script.specs.Named.{command_view}

pub commands_equal : (a b : Command) → (command_equal.eq-value.it a b ≡ true) ↔ (command_view a ≡ command_view b)
commands_equal (commands.Post n m b) (commands.Post o p c) =
    let names = bytes_eq-Decides n.now o.now in
    let bodies = bytes_eq-Decides b.items c.items in (
      λ h.
          let parts = and_parts (bytes_eq n.now o.now) ((m == p) && bytes_eq b.items c.items) h in
          let rest = and_parts (m == p) (bytes_eq b.items c.items) parts.1 in
          let name = names.0 parts.0 in
          let moment = eqb-true m p rest.0 in
          let body = bodies.0 rest.1 in
          cc,
      λ h. rw (names.1 cc, eq-eqb m p cc, bodies.1 cc),
    )
commands_equal (commands.Turn s m) (commands.Turn t n) = (
  λ h.
      let parts = and_parts (s == t) (m == n) h in
      let shard = eqb-true s t parts.0 in
      let moment = eqb-true m n parts.1 in
      cc,
  λ h. rw (eq-eqb s t cc, eq-eqb m n cc),
)
commands_equal (commands.Answer n m t w a) (commands.Answer o p u x b) =
    let names = bytes_eq-Decides n.now o.now in
    let answers = answers_equal a b in (
      λ h.
          let one = and_parts (bytes_eq n.now o.now) ((m == p) && ((t == u) && ((w == x) && answer_equal.eq-value.it a b))) h in
          let two = and_parts (m == p) ((t == u) && ((w == x) && answer_equal.eq-value.it a b)) one.1 in
          let three = and_parts (t == u) ((w == x) && answer_equal.eq-value.it a b) two.1 in
          let four = and_parts (w == x) (answer_equal.eq-value.it a b) three.1 in
          let name = names.0 one.0 in
          let moment = eqb-true m p two.0 in
          let ticket = eqb-true t u three.0 in
          let word = eqb-true w x four.0 in
          let answer = answers.0 four.1 in
          cc,
      λ h. rw (names.1 cc, eq-eqb m p cc, eq-eqb t u cc, eq-eqb w x cc, answers.1 cc),
    )
commands_equal (commands.Report n m) (commands.Report o p) =
    let names = bytes_eq-Decides n.now o.now in (
      λ h.
          let parts = and_parts (bytes_eq n.now o.now) (m == p) h in
          let name = names.0 parts.0 in
          let moment = eqb-true m p parts.1 in
          cc,
      λ h. rw (names.1 cc, eq-eqb m p cc),
    )
commands_equal (commands.Drain n m) (commands.Drain o p) =
    let names = bytes_eq-Decides n.now o.now in (
      λ h.
          let parts = and_parts (bytes_eq n.now o.now) (m == p) h in
          let name = names.0 parts.0 in
          let moment = eqb-true m p parts.1 in
          cc,
      λ h. rw (names.1 cc, eq-eqb m p cc),
    )
commands_equal (commands.Add b) (commands.Add c) =
    let documents = bytes_eq-Decides b.items c.items in (
      λ h.
          let document = documents.0 h in
          cc,
      λ h. documents.1 cc,
    )
commands_equal (commands.Retire n m) (commands.Retire o p) =
    let names = bytes_eq-Decides n.now o.now in (
      λ h.
          let parts = and_parts (bytes_eq n.now o.now) (m == p) h in
          let name = names.0 parts.0 in
          let moment = eqb-true m p parts.1 in
          cc,
      λ h. rw (names.1 cc, eq-eqb m p cc),
    )
commands_equal _ _ = (λ h. cc, λ h. cc)

pub script_faults_equal : (a b : ScriptFault) → (script_fault_equal.eq-value.it a b ≡ true) ↔ (a ≡ b)
script_faults_equal (script_faults.Script m) (script_faults.Script n) = (λ h. let same = eqb-true m n h in cc, λ h. eq-eqb m n cc)
script_faults_equal script_faults.Line script_faults.Line = (λ _. refl, λ _. refl)
script_faults_equal script_faults.OutOfMemory script_faults.OutOfMemory = (λ _. refl, λ _. refl)
script_faults_equal _ _ = (λ h. cc, λ h. cc)

pub answer_faults_equal : (a b : AnswerFault) → (answer_fault_equal.eq-value.it a b ≡ true) ↔ (a ≡ b)
answer_faults_equal answer_faults.Unknown answer_faults.Unknown = (λ _. refl, λ _. refl)
answer_faults_equal answer_faults.OutOfMemory answer_faults.OutOfMemory = (λ _. refl, λ _. refl)
answer_faults_equal _ _ = (λ h. cc, λ h. cc)
