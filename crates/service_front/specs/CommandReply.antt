-- What a line of the input is answered, as text. This project's own rule.
use Rattle.std.specs.Prelude.{ℕ, List, codes}
use Rattle.replay_script.specs.Answer.{added_text, refused_text}
use Rattle.service_front.specs.declared.reports.CommandReply.{CommandReply}
use Rattle.service_front.specs.declared.reports.CommandReply.TheVariants.{Outcome, Added, NotAdded}
use Rattle.service_front.specs.Lines.{outcome_line}

-- its line
abbrev pub reply_text : CommandReply → List ℕ
reply_text (Outcome name outcome) = outcome_line name.now outcome.now
reply_text (Added name number) = added_text name.now number
reply_text (NotAdded number) = refused_text (codes "add") number
