use Rattle.std.proofs.Common.{◌≡◌, Bool, sym}
use Rattle.std.specs.Fmt.{digits}
use Rattle.http_edge.specs.Reply.{head_text_of, plain_text, out_of_memory}
use Rattle.http_edge.specs.declared.message.RefusalForm.TheVariants.{Json}
use Rattle.http_edge.proofs.reply.no_memory_json.Goals as goal

-- the text by what is asked
asked : {a b x y : Bool} → a ≡ x → b ≡ y → plain_text y x (out_of_memory Json) ≡ plain_text b a (out_of_memory Json)
asked p q = λ i. plain_text (sym q i) (sym p i) (out_of_memory Json)

pub returns-in-true-true : goal.returns-in-true-true
unfolding head_text_of digits
returns-in-true-true c = asked c.in-true-true.is-0 c.in-true-true.is-1

pub returns-in-true-false : goal.returns-in-true-false
unfolding head_text_of digits
returns-in-true-false c = asked c.in-true-false.is-0 c.in-true-false.is-1

pub returns-in-false-true : goal.returns-in-false-true
unfolding head_text_of digits
returns-in-false-true c = asked c.in-false-true.is-0 c.in-false-true.is-1

pub returns-in-false-false : goal.returns-in-false-false
unfolding head_text_of digits
returns-in-false-false c = asked c.in-false-false.is-0 c.in-false-false.is-1
