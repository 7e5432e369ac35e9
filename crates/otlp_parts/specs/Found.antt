-- What the code's type of a message that was found in its holder stands for. This project's own rule.
use Rattle.std.specs.Prelude.{◌≡◌, true, Option, Some, None, is_ok}
use Rattle.std.proofs.Props.{props}
use Rattle.otlp_parts.specs.Embedded.{Embedding, message_in, message_of, HasText}
use Rattle.otlp_parts.specs.declared.found.Found.{Found}
use Rattle.otlp_parts.specs.declared.found.Found.TheVariants.{Missing, Once, Again}

-- the message, as far as it has come
abbrev pub found_view : {A : Type 0} → Embedding A → Found → Option A
found_view e Missing = None
found_view e (Once one) = Some (message_of e one.bytes)
found_view e (Again texts) = Some (message_of e texts.items)

-- what is kept of it can be read
abbrev pub IsFound : {A : Type 0} → Embedding A → Found → Type 0
IsFound e Missing = Unit {0}
IsFound e (Once one) = HasText e one.bytes one.text
IsFound e (Again texts) = is_ok (message_in e texts.items) ≡ true

-- there is one proof of it at most
pub found_prop : {A : Type 0} (e : Embedding A) (found : Found) → IsProp (IsFound e found)
found_prop e Missing = Prim.hlevel props
found_prop e (Once one) = Prim.hlevel props
found_prop e (Again texts) = Prim.hlevel props
