use Rattle.std.proofs.Common.{rules, arith, ◌≡◌, ◌-◌, Some, is_some, sym, subst, true}
use Rattle.pb_wire.specs.Grammar.{Entry, IsField, entry}
use Rattle.otlp_trace.specs.Text.{any_text}
use Rattle.otlp_canonical.specs.Anew.{GivesWay}
use Rattle.otlp_canonical.specs.Parts.{Whole}
use Rattle.otlp_canonical.specs.Sound.{SoundAny}
use Rattle.otlp_canonical.proofs.Inside.{holding}
use Rattle.otlp_canonical.proofs.Members.{scalar_gives, array_gives, list_gives}
use Rattle.otlp_canonical.proofs.Parts.{of_some}
use Rattle.otlp_canonical.proofs.apart.gives_way.Goals as goal

pub returns-in-Bytes : goal.returns-in-Bytes
returns-in-Bytes c whole first =
    let values = c.in-Bytes._values.now in
    let is : entry c.args.field ≡ holding 5 values = search rules in
    let there : is_some c.any.result ≡ true = search rules in
    let w : Whole any_text (SoundAny c.args.room) c.args.spelled.now = of_some c.any.result c.any.ensures there in
    let here : IsField (101 - c.args.room) c.args.spelled.now (holding 5 values) = subst (λ (f : Entry). IsField (101 - c.args.room) c.args.spelled.now f) is first in
    subst (λ (f : Entry). GivesWay (c.args.room - 1) (Some f)) (sym is) (array_gives c.args.room c.args.spelled.now values (omega arith) here w)

pub returns-in-Bytes-2 : goal.returns-in-Bytes-2
returns-in-Bytes-2 c whole first =
    let pairs = c.in-Bytes-2._pairs.now in
    let is : entry c.args.field ≡ holding 6 pairs = search rules in
    let there : is_some c.any-in-Bytes-2.result ≡ true = search rules in
    let w : Whole any_text (SoundAny c.args.room) c.args.spelled.now = of_some c.any-in-Bytes-2.result c.any-in-Bytes-2.ensures there in
    let here : IsField (101 - c.args.room) c.args.spelled.now (holding 6 pairs) = subst (λ (f : Entry). IsField (101 - c.args.room) c.args.spelled.now f) is first in
    subst (λ (f : Entry). GivesWay (c.args.room - 1) (Some f)) (sym is) (list_gives c.args.room c.args.spelled.now pairs (omega arith) here w)

pub returns-in_default : goal.returns-in_default
returns-in_default c whole first = scalar_gives (c.args.room - 1) (entry c.args.field) (c.is_scalar.ensures whole)
