use Rattle.std.proofs.Common.{rules, arith, ◌≡◌, ◌-◌, ◌++◌, ℕ, [], Ok, sym, subst}
use Rattle.pb_wire.specs.Grammar.{entry}
use Rattle.otlp_read.specs.AnyValue.{no_value, any_step_in}
use Rattle.otlp_read.specs.Nested.{known_of_any}
use Rattle.otlp_read.specs.Walk.{walk}
use Rattle.otlp_canonical.specs.Anew.{gather, IsFirst, Spelled}
use Rattle.otlp_canonical.specs.Inner.{PutFor}
use Rattle.otlp_canonical.proofs.Members.{member_alike}
use Rattle.otlp_canonical.proofs.Respelled.{spelled_put, any_spelled}
use Rattle.otlp_canonical.proofs.anew.put_plain.Goals as goal

pub returns : goal.returns
returns c is whole =
    let at : c.saturating_sub-depth.result ≡ 101 - c.args.room = search rules in
    let field = entry c.args.field in
    let old = c.args.copy.now.items in
    let valued = c.put_short.new.copy.items in
    let new = c.put_unknown.new.copy.items in
    let spelled : Spelled field old valued = search rules in
    let inner = c.args.room - 1 in
    let put : PutFor any_step_in IsFirst inner (101 - c.args.room) 0 field old valued = spelled_put any_step_in IsFirst inner (101 - c.args.room) 0 field old valued (any_spelled inner field is.known) spelled in
    let gathered : walk (gather known_of_any no_value) c.saturating_sub-depth.result [] c.args.value.now ≡ Ok is.kept = subst (λ (d : ℕ). walk (gather known_of_any no_value) d [] c.args.value.now ≡ Ok is.kept) (sym at) is.gathered in
    let kept : new ≡ valued ++ is.kept = c.in_ok-whole.ensures no_value is.kept gathered is.none whole in
    member_alike c.args.room c.args.unknown c.args.value.now old valued new field (omega arith) is put kept
