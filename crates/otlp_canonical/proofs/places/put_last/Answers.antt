use Rattle.std.proofs.Common.{rules, arith, ◌≡◌, true, Ok, Option, Some, None, option_map, ap, sym, refl, ◌∙◌}
use Rattle.std.proofs.lemmas.Bool.Decides.{nat_tests}
use Rattle.pb_wire.specs.Grammar.{Entry, entry}
use Rattle.otlp_read.specs.Walk.{walk}
use Rattle.otlp_canonical.specs.Anew.{Spelled}
use Rattle.otlp_canonical.specs.Layout.{Held, nothing_held, held_in, is_nothing, held_by, held_at, place_in, IsSound}
use Rattle.otlp_canonical.proofs.Passed.{nothing_is, nothing_placed, last_placed}
use Rattle.otlp_canonical.proofs.places.put_last.Goals as goal

pub returns-in_default-last : goal.returns-in_default-last
returns-in_default-last g c room whole =
    let l = g.M.Placed.layout in
    let d = c.args.depth in
    let n = c.args.place in
    let member : option_map entry c.in-Some.last ≡ None = ap (option_map entry) c.in_default-last.is in
    let found : walk (held_at l n) d nothing_held c.args.text.now ≡ Ok nothing_held = c.in-Some.ensures ∙ ap (λ (o : Option Entry). Ok (held_by o)) member in
    nothing_placed l d c.args.text.now room n c.args.copy.now.items c.args.copy.now.items refl c.requires.other found

pub returns-then-is_nothing : goal.returns-then-is_nothing
returns-then-is_nothing g c room whole =
    let l = g.M.Placed.layout in
    let d = c.args.depth in
    let n = c.args.place in
    let field = entry c.in-Some-last.field in
    let low = entry c.with_low_bits-low.result in
    let member : option_map entry c.in-Some.last ≡ Some field = ap (option_map entry) c.in-Some-last.is in
    let zero : is_nothing low.value ≡ true = search rules in
    let none : held_in low.value ≡ nothing_held = nothing_is low.value zero in
    let found : walk (held_at l n) d nothing_held c.args.text.now ≡ Ok nothing_held = c.in-Some.ensures ∙ ap (λ (o : Option Entry). Ok (held_by o)) member ∙ ap (λ (h : Held). Ok h) (sym c.with_low_bits-low.ensures ∙ none) in
    nothing_placed l d c.args.text.now room n c.args.copy.now.items c.args.copy.now.items refl c.requires.other found

pub returns : goal.returns
returns g c room whole =
    let l = g.M.Placed.layout in
    let d = c.args.depth in
    let n = c.args.place in
    let field = entry c.in-Some-last.field in
    let low = entry c.with_low_bits-low.result in
    let member : option_map entry c.in-Some.last ≡ Some field = ap (option_map entry) c.in-Some-last.is in
    let found : walk (held_at l n) d nothing_held c.args.text.now ≡ Ok (held_in field.value) = c.in-Some.ensures ∙ ap (λ (o : Option Entry). Ok (held_by o)) member in
    let at : c.place.result ≡ place_in l low = c.place.ensures in
    let same : c.place.result ≡ n = grind (arith, nat_tests) in
    let sound : IsSound l low = search rules in
    let put : Spelled low c.args.copy.now.items c.put_short.new.copy.items = c.in_ok-whole.ensures whole in
    last_placed l d c.args.text.now room n c.args.copy.now.items c.put_short.new.copy.items field low c.requires.other found c.with_low_bits-low.ensures (sym at ∙ same) sound put
