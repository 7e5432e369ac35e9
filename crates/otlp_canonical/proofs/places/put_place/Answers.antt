use Rattle.std.proofs.Common.{arith, ◌≡◌, ℕ, sym, subst}
use Rattle.std.proofs.lemmas.Bool.Decides.{nat_tests}
use Rattle.otlp_canonical.specs.Layout.{PlacePut}
use Rattle.otlp_canonical.proofs.places.put_place.Goals as goal

pub returns-then-place-attributes : goal.returns-then-place-attributes
returns-then-place-attributes g c whole =
    let l = g.M.Placed.layout in
    let is : c.args.place ≡ l.attributes = grind (arith, nat_tests) in
    subst (λ (n : ℕ). PlacePut l c.args.room c.args.depth n c.args.text.now c.args.copy.now.items c.put_attributes.new.copy.items) (sym is) (c.in_ok-whole.ensures whole)

pub put_last-requires : goal.put_last-requires
put_last-requires g c = record { other = grind (arith, nat_tests) }
