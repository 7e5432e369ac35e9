use Rattle.std.proofs.Common.{rules, arith, ◌≡◌, ◌∙◌, ◌+◌, ◌-◌, ◌<◌, ◌≤◌, ℕ, suc, subst}
use Rattle.otlp_canonical.specs.Layout.{AreSound, PlacePut, KeptPut}
use Rattle.otlp_canonical.proofs.Laid.{Placed, none_placed, one_placed, all_placed}
use Rattle.otlp_canonical.proofs.places.put_by_places.Goals as goal

pub places-init : goal.places-init
places-init g c = record { within = omega arith; so_far = none_placed g.M.Placed.layout (c.args.room - 1) c.saturating_sub-depth.result c.args.text.now c.args.copy.now.items }

pub places-preserved : goal.places-preserved
places-preserved g c =
    let l = g.M.Placed.layout in
    let inner = c.args.room - 1 in
    let d = c.saturating_sub-depth.result in
    let place = c.places.place in
    let end : c.unknown-end.result ≡ l.unknown = c.unknown-end.ensures in
    let early : place < l.unknown = subst (λ (n : ℕ). place < n) end (omega arith) in
    let put : PlacePut l inner d place c.args.text.now c.places.copy.items c.put_place.new.copy.items = search rules in
    let next : suc place ≡ place + 1 = omega arith in
    record {
      within = omega arith;
      so_far = subst (λ (n : ℕ). Placed l inner d c.args.text.now n c.args.copy.now.items c.put_place.new.copy.items) next (one_placed l inner d c.args.text.now place c.args.copy.now.items c.places.copy.items c.put_place.new.copy.items c.places.invariant.so_far put early);
    }

pub returns : goal.returns
returns g c whole =
    let l = g.M.Placed.layout in
    let d = c.saturating_sub-depth.result in
    let at : d ≡ 101 - c.args.room = search rules in
    let text = c.args.text.now in
    let old = c.args.copy.now.items in
    let mid = c.places.copy.items in
    let new = c.put_kept.new.copy.items in
    let end : c.unknown-end.result ≡ l.unknown = c.unknown-end.ensures in
    let within : c.places.place ≤ c.unknown-end.result = c.places.invariant.within in
    let stop : c.places.place ≡ c.unknown-end.result = omega (arith, within) in
    let all : c.places.place ≡ l.unknown = stop ∙ end in
    let sound : AreSound l d text = search rules in
    let kept : KeptPut l d text mid new = c.in_ok-whole.ensures whole in
    let placed : Placed l (c.args.room - 1) d text l.unknown old mid = subst (λ (n : ℕ). Placed l (c.args.room - 1) d text n old mid) all c.places.invariant.so_far in
    all_placed l c.is_laid_out.ensures c.args.room text old mid new (omega arith)
    (subst (λ (n : ℕ). AreSound l n text) at sound) (subst (λ (n : ℕ). Placed l (c.args.room - 1) n text l.unknown old mid) at placed) (subst (λ (n : ℕ). KeptPut l n text mid new) at kept)
