use Rattle.std.proofs.Common.{◌≡◌, true, false, [], ◌∷◌, ◌++◌, string_bytes, refl, ap, sym, ◌∙◌, arith, append-nil}
use Rattle.std.proofs.lemmas.Grind.{common_steps}
use Rattle.toml.specs.View.{members_view}
use Rattle.settings_check.specs.Table.{is_known}
use Rattle.settings_check.specs.Unknown.{UnknownKey, unknown_in}
use Rattle.settings_check.specs.Warning.{warning_text, warnings}
use Rattle.settings_check.proofs.Warnings.{Entry, known-first, new-first, put_new}
use Rattle.settings_check.proofs.unknown.warn_in.Goals as goal

pub keys-init : goal.keys-init
keys-init c = record {
  can = tt;
  finite = tt;
  told = rw (c.into_iter-key-iterator.ensures.into_iter_gives, c.iter-key-items.ensures.rest, c.in-Some.is) refl;
}

pub keys-preserved : goal.keys-preserved
keys-preserved c =
    let e : Entry = (c.in-Some-2.key.now, c.in-Some-2._value.now) in
    let iter : c.keys.key-iterator ≡ e ∷ c.next.new.self = grind (arith, common_steps) in
    let known : is_known c.args.kind (string_bytes e.0) ≡ true = grind (arith, common_steps) in
    let first = ap (λ es. unknown_in c.args.place.now c.args.kind (members_view es)) iter ∙ known-first c.args.place.now c.args.kind e c.next.new.self known in
    record {
      can = tt;
      finite = tt;
      told = ap (λ us. string_bytes c.keys.out ++ warnings us) (sym first) ∙ c.keys.invariant.told;
    }

pub keys-preserved-in-Continue-1 : goal.keys-preserved-in-Continue-1
keys-preserved-in-Continue-1 c =
    let e : Entry = (c.in-Some-2.key.now, c.in-Some-2._value.now) in
    let iter : c.keys.key-iterator ≡ e ∷ c.next.new.self = grind (arith, common_steps) in
    let new : is_known c.args.kind (string_bytes e.0) ≡ false = grind (arith, common_steps) in
    let first = ap (λ es. unknown_in c.args.place.now c.args.kind (members_view es)) iter ∙ new-first c.args.place.now c.args.kind e c.next.new.self new in
    let u : UnknownKey = record { place = c.args.place.now; kind = c.args.kind; key = string_bytes e.0 } in
    let put : string_bytes c.warn.new.out ≡ string_bytes c.keys.out ++ warning_text u = grind (arith, common_steps) in
    record {
      can = tt;
      finite = tt;
      told = put_new (string_bytes c.keys.out) (string_bytes c.warn.new.out) u (unknown_in c.args.place.now c.args.kind (members_view c.next.new.self)) _ first put ∙ c.keys.invariant.told;
    }

pub returns : goal.returns
returns c =
    let none : c.keys.key-iterator ≡ [] = grind (arith, common_steps) in
    sym (append-nil (string_bytes c.keys.out)) ∙ (rw none at c.keys.invariant.told)
