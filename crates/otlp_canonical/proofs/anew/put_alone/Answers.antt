use Rattle.std.proofs.Common.{rules, arith, ◌≡◌, List, [], ℕ, subst}
use Rattle.otlp_read.specs.AnyValue.{no_key_value, key_value_step}
use Rattle.otlp_canonical.specs.Inner.{ReadAlike}
use Rattle.otlp_canonical.proofs.Joins.{framed}
use Rattle.otlp_canonical.proofs.anew.put_alone.Goals as goal

pub returns-clause-put : goal.returns-clause-put
returns-clause-put c whole =
    let text = c.args.text.now in
    let none = c.in_ok-anew.anew.items in
    let anew = c.put_pair.new.copy.items in
    let first : none ≡ [] = search rules in
    let put : ReadAlike key_value_step no_key_value c.args.room text none anew = search rules in
    let a : ReadAlike key_value_step no_key_value c.args.room text [] anew = subst (λ (t : List ℕ). ReadAlike key_value_step no_key_value c.args.room text t anew) first put in
    framed key_value_step no_key_value c.args.room 9 text anew c.args.copy.now.items c.put_bytes_field.new.out.items (omega arith) (search rules) a
