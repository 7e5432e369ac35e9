use Rattle.std.proofs.Common.{rules, ◌≡◌, List, [], ℕ, ap, sym, subst, ◌∙◌}
use Rattle.otlp_trace.specs.Defaults.{no_scope}
use Rattle.otlp_read.specs.Value.{scope_step}
use Rattle.otlp_read.specs.Walk.{read_with}
use Rattle.otlp_canonical.specs.Canonical.{CanonicalScope}
use Rattle.otlp_canonical.specs.Inner.{ReadAlike}
use Rattle.otlp_canonical.proofs.copy.scope_copy.Goals as goal

pub returns-then-is_scope_text : goal.returns-then-is_scope_text
returns-then-is_scope_text c =
    let room = c.args.room in
    let text = c.args.text.now in
    let new = c.put_by_places.new.copy.items in
    let first : c.in_ok-copy.copy.items ≡ [] = search rules in
    let put : ReadAlike scope_step no_scope room text c.in_ok-copy.copy.items new = search rules in
    let a : ReadAlike scope_step no_scope room text [] new = subst (λ (t : List ℕ). ReadAlike scope_step no_scope room text t new) first put in
    let at : c.as_slice.result.now ≡ new = search rules in
    let there : CanonicalScope room c.as_slice.result.now = search rules in
    record {
      canonical = subst (λ (t : List ℕ). CanonicalScope room t) at there;
      same = a.same ∙ ap (read_with scope_step room no_scope) (sym a.copied);
    }
