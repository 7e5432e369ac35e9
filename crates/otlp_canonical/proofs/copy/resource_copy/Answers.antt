use Rattle.std.proofs.Common.{rules, ◌≡◌, List, [], ℕ, ap, sym, subst, ◌∙◌}
use Rattle.otlp_trace.specs.Defaults.{no_resource}
use Rattle.otlp_read.specs.Value.{resource_step}
use Rattle.otlp_read.specs.Walk.{read_with}
use Rattle.otlp_canonical.specs.Canonical.{CanonicalResource}
use Rattle.otlp_canonical.specs.Inner.{ReadAlike}
use Rattle.otlp_canonical.proofs.copy.resource_copy.Goals as goal

pub returns-then-is_resource_text : goal.returns-then-is_resource_text
returns-then-is_resource_text c =
    let room = c.args.room in
    let text = c.args.text.now in
    let new = c.put_by_places.new.copy.items in
    let first : c.in_ok-copy.copy.items ≡ [] = search rules in
    let put : ReadAlike resource_step no_resource room text c.in_ok-copy.copy.items new = search rules in
    let a : ReadAlike resource_step no_resource room text [] new = subst (λ (t : List ℕ). ReadAlike resource_step no_resource room text t new) first put in
    let at : c.as_slice.result.now ≡ new = search rules in
    let there : CanonicalResource room c.as_slice.result.now = search rules in
    record {
      canonical = subst (λ (t : List ℕ). CanonicalResource room t) at there;
      same = a.same ∙ ap (read_with resource_step room no_resource) (sym a.copied);
    }
