use Rattle.std.proofs.Common.{◌≡◌, List, map, sym, ap, subst, ◌∙◌, Bool}
use Rattle.std.specs.Prelude.{Decides}
use Rattle.tail_settings.specs.Policy.{policy_view}
use Rattle.tail_settings.specs.declared.policy.PolicySpec.{PolicySpec}
use Rattle.prepared_body.specs.Equal.{same_policies}
use Rattle.tenant_pipeline.specs.StateIn.{policies_of}
use Rattle.prepared_body.proofs.Equals.{same_policies_decides}
use Rattle.tenant_pipeline.proofs.pipeline.Pipeline.takes.Goals as goal

pub returns-in-Post : goal.returns-in-Post
returns-in-Post c =
    let theirs = c.in-Post.prepared.now.policies in
    let mine = policies_of c.args.self.now in
    let is : c.has_policies.result ≡ same_policies theirs mine = c.has_policies.ensures ∙ ap (λ (ps : List PolicySpec). same_policies theirs (map policy_view ps)) c.as_slice.ensures.value in
    let decides : Decides c.has_policies.result (theirs ≡ mine) = subst (λ (b : Bool). Decides b (theirs ≡ mine)) (sym is) (same_policies_decides theirs mine) in
    rw c.in-Post.is decides
