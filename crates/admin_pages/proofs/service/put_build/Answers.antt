use Rattle.std.proofs.Common.{◌≡◌, ℕ, List, ap}
use Rattle.admin_pages.proofs.service.put_build.Goals as goal

pub returns : goal.returns
returns c =
    let version : c.sample.result.labelled.now ≡ c.args.version.now = ap (λ (s : List ℕ × ℕ). s.0) c.sample.ensures in
    let one : c.sample.result.value ≡ 1 = ap (λ (s : List ℕ × ℕ). s.1) c.sample.ensures in
    rw (version, one) at c.put_measures.ensures
