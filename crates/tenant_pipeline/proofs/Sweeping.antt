-- Whether rows that left have been swept goes by how many left, and how many were swept.
use Rattle.std.proofs.Common.{◌≡◌, ◌∙◌, [], sym, ap, subst}
use Rattle.std.specs.Prelude.{Result, Ok, Err, OnOk, OnErr}
use Rattle.decision_cache.specs.Caches.{CachesData}
use Rattle.tenant_pipeline.specs.declared.pipeline.Pipeline.{Pipeline}
use Rattle.tenant_pipeline.specs.declared.pipeline.RowCounts.{RowCounts}
use Rattle.tenant_pipeline.specs.Invariant.{IsSwept}

-- of a tenant with as many of both, in whose caches no hit waits
pub swept_with : (old new : Pipeline) → new.rows.swept ≡ old.rows.swept → new.rows.first ≡ old.rows.first → new.caches.hits ≡ [] → IsSwept old → IsSwept new
swept_with old new swept first none is = (swept ∙ (is.0 ∙ sym first), none)

-- of a tenant with the same rows and caches
pub swept_same : (old new : Pipeline) → new.rows ≡ old.rows → new.caches ≡ old.caches → IsSwept old → IsSwept new
swept_same old new rows caches is =
    swept_with old new (ap (λ (r : RowCounts). r.swept) rows) (ap (λ (r : RowCounts). r.first) rows) (ap (λ (k : CachesData). k.hits) caches ∙ is.1) is

-- of one that is the same
pub swept_back : (old new : Pipeline) → new ≡ old → IsSwept old → IsSwept new
swept_back old new same is = subst (λ (own : Pipeline). IsSwept own) (sym same) is

-- of one that a call left so, or as it was
pub swept_either : {T E : Type 0} (r : Result T E) (old new : Pipeline) → OnOk r (IsSwept new) → OnErr r (new ≡ old) → IsSwept old → IsSwept new
swept_either (Ok x) old new done refused is = done
swept_either (Err e) old new done refused is = swept_back old new refused is
