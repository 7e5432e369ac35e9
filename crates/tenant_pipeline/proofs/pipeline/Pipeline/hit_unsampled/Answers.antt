use Rattle.std.proofs.Common.{◌≡◌, ◌∙◌, ℕ, List, refl, sym, ap, subst, false, Some}
use Rattle.decision_cache.specs.Caches.{CachesData, noted_in, shown}
use Rattle.drop_ledger.specs.Ledger.{moved, taken}
use Rattle.drop_ledger.specs.declared.places.Place.TheVariants.{Undecided, NotSampled}
use Rattle.tenant_rules.specs.Arrivals.{trace_of}
use Rattle.tenant_rules.specs.Machine.{cached_or_opens, counted_in}
use Rattle.tenant_rules.specs.State.{State}
use Rattle.tenant_rules.specs.Timers.{recount}
use Rattle.tenant_pipeline.specs.declared.pipeline.Pipeline.{Pipeline}
use Rattle.tenant_pipeline.specs.Posts.{Came, IsSameTenant, IsWritten}
use Rattle.tenant_pipeline.proofs.Hits.{came_after, hit_written}
use Rattle.tenant_pipeline.proofs.Holds.{recounted}
use Rattle.tenant_pipeline.proofs.Late.{lost_came}
use Rattle.tenant_pipeline.proofs.pipeline.Pipeline.hit_unsampled.Goals as goal

pub push_hit-requires : goal.push_hit-requires
push_hit-requires c = record { there = c.requires.known }

pub returns-in_err-push_hit-clause-written : goal.returns-in_err-push_hit-clause-written
returns-in_err-push_hit-clause-written c = λ p first journal start written.
    let own = c.args.self.now in
    subst (λ (k : CachesData). let o : Pipeline = record own { caches = k } in IsWritten journal start o first p) (sym c.in_err-push_hit.ensures.on_refusal) written

pub returns-clause-came : goal.returns-clause-came
returns-clause-came c = λ p m journal x trace.
    let own = c.args.self.now in
    let caches : CachesData = c.push_hit.new.self in
    let mid : Pipeline = record own { caches = caches } in
    let here : shown caches ≡ noted_in false (trace_of x) (shown own.caches) = c.in_ok-push_hit.ensures.shown ∙ ap (λ (t : List ℕ). noted_in false t (shown own.caches)) trace in
    let came = came_after own p caches false (trace_of x) here (λ (s : State). recount Undecided NotSampled 1 (counted_in s)) (λ (s : State). cached_or_opens m x (Some false) (counted_in s))
    m journal journal (record mid { ledger = moved Undecided NotSampled 1 (taken 1 own.ledger) }) p refl
    (lost_came mid p m c.requires.fits c.requires.budget journal journal refl) in
    subst (λ (o : Pipeline). Came (λ (s : State). cached_or_opens m x (Some false) (counted_in s)) m journal journal own o p p) (sym c.count_unsampled.ensures) came

pub returns-clause-written : goal.returns-clause-written
returns-clause-written c = λ p first journal start written.
    let own = c.args.self.now in
    let caches : CachesData = c.push_hit.new.self in
    let mid : Pipeline = record own { caches = caches } in
    let there = hit_written journal start own first p (c.args.trace, false) caches c.in_ok-push_hit.ensures.hits written in
    subst (λ (o : Pipeline). IsWritten journal start o first p) (sym c.count_unsampled.ensures)
    (recounted (moved Undecided NotSampled 1 (taken 1 own.ledger)) journal start mid first p there)

pub returns-clause-same : goal.returns-clause-same
returns-clause-same c =
    let own = c.args.self.now in
    let mid : Pipeline = record own { caches = c.push_hit.new.self } in
    let is : IsSameTenant own (record mid { ledger = moved Undecided NotSampled 1 (taken 1 own.ledger) }) = record { tenant = refl; section = refl; clock = refl; drained = refl } in
    subst (λ (o : Pipeline). IsSameTenant own o) (sym c.count_unsampled.ensures) is
