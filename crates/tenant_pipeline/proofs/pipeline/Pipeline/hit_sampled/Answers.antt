use Rattle.std.proofs.Common.{◌≡◌, ◌++◌, ◌∙◌, ℕ, List, [], ◌∷◌, sym, ap, subst, true, Some}
use Rattle.std.specs.Prelude.{Result, Ok, Err, OnOk, OnErr}
use Rattle.std.proofs.lemmas.Result.{on_ok_weaker}
use Rattle.decision_cache.specs.Caches.{CachesData, found, noted_in, shown}
use Rattle.drop_ledger.specs.declared.places.Place.TheVariants.{Undecided}
use Rattle.tenant_rules.specs.Arrivals.{trace_of}
use Rattle.tenant_rules.specs.Machine.{cached_or_opens, counted_in}
use Rattle.tenant_rules.specs.State.{State}
use Rattle.tenant_rules.specs.Timers.{grouped}
use Rattle.tenant_pipeline.specs.declared.pipeline.Pipeline.{Pipeline}
use Rattle.tenant_pipeline.specs.StateIn.{part_in, written_state_of}
use Rattle.tenant_pipeline.specs.Posts.{arrival_at, IsWritten}
use Rattle.tenant_pipeline.proofs.Hits.{came_before, group_hits, hit_written, same_cached}
use Rattle.tenant_pipeline.proofs.pipeline.Pipeline.hit_sampled.Goals as goal

-- what holds whatever the result
either : {T E P Q R : Type 0} (r : Result T E) → OnOk r P → OnErr r Q → (P → R) → (Q → R) → R
either (Ok x) p q f g = f p
either (Err x) p q f g = g q

pub push_hit-requires : goal.push_hit-requires
push_hit-requires c =
    record { there = ap (λ (k : CachesData). found c.args.span.now.trace (shown k)) c.in_ok-admit_late.ensures.caches ∙ c.requires.known }

pub returns-clause-came : goal.returns-clause-came
returns-clause-came c =
    let own = c.args.self.now in
    let mid = c.admit_late.new.self in
    let p = part_in own c.args.stores.now in
    let q = part_in mid c.admit_late.new.stores in
    let m = c.args.moment in
    let x = arrival_at p c.args.keys.now.keys c.args.span.now.text in
    let trace = c.requires.coming.1.trace in
    let caches : CachesData = c.push_hit.new.self in
    let t : State = counted_in (written_state_of own p) in
    on_ok_weaker c.push_hit.result
    (λ (noted : shown caches ≡ noted_in true c.args.span.now.trace (shown mid.caches)).
    let here : shown caches ≡ noted_in true (trace_of x) (shown mid.caches) = noted ∙ ap (λ (i : List ℕ). noted_in true i (shown mid.caches)) trace in
    came_before mid q caches true (trace_of x) here (λ (s : State). grouped Undecided m (x ∷ []) (counted_in s)) (λ (s : State). cached_or_opens m x (Some true) (counted_in s))
    m c.args.journal.now c.admit_late.new.journal own p (group_hits m x (trace_of x) t) c.in_ok-admit_late.ensures.came)
    c.push_hit.ensures.shown

pub returns-clause-written : goal.returns-clause-written
returns-clause-written c = λ start first written.
    let mid = c.admit_late.new.self in
    let q = part_in mid c.admit_late.new.stores in
    let caches : CachesData = c.push_hit.new.self in
    let journal = c.admit_late.new.journal in
    let there : IsWritten journal start mid first q = c.in_ok-admit_late.ensures.written start first written in
    either c.push_hit.result c.push_hit.ensures.hits c.push_hit.ensures.on_refusal
    (λ (is : caches ≡ record (mid.caches) { hits = mid.caches.hits ++ (c.args.span.now.trace, true) ∷ [] }). hit_written journal start mid first q (c.args.span.now.trace, true) caches is there)
    (λ (is : caches ≡ mid.caches). subst (λ (k : CachesData). let o : Pipeline = record mid { caches = k } in IsWritten journal start o first q) (sym is) there)

pub returns-clause-same : goal.returns-clause-same
returns-clause-same c = same_cached c.args.self.now c.admit_late.new.self c.push_hit.new.self c.in_ok-admit_late.ensures.same
