-- Posts, rows, eviction and budget, on examples that were worked out by hand: what a tenant is told, and what is
-- counted (`num_traces` of the Collector's tailsamplingprocessor; the budget is this project's own rule).
use Rattle.std.specs.Prelude.{◌≡◌, ℕ, List, [], ◌∷◌, map, replicate, codes, Some, None}
use Rattle.decision_cache.specs.Ids.{IdsData}
use Rattle.decision_cache.specs.Caches.{both}
use Rattle.drop_ledger.specs.Ledger.{no_places, no_spans}
use Rattle.drop_ledger.specs.Report.{report_text}
use Rattle.tenant_rules.specs.declared.reply.StepReply.TheVariants as replies
use Rattle.tenant_rules.specs.Own.{Own, Post, Turn, Report, Drain}
use Rattle.tenant_rules.specs.State.{state, ledger}
use Rattle.tenant_rules.specs.Answers.{answer}
use Rattle.tenant_rules.specs.Ready.{ready}
use Rattle.processor_tests.specs.Parts.{plain, with_rows, with_ids, with_errors, with_budget, span, body, body_of_two, text, one, status, counts}

-- a span leaves a second after it came, and is exported; before, nothing is counted
pub record OneSpan : Type 0 where
  pub reply : answer plain [] (one 0 17 33) ≡ replies.Reply (record { status = 200; body = [] })
  pub nothing_yet : ledger plain [] ≡ no_spans
  pub too_soon : answer plain (one 0 17 33 ∷ []) (Turn 999) ≡ replies.Worked
  pub ready_at : ready (state plain (one 0 17 33 ∷ [])) ≡ Some 1000
  pub leaves : answer plain (one 0 17 33 ∷ []) (Turn 1000) ≡ replies.Job 1 (body 17 33)
  pub taken : answer plain (Turn 1000 ∷ one 0 17 33 ∷ []) (status 1000 1 0 200) ≡ replies.Done
  pub counted : ledger plain (status 1000 1 0 200 ∷ Turn 1000 ∷ one 0 17 33 ∷ []) ≡
      counts 1 (record no_places { exported = 1 })
  pub twice : answer plain (status 1000 1 0 200 ∷ Turn 1000 ∷ one 0 17 33 ∷ []) (status 1000 1 0 200) ≡
      replies.UnknownTicket
  pub report : answer plain (status 1000 1 0 200 ∷ Turn 1000 ∷ one 0 17 33 ∷ []) (Report 1000) ≡
      replies.Report (report_text (counts 1 (record no_places { exported = 1 })))

-- a span a millisecond before the decision leaves with the first, one at the decision leaves alone, once the only
-- consumer is free
abbrev pub boundary : List Own
boundary = one 1000 17 35 ∷ one 999 17 34 ∷ one 0 17 33 ∷ []

pub record Boundary : Type 0 where
  pub both : answer plain boundary (Turn 1000) ≡ replies.Job 1 (body_of_two (text 17 33) (text 17 34))
  pub no_consumer : ready (state plain (Turn 1000 ∷ boundary)) ≡ None
  pub done : answer plain (Turn 1000 ∷ boundary) (status 1000 1 0 200) ≡ replies.Done
  pub alone : answer plain (status 1000 1 0 200 ∷ Turn 1000 ∷ one 1000 17 35 ∷ one 0 17 33 ∷ []) (Turn 1000) ≡
      replies.Job 2 (body 17 35)

-- one row at most: three traces in one post evict each other
pub record EvictedInOnePost : Type 0 where
  pub counted : ledger (with_rows 1) (Post 0 (span 17 33 ∷ span 18 34 ∷ span 17 35 ∷ []) ∷ []) ≡
      counts 3 (record no_places { undecided = 1; too_early = 2 })
  pub last_leaves : answer (with_rows 1) (Post 0 (span 17 33 ∷ span 18 34 ∷ span 17 35 ∷ []) ∷ []) (Turn 1000) ≡
      replies.Job 1 (body 17 35)

-- one row at most: a late span, then a row that evicts one that was decided, then one that evicts one that wasn't
abbrev pub mixed : List Own
mixed = Turn 9000 ∷ Post 1500 (span 18 35 ∷ span 17 36 ∷ []) ∷ one 1000 17 34 ∷ one 0 17 33 ∷ []

pub record EvictedAfterDecision : Type 0 where
  pub counted : ledger (with_rows 1) mixed ≡ counts 4 (record no_places { queued = 2; active = 1; too_early = 1 })

-- one span at most is held: late spans leave at once, and go past the budget of those that wait
abbrev pub late_and_new : List Own
late_and_new = one 1000 18 35 ∷ one 1000 17 34 ∷ one 0 17 33 ∷ []

pub record LatePastBudget : Type 0 where
  pub late_taken : answer (with_budget 1) (one 0 17 33 ∷ []) (one 1000 17 34) ≡
      replies.Reply (record { status = 200; body = [] })
  pub counted : ledger (with_budget 1) late_and_new ≡ counts 3 (record no_places { undecided = 1; queued = 2 })
  pub full : answer (with_budget 1) late_and_new (one 1000 19 36) ≡
      replies.Reply (record { status = 429; body = 18 ∷ 21 ∷ codes "span budget exhausted" })
  pub late_is_full_too : answer (with_budget 1) late_and_new (one 1000 17 36) ≡
      replies.Reply (record { status = 429; body = 18 ∷ 21 ∷ codes "span budget exhausted" })

-- one span at most is held: a turn in between changes no reply but by its moment, and where that is later than the
-- post's, time has gone on and the row is decided
pub record TurnBetween : Type 0 where
  pub full : answer (with_budget 1) (one 0 17 33 ∷ []) (one 900 18 34) ≡
      replies.Reply (record { status = 429; body = 18 ∷ 21 ∷ codes "span budget exhausted" })
  pub full_after_a_turn : answer (with_budget 1) (Turn 800 ∷ one 0 17 33 ∷ []) (one 900 18 34) ≡
      replies.Reply (record { status = 429; body = 18 ∷ 21 ∷ codes "span budget exhausted" })
  pub later_turn : answer (with_budget 1) (Turn 1000 ∷ one 0 17 33 ∷ []) (one 900 18 34) ≡
      replies.Reply (record { status = 200; body = [] })

-- one row at most: a trace that was decided before another one took its row, and a span of it that comes later
abbrev pub come_again : List Own
come_again = one 1500 17 35 ∷ one 1000 18 34 ∷ one 0 17 33 ∷ []

-- where its verdict is kept that span opens no row, and evicts none; the other trace's verdict takes its place
pub record VerdictKept : Type 0 where
  pub kept : ledger (with_ids 1 0) come_again ≡ counts 3 (record no_places { undecided = 1; queued = 2 })
  pub not_kept : ledger (with_ids 0 1) come_again ≡
      counts 3 (record no_places { undecided = 1; queued = 1; too_early = 1 })
  pub gone : ledger (with_ids 1 0) (one 2100 17 36 ∷ come_again) ≡
      counts 4 (record no_places { undecided = 1; queued = 3 })
  pub both_kept : ledger (with_ids 2 0) (one 2100 17 36 ∷ come_again) ≡ counts 4 (record no_places { queued = 4 })
  pub not_sampled : ledger (with_errors 0 1) come_again ≡ counts 3 (record no_places { undecided = 1; not_sampled = 2 })
  pub drained : ledger (with_ids 1 0) (Drain 1500 ∷ come_again) ≡ counts 3 (record no_places { queued = 3 })

-- a cache of this size, with the traces of these bytes, the most recently used first
abbrev pub cache : ℕ → List ℕ → IdsData
cache size traces = record { size = size; ids = map (replicate 16) traces }

-- three traces, one after the other, each of which takes the only row
abbrev pub three : List Own
three = one 2000 19 35 ∷ one 1000 18 34 ∷ one 0 17 33 ∷ []

-- a trace's id goes first in the cache of its verdict when its row is decided, and a span that finds it there has it go
-- first again. None goes there by a row that is pushed out before its decision, or by a drain, unless it was due then
pub record Remembered : Type 0 where
  pub decided : (state (with_ids 2 1) three).caches ≡ both (cache 2 (18 ∷ 17 ∷ [])) (cache 1 [])
  pub found_again : (state (with_ids 2 1) (one 2500 17 36 ∷ three)).caches ≡
      both (cache 2 (17 ∷ 18 ∷ [])) (cache 1 [])
  pub not_sampled : (state (with_errors 1 1) (Turn 1000 ∷ one 0 17 33 ∷ [])).caches ≡
      both (cache 1 []) (cache 1 (17 ∷ []))
  pub pushed_out : (state (with_ids 1 1) (one 500 18 34 ∷ one 0 17 33 ∷ [])).caches ≡
      both (cache 1 []) (cache 1 [])
  pub drained : (state (with_ids 1 1) (Drain 500 ∷ one 0 17 33 ∷ [])).caches ≡ both (cache 1 []) (cache 1 [])
  pub due_when_drained : (state (with_ids 1 1) (Drain 1000 ∷ one 0 17 33 ∷ [])).caches ≡
      both (cache 1 (17 ∷ [])) (cache 1 [])
