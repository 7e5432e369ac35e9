use Rattle.std.proofs.Common.{refl}
use Rattle.pb_wire.specs.Reading.{number_in, varint_at, tag_at, split_at, value_with}
use Rattle.otlp_read.specs.Walk.{walk_in, walk, read_with}
use Rattle.pb_wire.specs.Text.{groups as bits}
use Rattle.tail_policy.specs.Meaning.{keeps}
use Rattle.span_batcher.specs.Batches.{batches_in, rest_in, next_cut}
use Rattle.span_batcher.specs.State.{state_of}
use Rattle.span_batcher.specs.State as batcher
use Rattle.tenant_rules.specs.Groups.{groups}
use Rattle.tenant_rules.specs.ExportText.{export_text}
use Rattle.tenant_rules.specs.Batching.{formed, pending, held}
use Rattle.tenant_rules.specs.Sending.{sender, ended}
use Rattle.tenant_rules.specs.State.{state, ledger_at}
use Rattle.tenant_rules.specs.Answers.{answer}
use Rattle.tenant_rules.specs.Ready.{ready}
use Rattle.processor_tests.proofs.rules.posts_and_rows.Goals as goal

pub returns-clause-one_span : goal.returns-clause-one_span
unfolding read_with walk walk_in number_in varint_at tag_at split_at value_with keeps groups export_text formed pending held sender ended ledger_at state answer ready batches_in rest_in next_cut batcher.state state_of bits
returns-clause-one_span c = record { reply = refl; nothing_yet = refl; too_soon = refl; ready_at = refl; leaves = refl; taken = refl; counted = refl; twice = refl; report = refl }

pub returns-clause-boundary : goal.returns-clause-boundary
unfolding keeps groups export_text formed pending held sender ended ledger_at state answer ready batches_in rest_in next_cut batcher.state state_of bits
returns-clause-boundary c = record { both = refl; no_consumer = refl; done = refl; alone = refl }

pub returns-clause-in_one_post : goal.returns-clause-in_one_post
unfolding keeps groups export_text formed pending held sender ended ledger_at state answer ready batches_in rest_in next_cut batcher.state state_of bits
returns-clause-in_one_post c = record { counted = refl; last_leaves = refl }

pub returns-clause-after_decision : goal.returns-clause-after_decision
unfolding keeps groups export_text formed pending held sender ended ledger_at state answer ready batches_in rest_in next_cut batcher.state state_of bits
returns-clause-after_decision c = record { counted = refl }

pub returns-clause-late_past_budget : goal.returns-clause-late_past_budget
unfolding keeps groups export_text formed pending held sender ended ledger_at state answer ready batches_in rest_in next_cut batcher.state state_of bits
returns-clause-late_past_budget c = record { late_taken = refl; counted = refl; full = refl; late_is_full_too = refl }

pub returns-clause-turn_between : goal.returns-clause-turn_between
unfolding keeps groups export_text formed pending held sender ended ledger_at state answer ready batches_in rest_in next_cut batcher.state state_of bits
returns-clause-turn_between c = record { full = refl; full_after_a_turn = refl; later_turn = refl }

pub returns-clause-verdict_kept : goal.returns-clause-verdict_kept
unfolding keeps groups export_text formed pending held sender ended ledger_at state answer ready batches_in rest_in next_cut batcher.state state_of bits
returns-clause-verdict_kept c = record { kept = refl; not_kept = refl; gone = refl; both_kept = refl; not_sampled = refl; drained = refl }

pub returns-clause-remembered : goal.returns-clause-remembered
unfolding keeps groups export_text formed pending held sender ended ledger_at state answer ready batches_in rest_in next_cut batcher.state state_of bits
returns-clause-remembered c = record { decided = refl; found_again = refl; not_sampled = refl; pushed_out = refl; drained = refl; due_when_drained = refl }
