-- What an answer unfolds to compute a body's value, and what a tenant is told, on small inputs.
use Rattle.std.specs.Prelude.{⊤}
use Rattle.pb_wire.specs.Reading.{number_in, varint_at, tag_at, split_at, value_with}
use Rattle.pb_wire.specs.Text.{groups as bits}
use Rattle.otlp_read.specs.Walk.{walk_in, walk, read_with}
use Rattle.tail_policy.specs.Meaning.{keeps}
use Rattle.span_batcher.specs.Batches.{batches_in, rest_in, next_cut}
use Rattle.span_batcher.specs.State.{state_of}
use Rattle.span_batcher.specs.State as batcher
use Rattle.tenant_rules.specs.Groups.{groups}
use Rattle.tenant_rules.specs.ExportText.{export_text}
use Rattle.tenant_rules.specs.Batching.{formed, pending, held}
use Rattle.tenant_rules.specs.Sending.{sender, ended}
use Rattle.tenant_rules.specs.State.{state, ledger_at}
use Rattle.tenant_rules.specs.Answers.{answer}
use Rattle.tenant_rules.specs.Ready.{ready}

unfoldable pub values_on_literals : ⊤
unfolding read_with walk walk_in number_in varint_at tag_at split_at value_with
values_on_literals = tt

unfoldable pub pipelines_on_literals : ⊤
unfolding keeps groups export_text formed pending held sender ended ledger_at state answer ready batches_in rest_in next_cut batcher.state state_of bits
pipelines_on_literals = tt
