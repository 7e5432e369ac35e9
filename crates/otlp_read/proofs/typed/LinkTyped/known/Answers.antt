use Rattle.std.proofs.Common.{rules}
use Rattle.std.proofs.lemmas.Str.{IsUtf8-string_bytes}
use Rattle.otlp_read.proofs.typed.LinkTyped.known.Goals as goal

pub returns : goal.returns
returns c = record {
  trace_state = IsUtf8-string_bytes c.args.self.now.trace_state;
  attributes = search rules;
  dropped_attributes_count = search rules;
  flags = search rules;
}
