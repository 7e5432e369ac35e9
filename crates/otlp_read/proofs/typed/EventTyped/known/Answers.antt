use Rattle.std.proofs.Common.{rules}
use Rattle.std.proofs.lemmas.Str.{IsUtf8-string_bytes}
use Rattle.otlp_read.proofs.typed.EventTyped.known.Goals as goal

pub returns : goal.returns
returns c = record {
  time_unix_nano = search rules;
  name = IsUtf8-string_bytes c.args.self.now.name;
  attributes = search rules;
  dropped_attributes_count = search rules;
}
