use Rattle.std.proofs.Common.{rules}
use Rattle.std.proofs.lemmas.Str.{IsUtf8-string_bytes}
use Rattle.otlp_read.proofs.typed.StatusTyped.known.Goals as goal

pub returns : goal.returns
returns c = record {
  message = IsUtf8-string_bytes c.args.self.now.message;
  code = search rules;
}
