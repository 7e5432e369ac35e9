use Rattle.std.proofs.Common.{rules}
use Rattle.std.proofs.lemmas.Str.{IsUtf8-string_bytes}
use Rattle.otlp_read.proofs.typed.ExportTracePartialSuccessTyped.known.Goals as goal

pub returns : goal.returns
returns c = record {
  rejected_spans = search rules;
  error_message = IsUtf8-string_bytes c.args.self.now.error_message;
}
