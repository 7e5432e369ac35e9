use Rattle.std.proofs.Common.{rules}
use Rattle.std.proofs.lemmas.Str.{IsUtf8-string_bytes}
use Rattle.otlp_read.proofs.typed.ResourceSpansTyped.known.Goals as goal

pub returns : goal.returns
returns c = record {
  resource = search rules;
  scope_spans = search rules;
  schema_url = IsUtf8-string_bytes c.args.self.now.schema_url;
}
