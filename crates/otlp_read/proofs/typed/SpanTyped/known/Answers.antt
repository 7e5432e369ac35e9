use Rattle.std.proofs.Common.{rules}
use Rattle.std.proofs.lemmas.Str.{IsUtf8-string_bytes}
use Rattle.otlp_read.proofs.typed.SpanTyped.known.Goals as goal

pub returns : goal.returns
returns c = record {
  trace_state = IsUtf8-string_bytes c.args.self.now.trace_state;
  name = IsUtf8-string_bytes c.args.self.now.name;
  kind = search rules;
  start_time_unix_nano = search rules;
  end_time_unix_nano = search rules;
  attributes = search rules;
  dropped_attributes_count = search rules;
  events = search rules;
  dropped_events_count = search rules;
  links = search rules;
  dropped_links_count = search rules;
  status = search rules;
  flags = search rules;
}
