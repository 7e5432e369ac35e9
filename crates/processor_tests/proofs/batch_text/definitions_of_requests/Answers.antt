use Rattle.std.proofs.Common.{◌<◌, ◌^◌, [], ◌∷◌, refl, arith, rules, lit<}
use Rattle.pb_wire.specs.Text.{groups}
use Rattle.otlp_read.specs.Walk.{no_pieces}
use Rattle.processor_tests.proofs.batch_text.definitions_of_requests.Goals as goal

pub returns-clause-requests : goal.returns-clause-requests
unfolding groups
returns-clause-requests c = record {
  example = refl;
  example_spans = refl;
  example_text = refl;
  three_grouped = refl;
  three_spans = refl;
}

pub returns-clause-readable_places : goal.returns-clause-readable_places
unfolding groups lib.Utf8.encode
returns-clause-readable_places c = record {
  most = record {
    resource = record {
      typed = record { attributes = tt; dropped_attributes_count = lit< tt };
      nested = record { attributes = tt; unknown = record { pieces = []; are = no_pieces; unknown = tt } };
      short = lit< tt;
    };
    resource_schema_url = (0x75 ∷ [], (refl, refl));
    scope = record {
      typed = record {
        name = ([], (refl, refl));
        version = ([], (refl, refl));
        attributes = tt;
        dropped_attributes_count = lit< tt;
      };
      nested = record { attributes = tt; unknown = record { pieces = []; are = no_pieces; unknown = tt } };
      short = lit< tt;
    };
    scope_schema_url = (0x76 ∷ [], (refl, refl));
    typed = record {
      trace_state = ([], (refl, refl));
      name = ([], (refl, refl));
      kind = search rules;
      start_time_unix_nano = lit< tt;
      end_time_unix_nano = lit< tt;
      attributes = tt;
      dropped_attributes_count = lit< tt;
      events = tt;
      dropped_events_count = lit< tt;
      links = tt;
      dropped_links_count = lit< tt;
      status = tt;
      flags = lit< tt;
    };
    nested = record {
      attributes = tt;
      events = tt;
      links = tt;
      status = tt;
      unknown = record { pieces = []; are = no_pieces; unknown = tt };
    };
  };
  one_more = λ read. let fits : 4294967296 < 2 ^ 32 = read.resource.typed.dropped_attributes_count in omega (arith, fits);
}
