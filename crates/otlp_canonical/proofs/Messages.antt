-- Messages, from their fields.
use Rattle.std.proofs.Common.{◌≡◌, ℕ, ◌<◌, ◌^◌, suc, FitsSigned, List, [], option_map, IfSome}
use Rattle.std.specs.Int.{w32}
use Rattle.std.specs.List.{AllByRecursion}
use Rattle.std.specs.Str.{IsUtf8}
use Rattle.otlp_trace.specs.Text.{some_bytes, some_number, some_signed, some_eight, some_four, embedded, repeated, key_value_text, resource_text, scope_text, status_text, event_text, link_text, span_names_text, span_times_text, span_lists_text, span_end_text, span_text, scope_spans_text, resource_spans_text, request_text}
use Rattle.otlp_read.specs.Nested.{Kept}
use Rattle.otlp_trace.specs.Defaults.{no_span}
use Rattle.otlp_read.specs.Value.{resource_known, scope_known, status_known, event_known, link_known, span_known}
use Rattle.otlp_canonical.specs.Parts.{Front, Whole}
use Rattle.otlp_canonical.specs.Sound.{Any, SoundKeyValue, SoundResource, SoundScope, SoundStatus, SoundEvent, SoundLink, SoundNames, SoundTimes, SoundLists, SoundEnd, SoundSpan, SoundScopeSpans, SoundResourceSpans, SoundRequest}
use Rattle.otlp_canonical.proofs.Each.{all_of, some_of}
use Rattle.otlp_canonical.proofs.Parts.{then, last, ends}

abbrev pub Uint32 : ℕ → Type 0
Uint32 x = x < 2 ^ 32

abbrev pub Uint64 : ℕ → Type 0
Uint64 x = x < 2 ^ 64

abbrev pub Attributes : ℕ → ℕ → List ℕ → List ℕ → Type 0
Attributes n room = Front (repeated n key_value_text) (AllByRecursion (SoundKeyValue room))

pub resource_whole : (room r : ℕ) (a b c : List ℕ) → room ≡ suc r → Attributes 1 r a b → Front (some_number 2) Uint32 b c → Kept resource_known r c → Whole resource_text (SoundResource room) a
resource_whole room r a b c is f g kept = rw is (record {
  value = record { attributes = f.value; dropped_attributes_count = g.value; unknown = c };
  sound = record {
    typed = record { attributes = all_of f.value (λ p s. s.typed) f.sound; dropped_attributes_count = g.sound };
    nested = record { attributes = all_of f.value (λ p s. s.nested) f.sound; unknown = kept };
  };
  same = last _ _ f.parts g.parts;
})

pub scope_whole : (room r : ℕ) (a b c d e : List ℕ) → room ≡ suc r → Front (some_bytes 1) IsUtf8 a b → Front (some_bytes 2) IsUtf8 b c → Attributes 3 r c d → Front (some_number 4) Uint32 d e → Kept scope_known r e → Whole scope_text (SoundScope room) a
scope_whole room r a b c d e is f g h k kept = rw is (record {
  value = record { name = f.value; version = g.value; attributes = h.value; dropped_attributes_count = k.value; unknown = e };
  sound = record {
    typed = record { name = f.sound; version = g.sound; attributes = all_of h.value (λ p s. s.typed) h.sound; dropped_attributes_count = k.sound };
    nested = record { attributes = all_of h.value (λ p s. s.nested) h.sound; unknown = kept };
  };
  same = last _ _ f.parts (last _ _ g.parts (last _ _ h.parts k.parts));
})

pub status_whole : (room r : ℕ) (a b c : List ℕ) → room ≡ suc r → Front (some_bytes 2) IsUtf8 a b → Front (some_signed 3) (FitsSigned w32) b c → Kept (λ room. status_known) r c → Whole status_text (SoundStatus room) a
status_whole room r a b c is f g kept = rw is (record {
  value = record { message = f.value; code = g.value; unknown = c };
  sound = record {
    typed = record { message = f.sound; code = g.sound };
    nested = record { unknown = kept };
  };
  same = last _ _ f.parts g.parts;
})

pub event_whole : (room r : ℕ) (a b c d e : List ℕ) → room ≡ suc r → Front (some_eight 1) Uint64 a b → Front (some_bytes 2) IsUtf8 b c → Attributes 3 r c d → Front (some_number 4) Uint32 d e → Kept event_known r e → Whole event_text (SoundEvent room) a
event_whole room r a b c d e is f g h k kept = rw is (record {
  value = record { time_unix_nano = f.value; name = g.value; attributes = h.value; dropped_attributes_count = k.value; unknown = e };
  sound = record {
    typed = record { time_unix_nano = f.sound; name = g.sound; attributes = all_of h.value (λ p s. s.typed) h.sound; dropped_attributes_count = k.sound };
    nested = record { attributes = all_of h.value (λ p s. s.nested) h.sound; unknown = kept };
  };
  same = last _ _ f.parts (last _ _ g.parts (last _ _ h.parts k.parts));
})

pub link_whole : (room r : ℕ) (a b c d e f g : List ℕ) → room ≡ suc r → Front (some_bytes 1) Any a b → Front (some_bytes 2) Any b c → Front (some_bytes 3) IsUtf8 c d → Attributes 4 r d e → Front (some_number 5) Uint32 e f → Front (some_four 6) Uint32 f g → Kept link_known r g → Whole link_text (SoundLink room) a
link_whole room r a b c d e f g is i j k l m n kept = rw is (record {
  value = record { trace_id = i.value; span_id = j.value; trace_state = k.value; attributes = l.value; dropped_attributes_count = m.value; flags = n.value; unknown = g };
  sound = record {
    typed = record { trace_state = k.sound; attributes = all_of l.value (λ p s. s.typed) l.sound; dropped_attributes_count = m.sound; flags = n.sound };
    nested = record { attributes = all_of l.value (λ p s. s.nested) l.sound; unknown = kept };
  };
  same = last _ _ i.parts (last _ _ j.parts (last _ _ k.parts (last _ _ l.parts (last _ _ m.parts n.parts))));
})

pub names_front : (a b c d e f : List ℕ) → Front (some_bytes 1) Any a b → Front (some_bytes 2) Any b c → Front (some_bytes 3) IsUtf8 c d → Front (some_bytes 4) Any d e → Front (some_bytes 5) IsUtf8 e f → Front span_names_text SoundNames a f
names_front a b c d e f i j k l m = record {
  value = record no_span { trace_id = i.value; span_id = j.value; trace_state = k.value; parent_span_id = l.value; name = m.value };
  sound = record { trace_state = k.sound; name = m.sound };
  parts = then f _ _ i.parts (then f _ _ j.parts (then f _ _ k.parts (then f _ _ l.parts m.parts)));
}

pub times_front : (a b c d : List ℕ) → Front (some_signed 6) (FitsSigned w32) a b → Front (some_eight 7) Uint64 b c → Front (some_eight 8) Uint64 c d → Front span_times_text SoundTimes a d
times_front a b c d i j k = record {
  value = record no_span { kind = i.value; start_time_unix_nano = j.value; end_time_unix_nano = k.value };
  sound = record { kind = i.sound; start_time_unix_nano = j.sound; end_time_unix_nano = k.sound };
  parts = then d _ _ i.parts (then d _ _ j.parts k.parts);
}

pub lists_front : (room : ℕ) (a b c d e f g : List ℕ) → Attributes 9 room a b → Front (some_number 10) Uint32 b c → Front (repeated 11 event_text) (AllByRecursion (SoundEvent room)) c d → Front (some_number 12) Uint32 d e → Front (repeated 13 link_text) (AllByRecursion (SoundLink room)) e f → Front (some_number 14) Uint32 f g
    → Front span_lists_text (SoundLists room) a g
lists_front room a b c d e f g i j k l m n = record {
  value = record no_span { attributes = i.value; dropped_attributes_count = j.value; events = k.value; dropped_events_count = l.value; links = m.value; dropped_links_count = n.value };
  sound = record { attributes = i.sound; dropped_attributes_count = j.sound; events = k.sound; dropped_events_count = l.sound; links = m.sound; dropped_links_count = n.sound };
  parts = then g _ _ i.parts (then g _ _ j.parts (then g _ _ k.parts (then g _ _ l.parts (then g _ _ m.parts n.parts))));
}

pub end_whole : (room : ℕ) (a b c : List ℕ) → Front (λ o. embedded 15 (option_map status_text o)) (λ o. IfSome o (SoundStatus room)) a b → Front (some_four 16) Uint32 b c → Kept span_known room c → Whole span_end_text (SoundEnd room) a
end_whole room a b c i j kept = record {
  value = record no_span { status = i.value; flags = j.value; unknown = c };
  sound = record { status = i.sound; flags = j.sound; unknown = kept };
  same = last _ _ i.parts j.parts;
}

pub span_whole : (room r : ℕ) (a b c d : List ℕ) → room ≡ suc r → Front span_names_text SoundNames a b → Front span_times_text SoundTimes b c → Front span_lists_text (SoundLists r) c d → Whole span_end_text (SoundEnd r) d → Whole span_text (SoundSpan room) a
span_whole room r a b c d is f g h k = rw is (record {
  value = record {
    trace_id = f.value.trace_id;
    span_id = f.value.span_id;
    trace_state = f.value.trace_state;
    parent_span_id = f.value.parent_span_id;
    name = f.value.name;
    kind = g.value.kind;
    start_time_unix_nano = g.value.start_time_unix_nano;
    end_time_unix_nano = g.value.end_time_unix_nano;
    attributes = h.value.attributes;
    dropped_attributes_count = h.value.dropped_attributes_count;
    events = h.value.events;
    dropped_events_count = h.value.dropped_events_count;
    links = h.value.links;
    dropped_links_count = h.value.dropped_links_count;
    status = k.value.status;
    flags = k.value.flags;
    unknown = k.value.unknown;
  };
  sound = record {
    typed = record {
      trace_state = f.sound.trace_state;
      name = f.sound.name;
      kind = g.sound.kind;
      start_time_unix_nano = g.sound.start_time_unix_nano;
      end_time_unix_nano = g.sound.end_time_unix_nano;
      attributes = all_of h.value.attributes (λ p s. s.typed) h.sound.attributes;
      dropped_attributes_count = h.sound.dropped_attributes_count;
      events = all_of h.value.events (λ p s. s.typed) h.sound.events;
      dropped_events_count = h.sound.dropped_events_count;
      links = all_of h.value.links (λ p s. s.typed) h.sound.links;
      dropped_links_count = h.sound.dropped_links_count;
      status = some_of k.value.status (λ p s. s.typed) k.sound.status;
      flags = k.sound.flags;
    };
    nested = record {
      attributes = all_of h.value.attributes (λ p s. s.nested) h.sound.attributes;
      events = all_of h.value.events (λ p s. s.nested) h.sound.events;
      links = all_of h.value.links (λ p s. s.nested) h.sound.links;
      status = some_of k.value.status (λ p s. s.nested) k.sound.status;
      unknown = k.sound.unknown;
    };
  };
  same = last _ _ f.parts (last _ _ g.parts (last _ _ h.parts k.same));
})

-- ---- spans by scope and resource

pub scope_spans_whole : (room r : ℕ) (a b c d : List ℕ) → room ≡ suc r → Front (λ o. embedded 1 (option_map scope_text o)) (λ o. IfSome o (SoundScope r)) a b → Front (repeated 2 span_text) (AllByRecursion (SoundSpan r)) b c → Front (some_bytes 3) IsUtf8 c d
    → d ≡ [] → Whole scope_spans_text (SoundScopeSpans room) a
scope_spans_whole room r a b c d is f g h none = rw is (record {
  value = record { scope = f.value; spans = g.value; schema_url = h.value };
  sound = record {
    typed = record { scope = some_of f.value (λ p s. s.typed) f.sound; spans = all_of g.value (λ p s. s.typed) g.sound; schema_url = h.sound };
    nested = record { scope = some_of f.value (λ p s. s.nested) f.sound; spans = all_of g.value (λ p s. s.nested) g.sound };
  };
  same = ends _ (then d _ _ f.parts (then d _ _ g.parts h.parts)) none;
})

pub resource_spans_whole : (room r : ℕ) (a b c d : List ℕ) → room ≡ suc r → Front (λ o. embedded 1 (option_map resource_text o)) (λ o. IfSome o (SoundResource r)) a b → Front (repeated 2 scope_spans_text) (AllByRecursion (SoundScopeSpans r)) b c → Front (some_bytes 3) IsUtf8 c d
    → d ≡ [] → Whole resource_spans_text (SoundResourceSpans room) a
resource_spans_whole room r a b c d is f g h none = rw is (record {
  value = record { resource = f.value; scope_spans = g.value; schema_url = h.value };
  sound = record {
    typed = record { resource = some_of f.value (λ p s. s.typed) f.sound; scope_spans = all_of g.value (λ p s. s.typed) g.sound; schema_url = h.sound };
    nested = record { resource = some_of f.value (λ p s. s.nested) f.sound; scope_spans = all_of g.value (λ p s. s.nested) g.sound };
  };
  same = ends _ (then d _ _ f.parts (then d _ _ g.parts h.parts)) none;
})

pub request_whole : (a b : List ℕ) → Front (repeated 1 resource_spans_text) (AllByRecursion (SoundResourceSpans 100)) a b → b ≡ [] → Whole request_text SoundRequest a
request_whole a b f none = record {
  value = record { resource_spans = f.value };
  sound = record {
    typed = record { resource_spans = all_of f.value (λ p s. s.typed) f.sound };
    nested = record { resource_spans = all_of f.value (λ p s. s.nested) f.sound };
  };
  same = ends _ f.parts none;
}
