-- Messages that are read are nested no deeper than there is room, and typed.
use Rattle.std.proofs.Common.{◌≡◌, ℕ, suc, ◌-◌, ◌==◌, List, Some, unwrap_or, Ok, refl, arith}
use Rattle.std.proofs.lemmas.Str.{IsUtf8-nil}
use Rattle.pb_wire.specs.Grammar.{Varint, Eight, Bytes, Four}
use Rattle.otlp_trace.specs.Data.{EventData, LinkData, StatusData, SpanData, ScopeSpansData, ResourceSpansData, RequestData, ResponseData}
use Rattle.otlp_read.specs.AnyValue.{no_key_value, key_value_step}
use Rattle.otlp_read.specs.Nested.{NestedKeyValue, NestedResource, NestedScope, NestedStatus, NestedEvent, NestedLink, NestedSpan, NestedScopeSpans, NestedResourceSpans, NestedRequest}
use Rattle.otlp_read.specs.Numbers.{int32, uint32, int64, fixed64, fixed32}
use Rattle.otlp_read.specs.Response.{no_partial_success, no_response, partial_success_known, partial_success_step, response_known, response_step, IsResponse}
use Rattle.otlp_read.specs.Typed.{TypedKeyValue, TypedResource, TypedScope, TypedStatus, TypedEvent, TypedLink, TypedSpan, TypedScopeSpans, TypedResourceSpans, TypedRequest, TypedPartialSuccess, TypedResponse}
use Rattle.otlp_trace.specs.Defaults.{no_resource, no_scope, no_status, no_event, no_link, no_span, no_scope_spans, no_resource_spans, no_request}
use Rattle.otlp_read.specs.Value.{keep_resource, resource_known, resource_step, keep_scope, scope_known, scope_step, keep_status, status_known, status_step, keep_event, event_known, event_step, keep_link, link_known, link_step, keep_span, span_known, span_step, scope_spans_known, scope_spans_step, resource_spans_known, resource_spans_step, request_known, request_step, IsValue}
use Rattle.otlp_read.specs.Walk.{read_with}
use Rattle.otlp_read.proofs.Laws.{made as walked}
use Rattle.otlp_read.proofs.Sound.{AreBytes, not_known, made, read_fine, string_fine, another_fine, kept_keeps, dropped_keeps, nothing_kept, kept_more, walk_kept, Good, Reads, FieldsFine, message_reads, fresh, standing, typed_standing, each_push, int32_fits, int64_fits, uint32_fits, fixed32_fits, fixed64_fits, by_test}
use Rattle.otlp_read.proofs.ValueSound.{attribute_sound}

-- ---- resource

empty_resource : (room : ℕ) → NestedResource (suc room) no_resource
empty_resource room = record { attributes = tt; unknown = nothing_kept resource_known room }

empty_resource_typed : TypedResource no_resource
empty_resource_typed = record { attributes = tt; dropped_attributes_count = omega arith }

resource_fine : (F : Type 0) (room : ℕ) → FieldsFine F NestedResource TypedResource resource_known room
resource_fine F room r n (Varint x) wire good =
    by_test (n == 2) (λ e. rw e (made (record r { dropped_attributes_count = uint32 x }) (assumption good.0, λ f. assumption (good.1 f, uint32_fits x)))) λ e2.
    rw e2 (not_known (λ y. refl))
resource_fine F room r n (Bytes bs) wire good =
    by_test (n == 1) (λ e. rw e (another_fine r.attributes (read_with key_value_step room no_key_value bs) (λ l. record r { attributes = l }) (λ p is. let g = attribute_sound F room p bs wire is in (assumption (good.0, each_push (NestedKeyValue room) r.attributes p good.0.attributes g.0), λ f. assumption (good.1 f, each_push TypedKeyValue r.attributes p (good.1 f).attributes (g.1 f)))))) λ e1.
    rw e1 (not_known (λ y. refl))
resource_fine F room r n _ wire good = not_known (λ y. refl)

resource_reads : (F : Type 0) (room : ℕ) → Reads F NestedResource TypedResource (read_with resource_step) room
resource_reads F = message_reads F NestedResource TypedResource resource_step (λ r. kept_keeps F (resource_known r) (100 - r) (Good F NestedResource TypedResource (suc r)) (resource_fine F r) keep_resource (λ a e spelled is none good. (assumption (good.0, kept_more resource_known r a.unknown spelled e good.0.unknown is none), λ f. assumption (good.1 f))))

-- ---- scope

empty_scope : (room : ℕ) → NestedScope (suc room) no_scope
empty_scope room = record { attributes = tt; unknown = nothing_kept scope_known room }

empty_scope_typed : TypedScope no_scope
empty_scope_typed = record { name = IsUtf8-nil; version = IsUtf8-nil; attributes = tt; dropped_attributes_count = omega arith }

scope_fine : (F : Type 0) (room : ℕ) → FieldsFine F NestedScope TypedScope scope_known room
scope_fine F room s n (Varint x) wire good =
    by_test (n == 4) (λ e. rw e (made (record s { dropped_attributes_count = uint32 x }) (assumption good.0, λ f. assumption (good.1 f, uint32_fits x)))) λ e4.
    rw e4 (not_known (λ y. refl))
scope_fine F room s n (Bytes bs) wire good =
    by_test (n == 1) (λ e. rw e (string_fine bs (λ text. record s { name = text }) (λ text valid. (assumption good.0, λ f. assumption (good.1 f, valid))))) λ e1.
    by_test (n == 2) (λ e. rw (e1, e) (string_fine bs (λ text. record s { version = text }) (λ text valid. (assumption good.0, λ f. assumption (good.1 f, valid))))) λ e2.
    by_test (n == 3) (λ e. rw (e1, e2, e) (another_fine s.attributes (read_with key_value_step room no_key_value bs) (λ l. record s { attributes = l }) (λ p is. let g = attribute_sound F room p bs wire is in (assumption (good.0, each_push (NestedKeyValue room) s.attributes p good.0.attributes g.0), λ f. assumption (good.1 f, each_push TypedKeyValue s.attributes p (good.1 f).attributes (g.1 f)))))) λ e3.
    rw (e1, e2, e3) (not_known (λ y. refl))
scope_fine F room s n _ wire good = not_known (λ y. refl)

scope_reads : (F : Type 0) (room : ℕ) → Reads F NestedScope TypedScope (read_with scope_step) room
scope_reads F = message_reads F NestedScope TypedScope scope_step (λ r. kept_keeps F (scope_known r) (100 - r) (Good F NestedScope TypedScope (suc r)) (scope_fine F r) keep_scope (λ a e spelled is none good. (assumption (good.0, kept_more scope_known r a.unknown spelled e good.0.unknown is none), λ f. assumption (good.1 f))))

-- ---- status

empty_status : (room : ℕ) → NestedStatus (suc room) no_status
empty_status room = record { unknown = nothing_kept (λ r. status_known) room }

empty_status_typed : TypedStatus no_status
empty_status_typed = record { message = IsUtf8-nil; code = int32_fits 0 }

status_fine : (F : Type 0) (room : ℕ) → FieldsFine F NestedStatus TypedStatus (λ r. status_known) room
status_fine F room s n (Varint x) wire good =
    by_test (n == 3) (λ e. rw e (made (record s { code = int32 x }) (assumption good.0, λ f. assumption (good.1 f, int32_fits x)))) λ e3.
    rw e3 (not_known (λ y. refl))
status_fine F room s n (Bytes bs) wire good =
    by_test (n == 2) (λ e. rw e (string_fine bs (λ text. record s { message = text }) (λ text valid. (assumption good.0, λ f. assumption (good.1 f, valid))))) λ e2.
    rw e2 (not_known (λ y. refl))
status_fine F room s n _ wire good = not_known (λ y. refl)

status_reads : (F : Type 0) (room : ℕ) → Reads F NestedStatus TypedStatus (read_with status_step) room
status_reads F = message_reads F NestedStatus TypedStatus status_step (λ r. kept_keeps F status_known (100 - r) (Good F NestedStatus TypedStatus (suc r)) (status_fine F r) keep_status (λ a e spelled is none good. (assumption (good.0, kept_more (λ r. status_known) r a.unknown spelled e good.0.unknown is none), λ f. assumption (good.1 f))))

pub status_sound : (F : Type 0) (room : ℕ) (x : StatusData) (text : List ℕ) → (F → AreBytes text) → read_with status_step room no_status text ≡ Ok x → Good F NestedStatus TypedStatus room x
status_sound F room x text are e = status_reads F room no_status x text are (fresh NestedStatus no_status empty_status room) (λ f. empty_status_typed) e

-- ---- event

empty_event : (room : ℕ) → NestedEvent (suc room) no_event
empty_event room = record { attributes = tt; unknown = nothing_kept event_known room }

empty_event_typed : TypedEvent no_event
empty_event_typed = record { time_unix_nano = omega arith; name = IsUtf8-nil; attributes = tt; dropped_attributes_count = omega arith }

event_fine : (F : Type 0) (room : ℕ) → FieldsFine F NestedEvent TypedEvent event_known room
event_fine F room v n (Varint x) wire good =
    by_test (n == 4) (λ e. rw e (made (record v { dropped_attributes_count = uint32 x }) (assumption good.0, λ f. assumption (good.1 f, uint32_fits x)))) λ e4.
    rw e4 (not_known (λ y. refl))
event_fine F room v n (Eight bs) wire good =
    by_test (n == 1) (λ e. rw e (made (record v { time_unix_nano = fixed64 bs }) (assumption good.0, λ f. assumption (good.1 f, fixed64_fits bs wire.0 (wire.1 f))))) λ e1.
    rw e1 (not_known (λ y. refl))
event_fine F room v n (Bytes bs) wire good =
    by_test (n == 2) (λ e. rw e (string_fine bs (λ text. record v { name = text }) (λ text valid. (assumption good.0, λ f. assumption (good.1 f, valid))))) λ e2.
    by_test (n == 3) (λ e. rw (e2, e) (another_fine v.attributes (read_with key_value_step room no_key_value bs) (λ l. record v { attributes = l }) (λ p is. let g = attribute_sound F room p bs wire is in (assumption (good.0, each_push (NestedKeyValue room) v.attributes p good.0.attributes g.0), λ f. assumption (good.1 f, each_push TypedKeyValue v.attributes p (good.1 f).attributes (g.1 f)))))) λ e3.
    rw (e2, e3) (not_known (λ y. refl))
event_fine F room v n _ wire good = not_known (λ y. refl)

event_reads : (F : Type 0) (room : ℕ) → Reads F NestedEvent TypedEvent (read_with event_step) room
event_reads F = message_reads F NestedEvent TypedEvent event_step (λ r. kept_keeps F (event_known r) (100 - r) (Good F NestedEvent TypedEvent (suc r)) (event_fine F r) keep_event (λ a e spelled is none good. (assumption (good.0, kept_more event_known r a.unknown spelled e good.0.unknown is none), λ f. assumption (good.1 f))))

pub event_sound : (F : Type 0) (room : ℕ) (x : EventData) (text : List ℕ) → (F → AreBytes text) → read_with event_step room no_event text ≡ Ok x → Good F NestedEvent TypedEvent room x
event_sound F room x text are e = event_reads F room no_event x text are (fresh NestedEvent no_event empty_event room) (λ f. empty_event_typed) e

-- ---- link

empty_link : (room : ℕ) → NestedLink (suc room) no_link
empty_link room = record { attributes = tt; unknown = nothing_kept link_known room }

empty_link_typed : TypedLink no_link
empty_link_typed = record { trace_state = IsUtf8-nil; attributes = tt; dropped_attributes_count = omega arith; flags = omega arith }

link_fine : (F : Type 0) (room : ℕ) → FieldsFine F NestedLink TypedLink link_known room
link_fine F room v n (Varint x) wire good =
    by_test (n == 5) (λ e. rw e (made (record v { dropped_attributes_count = uint32 x }) (assumption good.0, λ f. assumption (good.1 f, uint32_fits x)))) λ e5.
    rw e5 (not_known (λ y. refl))
link_fine F room v n (Four bs) wire good =
    by_test (n == 6) (λ e. rw e (made (record v { flags = fixed32 bs }) (assumption good.0, λ f. assumption (good.1 f, fixed32_fits bs wire.0 (wire.1 f))))) λ e6.
    rw e6 (not_known (λ y. refl))
link_fine F room v n (Bytes bs) wire good =
    by_test (n == 1) (λ e. rw e (made (record v { trace_id = bs }) (assumption good.0, λ f. assumption (good.1 f)))) λ e1.
    by_test (n == 2) (λ e. rw (e1, e) (made (record v { span_id = bs }) (assumption good.0, λ f. assumption (good.1 f)))) λ e2.
    by_test (n == 3) (λ e. rw (e1, e2, e) (string_fine bs (λ text. record v { trace_state = text }) (λ text valid. (assumption good.0, λ f. assumption (good.1 f, valid))))) λ e3.
    by_test (n == 4) (λ e. rw (e1, e2, e3, e) (another_fine v.attributes (read_with key_value_step room no_key_value bs) (λ l. record v { attributes = l }) (λ p is. let g = attribute_sound F room p bs wire is in (assumption (good.0, each_push (NestedKeyValue room) v.attributes p good.0.attributes g.0), λ f. assumption (good.1 f, each_push TypedKeyValue v.attributes p (good.1 f).attributes (g.1 f)))))) λ e4.
    rw (e1, e2, e3, e4) (not_known (λ y. refl))
link_fine F room v n _ wire good = not_known (λ y. refl)

link_reads : (F : Type 0) (room : ℕ) → Reads F NestedLink TypedLink (read_with link_step) room
link_reads F = message_reads F NestedLink TypedLink link_step (λ r. kept_keeps F (link_known r) (100 - r) (Good F NestedLink TypedLink (suc r)) (link_fine F r) keep_link (λ a e spelled is none good. (assumption (good.0, kept_more link_known r a.unknown spelled e good.0.unknown is none), λ f. assumption (good.1 f))))

pub link_sound : (F : Type 0) (room : ℕ) (x : LinkData) (text : List ℕ) → (F → AreBytes text) → read_with link_step room no_link text ≡ Ok x → Good F NestedLink TypedLink room x
link_sound F room x text are e = link_reads F room no_link x text are (fresh NestedLink no_link empty_link room) (λ f. empty_link_typed) e

-- ---- span

pub empty_span : (room : ℕ) → NestedSpan (suc room) no_span
empty_span room = record { attributes = tt; events = tt; links = tt; status = tt; unknown = nothing_kept span_known room }

pub empty_span_typed : TypedSpan no_span
empty_span_typed = record { trace_state = IsUtf8-nil; name = IsUtf8-nil; kind = int32_fits 0; start_time_unix_nano = omega arith; end_time_unix_nano = omega arith; attributes = tt; dropped_attributes_count = omega arith; events = tt; dropped_events_count = omega arith; links = tt; dropped_links_count = omega arith; status = tt; flags = omega arith }

span_fine : (F : Type 0) (room : ℕ) → FieldsFine F NestedSpan TypedSpan span_known room
span_fine F room s n (Varint x) wire good =
    by_test (n == 6) (λ e. rw e (made (record s { kind = int32 x }) (assumption good.0, λ f. assumption (good.1 f, int32_fits x)))) λ e6.
    by_test (n == 10) (λ e. rw (e6, e) (made (record s { dropped_attributes_count = uint32 x }) (assumption good.0, λ f. assumption (good.1 f, uint32_fits x)))) λ e10.
    by_test (n == 12) (λ e. rw (e6, e10, e) (made (record s { dropped_events_count = uint32 x }) (assumption good.0, λ f. assumption (good.1 f, uint32_fits x)))) λ e12.
    by_test (n == 14) (λ e. rw (e6, e10, e12, e) (made (record s { dropped_links_count = uint32 x }) (assumption good.0, λ f. assumption (good.1 f, uint32_fits x)))) λ e14.
    rw (e6, e10, e12, e14) (not_known (λ y. refl))
span_fine F room s n (Eight bs) wire good =
    by_test (n == 7) (λ e. rw e (made (record s { start_time_unix_nano = fixed64 bs }) (assumption good.0, λ f. assumption (good.1 f, fixed64_fits bs wire.0 (wire.1 f))))) λ e7.
    by_test (n == 8) (λ e. rw (e7, e) (made (record s { end_time_unix_nano = fixed64 bs }) (assumption good.0, λ f. assumption (good.1 f, fixed64_fits bs wire.0 (wire.1 f))))) λ e8.
    rw (e7, e8) (not_known (λ y. refl))
span_fine F room s n (Four bs) wire good =
    by_test (n == 16) (λ e. rw e (made (record s { flags = fixed32 bs }) (assumption good.0, λ f. assumption (good.1 f, fixed32_fits bs wire.0 (wire.1 f))))) λ e16.
    rw e16 (not_known (λ y. refl))
span_fine F room s n (Bytes bs) wire good =
    by_test (n == 1) (λ e. rw e (made (record s { trace_id = bs }) (assumption good.0, λ f. assumption (good.1 f)))) λ e1.
    by_test (n == 2) (λ e. rw (e1, e) (made (record s { span_id = bs }) (assumption good.0, λ f. assumption (good.1 f)))) λ e2.
    by_test (n == 3) (λ e. rw (e1, e2, e) (string_fine bs (λ text. record s { trace_state = text }) (λ text valid. (assumption good.0, λ f. assumption (good.1 f, valid))))) λ e3.
    by_test (n == 4) (λ e. rw (e1, e2, e3, e) (made (record s { parent_span_id = bs }) (assumption good.0, λ f. assumption (good.1 f)))) λ e4.
    by_test (n == 5) (λ e. rw (e1, e2, e3, e4, e) (string_fine bs (λ text. record s { name = text }) (λ text valid. (assumption good.0, λ f. assumption (good.1 f, valid))))) λ e5.
    by_test (n == 9) (λ e. rw (e1, e2, e3, e4, e5, e) (another_fine s.attributes (read_with key_value_step room no_key_value bs) (λ l. record s { attributes = l }) (λ p is. let g = attribute_sound F room p bs wire is in (assumption (good.0, each_push (NestedKeyValue room) s.attributes p good.0.attributes g.0), λ f. assumption (good.1 f, each_push TypedKeyValue s.attributes p (good.1 f).attributes (g.1 f)))))) λ e9.
    by_test (n == 11) (λ e. rw (e1, e2, e3, e4, e5, e9, e) (another_fine s.events (read_with event_step room no_event bs) (λ l. record s { events = l }) (λ x is. let g = event_sound F room x bs wire is in (assumption (good.0, each_push (NestedEvent room) s.events x good.0.events g.0), λ f. assumption (good.1 f, each_push TypedEvent s.events x (good.1 f).events (g.1 f)))))) λ e11.
    by_test (n == 13) (λ e. rw (e1, e2, e3, e4, e5, e9, e11, e) (another_fine s.links (read_with link_step room no_link bs) (λ l. record s { links = l }) (λ x is. let g = link_sound F room x bs wire is in (assumption (good.0, each_push (NestedLink room) s.links x good.0.links g.0), λ f. assumption (good.1 f, each_push TypedLink s.links x (good.1 f).links (g.1 f)))))) λ e13.
    by_test (n == 15) (λ e. rw (e1, e2, e3, e4, e5, e9, e11, e13, e) (read_fine (read_with status_step room (unwrap_or s.status no_status) bs) (λ x. record s { status = Some x }) (λ x is. let g = status_reads F room (unwrap_or s.status no_status) x bs wire (standing NestedStatus no_status empty_status room s.status good.0.status) (λ f. typed_standing TypedStatus no_status s.status empty_status_typed (good.1 f).status) is in (assumption (good.0, g.0), λ f. assumption (good.1 f, g.1 f))))) λ e15.
    rw (e1, e2, e3, e4, e5, e9, e11, e13, e15) (not_known (λ y. refl))
span_fine F room s n _ wire good = not_known (λ y. refl)

span_reads : (F : Type 0) (room : ℕ) → Reads F NestedSpan TypedSpan (read_with span_step) room
span_reads F = message_reads F NestedSpan TypedSpan span_step (λ r. kept_keeps F (span_known r) (100 - r) (Good F NestedSpan TypedSpan (suc r)) (span_fine F r) keep_span (λ a e spelled is none good. (assumption (good.0, kept_more span_known r a.unknown spelled e good.0.unknown is none), λ f. assumption (good.1 f))))

span_sound : (F : Type 0) (room : ℕ) (x : SpanData) (text : List ℕ) → (F → AreBytes text) → read_with span_step room no_span text ≡ Ok x → Good F NestedSpan TypedSpan room x
span_sound F room x text are e = span_reads F room no_span x text are (fresh NestedSpan no_span empty_span room) (λ f. empty_span_typed) e

-- ---- scope spans

empty_scope_spans : (room : ℕ) → NestedScopeSpans (suc room) no_scope_spans
empty_scope_spans room = record { scope = tt; spans = tt }

empty_scope_spans_typed : TypedScopeSpans no_scope_spans
empty_scope_spans_typed = record { scope = tt; spans = tt; schema_url = IsUtf8-nil }

scope_spans_fine : (F : Type 0) (room : ℕ) → FieldsFine F NestedScopeSpans TypedScopeSpans scope_spans_known room
scope_spans_fine F room s n (Bytes bs) wire good =
    by_test (n == 1) (λ e. rw e (read_fine (read_with scope_step room (unwrap_or s.scope no_scope) bs) (λ x. record s { scope = Some x }) (λ x is. let g = scope_reads F room (unwrap_or s.scope no_scope) x bs wire (standing NestedScope no_scope empty_scope room s.scope good.0.scope) (λ f. typed_standing TypedScope no_scope s.scope empty_scope_typed (good.1 f).scope) is in (assumption (good.0, g.0), λ f. assumption (good.1 f, g.1 f))))) λ e1.
    by_test (n == 2) (λ e. rw (e1, e) (another_fine s.spans (read_with span_step room no_span bs) (λ l. record s { spans = l }) (λ x is. let g = span_sound F room x bs wire is in (assumption (good.0, each_push (NestedSpan room) s.spans x good.0.spans g.0), λ f. assumption (good.1 f, each_push TypedSpan s.spans x (good.1 f).spans (g.1 f)))))) λ e2.
    by_test (n == 3) (λ e. rw (e1, e2, e) (string_fine bs (λ text. record s { schema_url = text }) (λ text valid. (assumption good.0, λ f. assumption (good.1 f, valid))))) λ e3.
    rw (e1, e2, e3) (not_known (λ y. refl))
scope_spans_fine F room s n _ wire good = not_known (λ y. refl)

scope_spans_reads : (F : Type 0) (room : ℕ) → Reads F NestedScopeSpans TypedScopeSpans (read_with scope_spans_step) room
scope_spans_reads F = message_reads F NestedScopeSpans TypedScopeSpans scope_spans_step (λ r. dropped_keeps F (scope_spans_known r) (100 - r) (Good F NestedScopeSpans TypedScopeSpans (suc r)) (scope_spans_fine F r))

scope_spans_sound : (F : Type 0) (room : ℕ) (x : ScopeSpansData) (text : List ℕ) → (F → AreBytes text) → read_with scope_spans_step room no_scope_spans text ≡ Ok x → Good F NestedScopeSpans TypedScopeSpans room x
scope_spans_sound F room x text are e = scope_spans_reads F room no_scope_spans x text are (fresh NestedScopeSpans no_scope_spans empty_scope_spans room) (λ f. empty_scope_spans_typed) e

-- ---- resource spans

empty_resource_spans : (room : ℕ) → NestedResourceSpans (suc room) no_resource_spans
empty_resource_spans room = record { resource = tt; scope_spans = tt }

empty_resource_spans_typed : TypedResourceSpans no_resource_spans
empty_resource_spans_typed = record { resource = tt; scope_spans = tt; schema_url = IsUtf8-nil }

resource_spans_fine : (F : Type 0) (room : ℕ) → FieldsFine F NestedResourceSpans TypedResourceSpans resource_spans_known room
resource_spans_fine F room r n (Bytes bs) wire good =
    by_test (n == 1) (λ e. rw e (read_fine (read_with resource_step room (unwrap_or r.resource no_resource) bs) (λ x. record r { resource = Some x }) (λ x is. let g = resource_reads F room (unwrap_or r.resource no_resource) x bs wire (standing NestedResource no_resource empty_resource room r.resource good.0.resource) (λ f. typed_standing TypedResource no_resource r.resource empty_resource_typed (good.1 f).resource) is in (assumption (good.0, g.0), λ f. assumption (good.1 f, g.1 f))))) λ e1.
    by_test (n == 2) (λ e. rw (e1, e) (another_fine r.scope_spans (read_with scope_spans_step room no_scope_spans bs) (λ l. record r { scope_spans = l }) (λ x is. let g = scope_spans_sound F room x bs wire is in (assumption (good.0, each_push (NestedScopeSpans room) r.scope_spans x good.0.scope_spans g.0), λ f. assumption (good.1 f, each_push TypedScopeSpans r.scope_spans x (good.1 f).scope_spans (g.1 f)))))) λ e2.
    by_test (n == 3) (λ e. rw (e1, e2, e) (string_fine bs (λ text. record r { schema_url = text }) (λ text valid. (assumption good.0, λ f. assumption (good.1 f, valid))))) λ e3.
    rw (e1, e2, e3) (not_known (λ y. refl))
resource_spans_fine F room r n _ wire good = not_known (λ y. refl)

resource_spans_reads : (F : Type 0) (room : ℕ) → Reads F NestedResourceSpans TypedResourceSpans (read_with resource_spans_step) room
resource_spans_reads F = message_reads F NestedResourceSpans TypedResourceSpans resource_spans_step (λ r. dropped_keeps F (resource_spans_known r) (100 - r) (Good F NestedResourceSpans TypedResourceSpans (suc r)) (resource_spans_fine F r))

resource_spans_sound : (F : Type 0) (room : ℕ) (x : ResourceSpansData) (text : List ℕ) → (F → AreBytes text) → read_with resource_spans_step room no_resource_spans text ≡ Ok x → Good F NestedResourceSpans TypedResourceSpans room x
resource_spans_sound F room x text are e = resource_spans_reads F room no_resource_spans x text are (fresh NestedResourceSpans no_resource_spans empty_resource_spans room) (λ f. empty_resource_spans_typed) e

-- ---- bodies

request_fine : (F : Type 0) → FieldsFine F (λ r. NestedRequest) TypedRequest request_known 100
request_fine F v n (Bytes bs) wire good =
    by_test (n == 1) (λ e. rw e (another_fine v.resource_spans (read_with resource_spans_step 100 no_resource_spans bs) (λ l. record v { resource_spans = l }) (λ x is. let g = resource_spans_sound F 100 x bs wire is in (assumption (good.0, each_push (NestedResourceSpans 100) v.resource_spans x good.0.resource_spans g.0), λ f. assumption (good.1 f, each_push TypedResourceSpans v.resource_spans x (good.1 f).resource_spans (g.1 f)))))) λ e1.
    rw e1 (not_known (λ y. refl))
request_fine F v n _ wire good = not_known (λ y. refl)

pub request_sound : (F : Type 0) (v : RequestData) (text : List ℕ) → (F → AreBytes text) → IsValue text v → NestedRequest v × (F → TypedRequest v)
request_sound F v text are is =
    let P : RequestData → Type 0 = Good F (λ r. NestedRequest) TypedRequest 101 in
    walk_kept F (request_step 100) 0 P (dropped_keeps F (request_known 100) 0 P (request_fine F)) no_request v text are (record { resource_spans = tt }, λ f. record { resource_spans = tt }) (walked (request_step 100) 0 no_request v text is)

-- A reply has no number of fixed width, so it is typed whatever its text is, and it keeps nothing.

partial_success_fine : (room : ℕ) → FieldsFine ⊥ (λ r. TypedPartialSuccess) (λ p. Unit {0}) (λ r. partial_success_known) room
partial_success_fine room p n (Varint x) wire good =
    by_test (n == 1) (λ e. rw e (made (record p { rejected_spans = int64 x }) (assumption (good.0, int64_fits x wire), λ f. tt))) λ e1.
    rw e1 (not_known (λ y. refl))
partial_success_fine room p n (Bytes bs) wire good =
    by_test (n == 2) (λ e. rw e (string_fine bs (λ text. record p { error_message = text }) (λ text valid. (assumption (good.0, valid), λ f. tt)))) λ e2.
    rw e2 (not_known (λ y. refl))
partial_success_fine room p n _ wire good = not_known (λ y. refl)

empty_partial_success : TypedPartialSuccess no_partial_success
empty_partial_success = record { rejected_spans = int64_fits 0 (omega arith); error_message = IsUtf8-nil }

partial_success_reads : (room : ℕ) → Reads ⊥ (λ r. TypedPartialSuccess) (λ p. Unit {0}) (read_with partial_success_step) room
partial_success_reads = message_reads ⊥ (λ r. TypedPartialSuccess) (λ p. Unit {0}) partial_success_step (λ r. dropped_keeps ⊥ partial_success_known (100 - r) (Good ⊥ (λ r. TypedPartialSuccess) (λ p. Unit {0}) (suc r)) (partial_success_fine r))

response_fine : FieldsFine ⊥ (λ r. TypedResponse) (λ v. Unit {0}) response_known 100
response_fine v n (Bytes bs) wire good =
    by_test (n == 1) (λ e. rw e (read_fine (read_with partial_success_step 100 (unwrap_or v.partial_success no_partial_success) bs) (λ p. record v { partial_success = Some p }) (λ p is. let g = partial_success_reads 100 (unwrap_or v.partial_success no_partial_success) p bs wire (typed_standing TypedPartialSuccess no_partial_success v.partial_success empty_partial_success good.0.partial_success) (λ f. tt) is in (assumption (good.0, g.0), λ f. tt)))) λ e1.
    rw e1 (not_known (λ y. refl))
response_fine v n _ wire good = not_known (λ y. refl)

pub response_sound : (v : ResponseData) (text : List ℕ) → IsResponse text v → TypedResponse v
response_sound v text is =
    let P : ResponseData → Type 0 = Good ⊥ (λ r. TypedResponse) (λ x. Unit {0}) 101 in
    let good : P v = walk_kept ⊥ (response_step 100) 0 P (dropped_keeps ⊥ (response_known 100) 0 P response_fine) no_response v text (λ f. absurd f) (record { partial_success = tt }, λ f. tt) (walked (response_step 100) 0 no_response v text is) in
    good.0
