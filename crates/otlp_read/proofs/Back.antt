-- Messages that were written read back.
use Rattle.std.proofs.Common.{◌≡◌, ℕ, zero, suc, true, ◌-◌, List, [], Option, Some, None, IfSome, Ok, refl, ◌∙◌}
use Rattle.std.specs.List.{AllByRecursion}
use Rattle.pb_wire.specs.Grammar.{Bytes}
use Rattle.otlp_trace.specs.Data.{KeyValueData, SpanData, RequestData, PartialSuccessData, ResponseData}
use Rattle.otlp_trace.specs.Text.{bytes_field, repeated, key_value_text, resource_text, scope_text, status_text, event_text, link_text, span_names_text, span_times_text, span_lists_text, span_end_text, span_text, scope_spans_text, resource_spans_text, request_text, partial_success_text, response_text}
use Rattle.otlp_read.specs.AnyValue.{no_key_value, key_value_step}
use Rattle.otlp_read.specs.Nested.{NestedKeyValue, NestedResource, NestedScope, NestedStatus, NestedEvent, NestedLink, NestedSpan, InSpan, NestedScopeSpans, NestedResourceSpans, NestedRequest}
use Rattle.otlp_trace.proofs.Spelled.{is_number}
use Rattle.otlp_read.specs.Response.{no_partial_success, no_response, partial_success_step, response_step}
use Rattle.otlp_read.specs.Typed.{TypedKeyValue, TypedResource, TypedScope, TypedStatus, TypedEvent, TypedLink, TypedSpan, TypedScopeSpans, TypedResourceSpans, TypedRequest, TypedPartialSuccess, TypedResponse}
use Rattle.otlp_trace.specs.Defaults.{no_resource, no_scope, no_status, no_event, no_link, no_span, no_scope_spans, no_resource_spans, no_request}
use Rattle.otlp_read.specs.Value.{keep_resource, resource_known, resource_step, keep_scope, scope_known, scope_step, keep_status, status_known, status_step, keep_event, event_known, event_step, keep_link, link_known, link_step, keep_span, span_known, span_step, scope_spans_step, resource_spans_step, request_step}
use Rattle.otlp_read.specs.Walk.{◌>>=◌, Step, walk, read_with, with_another}
use Rattle.otlp_read.proofs.Opened.{opened_at}
use Rattle.otlp_read.proofs.Taken.{Short, Taken, Back, then, whole, some_bytes_taken, some_string_taken, some_uint32_taken, some_int32_taken, some_int64_taken, some_eight_taken, some_four_taken, embedded_taken, repeated_taken, kept_taken}
use Rattle.otlp_read.proofs.ValueBack.{attribute_back}

attributes_taken : {A : Type 0} (step : Step A) (d n room : ℕ) → is_number n ≡ true → (put : List KeyValueData → A) (ps : List KeyValueData) → AllByRecursion TypedKeyValue ps → AllByRecursion (NestedKeyValue room) ps
    → ((qs : List KeyValueData) (bs : List ℕ) → step (put qs) (record { number = n; value = Bytes bs }) (bytes_field n bs) ≡ (with_another qs (read_with key_value_step room no_key_value bs) >>= λ l. Ok (put l)))
    → Taken step d (put []) (repeated n key_value_text ps) (put ps)
attributes_taken step d n room is = repeated_taken step d n is (read_with key_value_step room no_key_value) key_value_text TypedKeyValue (NestedKeyValue room) (attribute_back room)

pub resource_back : (room : ℕ) → Back (read_with resource_step room no_resource) resource_text TypedResource (NestedResource room)
resource_back zero r typed nested short = absurd nested
resource_back (suc room) r typed nested short =
    let step = resource_step room in let d = 100 - room in
    opened_at resource_step room no_resource (resource_text r)
    ∙ whole (then (attributes_taken step d 1 room refl (λ l. record no_resource { attributes = l }) r.attributes typed.attributes nested.attributes (λ l bs. refl))
    (then (some_uint32_taken step d 2 refl (λ n. record r { dropped_attributes_count = n; unknown = [] }) r.dropped_attributes_count typed.dropped_attributes_count refl)
    (kept_taken resource_known keep_resource room (λ u. record r { unknown = u }) (λ u s. refl) r.unknown nested.unknown))) short

pub scope_back : (room : ℕ) → Back (read_with scope_step room no_scope) scope_text TypedScope (NestedScope room)
scope_back zero s typed nested short = absurd nested
scope_back (suc room) s typed nested short =
    let step = scope_step room in let d = 100 - room in
    opened_at scope_step room no_scope (scope_text s)
    ∙ whole (then (some_string_taken step d 1 refl (λ bs. record no_scope { name = bs }) s.name typed.name refl)
    (then (some_string_taken step d 2 refl (λ bs. record no_scope { name = s.name; version = bs }) s.version typed.version refl)
    (then (attributes_taken step d 3 room refl (λ l. record s { attributes = l; dropped_attributes_count = 0; unknown = [] }) s.attributes typed.attributes nested.attributes (λ l bs. refl))
    (then (some_uint32_taken step d 4 refl (λ n. record s { dropped_attributes_count = n; unknown = [] }) s.dropped_attributes_count typed.dropped_attributes_count refl)
    (kept_taken scope_known keep_scope room (λ u. record s { unknown = u }) (λ u x. refl) s.unknown nested.unknown))))) short

pub status_back : (room : ℕ) → Back (read_with status_step room no_status) status_text TypedStatus (NestedStatus room)
status_back zero s typed nested short = absurd nested
status_back (suc room) s typed nested short =
    let step = status_step room in let d = 100 - room in
    opened_at status_step room no_status (status_text s)
    ∙ whole (then (some_string_taken step d 2 refl (λ bs. record no_status { message = bs }) s.message typed.message refl)
    (then (some_int32_taken step d 3 refl (λ z. record s { code = z; unknown = [] }) s.code typed.code (λ x. refl))
    (kept_taken (λ r. status_known) keep_status room (λ u. record s { unknown = u }) (λ u x. refl) s.unknown nested.unknown))) short

pub event_back : (room : ℕ) → Back (read_with event_step room no_event) event_text TypedEvent (NestedEvent room)
event_back zero e typed nested short = absurd nested
event_back (suc room) e typed nested short =
    let step = event_step room in let d = 100 - room in
    opened_at event_step room no_event (event_text e)
    ∙ whole (then (some_eight_taken step d 1 refl (λ n. record no_event { time_unix_nano = n }) e.time_unix_nano typed.time_unix_nano (λ bs. refl))
    (then (some_string_taken step d 2 refl (λ bs. record no_event { time_unix_nano = e.time_unix_nano; name = bs }) e.name typed.name refl)
    (then (attributes_taken step d 3 room refl (λ l. record e { attributes = l; dropped_attributes_count = 0; unknown = [] }) e.attributes typed.attributes nested.attributes (λ l bs. refl))
    (then (some_uint32_taken step d 4 refl (λ n. record e { dropped_attributes_count = n; unknown = [] }) e.dropped_attributes_count typed.dropped_attributes_count refl)
    (kept_taken event_known keep_event room (λ u. record e { unknown = u }) (λ u x. refl) e.unknown nested.unknown))))) short

pub link_back : (room : ℕ) → Back (read_with link_step room no_link) link_text TypedLink (NestedLink room)
link_back zero l typed nested short = absurd nested
link_back (suc room) l typed nested short =
    let step = link_step room in let d = 100 - room in
    opened_at link_step room no_link (link_text l)
    ∙ whole (then (some_bytes_taken step d 1 refl (λ bs. record no_link { trace_id = bs }) l.trace_id refl)
    (then (some_bytes_taken step d 2 refl (λ bs. record no_link { trace_id = l.trace_id; span_id = bs }) l.span_id refl)
    (then (some_string_taken step d 3 refl (λ bs. record no_link { trace_id = l.trace_id; span_id = l.span_id; trace_state = bs }) l.trace_state typed.trace_state refl)
    (then (attributes_taken step d 4 room refl (λ ps. record l { attributes = ps; dropped_attributes_count = 0; flags = 0; unknown = [] }) l.attributes typed.attributes nested.attributes (λ ps bs. refl))
    (then (some_uint32_taken step d 5 refl (λ n. record l { dropped_attributes_count = n; flags = 0; unknown = [] }) l.dropped_attributes_count typed.dropped_attributes_count refl)
    (then (some_four_taken step d 6 refl (λ n. record l { flags = n; unknown = [] }) l.flags typed.flags (λ bs. refl))
    (kept_taken link_known keep_link room (λ u. record l { unknown = u }) (λ u x. refl) l.unknown nested.unknown))))))) short

-- ---- a span, in the four parts of its text

-- with its ids and names alone
named : SpanData → SpanData
named s = record no_span { trace_id = s.trace_id; span_id = s.span_id; trace_state = s.trace_state; parent_span_id = s.parent_span_id; name = s.name }

-- and its kind and times
timed : SpanData → SpanData
timed s = record (named s) { kind = s.kind; start_time_unix_nano = s.start_time_unix_nano; end_time_unix_nano = s.end_time_unix_nano }

-- and its lists
listed : SpanData → SpanData
listed s = record s { status = None; flags = 0; unknown = [] }

names_taken : (room : ℕ) (s : SpanData) → TypedSpan s → Taken (span_step room) (100 - room) no_span (span_names_text s) (named s)
unfolding named
names_taken room s typed =
    let step = span_step room in let d = 100 - room in
    then (some_bytes_taken step d 1 refl (λ bs. record no_span { trace_id = bs }) s.trace_id refl)
    (then (some_bytes_taken step d 2 refl (λ bs. record no_span { trace_id = s.trace_id; span_id = bs }) s.span_id refl)
    (then (some_string_taken step d 3 refl (λ bs. record no_span { trace_id = s.trace_id; span_id = s.span_id; trace_state = bs }) s.trace_state typed.trace_state refl)
    (then (some_bytes_taken step d 4 refl (λ bs. record (named s) { parent_span_id = bs; name = [] }) s.parent_span_id refl)
    (some_string_taken step d 5 refl (λ bs. record (named s) { name = bs }) s.name typed.name refl))))

times_taken : (room : ℕ) (s : SpanData) → TypedSpan s → Taken (span_step room) (100 - room) (named s) (span_times_text s) (timed s)
unfolding named timed
times_taken room s typed =
    let step = span_step room in let d = 100 - room in
    then (some_int32_taken step d 6 refl (λ z. record (named s) { kind = z }) s.kind typed.kind (λ x. refl))
    (then (some_eight_taken step d 7 refl (λ n. record (named s) { kind = s.kind; start_time_unix_nano = n }) s.start_time_unix_nano typed.start_time_unix_nano (λ bs. refl))
    (some_eight_taken step d 8 refl (λ n. record (timed s) { end_time_unix_nano = n }) s.end_time_unix_nano typed.end_time_unix_nano (λ bs. refl)))

lists_taken : (room : ℕ) (s : SpanData) → TypedSpan s → InSpan room s → Taken (span_step room) (100 - room) (timed s) (span_lists_text s) (listed s)
unfolding named timed listed
lists_taken room s typed nested =
    let step = span_step room in let d = 100 - room in
    then (attributes_taken step d 9 room refl (λ l. record (timed s) { attributes = l }) s.attributes typed.attributes nested.attributes (λ l bs. refl))
    (then (some_uint32_taken step d 10 refl (λ n. record (timed s) { attributes = s.attributes; dropped_attributes_count = n }) s.dropped_attributes_count typed.dropped_attributes_count refl)
    (then (repeated_taken step d 11 refl (read_with event_step room no_event) event_text TypedEvent (NestedEvent room) (event_back room) (λ l. record (listed s) { events = l; dropped_events_count = 0; links = []; dropped_links_count = 0 }) s.events typed.events nested.events (λ l bs. refl))
    (then (some_uint32_taken step d 12 refl (λ n. record (listed s) { dropped_events_count = n; links = []; dropped_links_count = 0 }) s.dropped_events_count typed.dropped_events_count refl)
    (then (repeated_taken step d 13 refl (read_with link_step room no_link) link_text TypedLink (NestedLink room) (link_back room) (λ l. record (listed s) { links = l; dropped_links_count = 0 }) s.links typed.links nested.links (λ l bs. refl))
    (some_uint32_taken step d 14 refl (λ n. record (listed s) { dropped_links_count = n }) s.dropped_links_count typed.dropped_links_count refl)))))

end_taken : (room : ℕ) (s : SpanData) → TypedSpan s → InSpan room s → Taken (span_step room) (100 - room) (listed s) (span_end_text s) s
unfolding listed
end_taken room s typed nested =
    let step = span_step room in let d = 100 - room in
    then (embedded_taken step d 15 refl (read_with status_step room no_status) status_text TypedStatus (NestedStatus room) (status_back room) (λ o. record (listed s) { status = o }) s.status typed.status nested.status (λ bs. refl))
    (then (some_four_taken step d 16 refl (λ n. record s { flags = n; unknown = [] }) s.flags typed.flags (λ bs. refl))
    (kept_taken span_known keep_span room (λ u. record s { unknown = u }) (λ u x. refl) s.unknown nested.unknown))

pub span_back : (room : ℕ) → Back (read_with span_step room no_span) span_text TypedSpan (NestedSpan room)
span_back zero s typed nested short = absurd nested
span_back (suc room) s typed nested short =
    opened_at span_step room no_span (span_text s)
    ∙ whole (then (names_taken room s typed) (then (times_taken room s typed) (then (lists_taken room s typed nested) (end_taken room s typed nested)))) short

-- ---- spans by scope and resource

scope_spans_back : (room : ℕ) → Back (read_with scope_spans_step room no_scope_spans) scope_spans_text TypedScopeSpans (NestedScopeSpans room)
scope_spans_back zero s typed nested short = absurd nested
scope_spans_back (suc room) s typed nested short =
    let step = scope_spans_step room in let d = 100 - room in
    opened_at scope_spans_step room no_scope_spans (scope_spans_text s)
    ∙ whole (then (embedded_taken step d 1 refl (read_with scope_step room no_scope) scope_text TypedScope (NestedScope room) (scope_back room) (λ o. record no_scope_spans { scope = o }) s.scope typed.scope nested.scope (λ bs. refl))
    (then (repeated_taken step d 2 refl (read_with span_step room no_span) span_text TypedSpan (NestedSpan room) (span_back room) (λ l. record s { spans = l; schema_url = [] }) s.spans typed.spans nested.spans (λ l bs. refl))
    (some_string_taken step d 3 refl (λ bs. record s { schema_url = bs }) s.schema_url typed.schema_url refl))) short

resource_spans_back : (room : ℕ) → Back (read_with resource_spans_step room no_resource_spans) resource_spans_text TypedResourceSpans (NestedResourceSpans room)
resource_spans_back zero r typed nested short = absurd nested
resource_spans_back (suc room) r typed nested short =
    let step = resource_spans_step room in let d = 100 - room in
    opened_at resource_spans_step room no_resource_spans (resource_spans_text r)
    ∙ whole (then (embedded_taken step d 1 refl (read_with resource_step room no_resource) resource_text TypedResource (NestedResource room) (resource_back room) (λ o. record no_resource_spans { resource = o }) r.resource typed.resource nested.resource (λ bs. refl))
    (then (repeated_taken step d 2 refl (read_with scope_spans_step room no_scope_spans) scope_spans_text TypedScopeSpans (NestedScopeSpans room) (scope_spans_back room) (λ l. record r { scope_spans = l; schema_url = [] }) r.scope_spans typed.scope_spans nested.scope_spans (λ l bs. refl))
    (some_string_taken step d 3 refl (λ bs. record r { schema_url = bs }) r.schema_url typed.schema_url refl))) short

-- ---- bodies

pub request_back : (r : RequestData) → TypedRequest r → NestedRequest r → Short (request_text r) → walk (request_step 100) 0 no_request (request_text r) ≡ Ok r
request_back r typed nested short =
    whole (repeated_taken (request_step 100) 0 1 refl (read_with resource_spans_step 100 no_resource_spans) resource_spans_text TypedResourceSpans (NestedResourceSpans 100) (resource_spans_back 100) (λ l. record { resource_spans = l }) r.resource_spans typed.resource_spans nested.resource_spans (λ l bs. refl)) short

partial_success_back : (p : PartialSuccessData) → TypedPartialSuccess p → Unit {0} → Short (partial_success_text p) → read_with partial_success_step 100 no_partial_success (partial_success_text p) ≡ Ok p
partial_success_back p typed nested short =
    let step = partial_success_step 99 in
    opened_at partial_success_step 99 no_partial_success (partial_success_text p)
    ∙ whole (then (some_int64_taken step 1 1 refl (λ z. record no_partial_success { rejected_spans = z }) p.rejected_spans typed.rejected_spans (λ x. refl))
    (some_string_taken step 1 2 refl (λ bs. record p { error_message = bs }) p.error_message typed.error_message refl)) short

-- a reply's messages keep nothing
no_limit : {A : Type 0} (o : Option A) → IfSome o (λ x. Unit {0})
no_limit None = tt
no_limit (Some x) = tt

pub response_back : (r : ResponseData) → TypedResponse r → Short (response_text r) → walk (response_step 100) 0 no_response (response_text r) ≡ Ok r
response_back r typed short =
    whole (embedded_taken (response_step 100) 0 1 refl (read_with partial_success_step 100 no_partial_success) partial_success_text TypedPartialSuccess (λ p. Unit {0}) partial_success_back (λ o. record { partial_success = o }) r.partial_success typed.partial_success (no_limit r.partial_success) (λ bs. refl)) short
