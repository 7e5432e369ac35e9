-- Resources, scopes, events and links are made of what stands at each of their places.
use Rattle.std.proofs.Common.{◌≡◌, ◌==◌, ◌<◌, ℕ, false, List, Ok, refl, ap, ◌∙◌, arith}
use Rattle.pb_wire.specs.Grammar.{Datum, Varint, Eight, Bytes, Four, Group}
use Rattle.otlp_trace.specs.Data.{KeyValueData}
use Rattle.otlp_trace.specs.Defaults.{no_resource, no_scope, no_event, no_link}
use Rattle.otlp_read.specs.Walk.{◌>>=◌, numbered}
use Rattle.otlp_read.proofs.Leaves.{utf8_yes}
use Rattle.otlp_read.proofs.Sound.{by_test}
use Rattle.otlp_canonical.specs.Layout.{Held, Layout, IsSound, attributes_at, held_with, kept_with, LayoutLaws, resource_layout, scope_layout, event_layout, link_layout}

-- what the field of this number and value makes
abbrev Takes : {A : Type 0} → Layout A → ℕ → (ℕ → Held) → List KeyValueData → List ℕ → ℕ → Datum → List ℕ → Type 0
Takes l room h ps kept n v spelled =
    l.step room (l.made h ps kept) (numbered n v) spelled ≡ (attributes_at l room ps (numbered n v) spelled >>= λ qs. Ok (l.made (held_with l h (numbered n v)) qs (kept_with l kept (numbered n v) spelled)))

-- ---- a resource

resource_takes : (room : ℕ) (h : ℕ → Held) (ps : List KeyValueData) (kept : List ℕ) (n : ℕ) (v : Datum) (spelled : List ℕ) → IsSound resource_layout (numbered n v) → Takes resource_layout room h ps kept n v spelled
resource_takes room h ps kept n (Varint x) spelled sound = by_test (n == 2) (λ e. rw e refl) (λ e. rw e refl)
resource_takes room h ps kept n (Bytes bs) spelled sound = by_test (n == 1) (λ e. rw e refl) (λ e. rw e refl)
resource_takes room h ps kept n (Eight bs) spelled sound = refl
resource_takes room h ps kept n (Four bs) spelled sound = refl
resource_takes room h ps kept n (Group bs) spelled sound = refl

resource_same : (h g : ℕ → Held) (ps : List KeyValueData) (kept : List ℕ) → ((n : ℕ) → n < 2 → (n == 0) ≡ false → h n ≡ g n) → resource_layout.made h ps kept ≡ resource_layout.made g ps kept
resource_same h g ps kept same =
    let one : h 1 ≡ g 1 = same 1 (omega arith) refl in
    ap (λ (x : Held). record no_resource { attributes = ps; dropped_attributes_count = x.number; unknown = kept }) one

pub resource_laid_out : LayoutLaws resource_layout
resource_laid_out = record {
  first = refl;
  same = resource_same;
  takes = λ room h ps kept field spelled sound. resource_takes room h ps kept field.number field.value spelled sound;
  behind = omega arith;
  attributes_plain = refl;
  unknown_plain = refl;
  held_alike = λ n bs cs. refl;
}

-- ---- an instrumentation scope

scope_takes : (room : ℕ) (h : ℕ → Held) (ps : List KeyValueData) (kept : List ℕ) (n : ℕ) (v : Datum) (spelled : List ℕ) → IsSound scope_layout (numbered n v) → Takes scope_layout room h ps kept n v spelled
scope_takes room h ps kept n (Varint x) spelled sound = by_test (n == 4) (λ e. rw e refl) (λ e. rw e refl)
scope_takes room h ps kept n (Bytes bs) spelled sound =
    by_test (n == 1) (λ e. let is = utf8_yes bs (sound (rw e refl)) in rw e (rw is refl)) λ e1.
    by_test (n == 2) (λ e. let is = utf8_yes bs (sound (rw (e1, e) refl)) in rw (e1, e) (rw is refl)) λ e2.
    by_test (n == 3) (λ e. rw (e1, e2, e) refl) λ e3. rw (e1, e2, e3) refl
scope_takes room h ps kept n (Eight bs) spelled sound = refl
scope_takes room h ps kept n (Four bs) spelled sound = refl
scope_takes room h ps kept n (Group bs) spelled sound = refl

scope_same : (h g : ℕ → Held) (ps : List KeyValueData) (kept : List ℕ) → ((n : ℕ) → n < 4 → (n == 2) ≡ false → h n ≡ g n) → scope_layout.made h ps kept ≡ scope_layout.made g ps kept
scope_same h g ps kept same =
    let zero : h 0 ≡ g 0 = same 0 (omega arith) refl in
    let one : h 1 ≡ g 1 = same 1 (omega arith) refl in
    let three : h 3 ≡ g 3 = same 3 (omega arith) refl in
    ap (λ (x : Held). record no_scope { name = x.bytes; version = (h 1).bytes; attributes = ps; dropped_attributes_count = (h 3).number; unknown = kept }) zero
    ∙ ap (λ (x : Held). record no_scope { name = (g 0).bytes; version = x.bytes; attributes = ps; dropped_attributes_count = (h 3).number; unknown = kept }) one
    ∙ ap (λ (x : Held). record no_scope { name = (g 0).bytes; version = (g 1).bytes; attributes = ps; dropped_attributes_count = x.number; unknown = kept }) three

pub scope_laid_out : LayoutLaws scope_layout
scope_laid_out = record {
  first = refl;
  same = scope_same;
  takes = λ room h ps kept field spelled sound. scope_takes room h ps kept field.number field.value spelled sound;
  behind = omega arith;
  attributes_plain = refl;
  unknown_plain = refl;
  held_alike = λ n bs cs. refl;
}

-- ---- an event

event_takes : (room : ℕ) (h : ℕ → Held) (ps : List KeyValueData) (kept : List ℕ) (n : ℕ) (v : Datum) (spelled : List ℕ) → IsSound event_layout (numbered n v) → Takes event_layout room h ps kept n v spelled
event_takes room h ps kept n (Varint x) spelled sound = by_test (n == 4) (λ e. rw e refl) (λ e. rw e refl)
event_takes room h ps kept n (Eight bs) spelled sound = by_test (n == 1) (λ e. rw e refl) (λ e. rw e refl)
event_takes room h ps kept n (Bytes bs) spelled sound =
    by_test (n == 2) (λ e. let is = utf8_yes bs (sound (rw e refl)) in rw e (rw is refl)) λ e2.
    by_test (n == 3) (λ e. rw (e2, e) refl) λ e3. rw (e2, e3) refl
event_takes room h ps kept n (Four bs) spelled sound = refl
event_takes room h ps kept n (Group bs) spelled sound = refl

event_same : (h g : ℕ → Held) (ps : List KeyValueData) (kept : List ℕ) → ((n : ℕ) → n < 4 → (n == 2) ≡ false → h n ≡ g n) → event_layout.made h ps kept ≡ event_layout.made g ps kept
event_same h g ps kept same =
    let zero : h 0 ≡ g 0 = same 0 (omega arith) refl in
    let one : h 1 ≡ g 1 = same 1 (omega arith) refl in
    let three : h 3 ≡ g 3 = same 3 (omega arith) refl in
    ap (λ (x : Held). record no_event { time_unix_nano = x.number; name = (h 1).bytes; attributes = ps; dropped_attributes_count = (h 3).number; unknown = kept }) zero
    ∙ ap (λ (x : Held). record no_event { time_unix_nano = (g 0).number; name = x.bytes; attributes = ps; dropped_attributes_count = (h 3).number; unknown = kept }) one
    ∙ ap (λ (x : Held). record no_event { time_unix_nano = (g 0).number; name = (g 1).bytes; attributes = ps; dropped_attributes_count = x.number; unknown = kept }) three

pub event_laid_out : LayoutLaws event_layout
event_laid_out = record {
  first = refl;
  same = event_same;
  takes = λ room h ps kept field spelled sound. event_takes room h ps kept field.number field.value spelled sound;
  behind = omega arith;
  attributes_plain = refl;
  unknown_plain = refl;
  held_alike = λ n bs cs. refl;
}

-- ---- a link

link_takes : (room : ℕ) (h : ℕ → Held) (ps : List KeyValueData) (kept : List ℕ) (n : ℕ) (v : Datum) (spelled : List ℕ) → IsSound link_layout (numbered n v) → Takes link_layout room h ps kept n v spelled
link_takes room h ps kept n (Varint x) spelled sound = by_test (n == 5) (λ e. rw e refl) (λ e. rw e refl)
link_takes room h ps kept n (Four bs) spelled sound = by_test (n == 6) (λ e. rw e refl) (λ e. rw e refl)
link_takes room h ps kept n (Bytes bs) spelled sound =
    by_test (n == 1) (λ e. rw e refl) λ e1.
    by_test (n == 2) (λ e. rw (e1, e) refl) λ e2.
    by_test (n == 3) (λ e. let is = utf8_yes bs (sound (rw (e1, e2, e) refl)) in rw (e1, e2, e) (rw is refl)) λ e3.
    by_test (n == 4) (λ e. rw (e1, e2, e3, e) refl) λ e4. rw (e1, e2, e3, e4) refl
link_takes room h ps kept n (Eight bs) spelled sound = refl
link_takes room h ps kept n (Group bs) spelled sound = refl

link_same : (h g : ℕ → Held) (ps : List KeyValueData) (kept : List ℕ) → ((n : ℕ) → n < 6 → (n == 3) ≡ false → h n ≡ g n) → link_layout.made h ps kept ≡ link_layout.made g ps kept
link_same h g ps kept same =
    let zero : h 0 ≡ g 0 = same 0 (omega arith) refl in
    let one : h 1 ≡ g 1 = same 1 (omega arith) refl in
    let two : h 2 ≡ g 2 = same 2 (omega arith) refl in
    let four : h 4 ≡ g 4 = same 4 (omega arith) refl in
    let five : h 5 ≡ g 5 = same 5 (omega arith) refl in
    ap (λ (x : Held). record no_link { trace_id = x.bytes; span_id = (h 1).bytes; trace_state = (h 2).bytes; attributes = ps; dropped_attributes_count = (h 4).number; flags = (h 5).number; unknown = kept }) zero
    ∙ ap (λ (x : Held). record no_link { trace_id = (g 0).bytes; span_id = x.bytes; trace_state = (h 2).bytes; attributes = ps; dropped_attributes_count = (h 4).number; flags = (h 5).number; unknown = kept }) one
    ∙ ap (λ (x : Held). record no_link { trace_id = (g 0).bytes; span_id = (g 1).bytes; trace_state = x.bytes; attributes = ps; dropped_attributes_count = (h 4).number; flags = (h 5).number; unknown = kept }) two
    ∙ ap (λ (x : Held). record no_link { trace_id = (g 0).bytes; span_id = (g 1).bytes; trace_state = (g 2).bytes; attributes = ps; dropped_attributes_count = x.number; flags = (h 5).number; unknown = kept }) four
    ∙ ap (λ (x : Held). record no_link { trace_id = (g 0).bytes; span_id = (g 1).bytes; trace_state = (g 2).bytes; attributes = ps; dropped_attributes_count = (g 4).number; flags = x.number; unknown = kept }) five

pub link_laid_out : LayoutLaws link_layout
link_laid_out = record {
  first = refl;
  same = link_same;
  takes = λ room h ps kept field spelled sound. link_takes room h ps kept field.number field.value spelled sound;
  behind = omega arith;
  attributes_plain = refl;
  unknown_plain = refl;
  held_alike = λ n bs cs. refl;
}
