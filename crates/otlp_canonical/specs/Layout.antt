-- Messages whose fields may stand in any order, several times, and with what isn't known between them (the Protocol
-- Buffers encoding guide, "Field Order" and "Last One Wins", over the messages of OTLP 1.x's common.proto,
-- resource.proto and trace.proto): what is read of such a message is made of what stands at each place by itself.
use Rattle.std.specs.Prelude.{◌≡◌, ◌==◌, ◌||◌, ◌<◌, ℕ, Bool, true, false, if◌then◌else◌, List, [], ◌∷◌, ◌++◌, length, Option, Some, None, Ok}
use Rattle.std.specs.List.{AllByRecursion}
use Rattle.std.specs.Str.{IsUtf8}
use Rattle.pb_wire.specs.Grammar.{Datum, Varint, Eight, Bytes, Four, Entry}
use Rattle.otlp_trace.specs.Data.{KeyValueData, ResourceData, ScopeData, EventData, LinkData}
use Rattle.otlp_trace.specs.Defaults.{no_resource, no_scope, no_event, no_link}
use Rattle.otlp_read.specs.Numbers.{uint32, fixed32, fixed64}
use Rattle.otlp_read.specs.Value.{with_attribute, resource_step, scope_step, event_step, link_step}
use Rattle.otlp_read.specs.Walk.{◌>>=◌, Step, Piece, Pieces, fold_fields, walk}
use Rattle.otlp_canonical.specs.Anew.{held}

-- what a field of one value holds: bytes, or a number
pub record Held : Type 0 where
  pub bytes : List ℕ
  pub number : ℕ

-- nothing, or what is its default
abbrev pub nothing_held : Held
nothing_held = record { bytes = []; number = 0 }

-- a field's value
abbrev pub held_in : Datum → Held
held_in (Varint x) = record { bytes = []; number = uint32 x }
held_in (Eight bs) = record { bytes = []; number = fixed64 bs }
held_in (Bytes bs) = record { bytes = bs; number = 0 }
held_in (Four bs) = record { bytes = []; number = fixed32 bs }
held_in _ = nothing_held

-- the value is its default
abbrev pub is_nothing : Datum → Bool
is_nothing (Varint x) = x == 0
is_nothing (Eight bs) = fixed64 bs == 0
is_nothing (Bytes bs) = length bs == 0
is_nothing (Four bs) = fixed32 bs == 0
is_nothing _ = false

-- of a field that may be missing
abbrev pub held_by : Option Entry → Held
held_by None = nothing_held
held_by (Some field) = held_in field.value

-- How a message is read, and at which places its fields stand: those of one value, its attributes, and behind all of
-- them those that it doesn't know. What it is that holds this at its places, with these attributes, and keeps that.
pub record Layout (A : Type 0) : Type 0 where
  pub step : ℕ → Step A
  pub none : A
  pub place : ℕ → Datum → ℕ
  pub is_string : ℕ → Bool
  pub attributes : ℕ
  pub unknown : ℕ
  pub made : (ℕ → Held) → List KeyValueData → List ℕ → A

-- where a field stands
abbrev pub place_in : {A : Type 0} → Layout A → Entry → ℕ
place_in l field = l.place field.number field.value

-- a string is UTF-8
abbrev pub sound_in : {A : Type 0} → Layout A → ℕ → Datum → Type 0
sound_in l n (Bytes bs) = l.is_string (l.place n (Bytes bs)) ≡ true → IsUtf8 bs
sound_in l n _ = Unit {0}

-- the same of the whole field
abbrev pub IsSound : {A : Type 0} → Layout A → Entry → Type 0
IsSound l field = sound_in l field.number field.value

-- the last of the fields at one place
abbrev pub held_at : {A : Type 0} → Layout A → ℕ → Step Held
held_at l n h field spelled = Ok (if place_in l field == n then held_in field.value else h)

-- the attributes alone
abbrev pub attributes_at : {A : Type 0} → Layout A → ℕ → Step (List KeyValueData)
attributes_at l room ps field spelled =
    if place_in l field == l.attributes then with_attribute room ps (held field.value) else Ok ps

-- what isn't known
abbrev pub kept_at : {A : Type 0} → Layout A → Step (List ℕ)
kept_at l kept field spelled = Ok (if place_in l field == l.unknown then kept ++ spelled else kept)

-- what stands at the places, with one more field
abbrev pub held_with : {A : Type 0} → Layout A → (ℕ → Held) → Entry → ℕ → Held
held_with l h field n = if place_in l field == n then held_in field.value else h n

-- what isn't known, with one more field
abbrev pub kept_with : {A : Type 0} → Layout A → List ℕ → Entry → List ℕ → List ℕ
kept_with l kept field spelled = if place_in l field == l.unknown then kept ++ spelled else kept

-- A field whose string is UTF-8 makes of a message what it makes of what stands at its place.
pub record LayoutLaws {A : Type 0} (l : Layout A) : Type 0 where
  pub first : l.none ≡ l.made (λ n. nothing_held) [] []
  pub same : (h g : ℕ → Held) (ps : List KeyValueData) (kept : List ℕ)
      → ((n : ℕ) → n < l.unknown → (n == l.attributes) ≡ false → h n ≡ g n) → l.made h ps kept ≡ l.made g ps kept
  pub takes : (room : ℕ) (h : ℕ → Held) (ps : List KeyValueData) (kept : List ℕ) (field : Entry) (spelled : List ℕ)
      → IsSound l field → l.step room (l.made h ps kept) field spelled
      ≡ (attributes_at l room ps field spelled
      >>= λ qs. Ok (l.made (held_with l h field) qs (kept_with l kept field spelled)))
  pub behind : l.attributes < l.unknown
  pub attributes_plain : l.is_string l.attributes ≡ false
  pub unknown_plain : l.is_string l.unknown ≡ false
  pub held_alike : (n : ℕ) (bs cs : List ℕ) → l.place n (Bytes bs) ≡ l.place n (Bytes cs)

-- the text is fields, whose strings are UTF-8
pub record AreSound {A : Type 0} (l : Layout A) (d : ℕ) (text : List ℕ) : Type 0 where
  pub pieces : List Piece
  pub are : Pieces d text pieces
  pub sound : AllByRecursion (λ p. IsSound l p.field) pieces

-- the last of the fields of a list at one place, behind one that stood there before
abbrev pub last_at : {A : Type 0} → Layout A → ℕ → Held → List Piece → Held
last_at l n h [] = h
last_at l n h (p ∷ ps) = last_at l n (if place_in l p.field == n then held_in p.field.value else h) ps

-- those of them that aren't known, as they are spelled
abbrev pub kept_in : {A : Type 0} → Layout A → List ℕ → List Piece → List ℕ
kept_in l kept [] = kept
kept_in l kept (p ∷ ps) = kept_in l (if place_in l p.field == l.unknown then kept ++ p.spelled else kept) ps

-- behind what stood there, fields of one place that make of it what all of the text's make
pub record PlacePut {A : Type 0} (l : Layout A) (room d n : ℕ) (text old new : List ℕ) : Type 0 where
  pub put : List ℕ
  pub copied : new ≡ old ++ put
  pub pieces : List Piece
  pub are : Pieces d put pieces
  pub sound : AllByRecursion (λ p. IsSound l p.field) pieces
  pub at : AllByRecursion (λ p. place_in l p.field ≡ n) pieces
  pub last : (n == l.attributes) ≡ false → walk (held_at l n) d nothing_held text ≡ Ok (last_at l n nothing_held pieces)
  pub attributes : (n == l.attributes) ≡ true
      → walk (attributes_at l room) d [] text ≡ fold_fields (attributes_at l room) [] pieces

-- behind what stood there, the text's fields that aren't known
pub record KeptPut {A : Type 0} (l : Layout A) (d : ℕ) (text old new : List ℕ) : Type 0 where
  pub put : List ℕ
  pub copied : new ≡ old ++ put
  pub pieces : List Piece
  pub are : Pieces d put pieces
  pub at : AllByRecursion (λ p. place_in l p.field ≡ l.unknown) pieces
  pub kept : walk (kept_at l) d [] text ≡ Ok (kept_in l [] pieces)

-- ---- a resource

-- where fields of a resource stand
abbrev pub resource_place : ℕ → Datum → ℕ
resource_place n (Bytes bs) = if n == 1 then 0 else 2
resource_place n (Varint x) = if n == 2 then 1 else 2
resource_place n _ = 2

-- what is read of a resource
abbrev pub resource_layout : Layout ResourceData
resource_layout = record {
  step = resource_step;
  none = no_resource;
  place = resource_place;
  is_string = λ p. false;
  attributes = 0;
  unknown = 2;
  made = λ h ps kept. record { attributes = ps; dropped_attributes_count = (h 1).number; unknown = kept };
}

-- ---- an instrumentation scope

-- where fields of a scope stand
abbrev pub scope_place : ℕ → Datum → ℕ
scope_place n (Bytes bs) = if n == 1 then 0 else if n == 2 then 1 else if n == 3 then 2 else 4
scope_place n (Varint x) = if n == 4 then 3 else 4
scope_place n _ = 4

-- what is read of a scope
abbrev pub scope_layout : Layout ScopeData
scope_layout = record {
  step = scope_step;
  none = no_scope;
  place = scope_place;
  is_string = λ p. p == 0 || p == 1;
  attributes = 2;
  unknown = 4;
  made = λ h ps kept. record {
    name = (h 0).bytes;
    version = (h 1).bytes;
    attributes = ps;
    dropped_attributes_count = (h 3).number;
    unknown = kept;
  };
}

-- ---- an event

-- where fields of an event stand
abbrev pub event_place : ℕ → Datum → ℕ
event_place n (Eight bs) = if n == 1 then 0 else 4
event_place n (Bytes bs) = if n == 2 then 1 else if n == 3 then 2 else 4
event_place n (Varint x) = if n == 4 then 3 else 4
event_place n _ = 4

-- what is read of an event
abbrev pub event_layout : Layout EventData
event_layout = record {
  step = event_step;
  none = no_event;
  place = event_place;
  is_string = λ p. p == 1;
  attributes = 2;
  unknown = 4;
  made = λ h ps kept. record {
    time_unix_nano = (h 0).number;
    name = (h 1).bytes;
    attributes = ps;
    dropped_attributes_count = (h 3).number;
    unknown = kept;
  };
}

-- ---- a link

-- where fields of a link stand
abbrev pub link_place : ℕ → Datum → ℕ
link_place n (Bytes bs) =
    if n == 1 then 0 else if n == 2 then 1 else if n == 3 then 2 else if n == 4 then 3 else 6
link_place n (Varint x) = if n == 5 then 4 else 6
link_place n (Four bs) = if n == 6 then 5 else 6
link_place n _ = 6

-- what is read of a link
abbrev pub link_layout : Layout LinkData
link_layout = record {
  step = link_step;
  none = no_link;
  place = link_place;
  is_string = λ p. p == 2;
  attributes = 3;
  unknown = 6;
  made = λ h ps kept. record {
    trace_id = (h 0).bytes;
    span_id = (h 1).bytes;
    trace_state = (h 2).bytes;
    attributes = ps;
    dropped_attributes_count = (h 4).number;
    flags = (h 5).number;
    unknown = kept;
  };
}
