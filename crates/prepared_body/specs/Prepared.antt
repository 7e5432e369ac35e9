-- A body that was read, for a tenant, and when its spans are ready. This project's own rule.
use Rattle.std.specs.Prelude.{◌≡◌, ◌<◌, ◌^◌, ℕ, true, List, length}
use Rattle.std.specs.List.{AllByRecursion}
use Rattle.tail_settings.specs.Policy.{PolicyData}
use Rattle.tail_policy.specs.Note.{note_of}
use Rattle.tenant_rules.specs.Arrivals.{Arrival, is_valid, trace_of}
use Rattle.prepared_body.specs.Origin.{OriginTexts}
use Rattle.prepared_body.specs.declared.noted.NotedSpan.{NotedSpan}
use Rattle.prepared_body.specs.Arrivals.{arrival_in, IsGrouped}

-- a body that was read: whose it is, the policies that its tenant had then, its valid spans, and how many of its spans
-- aren't valid. The notes of its spans follow from it
pub record PreparedData : Type 0 where
  pub tenant : ℕ
  pub policies : List PolicyData
  pub arrivals : List Arrival
  pub invalid : ℕ

-- a span is valid, its origin is one of these, with the resource of the others of its resource spans, and its note is
-- that of the span with its resource for these policies
pub record IsReady (policies : List PolicyData) (origins : List OriginTexts) (span : NotedSpan) : Type 0 where
  pub note : span.note ≡ note_of policies (arrival_in origins span).facts
  pub trace : span.trace ≡ trace_of (arrival_in origins span)
  pub valid : is_valid (arrival_in origins span) ≡ true
  pub within : span.origin < length origins
  pub grouped : IsGrouped origins span.origin
  pub short : length span.text < 2 ^ 64

-- each of them is
abbrev pub AreReady : List PolicyData → List OriginTexts → List NotedSpan → Type 0
AreReady policies origins spans = AllByRecursion (IsReady policies origins) spans
