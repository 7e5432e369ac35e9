-- The ids of a span that its canonical text tells.
use Rattle.std.proofs.Common.{◌≡◌, ◌<◌, ◌^◌, ◌==◌, ◌++◌, ◌∷◌, ℕ, Bool, true, false, ◌&&◌, List, [], length, Option, None, IfSome, option_map, refl, sym, ap, subst, ◌∙◌}
use Rattle.std.proofs.lemmas.List.Folds.{list_all-append}
use Rattle.std.proofs.Math.Bool.{and-false}
use Rattle.std.specs.List.{list_all}
use Rattle.otlp_trace.specs.Data.{SpanData, ResourceData}
use Rattle.otlp_trace.specs.Text.{span_text, resource_text}
use Rattle.otlp_trace.specs.Defaults.{no_span}
use Rattle.otlp_canonical.specs.Canonical.{CanonicalSpan}
use Rattle.span_view.specs.Facts.{AreText, facts}
use Rattle.span_view.specs.Reading.{facts_of}
use Rattle.span_pool.specs.Ids.{is_id}
use Rattle.span_pool.specs.Read.{IsReadSpan, IsReadResource}
use Rattle.span_pool.specs.Stored.{bytes_of}
use Rattle.otlp_parts.specs.ReadAs.{span_in, span_of}
use Rattle.otlp_parts.specs.Texts.{is_valid_span}
use Rattle.otlp_parts.proofs.Values.{of_value}

is_read : (text : List ℕ) (of : CanonicalSpan 98 text) → length text < 2 ^ 64 → IsReadSpan of.value
is_read text of short = record { typed = of.typed; room = 98; nested = of.nested; short = subst (λ (t : List ℕ). length t < 2 ^ 64) (sym of.written) short }

pub viewed : (text : List ℕ) (of : CanonicalSpan 98 text) → length text < 2 ^ 64
    → ((s : SpanData) (r : Option ResourceData) → IsReadSpan s → IfSome r IsReadResource → facts_of (span_text s) (bytes_of (option_map resource_text r)) ≡ facts s r)
    → facts_of text [] ≡ facts (span_of text) None
viewed text of short law =
    let told : facts_of (span_text of.value) [] ≡ facts of.value None = law of.value None (is_read text of short) tt in
    ap (λ (t : List ℕ). facts_of t []) (sym of.written) ∙ told ∙ ap (λ (s : SpanData). facts s None) (sym (of_value no_span of.value (span_in text) of.read))

pub viewable : (text : List ℕ) (of : CanonicalSpan 98 text) → length text < 2 ^ 64
    → ((s : SpanData) (r : Option ResourceData) → IsReadSpan s → IfSome r IsReadResource → AreText (facts_of (span_text s) (bytes_of (option_map resource_text r))).attributes)
    → AreText (facts_of text []).attributes
viewable text of short law = subst (λ (t : List ℕ). AreText (facts_of t []).attributes) of.written (law of.value None (is_read text of short) tt)

both_ids : (x : SpanData) (t s : List ℕ) → t ≡ x.trace_id → s ≡ x.span_id → (is_id 16 t && is_id 8 s) ≡ is_valid_span x
both_ids x t s trace span = ap (λ (l : List ℕ). is_id 16 l && is_id 8 s) trace ∙ ap (λ (l : List ℕ). is_id 16 x.trace_id && is_id 8 l) span

pub valid_then : (x : SpanData) (t s : List ℕ) (b : Bool) → t ≡ x.trace_id → s ≡ x.span_id → true ≡ is_id 16 t → b ≡ is_id 8 s → b ≡ is_valid_span x
valid_then x t s b trace span first second = second ∙ ap (λ (a : Bool). a && is_id 8 s) first ∙ both_ids x t s trace span

pub valid_else : (x : SpanData) (t : List ℕ) (b : Bool) → t ≡ x.trace_id → b ≡ false → false ≡ is_id 16 t → b ≡ is_valid_span x
valid_else x t b trace none first = none ∙ ap (λ (a : Bool). a && is_id 8 x.span_id) first ∙ both_ids x t x.span_id trace refl

-- bytes of which the last isn't zero
pub ends_otherwise : (xs rest : List ℕ) (x : ℕ) → xs ≡ rest ++ (x ∷ []) → (x == 0) ≡ false → false ≡ list_all (λ byte. byte == 0) xs
ends_otherwise xs rest x is not =
    let last : list_all (λ (byte : ℕ). byte == 0) (x ∷ []) ≡ false = ap (λ (b : Bool). b && true) not in
    sym (ap (list_all (λ byte. byte == 0)) is ∙ list_all-append (λ byte. byte == 0) rest (x ∷ [])
    ∙ ap (λ (b : Bool). list_all (λ byte. byte == 0) rest && b) last ∙ and-false (list_all (λ byte. byte == 0) rest))
