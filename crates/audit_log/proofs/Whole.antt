-- A body that is packed is the body.
use Rattle.std.proofs.Common.{◌≡◌, ℕ, ◌≤◌, List, length, map, flat_map, ap, ◌∙◌, sym, subst, arith}
use Rattle.tail_settings.specs.Policy.{PolicyData}
use Rattle.tenant_rules.specs.Arrivals.{Arrival}
use Rattle.prepared_body.specs.declared.noted.NotedSpan.{NotedSpan}
use Rattle.prepared_body.specs.Origin.{OriginTexts}
use Rattle.prepared_body.specs.Arrivals.{AreGrouped, arrivals_in}
use Rattle.prepared_body.specs.Prepared.{PreparedData, AreReady}
use Rattle.audit_log.specs.declared.body.PackedSpan.{PackedSpan}
use Rattle.audit_log.specs.Bodies.{without_text, spans_from, texts_size}
use Rattle.audit_log.specs.Origins.{around}
use Rattle.audit_log.proofs.Around.{arrivals_are, are_grouped, are_ready, as_few}
use Rattle.audit_log.proofs.Spans.{text_in, all_from, all_fit}

-- the same by its parts
pub same_body : (p : PreparedData) (tenant invalid : ℕ) (policies : List PolicyData) (arrivals : List Arrival) → tenant ≡ p.tenant → policies ≡ p.policies → arrivals ≡ p.arrivals → invalid ≡ p.invalid
    → Path PreparedData (record { tenant = tenant; policies = policies; arrivals = arrivals; invalid = invalid }) p
same_body p tenant invalid policies arrivals of under are out =
    ap (λ (n : ℕ). record { tenant = n; policies = policies; arrivals = arrivals; invalid = invalid }) of
    ∙ (ap (λ (ps : List PolicyData). record { tenant = p.tenant; policies = ps; arrivals = arrivals; invalid = invalid }) under
    ∙ (ap (λ (xs : List Arrival). record { tenant = p.tenant; policies = p.policies; arrivals = xs; invalid = invalid }) are
    ∙ ap (λ (n : ℕ). record { tenant = p.tenant; policies = p.policies; arrivals = p.arrivals; invalid = n }) out))

module _ (origins copies : List OriginTexts) (noted : List NotedSpan) (texts : List ℕ) (packed : List PackedSpan)
    (same : map around copies ≡ map around origins) (texts_are : texts ≡ flat_map text_in noted) (packed_are : packed ≡ map without_text noted)
  where
    -- the spans are whole
    whole : spans_from texts packed ≡ noted
    whole = ap (λ (bs : List ℕ). spans_from bs packed) texts_are ∙ (ap (λ (ss : List PackedSpan). spans_from (flat_map text_in noted) ss) packed_are ∙ all_from noted)

    -- and arrive as they did
    pub all_arrive : arrivals_in copies (spans_from texts packed) ≡ arrivals_in origins noted
    all_arrive = ap (λ (ss : List NotedSpan). arrivals_in copies ss) whole ∙ arrivals_are copies origins same noted

    -- and are ready as they were
    pub all_ready : (policies own : List PolicyData) → own ≡ policies → AreReady policies origins noted → length origins ≤ length noted → AreGrouped origins
        → AreReady own copies (spans_from texts packed) × (length copies ≤ length (spans_from texts packed)) × AreGrouped copies × (texts_size packed ≤ length texts)
    all_ready policies own under ready few grouped =
        let size : texts_size packed ≡ length texts = ap texts_size packed_are ∙ (all_fit noted ∙ ap (λ (bs : List ℕ). length bs) (sym texts_are)) in (
          subst (λ (ps : List PolicyData). AreReady ps copies (spans_from texts packed)) (sym under)
              (subst (λ (ss : List NotedSpan). AreReady policies copies ss) (sym whole) (are_ready copies origins same policies noted ready)),
          subst (λ (ss : List NotedSpan). length copies ≤ length ss) (sym whole) (as_few copies origins same (length noted) few),
          are_grouped copies origins same grouped,
          omega (arith, size),
        )
