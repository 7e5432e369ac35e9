use Rattle.std.proofs.Common.{◌≡◌, ◌∙◌, false, sym, ap, refl, rules, w32}
use Rattle.std.specs.Int.RustNames.{FitsSigned}
use Rattle.std.proofs.lemmas.Int.{to_z-of_z}
use Rattle.std.specs.Prelude.{bit_or}
use Rattle.span_view.specs.Fields.{attributes_told}
use Rattle.tail_policy.specs.declared.tally.SpanFacts.{SpanFacts}
use Rattle.tail_policy.specs.Asks.{ask_attributes, status_bits_of, bits_at}
use Rattle.tail_policy.specs.Note.{leaves_in, bits_of, status, fact_meets, attributes_meet, span_meets, note_of}
use Rattle.tail_policy.proofs.Asked.{listed_is, status_alone}
use Rattle.tail_policy.proofs.Joined.{met_is}
use Rattle.tail_policy.proofs.tenant.TenantPoliciesPolicy.note.Goals as goal

pub returns-then-not-self : goal.returns-then-not-self
unfolding note_of
returns-then-not-self c =
    let span = c.args.span.now in
    let none : ask_attributes c.args.self.now ≡ false =
    ap (λ ps. ask_attributes ps) (sym c.self.view_is) ∙ sym c.self.invariant.asked ∙ c.if-not-self.true in
    let met : c.of_span-start.result.2 ≡ bits_of (span_meets span) (leaves_in c.args.self.now) =
    c.of_span-start.ensures.bits
    ∙ ap (λ s. bits_at s span.status) (c.self.invariant.by_status ∙ ap status_bits_of c.self.view_is)
    ∙ status_alone c.args.self.now span none in
    c.new.ensures ∙ rw (met, c.of_span-start.ensures.start, c.of_span-start.ensures.end) refl

pub returns : goal.returns
unfolding note_of
returns c =
    let span = c.args.span.now in
    let ls = leaves_in c.args.self.now in
    let told = c.tally-met.ensures in
    let code : c.tally-met.result.status ≡ span.status = ap (λ (t : SpanFacts). t.status) told ∙ c.fields.ensures.status in
    let fits : FitsSigned w32 c.tally-met.result.status = search rules in
    let listed = simp to_z-of_z at c.at.ensures in
    let by_status : c.at.result ≡ bits_of (fact_meets (status span.status)) ls =
    listed
    ∙ ap (λ z. bits_at c.self.inside.statuses z) code
    ∙ ap (λ s. bits_at s span.status) (c.self.invariant.by_status ∙ ap status_bits_of c.self.view_is)
    ∙ listed_is c.args.self.now span.status in
    let by_attributes : c.tally-met.result.met ≡ bits_of (attributes_meet span.attributes) ls =
    ap (λ (t : SpanFacts). t.met) told
    ∙ ap (λ ps. bits_of (attributes_meet (attributes_told c.fields.result)) (leaves_in ps)) c.self.view_is
    ∙ ap (λ xs. bits_of (attributes_meet xs) ls) c.fields.ensures.attributes in
    let met : bit_or c.at.result c.tally-met.result.met ≡ bits_of (span_meets span) ls =
    ap (λ n. bit_or n c.tally-met.result.met) by_status ∙ ap (bit_or (bits_of (fact_meets (status span.status)) ls)) by_attributes ∙ met_is span ls in
    let first : c.tally-met.result.start ≡ span.start_time_unix_nano = ap (λ (t : SpanFacts). t.start) told ∙ c.fields.ensures.start in
    let last : c.tally-met.result.end ≡ span.end_time_unix_nano = ap (λ (t : SpanFacts). t.end) told ∙ c.fields.ensures.end in
    c.new-2.ensures ∙ rw (met, first, last) refl
