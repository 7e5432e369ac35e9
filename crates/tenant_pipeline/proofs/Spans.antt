-- Spans at keys, as they arrived, and batches of them.
use Rattle.std.proofs.Common.{◌≡◌, ◌≢◌, ◌++◌, ◌∙◌, ℕ, List, [], ◌∷◌, length, map, refl, sym, ap, arith, Bool, true, false, cond, eqb, Option, Some, None, append_assoc}
use Rattle.std.proofs.lemmas.Bool.Decides.{nat_tests}
use Rattle.std.proofs.lemmas.List.{length-map, map-append}
use Rattle.span_batcher.specs.Batches.{Rules, Batch}
use Rattle.span_batcher.specs.Machine.{cuts, uncut}
use Rattle.span_batcher.specs.Maps.{mapped, spans_of}
use Rattle.span_batcher.specs.ExportText as batches
use Rattle.span_batcher.proofs.Maps.{cuts-whole}
use Rattle.span_pool.specs.Stored.{StoredData, SpanTexts, texts_of as keyed_texts}
use Rattle.span_pool.specs.Pool.{owned}
use Rattle.tail_policy.specs.declared.note.TraceNote.{TraceNote}
use Rattle.text_pool.specs.declared.pool.CountedText.{CountedText}
use Rattle.std.specs.Borrow.{Bor}
use Rattle.slab.specs.Slab.{Slab, get}
use Rattle.text_pool.specs.Part.{text_of}
use Rattle.text_pool.specs.Part as texts
use Rattle.span_batcher.specs.Texts.{texts_in, span_in, spans_in}
use Rattle.tenant_stores.specs.declared.stores.Stores.{Stores}
use Rattle.tenant_stores.specs.Part.{Part, part, owner_of}
use Rattle.tenant_stores.specs.Counts.{count}
use Rattle.tenant_stores.specs.View.{text_at, shown, spans_at}
use Rattle.tenant_stores.specs.Shows.{shown_or, no_span, span_at}
use Rattle.tenant_stores.proofs.Lists.{count-append, count-self}
use Rattle.tenant_rules.specs.Arrivals.{Arrival}
use Rattle.tenant_rules.specs.Batching.{as_sent}
use Rattle.tenant_rules.specs.ExportText.{texts_of, export_text}
use Rattle.tenant_rules.specs.Sender.{BatchData}
use Rattle.tenant_pipeline.specs.StateIn.{arrival_of, arrivals_of}
use Rattle.tenant_pipeline.specs.Outbox.{arrivals_at, AreThere, batch_at}

-- a span that a tenant has is its own
pub owner_is : (tenant : ℕ) (slot : Option StoredData) (span : StoredData) → owned owner_of tenant slot ≡ Some span → span.owner ≡ tenant
owner_is tenant None span is = absurd (cc)
owner_is tenant (Some other) span is = by_test (eqb other.owner tenant) refl is
  where
    by_test : (b : Bool) → eqb other.owner tenant ≡ b → cond b (Some other) None ≡ Some span → span.owner ≡ tenant
    by_test true t e =
        let same : other ≡ span = cc in
        let owner : other.owner ≡ tenant = grind (arith, nat_tests, t) in
        sym (ap (λ (s : StoredData). s.owner) same) ∙ owner
    by_test false t e = absurd (cc)

-- the texts of spans as they arrived
texts_back : (xs : List SpanTexts) → map texts_of (arrivals_of xs) ≡ xs
texts_back [] = refl
texts_back (x ∷ xs) = ap (λ (ys : List SpanTexts). x ∷ ys) (texts_back xs)

-- a batch of spans, as it is sent
pub sent_is : (moment n : ℕ) (payload : List ℕ) (xs : List SpanTexts) → n ≡ length xs → payload ≡ batches.export_text xs →
    record { moment = moment; spans = n; payload = payload } ≡ as_sent (record { moment = moment; spans = arrivals_of xs })
unfolding export_text
sent_is moment n payload xs size text =
    let many : n ≡ length (arrivals_of xs) = size ∙ sym (length-map xs arrival_of) in
    let out : payload ≡ export_text (arrivals_of xs) = text ∙ sym (ap batches.export_text (texts_back xs)) in
    rw (many, out) refl

-- ---- keys that have their spans

-- the span at a key
abbrev pub arrival_or : Part TraceNote → ℕ → Arrival
arrival_or p key = arrival_of (span_at p key)

shown_is : (texts : ℕ → Option CountedText) (slot : Option StoredData) → slot ≢ None → shown texts slot ≡ shown_or texts no_span slot ∷ []
shown_is texts None some = absurd (some refl)
shown_is texts (Some span) some = refl

pub there_is : (p : Part TraceNote) (keys : List ℕ) → AreThere p keys → arrivals_at p keys ≡ map (arrival_or p) keys
there_is p [] there = refl
there_is p (key ∷ keys) there =
    let self = count-self key keys in
    let one : shown p.texts (p.spans key) ≡ span_at p key ∷ [] = shown_is p.texts (p.spans key) (there key (omega (arith, self))) in
    let rest = there_is p keys (λ j some. there j (omega (arith, some))) in
    ap (λ (ss : List SpanTexts). arrivals_of (ss ++ spans_at p.spans p.texts keys)) one ∙ ap (λ (as' : List Arrival). arrival_or p key ∷ as') rest

pub spans_at-append : (p : Part TraceNote) (xs ys : List ℕ) → spans_at p.spans p.texts (xs ++ ys) ≡ spans_at p.spans p.texts xs ++ spans_at p.spans p.texts ys
spans_at-append p [] ys = refl
spans_at-append p (x ∷ xs) ys =
    ap (λ (ss : List SpanTexts). shown p.texts (p.spans x) ++ ss) (spans_at-append p xs ys)
    ∙ sym (append_assoc (shown p.texts (p.spans x)) (spans_at p.spans p.texts xs) (spans_at p.spans p.texts ys))

pub arrivals-append : (p : Part TraceNote) (xs ys : List ℕ) → arrivals_at p (xs ++ ys) ≡ arrivals_at p xs ++ arrivals_at p ys
arrivals-append p xs ys =
    ap arrivals_of (spans_at-append p xs ys) ∙ map-append arrival_of (spans_at p.spans p.texts xs) (spans_at p.spans p.texts ys)

-- a part of keys that have their spans has them
pub there-front : (p : Part TraceNote) (xs ys : List ℕ) → AreThere p (xs ++ ys) → AreThere p xs
there-front p xs ys there = λ j some. there j (let e = count-append j xs ys in omega (arith, e, some))

pub there-back : (p : Part TraceNote) (xs ys : List ℕ) → AreThere p (xs ++ ys) → AreThere p ys
there-back p xs ys there = λ j some. there j (let e = count-append j xs ys in omega (arith, e, some))

-- batches of such keys, with their spans
pub batches_are : (p : Part TraceNote) (bs : List (Batch ℕ)) → AreThere p (spans_of bs) → map (batch_at p) bs ≡ map (mapped (arrival_or p)) bs
batches_are p [] there = refl
batches_are p (b ∷ bs) there =
    let first = there_is p b.spans (there-front p b.spans (spans_of bs) there) in
    let rest = batches_are p bs (there-back p b.spans (spans_of bs) there) in
    ap (λ (as' : List Arrival). record { moment = b.moment; spans = as' } ∷ map (batch_at p) bs) first
    ∙ ap (λ (cs : List (Batch Arrival)). record { moment = b.moment; spans = map (arrival_or p) b.spans } ∷ cs) rest

pub there-cuts : (p : Part TraceNote) (r : Rules) (m : ℕ) (all : List ℕ) → AreThere p all → AreThere p (spans_of (cuts r m all))
there-cuts p r m all there = λ j some. there j (let e = ap (count j) (cuts-whole r m all) in let both = count-append j (spans_of (cuts r m all)) (uncut r all) in omega (arith, e, both, some))

pub there-uncut : (p : Part TraceNote) (r : Rules) (all : List ℕ) → AreThere p all → AreThere p (uncut r all)
there-uncut p r all there = λ j some. there j (let e = ap (count j) (cuts-whole r 0 all) in let both = count-append j (spans_of (cuts r 0 all)) (uncut r all) in omega (arith, e, both, some))

-- ---- spans that are found by their keys

module _ (tenant : ℕ) (stores : Stores TraceNote) where
  abbrev p : Part TraceNote
  p = part tenant stores

  -- one more
  pub span_more : (xs : List (Bor StoredData)) (found : Bor StoredData) (key : ℕ) (rest : List ℕ) → p.spans key ≡ Some found.now →
      spans_in stores.texts (xs ++ found ∷ []) ++ spans_at p.spans p.texts rest ≡ spans_in stores.texts xs ++ spans_at p.spans p.texts (key ∷ rest)
  span_more xs found key rest is =
      let owner = owner_is tenant (get stores.spans key) found.now is in
      let one : span_in stores.texts found.now ≡ keyed_texts (text_at p.texts) found.now = ap (λ (t : ℕ). keyed_texts (texts_in stores.texts t) found.now) owner in
      let slot : shown p.texts (p.spans key) ≡ span_in stores.texts found.now ∷ [] = ap (shown p.texts) is ∙ ap (λ (x : SpanTexts). x ∷ []) (sym one) in
      ap (λ (ys : List SpanTexts). ys ++ spans_at p.spans p.texts rest) (map-append (λ (b : Bor StoredData). span_in stores.texts b.now) xs (found ∷ []))
      ∙ (append_assoc (spans_in stores.texts xs) (span_in stores.texts found.now ∷ []) (spans_at p.spans p.texts rest)
      ∙ ap (λ (ys : List SpanTexts). spans_in stores.texts xs ++ (ys ++ spans_at p.spans p.texts rest)) (sym slot))

-- texts by their tenants are all of them
pub spans_same : (t u : Slab CountedText) → ((tenant : ℕ) → texts.part tenant t ≡ texts.part tenant u) → (xs : List (Bor StoredData)) → spans_in t xs ≡ spans_in u xs
spans_same t u same [] = refl
spans_same t u same (x ∷ xs) =
    let one : span_in t x.now ≡ span_in u x.now = ap (λ (at : ℕ → Option CountedText). keyed_texts (λ key. text_of (at key)) x.now) (same x.now.owner) in
    ap (λ (y : SpanTexts). y ∷ spans_in t xs) one ∙ ap (λ (ys : List SpanTexts). span_in u x.now ∷ ys) (spans_same t u same xs)

-- the batch of spans that a tenant was found to have at keys, as it is sent
module _ (tenant : ℕ) (stores : Stores TraceNote) (keys : List ℕ) (found lent : List (Bor StoredData)) (pool : Slab CountedText)
    (are : spans_in stores.texts found ≡ spans_at (part tenant stores).spans (part tenant stores).texts keys) (same : lent ≡ found) (texts_are : (t : ℕ) → texts.part t pool ≡ texts.part t stores.texts) where
  abbrev xs : List SpanTexts
  xs = spans_at (part tenant stores).spans (part tenant stores).texts keys

  text_is : batches.export_text (spans_in pool lent) ≡ batches.export_text xs
  text_is = ap batches.export_text (ap (spans_in pool) same ∙ (spans_same pool stores.texts texts_are found ∙ are))

  pub found_text : batches.export_text (spans_in pool lent) ≡ export_text (arrivals_of xs)
  found_text = text_is ∙ ap (λ (b : BatchData). b.payload) (sent_is 0 (length xs) (batches.export_text xs) xs refl refl)

  pub found_sent : (moment n : ℕ) (payload : List ℕ) → n ≡ length found → payload ≡ batches.export_text (spans_in pool lent) →
      record { moment = moment; spans = n; payload = payload } ≡ as_sent (record { moment = moment; spans = arrivals_of xs })
  found_sent moment n payload size text =
      let all : length found ≡ length xs = sym (length-map found (λ b. span_in stores.texts b.now)) ∙ ap length are in
      sent_is moment n payload xs (size ∙ all) (text ∙ text_is)
