-- Blocks of spans with the same keys: the runs of the spans are those of the blocks, with each block's spans put in.
use Rattle.std.proofs.Common.{◌≡◌, ◌&&◌, ℕ, Bool, true, false, cond, List, [], ◌∷◌, ◌++◌, map, slice_get, Option, Some, refl, sym, ap, ◌∙◌, append-nil, flat_map}
use Rattle.std.specs.Borrow.{Bor}
use Rattle.std.specs.Cmp.Lexicographic.{nat_list_eq_equiv, options_equiv}
use Rattle.std.proofs.lemmas.List.{map-append}
use Rattle.slab.specs.Slab.{Slab}
use Rattle.text_pool.specs.declared.pool.CountedText.{CountedText}
use Rattle.otlp_trace.specs.Text.{repeated, bytes_field}
use Rattle.span_pool.specs.Stored.{StoredData, SpanTexts, Origin, same_text, same_bytes}
use Rattle.span_pool.specs.Stored as pool
use Rattle.span_batcher.specs.ExportText.{joined_to, runs, same_resource, same_scope, scope_spans_field, resource_spans_field}
use Rattle.span_batcher.specs.Texts.{span_in, spans_in}
use Rattle.span_batcher.specs.Blocks.{BlockData, with_text, spread, own_texts, placed, alike, fields_in}
use Rattle.span_batcher.proofs.Written.{repeated-append}

and_true : (a b : Bool) → a ≡ true → b ≡ true → (a && b) ≡ true
and_true a b one two = rw one two

text_told : (text : Option (List ℕ)) → same_text text text ≡ true
text_told text = (options_equiv nat_list_eq_equiv).refl text

url_told : (url : List ℕ) → same_bytes url url ≡ true
url_told url = nat_list_eq_equiv.refl url

resource_told : (o : Origin) → pool.same_resource o o ≡ true
resource_told o = and_true (same_text o.resource o.resource) (same_bytes o.resource_schema_url o.resource_schema_url) (text_told o.resource) (url_told o.resource_schema_url)

scope_told : (o : Origin) → pool.same_scope o o ≡ true
scope_told o = and_true (same_text o.scope o.scope) (same_bytes o.scope_schema_url o.scope_schema_url) (text_told o.scope) (url_told o.scope_schema_url)

-- spans of one origin
abbrev of_origin : Origin → List (List ℕ) → List SpanTexts
of_origin o [] = []
of_origin o (t ∷ ts) = record { origin = o; text = t } ∷ of_origin o ts

module _ (same_origin : Origin → Origin → Bool) (told : (o : Origin) → same_origin o o ≡ true) where
  abbrev same : SpanTexts → SpanTexts → Bool
  same a b = same_origin a.origin b.origin

  abbrev joined_all : List SpanTexts → List (List SpanTexts) → List (List SpanTexts)
  joined_all [] rs = rs
  joined_all (x ∷ xs) rs = joined_to same x (joined_all xs rs)

  runs_joined : (xs ys : List SpanTexts) → runs same (xs ++ ys) ≡ joined_all xs (runs same ys)
  runs_joined [] ys = refl
  runs_joined (x ∷ xs) ys = ap (joined_to same x) (runs_joined xs ys)

  -- spans of one origin before runs
  abbrev glued : Origin → List SpanTexts → List (List SpanTexts) → List (List SpanTexts)
  glued o xs [] = xs ∷ []
  glued o xs ([] ∷ rest) = xs ∷ rest
  glued o xs ((y ∷ ys) ∷ rest) = cond (same_origin o y.origin) ((xs ++ (y ∷ ys)) ∷ rest) (xs ∷ (y ∷ ys) ∷ rest)

  grown : (o : Origin) (t u : List ℕ) (us : List SpanTexts) (rs : List (List SpanTexts))
      → joined_to same (record { origin = o; text = t }) (glued o (record { origin = o; text = u } ∷ us) rs) ≡ glued o (record { origin = o; text = t } ∷ record { origin = o; text = u } ∷ us) rs
  grown o t u us [] = rw (told o) refl
  grown o t u us ([] ∷ rest) = rw (told o) refl
  grown o t u us ((y ∷ ys) ∷ rest) = by (same_origin o y.origin) (record { origin = o; text = t }) (record { origin = o; text = u }) (told o)
    where
      by : (b : Bool) (x z : SpanTexts) → same x z ≡ true → joined_to same x (cond b ((z ∷ us ++ (y ∷ ys)) ∷ rest) ((z ∷ us) ∷ (y ∷ ys) ∷ rest)) ≡ cond b ((x ∷ z ∷ us ++ (y ∷ ys)) ∷ rest) ((x ∷ z ∷ us) ∷ (y ∷ ys) ∷ rest)
      by true x z is = rw is refl
      by false x z is = rw is refl

  glued_all : (o : Origin) (t : List ℕ) (ts : List (List ℕ)) (rs : List (List SpanTexts)) → joined_all (of_origin o (t ∷ ts)) rs ≡ glued o (of_origin o (t ∷ ts)) rs
  glued_all o t [] [] = refl
  glued_all o t [] ([] ∷ rest) = refl
  glued_all o t [] ((y ∷ ys) ∷ rest) = refl
  glued_all o t (u ∷ us) rs = ap (joined_to same (record { origin = o; text = t })) (glued_all o u us rs) ∙ grown o t u (of_origin o us) rs

  module _ (texts : Slab CountedText) where
    abbrev origin_of : BlockData → Origin
    origin_of block = (span_in texts block.first).origin

    others_are : (span : StoredData) (ts : List (List ℕ)) → map (span_in texts) (map (with_text span) ts) ≡ of_origin (span_in texts span).origin ts
    others_are span [] = refl
    others_are span (t ∷ ts) = ap (λ (xs : List SpanTexts). record { origin = (span_in texts span).origin; text = t } ∷ xs) (others_are span ts)

    block_is : (block : BlockData) → map (span_in texts) (spread block) ≡ of_origin (origin_of block) (own_texts block)
    block_is block = ap (λ (xs : List SpanTexts). span_in texts block.first ∷ xs) (others_are block.first block.others)

    -- a block before runs of blocks
    put_in : (block : BlockData) (rs : List (List BlockData))
        → map (placed texts) (joined_to (alike texts same) block rs) ≡ glued (origin_of block) (map (span_in texts) (spread block)) (map (placed texts) rs)
    put_in block [] = ap (λ (xs : List SpanTexts). xs ∷ []) (append-nil (map (span_in texts) (spread block)))
    put_in block ([] ∷ rest) = ap (λ (xs : List SpanTexts). xs ∷ map (placed texts) rest) (append-nil (map (span_in texts) (spread block)))
    put_in block ((other ∷ others) ∷ rest) = by (alike texts same block other)
      where
        by : (b : Bool) → map (placed texts) (cond b ((block ∷ other ∷ others) ∷ rest) ((block ∷ []) ∷ (other ∷ others) ∷ rest))
            ≡ cond b ((map (span_in texts) (spread block) ++ placed texts (other ∷ others)) ∷ map (placed texts) rest) (map (span_in texts) (spread block) ∷ placed texts (other ∷ others) ∷ map (placed texts) rest)
        by true = refl
        by false = ap (λ (xs : List SpanTexts). xs ∷ placed texts (other ∷ others) ∷ map (placed texts) rest) (append-nil (map (span_in texts) (spread block)))

    runs_placed : (blocks : List BlockData) → map (placed texts) (runs (alike texts same) blocks) ≡ runs same (placed texts blocks)
    runs_placed [] = refl
    runs_placed (block ∷ blocks) =
        let one = map (span_in texts) (spread block) in
        let o = origin_of block in
        let rs = runs same (placed texts blocks) in
        let is : one ≡ of_origin o (own_texts block) = block_is block in
        put_in block (runs (alike texts same) blocks)
        ∙ (ap (glued o one) (runs_placed blocks)
        ∙ (ap (λ (xs : List SpanTexts). glued o xs rs) is
        ∙ (sym (glued_all o block.first.text block.others rs)
        ∙ (ap (λ (xs : List SpanTexts). joined_all xs rs) (sym is)
        ∙ sym (runs_joined one (placed texts blocks))))))

    fields_of : (field : List SpanTexts → List ℕ) (rs : List (List BlockData)) → flat_map (λ run. field (placed texts run)) rs ≡ flat_map field (map (placed texts) rs)
    fields_of field [] = refl
    fields_of field (run ∷ rs) = ap (λ bs. field (placed texts run) ++ bs) (fields_of field rs)

    fields_placed : (field : List SpanTexts → List ℕ) (blocks : List BlockData) → fields_in texts same field blocks ≡ flat_map field (runs same (placed texts blocks))
    fields_placed field blocks = fields_of field (runs (alike texts same) blocks) ∙ ap (flat_map field) (runs_placed blocks)

-- what is written of blocks is what is written of their spans
pub scopes_placed : (texts : Slab CountedText) (blocks : List BlockData) → fields_in texts same_scope scope_spans_field blocks ≡ flat_map scope_spans_field (runs same_scope (placed texts blocks))
scopes_placed texts blocks = fields_placed pool.same_scope scope_told texts scope_spans_field blocks

pub resources_placed : (texts : Slab CountedText) (blocks : List BlockData) → fields_in texts same_resource resource_spans_field blocks ≡ flat_map resource_spans_field (runs same_resource (placed texts blocks))
resources_placed texts blocks = fields_placed pool.same_resource resource_told texts resource_spans_field blocks

-- ---- the spans of all blocks

map-spread : (f : StoredData → SpanTexts) (blocks : List BlockData) → flat_map (λ (block : BlockData). map f (spread block)) blocks ≡ map f (flat_map spread blocks)
map-spread f [] = refl
map-spread f (block ∷ blocks) = ap (λ xs. map f (spread block) ++ xs) (map-spread f blocks) ∙ sym (map-append f (spread block) (flat_map spread blocks))

map-now : (texts : Slab CountedText) (spans : List (Bor StoredData)) → map (span_in texts) (map (λ (span : Bor StoredData). span.now) spans) ≡ spans_in texts spans
map-now texts [] = refl
map-now texts (span ∷ spans) = ap (λ xs. span_in texts span.now ∷ xs) (map-now texts spans)

-- blocks whose spans are these
pub all_placed : (texts : Slab CountedText) (blocks : List BlockData) (spans : List (Bor StoredData)) → flat_map spread blocks ≡ map (λ (span : Bor StoredData). span.now) spans → placed texts blocks ≡ spans_in texts spans
all_placed texts blocks spans is = map-spread (span_in texts) blocks ∙ (ap (map (span_in texts)) is ∙ map-now texts spans)

-- the first of blocks
pub first_placed : (texts : Slab CountedText) (blocks : List BlockData) (block : BlockData) → slice_get blocks 0 ≡ Some block → slice_get (placed texts blocks) 0 ≡ Some (span_in texts block.first)
first_placed texts [] block at = absurd (cc)
first_placed texts (other ∷ blocks) block at =
    let is : other ≡ block = cc in
    ap (λ (b : BlockData). Some (span_in texts b.first)) is

-- the texts of the spans of a scope
own_repeated : (texts : Slab CountedText) (span : StoredData) (ts : List (List ℕ)) → repeated 2 (λ (a : SpanTexts). a.text) (map (span_in texts) (map (with_text span) ts)) ≡ repeated 2 (λ (t : List ℕ). t) ts
own_repeated texts span [] = refl
own_repeated texts span (t ∷ ts) = ap (λ bs. bytes_field 2 t ++ bs) (own_repeated texts span ts)

pub spans_repeated : (texts : Slab CountedText) (blocks : List BlockData) → flat_map (λ (block : BlockData). repeated 2 (λ (t : List ℕ). t) (own_texts block)) blocks ≡ repeated 2 (λ (a : SpanTexts). a.text) (placed texts blocks)
spans_repeated texts [] = refl
spans_repeated texts (block ∷ blocks) =
    let one : repeated 2 (λ (a : SpanTexts). a.text) (map (span_in texts) (spread block)) ≡ repeated 2 (λ (t : List ℕ). t) (own_texts block) = ap (λ bs. bytes_field 2 block.first.text ++ bs) (own_repeated texts block.first block.others) in
    ap (λ bs. bs ++ flat_map (λ (b : BlockData). repeated 2 (λ (t : List ℕ). t) (own_texts b)) blocks) (sym one)
    ∙ (ap (λ bs. repeated 2 (λ (a : SpanTexts). a.text) (map (span_in texts) (spread block)) ++ bs) (spans_repeated texts blocks)
    ∙ sym (repeated-append 2 (λ (a : SpanTexts). a.text) (map (span_in texts) (spread block)) (placed texts blocks)))
