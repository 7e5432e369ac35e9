-- Batches of keys, and those of the spans that the keys stand for. This project's own rule.
use Rattle.std.specs.Prelude.{List, [], ◌∷◌, ◌++◌, map}
use Rattle.span_batcher.specs.Batches.{Batch}

-- the batch with each span replaced
abbrev pub mapped : {X Y : Type 0} → (X → Y) → Batch X → Batch Y
mapped f b = record { moment = b.moment; spans = map f b.spans }

-- the spans of all these batches
abbrev pub spans_of : {X : Type 0} → List (Batch X) → List X
spans_of [] = []
spans_of (b ∷ bs) = b.spans ++ spans_of bs
