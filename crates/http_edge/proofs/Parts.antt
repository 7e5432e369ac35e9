-- The parts of a body in chunks: a stream begins with one of each, or with none.
use Rattle.std.proofs.Common.{◌≡◌, ℕ, ◌≤◌, ⊎_elim, List, [], ◌∷◌, ◌++◌, length, take, drop, refl, sym, ap, ◌∙◌, append_assoc, append-nil, length-append, length-take, arith}
use Rattle.std.proofs.lemmas.Bool.{cases_lt}
use Rattle.std.proofs.lemmas.List.{take-append-drop, take-append-le, append_cancel_left}
use Rattle.httparse.specs.Grammar.{ChunkLine, print_chunk_line, chunk_size, print_section}
use Rattle.httparse.proofs.ChunkLemmas.{chunk_line_unique, ReadsChunkLine-append}
use Rattle.httparse.proofs.GrammarLemmas.{section_unique, ReadsSection-append}
use Rattle.http1.proofs.TextLemmas.{front_within}
use Rattle.http_edge.specs.Limits.{max_part}
use Rattle.http_edge.specs.Chunks.{HasLine, BadLine, faulty_line, long_line, LacksLine, line_ends, HasTrailer, BadTrailer, faulty_trailer, many_trailers, many_trailer_lines, long_trailer, LacksTrailer, HasChunk, HasChunks, Part, line_part, bytes_part, trailer_part, Opens}
use Rattle.http_edge.proofs.Lines.{line_ends-append, section_exceeds_lines, section_front, section_split, section_front_lines, lines_before_end}

-- a text that is no longer than a front stands in it
within_front : (text s after : List ℕ) (n : ℕ) → s ≡ text ++ after → length text ≤ n
    → take n s ≡ text ++ drop (length text) (take n s)
within_front text s after n whole short =
    let fits : length text ≤ length (take n s) = omega (
      arith,
      short,
      ap length whole,
      length-append text after,
      length-take n s,
    ) in
    front_within (take n s) (drop n s) text after (take-append-drop n s ∙ whole) fits

-- ---- lines

pub line_same : {s : List ℕ} {l k : ChunkLine} {a b : List ℕ} → HasLine s l a → HasLine s k b → (l ≡ k) × (a ≡ b)
line_same {s} {l} {k} {a} {b} p q = chunk_line_unique s l k a b p.reads q.reads

pub bad_line_not : {s : List ℕ} {l : ChunkLine} {a : List ℕ} → BadLine s → HasLine s l a → ⊥
bad_line_not {s} {l} {a} (faulty_line p) h = p [] l a (h.reads.0, append-nil s ∙ h.reads.1)
bad_line_not {s} {l} {a} (long_line p q) h =
    q l (drop (length (print_chunk_line l)) (take max_part s)) (
      h.reads.0,
      within_front (print_chunk_line l) s a max_part h.reads.1
          h.short,
    )

pub lacks_line_not : {s : List ℕ} {l : ChunkLine} {a : List ℕ} → LacksLine s → HasLine s l a → ⊥
lacks_line_not {s} {l} {a} p h = p.none l a h.reads

pub bad_lacks_line : {s : List ℕ} → BadLine s → LacksLine s → ⊥
bad_lacks_line {s} (faulty_line p) l = p l.may.0 l.may.1 [] l.may.2
bad_lacks_line {s} (long_line p q) l = absurd (omega (arith, p, l.short))

-- ---- trailers

pub trailer_same : {s a b : List ℕ} → HasTrailer s a → HasTrailer s b → a ≡ b
trailer_same {s} {a} {b} p q = (section_unique s p.fields q.fields p.last q.last a b p.reads q.reads).2

pub bad_trailer_not : {s a : List ℕ} → BadTrailer s → HasTrailer s a → ⊥
bad_trailer_not {s} {a} (faulty_trailer p) t = p [] t.fields t.last a (t.reads.0, append-nil s ∙ t.reads.1)
bad_trailer_not {s} {a} (many_trailers p q) t =
    let over = q [] t.fields t.last a (t.reads.0, append-nil s ∙ t.reads.1) in absurd (omega (arith, over, t.few))
bad_trailer_not {s} {a} (many_trailer_lines front more e none many) t =
    let text = print_section t.fields t.last in
    let whole : front ++ more ≡ text ++ a = sym e ∙ t.reads.1 in
    ⊎_elim (λ short.
    let lines = lines_before_end text (section_front t.fields t.last) front more a (section_split t.fields t.last)
    whole short in
    absurd (omega (arith, lines, section_front_lines t.fields t.last t.reads.0, many, t.few)))
    (λ long. none t.fields t.last (drop (length text) front) (
      t.reads.0,
      front_within front more text a whole
          long,
    )) (cases_lt (length front) (length text))
bad_trailer_not {s} {a} (long_trailer p q) t =
    q t.fields t.last (drop (length (print_section t.fields t.last)) (take max_part s)) (
      t.reads.0,
      within_front (print_section t.fields t.last) s a max_part t.reads.1
          t.short,
    )

pub lacks_trailer_not : {s a : List ℕ} → LacksTrailer s → HasTrailer s a → ⊥
lacks_trailer_not {s} {a} p t = p.none t.fields t.last a t.reads

pub bad_lacks_trailer : {s : List ℕ} → BadTrailer s → LacksTrailer s → ⊥
bad_lacks_trailer {s} (faulty_trailer p) l = p l.may.0 l.may.1 l.may.2 [] l.may.3
bad_lacks_trailer {s} (many_trailers p q) l =
    let lines = section_exceeds_lines s p in absurd (omega (arith, lines, l.few))
bad_lacks_trailer {s} (many_trailer_lines front more e none many) l =
    absurd (omega (arith, ap line_ends e, line_ends-append front more, many, l.few))
bad_lacks_trailer {s} (long_trailer p q) l = absurd (omega (arith, p, l.short))

-- ---- chunks

-- fronts of one text that are as long are the same, and so is what follows them
pub fronts_same : (b c r q : List ℕ) → length b ≡ length c → b ++ r ≡ c ++ q → b ≡ c
fronts_same [] [] r q len e = refl
fronts_same [] (y ∷ c) r q len e = absurd (omega (arith, len))
fronts_same (x ∷ b) [] r q len e = absurd (omega (arith, len))
fronts_same (x ∷ b) (y ∷ c) r q len e =
    let later : b ≡ c = fronts_same b c r q (omega (arith, len)) (cc) in cc

pub rests_same : (b c r q : List ℕ) → b ≡ c → b ++ r ≡ c ++ q → r ≡ q
rests_same b c r q same e = append_cancel_left b r q (e ∙ ap (λ v. v ++ q) (sym same))

pub chunk_same : {s b c x y : List ℕ} → HasChunk s b x → HasChunk s c y → (b ≡ c) × (x ≡ y)
chunk_same {s} {b} {c} {x} {y} p q =
    let line = line_same p.has q.has in
    let len : length b ≡ length c = sym p.sized ∙ (ap chunk_size line.0 ∙ q.sized) in
    let whole : b ++ (13 ∷ 10 ∷ x) ≡ c ++ (13 ∷ 10 ∷ y) = sym p.whole ∙ (line.1 ∙ q.whole) in
    let bytes : b ≡ c = fronts_same b c (13 ∷ 10 ∷ x) (13 ∷ 10 ∷ y) len whole in
    let after : 13 ∷ 10 ∷ x ≡ 13 ∷ 10 ∷ y = rests_same b c (13 ∷ 10 ∷ x) (13 ∷ 10 ∷ y) bytes whole in
    (bytes, (cc))

-- ---- more bytes

pub line_more : {s : List ℕ} {l : ChunkLine} {a : List ℕ} (more : List ℕ) → HasLine s l a
    → HasLine (s ++ more) l (a ++ more)
line_more {s} {l} {a} more p = record { reads = ReadsChunkLine-append s l a more p.reads; short = p.short }

pub trailer_more : {s a : List ℕ} (more : List ℕ) → HasTrailer s a → HasTrailer (s ++ more) (a ++ more)
trailer_more {s} {a} more p = record {
  fields = p.fields;
  last = p.last;
  reads = ReadsSection-append s p.fields p.last a more p.reads;
  few = p.few;
  short = p.short;
}

pub chunk_more : {s b a : List ℕ} (more : List ℕ) → HasChunk s b a → HasChunk (s ++ more) b (a ++ more)
chunk_more {s} {b} {a} more p = record {
  line = p.line;
  follows = p.follows ++ more;
  has = line_more more p.has;
  some = p.some;
  sized = p.sized;
  whole = ap (λ v. v ++ more) p.whole ∙ append_assoc b (13 ∷ 10 ∷ a) more;
}

pub chunks_more : (cs : List (List ℕ)) (s a more : List ℕ) → HasChunks cs s a → HasChunks cs (s ++ more) (a ++ more)
chunks_more [] s a more p = ap (λ v. v ++ more) p
chunks_more (c ∷ cs) s a more p = (p.0 ++ more, chunk_more more p.1, chunks_more cs p.0 a more p.2)

pub opens_more : (part : Part) (s rest more : List ℕ) → Opens s part rest → Opens (s ++ more) part (rest ++ more)
opens_more line_part s rest more p = ap (λ v. v ++ more) p
opens_more (bytes_part n) s rest more p = (p.0, line_more more p.1, p.2, p.3)
opens_more trailer_part s rest more p = (p.0, line_more more p.1, p.2)

-- no line comes later either
pub bad_line_more : {s : List ℕ} (more : List ℕ) → BadLine s → BadLine (s ++ more)
bad_line_more {s} more (faulty_line p) = faulty_line (λ rest. rw (append_assoc s more rest) (p (more ++ rest)))
bad_line_more {s} more (long_line p q) = long_line (omega (arith, p, length-append s more))
    (rw (take-append-le max_part s more p) q)

pub bad_trailer_more : {s : List ℕ} (more : List ℕ) → BadTrailer s → BadTrailer (s ++ more)
bad_trailer_more {s} more (faulty_trailer p) = faulty_trailer (λ rest. rw (append_assoc s more rest) (p (more ++ rest)))
bad_trailer_more {s} more (many_trailers p q) = many_trailers (
  p.0,
  p.1 ++ more,
  ap (λ v. v ++ more) p.2
      ∙ append_assoc p.0 p.1 more,
  p.3,
  p.4,
  p.5,
) (λ rest fields last after r.
    q (more ++ rest) fields last after (rw (← append_assoc s more rest) r))
bad_trailer_more {s} more (many_trailer_lines front other e none many) = many_trailer_lines front (other ++ more)
    (ap (λ v. v ++ more) e ∙ append_assoc front other more) none many
bad_trailer_more {s} more (long_trailer p q) = long_trailer (omega (arith, p, length-append s more))
    (rw (take-append-le max_part s more p) q)
