-- A body in chunks, as the code takes it, one part after another.
use Rattle.std.proofs.Common.{◌≡◌, ◌≢◌, ℕ, ◌+◌, ◌-◌, ◌<◌, ◌≤◌, inl, inr, ⊎_elim, Bool, true, false, not, List, [], ◌∷◌, ◌++◌, length, get_or, take, drop, refl, sym, ap, subst, ◌∙◌, append_assoc, append-nil, length-append, length-take, take-append-drop, drop_at, arith}
use Rattle.std.specs.List.{concat}
use Rattle.std.proofs.lemmas.Bool.{cases_lt}
use Rattle.std.proofs.lemmas.List.{drop-append-le, drop_all, take_all, length-map}
use Rattle.httparse.specs.Grammar.{ChunkLine, IsChunkLine, print_chunk_line, chunk_size, HasNoChunkLine, NeverHasChunkLine, MayBecomeChunkLine, Field, LineEnd, ReadsChunkLine, ReadsSection, print_section, HasNoSection, NeverHasSection, MayBecomeSection}
use Rattle.httparse.specs.Spans.{IsChunkLineAt, IsSectionAt, SectionExceeds, SectionOverflows}
use Rattle.httparse.specs.declared.Error.{Error}
use Rattle.httparse.specs.declared.Error.TheVariants.{HeaderName, HeaderValue, NewLine, Status, Token, TooManyHeaders, Version}
use Rattle.httparse.specs.declared.spans.HeaderSpan.{HeaderSpan}
use Rattle.httparse.proofs.ChunkLemmas.{ReadsChunkLine-append}
use Rattle.httparse.proofs.GrammarLemmas.{ReadsSection-append}
use Rattle.http_edge.specs.Limits.{max_fields}
use Rattle.http_edge.specs.Chunks.{HasLine, BadLine, faulty_line, long_line, LacksLine, line_ends, HasTrailer, BadTrailer, faulty_trailer, many_trailers, many_trailer_lines, long_trailer, LacksTrailer, HasChunk, HasChunks, Part, line_part, bytes_part, trailer_part, Reaches, FailsAt, LacksAt, HasChunkedBody, StatesMore, StopsAt}
use Rattle.http_edge.specs.declared.chunks.ChunkedState.{ChunkedState as PartCode}
use Rattle.http_edge.specs.declared.chunks.ChunkedState.TheVariants.{Line, Bytes, Trailer}
use Rattle.http_edge.specs.Stages.{bytes_due, IsInData, IsAt}
use Rattle.http_edge.proofs.Parts.{bad_line_more, bad_trailer_more, trailer_more, chunks_more, opens_more}
use Rattle.http_edge.proofs.Once.{fails_not}

-- ---- from a front of the input

-- what is left of a front, and what follows the front, are what is left
rest_of : (input : List ℕ) (n len : ℕ) → len ≤ length (take n input)
    → drop len (take n input) ++ drop n input ≡ drop len input
rest_of input n len fits =
    sym (drop-append-le len (take n input) (drop n input) fits) ∙ ap (drop len) (take-append-drop n input)

line_some : (l : ChunkLine) → IsChunkLine l → 0 < length (print_chunk_line l)
unfolding print_chunk_line
line_some l is = simp length-append (omega (arith, is.digits.0))

pub record LineHere (input : List ℕ) (len : ℕ) (l : ChunkLine) : Type 0 where
  pub has : HasLine input l (drop len input)
  pub fits : len ≤ length input
  pub some : 0 < len

pub line_here : (input : List ℕ) (n len size : ℕ) (l : ChunkLine) → n ≤ 65536
    → IsChunkLineAt (take n input) len size l → LineHere input len l
line_here input n len size l most at =
    let rest = drop len (take n input) in
    let fits : len ≤ length (take n input) = omega (
      arith,
      at.len_is,
      ap length at.reads.1,
      length-append (print_chunk_line l) rest,
    ) in
    let reads : ReadsChunkLine (take n input ++ drop n input) l (rest ++ drop n input) =
    ReadsChunkLine-append (take n input) l rest (drop n input) at.reads in
    record {
      has = record {
        reads = subst (λ v. ReadsChunkLine v l (drop len input)) (take-append-drop n input) (subst (λ v.
            ReadsChunkLine (take n input ++ drop n input) l v) (rest_of input n len fits) reads);
        short = omega (arith, at.len_is, fits, most, length-take n input);
      };
      fits = omega (arith, fits, length-take n input);
      some = omega (arith, at.len_is, line_some l at.reads.0);
    }

pub line_lacks : (input : List ℕ) (n : ℕ) → length input ≤ n → length input < 65536
    → HasNoChunkLine (take n input) → MayBecomeChunkLine (take n input) → LacksLine input
line_lacks input n whole short none may =
    let e = take_all n input whole in
    record { none = subst (λ v. HasNoChunkLine v) e none; may = subst (λ v. MayBecomeChunkLine v) e may; short = short }

pub line_long : (input : List ℕ) (n : ℕ) → n ≡ 65536 → 65536 ≤ length input → HasNoChunkLine (take n input)
    → BadLine input
line_long input n e long none = long_line long (subst (λ m. HasNoChunkLine (take m input)) e none)

pub line_faulty : (input : List ℕ) (n : ℕ) → NeverHasChunkLine (take n input) → BadLine input
line_faulty input n never =
    subst BadLine (take-append-drop n input) (bad_line_more (drop n input) (faulty_line never))

pub record TrailerHere (input : List ℕ) (len : ℕ) : Type 0 where
  pub has : HasTrailer input (drop len input)
  pub fits : len ≤ length input

pub trailer_here : (input : List ℕ) (n len count : ℕ) (spans : List HeaderSpan) (fields : List Field) (last : LineEnd)
    → n ≤ 65536 → length spans ≤ 64 → IsSectionAt (take n input) 0 spans len count fields last → TrailerHere input len
trailer_here input n len count spans fields last most room at =
    let rest = drop len (take n input) in
    let text = print_section fields last in
    let here : ReadsSection (take n input) fields last rest = at.reads in
    let fits : len ≤ length (take n input) = omega (
      arith,
      at.len_is,
      ap length here.1,
      length-append text rest,
    ) in
    let reads : ReadsSection (take n input ++ drop n input) fields last (rest ++ drop n input) =
    ReadsSection-append (take n input) fields last rest (drop n input) here in
    record {
      has = record {
        fields = fields;
        last = last;
        reads = subst (λ v. ReadsSection v fields last (drop len input)) (take-append-drop n input) (subst (λ v.
            ReadsSection (take n input ++ drop n input) fields last v) (rest_of input n len fits) reads);
        few = omega (arith, simp length-map at (ap length at.fields_are), length-take count spans, room);
        short = omega (arith, at.len_is, fits, most, length-take n input);
      };
      fits = omega (arith, fits, length-take n input);
    }

pub trailer_lacks : (input : List ℕ) (n : ℕ) → length input ≤ n → length input < 65536 → line_ends input ≤ 64
    → HasNoSection (take n input) → MayBecomeSection (take n input) → LacksTrailer input
trailer_lacks input n whole short few none may =
    let e = take_all n input whole in
    record {
      none = subst (λ v. HasNoSection v) e none;
      may = subst (λ v. MayBecomeSection v) e may;
      few = few;
      short = short;
    }

pub trailer_many : (input : List ℕ) (n : ℕ) → length input ≤ n → 64 < line_ends input → HasNoSection (take n input)
    → BadTrailer input
trailer_many input n whole many none =
    many_trailer_lines input [] (sym (append-nil input)) (subst (λ v. HasNoSection v) (take_all n input whole) none)
    many

pub trailer_long : (input : List ℕ) (n : ℕ) → n ≡ 65536 → 65536 ≤ length input → HasNoSection (take n input)
    → BadTrailer input
trailer_long input n e long none = long_trailer long (subst (λ m. HasNoSection (take m input)) e none)

bad_by_error : (s : List ℕ) (e : Error) → (e ≢ TooManyHeaders → NeverHasSection s) → (e ≡ TooManyHeaders
    → SectionExceeds max_fields s) → SectionOverflows max_fields s → BadTrailer s
bad_by_error s HeaderName p q r = faulty_trailer (p (λ e. cc))
bad_by_error s HeaderValue p q r = faulty_trailer (p (λ e. cc))
bad_by_error s NewLine p q r = faulty_trailer (p (λ e. cc))
bad_by_error s Status p q r = faulty_trailer (p (λ e. cc))
bad_by_error s Token p q r = faulty_trailer (p (λ e. cc))
bad_by_error s TooManyHeaders p q r = many_trailers (q refl) r
bad_by_error s Version p q r = faulty_trailer (p (λ e. cc))

pub trailer_faulty : (input : List ℕ) (n : ℕ) (e : Error) → (e ≢ TooManyHeaders → NeverHasSection (take n input))
    → (e ≡ TooManyHeaders → SectionExceeds max_fields (take n input)) → SectionOverflows max_fields (take n input)
    → BadTrailer input
trailer_faulty input n e p q r =
    subst BadTrailer (take-append-drop n input) (bad_trailer_more (drop n input) (bad_by_error (take n input) e p q r))

-- ---- one part more

pub reaches_bytes : {stream body input rest : List ℕ} {l : ChunkLine} (n : ℕ) → Reaches stream line_part body input
    → HasLine input l rest → n ≡ chunk_size l → 0 < n → IsInData stream n body rest
reaches_bytes {stream} {body} {input} {rest} {l} n r h size some = record {
  size = n;
  before = body;
  got = [];
  reaches = record {
    chunks = r.chunks;
    after = r.after;
    whole = r.whole;
    gives = r.gives;
    opens = (l, subst (λ v. HasLine v l rest) (sym r.opens) h, sym size, some);
  };
  gives = sym (append-nil body);
  sized = omega arith;
}

pub reaches_trailer : {stream body input rest : List ℕ} {l : ChunkLine} (n : ℕ) → Reaches stream line_part body input
    → HasLine input l rest → n ≡ chunk_size l → n ≤ 0 → Reaches stream trailer_part body rest
reaches_trailer {stream} {body} {input} {rest} {l} n r h size none = record {
  chunks = r.chunks;
  after = r.after;
  whole = r.whole;
  gives = r.gives;
  opens = (l, subst (λ v. HasLine v l rest) (sym r.opens) h, omega (arith, size, none));
}

-- some of the data came
pub data_more : {stream body input : List ℕ} (left len : ℕ) → IsInData stream left body input → len ≤ left
    → len ≤ length input → IsInData stream (left - len) (body ++ take len input) (drop len input)
data_more {stream} {body} {input} left len d fits within = record {
  size = d.size;
  before = d.before;
  got = d.got ++ take len input;
  reaches = subst (λ v. Reaches stream (bytes_part d.size) d.before v) (ap (λ v. d.got ++ v) (sym (take-append-drop len
      input)) ∙ sym (append_assoc d.got (take len input) (drop len input))) d.reaches;
  gives = ap (λ v. v ++ take len input) d.gives ∙ append_assoc d.before d.got (take len input);
  sized = omega (
    arith,
    d.sized,
    length-append d.got (take len input),
    length-take len input,
    fits,
    within,
  );
}

chunks_push : (cs : List (List ℕ)) (s mid d next : List ℕ) → HasChunks cs s mid → HasChunk mid d next
    → HasChunks (cs ++ d ∷ []) s next
chunks_push [] s mid d next p q = (next, subst (λ v. HasChunk v d next) (sym p) q, refl)
chunks_push (c ∷ cs) s mid d next p q = (p.0, p.1, chunks_push cs p.0 mid d next p.2 q)

concat_push : (cs : List (List ℕ)) (d : List ℕ) → concat (cs ++ d ∷ []) ≡ concat cs ++ d
concat_push [] d = append-nil d
concat_push (c ∷ cs) d = ap (λ v. c ++ v) (concat_push cs d) ∙ sym (append_assoc c (concat cs) d)

-- all of it came, and the end of its line
pub data_end : {stream body input rest : List ℕ} → IsInData stream 0 body input → input ≡ 13 ∷ 10 ∷ rest
    → Reaches stream line_part body rest
data_end {stream} {body} {input} {rest} d e =
    let r = d.reaches in
    let size : chunk_size r.opens.0 ≡ length d.got = omega (arith, r.opens.2, d.sized) in
    let chunk : HasChunk r.after d.got rest = record {
      line = r.opens.0;
      follows = d.got ++ input;
      has = r.opens.1;
      some = omega (arith, r.opens.3, d.sized);
      sized = size;
      whole = ap (λ v. d.got ++ v) e;
    } in
    record {
      chunks = r.chunks ++ d.got ∷ [];
      after = rest;
      whole = chunks_push r.chunks stream r.after d.got rest r.whole chunk;
      gives = d.gives ∙ (ap (λ v. v ++ d.got) r.gives ∙ sym (concat_push r.chunks d.got));
      opens = refl;
    }

-- ---- where it stops

pub stops_line : {Fact : Part → List ℕ → Type 0} {stream body input : List ℕ} → Reaches stream line_part body input
    → Fact line_part input → (most : ℕ) → length body + 0 ≤ most → StopsAt Fact most stream
stops_line {Fact} {stream} {body} {input} r f most fits = record {
  part = line_part;
  body = body;
  rest = input;
  reaches = r;
  within = omega (arith, fits);
  fact = f;
}

pub stops_trailer : {Fact : Part → List ℕ → Type 0} {stream body input : List ℕ}
    → Reaches stream trailer_part body input → Fact trailer_part input → (most : ℕ) → length body + 0 ≤ most
    → StopsAt Fact most stream
stops_trailer {Fact} {stream} {body} {input} r f most fits = record {
  part = trailer_part;
  body = body;
  rest = input;
  reaches = r;
  within = omega (arith, fits);
  fact = f;
}

stops_data : {Fact : Part → List ℕ → Type 0} {stream body input : List ℕ} {left : ℕ}
    (d : IsInData stream left body input) → Fact (bytes_part d.size) (d.got ++ input) → (most : ℕ)
    → length body + left ≤ most → StopsAt Fact most stream
stops_data {Fact} {stream} {body} {input} {left} d f most fits = record {
  part = bytes_part d.size;
  body = d.before;
  rest = d.got ++ input;
  reaches = d.reaches;
  within = omega (arith, fits, d.sized, ap length d.gives, length-append d.before d.got);
  fact = f;
}

-- data is still to come, and none is there
pub data_lacks : {stream body input : List ℕ} {left : ℕ} → IsInData stream left body input → length input ≡ 0
    → (most : ℕ) → length body + left ≤ most → StopsAt LacksAt most stream
data_lacks {stream} {body} {input} {left} d none =
    stops_data {Fact = LacksAt} d (inl (drop_all d.size (d.got ++ input) (omega (
      arith,
      d.sized,
      none,
      length-append d.got input,
    ))))

-- all data came, and this is what follows it
after_data : {stream body input : List ℕ} (d : IsInData stream 0 body input) → drop d.size (d.got ++ input) ≡ input
after_data {stream} {body} {input} d = drop_at d.got input d.size (omega (arith, d.sized))

cr_alone : (xs : List ℕ) → length xs ≡ 1 → get_or xs 0 0 ≡ 13 → xs ≡ 13 ∷ []
cr_alone [] len e = absurd (omega (arith, len))
cr_alone (x ∷ []) len e = ap (λ v. v ∷ []) e
cr_alone (x ∷ y ∷ xs) len e = absurd (omega (arith, len))

pub end_lacks : {stream body input : List ℕ} → IsInData stream 0 body input → length input ≡ 1
    → get_or input 0 0 ≡ 13 → (most : ℕ) → length body + 0 ≤ most → StopsAt LacksAt most stream
end_lacks {stream} {body} {input} d len e =
    stops_data {Fact = LacksAt} d (inr (after_data d ∙ cr_alone input len e))

not_first : (xs more after : List ℕ) → 0 < length xs → get_or xs 0 0 ≢ 13 → xs ++ more ≡ 13 ∷ 10 ∷ after → ⊥
not_first [] more after some other e = absurd (omega (arith, some))
not_first (x ∷ xs) more after some other e = other (cc)

not_second : (xs more after : List ℕ) → 1 < length xs → get_or xs 1 0 ≢ 10 → xs ++ more ≡ 13 ∷ 10 ∷ after → ⊥
not_second [] more after some other e = absurd (omega (arith, some))
not_second (x ∷ []) more after some other e = absurd (omega (arith, some))
not_second (x ∷ y ∷ xs) more after some other e = other (cc)

pub end_fails_first : {stream body input : List ℕ} → IsInData stream 0 body input → 0 < length input
    → get_or input 0 0 ≢ 13 → (most : ℕ) → length body + 0 ≤ most → StopsAt FailsAt most stream
end_fails_first {stream} {body} {input} d some other =
    stops_data {Fact = FailsAt} d (λ more after e. not_first input more after some other (ap (λ v. v ++ more)
    (sym (after_data d)) ∙ e))

pub end_fails_second : {stream body input : List ℕ} → IsInData stream 0 body input → 1 < length input
    → get_or input 1 0 ≢ 10 → (most : ℕ) → length body + 0 ≤ most → StopsAt FailsAt most stream
end_fails_second {stream} {body} {input} d some other =
    stops_data {Fact = FailsAt} d (λ more after e. not_second input more after some other (ap (λ v. v ++ more)
    (sym (after_data d)) ∙ e))

pub two_at : (xs : List ℕ) → 1 < length xs → get_or xs 0 0 ≡ 13 → get_or xs 1 0 ≡ 10 → xs ≡ 13 ∷ 10 ∷ drop 2 xs
two_at [] some e f = absurd (omega (arith, some))
two_at (x ∷ []) some e f = absurd (omega (arith, some))
two_at (x ∷ y ∷ xs) some e f = λ i. e i ∷ f i ∷ xs

-- the sizes that were stated pass the limit
pub states_more : (stream body rest : List ℕ) (part : PartCode) (most : ℕ) → IsAt stream part body rest
    → length body ≤ most → most < length body + bytes_due part → StatesMore most stream
states_more stream body rest Line most p fits over = absurd (omega (arith, fits, over))
states_more stream body rest (Bytes left) most p fits over = record {
  size = p.size;
  body = p.before;
  rest = p.got ++ rest;
  reaches = p.reaches;
  before = omega (arith, fits, ap length p.gives, length-append p.before p.got);
  over = omega (arith, over, ap length p.gives, length-append p.before p.got, p.sized);
}
states_more stream body rest Trailer most p fits over = absurd (omega (arith, fits, over))

-- ---- more bytes

reaches_more : {stream body rest : List ℕ} {part : Part} (more : List ℕ) → Reaches stream part body rest
    → Reaches (stream ++ more) part body (rest ++ more)
reaches_more {stream} {body} {rest} {part} more p = record {
  chunks = p.chunks;
  after = p.after ++ more;
  whole = chunks_more p.chunks stream p.after more p.whole;
  gives = p.gives;
  opens = opens_more part p.after rest more p.opens;
}

pub chunked_more : {stream body after : List ℕ} (more : List ℕ) → HasChunkedBody stream body after
    → HasChunkedBody (stream ++ more) body (after ++ more)
chunked_more {stream} {body} {after} more p = record {
  rest = p.rest ++ more;
  reaches = reaches_more more p.reaches;
  trailer = trailer_more more p.trailer;
}

pub at_more : (part : PartCode) (stream body rest more : List ℕ) → IsAt stream part body rest
    → IsAt (stream ++ more) part body (rest ++ more)
at_more Line stream body rest more p = reaches_more more p
at_more (Bytes left) stream body rest more p = record {
  size = p.size;
  before = p.before;
  got = p.got;
  reaches = subst (λ v. Reaches (stream ++ more) (bytes_part p.size) p.before v) (append_assoc p.got rest more)
      (reaches_more more p.reaches);
  gives = p.gives;
  sized = p.sized;
}
at_more Trailer stream body rest more p = reaches_more more p

fails_more : (part : Part) (rest more : List ℕ) → FailsAt part rest → FailsAt part (rest ++ more)
fails_more line_part rest more p = bad_line_more more p
fails_more (bytes_part n) rest more p =
    ⊎_elim (λ short. absurd (p (13 ∷ 10 ∷ []) [] (ap (λ v. v ++ 13 ∷ 10 ∷ []) (drop_all n rest (omega (
      arith,
      short,
    )))))) (λ long m after e.
    p (more ++ m) after (sym (append_assoc (drop n rest) more m) ∙ (ap (λ v. v ++ m) (sym (drop-append-le n rest more
    long)) ∙ e))) (cases_lt (length rest) n)
fails_more trailer_part rest more p = bad_trailer_more more p

-- no body comes later either
pub never_chunked : {most : ℕ} {stream : List ℕ} → StopsAt FailsAt most stream → (more b left : List ℕ)
    → ¬ (HasChunkedBody (stream ++ more) b left)
never_chunked {most} {stream} p more b left h =
    let later : StopsAt FailsAt most (stream ++ more) = record {
      part = p.part;
      body = p.body;
      rest = p.rest ++ more;
      reaches = reaches_more more p.reaches;
      within = p.within;
      fact = fails_more p.part p.rest more p.fact;
    } in
    fails_not later h

-- no byte came
pub ended_by : (more : Bool) → not more ≡ true → more ≡ false
ended_by true e = absurd (let f : false ≡ true = e in cc)
ended_by false e = refl

-- a byte came
pub goes_by : (more : Bool) → not more ≡ false → more ≡ true
goes_by true e = refl
goes_by false e = absurd (let f : true ≡ false = e in cc)
