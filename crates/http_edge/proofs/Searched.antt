-- What ends in a line's end isn't completed by bytes that end no line.
use Rattle.std.proofs.Common.{◌≡◌, ℕ, ◌<◌, ◌≤◌, ◌||◌, not, ⊎_elim, Bool, true, false, List, [], ◌∷◌, ◌++◌, length, take, drop, refl, sym, ap, subst, ◌∙◌, append_assoc, append-nil, length-append, arith}
use Rattle.std.proofs.lemmas.Bool.{cases_lt}
use Rattle.std.proofs.lemmas.List.{take-append-drop, append_cancel_left}
use Rattle.std.proofs.lemmas.List.Folds.{list_any-append}
use Rattle.std.proofs.Math.Seq.{take-append_seam}
use Rattle.httparse.specs.Pieces.{Stops, is_newline}
use Rattle.httparse.specs.Grammar.{RequestHead, ResponseHead, Field, LineEnd, print_request, print_response, print_blank, print_version, print_end, print_reason, print_section, print_chunk_line, HasNoRequest, HasNoResponse}
use Rattle.httparse.proofs.PieceLemmas.{Stops_token}
use Rattle.httparse.proofs.GrammarLemmas.{print_request-append, print_response-append}
use Rattle.http1.proofs.TextLemmas.{front_within}
use Rattle.http_edge.specs.Limits.{max_body}
use Rattle.http_edge.specs.Message.{sized, chunked, HasNoBody}
use Rattle.http_edge.specs.Chunks.{has_line_end, has_text, HasChunk, HasChunks, HasChunkedBody, StopsAt, LacksAt}
use Rattle.http_edge.specs.declared.wire.Watch.{Watch}
use Rattle.http_edge.specs.declared.head.HeadProgress.{HeadProgress}
use Rattle.http_edge.specs.declared.head.HeadProgress.TheVariants.{Whole, More, TooMany, Refuse, OutOfMemory}
use Rattle.http_edge.specs.declared.answer_head.AnswerHeadProgress.{AnswerHeadProgress}
use Rattle.http_edge.specs.declared.answer_head.AnswerHeadProgress.TheVariants as Begin
use Rattle.http_edge.specs.AnswerBody.{IfAnswerHead}
use Rattle.http_edge.specs.Stages.{IsHeadProgress, IfHead, IsWatched}
use Rattle.http_edge.proofs.Lines.{section_front, section_split}
use Rattle.http_edge.proofs.Once.{lacks_not}

-- what would settle a test that isn't met doesn't hold
pub not_so : (b : Bool) → (b ≡ true → false ≡ true) → b ≡ false
not_so true f = absurd (let e : false ≡ true = f refl in cc)
not_so false f = refl

-- ---- texts that end in LF

any_last : (b : Bool) → (b || true) ≡ true
any_last true = refl
any_last false = refl

-- what follows a front and ends no line leaves each text that ends in LF in the front
ended_within : (front more text after : List ℕ) → has_line_end more ≡ false → front ++ more ≡ text ++ 10 ∷ after
    → (rest : List ℕ) × (front ≡ text ++ 10 ∷ rest)
ended_within front more text after none e = ⊎_elim long short (cases_lt (length text) (length front))
  where
    ended : List ℕ
    ended = text ++ 10 ∷ []

    long : length text < length front → (rest : List ℕ) × (front ≡ text ++ 10 ∷ rest)
    long l =
        let fits : length ended ≤ length front = omega (arith, l, length-append text (10 ∷ [])) in
        let rest = drop (length ended) front in
        let here = front_within front more ended after (e ∙ sym (append_assoc text (10 ∷ []) after)) fits in
        (rest, here ∙ append_assoc text (10 ∷ []) rest)

    short : length front ≤ length text → (rest : List ℕ) × (front ≡ text ++ 10 ∷ rest)
    short s =
        let left = drop (length front) text in
        let split = front_within text (10 ∷ after) front more (sym e) s in
        let same : more ≡ left ++ 10 ∷ after =
        append_cancel_left front more (left ++ 10 ∷ after)
        (e ∙ (ap (λ v. v ++ 10 ∷ after) split ∙ append_assoc front left (10 ∷ after))) in
        let met : has_line_end more ≡ true =
        ap has_line_end same ∙ (list_any-append _ left (10 ∷ after) ∙ any_last (has_line_end left)) in
        let both : true ≡ false = sym met ∙ none in
        absurd (cc)

-- the text ends in LF
abbrev pub EndsLine : List ℕ → Type 0
EndsLine text = (front : List ℕ) × (text ≡ front ++ 10 ∷ [])

ends_after : (xs ys : List ℕ) → EndsLine ys → EndsLine (xs ++ ys)
ends_after xs ys p = (xs ++ p.0, ap (λ v. xs ++ v) p.1 ∙ sym (append_assoc xs p.0 (10 ∷ [])))

ends_from : (x : ℕ) (ys : List ℕ) → EndsLine ys → EndsLine (x ∷ ys)
ends_from x ys p = (x ∷ p.0, ap (λ v. x ∷ v) p.1)

-- so a front of which more follows has it
line_within : (front more text after : List ℕ) → has_line_end more ≡ false → EndsLine text → front ++ more ≡ text ++ after
    → (rest : List ℕ) × (front ≡ text ++ rest)
line_within front more text after none ends e =
    let found = ended_within front more ends.0 after none
    (e ∙ (ap (λ v. v ++ after) ends.1 ∙ append_assoc ends.0 (10 ∷ []) after)) in
    (found.0, found.1 ∙ (sym (append_assoc ends.0 (10 ∷ []) found.0) ∙ ap (λ v. v ++ found.0) (sym ends.1)))

-- ---- bytes of empty lines alone

text_begins : (xs : List ℕ) → Stops is_newline xs → has_text xs ≡ true
text_begins [] s = absurd s
text_begins (x ∷ xs) s = ap (λ (b : Bool). not b || has_text xs) s

blank_not : (xs ys : List ℕ) → has_text (xs ++ ys) ≡ false → Stops is_newline ys → ⊥
blank_not xs ys none s =
    let some : has_text (xs ++ ys) ≡ true =
    list_any-append _ xs ys ∙ (ap (λ (b : Bool). has_text xs || b) (text_begins ys s) ∙ any_last (has_text xs)) in
    let both : true ≡ false = sym some ∙ none in
    absurd (cc)

both_blank : (seen : ℕ) (bytes : List ℕ) → has_text (take seen bytes) ≡ false → has_text (drop seen bytes) ≡ false
    → has_text bytes ≡ false
both_blank seen bytes front more =
    ap has_text (sym (take-append-drop seen bytes))
    ∙ (list_any-append _ (take seen bytes) (drop seen bytes)
    ∙ (ap (λ (b : Bool). b || has_text (drop seen bytes)) front ∙ more))

-- ---- heads

section_ends : (fs : List Field) (last : LineEnd) → EndsLine (print_section fs last ++ [])
section_ends fs last = (section_front fs last, append-nil (print_section fs last) ∙ section_split fs last)

request_ends : (h : RequestHead) → EndsLine (print_request h)
request_ends h =
    subst EndsLine (sym (sym (append-nil (print_request h)) ∙ print_request-append h []))
    (ends_after (print_blank h.blank) _ (ends_after h.method _ (ends_from 32 _ (ends_after h.target _ (ends_from 32 _
    (ends_after (print_version h.minor) _ (ends_after (print_end h.line_end) _
    (section_ends h.fields h.last))))))))

response_ends : (h : ResponseHead) → EndsLine (print_response h)
response_ends h =
    subst EndsLine (sym (sym (append-nil (print_response h)) ∙ print_response-append h []))
    (ends_after (print_blank h.blank) _ (ends_after (print_version h.minor) _ (ends_from 32 _ (ends_after h.digits _
    (ends_after (print_reason h.reason) _ (ends_after (print_end h.line_end) _
    (section_ends h.fields h.last)))))))

pub request_blank : (bytes : List ℕ) → has_text bytes ≡ false → HasNoRequest bytes
request_blank bytes none h rest r =
    blank_not (print_blank h.blank) _ (ap has_text (sym (r.1 ∙ print_request-append h rest)) ∙ none)
    (Stops_token h.method _ r.0.method.0 r.0.method.1)

version_begins : (minor : ℕ) (rest : List ℕ) → Stops is_newline (print_version minor ++ rest)
version_begins minor rest = refl

pub response_blank : (bytes : List ℕ) → has_text bytes ≡ false → HasNoResponse bytes
response_blank bytes none h rest r =
    let after = 32 ∷ (h.digits ++ (print_reason h.reason ++ (print_end h.line_end
    ++ (print_section h.fields h.last ++ rest)))) in
    blank_not (print_blank h.blank) (print_version h.minor ++ after)
    (ap has_text (sym (r.1 ∙ print_response-append h rest)) ∙ none) (version_begins h.minor after)

-- the front that was searched has no head, and what follows it ends no line, or is of empty lines: so there is none
pub no_request_yet : (seen : ℕ) (bytes : List ℕ) (begun : Bool) → HasNoRequest (take seen bytes)
    → (begun ≡ true → has_line_end (drop seen bytes) ≡ false) → (begun ≡ false → has_text bytes ≡ false)
    → HasNoRequest bytes
no_request_yet seen bytes true none line blank = λ h rest r.
    let found = line_within (take seen bytes) (drop seen bytes) (print_request h) rest (line refl) (request_ends h)
    (take-append-drop seen bytes ∙ r.1) in
    none h found.0 (r.0, found.1)
no_request_yet seen bytes false none line blank = request_blank bytes (blank refl)

pub no_response_yet : (seen : ℕ) (bytes : List ℕ) (begun : Bool) → HasNoResponse (take seen bytes)
    → (begun ≡ true → has_line_end (drop seen bytes) ≡ false) → (begun ≡ false → has_text bytes ≡ false)
    → HasNoResponse bytes
no_response_yet seen bytes true none line blank = λ h rest r.
    let found = line_within (take seen bytes) (drop seen bytes) (print_response h) rest (line refl) (response_ends h)
    (take-append-drop seen bytes ∙ r.1) in
    none h found.0 (r.0, found.1)
no_response_yet seen bytes false none line blank = response_blank bytes (blank refl)

-- ---- bodies in chunks

-- a chunk's bytes, behind which anything may follow
chunk_text : {s c a : List ℕ} → HasChunk s c a → (text : List ℕ) × (s ≡ text ++ a)
    × ((rest : List ℕ) → HasChunk (text ++ rest) c rest)
chunk_text {s} {c} {a} p =
    let line = print_chunk_line p.line in
    let joined : (rest : List ℕ) → line ++ (c ++ (13 ∷ 10 ∷ rest)) ≡ (line ++ (c ++ (13 ∷ 10 ∷ []))) ++ rest =
    λ rest. sym (append_assoc line (c ++ (13 ∷ 10 ∷ [])) rest
    ∙ ap (λ v. line ++ v) (append_assoc c (13 ∷ 10 ∷ []) rest)) in (
      line ++ (c ++ (13 ∷ 10 ∷ [])),
      p.has.reads.1 ∙ (ap (λ v. line ++ v) p.whole ∙ joined a),
      λ rest. record {
        line = p.line;
        follows = c ++ (13 ∷ 10 ∷ rest);
        has = record { reads = (p.has.reads.0, sym (joined rest)); short = p.has.short };
        some = p.some;
        sized = p.sized;
        whole = refl;
      },
    )

chunks_text : (cs : List (List ℕ)) (s a : List ℕ) → HasChunks cs s a → (text : List ℕ) × (s ≡ text ++ a)
    × ((rest : List ℕ) → HasChunks cs (text ++ rest) rest)
chunks_text [] s a p = ([], p, λ rest. refl)
chunks_text (c ∷ cs) s a p =
    let first = chunk_text p.1 in
    let others = chunks_text cs p.0 a p.2 in (
      first.0 ++ others.0,
      first.1 ∙ (ap (λ v. first.0 ++ v) others.1 ∙ sym (append_assoc first.0 others.0 a)),
      λ rest. (
        others.0 ++ rest,
        subst (λ v. HasChunk v c (others.0 ++ rest)) (sym (append_assoc first.0 others.0 rest)) (first.2 (others.0 ++ rest)),
        others.2 rest,
      ),
    )

-- the bytes of a whole body end in LF, and anything may follow them
pub record BodyText (stream body after : List ℕ) : Type 0 where
  pub text : List ℕ
  pub ends : EndsLine text
  pub whole : stream ≡ text ++ after
  pub again : (rest : List ℕ) → HasChunkedBody (text ++ rest) body rest

body_text : (stream body after : List ℕ) → HasChunkedBody stream body after → BodyText stream body after
body_text stream body after p =
    let chunks = chunks_text p.reaches.chunks stream p.reaches.after p.reaches.whole in
    let line = print_chunk_line p.reaches.opens.0 in
    let section = print_section p.trailer.fields p.trailer.last in
    let joined : (rest : List ℕ) → chunks.0 ++ (line ++ (section ++ rest)) ≡ (chunks.0 ++ (line ++ section)) ++ rest =
    λ rest. sym (append_assoc chunks.0 (line ++ section) rest ∙ ap (λ v. chunks.0 ++ v) (append_assoc line section rest)) in
    record {
      text = chunks.0 ++ (line ++ section);
      ends = ends_after chunks.0 _ (ends_after line _ (
        section_front p.trailer.fields p.trailer.last,
        section_split p.trailer.fields p.trailer.last,
      ));
      whole = chunks.1 ∙ (ap (λ v. chunks.0 ++ v) (p.reaches.opens.1.reads.1 ∙ ap (λ v. line ++ v) p.trailer.reads.1)
          ∙ joined after);
      again = λ rest. record {
        rest = section ++ rest;
        reaches = record {
          chunks = p.reaches.chunks;
          after = line ++ (section ++ rest);
          whole = subst (λ v. HasChunks p.reaches.chunks v (line ++ (section ++ rest))) (joined rest)
              (chunks.2 (line ++ (section ++ rest)));
          gives = p.reaches.gives;
          opens = (
            p.reaches.opens.0,
            record { reads = (p.reaches.opens.1.reads.0, refl); short = p.reaches.opens.1.short },
            p.reaches.opens.2,
          );
        };
        trailer = record {
          fields = p.trailer.fields;
          last = p.trailer.last;
          reads = (p.trailer.reads.0, refl);
          few = p.trailer.few;
          short = p.trailer.short;
        };
      };
    }

-- a stream that is shorter than a body has none
pub no_body_short : (n : ℕ) (stream : List ℕ) → length stream < n → HasNoBody (sized n) stream
no_body_short n stream less = λ body after h.
    absurd (omega (arith, ap length h.1, length-append body after, h.0, less))

pub no_body_at_all : HasNoBody chunked []
no_body_at_all body after p =
    let t = body_text [] body after p in
    absurd (omega (
      arith,
      ap length t.whole,
      length-append t.text after,
      ap length t.ends.1,
      length-append t.ends.0 (10 ∷ []),
    ))

-- the front that was searched has none, and it was looked at again or what follows ends no line: so there is none
pub no_body_since : (stream front more : List ℕ) (due : Bool) → stream ≡ front ++ more → HasNoBody chunked front
    → (due ≡ true → HasNoBody chunked stream) → (has_line_end more ≡ true → due ≡ true) → HasNoBody chunked stream
no_body_since stream front more true e none looked line = looked refl
no_body_since stream front more false e none looked line = λ body after p.
    let t = body_text stream body after p in
    let found = line_within front more t.text after (not_so (has_line_end more) line) t.ends (sym e ∙ t.whole) in
    none body found.0 (subst (λ v. HasChunkedBody v body found.0) (sym found.1) (t.again found.0))

pub no_body_yet : (stream front more : List ℕ) (due : Bool) → stream ≡ front ++ more → HasNoBody chunked front
    → (due ≡ true → StopsAt LacksAt max_body stream) → (has_line_end more ≡ true → due ≡ true) → HasNoBody chunked stream
no_body_yet stream front more due e none lacks line = no_body_since stream front more due e none
    (λ met body after p. lacks_not (lacks met) p) line

-- ---- what a watch knows

-- of bytes among which nothing has begun none had before
pub blank_yet : (seen : ℕ) (bytes : List ℕ) (old new : Bool) → (old ≡ true → new ≡ true)
    → (old ≡ false → has_text (take seen bytes) ≡ false) → (new ≡ false → has_text (drop seen bytes) ≡ false)
    → new ≡ false → has_text bytes ≡ false
blank_yet seen bytes true new keeps front more is = absurd (let e : true ≡ false = sym (keeps refl) ∙ is in cc)
blank_yet seen bytes false new keeps front more is = both_blank seen bytes (front refl) (more is)

-- a watch that has searched all that there was has searched the front of what there is once more was read
pub watched_more : {HasNone : List ℕ → Type 0} {now : List ℕ} {watch : Watch} (bytes read : List ℕ)
    → watch.seen ≡ length bytes → now ≡ bytes ++ read → HasNone bytes
    → (watch.is_begun ≡ false → has_text bytes ≡ false) → IsWatched HasNone now watch
watched_more {HasNone} {now} {watch} bytes read seen is none blank =
    let front : take watch.seen now ≡ bytes =
    ap (λ n. take n now) seen ∙ (ap (take (length bytes)) is ∙ take-append_seam bytes read) in
    record {
      within = omega (arith, seen, ap length is, length-append bytes read);
      none = subst HasNone (sym front) none;
      blank = λ f. ap has_text front ∙ blank f;
    }

-- what holds of the line holds where a head is whole
pub if_head : (begin : HeadProgress) {A : Type 0} → A → IfHead begin A
if_head (Whole head) {A} a = a
if_head More {A} a = tt
if_head TooMany {A} a = tt
if_head (Refuse status bodiless) {A} a = tt
if_head (OutOfMemory bodiless) {A} a = tt

-- and where there is none, no head is whole
pub if_no_head : (bytes : List ℕ) (begin : HeadProgress) (A : Type 0) → HasNoRequest bytes → IsHeadProgress bytes begin
    → IfHead begin A
if_no_head bytes (Whole head) A none is = absurd (none is.0 (drop head.len bytes) (is.1.has.valid, is.1.has.whole))
if_no_head bytes More A none is = tt
if_no_head bytes TooMany A none is = tt
if_no_head bytes (Refuse status bodiless) A none is = tt
if_no_head bytes (OutOfMemory bodiless) A none is = tt

pub if_answer_head : (begin : AnswerHeadProgress) {A : Type 0} → A → IfAnswerHead begin A
if_answer_head (Begin.Whole head) {A} a = a
if_answer_head Begin.More {A} a = tt
if_answer_head Begin.Bad {A} a = tt

-- where the input has ended and all that came was searched, no whole body is found
pub still_going : {A : Type 0} (ended : Bool) (stream front more body after : List ℕ) → stream ≡ front ++ more → HasNoBody chunked front
    → (ended ≡ true → more ≡ []) → HasChunkedBody stream body after → (ended ≡ false → A) → A
still_going {A} true stream front more body after e none over p going =
    absurd (none body after (subst (λ v. HasChunkedBody v body after)
    (e ∙ (ap (λ v. front ++ v) (over refl) ∙ append-nil front)) p))
still_going {A} false stream front more body after e none over p going = going refl
