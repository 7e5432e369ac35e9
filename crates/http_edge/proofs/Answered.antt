-- Heads of answers, at the front of bytes of which more may follow.
use Rattle.std.proofs.Common.{◌≡◌, ◌≢◌, ℕ, zero, suc, ◌+◌, ◌<◌, ◌≤◌, ⊎_elim, Bool, true, false, Option, Some, None, inl, inr, List, ◌++◌, length, take, drop, map, refl, sym, ap, subst, ◌∙◌, append_assoc, length-append, length-take, arith}
use Rattle.std.proofs.lemmas.Bool.{cases_lt, le-ltb}
use Rattle.std.proofs.lemmas.List.{take-append-le, drop-append-le, length-map}
use Rattle.std.specs.Prelude.{◌/◌, ◌==◌, ◌&&◌, not, nat_lt}
use Rattle.httparse.specs.Grammar.{ResponseHead, print_response, status_code}
use Rattle.httparse.specs.Spans.{IsResponseAt, header_bytes, ResponseExceeds, ResponseOverflows}
use Rattle.httparse.specs.Grammar.{NeverHasResponse}
use Rattle.httparse.specs.declared.Error.{Error}
use Rattle.httparse.specs.declared.Error.TheVariants.{HeaderName, HeaderValue, NewLine, Status, Token, TooManyHeaders, Version}
use Rattle.httparse.specs.declared.spans.HeaderSpan.{HeaderSpan}
use Rattle.httparse.specs.declared.spans.ResponseSpans.{ResponseSpans}
use Rattle.http_edge.specs.Message.{max_fields, max_head}
use Rattle.http_edge.specs.Post.{answer_framing_in, answer_framing_of, retry_after_in, retry_after_of, HasAnswerHead, HasFinalHead, RefusesAnswerHead, bad, many, long, SkipsInterims, is_interim, Tells, whole, bad_body, cut_body}
use Rattle.http_edge.specs.AnswerBody.{IsAnswerHead, IsAnswerBody}
use Rattle.http_edge.specs.declared.answer_head.AnswerHead.{AnswerHead}
use Rattle.send_retry.specs.Class.{AnswerData, Http, Failed}
use Rattle.http1.specs.declared.framing.Framing.{Framing}

pub has_answer_more : {bytes : List ℕ} {h : ResponseHead} {after : List ℕ} (more : List ℕ)
    → HasAnswerHead bytes h after → HasAnswerHead (bytes ++ more) h (after ++ more)
has_answer_more {bytes} {h} {after} more p = record {
  valid = p.valid;
  whole = ap (λ v. v ++ more) p.whole ∙ append_assoc (print_response h) after more;
  fields = p.fields;
  size = p.size;
}

pub answer_within : {bytes : List ℕ} {head : AnswerHead} {h : ResponseHead} → IsAnswerHead bytes head h
    → head.len ≤ length bytes
answer_within {bytes} {head} {h} p = omega (
  arith,
  ap length p.has.whole,
  p.len,
  length-append (print_response h) (drop head.len bytes),
)

pub answer_head_more : {bytes : List ℕ} {head : AnswerHead} {h : ResponseHead} (more : List ℕ)
    → IsAnswerHead bytes head h → IsAnswerHead (bytes ++ more) head h
answer_head_more {bytes} {head} {h} more p = record {
  has = rw (drop-append-le head.len bytes more (answer_within p)) (has_answer_more more p.has);
  len = p.len;
  status = p.status;
  framing = p.framing;
  retry_after = p.retry_after;
}

pub refuses_answer_more : (bytes more : List ℕ) → RefusesAnswerHead bytes → RefusesAnswerHead (bytes ++ more)
refuses_answer_more bytes more (bad p) = bad (λ rest. rw (append_assoc bytes more rest) (p (more ++ rest)))
refuses_answer_more bytes more (many p q) = many (
  p.0,
  p.1 ++ more,
  ap (λ v. v ++ more) p.2
      ∙ append_assoc p.0 p.1 more,
  p.3,
  p.4,
  p.5,
) (λ rest h after r.
    q (more ++ rest) h after (rw (← append_assoc bytes more rest) r))
refuses_answer_more bytes more (long p q) = long (omega (arith, p, length-append bytes more))
    (rw (take-append-le max_head bytes more p) q)

pub refuses_answer_error : (bytes : List ℕ) (e : Error) → (e ≢ TooManyHeaders → NeverHasResponse bytes)
    → (e ≡ TooManyHeaders → ResponseExceeds max_fields bytes) → ResponseOverflows max_fields bytes
    → RefusesAnswerHead bytes
refuses_answer_error bytes HeaderName p q r = bad (p (λ e. cc))
refuses_answer_error bytes HeaderValue p q r = bad (p (λ e. cc))
refuses_answer_error bytes NewLine p q r = bad (p (λ e. cc))
refuses_answer_error bytes Status p q r = bad (p (λ e. cc))
refuses_answer_error bytes Token p q r = bad (p (λ e. cc))
refuses_answer_error bytes TooManyHeaders p q r = many (q refl) r
refuses_answer_error bytes Version p q r = bad (p (λ e. cc))

pub has_answer_here : {bytes : List ℕ} {spans : List HeaderSpan} {found : ResponseSpans} {h : ResponseHead}
    → IsResponseAt bytes spans found h → length spans ≤ 64 → length bytes ≤ max_head → found.len ≤ length bytes
    → HasAnswerHead bytes h (drop found.len bytes)
has_answer_here {bytes} {spans} {found} {h} at room size within = record {
  valid = at.reads.0;
  whole = at.reads.1;
  fields = omega (arith, simp length-map at (ap length at.fields), length-take found.headers spans);
  size = omega (arith, at.len);
}

-- the status tells whether another head follows
pub status_interim : (b : Bool) {bytes : List ℕ} {head : AnswerHead} {h : ResponseHead} → IsAnswerHead bytes head h
    → b ≡ ((head.status / 100 == 1) && not (head.status == 101)) → b ≡ is_interim h
status_interim b is e = e ∙ ap (λ n. (n / 100 == 1) && not (n == 101)) is.status

-- more was read after the interim heads so far
pub skips_read : (n : ℕ) (read rest more : List ℕ) → SkipsInterims n read rest → SkipsInterims n (read ++ more) (rest
    ++ more)
skips_read zero read rest more p = ap (λ v. v ++ more) p
skips_read (suc n) read rest more p = (p.0, p.1 ++ more, has_answer_more more p.2, p.3, skips_read n p.1 rest more p.4)

-- one more interim head
pub skips_more : (n : ℕ) (h : ResponseHead) (read rest after : List ℕ) → SkipsInterims n read rest
    → HasAnswerHead rest h after → is_interim h ≡ true → SkipsInterims (suc n) read after
skips_more zero h read rest after p q interim = (
  h,
  after,
  subst (λ v. HasAnswerHead v h after) (sym p) q,
  interim,
  refl,
)
skips_more (suc n) h read rest after p q interim = (p.0, p.1, p.2, p.3, skips_more n h p.1 rest after p.4 q interim)

pub final_read : {read : List ℕ} {h : ResponseHead} {after : List ℕ} (more : List ℕ) → HasFinalHead read h after
    → HasFinalHead (read ++ more) h (after ++ more)
final_read {read} {h} {after} more p = record {
  interims = p.interims;
  few = p.few;
  rest = p.rest ++ more;
  skips = skips_read p.interims read p.rest more p.skips;
  head = has_answer_more more p.head;
  final = p.final;
}

-- one more interim head, counted as the code counts
pub skips_next : (n : ℕ) (h : ResponseHead) (read rest after : List ℕ) → SkipsInterims n read rest
    → HasAnswerHead rest h after → is_interim h ≡ true → SkipsInterims (n + 1) read after
skips_next n h read rest after p q interim =
    let e : suc n ≡ n + 1 = omega arith in
    subst (λ m. SkipsInterims m read after) e (skips_more n h read rest after p q interim)

pub framing_there : {bytes : List ℕ} {spans : List HeaderSpan} {found : ResponseSpans} {h : ResponseHead}
    → IsResponseAt bytes spans found h → (f : Option Framing)
    → f ≡ answer_framing_in found.code (map (header_bytes bytes) (take found.headers spans)) → f ≡ answer_framing_of h
unfolding answer_framing_of
framing_there {bytes} {spans} {found} {h} at f e =
    e ∙ (ap (λ v. answer_framing_in v (map (header_bytes bytes) (take found.headers spans))) at.code
    ∙ ap (answer_framing_in (status_code h)) at.fields)

pub retry_there : {bytes : List ℕ} {spans : List HeaderSpan} {found : ResponseSpans} {h : ResponseHead}
    → IsResponseAt bytes spans found h → (s : Option ℕ)
    → s ≡ retry_after_in (map (header_bytes bytes) (take found.headers spans)) → s ≡ retry_after_of h
unfolding retry_after_of
retry_there {bytes} {spans} {found} {h} at s e = e ∙ ap retry_after_in at.fields

-- what isn't below another number isn't found below it
pub still_before : (m n : ℕ) → ¬ (m < n) → nat_lt m n ≡ false
still_before m n not_less = ⊎_elim (λ less. absurd (not_less less)) (λ le. le-ltb m n le) (cases_lt m n)

-- what a head and its body come to
abbrev pub told_by : AnswerHead → Option (List ℕ) → AnswerData
told_by head None = Failed
told_by head (Some bytes) = Http head.status head.retry_after bytes

pub told_after : (read : List ℕ) {before buffer : List ℕ} {h : ResponseHead} {ended : Type 0} (over : Bool)
    (head : AnswerHead)
    (framing : Framing) → (ended → over ≡ true) → (¬ ended → over ≡ false) → IsAnswerHead buffer head h → head.framing ≡ Some framing
    → HasFinalHead before h (drop head.len buffer) → (found : Option (List ℕ))
    → IsAnswerBody framing (drop head.len buffer ++ read) ended found
    → Tells (before ++ read) over (told_by head found)
told_after read {before} {buffer} {h} {ended} over head framing since still is e final None (inl never) =
    bad_body h (drop head.len buffer ++ read) framing (final_read read final) (sym is.framing ∙ e) never
told_after read {before} {buffer} {h} {ended} over head framing since still is e final None (inr cut) =
    cut_body h (drop head.len buffer ++ read) framing (final_read read final) (sym is.framing ∙ e) cut.0 (since cut.1)
told_after read {before} {buffer} {h} {ended} over head framing since still is e final (Some bytes) found =
    rw (is.status, is.retry_after, found.5) (whole h (drop head.len buffer ++ read) found.0 found.1 framing
    (final_read read final) (sym is.framing ∙ e) found.2 (λ f. since (found.3 f))
    (λ f. still (found.4 f)))
