-- Bytes tell one answer.
use Rattle.std.proofs.Common.{◌≡◌, ◌≢◌, ℕ, zero, suc, ◌≤◌, ◌⊎◌, ⊎_elim, inl, inr, Bool, true, false, List, [], ◌++◌, length, take, drop, Option, Some, None, refl, sym, ap, subst, ◌∙◌, append-nil, length-append, length-take, arith}
use Rattle.std.proofs.lemmas.List.{take-append-drop}
use Rattle.httparse.specs.Grammar.{ResponseHead, print_response, status_code, HasNoResponse}
use Rattle.httparse.proofs.GrammarLemmas.{response_unique}
use Rattle.http1.specs.declared.framing.Framing.{Framing}
use Rattle.http1.specs.declared.framing.Framing.TheVariants.{NoBody, Length, Chunked, UntilClose}
use Rattle.http1.proofs.TextLemmas.{front_within}
use Rattle.send_retry.specs.Class.{AnswerData, Http, Failed}
use Rattle.http_edge.specs.Message.{max_head}
use Rattle.http_edge.specs.Post.{HasAnswerHead, HasAnswerBody, HasFinalHead, RefusesAnswerHead, bad, many, long, SkipsInterims, is_interim, answer_framing_of, retry_after_of, kept_of, Tells, whole, many_interims, bad_head, bad_framing, bad_body, cut_head, cut_body, LacksAnswer, OneAnswer}
use Rattle.http_edge.proofs.Parts.{fronts_same}
use Rattle.http_edge.specs.declared.answer_head.AnswerHead.{AnswerHead}
use Rattle.http_edge.specs.AnswerBody.{IsAnswerHead, LacksAnswerBody}
use Rattle.http_edge.proofs.Answered.{final_read}
use Rattle.http_edge.proofs.Once.{chunked_same}

answer_same : {bytes : List ℕ} {h k : ResponseHead} {a b : List ℕ} → HasAnswerHead bytes h a → HasAnswerHead bytes k b
    → (h ≡ k) × (a ≡ b)
answer_same {bytes} {h} {k} {a} {b} p q = response_unique bytes h k a b (p.valid, p.whole) (q.valid, q.whole)

refuses_not : {rest : List ℕ} {h : ResponseHead} {after : List ℕ} → RefusesAnswerHead rest → HasAnswerHead rest h after
    → ⊥
refuses_not {rest} {h} {after} (bad p) has = p [] h after (has.valid, append-nil rest ∙ has.whole)
refuses_not {rest} {h} {after} (many p q) has = let over = q [] h after (
  has.valid,
  append-nil rest
      ∙ has.whole,
) in absurd (omega (arith, over, has.fields))
refuses_not {rest} {h} {after} (long p q) has =
    let text = print_response h in
    let split = take-append-drop max_head rest ∙ has.whole in
    let short : length text ≤ length (take max_head rest) = omega (
      arith,
      has.size,
      ap length has.whole,
      length-append text after,
      length-take max_head rest,
    ) in
    q h (drop (length text) (take max_head rest)) (
      has.valid,
      front_within (take max_head rest) (drop max_head rest)
          text after split short,
    )

not_both : (b : Bool) → b ≡ true → b ≡ false → ⊥
not_both b p q = let e : true ≡ false = sym p ∙ q in cc

-- where the final head stands after m interim ones, n of which were skipped, another head stands there
head_there : (n m : ℕ) (read rest last : List ℕ) (h : ResponseHead) (after : List ℕ) → SkipsInterims n read rest
    → SkipsInterims m read last → HasAnswerHead last h after → is_interim h ≡ false
    → (k : ResponseHead) × (b : List ℕ) × HasAnswerHead rest k b × (n ≤ m)
head_there zero zero read rest last h after p q has final = (
  h,
  after,
  subst (λ v. HasAnswerHead v h after) (sym q
      ∙ p) has,
  omega arith,
)
head_there zero (suc m) read rest last h after p q has final = (
  q.0,
  q.1,
  subst (λ v. HasAnswerHead v q.0 q.1) p q.2,
  omega arith,
)
head_there (suc n) zero read rest last h after p q has final =
    let s = answer_same p.2 (subst (λ v. HasAnswerHead v h after) (sym q) has) in
    absurd (not_both (is_interim p.0) p.3 (ap is_interim s.0 ∙ final))
head_there (suc n) (suc m) read rest last h after p q has final =
    let s = answer_same p.2 q.2 in
    let r = head_there n m q.1 rest last h after (subst (λ v. SkipsInterims n v rest) s.1 p.4) q.4 has final in
    (r.0, r.1, r.2, omega (arith, r.3))

finals_same : (n m : ℕ) (read rest last : List ℕ) (h k : ResponseHead) (a b : List ℕ) → SkipsInterims n read rest
    → HasAnswerHead rest h a → is_interim h ≡ false
    → SkipsInterims m read last → HasAnswerHead last k b → is_interim k ≡ false → (h ≡ k) × (a ≡ b)
finals_same zero zero read rest last h k a b p x f q y g = answer_same (subst (λ v. HasAnswerHead v h a) (sym p) x)
    (subst (λ v. HasAnswerHead v k b) (sym q) y)
finals_same zero (suc m) read rest last h k a b p x f q y g =
    let s = answer_same q.2 (subst (λ v. HasAnswerHead v h a) (sym p) x) in
    absurd (not_both (is_interim q.0) q.3 (ap is_interim s.0 ∙ f))
finals_same (suc n) zero read rest last h k a b p x f q y g =
    let s = answer_same p.2 (subst (λ v. HasAnswerHead v k b) (sym q) y) in
    absurd (not_both (is_interim p.0) p.3 (ap is_interim s.0 ∙ g))
finals_same (suc n) (suc m) read rest last h k a b p x f q y g =
    let s = answer_same p.2 q.2 in
    finals_same n m q.1 rest last h k a b (subst (λ v. SkipsInterims n v rest) s.1 p.4) x f q.4 y g

final_same : {read : List ℕ} {h k : ResponseHead} {a b : List ℕ} → HasFinalHead read h a → HasFinalHead read k b
    → (h ≡ k) × (a ≡ b)
final_same {read} {h} {k} {a} {b} p q = finals_same p.interims q.interims read p.rest q.rest h k a b p.skips p.head
    p.final q.skips q.head q.final

-- a whole answer
record Whole (read : List ℕ) (answer : AnswerData) : Type 0 where
  h : ResponseHead
  after : List ℕ
  body : List ℕ
  left : List ℕ
  framing : Framing
  final : HasFinalHead read h after
  framed : answer_framing_of h ≡ Some framing
  has : HasAnswerBody framing after body left
  is : answer ≡ Http (status_code h) (retry_after_of h) (kept_of body)

sorted : {read : List ℕ} {ended : Bool} {answer : AnswerData} → Tells read ended answer → (answer ≡ Failed)
    ⊎ Whole read answer
sorted (whole h after body left framing p q r e f) = inr (record {
  h = h;
  after = after;
  body = body;
  left = left;
  framing = framing;
  final = p;
  framed = q;
  has = r;
  is = refl;
})
sorted (many_interims rest p) = inl refl
sorted (bad_head n rest few p q) = inl refl
sorted (bad_framing h after p q) = inl refl
sorted (bad_body h after framing p q r) = inl refl
sorted (cut_head n rest few p q e) = inl refl
sorted (cut_body h after framing p q r e) = inl refl

some_same : {A : Type 0} {x y : A} → Some x ≡ Some y → x ≡ y
some_same {A} {x} {y} e = cc

-- how its body's end is found follows from the final head, however that is named
framing_same : {read : List ℕ} {answer : AnswerData} (w : Whole read answer) {k : ResponseHead} {later : List ℕ}
    {framing : Framing} → HasFinalHead read k later → answer_framing_of k ≡ Some framing → w.framing ≡ framing
framing_same {read} {answer} w {k} {later} {framing} p q =
    let s = final_same w.final p in
    some_same (sym w.framed ∙ (ap answer_framing_of s.0 ∙ q))

-- the body of a whole answer stands after the final head, however that is named
body_there : {read : List ℕ} {answer : AnswerData} (w : Whole read answer) {k : ResponseHead} {later : List ℕ}
    {framing : Framing} → HasFinalHead read k later → answer_framing_of k ≡ Some framing
    → HasAnswerBody framing later w.body w.left
body_there {read} {answer} w {k} {later} {framing} p q =
    let s = final_same w.final p in
    let f = framing_same w p q in
    subst (λ v. HasAnswerBody framing v w.body w.left) s.1 (subst (λ v. HasAnswerBody v w.after w.body w.left) f w.has)

whole_not : {read : List ℕ} {ended : Bool} {answer : AnswerData} → Tells read ended Failed → Whole read answer → ⊥
whole_not (many_interims rest p) w =
    let t = head_there 17 w.final.interims _ rest w.final.rest w.h w.after p w.final.skips w.final.head w.final.final in
    absurd (omega (arith, t.3, w.final.few))
whole_not (bad_head n rest few p q) w =
    let t = head_there n w.final.interims _ rest w.final.rest w.h w.after p w.final.skips w.final.head w.final.final in
    refuses_not q t.2
whole_not (bad_framing h after p q) w =
    let s = final_same w.final p in
    let e : Some w.framing ≡ None = sym w.framed ∙ (ap answer_framing_of s.0 ∙ q) in cc
whole_not (bad_body h after framing p q r) w = r [] w.body w.left (rw (append-nil after) (body_there w p q))
whole_not (cut_head n rest few p q e) w =
    let t = head_there n w.final.interims _ rest w.final.rest w.h w.after p w.final.skips w.final.head w.final.final in
    q t.0 t.1 (t.2.valid, t.2.whole)
whole_not (cut_body h after framing p q r e) w = r w.body w.left (body_there w p q)

answer_body_same : (framing : Framing) (s b c x y : List ℕ) → HasAnswerBody framing s b x → HasAnswerBody framing s c y
    → b ≡ c
answer_body_same NoBody s b c x y p q = fronts_same b c x y (p.0 ∙ sym q.0) (sym p.1 ∙ q.1)
answer_body_same (Length n) s b c x y p q = fronts_same b c x y (p.0 ∙ sym q.0) (sym p.1 ∙ q.1)
answer_body_same Chunked s b c x y p q = (chunked_same p q).0
answer_body_same UntilClose s b c x y p q = p.0 ∙ sym q.0

whole_same : {read : List ℕ} {a b : AnswerData} → Whole read a → Whole read b → a ≡ b
whole_same {read} {a} {b} x y =
    let s = final_same x.final y.final in
    let there = body_there x y.final y.framed in
    let body = answer_body_same y.framing y.after x.body y.body x.left y.left there y.has in
    x.is ∙ ((λ i. Http (status_code (s.0 i)) (retry_after_of (s.0 i)) (kept_of (body i))) ∙ sym y.is)

pub one_answer : OneAnswer
one_answer read ended over a b x y = joined (sorted x) (sorted y)
  where
    joined : (a ≡ Failed) ⊎ Whole read a → (b ≡ Failed) ⊎ Whole read b → a ≡ b
    joined (inl p) (inl q) = p ∙ sym q
    joined (inl p) (inr w) = absurd (whole_not (subst (Tells read ended) p x) w)
    joined (inr w) (inl q) = absurd (whole_not (subst (Tells read over) q y) w)
    joined (inr v) (inr w) = whole_same v w

-- ---- where a read failed

-- before the end of the input a whole answer states its end
stated : {read : List ℕ} {answer : AnswerData} → Tells read false answer → (answer ≡ Failed)
    ⊎ ((w : Whole read answer) × (w.framing ≢ UntilClose))
stated (whole h after body left framing p q r e f) = inr (
  record {
    h = h;
    after = after;
    body = body;
    left = left;
    framing = framing;
    final = p;
    framed = q;
    has = r;
    is = refl;
  },
  λ same. not_both false (e same) refl,
)
stated (many_interims rest p) = inl refl
stated (bad_head n rest few p q) = inl refl
stated (bad_framing h after p q) = inl refl
stated (bad_body h after framing p q r) = inl refl
stated (cut_head n rest few p q e) = inl refl
stated (cut_body h after framing p q r e) = inl refl

not_failed : (status : ℕ) (retry_after : Option ℕ) (body : List ℕ) → Http status retry_after body ≡ Failed → ⊥
not_failed status retry_after body e = cc

-- where no whole head follows the interim ones there is no whole answer
pub lacks_head : (n : ℕ) (read rest : List ℕ) → n ≤ 16 → SkipsInterims n read rest → HasNoResponse rest
    → LacksAnswer read
lacks_head n read rest few skips none = λ status retry_after body t.
    not_failed status retry_after body
    (one_answer read false true (Http status retry_after body) Failed t (cut_head n rest few skips none refl))

-- and none where a head that states its body's end has no whole body
lacks_final : {read : List ℕ} {h : ResponseHead} {after : List ℕ} (framing : Framing) → HasFinalHead read h after
    → answer_framing_of h ≡ Some framing → LacksAnswerBody framing after → LacksAnswer read
lacks_final {read} {h} {after} framing final framed none = λ status retry_after body t.
    ⊎_elim (not_failed status retry_after body)
    (λ w. none (λ e. w.1 (framing_same w.0 final framed ∙ e)) w.0.body w.0.left (body_there w.0 final framed)) (stated t)

pub lacks_after : (read : List ℕ) {before buffer : List ℕ} {h : ResponseHead} (head : AnswerHead) (framing : Framing)
    → IsAnswerHead buffer head h → head.framing ≡ Some framing → HasFinalHead before h (drop head.len buffer)
    → LacksAnswerBody framing (drop head.len buffer ++ read) → LacksAnswer (before ++ read)
lacks_after read {before} {buffer} {h} head framing is e final none =
    lacks_final framing (final_read read final) (sym is.framing ∙ e) none
