-- A stream comes to one end of a body in chunks, or to one place before it.
use Rattle.std.proofs.Common.{◌≡◌, ℕ, ◌+◌, ◌<◌, ◌≤◌, inl, inr, List, [], ◌∷◌, ◌++◌, length, drop, refl, sym, ap, subst, ◌∙◌, append-nil, length-append, drop_at, arith}
use Rattle.std.specs.List.{concat}
use Rattle.httparse.specs.Grammar.{ChunkLine, chunk_size}
use Rattle.http_edge.specs.Chunks.{HasLine, HasTrailer, HasChunk, HasChunks, Part, line_part, bytes_part, trailer_part, Opens, Reaches, stated_by, FailsAt, LacksAt, HasChunkedBody, StatesMore, StopsAt}
use Rattle.http_edge.proofs.Parts.{line_same, bad_line_not, lacks_line_not, bad_lacks_line, trailer_same, bad_trailer_not, lacks_trailer_not, bad_lacks_trailer, chunk_same}

-- how the reading of a body comes to stop
pub data Kind : Type 0 where
  too_much faulty less : Kind
  came : List ℕ → Kind

-- what stands where a part is due, after so many bytes of data
pub data Stands (most sum : ℕ) (rest : List ℕ) : Part → Kind → Type 0 where
  fails : (part : Part) → stated_by part sum ≤ most → FailsAt part rest → Stands most sum rest part faulty
  lacks : (part : Part) → stated_by part sum ≤ most → LacksAt part rest → Stands most sum rest part less
  over : (n : ℕ) → sum ≤ most → most < sum + n → Stands most sum rest (bytes_part n) too_much
  ends : (after : List ℕ) → sum ≤ most → HasTrailer rest after → Stands most sum rest trailer_part (came after)

fails_not_lacks : (part : Part) (rest : List ℕ) → FailsAt part rest → LacksAt part rest → ⊥
fails_not_lacks line_part rest f l = bad_lacks_line f l
fails_not_lacks (bytes_part n) rest f (inl e) = f (13 ∷ 10 ∷ []) [] (ap (λ v. v ++ 13 ∷ 10 ∷ []) e)
fails_not_lacks (bytes_part n) rest f (inr e) = f (10 ∷ []) [] (ap (λ v. v ++ 10 ∷ []) e)
fails_not_lacks trailer_part rest f l = bad_lacks_trailer f l

stands_same : {most sum : ℕ} {rest : List ℕ} {part : Part} {k j : Kind} → Stands most sum rest part k
    → Stands most sum rest part j → k ≡ j
stands_same (fails p x f) (fails _ y g) = refl
stands_same {rest = rest} (fails p x f) (lacks _ y g) = absurd (fails_not_lacks p rest f g)
stands_same (fails _ x f) (over n y z) = absurd (omega (arith, x, z))
stands_same (fails _ x f) (ends after y t) = absurd (bad_trailer_not f t)
stands_same {rest = rest} (lacks p x f) (fails _ y g) = absurd (fails_not_lacks p rest g f)
stands_same (lacks p x f) (lacks _ y g) = refl
stands_same (lacks _ x f) (over n y z) = absurd (omega (arith, x, z))
stands_same (lacks _ x f) (ends after y t) = absurd (lacks_trailer_not f t)
stands_same (over n x y) (fails _ z f) = absurd (omega (arith, y, z))
stands_same (over n x y) (lacks _ z f) = absurd (omega (arith, y, z))
stands_same (over n x y) (over _ z w) = refl
stands_same (ends after x t) (fails _ y f) = absurd (bad_trailer_not f t)
stands_same (ends after x t) (lacks _ y f) = absurd (lacks_trailer_not f t)
stands_same (ends after x t) (ends later y u) = ap came (trailer_same t u)

-- where a line is due and doesn't stand, no line stands
line_stands_not : {most sum : ℕ} {s a : List ℕ} {k : Kind} {l : ChunkLine} → Stands most sum s line_part k
    → HasLine s l a → ⊥
line_stands_not (fails _ x f) h = bad_line_not f h
line_stands_not (lacks _ x f) h = lacks_line_not f h

opened_same : {most sum : ℕ} {k j : Kind} (p q : Part) (s x y : List ℕ) → Opens s p x → Opens s q y
    → Stands most sum x p k → Stands most sum y q j → k ≡ j
opened_same {most} {sum} {k} {j} line_part line_part s x y o r a b =
    stands_same (subst (λ v. Stands most sum v line_part k) (sym o) a) (subst (λ v. Stands most sum v line_part j)
    (sym r) b)
opened_same {most} {sum} {k} line_part (bytes_part n) s x y o r a b =
    absurd (line_stands_not (subst (λ v. Stands most sum v line_part k) (sym o) a) r.1)
opened_same {most} {sum} {k} line_part trailer_part s x y o r a b =
    absurd (line_stands_not (subst (λ v. Stands most sum v line_part k) (sym o) a) r.1)
opened_same {most} {sum} {j = j} (bytes_part n) line_part s x y o r a b =
    absurd (line_stands_not (subst (λ v. Stands most sum v line_part j) (sym r) b) o.1)
opened_same {most} {sum} {j = j} (bytes_part n) (bytes_part m) s x y o r a b =
    let same = line_same o.1 r.1 in
    let size : n ≡ m = sym o.2 ∙ (ap chunk_size same.0 ∙ r.2) in
    stands_same a (subst (λ v. Stands most sum x (bytes_part v) j) (sym size) (subst (λ v.
    Stands most sum v (bytes_part m) j) (sym same.1) b))
opened_same (bytes_part n) trailer_part s x y o r a b =
    let same = line_same o.1 r.1 in absurd (omega (arith, o.2, o.3, r.2, ap chunk_size same.0))
opened_same {most} {sum} {j = j} trailer_part line_part s x y o r a b =
    absurd (line_stands_not (subst (λ v. Stands most sum v line_part j) (sym r) b) o.1)
opened_same trailer_part (bytes_part m) s x y o r a b =
    let same = line_same o.1 r.1 in absurd (omega (arith, r.2, r.3, o.2, ap chunk_size same.0))
opened_same {most} {sum} {j = j} trailer_part trailer_part s x y o r a b =
    let same = line_same o.1 r.1 in stands_same a (subst (λ v. Stands most sum v trailer_part j) (sym same.1) b)

-- where data and its end stand, nothing else does
data_stands_not : {most sum n : ℕ} {k : Kind} (x b next : List ℕ) → Stands most sum x (bytes_part n) k → n ≡ length b
    → x ≡ b ++ (13 ∷ 10 ∷ next) → sum + length b ≤ most → ⊥
data_stands_not {n = n} x b next (fails _ y f) e w fits =
    f [] next (append-nil (drop n x) ∙ (ap (drop n) w ∙ drop_at b (13 ∷ 10 ∷ next) n (sym e)))
data_stands_not {n = n} x b next (lacks _ y (inl f)) e w fits =
    let g : [] ≡ 13 ∷ 10 ∷ next = sym f ∙ (ap (drop n) w ∙ drop_at b (13 ∷ 10 ∷ next) n (sym e)) in cc
data_stands_not {n = n} x b next (lacks _ y (inr f)) e w fits =
    let g : 13 ∷ [] ≡ 13 ∷ 10 ∷ next = sym f ∙ (ap (drop n) w ∙ drop_at b (13 ∷ 10 ∷ next) n (sym e)) in cc
data_stands_not x b next (over _ y z) e w fits = absurd (omega (arith, z, e, fits))

stands_not_chunk : {most sum : ℕ} {k : Kind} (p : Part) (s x : List ℕ) {b next : List ℕ} → Opens s p x
    → Stands most sum x p k → HasChunk s b next → sum + length b ≤ most → ⊥
stands_not_chunk {most} {sum} {k} line_part s x o a h fits =
    line_stands_not (subst (λ v. Stands most sum v line_part k) (sym o) a) h.has
stands_not_chunk (bytes_part n) s x {b} {next} o a h fits =
    let same = line_same o.1 h.has in
    data_stands_not x b next a (sym o.2 ∙ (ap chunk_size same.0 ∙ h.sized)) (same.1 ∙ h.whole) fits
stands_not_chunk trailer_part s x o a h fits =
    let same = line_same o.1 h.has in absurd (omega (arith, o.2, h.sized, h.some, ap chunk_size same.0))

sum_stated : (part : Part) (sum most : ℕ) → stated_by part sum ≤ most → sum ≤ most
sum_stated line_part sum most x = x
sum_stated (bytes_part n) sum most x = omega (arith, x)
sum_stated trailer_part sum most x = x

stands_sum : {most sum : ℕ} {x : List ℕ} {p : Part} {k : Kind} → Stands most sum x p k → sum ≤ most
stands_sum {most} {sum} (fails p x f) = sum_stated p sum most x
stands_sum {most} {sum} (lacks p x f) = sum_stated p sum most x
stands_sum (over n x y) = x
stands_sum (ends after x t) = x

reach_same : {most total other : ℕ} {k j : Kind} (cs ds : List (List ℕ)) (sum : ℕ) (p q : Part)
    (s r t x y : List ℕ) → HasChunks cs s r → HasChunks ds s t → Opens r p x → Opens t q y
    → total ≡ sum + length (concat cs) → other ≡ sum + length (concat ds) → Stands most total x p k
    → Stands most other y q j → (concat cs ≡ concat ds) × (k ≡ j)
reach_same {most} {total} {other} {k} {j} [] [] sum p q s r t x y hc hd o1 o2 e f a b =
    let same : other ≡ total = omega (arith, e, f) in (
      refl,
      opened_same p q s x y (subst (λ v. Opens v p x) (sym hc) o1) (subst (λ v. Opens v q y) (sym hd) o2) a (subst (λ v.
          Stands most v y q j) same b),
    )
reach_same [] (d ∷ ds) sum p q s r t x y hc hd o1 o2 e f a b =
    absurd (stands_not_chunk p s x (subst (λ v. Opens v p x) (sym hc) o1) a hd.1 (omega (
      arith,
      e,
      f,
      stands_sum b,
      length-append d (concat ds),
    )))
reach_same (c ∷ cs) [] sum p q s r t x y hc hd o1 o2 e f a b =
    absurd (stands_not_chunk q s y (subst (λ v. Opens v q y) (sym hd) o2) b hc.1 (omega (
      arith,
      e,
      f,
      stands_sum a,
      length-append c (concat cs),
    )))
reach_same (c ∷ cs) (d ∷ ds) sum p q s r t x y hc hd o1 o2 e f a b =
    let same = chunk_same hc.1 hd.1 in
    let later = reach_same cs ds (sum + length c) p q hc.0 r t x y hc.2 (subst (λ v. HasChunks ds v t) (sym same.1)
    hd.2) o1 o2 (omega (arith, e, length-append c (concat cs))) (omega (
      arith,
      f,
      ap length same.0,
      length-append d (concat ds),
    )) a b in
    ((λ i. same.0 i ++ later.0 i), later.1)

-- the reading of a stream comes to stop so, after this body
pub record Halts (most : ℕ) (stream body : List ℕ) (kind : Kind) : Type 0 where
  pub part : Part
  pub rest : List ℕ
  pub reaches : Reaches stream part body rest
  pub stands : Stands most (length body) rest part kind

pub halts_same : {most : ℕ} {stream b c : List ℕ} {k j : Kind} → Halts most stream b k → Halts most stream c j
    → (b ≡ c) × (k ≡ j)
halts_same {most} {stream} {b} {c} {k} {j} x y =
    let r = reach_same x.reaches.chunks y.reaches.chunks 0 x.part y.part stream x.reaches.after y.reaches.after x.rest
    y.rest x.reaches.whole y.reaches.whole x.reaches.opens y.reaches.opens (omega (arith, ap length x.reaches.gives))
    (omega (arith, ap length y.reaches.gives)) x.stands y.stands in
    (x.reaches.gives ∙ (r.0 ∙ sym y.reaches.gives), r.1)

pub more_halts : {most : ℕ} {s : List ℕ} (p : StatesMore most s) → Halts most s p.body too_much
more_halts {most} {s} p = record {
  part = bytes_part p.size;
  rest = p.rest;
  reaches = p.reaches;
  stands = over p.size p.before p.over;
}

pub fails_halts : {most : ℕ} {s : List ℕ} (p : StopsAt FailsAt most s) → Halts most s p.body faulty
fails_halts {most} {s} p = record {
  part = p.part;
  rest = p.rest;
  reaches = p.reaches;
  stands = fails p.part p.within p.fact;
}

pub lacks_halts : {most : ℕ} {s : List ℕ} (p : StopsAt LacksAt most s) → Halts most s p.body less
lacks_halts {most} {s} p = record {
  part = p.part;
  rest = p.rest;
  reaches = p.reaches;
  stands = lacks p.part p.within p.fact;
}

pub body_halts : {most : ℕ} {s body after : List ℕ} → HasChunkedBody s body after → length body ≤ most
    → Halts most s body (came after)
body_halts {most} {s} {body} {after} p fits = record {
  part = trailer_part;
  rest = p.rest;
  reaches = p.reaches;
  stands = ends after fits p.trailer;
}

-- a stream begins with one body in chunks
pub chunked_same : {s b c x y : List ℕ} → HasChunkedBody s b x → HasChunkedBody s c y → (b ≡ c) × (x ≡ y)
chunked_same {s} {b} {c} {x} {y} p q =
    let most = length b + length c in
    let same = halts_same (body_halts {most = most} p (omega arith)) (body_halts {most = most} q (omega arith)) in
    (same.0, (let e : came x ≡ came y = same.1 in cc))

-- whole bodies and these stops exclude each other
pub fails_not : {most : ℕ} {s b x : List ℕ} → StopsAt FailsAt most s → HasChunkedBody s b x → ⊥
fails_not {most} {s} {b} {x} p q =
    let wide : StopsAt FailsAt (most + length b) s = record {
      part = p.part;
      body = p.body;
      rest = p.rest;
      reaches = p.reaches;
      within = omega (arith, p.within);
      fact = p.fact;
    } in
    let same = halts_same (fails_halts wide) (body_halts {most = most + length b} q (omega arith)) in
    let e : faulty ≡ came x = same.1 in cc

pub lacks_not : {most : ℕ} {s b x : List ℕ} → StopsAt LacksAt most s → HasChunkedBody s b x → ⊥
lacks_not {most} {s} {b} {x} p q =
    let wide : StopsAt LacksAt (most + length b) s = record {
      part = p.part;
      body = p.body;
      rest = p.rest;
      reaches = p.reaches;
      within = omega (arith, p.within);
      fact = p.fact;
    } in
    let same = halts_same (lacks_halts wide) (body_halts {most = most + length b} q (omega arith)) in
    let e : less ≡ came x = same.1 in cc
