-- Each step keeps the rule of an agreed list.
use Rattle.std.proofs.Common.{◌≡◌, ◌≢◌, ◌⊎◌, ℕ, ◌+◌, ◌-◌, ◌<◌, List, [], ◌++◌, set, refl, sym, ap, ◌∙◌, subst, ⊎_elim, arith}
use mathlib.Core.Option.{some}
use lib.ListN.{get_elem?}
use Rattle.atomic_table.specs.Table.{State, Me, keeps, Allows, Enters, Splits, Joins}
use Rattle.atomic_table.proofs.Lists.{at_set, at_snoc}
use Rattle.std.proofs.lemmas.List.Sums.{sum_by_push}
use Rattle.log_positions.proofs.Shares.{sum-set, two_parts, each_set}
use Rattle.agreed_list.specs.declared.known.Known.{Known}
use Rattle.agreed_list.specs.Agreed.{known, no_part, left_part, right_part, both_parts, KnowsIf, IsAgreed, IsNobody, MeetsWith}

module _ {E : Type 0} where
  abbrev parts_of : Known E → ℕ
  parts_of v = v.parts

  abbrev Holds : State (Unit {0}) (Known E) → Type 0
  Holds s = IsAgreed s.views

  pub splits : (id : ℕ) (v : Known E) → 0 < v.parts → Splits Holds id v (left_part v) (right_part v)
  splits id v some_part s h at =
      let left = left_part v in
      let right = right_part v in
      let mine = h.each id v at some_part in
      record {
        list = h.list;
        parts = omega (arith, some_part, sum-set parts_of s.views id v left at, sum_by_push parts_of (set s.views id left) right, h.parts);
        each = λ j u there.
            ⊎_elim (each_set (KnowsIf h.list) s.views id left (λ _. (mine.0, mine.0)) (λ k z _ is. h.each k z is) j u)
            (λ is. subst (KnowsIf h.list) is (λ _. (mine.0, mine.0)))
            (at_snoc (set s.views id left) right u j there);
      }

  pub joins : (id : ℕ) (v : Known E) (other : ℕ) (w : Known E) → 0 < v.parts → 0 < w.parts
      → Joins Holds id v other w (both_parts v w) no_part
  joins id v other w mine_some theirs_some s h at apart at' =
      let both = both_parts v w in
      let vs = set s.views id both in
      let spent : Known E = no_part in
      let was = ⊎_elim (λ (t : (other ≡ id) × (both ≡ w)). absurd (apart t.0)) (λ (t : (other ≢ id) × (get_elem? s.views other ≡ some w)). t.1) (at_set s.views id other both w at') in
      let mine = h.each id v at mine_some in
      let theirs = h.each other w was theirs_some in
      record {
        list = h.list;
        parts = omega (arith, sum-set parts_of s.views id v both at, sum-set parts_of vs other w spent at', h.parts);
        each = each_set (KnowsIf h.list) vs other spent (λ b. absurd (omega (arith, b)))
            (λ j y _ there. each_set (KnowsIf h.list) s.views id both (λ _. (mine.0, theirs.0)) (λ k z _ is. h.each k z is) j y there);
      }

  pub enters : (slots i : ℕ) → Enters Holds slots i (λ n w. IsNobody {E = E} {S = Unit {0}} (w, []))
  enters slots i s h count few =
      let nobody : Known E = no_part in (
        nobody,
        record {
          list = h.list;
          parts = omega (arith, sum_by_push parts_of s.views nobody, h.parts);
          each = λ j u there.
              ⊎_elim (h.each j u) (λ is. subst (KnowsIf h.list) is (λ b. absurd (omega (arith, b)))) (at_snoc s.views nobody u j there);
        },
        refl,
      )

  pub meets : (slots id : ℕ) (me : Me (Unit {0}) (Known E)) (i : ℕ) (more : List E) → me.0.parts ≡ 2
      → Allows Holds slots id me i (λ n. n) (λ n new. MeetsWith more me new)
  meets slots id me i more all s h count at few =
      let v = me.0 in
      let w = known v.parts (v.one ++ more) (v.one ++ more) in
      let mine = h.each id v at (omega (arith, all)) in
      let grown = ap (λ (l : List E). l ++ more) mine.0 in (
        w,
        keeps,
        tt,
        record {
          list = h.list ++ more;
          parts = omega (arith, sum-set parts_of s.views id v w at, h.parts);
          each = each_set (KnowsIf (h.list ++ more)) s.views id w (λ _. (grown, grown))
              (λ j u apart there some_part. absurd (omega (arith, two_parts parts_of s.views id j v u at there apart, h.parts, all, some_part)));
        },
        (mine.0 ∙ sym mine.1, refl),
      )
