-- From what the calls do to the fields to what they stand for.
use Rattle.std.proofs.Common.{◌≡◌, ℕ, ◌+◌, ◌<◌, ◌≤◌, List, [], ◌∷◌, ◌++◌, length, length-append, refl, sym, subst, ap, ◌∙◌, arith, true, false, leb, Option, Some, None}
use Rattle.std.specs.Prelude.{unwrap_or}
use Rattle.std.proofs.lemmas.Bool.Decides.{nat_tests}
use Rattle.span_batcher.specs.Batches.{Rules, AreValidRules, Batch}
use Rattle.span_batcher.specs.State.{State, next_due, IsAfter, Adds, Fires, Drains, Begins, state, state_of}
use Rattle.span_batcher.specs.Machine.{threshold, cuts, uncut, start_in, added, fired, drained}
use Rattle.span_batcher.specs.Batches.{rest_in}
use Rattle.span_batcher.proofs.Added.{cuts_none}
use Rattle.span_batcher.proofs.Laws.{adds, fires, drains}

pub begins : (X : Type 0) (r : Rules) → Begins {X = X} r (record { rules = r; start = None; spans = [] })
unfolding state state_of rest_in
begins X r = λ e. refl

module _ {X : Type 0} where
  short : (r : Rules) (start : Option ℕ) (pending : List X) (m : ℕ) (s : X) (spans : List X) (old : State X) → record { rules = r; start = start; spans = pending } ≡ old → AreValidRules r → IsAfter (next_due old) m → length (pending ++ s ∷ spans) < threshold r →
      Adds m (s ∷ spans) old [] (record { rules = r; start = Some (unwrap_or start m); spans = pending ++ s ∷ spans })
  unfolding added
  short r start pending m s spans old is sound after lt =
      let all = pending ++ s ∷ spans in
      let none = cuts_none r m all sound lt in
      let no : leb (threshold r) (length all) ≡ false = grind (arith, nat_tests) in
      let new : added m (s ∷ spans) (record { rules = r; start = start; spans = pending }) ≡ record { rules = r; start = Some (unwrap_or start m); spans = all } = rw (no, none.1) refl in
      subst (λ (o : State X). Adds m (s ∷ spans) o [] (record { rules = r; start = Some (unwrap_or start m); spans = all })) is
      (subst (λ (bs : List (Batch X)). Adds m (s ∷ spans) (record { rules = r; start = start; spans = pending }) bs (record { rules = r; start = Some (unwrap_or start m); spans = all })) none.0
      (subst (λ (n : State X). Adds m (s ∷ spans) (record { rules = r; start = start; spans = pending }) (cuts r m all) n) new
      (adds m s spans (record { rules = r; start = start; spans = pending }) sound (subst (λ (o : State X). IsAfter (next_due o) m) (sym is) after))))

module _ {X : Type 0} where
  far : (r : Rules) (start : Option ℕ) (pending : List X) (m : ℕ) (s : X) (spans : List X) (old : State X) → record { rules = r; start = start; spans = pending } ≡ old → AreValidRules r → IsAfter (next_due old) m → threshold r ≤ length (pending ++ s ∷ spans) →
      Adds m (s ∷ spans) old (cuts r m (pending ++ s ∷ spans)) (record { rules = r; start = start_in m (uncut r (pending ++ s ∷ spans)); spans = uncut r (pending ++ s ∷ spans) })
  unfolding added
  far r start pending m s spans old is sound after le =
      let all = pending ++ s ∷ spans in
      let yes : leb (threshold r) (length all) ≡ true = grind (arith, nat_tests) in
      let new : added m (s ∷ spans) (record { rules = r; start = start; spans = pending }) ≡ record { rules = r; start = start_in m (uncut r all); spans = uncut r all } = rw yes refl in
      subst (λ (o : State X). Adds m (s ∷ spans) o (cuts r m all) (record { rules = r; start = start_in m (uncut r all); spans = uncut r all })) is
      (subst (λ (n : State X). Adds m (s ∷ spans) (record { rules = r; start = start; spans = pending }) (cuts r m all) n) new
      (adds m s spans (record { rules = r; start = start; spans = pending }) sound (subst (λ (o : State X). IsAfter (next_due o) m) (sym is) after)))

module _ {X : Type 0} where
  -- an add that cuts nothing, and one that cuts
  pub adds_short : (r : Rules) (start : Option ℕ) (pending : List X) (m : ℕ) (spans : List X) (old : State X) (answered : List (Batch X)) (all : List X) → record { rules = r; start = start; spans = pending } ≡ old → AreValidRules r → IsAfter (next_due old) m → 0 < length spans → length (pending ++ spans) < threshold r →
      answered ≡ [] → all ≡ pending ++ spans → Adds m spans old answered (record { rules = r; start = Some (unwrap_or start m); spans = all })
  adds_short r start pending m [] old answered all is sound after some lt e e' = absurd (omega arith)
  adds_short r start pending m (s ∷ spans) old answered all is sound after some lt e e' = rw (e, e') (short r start pending m s spans old is sound after lt)

module _ {X : Type 0} where
  pub adds_far : (r : Rules) (start : Option ℕ) (pending : List X) (m : ℕ) (spans : List X) (old : State X) (answered : List (Batch X)) (all rest : List X) (start' : Option ℕ) → record { rules = r; start = start; spans = pending } ≡ old → AreValidRules r → IsAfter (next_due old) m → 0 < length spans → threshold r ≤ length (pending ++ spans) →
      all ≡ pending ++ spans → answered ≡ cuts r m all → rest ≡ uncut r all → start' ≡ start_in m rest → Adds m spans old answered (record { rules = r; start = start'; spans = rest })
  adds_far r start pending m [] old answered all rest start' is sound after some le e e1 e2 e3 = absurd (omega arith)
  adds_far r start pending m (s ∷ spans) old answered all rest start' is sound after some le e e1 e2 e3 = rw (e3, e1, e2, e) (far r start pending m s spans old is sound after le)

module _ {X : Type 0} where
  -- a plan that cuts nothing, and one that cuts, as what the batcher keeps once it is taken
  pub plans_short : (r : Rules) (start : Option ℕ) (pending : List X) (m : ℕ) (spans : List X) (old : State X) (answered : List (Batch X)) (all : List X) (start' : ℕ) → record { rules = r; start = start; spans = pending } ≡ old → AreValidRules r → IsAfter (next_due old) m → 0 < length spans →
      all ≡ pending ++ spans → length all < threshold r → answered ≡ [] → start' ≡ unwrap_or start m → Adds m spans old answered (record { rules = old.rules; start = Some start'; spans = all })
  plans_short r start pending m spans old answered all start' is sound after some e lt none e' =
      let few : length (pending ++ spans) < threshold r = subst (λ (ss : List X). length ss < threshold r) e lt in
      let rules : r ≡ old.rules = ap (λ (s : State X). s.rules) is in
      rw e' (subst (λ (q : Rules). Adds m spans old answered (record { rules = q; start = Some (unwrap_or start m); spans = all })) rules (adds_short r start pending m spans old answered all is sound after some few none e))

module _ {X : Type 0} where
  pub plans_far : (r : Rules) (start : Option ℕ) (pending : List X) (m : ℕ) (spans : List X) (old : State X) (answered : List (Batch X)) (all rest : List X) (start' : Option ℕ) → record { rules = r; start = start; spans = pending } ≡ old → AreValidRules r → IsAfter (next_due old) m → 0 < length spans →
      all ≡ pending ++ spans → threshold r ≤ length all → answered ≡ cuts r m all → rest ≡ uncut r all → start' ≡ start_in m rest → Adds m spans old answered (record { rules = old.rules; start = start'; spans = rest })
  plans_far r start pending m spans old answered all rest start' is sound after some e le e1 e2 e3 =
      let enough : threshold r ≤ length (pending ++ spans) = subst (λ (ss : List X). threshold r ≤ length ss) e le in
      let rules : r ≡ old.rules = ap (λ (s : State X). s.rules) is in
      subst (λ (q : Rules). Adds m spans old answered (record { rules = q; start = start'; spans = rest })) rules (adds_far r start pending m spans old answered all rest start' is sound after some enough e e1 e2 e3)

module _ {X : Type 0} where
  pub fires_by : (r : Rules) (start : ℕ) (pending : List X) (old : State X) (batch : Batch X) (left : List X) → record { rules = r; start = Some start; spans = pending } ≡ old → AreValidRules r → batch ≡ record { moment = start + r.timeout; spans = pending } → left ≡ [] →
      (due : ℕ) → next_due old ≡ Some due → Fires due old batch (record { rules = r; start = None; spans = left })
  fires_by r start pending old batch left is sound e e' due at_due =
      let same : Path (Option ℕ) (Some (start + r.timeout)) (Some due) = ap next_due is ∙ at_due in
      let now : start + r.timeout ≡ due = cc in
      let one : batch ≡ record { moment = due; spans = pending } = e ∙ ap (λ (n : ℕ). record { moment = n; spans = pending }) now in
      rw (one, e') (subst (λ (o : State X). Fires due o (record { moment = due; spans = pending }) (record { rules = r; start = None; spans = [] })) is
      (fires due (record { rules = r; start = Some start; spans = pending }) sound (ap Some now)))

module _ {X : Type 0} where
  pub drains_by : (r : Rules) (start : Option ℕ) (pending : List X) (x : ℕ) (old : State X) (answered : Option (Batch X)) (left : List X) → record { rules = r; start = start; spans = pending } ≡ old → AreValidRules r → IsAfter (next_due old) x → answered ≡ drained x pending → left ≡ [] →
      Drains x old answered (record { rules = r; start = None; spans = left })
  drains_by r start pending x old answered left is sound after e e' =
      rw (e, e') (subst (λ (o : State X). Drains x o (drained x pending) (record { rules = r; start = None; spans = [] })) is
      (drains x (record { rules = r; start = start; spans = pending }) sound (subst (λ (o : State X). IsAfter (next_due o) x) (sym is) after)))

module _ {X : Type 0} where
  pub drains_none : (r : Rules) (start : Option ℕ) (pending : List X) (x : ℕ) (old : State X) → record { rules = r; start = start; spans = pending } ≡ old → AreValidRules r → IsAfter (next_due old) x → length pending ≡ 0 →
      Drains x old None (record { rules = r; start = None; spans = pending })
  drains_none r start [] x old is sound after none = drains_by r start [] x old None [] is sound after refl refl
  drains_none r start (s ∷ pending) x old is sound after none = absurd (omega arith)

module _ {X : Type 0} where
  pub drains_some : (r : Rules) (start : Option ℕ) (pending : List X) (x : ℕ) (old : State X) (batch : Batch X) (left : List X) → record { rules = r; start = start; spans = pending } ≡ old → AreValidRules r → IsAfter (next_due old) x → 0 < length pending → batch ≡ record { moment = x; spans = pending } → left ≡ [] →
      Drains x old (Some batch) (record { rules = r; start = None; spans = left })
  drains_some r start [] x old batch left is sound after some e e' = absurd (omega arith)
  drains_some r start (s ∷ pending) x old batch left is sound after some e e' = drains_by r start (s ∷ pending) x old (Some batch) left is sound after (ap Some e) e'

-- ---- the same by the pending spans alone

module _ {X : Type 0} where
  -- a plan that cuts nothing, and one that cuts
  pub plan_short : (r : Rules) (start : Option ℕ) (pending : List X) (m : ℕ) (spans : List X) (old : State X) (answered : List (Batch X)) (all : List X) (start' : ℕ) → record { rules = r; start = start; spans = pending } ≡ old → AreValidRules r →
      all ≡ pending ++ spans → length all < threshold r → answered ≡ [] → start' ≡ unwrap_or start m →
      (answered ≡ cuts old.rules m (old.spans ++ spans)) × (record { rules = old.rules; start = Some start'; spans = all } ≡ added m spans old)
  unfolding added
  plan_short r start pending m spans old answered all start' is sound e lt none e' =
      let few : length (pending ++ spans) < threshold r = subst (λ (ss : List X). length ss < threshold r) e lt in
      let kept = cuts_none r m (pending ++ spans) sound few in
      let no : leb (threshold r) (length (pending ++ spans)) ≡ false = grind (arith, nat_tests) in
      subst (λ (o : State X). (answered ≡ cuts o.rules m (o.spans ++ spans)) × (record { rules = o.rules; start = Some start'; spans = all } ≡ added m spans o)) is
      (none ∙ sym kept.0, rw (e', e, no, kept.1) refl)

module _ {X : Type 0} where
  pub plan_far : (r : Rules) (start : Option ℕ) (pending : List X) (m : ℕ) (spans : List X) (old : State X) (answered : List (Batch X)) (all rest : List X) (start' : Option ℕ) → record { rules = r; start = start; spans = pending } ≡ old →
      all ≡ pending ++ spans → threshold r ≤ length all → answered ≡ cuts r m all → rest ≡ uncut r all → start' ≡ start_in m rest →
      (answered ≡ cuts old.rules m (old.spans ++ spans)) × (record { rules = old.rules; start = start'; spans = rest } ≡ added m spans old)
  unfolding added
  plan_far r start pending m spans old answered all rest start' is e le e1 e2 e3 =
      let enough : threshold r ≤ length (pending ++ spans) = subst (λ (ss : List X). threshold r ≤ length ss) e le in
      let yes : leb (threshold r) (length (pending ++ spans)) ≡ true = grind (arith, nat_tests) in
      subst (λ (o : State X). (answered ≡ cuts o.rules m (o.spans ++ spans)) × (record { rules = o.rules; start = start'; spans = rest } ≡ added m spans o)) is
      (e1 ∙ ap (cuts r m) e, rw (e3, e2, e, yes) refl)

module _ {X : Type 0} where
  -- the batch of the timer
  pub fire_is : (r : Rules) (start : ℕ) (pending : List X) (old : State X) (batch : Batch X) → record { rules = r; start = Some start; spans = pending } ≡ old → batch ≡ record { moment = start + r.timeout; spans = pending } →
      (due : ℕ) → next_due old ≡ Some due → batch ≡ record { moment = due; spans = old.spans }
  fire_is r start pending old batch is e due at_due =
      let same : Path (Option ℕ) (Some (start + r.timeout)) (Some due) = ap next_due is ∙ at_due in
      let now : start + r.timeout ≡ due = cc in
      e ∙ ap (λ (n : ℕ). record { moment = n; spans = pending }) now ∙ ap (λ (o : State X). record { moment = due; spans = o.spans }) is

module _ {X : Type 0} where
  -- what it leaves
  pub fired_is : (r : Rules) (start : Option ℕ) (pending : List X) (old : State X) (left : List X) → record { rules = r; start = start; spans = pending } ≡ old → left ≡ [] →
      record { rules = r; start = None; spans = left } ≡ fired old
  fired_is r start pending old left is e = rw e (ap fired is)

module _ {X : Type 0} where
  -- the batch of a drain
  pub drain_none : (r : Rules) (start : Option ℕ) (pending : List X) (x : ℕ) (old : State X) → record { rules = r; start = start; spans = pending } ≡ old → length pending ≡ 0 →
      (None ≡ drained x old.spans) × (pending ≡ [])
  drain_none r start [] x old is none = (ap (λ (o : State X). drained x o.spans) is, refl)
  drain_none r start (s ∷ pending) x old is none = absurd (omega arith)

module _ {X : Type 0} where
  pub drain_some : (r : Rules) (start : Option ℕ) (pending : List X) (x : ℕ) (old : State X) (batch : Batch X) → record { rules = r; start = start; spans = pending } ≡ old → 0 < length pending → batch ≡ record { moment = x; spans = pending } →
      Some batch ≡ drained x old.spans
  drain_some r start [] x old batch is some e = absurd (omega arith)
  drain_some r start (s ∷ pending) x old batch is some e = ap Some e ∙ ap (λ (o : State X). drained x o.spans) is

-- ---- spans that fill no batch

module _ {X : Type 0} where
  -- nothing is cut
  pub append_cuts : (r : Rules) (start : Option ℕ) (pending : List X) (m : ℕ) (spans : List X) (old : State X) → record { rules = r; start = start; spans = pending } ≡ old → AreValidRules r → length old.spans + length spans < threshold old.rules →
      cuts old.rules m (old.spans ++ spans) ≡ []
  append_cuts r start pending m spans old is sound lt =
      let size = length-append old.spans spans in
      let valid : AreValidRules old.rules = subst (λ (o : State X). AreValidRules o.rules) is sound in
      (cuts_none old.rules m (old.spans ++ spans) valid (omega (arith, size, lt))).0

module _ {X : Type 0} where
  few_in : (r : Rules) (start : Option ℕ) (pending spans : List X) (old : State X) (all : List X) → record { rules = r; start = start; spans = pending } ≡ old → all ≡ pending ++ spans → length old.spans + length spans < threshold old.rules → length all < threshold r
  few_in r start pending spans old all is e lt =
      let few : length pending + length spans < threshold r = subst (λ (o : State X). length o.spans + length spans < threshold o.rules) (sym is) lt in
      let size = length-append pending spans in
      let whole = ap length e in
      omega (arith, few, size, whole)

module _ {X : Type 0} where
  -- they are pending with the others
  pub append_is : (r : Rules) (start : Option ℕ) (pending : List X) (m : ℕ) (spans : List X) (old : State X) (all : List X) (start' : ℕ) → record { rules = r; start = start; spans = pending } ≡ old → AreValidRules r →
      all ≡ pending ++ spans → length old.spans + length spans < threshold old.rules → start' ≡ unwrap_or start m →
      record { rules = r; start = Some start'; spans = all } ≡ added m spans old
  append_is r start pending m spans old all start' is sound e lt e' =
      let rules : r ≡ old.rules = ap (λ (o : State X). o.rules) is in
      ap (λ (q : Rules). let new : State X = record { rules = q; start = Some start'; spans = all } in new) rules
      ∙ (plan_short r start pending m spans old [] all start' is sound e (few_in r start pending spans old all is e lt) refl e').1

module _ {X : Type 0} where
  -- and no batch is answered
  pub appends : (r : Rules) (start : Option ℕ) (pending : List X) (m : ℕ) (spans : List X) (old : State X) (all : List X) (start' : ℕ) → record { rules = r; start = start; spans = pending } ≡ old → AreValidRules r → IsAfter (next_due old) m → 0 < length spans →
      all ≡ pending ++ spans → length old.spans + length spans < threshold old.rules → start' ≡ unwrap_or start m →
      Adds m spans old [] (record { rules = r; start = Some start'; spans = all })
  appends r start pending m spans old all start' is sound after some e lt e' =
      let rules : r ≡ old.rules = ap (λ (o : State X). o.rules) is in
      subst (λ (q : Rules). Adds m spans old [] (record { rules = q; start = Some start'; spans = all })) (sym rules)
      (plans_short r start pending m spans old [] all start' is sound after some e (few_in r start pending spans old all is e lt) refl e')
