-- Lists that stand side by side, of which one is taken from its end.
use Rattle.std.proofs.Common.{◌≡◌, ℕ, zero, suc, ◌+◌, ◌<◌, List, [], ◌∷◌, ◌++◌, length, get_or, set, map, replicate, Some, refl, sym, ap, ◌∙◌, subst, arith, length-append, append_assoc, All}
use Rattle.std.specs.Prelude.{slice_get}
use Rattle.std.proofs.lemmas.List.{append-nil}
use Rattle.machine_hub.specs.Hub.{paired}
use Rattle.machine_hub.specs.Keepers.{zipped}

module _ {X : Type 0} where
  pub get_is : (xs : List X) (k : ℕ) (x : X) → k < length xs → x ≡ get_or xs k x → slice_get xs k ≡ Some x
  get_is [] k x lt e = absurd (omega arith)
  get_is (y ∷ xs) zero x lt e = ap Some (sym e)
  get_is (y ∷ xs) (suc k) x lt e = get_is xs k x (omega arith) e

  get_front : (xs ys : List X) (x : X) → slice_get (xs ++ x ∷ ys) (length xs) ≡ Some x
  get_front [] ys x = refl
  get_front (y ∷ xs) ys x = get_front xs ys x

  set_front : (xs ys : List X) (x w : X) → set (xs ++ x ∷ ys) (length xs) w ≡ xs ++ w ∷ ys
  set_front [] ys x w = refl
  set_front (y ∷ xs) ys x w = ap (λ l. y ∷ l) (set_front xs ys x w)

  pub some_one : (a b : X) → Some a ≡ Some b → a ≡ b
  some_one a b e = cc

  pub empty : (xs : List X) → length xs ≡ 0 → xs ≡ []
  empty [] e = refl
  empty (x ∷ xs) e = absurd (omega arith)

  -- a list that isn't empty, by its last
  record HasLast (xs : List X) (n : ℕ) : Type 0 where
    front : List X
    last : X
    is : xs ≡ front ++ last ∷ []
    long : length front ≡ n

  last_of : (xs : List X) (n : ℕ) → length xs ≡ n + 1 → HasLast xs n
  last_of [] n e = absurd (omega arith)
  last_of (x ∷ []) n e = record { front = []; last = x; is = refl; long = omega arith }
  last_of (x ∷ y ∷ xs) zero e = absurd (omega arith)
  last_of (x ∷ y ∷ xs) (suc n) e =
      let r = last_of (y ∷ xs) n (omega arith) in
      record { front = x ∷ r.front; last = r.last; is = ap (λ l. x ∷ l) r.is; long = omega (arith, r.long) }

  -- it holds of each
  abbrev pub EachOf : (X → Type 0) → List X → Type 0
  EachOf P [] = Unit {0}
  EachOf P (x ∷ xs) = P x × EachOf P xs

  pub each_from_all : (P : X → Type 0) (xs : List X) → All P xs → EachOf P xs
  each_from_all P [] all = tt
  each_from_all P (x ∷ xs) all = (all 0 x (omega arith), each_from_all P xs (λ k d lt. all (suc k) d (omega arith)))

  -- those that were taken from the end, of each of which it holds
  pub record IsDone (P : X → Type 0) (all rest : List X) : Type 0 where
    pub done : List X
    pub all_is : all ≡ rest ++ done
    pub each : EachOf P done

  pub done_none : (P : X → Type 0) (all xs : List X) → xs ≡ all → IsDone P all xs
  done_none P all xs is = record { done = []; all_is = sym is ∙ sym (append-nil xs); each = tt }

  pub done_next : (P : X → Type 0) (all was rest : List X) (x : X) → IsDone P all was → was ≡ rest ++ x ∷ [] → P x → IsDone P all rest
  done_next P all was rest x h is p = record {
    done = x ∷ h.done;
    all_is = h.all_is ∙ ap (λ l. l ++ h.done) is ∙ append_assoc rest (x ∷ []) h.done;
    each = (p, h.each);
  }

  pub done_all : (P : X → Type 0) (all rest : List X) → IsDone P all rest → rest ≡ [] → EachOf P all
  done_all P all rest h none = subst (EachOf P) (sym (h.all_is ∙ ap (λ l. l ++ h.done) none)) h.each

module _ {X Y : Type 0} (g : X → Y) where
  map_get : (xs : List X) (n : ℕ) (x : X) (d : Y) → slice_get xs n ≡ Some x → get_or (map g xs) n d ≡ g x
  map_get [] n x d e = absurd (cc)
  map_get (y ∷ xs) zero x d e = ap g (some_one y x e)
  map_get (y ∷ xs) (suc n) x d e = map_get xs n x d e

  -- what stands in the image at the place of an item
  pub map_at : (xs : List X) (ys : List Y) (n : ℕ) (x : X) (y : Y) → map g xs ≡ ys → slice_get xs n ≡ Some x → y ≡ get_or ys n y → g x ≡ y
  map_at xs ys n x y is at e = sym (map_get xs n x y at) ∙ ap (λ l. get_or l n y) is ∙ sym e

  pub map_long : (xs : List X) (ys : List Y) → map g xs ≡ ys → length xs ≡ length ys
  map_long [] ys e = ap length e
  map_long (x ∷ xs) [] e = absurd (cc)
  map_long (x ∷ xs) (y ∷ ys) e = let r : map g xs ≡ ys = cc in omega (arith, map_long xs ys r)

  -- an item whose image this is
  pub map_some : (xs : List X) (n : ℕ) (y : Y) → slice_get (map g xs) n ≡ Some y → (x : X) × (slice_get xs n ≡ Some x) × (g x ≡ y)
  map_some [] n y e = absurd (cc)
  map_some (x ∷ xs) zero y e = (x, refl, some_one (g x) y e)
  map_some (x ∷ xs) (suc n) y e = map_some xs n y e

  pub map_set : (xs : List X) (n : ℕ) (x w : X) → slice_get xs n ≡ Some x → g w ≡ g x → map g (set xs n w) ≡ map g xs
  map_set [] n x w at e = refl
  map_set (y ∷ xs) zero x w at e = ap (λ z. z ∷ map g xs) (e ∙ ap g (some_one x y (sym at)))
  map_set (y ∷ xs) (suc n) x w at e = ap (λ l. g y ∷ l) (map_set xs n x w at e)

  pub map_push : (xs : List X) (x : X) → map g (xs ++ x ∷ []) ≡ map g xs ++ g x ∷ []
  map_push [] x = refl
  map_push (y ∷ xs) x = ap (λ l. g y ∷ l) (map_push xs x)

module _ {A B : Type 0} (f : A → B → A) where
  -- the last of a list have changed what stands beside them
  pub record IsZipping (all rest : List B) (old now : List A) : Type 0 where
    pub done : List B
    pub before : List A
    pub behind : List A
    pub all_is : all ≡ rest ++ done
    pub old_is : old ≡ before ++ behind
    pub now_is : now ≡ before ++ zipped f behind done
    pub long : length before ≡ length rest

  pub zipping_first : (all : List B) (old : List A) → length old ≡ length all → IsZipping all all old old
  zipping_first all old long = record {
    done = [];
    before = old;
    behind = [];
    all_is = sym (append-nil all);
    old_is = sym (append-nil old);
    now_is = sym (append-nil old);
    long = long;
  }

  -- the next, what stands beside it, and what stands afterwards
  record IsNext (all rest : List B) (b : B) (old now : List A) : Type 0 where
    beside : A
    in_old : slice_get old (length rest) ≡ Some beside
    in_now : slice_get now (length rest) ≡ Some beside
    in_all : slice_get all (length rest) ≡ Some b
    within : length rest < length now
    after : IsZipping all rest old (set now (length rest) (f beside b))

  zipping_next : (all was rest : List B) (b : B) (old now : List A) → IsZipping all was old now → was ≡ rest ++ b ∷ [] → IsNext all rest b old now
  zipping_next all was rest b old now h is =
      let n = length rest in
      let e = last_of h.before n (omega (arith, h.long, ap length is, length-append rest (b ∷ []))) in
      let old_is : old ≡ e.front ++ e.last ∷ h.behind = h.old_is ∙ ap (λ l. l ++ h.behind) e.is ∙ append_assoc e.front (e.last ∷ []) h.behind in
      let now_is : now ≡ e.front ++ e.last ∷ zipped f h.behind h.done = h.now_is ∙ ap (λ l. l ++ zipped f h.behind h.done) e.is ∙ append_assoc e.front (e.last ∷ []) (zipped f h.behind h.done) in
      let all_is : all ≡ rest ++ b ∷ h.done = h.all_is ∙ ap (λ l. l ++ h.done) is ∙ append_assoc rest (b ∷ []) h.done in
      record {
        beside = e.last;
        in_old = subst (λ m. slice_get old m ≡ Some e.last) e.long (subst (λ l. slice_get l (length e.front) ≡ Some e.last) (sym old_is) (get_front e.front h.behind e.last));
        in_now = subst (λ m. slice_get now m ≡ Some e.last) e.long (subst (λ l. slice_get l (length e.front) ≡ Some e.last) (sym now_is) (get_front e.front (zipped f h.behind h.done) e.last));
        in_all = subst (λ l. slice_get l n ≡ Some b) (sym all_is) (get_front rest h.done b);
        within = omega (arith, e.long, ap length now_is, length-append e.front (e.last ∷ zipped f h.behind h.done));
        after = record {
          done = b ∷ h.done;
          before = e.front;
          behind = e.last ∷ h.behind;
          all_is = all_is;
          old_is = old_is;
          now_is = subst (λ m. set now m (f e.last b) ≡ e.front ++ zipped f (e.last ∷ h.behind) (b ∷ h.done)) e.long
              (ap (λ l. set l (length e.front) (f e.last b)) now_is ∙ set_front e.front (zipped f h.behind h.done) e.last (f e.last b));
          long = e.long;
        };
      }

  beside_is : (all was rest : List B) (b : B) (old now : List A) (n : ℕ) (a : A) → (h : IsZipping all was old now) → (is : was ≡ rest ++ b ∷ []) → n ≡ length rest → a ≡ get_or now n a
      → (zipping_next all was rest b old now h is).beside ≡ a
  beside_is all was rest b old now n a h is e at =
      let x = zipping_next all was rest b old now h is in
      some_one x.beside a (sym x.in_now ∙ get_is now (length rest) a x.within (subst (λ m. a ≡ get_or now m a) e at))

  -- what stands beside the next is as it was at first
  pub zipping_old : (all was rest : List B) (b : B) (old now : List A) (n : ℕ) (a : A) → IsZipping all was old now → was ≡ rest ++ b ∷ [] → n ≡ length rest → a ≡ get_or now n a → slice_get old n ≡ Some a
  zipping_old all was rest b old now n a h is e at =
      let x = zipping_next all was rest b old now h is in
      subst (λ m. slice_get old m ≡ Some a) (sym e) (x.in_old ∙ ap Some (beside_is all was rest b old now n a h is e at))

  pub zipping_all : (all was rest : List B) (b : B) (old now : List A) (n : ℕ) → IsZipping all was old now → was ≡ rest ++ b ∷ [] → n ≡ length rest → slice_get all n ≡ Some b
  zipping_all all was rest b old now n h is e = subst (λ m. slice_get all m ≡ Some b) (sym e) (zipping_next all was rest b old now h is).in_all

  pub zipping_on : (all was rest : List B) (b : B) (old now : List A) (n : ℕ) (a w : A) → IsZipping all was old now → was ≡ rest ++ b ∷ [] → n ≡ length rest → a ≡ get_or now n a → w ≡ f a b → IsZipping all rest old (set now n w)
  zipping_on all was rest b old now n a w h is e at w_is =
      let x = zipping_next all was rest b old now h is in
      subst (λ m. IsZipping all rest old (set now m w)) (sym e)
      (subst (λ (y : A). IsZipping all rest old (set now (length rest) y)) (ap (λ y. f y b) (beside_is all was rest b old now n a h is e at) ∙ sym w_is) x.after)

  pub zipping_end : (all rest : List B) (old now : List A) → IsZipping all rest old now → rest ≡ [] → now ≡ zipped f old all
  zipping_end all rest old now h gone =
      let none = empty h.before (omega (arith, h.long, ap length gone)) in
      let old_is : h.behind ≡ old = sym (h.old_is ∙ ap (λ l. l ++ h.behind) none) in
      let all_is : h.done ≡ all = sym (h.all_is ∙ ap (λ l. l ++ h.done) gone) in
      h.now_is ∙ ap (λ l. l ++ zipped f h.behind h.done) none ∙ ap (λ l. zipped f l h.done) old_is ∙ ap (zipped f old) all_is

  pub zipped_long : (xs : List A) (ys : List B) → length (zipped f xs ys) ≡ length xs
  zipped_long [] ys = refl
  zipped_long (x ∷ xs) [] = refl
  zipped_long (x ∷ xs) (y ∷ ys) = ap suc (zipped_long xs ys)

  pub zipped_same : (n : ℕ) (a : A) (b : B) → zipped f (replicate n a) (replicate n b) ≡ replicate n (f a b)
  zipped_same zero a b = refl
  zipped_same (suc n) a b = ap (λ l. f a b ∷ l) (zipped_same n a b)

module _ {A B C : Type 0} (f : A → B → C) where
  pub paired_push : (xs : List A) (ys : List B) (x : A) (y : B) → length xs ≡ length ys → paired f (xs ++ x ∷ []) (ys ++ y ∷ []) ≡ paired f xs ys ++ f x y ∷ []
  paired_push [] [] x y e = refl
  paired_push [] (b ∷ ys) x y e = absurd (omega arith)
  paired_push (a ∷ xs) [] x y e = absurd (omega arith)
  paired_push (a ∷ xs) (b ∷ ys) x y e = ap (λ l. f a b ∷ l) (paired_push xs ys x y (omega arith))

  pub paired_left : (g : C → A) → ((a : A) (b : B) → g (f a b) ≡ a) → (xs : List A) (ys : List B) → length xs ≡ length ys → map g (paired f xs ys) ≡ xs
  paired_left g h [] ys e = refl
  paired_left g h (a ∷ xs) [] e = absurd (omega arith)
  paired_left g h (a ∷ xs) (b ∷ ys) e = λ i. h a b i ∷ paired_left g h xs ys (omega arith) i

  pub paired_right : (g : C → B) → ((a : A) (b : B) → g (f a b) ≡ b) → (xs : List A) (ys : List B) → length xs ≡ length ys → map g (paired f xs ys) ≡ ys
  paired_right g h [] [] e = refl
  paired_right g h [] (b ∷ ys) e = absurd (omega arith)
  paired_right g h (a ∷ xs) [] e = absurd (omega arith)
  paired_right g h (a ∷ xs) (b ∷ ys) e = λ i. h a b i ∷ paired_right g h xs ys (omega arith) i
