-- What keys and rows show where spans, texts or rows change.
use Rattle.std.proofs.Common.{◌≡◌, ℕ, ◌+◌, ◌-◌, ◌<◌, ◌≤◌, List, [], ◌∷◌, ◌++◌, refl, sym, ap, ◌∙◌, arith, append_assoc, Bool, true, false, Option, Some, None, eqb, cond}
use Rattle.std.specs.Prelude.{option_to_list}
use Rattle.std.proofs.lemmas.Bool.Decides.{nat_tests}
use Rattle.span_pool.specs.Stored.{StoredData, SpanTexts}
use Rattle.span_pool.specs.Stored as keyed
use Rattle.span_pool.specs.Pool.{with_span, without}
use Rattle.text_pool.specs.declared.pool.CountedText.{CountedText}
use Rattle.trace_rows.specs.declared.table.Row.{Row}
use Rattle.trace_rows.specs.Part.{with_at, keys_of}
use Rattle.tenant_stores.specs.Part.{Part}
use Rattle.tenant_stores.specs.Counts.{Counts, AreInOrder, in_table, waiting_numbers, range, count}
use Rattle.tenant_stores.specs.View.{SettledRow, WaitingRow, View, text_at, shown, spans_at, as_waiting, as_settled, waiting_rows, settled_rows, keys_in, text_keys_of, text_keys_at, view}
use Rattle.tenant_stores.specs.Invariant.{named_keys}
use Rattle.tenant_stores.specs.Shows.{AreAmong}
use Rattle.tenant_stores.proofs.Lists.{count-append, count-self, range-append, AreOther}
use Rattle.tenant_stores.proofs.Uses.{without-other}
use Rattle.tenant_stores.proofs.Rows.{row_other, keys_in-append}

-- each of these keys shows what it did
abbrev pub ShowAlike : List ℕ → (ℕ → Option StoredData) → (ℕ → Option CountedText) → (ℕ → Option StoredData) → (ℕ → Option CountedText) → Type 0
ShowAlike ks s t s' t' = (k : ℕ) → 0 < count k ks → shown t' (s' k) ≡ shown t (s k)

pub spans-append : (s : ℕ → Option StoredData) (t : ℕ → Option CountedText) (xs ys : List ℕ) → spans_at s t (xs ++ ys) ≡ spans_at s t xs ++ spans_at s t ys
spans-append s t [] ys = refl
spans-append s t (x ∷ xs) ys = ap (λ (l : List SpanTexts). shown t (s x) ++ l) (spans-append s t xs ys) ∙ sym (append_assoc (shown t (s x)) (spans_at s t xs) (spans_at s t ys))

module _ (s : ℕ → Option StoredData) (t : ℕ → Option CountedText) (s' : ℕ → Option StoredData) (t' : ℕ → Option CountedText) where
  pub spans-alike : (ks : List ℕ) → ShowAlike ks s t s' t' → spans_at s' t' ks ≡ spans_at s t ks
  spans-alike [] alike = refl
  spans-alike (k ∷ ks) alike =
      let here : shown t' (s' k) ≡ shown t (s k) = alike k (omega (arith, count-self k ks)) in
      let rest : ShowAlike ks s t s' t' = λ j some. alike j (omega (arith, some)) in
      cc (here, spans-alike ks rest)

  row-alike : {N : Type 0} (o : Option (Row N)) → ShowAlike (keys_of o) s t s' t' → as_waiting s' t' o ≡ as_waiting s t o
  row-alike None alike = refl
  row-alike (Some row) alike = ap (λ (spans : List SpanTexts). record { trace = row.trace; due = row.due; spans = spans; note = row.note } ∷ []) (spans-alike row.keys alike)

  pub rows-alike : {N : Type 0} (rows : ℕ → Option (Row N)) (js : List ℕ) → ShowAlike (keys_in rows js) s t s' t' → waiting_rows s' t' rows js ≡ waiting_rows s t rows js
  rows-alike rows [] alike = refl
  rows-alike rows (j ∷ js) alike =
      let first : ShowAlike (keys_of (rows j)) s t s' t' = λ k some. alike k (omega (arith, some, count-append k (keys_of (rows j)) (keys_in rows js))) in
      let rest : ShowAlike (keys_in rows js) s t s' t' = λ k some. alike k (omega (arith, some, count-append k (keys_of (rows j)) (keys_in rows js))) in
      cc (row-alike (rows j) first, rows-alike rows js rest)

-- the numbers of rows that wait come last
pub table_split : (n : Counts) → AreInOrder n → in_table n ≡ range n.swept (n.decided - n.swept) ++ waiting_numbers n
table_split n order =
    let a = order.swept in
    let b = order.first in
    let c = order.decided in
    let size : (n.decided - n.swept) + (n.opened - n.decided) ≡ n.opened - n.swept = omega (arith, a, b, c) in
    let start : n.swept + (n.decided - n.swept) ≡ n.decided = omega (arith, a, b) in
    ap (range n.swept) (sym size) ∙ (range-append (n.decided - n.swept) (n.opened - n.decided) n.swept ∙ ap (λ (d : ℕ). range n.swept (n.decided - n.swept) ++ range d (n.opened - n.decided)) start)

module _ {N : Type 0} where
  pub waiting-append : (s : ℕ → Option StoredData) (t : ℕ → Option CountedText) (rows : ℕ → Option (Row N)) (xs ys : List ℕ) → waiting_rows s t rows (xs ++ ys) ≡ waiting_rows s t rows xs ++ waiting_rows s t rows ys
  waiting-append s t rows [] ys = refl
  waiting-append s t rows (x ∷ xs) ys = ap (λ (l : List (WaitingRow N)). as_waiting s t (rows x) ++ l) (waiting-append s t rows xs ys) ∙ sym (append_assoc (as_waiting s t (rows x)) (waiting_rows s t rows xs) (waiting_rows s t rows ys))

  pub settled-append : (rows : ℕ → Option (Row N)) (xs ys : List ℕ) → settled_rows rows (xs ++ ys) ≡ settled_rows rows xs ++ settled_rows rows ys
  settled-append rows [] ys = refl
  settled-append rows (x ∷ xs) ys = ap (λ (l : List SettledRow). as_settled (rows x) ++ l) (settled-append rows xs ys) ∙ sym (append_assoc (as_settled (rows x)) (settled_rows rows xs) (settled_rows rows ys))

  -- another row at a number that isn't among these
  pub waiting-other : (s : ℕ → Option StoredData) (t : ℕ → Option CountedText) (k : ℕ) (w : Option (Row N)) (rows : ℕ → Option (Row N)) (js : List ℕ) → AreOther k js → waiting_rows s t (with_at k w rows) js ≡ waiting_rows s t rows js
  waiting-other s t k w rows [] other = refl
  waiting-other s t k w rows (j ∷ js) other =
      let here : as_waiting s t (with_at k w rows j) ≡ as_waiting s t (rows j) = ap (as_waiting s t) (row_other k w rows j other.0) in
      cc (here, waiting-other s t k w rows js other.1)

  pub settled-other : (k : ℕ) (w : Option (Row N)) (rows : ℕ → Option (Row N)) (js : List ℕ) → AreOther k js → settled_rows (with_at k w rows) js ≡ settled_rows rows js
  settled-other k w rows [] other = refl
  settled-other k w rows (j ∷ js) other =
      let here : as_settled (with_at k w rows j) ≡ as_settled (rows j) = ap as_settled (row_other k w rows j other.0) in
      cc (here, settled-other k w rows js other.1)

  -- a view from its three
  pub view_by : (a a' : List SettledRow) (b b' : List (WaitingRow N)) (c c' : List SpanTexts) → a ≡ a' → b ≡ b' → c ≡ c' →
      (let left : View N = record { settled = a; waiting = b; pending = c } in let right : View N = record { settled = a'; waiting = b'; pending = c' } in left ≡ right)
  view_by a a' b b' c c' p o q = λ i. record { settled = p i; waiting = o i; pending = q i }

  -- and their keys are among those that are named
  pub waiting_keys : (n : Counts) (rows : ℕ → Option (Row N)) (k : ℕ) → AreInOrder n → count k (keys_in rows (waiting_numbers n)) ≤ count k (keys_in rows (in_table n))
  waiting_keys n rows k order =
      let front = range n.swept (n.decided - n.swept) in
      let whole : keys_in rows (in_table n) ≡ keys_in rows front ++ keys_in rows (waiting_numbers n) = ap (keys_in rows) (table_split n order) ∙ keys_in-append rows front (waiting_numbers n) in
      omega (arith, ap (count k) whole, count-append k (keys_in rows front) (keys_in rows (waiting_numbers n)))

  -- a part whose rows are the same shows the same, as far as its keys do
  pub same_view : (n : Counts) (left keys : List ℕ) (p q : Part N) → AreInOrder n → q.rows ≡ p.rows → ShowAlike (named_keys n left p) p.spans p.texts q.spans q.texts → AreAmong keys left → view n keys q ≡ view n keys p
  same_view n left keys p q order rows alike among =
      let K = keys_in p.rows (in_table n) in
      let W = waiting_numbers n in
      let in_rows : ShowAlike (keys_in p.rows W) p.spans p.texts q.spans q.texts = λ k some. alike k (omega (arith, some, waiting_keys n p.rows k order, count-append k K left)) in
      let in_keys : ShowAlike keys p.spans p.texts q.spans q.texts = λ k some. alike k (omega (arith, some, among k, count-append k K left)) in
      let settled : (view n keys q).settled ≡ (view n keys p).settled = ap (λ (f : ℕ → Option (Row N)). settled_rows f (range n.first (n.decided - n.first))) rows in
      let waiting : (view n keys q).waiting ≡ (view n keys p).waiting = ap (λ (f : ℕ → Option (Row N)). waiting_rows q.spans q.texts f W) rows ∙ rows-alike p.spans p.texts q.spans q.texts p.rows W in_rows in
      view_by (view n keys q).settled (view n keys p).settled (view n keys q).waiting (view n keys p).waiting (view n keys q).pending (view n keys p).pending settled waiting (spans-alike p.spans p.texts q.spans q.texts keys in_keys)

-- ---- texts that are what they were

same_at : (t t' : ℕ → Option CountedText) (key : Option ℕ) → ((k : ℕ) → 0 < count k (option_to_list key) → text_at t' k ≡ text_at t k) → keyed.text_at (text_at t') key ≡ keyed.text_at (text_at t) key
same_at t t' None same = refl
same_at t t' (Some key) same = same key (omega (arith, count-self key []))

-- a span shows the same where its texts do
pub shown-texts : (t t' : ℕ → Option CountedText) (o : Option StoredData) → ((k : ℕ) → 0 < count k (text_keys_of o) → text_at t' k ≡ text_at t k) → shown t' o ≡ shown t o
shown-texts t t' None same = refl
shown-texts t t' (Some span) same =
    let a = option_to_list span.keys.resource in
    let b = option_to_list span.keys.resource_schema_url in
    let c = option_to_list span.keys.scope in
    let d = option_to_list span.keys.scope_schema_url in
    let sum : (k : ℕ) → count k (a ++ (b ++ (c ++ d))) ≡ count k a + (count k b + (count k c + count k d)) = λ k. omega (arith, count-append k a (b ++ (c ++ d)), count-append k b (c ++ d), count-append k c d) in
    let one = same_at t t' span.keys.resource (λ k some. same k (omega (arith, some, sum k))) in
    let two = same_at t t' span.keys.resource_schema_url (λ k some. same k (omega (arith, some, sum k))) in
    let three = same_at t t' span.keys.scope (λ k some. same k (omega (arith, some, sum k))) in
    let four = same_at t t' span.keys.scope_schema_url (λ k some. same k (omega (arith, some, sum k))) in
    cc (one, two, three, four)

-- the texts of a span are among those that spans at these keys name
pub names_of : (s : ℕ → Option StoredData) (t k : ℕ) (ks : List ℕ) → 0 < count k ks → count t (text_keys_of (s k)) ≤ count t (text_keys_at s ks)
names_of s t k [] some = absurd (omega (arith, some))
names_of s t k (j ∷ js) some = by_test (eqb j k) refl some (names_of s t k js)
  where
    by_test : (b : Bool) → eqb j k ≡ b → 0 < cond b 1 0 + count k js → (0 < count k js → count t (text_keys_of (s k)) ≤ count t (text_keys_at s js)) → count t (text_keys_of (s k)) ≤ count t (text_keys_at s (j ∷ js))
    by_test true e some ih =
        let same : j ≡ k = grind (arith, nat_tests, e) in
        let sum = count-append t (text_keys_of (s j)) (text_keys_at s js) in
        let here : count t (text_keys_of (s k)) ≡ count t (text_keys_of (s j)) = ap (λ (i : ℕ). count t (text_keys_of (s i))) (sym same) in
        omega (arith, sum, here)
    by_test false e some ih =
        let less : 0 < count k js = omega (arith, some) in
        let rest = ih less in
        omega (arith, rest, count-append t (text_keys_of (s j)) (text_keys_at s js))

-- so these keys show the same where the texts do that their spans name
pub alike-texts : (s : ℕ → Option StoredData) (t t' : ℕ → Option CountedText) (ks : List ℕ) → ((k : ℕ) → 0 < count k (text_keys_at s ks) → text_at t' k ≡ text_at t k) → ShowAlike ks s t s t'
alike-texts s t t' ks same k some = shown-texts t t' (s k) (λ j named. same j (omega (arith, named, names_of s j k ks some)))

-- ---- spans that come and leave

-- a key that isn't named may get any span
pub alike-put : (key : ℕ) (slot : Option StoredData) (s : ℕ → Option StoredData) (t : ℕ → Option CountedText) (ks : List ℕ) → count key ks ≡ 0 → ShowAlike ks s t (with_span key slot s) t
alike-put key slot s t ks none k some = by_test (eqb k key) refl
  where
    by_test : (b : Bool) → eqb k key ≡ b → shown t (cond b slot (s k)) ≡ shown t (s k)
    by_test true e =
        let same : k ≡ key = grind (arith, nat_tests, e) in
        let zero' : count k ks ≡ 0 = ap (λ (j : ℕ). count j ks) same ∙ none in
        absurd (omega (arith, some, zero'))
    by_test false e = refl

-- and those at other keys may leave, where texts that are named stay
pub alike-without : (gone : List ℕ) (s : ℕ → Option StoredData) (t t' : ℕ → Option CountedText) (ks : List ℕ) → ((j : ℕ) → count j gone + count j ks ≤ 1) → ((k : ℕ) → 0 < count k (text_keys_at s ks) → text_at t' k ≡ text_at t k) → ShowAlike ks s t (without gone s) t'
alike-without gone s t t' ks apart same k some =
    let none : count k gone ≡ 0 = omega (arith, apart k, some) in
    let there : without gone s k ≡ s k = without-other gone s k none in
    ap (shown t') there ∙ alike-texts s t t' ks same k some
