-- Text that takes a message on: each form of field, as the canonical text has it.
use Rattle.std.proofs.Common.{◌≡◌, ℕ, ℤ, pos, negsuc, zero, suc, ◌-◌, ◌%◌, ◌<◌, ◌^◌, true, false, ◌==◌, FitsSigned, List, [], ◌∷◌, ◌++◌, length, Option, Some, None, option_map, IfSome, Result, Ok, refl, sym, ap, subst, ◌∙◌, arith, append_assoc, append-nil, length-append}
use Rattle.std.proofs.lemmas.Bool.Decides.{nat_tests}
use Rattle.std.proofs.lemmas.Int.{to_z-of_z}
use Rattle.std.proofs.lemmas.Nat.{from_le_bytes-to_le_bytes_4, from_le_bytes-to_le_bytes_8}
use Rattle.std.specs.Int.{w32, w64, cast_unsigned, to_le_bytes}
use Rattle.std.specs.List.{AllByRecursion}
use Rattle.std.specs.Str.{IsUtf8}
use Rattle.pb_wire.specs.Grammar.{Varint, Eight, Bytes, Four}
use Rattle.otlp_trace.specs.Text.{number_field, bytes_field, eight_field, four_field, unless_zero, some_bytes, some_number, some_signed, some_eight, some_four, embedded, repeated}
use Rattle.otlp_trace.proofs.Signed.{fits32, fits64, low32}
use Rattle.otlp_trace.proofs.Spelled.{is_number, number_some, number_fits, number_at, bytes_at, eight_at, four_at, bytes_within, unless_full}
use Rattle.otlp_read.specs.declared.fault.ReadFault.{ReadFault}
use Rattle.otlp_read.specs.Nested.{IsUnknown, Kept}
use Rattle.otlp_read.specs.Numbers.{utf8, int32, uint32, int64, fixed64, fixed32}
use Rattle.otlp_read.specs.Walk.{◌>>=◌, Step, Known, known_or_kept, Piece, Pieces, no_pieces, more_pieces, walk, with_another}
use Rattle.otlp_read.proofs.Laws.{front_taken}
use Rattle.otlp_read.proofs.Leaves.{utf8_yes}
use Rattle.otlp_read.proofs.Walks.{turn_end}

-- its length can be spelled
abbrev pub Short : List ℕ → Type 0
Short text = length text < 2 ^ 64

-- the text takes the message a to b, whatever follows it
pub record Taken {A : Type 0} (step : Step A) (d : ℕ) (a : A) (text : List ℕ) (b : A) : Type 0 where
  pub taken : Short text → (rest : List ℕ) → walk step d a (text ++ rest) ≡ walk step d b rest

-- what is written of a message reads back
abbrev pub Back : {A : Type 0} → (List ℕ → Result A ReadFault) → (A → List ℕ) → (A → Type 0) → (A → Type 0) → Type 0
Back {A} read text Typed Nested = (x : A) → Typed x → Nested x → Short (text x) → read (text x) ≡ Ok x

-- ---- texts one after the other

pub nothing : {A : Type 0} (step : Step A) (d : ℕ) (a : A) → Taken step d a [] a
nothing step d a = record { taken = λ short rest. refl }

pub then : {A : Type 0} {step : Step A} {d : ℕ} {a b c : A} {t u : List ℕ} → Taken step d a t b → Taken step d b u c → Taken step d a (t ++ u) c
then {step = step} {d = d} {a = a} {t = t} {u = u} first second = record {
  taken = λ short rest.
      let parts = length-append t u in
      ap (walk step d a) (append_assoc t u rest) ∙ first.taken (omega (arith, short, parts)) (u ++ rest) ∙ second.taken (omega (arith, short, parts)) rest;
}

pub whole : {A : Type 0} {step : Step A} {d : ℕ} {a b : A} {text : List ℕ} → Taken step d a text b → Short text → walk step d a text ≡ Ok b
whole {step = step} {d = d} {a = a} {b = b} {text = text} t short = ap (walk step d a) (sym (append-nil text)) ∙ t.taken short [] ∙ turn_end step d b [] refl

-- ---- a field that is always written

module _ {A : Type 0} (step : Step A) (d n : ℕ) (is : is_number n ≡ true) where
  pub bytes_taken : (a b : A) (bs : List ℕ) → (Short bs → step a (record { number = n; value = Bytes bs }) (bytes_field n bs) ≡ Ok b) → Taken step d a (bytes_field n bs) b
  bytes_taken a b bs made = record {
    taken = λ short rest.
        let inside : Short bs = omega (arith, short, bytes_within n bs) in
        front_taken step d a b (bytes_field n bs) rest (record { number = n; value = Bytes bs }) (bytes_at d n bs (number_some n is) (number_fits n is) inside) (made inside);
  }

  pub number_taken : (a b : A) (x : ℕ) → x < 2 ^ 64 → step a (record { number = n; value = Varint x }) (number_field n x) ≡ Ok b → Taken step d a (number_field n x) b
  number_taken a b x fits made = record { taken = λ short rest. front_taken step d a b (number_field n x) rest (record { number = n; value = Varint x }) (number_at d n x (number_some n is) (number_fits n is) fits) made }

  pub eight_taken : (a b : A) (bs : List ℕ) → length bs ≡ 8 → step a (record { number = n; value = Eight bs }) (eight_field n bs) ≡ Ok b → Taken step d a (eight_field n bs) b
  eight_taken a b bs long made = record { taken = λ short rest. front_taken step d a b (eight_field n bs) rest (record { number = n; value = Eight bs }) (eight_at d n bs (number_some n is) (number_fits n is) long) made }

  four_taken : (a b : A) (bs : List ℕ) → length bs ≡ 4 → step a (record { number = n; value = Four bs }) (four_field n bs) ≡ Ok b → Taken step d a (four_field n bs) b
  four_taken a b bs long made = record { taken = λ short rest. front_taken step d a b (four_field n bs) rest (record { number = n; value = Four bs }) (four_at d n bs (number_some n is) (number_fits n is) long) made }

-- ---- fields that are left out at their default: put says the message by what this field holds

unless_zero_taken : {A : Type 0} (step : Step A) (d x : ℕ) (a b : A) (text : List ℕ) → (x ≡ 0 → a ≡ b) → Taken step d a text b → Taken step d a (unless_zero x text) b
unless_zero_taken step d zero a b text same taken = subst (λ c. Taken step d a [] c) (same refl) (nothing step d a)
unless_zero_taken step d (suc x) a b text same taken = let some : (suc x == 0) ≡ false = grind (arith, nat_tests) in rw some taken

zero64 : (z : ℤ) → FitsSigned w64 z → cast_unsigned w64 z ≡ 0 → pos 0 ≡ z
zero64 (pos n) h e = ap pos (sym e)
zero64 (negsuc n) h e = absurd (omega (arith, h.sfits, e))

zero32 : (z : ℤ) → FitsSigned w32 z → cast_unsigned w64 z ≡ 0 → pos 0 ≡ z
zero32 (pos n) h e = ap pos (sym e)
zero32 (negsuc n) h e = absurd (omega (arith, h.sfits, e))

module _ {A : Type 0} (step : Step A) (d n : ℕ) (is : is_number n ≡ true) where
  pub some_bytes_taken : (put : List ℕ → A) (bs : List ℕ) → (step (put []) (record { number = n; value = Bytes bs }) (bytes_field n bs) ≡ Ok (put bs)) → Taken step d (put []) (some_bytes n bs) (put bs)
  some_bytes_taken put [] made = nothing step d (put [])
  some_bytes_taken put (b ∷ bs) made =
      subst (λ t. Taken step d (put []) t (put (b ∷ bs))) (sym (unless_full b bs (bytes_field n (b ∷ bs)))) (bytes_taken step d n is (put []) (put (b ∷ bs)) (b ∷ bs) (λ short. made))

  pub some_string_taken : (put : List ℕ → A) (bs : List ℕ) → IsUtf8 bs → step (put []) (record { number = n; value = Bytes bs }) (bytes_field n bs) ≡ (utf8 bs >>= λ text. Ok (put text)) → Taken step d (put []) (some_bytes n bs) (put bs)
  some_string_taken put bs valid made = some_bytes_taken put bs (made ∙ ap (λ (r : Result (List ℕ) ReadFault). r >>= λ text. Ok (put text)) (utf8_yes bs valid))

  pub some_uint32_taken : (put : ℕ → A) (x : ℕ) → x < 2 ^ 32 → step (put 0) (record { number = n; value = Varint x }) (number_field n x) ≡ Ok (put (uint32 x)) → Taken step d (put 0) (some_number n x) (put x)
  some_uint32_taken put x fits made =
      let low : x % 2 ^ 32 ≡ x = omega (arith, fits) in
      unless_zero_taken step d x (put 0) (put x) (number_field n x) (λ e. ap put (sym e)) (number_taken step d n is (put 0) (put x) x (omega (arith, fits)) (made ∙ ap (λ y. Ok (put y)) low))

  pub some_int32_taken : (put : ℤ → A) (z : ℤ) → FitsSigned w32 z → ((x : ℕ) → step (put (pos 0)) (record { number = n; value = Varint x }) (number_field n x) ≡ Ok (put (int32 x))) → Taken step d (put (pos 0)) (some_signed n z) (put z)
  some_int32_taken put z fits made =
      let x = cast_unsigned w64 z in
      unless_zero_taken step d x (put (pos 0)) (put z) (number_field n x) (λ e. ap put (zero32 z fits e)) (number_taken step d n is (put (pos 0)) (put z) x (fits32 z fits) (made x ∙ ap (λ y. Ok (put y)) (low32 z fits)))

  pub some_int64_taken : (put : ℤ → A) (z : ℤ) → FitsSigned w64 z → ((x : ℕ) → step (put (pos 0)) (record { number = n; value = Varint x }) (number_field n x) ≡ Ok (put (int64 x))) → Taken step d (put (pos 0)) (some_signed n z) (put z)
  some_int64_taken put z fits made =
      let x = cast_unsigned w64 z in
      unless_zero_taken step d x (put (pos 0)) (put z) (number_field n x) (λ e. ap put (zero64 z fits e)) (number_taken step d n is (put (pos 0)) (put z) x (fits64 z fits) (made x ∙ ap (λ y. Ok (put y)) (to_z-of_z w64 z fits)))

  pub some_eight_taken : (put : ℕ → A) (x : ℕ) → x < 2 ^ 64 → ((bs : List ℕ) → step (put 0) (record { number = n; value = Eight bs }) (eight_field n bs) ≡ Ok (put (fixed64 bs))) → Taken step d (put 0) (some_eight n x) (put x)
  some_eight_taken put x fits made =
      let bs = to_le_bytes w64 x in
      unless_zero_taken step d x (put 0) (put x) (eight_field n bs) (λ e. ap put (sym e)) (eight_taken step d n is (put 0) (put x) bs refl (made bs ∙ ap (λ y. Ok (put y)) (from_le_bytes-to_le_bytes_8 x fits)))

  pub some_four_taken : (put : ℕ → A) (x : ℕ) → x < 2 ^ 32 → ((bs : List ℕ) → step (put 0) (record { number = n; value = Four bs }) (four_field n bs) ≡ Ok (put (fixed32 bs))) → Taken step d (put 0) (some_four n x) (put x)
  some_four_taken put x fits made =
      let bs = to_le_bytes w32 x in
      unless_zero_taken step d x (put 0) (put x) (four_field n bs) (λ e. ap put (sym e)) (four_taken step d n is (put 0) (put x) bs refl (made bs ∙ ap (λ y. Ok (put y)) (from_le_bytes-to_le_bytes_4 x fits)))

-- ---- messages inside

module _ {A B : Type 0} (step : Step A) (d n : ℕ) (is : is_number n ≡ true) (read : List ℕ → Result B ReadFault) (text : B → List ℕ) (Typed Nested : B → Type 0) (back : Back read text Typed Nested) where
  pub embedded_taken : (put : Option B → A) (o : Option B) → IfSome o Typed → IfSome o Nested → ((bs : List ℕ) → step (put None) (record { number = n; value = Bytes bs }) (bytes_field n bs) ≡ (read bs >>= λ x. Ok (put (Some x))))
      → Taken step d (put None) (embedded n (option_map text o)) (put o)
  embedded_taken put None typed nested made = nothing step d (put None)
  embedded_taken put (Some x) typed nested made =
      bytes_taken step d n is (put None) (put (Some x)) (text x) (λ short. made (text x) ∙ ap (λ (r : Result B ReadFault). r >>= λ y. Ok (put (Some y))) (back x typed nested short))

  repeated_after : (put : List B → A) (ys xs : List B) → AllByRecursion Typed xs → AllByRecursion Nested xs
      → ((zs : List B) (bs : List ℕ) → step (put zs) (record { number = n; value = Bytes bs }) (bytes_field n bs) ≡ (with_another zs (read bs) >>= λ l. Ok (put l)))
      → Taken step d (put ys) (repeated n text xs) (put (ys ++ xs))
  repeated_after put ys [] typed nested made = subst (λ l. Taken step d (put ys) [] (put l)) (sym (append-nil ys)) (nothing step d (put ys))
  repeated_after put ys (x ∷ xs) typed nested made =
      let one : Taken step d (put ys) (bytes_field n (text x)) (put (ys ++ x ∷ [])) =
      bytes_taken step d n is (put ys) (put (ys ++ x ∷ [])) (text x) (λ short. made ys (text x) ∙ ap (λ (r : Result B ReadFault). with_another ys r >>= λ l. Ok (put l)) (back x typed.0 nested.0 short)) in
      subst (λ l. Taken step d (put ys) (repeated n text (x ∷ xs)) (put l)) (append_assoc ys (x ∷ []) xs) (then one (repeated_after put (ys ++ x ∷ []) xs typed.1 nested.1 made))

  pub repeated_taken : (put : List B → A) (xs : List B) → AllByRecursion Typed xs → AllByRecursion Nested xs
      → ((zs : List B) (bs : List ℕ) → step (put zs) (record { number = n; value = Bytes bs }) (bytes_field n bs) ≡ (with_another zs (read bs) >>= λ l. Ok (put l)))
      → Taken step d (put []) (repeated n text xs) (put xs)
  repeated_taken put xs typed nested made = repeated_after put [] xs typed nested made

-- ---- what isn't known

pieces_taken : {A : Type 0} (known : Known A) (keep : A → List ℕ → A) (d : ℕ) (put : List ℕ → A) → ((u s : List ℕ) → keep (put u) s ≡ put (u ++ s)) → (u : List ℕ) {kept : List ℕ} {pieces : List Piece} → Pieces d kept pieces → AllByRecursion (IsUnknown known) pieces
    → Taken (known_or_kept known keep) d (put u) kept (put (u ++ kept))
pieces_taken known keep d put keeps u no_pieces unknown = subst (λ l. Taken (known_or_kept known keep) d (put u) [] (put l)) (sym (append-nil u)) (nothing (known_or_kept known keep) d (put u))
pieces_taken known keep d put keeps u (more_pieces {front = front} {rest = rest} {field = field} first inner) unknown =
    let step = known_or_kept known keep in
    let one : Taken step d (put u) front (put (u ++ front)) = record {
      taken = λ short others. front_taken step d (put u) (put (u ++ front)) front others field first (rw (unknown.0 (put u), keeps u front) refl);
    } in
    subst (λ l. Taken step d (put u) (front ++ rest) (put l)) (append_assoc u front rest) (then one (pieces_taken known keep d put keeps (u ++ front) inner unknown.1))

pub kept_taken : {A : Type 0} (known : ℕ → Known A) (keep : A → List ℕ → A) (room : ℕ) (put : List ℕ → A) → ((u s : List ℕ) → keep (put u) s ≡ put (u ++ s)) → (kept : List ℕ) → Kept known room kept
    → Taken (known_or_kept (known room) keep) (100 - room) (put []) kept (put kept)
kept_taken known keep room put keeps kept k = pieces_taken (known room) keep (100 - room) put keeps [] k.are k.unknown
