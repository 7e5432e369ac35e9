-- A message that stands again is merged by having its text behind that of the one before.
use Rattle.std.proofs.Common.{◌≡◌, ℕ, zero, suc, ◌-◌, true, false, List, ◌++◌, Option, Some, None, Result, Ok, Err, refl, sym, ap, ◌∙◌, append_assoc}
use Rattle.std.specs.Prelude.{is_ok}
use Rattle.otlp_read.specs.declared.fault.ReadFault.{ReadFault}
use Rattle.otlp_read.specs.declared.fault.ReadFault.TheVariants.{Truncated, VarintTooLong, BadTag, GroupMismatch, TooDeep, NotUtf8, OutOfMemory}
use Rattle.otlp_read.specs.Fault.{Fails, Gives}
use Rattle.otlp_read.specs.Walk.{◌>>=◌, Step, Piece, Pieces, no_pieces, more_pieces, fold_fields, walk, read_with}
use Rattle.otlp_read.proofs.Laws.{bind_ok, front_taken, makes}
use Rattle.otlp_parts.specs.ReadAs.{value_or}
use Rattle.otlp_parts.specs.Embedded.{Embedding, message_in, message_of, another, fault_of, MergeLaws}
use Rattle.otlp_parts.proofs.Values.{value_is}

-- ---- any message

-- sound fields are taken, whatever stands behind them
taken_on : {A : Type 0} (step : Step A) {d : ℕ} {text : List ℕ} {pieces : List Piece} → Pieces d text pieces → (a b : A) → fold_fields step a pieces ≡ Ok b → (rest : List ℕ) → walk step d a (text ++ rest) ≡ walk step d b rest
taken_on step (no_pieces {d = d}) a b made rest =
    let same : a ≡ b = cc in
    ap (λ x. walk step d x rest) same
taken_on step (more_pieces {d = d} {front = front} {rest = others} {field = field} {pieces = pieces} first inner) a b made rest =
    let one = bind_ok (step a field front) (λ c. fold_fields step c pieces) b made in
    ap (walk step d a) (append_assoc front others rest) ∙ front_taken step d a one.0 front (others ++ rest) field first one.1 ∙ taken_on step inner one.0 b one.2 rest

-- two texts, one behind the other
both_read : {A : Type 0} (step : ℕ → Step A) (room : ℕ) (none a : A) (first second : List ℕ) → read_with step room none first ≡ Ok a → read_with step room none (first ++ second) ≡ read_with step room a second
unfolding read_with
both_read step zero none a first second made = absurd (let never : ◌≡◌ {A = Result _ ReadFault} (Err TooDeep) (Ok a) = made in cc)
both_read step (suc room) none a first second made =
    let m = makes (step room) (100 - room) none a first made in
    taken_on (step room) m.are none a m.made second

-- ---- readings of one fault

sound_alike : {A B : Type 0} (r : Result A ReadFault) (s : Result B ReadFault) → fault_of s ≡ fault_of r → is_ok r ≡ true → is_ok s ≡ true
sound_alike r (Ok b) same sound = refl
sound_alike (Ok a) (Err g) same sound = absurd (cc)
sound_alike (Err f) (Err g) same sound = absurd (cc)

failed_alike : {A B : Type 0} (r : Result A ReadFault) (s : Result B ReadFault) (f : ReadFault) → fault_of s ≡ fault_of r → r ≡ Err f → s ≡ Err f
failed_alike r (Ok b) f same is = absurd (let no : None ≡ Some f = same ∙ ap fault_of is in cc)
failed_alike r (Err g) f same is = let one : Some g ≡ Some f = same ∙ ap fault_of is in let e : g ≡ f = cc in ap (λ (h : ReadFault). Err h) e

fails_alike : {A B : Type 0} (r : Result A ReadFault) (s : Result B ReadFault) (f : ReadFault) → fault_of s ≡ fault_of r → Fails f r → Fails f s
fails_alike r s Truncated same is = failed_alike r s Truncated same is
fails_alike r s VarintTooLong same is = failed_alike r s VarintTooLong same is
fails_alike r s BadTag same is = failed_alike r s BadTag same is
fails_alike r s GroupMismatch same is = failed_alike r s GroupMismatch same is
fails_alike r s TooDeep same is = failed_alike r s TooDeep same is
fails_alike r s NotUtf8 same is = failed_alike r s NotUtf8 same is
fails_alike r s OutOfMemory same is = tt

pub gives_err : {X A B : Type 0} (view : X → B) (x : Result X ReadFault) (f g : ReadFault) (r : Result A ReadFault) (s : Result B ReadFault) → x ≡ Err f → f ≡ g → fault_of s ≡ fault_of r → Fails g r → Gives view x s
gives_err view x f g r s is of same fails = rw (is, of) (fails_alike r s g same fails)

-- ---- a message that stands again

pub joined : {A : Type 0} (e : Embedding A) (laws : MergeLaws e) (texts bytes : List ℕ) → is_ok (message_in e texts) ≡ true → is_ok (message_in e bytes) ≡ true
    → (is_ok (message_in e (texts ++ bytes)) ≡ true) × (another e (Some (message_of e texts)) bytes ≡ Ok (Some (message_of e (texts ++ bytes))))
joined {A = A} e laws texts bytes are is =
    let before = message_of e texts in
    let read : message_in e (texts ++ bytes) ≡ read_with e.step e.room before bytes = both_read e.step e.room e.none before texts bytes (value_is e.none (message_in e texts) are) in
    let more : another e (Some before) bytes ≡ (message_in e (texts ++ bytes) >>= λ x. Ok (Some x)) = ap (λ (r : Result A ReadFault). r >>= λ x. Ok (Some x)) (sym read) in
    let sound : is_ok (another e (Some before) bytes) ≡ true = sound_alike (message_in e bytes) (another e (Some before) bytes) (laws.same_fault (Some before) bytes) is in
    some_of (message_in e (texts ++ bytes)) (another e (Some before) bytes) more sound
  where
    some_of : (r : Result A ReadFault) (s : Result (Option A) ReadFault) → s ≡ (r >>= λ x. Ok (Some x)) → is_ok s ≡ true → (is_ok r ≡ true) × (s ≡ Ok (Some (value_or e.none r)))
    some_of (Ok x) s same sound = (refl, same)
    some_of (Err f) s same sound = absurd (let no : false ≡ true = ap (λ (t : Result (Option A) ReadFault). is_ok t) (sym same) ∙ sound in cc)
