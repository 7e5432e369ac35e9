-- Messages inside others.
use Rattle.std.proofs.Common.{◌≡◌, ℕ, List, [], ◌∷◌, ◌++◌, Option, Some, None, option_map, IfSome, refl, sym, ap, ◌∙◌, append_assoc}
use Rattle.std.specs.List.{AllByRecursion}
use Rattle.otlp_trace.specs.Text.{bytes_field, embedded, repeated}
use Rattle.otlp_canonical.specs.Parts.{Whole, Front}

module _ {A : Type 0} (n : ℕ) (write : A → List ℕ) (Sound : A → Type 0) where
  pub none_more : (text : List ℕ) → Front (repeated n write) (AllByRecursion Sound) text text
  none_more text = record { value = []; sound = tt; parts = refl }

  pub one_more : (text bs mid rest : List ℕ) → text ≡ bytes_field n bs ++ mid → Whole write Sound bs → Front (repeated n write) (AllByRecursion Sound) mid rest → Front (repeated n write) (AllByRecursion Sound) text rest
  one_more text bs mid rest parts w f = record {
    value = w.value ∷ f.value;
    sound = (w.sound, f.sound);
    parts = parts ∙ ap (λ (t : List ℕ). bytes_field n t ++ mid) w.same ∙ ap (λ (t : List ℕ). bytes_field n (write w.value) ++ t) f.parts ∙ sym (append_assoc (bytes_field n (write w.value)) (repeated n write f.value) rest);
  }

  pub embedded_front : (text bs rest : List ℕ) → text ≡ bytes_field n bs ++ rest → Whole write Sound bs → Front (λ o. embedded n (option_map write o)) (λ o. IfSome o Sound) text rest
  embedded_front text bs rest parts w = record { value = Some w.value; sound = w.sound; parts = parts ∙ ap (λ (t : List ℕ). bytes_field n t ++ rest) w.same }

pub all_of : {A : Type 0} {P Q : A → Type 0} (xs : List A) → ((x : A) → P x → Q x) → AllByRecursion P xs → AllByRecursion Q xs
all_of [] to all = tt
all_of (x ∷ xs) to all = (to x all.0, all_of xs to all.1)

pub some_of : {A : Type 0} {P Q : A → Type 0} (o : Option A) → ((x : A) → P x → Q x) → IfSome o P → IfSome o Q
some_of None to is = tt
some_of (Some x) to is = to x is
