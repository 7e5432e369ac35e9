-- Whether a resource or a scope can be read, and its fault, doesn't depend on what it is merged into.
use Rattle.std.proofs.Common.{◌≡◌, ℕ, zero, suc, ◌-◌, ◌==◌, Bool, true, false, if◌then◌else◌, List, length, Option, Some, None, Result, Ok, Err, refl, sym, ◌∙◌}
use Rattle.std.specs.Prelude.{unwrap_or}
use Rattle.pb_wire.specs.declared.field.WireFault.{WireFault}
use Rattle.pb_wire.specs.Grammar.{Datum, Varint, Eight, Bytes, Four, Group, Entry}
use Rattle.pb_wire.specs.Reading.{next_at}
use Rattle.otlp_trace.specs.Data.{KeyValueData, ResourceData, ScopeData}
use Rattle.otlp_read.specs.declared.fault.ReadFault.{ReadFault}
use Rattle.otlp_trace.specs.Defaults.{no_resource, no_scope}
use Rattle.otlp_read.specs.AnyValue.{no_key_value, key_value_step}
use Rattle.otlp_read.specs.Numbers.{utf8}
use Rattle.otlp_read.specs.Value.{resource_step, scope_step, merged_resource, merged_scope}
use Rattle.otlp_read.specs.Walk.{◌>>=◌, Step, before, onward, walk_in, walk, read_with, with_another}
use Rattle.otlp_parts.specs.Embedded.{resource_embedding, scope_embedding, fault_of, MergeLaws}

-- what is made of a value has its fault
made_fate : {A B : Type 0} (r : Result A ReadFault) (f : A → B) → fault_of (r >>= λ x. Ok (f x)) ≡ fault_of r
made_fate (Ok x) f = refl
made_fate (Err e) f = refl

put_fate : {A B C : Type 0} (r : Result A ReadFault) (f : A → B) (g : A → C) → fault_of (r >>= λ x. Ok (f x)) ≡ fault_of (r >>= λ x. Ok (g x))
put_fate r f g = made_fate r f ∙ sym (made_fate r g)

push_fate : {A B C : Type 0} (r : Result A ReadFault) (xs ys : List A) (f : List A → B) (g : List A → C) → fault_of (with_another xs r >>= λ l. Ok (f l)) ≡ fault_of (with_another ys r >>= λ l. Ok (g l))
push_fate (Ok x) xs ys f g = refl
push_fate (Err e) xs ys f g = refl

-- ---- one field

one_fate : {A : Type 0} (one : Bool) (r s : Result A ReadFault) (a b : A) → fault_of r ≡ fault_of s
    → fault_of (unwrap_or (if one then Some r else None) (Ok a)) ≡ fault_of (unwrap_or (if one then Some s else None) (Ok b))
one_fate true r s a b same = same
one_fate false r s a b same = refl

three_fates : {A : Type 0} (one two three : Bool) (r s t u v w : Result A ReadFault) (a b : A) → fault_of r ≡ fault_of u → fault_of s ≡ fault_of v → fault_of t ≡ fault_of w
    → fault_of (unwrap_or (if one then Some r else if two then Some s else if three then Some t else None) (Ok a)) ≡ fault_of (unwrap_or (if one then Some u else if two then Some v else if three then Some w else None) (Ok b))
three_fates true two three r s t u v w a b first second third = first
three_fates false true three r s t u v w a b first second third = second
three_fates false false true r s t u v w a b first second third = third
three_fates false false false r s t u v w a b first second third = refl

attribute_fate : {A : Type 0} (room : ℕ) (bs : List ℕ) (xs ys : List KeyValueData) (f g : List KeyValueData → A)
    → fault_of (with_another xs (read_with key_value_step room no_key_value bs) >>= λ l. Ok (f l)) ≡ fault_of (with_another ys (read_with key_value_step room no_key_value bs) >>= λ l. Ok (g l))
attribute_fate room bs xs ys f g = push_fate (read_with key_value_step room no_key_value bs) xs ys f g

resource_bytes : (room n : ℕ) (bs spelled : List ℕ) (a b : ResourceData) → fault_of (resource_step room a (record { number = n; value = Bytes bs }) spelled) ≡ fault_of (resource_step room b (record { number = n; value = Bytes bs }) spelled)
resource_bytes room n bs spelled a b = one_fate (n == 1) _ _ _ _ (attribute_fate room bs a.attributes b.attributes (λ l. record a { attributes = l }) (λ l. record b { attributes = l }))

by_number : {A : Type 0} (one : Bool) (x y a b : A) → fault_of {A = A} (unwrap_or (if one then Some (Ok x) else None) (Ok a)) ≡ fault_of {A = A} (unwrap_or (if one then Some (Ok y) else None) (Ok b))
by_number true x y a b = refl
by_number false x y a b = refl

resource_field : (room n : ℕ) (v : Datum) (spelled : List ℕ) (a b : ResourceData) → fault_of (resource_step room a (record { number = n; value = v }) spelled) ≡ fault_of (resource_step room b (record { number = n; value = v }) spelled)
resource_field room n (Varint x) spelled a b = by_number (n == 2) _ _ _ _
resource_field room n (Eight bs) spelled a b = refl
resource_field room n (Bytes bs) spelled a b = resource_bytes room n bs spelled a b
resource_field room n (Four bs) spelled a b = refl
resource_field room n (Group bs) spelled a b = refl

scope_bytes : (room n : ℕ) (bs spelled : List ℕ) (a b : ScopeData) → fault_of (scope_step room a (record { number = n; value = Bytes bs }) spelled) ≡ fault_of (scope_step room b (record { number = n; value = Bytes bs }) spelled)
scope_bytes room n bs spelled a b =
    three_fates (n == 1) (n == 2) (n == 3) _ _ _ _ _ _ _ _ (put_fate (utf8 bs) (λ text. record a { name = text }) (λ text. record b { name = text })) (put_fate (utf8 bs) (λ text. record a { version = text }) (λ text. record b { version = text })) (attribute_fate room bs a.attributes b.attributes (λ l. record a { attributes = l }) (λ l. record b { attributes = l }))

scope_field : (room n : ℕ) (v : Datum) (spelled : List ℕ) (a b : ScopeData) → fault_of (scope_step room a (record { number = n; value = v }) spelled) ≡ fault_of (scope_step room b (record { number = n; value = v }) spelled)
scope_field room n (Varint x) spelled a b = by_number (n == 4) _ _ _ _
scope_field room n (Eight bs) spelled a b = refl
scope_field room n (Bytes bs) spelled a b = scope_bytes room n bs spelled a b
scope_field room n (Four bs) spelled a b = refl
scope_field room n (Group bs) spelled a b = refl

-- ---- all fields

abbrev SameFate : {A : Type 0} → Step A → Type 0
SameFate {A} step = (a b : A) (e : Entry) (spelled : List ℕ) → fault_of (step a e spelled) ≡ fault_of (step b e spelled)

rest_fate : {A : Type 0} (r s : Result A ReadFault) (p : A → Result A ReadFault) → fault_of r ≡ fault_of s → ((a b : A) → fault_of (p a) ≡ fault_of (p b)) → fault_of (r >>= p) ≡ fault_of (s >>= p)
rest_fate (Ok a) (Ok b) p same deeper = deeper a b
rest_fate (Ok a) (Err g) p same deeper = absurd (cc)
rest_fate (Err f) (Ok b) p same deeper = absurd (cc)
rest_fate (Err f) (Err g) p same deeper = same

next_fate : {A : Type 0} (step : Step A) (others : A → List ℕ → Result A ReadFault) (a b : A) (bytes : List ℕ) (r : Result (Option (Entry × List ℕ)) WireFault) → SameFate step
    → ((rest : List ℕ) (c d : A) → fault_of (others c rest) ≡ fault_of (others d rest)) → fault_of (onward step others a bytes r) ≡ fault_of (onward step others b bytes r)
next_fate step others a b bytes (Ok None) same deeper = refl
next_fate step others a b bytes (Ok (Some x)) same deeper = rest_fate (step a x.0 (before bytes x.1)) (step b x.0 (before bytes x.1)) (λ c. others c x.1) (same a b x.0 (before bytes x.1)) (deeper x.1)
next_fate step others a b bytes (Err f) same deeper = refl

walk_fate : {A : Type 0} (step : Step A) (d n : ℕ) (a b : A) (bytes : List ℕ) → SameFate step → fault_of (walk_in step d n a bytes) ≡ fault_of (walk_in step d n b bytes)
unfolding walk_in
walk_fate step d zero a b bytes same = refl
walk_fate step d (suc n) a b bytes same = next_fate step (walk_in step d n) a b bytes (next_at d bytes) same (λ rest c e. walk_fate step d n c e rest same)

read_fate : {A : Type 0} (step : ℕ → Step A) (room : ℕ) (a b : A) (bytes : List ℕ) → ((r : ℕ) → SameFate (step r)) → fault_of (read_with step room a bytes) ≡ fault_of (read_with step room b bytes)
unfolding read_with walk
read_fate step zero a b bytes same = refl
read_fate step (suc room) a b bytes same = walk_fate (step room) (100 - room) (length bytes) a b bytes (same room)

-- ---- the laws

resource_fate : (a b : ResourceData) (bytes : List ℕ) → fault_of (read_with resource_step 99 a bytes) ≡ fault_of (read_with resource_step 99 b bytes)
resource_fate a b bytes = read_fate resource_step 99 a b bytes (λ r x y e spelled. resource_field r e.number e.value spelled x y)

scope_fate : (a b : ScopeData) (bytes : List ℕ) → fault_of (read_with scope_step 98 a bytes) ≡ fault_of (read_with scope_step 98 b bytes)
scope_fate a b bytes = read_fate scope_step 98 a b bytes (λ r x y e spelled. scope_field r e.number e.value spelled x y)

pub resource_laws : MergeLaws resource_embedding
resource_laws = record {
  same_fault = λ before bytes. made_fate (merged_resource 99 before bytes) (λ x. Some x) ∙ resource_fate (unwrap_or before no_resource) no_resource bytes;
}

pub scope_laws : MergeLaws scope_embedding
scope_laws = record {
  same_fault = λ before bytes. made_fate (merged_scope 98 before bytes) (λ x. Some x) ∙ scope_fate (unwrap_or before no_scope) no_scope bytes;
}
