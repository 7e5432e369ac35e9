use Rattle.std.proofs.Common.{◌≡◌, ℕ, ◌≤◌, Bool, true, false, ◌&&◌, if◌then◌else◌, List, [], ◌∷◌, codes, Option, Some, None, refl, ap, arith}
use Rattle.http1.specs.Fields.{content_length, is_chunked, is_number, known_fields, values_named}
use Rattle.http1.specs.declared.fields.ContentLength.TheVariants.{Value, Invalid}
use Rattle.http1.specs.declared.framing.Framing.TheVariants.{NoBody, Chunked}
use Rattle.http_edge.specs.Fields.{field, framing_by_fields, framing_by_length, framing_in, single}
use Rattle.http_edge.specs.Limits.{max_body}
use Rattle.http_edge.specs.Message.{Frame, sized, chunked, frame_of, framing_by, stated}
use Rattle.std.specs.Str.Parse.{digits_value}
use Rattle.std.specs.Prelude.{nat_le, length}
use Rattle.service_runtime.specs.BodyMemory.{counted_by}
use Rattle.service_runtime.proofs.counts_cover_bodies.Goals as goal

not_found : (x : Frame) → None ≡ Some x → ⊥
not_found x e = cc

not_chunked : (n : ℕ) → Some (sized n) ≡ Some chunked → ⊥
not_chunked n e = cc

not_sized : (n : ℕ) → Some chunked ≡ Some (sized n) → ⊥
not_sized n e = cc

-- what is said where the head is sound
within : (sound : Bool) (frame : Option Frame) (x : Frame) → (if sound then frame else None) ≡ Some x → frame ≡ Some x
within true frame x e = e
within false frame x e = absurd (not_found x e)

abbrev stated_in : Option Frame → ℕ
stated_in None = 0
stated_in (Some frame) = stated frame

-- a length by its digits, whether they are few, and whether they are a number
of_number : (few number : Bool) (d n : ℕ) → frame_of (framing_by_length (if few && number then Some d else None)) ≡ Some (sized n)
    → n ≤ counted_by (if number && true then Value d else Invalid)
of_number true true d n e = let same : d ≡ n = ap stated_in e in omega (arith, same)
of_number true false d n e = absurd (not_found (sized n) e)
of_number false true d n e = absurd (not_found (sized n) e)
of_number false false d n e = absurd (not_found (sized n) e)

never_chunked : (few number : Bool) (d : ℕ) → frame_of (framing_by_length (if few && number then Some d else None)) ≡ Some chunked → ⊥
never_chunked true true d e = not_chunked d e
never_chunked true false d e = not_found chunked e
never_chunked false true d e = not_found chunked e
never_chunked false false d e = not_found chunked e

never_sized : (is : Bool) (n : ℕ) → frame_of (if is then Some Chunked else None) ≡ Some (sized n) → ⊥
never_sized true n e = not_sized n e
never_sized false n e = not_found (sized n) e

sized_covered : (codings lengths : List (List ℕ)) (n : ℕ) → frame_of (framing_by_fields NoBody (single codings) (single lengths)) ≡ Some (sized n)
    → n ≤ max_body → n ≤ counted_by (content_length lengths)
sized_covered [] [] n e small = small
sized_covered [] (v ∷ []) n e small = of_number (nat_le (length v) 19) (is_number v) (digits_value 10 v) n e
sized_covered [] (v ∷ w ∷ vs) n e small = absurd (not_found (sized n) e)
sized_covered (c ∷ []) [] n e small = absurd (never_sized (is_chunked c) n e)
sized_covered (c ∷ []) (v ∷ []) n e small = absurd (not_found (sized n) e)
sized_covered (c ∷ []) (v ∷ w ∷ vs) n e small = absurd (not_found (sized n) e)
sized_covered (c ∷ d ∷ cs) lengths n e small = absurd (not_found (sized n) e)

chunked_covered : (codings lengths : List (List ℕ)) → frame_of (framing_by_fields NoBody (single codings) (single lengths)) ≡ Some chunked
    → counted_by (content_length lengths) ≡ max_body
chunked_covered [] [] e = absurd (not_chunked 0 e)
chunked_covered [] (v ∷ []) e = absurd (never_chunked (nat_le (length v) 19) (is_number v) (digits_value 10 v) e)
chunked_covered [] (v ∷ w ∷ vs) e = absurd (not_found chunked e)
chunked_covered (c ∷ []) [] e = refl
chunked_covered (c ∷ []) (v ∷ []) e = absurd (not_found chunked e)
chunked_covered (c ∷ []) (v ∷ w ∷ vs) e = absurd (not_found chunked e)
chunked_covered (c ∷ d ∷ cs) lengths e = absurd (not_found chunked e)

pub returns : goal.returns
unfolding framing_by framing_in field known_fields
returns c = λ minor headers.
    let codings = values_named (codes "transfer-encoding") headers in
    let lengths = values_named (codes "content-length") headers in
    ((λ n e small. sized_covered codings lengths n (within _ _ _ e) small), (λ e. chunked_covered codings lengths (within _ _ _ e)))
