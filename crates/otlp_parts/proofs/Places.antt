-- Where a field's content stands in the text.
use Rattle.std.proofs.Common.{◌≡◌, ◌≤◌, ◌+◌, ◌-◌, ℕ, List, ◌++◌, length, take, drop, Result, sym, ap, ◌∙◌, arith, length-append, append_assoc}
use Rattle.std.specs.List.{slice_range}
use Rattle.std.proofs.Math.Seq.{take-append_seam, drop-append_seam}
use Rattle.pb_wire.specs.Grammar.{Bytes, Entry, IsField, Begins, varint_field, eight_field, bytes_field, four_field, group_field}
use Rattle.otlp_read.specs.Walk.{Step}
use Rattle.otlp_read.specs.declared.fault.ReadFault.{ReadFault}
use Rattle.otlp_read.proofs.Turns.{LeftGives}

-- what was taken stands before what is left, which read on gives what the whole gives
pub record Left {Y : Type 0} (step : Step Y) (d : ℕ) (y : Y) (text left : List ℕ) (read : Result Y ReadFault) : Type 0 where
  pub kept : LeftGives step d y left read
  pub taken : List ℕ
  pub parts : text ≡ taken ++ left

-- the content is the end of the field
pub ends_field : {d : ℕ} {front : List ℕ} {field : Entry} → IsField d front field → (content : List ℕ) → field.value ≡ Bytes content → (head : List ℕ) × (front ≡ head ++ content)
ends_field (varint_field is v) content e = absurd (cc)
ends_field (eight_field is long) content e = absurd (cc)
ends_field (bytes_field {tag = tag} {size = size} {text = text} is s) content e =
    let same : text ≡ content = cc in
    (tag ++ size, ap (λ (t : List ℕ). tag ++ (size ++ t)) same ∙ sym (append_assoc tag size content))
ends_field (four_field is long) content e = absurd (cc)
ends_field (group_field deep is _ close) content e = absurd (cc)

-- a part between two others
pub between : (a b c : List ℕ) → slice_range (a ++ (b ++ c)) (length a) (length a + length b) ≡ b
between a b c =
    let count : length a + length b - length a ≡ length b = omega arith in
    ap (λ (n : ℕ). take n (drop (length a) (a ++ (b ++ c)))) count ∙ ap (take (length b)) (drop-append_seam a (b ++ c)) ∙ take-append_seam b c

pub place : (d : ℕ) (text taken left rest : List ℕ) (field : Entry) → text ≡ taken ++ left → Begins d left field rest → (content : List ℕ) → field.value ≡ Bytes content
    → (length content ≤ length text - length rest) × (slice_range text (length text - length rest - length content) (length text - length rest) ≡ content)
place d text taken left rest field parts begins content is =
    let h = ends_field begins.first content is in
    let whole : text ≡ (taken ++ h.0) ++ (content ++ rest) =
    parts ∙ ap (λ (t : List ℕ). taken ++ t) (begins.parts ∙ ap (λ (t : List ℕ). t ++ rest) h.1 ∙ append_assoc h.0 content rest) ∙ sym (append_assoc taken h.0 (content ++ rest)) in
    let size : length text ≡ length (taken ++ h.0) + (length content + length rest) = ap length whole ∙ length-append (taken ++ h.0) (content ++ rest) ∙ ap (λ (n : ℕ). length (taken ++ h.0) + n) (length-append content rest) in
    let start : length text - length rest - length content ≡ length (taken ++ h.0) = omega arith in
    let end : length text - length rest ≡ length (taken ++ h.0) + length content = omega arith in
    (omega arith, ap (λ (n : ℕ). slice_range text n (length text - length rest)) start ∙ ap (λ (n : ℕ). slice_range text (length (taken ++ h.0)) n) end ∙ ap (λ (t : List ℕ). slice_range t (length (taken ++ h.0)) (length (taken ++ h.0) + length content)) whole ∙ between (taken ++ h.0) content rest)
