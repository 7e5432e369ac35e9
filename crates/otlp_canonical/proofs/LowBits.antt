-- A span's number of 32 bits is read as its low bits.
use Rattle.std.proofs.Common.{◌≡◌, ◌==◌, ◌%◌, ◌^◌, if◌then◌else◌, ℕ, List, Option, Some, None, unwrap_or, Result, Ok, ap, ◌∙◌}
use Rattle.std.specs.Int.{w32, cast_signed}
use Rattle.pb_wire.specs.Grammar.{Entry, Varint}
use Rattle.otlp_trace.specs.Data.{SpanData}
use Rattle.otlp_read.specs.declared.fault.ReadFault.{ReadFault}
use Rattle.otlp_read.specs.Value.{span_step, keep_span}
use Rattle.otlp_read.specs.Walk.{◌>>=◌, Step, walk, numbered}
use Rattle.otlp_canonical.specs.Inner.{PutFor}

-- what a number of these low bits makes of a span in the field of this number
abbrev taken : ℕ → SpanData → ℕ → Option (Result SpanData ReadFault)
taken n s low =
    if n == 6 then Some (Ok (record s { kind = cast_signed w32 low }))
    else if n == 10 then Some (Ok (record s { dropped_attributes_count = low }))
    else if n == 12 then Some (Ok (record s { dropped_events_count = low }))
    else if n == 14 then Some (Ok (record s { dropped_links_count = low }))
    else None

pub low_alike : (n x y room : ℕ) (s : SpanData) (spelled : List ℕ) → y % 2 ^ 32 ≡ x % 2 ^ 32 → span_step room s (numbered n (Varint y)) spelled ≡ span_step room s (numbered n (Varint x)) spelled
low_alike n x y room s spelled same = ap (λ (low : ℕ). unwrap_or (taken n s low) (Ok (keep_span s spelled))) same

-- what is put for a field is put for another that is read as it
pub put_as : {A : Type 0} (step : ℕ → Step A) (Above : ℕ → A → Type 0) (inner d most : ℕ) (field other : Entry) (old new : List ℕ) → ((a : A) (spelled : List ℕ) → step inner a field spelled ≡ step inner a other spelled) → PutFor step Above inner d most field old new
    → PutFor step Above inner d most other old new
put_as {A} step Above inner d most field other old new same p = record {
  put = p.put;
  copied = p.copied;
  alike = λ a spelled rest c. p.alike a spelled rest c ∙ ap (λ (r : Result A ReadFault). r >>= λ b. walk (step inner) d b rest) (same a spelled);
}
