-- What policies ask of a span beside its times: whether they ask for an attribute at all, and which of them each status
-- meets. Which policies ask for what is of the Collector's tailsamplingprocessor, as Meaning has it.
use Rattle.std.specs.Prelude.{◌≡◌, ℕ, ℤ, pos, Bool, true, false, if◌then◌else◌, List}
use Rattle.std.specs.List.{list_any}
use Rattle.std.specs.Ordering.{int_eq}
use Rattle.tail_settings.specs.Policy.{LeafData, PolicyData, leaf, and}
use Rattle.tail_settings.specs.Policy.{always_sample, latency, status_code, string_attribute, numeric_attribute}
use Rattle.tail_policy.specs.declared.status_bits.StatusBits.{StatusBits}
use Rattle.tail_policy.specs.Marks.{IsReady}
use Rattle.tail_policy.specs.Note.{leaves_in, bits_of, status, fact_meets}

-- a policy that holds no other asks for an attribute
abbrev pub leaf_asks : LeafData → Bool
leaf_asks always_sample = false
leaf_asks (latency threshold) = false
leaf_asks (status_code codes) = false
leaf_asks (string_attribute key values) = true
leaf_asks (numeric_attribute key low high) = true

-- a policy, or one that it holds, does
abbrev pub policy_asks : PolicyData → Bool
policy_asks (leaf l) = leaf_asks l
policy_asks (and ls) = list_any leaf_asks ls

-- one of the policies does
abbrev pub ask_attributes : List PolicyData → Bool
ask_attributes policies = list_any policy_asks policies

-- the bits of the policies that each status meets, by the numbers of trace.proto's Status.StatusCode (OTLP 1.x)
abbrev pub status_bits_of : List PolicyData → StatusBits
status_bits_of policies = record {
  unset = bits_of (fact_meets (status (pos 0))) (leaves_in policies);
  ok = bits_of (fact_meets (status (pos 1))) (leaves_in policies);
  error = bits_of (fact_meets (status (pos 2))) (leaves_in policies);
}

-- those of a status by its number; a number without a name meets no policy
abbrev pub bits_at : StatusBits → ℤ → ℕ
bits_at bits code =
    if int_eq code (pos 0) then bits.unset
    else if int_eq code (pos 1) then bits.ok
    else if int_eq code (pos 2) then bits.error
    else 0

-- what was found of policies, once for all spans: the marks of the keys that they ask for, whether they ask for any
-- attribute, and the bits of each status
pub record IsFound (policies : List PolicyData) (marks : List Bool) (asks : Bool) (statuses : StatusBits) : Type 0 where
  pub ready : IsReady policies marks
  pub asked : asks ≡ ask_attributes policies
  pub by_status : statuses ≡ status_bits_of policies
