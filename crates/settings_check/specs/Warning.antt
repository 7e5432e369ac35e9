-- What is said of a key that no setting has. This project's own rule.
use Rattle.std.specs.Prelude.{codes, ℕ, ◌-◌, List, [], ◌∷◌, ◌++◌, Bool, ◌&&◌, ◌||◌, nat_le, length, take, drop, Option, Some, None, if◌then◌else◌}
use Rattle.std.specs.Str.{bytes_eq}
use Rattle.toml.specs.Data.{Members}
use Rattle.settings_check.specs.declared.table.Key.{Key}
use Rattle.settings_check.specs.Shown.{shown}
use Rattle.settings_check.specs.Table.{keys_of_kind, name_of}
use Rattle.settings_check.specs.Unknown.{UnknownKey, unknown_of}

-- what an end of a key may say of a unit, or no end: that of durations here, and those of other documents
abbrev pub is_unit : List ℕ → Bool
is_unit text =
    bytes_eq text [] || bytes_eq text (codes "_ms") || bytes_eq text (codes "_s") || bytes_eq text (codes "_us")
    || bytes_eq text (codes "_ns")

-- a known key without the unit that it ends with
abbrev pub without_unit : List ℕ → List ℕ
without_unit known =
    if nat_le 3 (length known) && bytes_eq (drop (length known - 3) known) (codes "_ms")
    then take (length known - 3) known else known

-- a text that begins with another and goes on with a unit
abbrev pub is_with_unit : List ℕ → List ℕ → Bool
is_with_unit base key =
    nat_le (length base) (length key) && bytes_eq (take (length base) key) base && is_unit (drop (length base) key)

-- the first key that is the same but for its unit
abbrev pub meant_of : List ℕ → List Key → Option Key
meant_of text [] = None
meant_of text (key ∷ keys) = if is_with_unit (without_unit (name_of key)) text then Some key else meant_of text keys

-- what a word of the Collector's, or a plural, is called here (docs/SETTINGS.md, "Coming from the Collector"); any other
-- text is left as it is
abbrev pub name_here : List ℕ → List ℕ
name_here text =
    if bytes_eq text (codes "policies") then codes "policy"
    else if bytes_eq text (codes "tenants") then codes "tenant"
    else if bytes_eq text (codes "pipelines") then codes "tenant"
    else if bytes_eq text (codes "traces_endpoint") then codes "endpoint"
    else if bytes_eq text (codes "endpoint") then codes "listen"
    else if bytes_eq text (codes "num_consumers") then codes "senders"
    else if bytes_eq text (codes "memory_limiter") then codes "max_spans"
    else text

-- a key that may have been meant
abbrev pub hint_text : Option Key → List ℕ
hint_text None = []
hint_text (Some key) = codes "; perhaps " ++ name_of key ++ codes " was meant"

-- the line of a key
abbrev pub warning_text : UnknownKey → List ℕ
warning_text unknown =
    codes "# warning: " ++ unknown.place ++ codes ": no setting has the key " ++ shown unknown.key
    ++ codes ", so it is ignored" ++ hint_text (meant_of (name_here unknown.key) (keys_of_kind unknown.kind)) ++ codes "\n"

-- a line for each
abbrev pub warnings : List UnknownKey → List ℕ
warnings [] = []
warnings (unknown ∷ rest) = warning_text unknown ++ warnings rest

-- what is said of a text, if it is a document
abbrev pub warnings_of : Option Members → List ℕ
warnings_of None = []
warnings_of (Some document) = warnings (unknown_of document)
