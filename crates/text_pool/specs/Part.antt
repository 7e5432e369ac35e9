-- One tenant's part of a pool of texts, as a function of keys: this project's own rule.
use Rattle.std.specs.Prelude.{ℕ, ◌+◌, ◌-◌, Bool, List, Option, Some, None, if◌then◌else◌, ◌==◌, bytes_eq}
use Rattle.std.specs.Option.{option_eq}
use Rattle.slab.specs.Slab.{Slab, get}
use Rattle.text_pool.specs.declared.pool.CountedText.{CountedText}

-- the text, where this tenant owns it
abbrev pub owned : ℕ → Option CountedText → Option CountedText
owned tenant None = None
owned tenant (Some kept) = if kept.owner == tenant then Some kept else None

-- what a tenant owns of a pool, by key
abbrev pub part : ℕ → Slab CountedText → ℕ → Option CountedText
part tenant pool key = owned tenant (get pool key)

-- the same part with another text, or none, at one key
abbrev pub with_text : ℕ → Option CountedText → (ℕ → Option CountedText) → ℕ → Option CountedText
with_text key slot at other = if other == key then slot else at other

-- the text, kept for so many
abbrev pub with_uses : ℕ → Option CountedText → Option CountedText
with_uses uses None = None
with_uses uses (Some kept) = Some (record kept { uses = uses })

-- the text with one use more, and as the tenant's first use where there was none
abbrev pub held : ℕ → List ℕ → Option CountedText → Option CountedText
held tenant text None = Some (record { owner = tenant; text = text; uses = 1 })
held tenant text (Some kept) = Some (record kept { uses = kept.uses + 1 })

-- the text with one use less, and none where it was the last
abbrev pub released : Option CountedText → Option CountedText
released None = None
released (Some kept) = if kept.uses == 1 then None else Some (record kept { uses = kept.uses - 1 })

-- the text that is kept, where there is one
abbrev pub text_of : Option CountedText → Option (List ℕ)
text_of None = None
text_of (Some kept) = Some kept.text

-- both are missing, or both are there with the same bytes
abbrev pub same_text : Option CountedText → Option CountedText → Bool
same_text one other = option_eq bytes_eq (text_of one) (text_of other)
