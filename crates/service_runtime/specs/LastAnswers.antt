-- What tenants' back ends answered last, as it is kept. This project's own rule.
use Rattle.std.specs.Prelude.{◌≡◌, ℕ, ◌+◌, ◌-◌, ◌*◌, ◌/◌, ◌%◌, ◌^◌, ◌==◌, ◌&&◌, Bool, Option, Some, None, min, nat_lt, if◌then◌else◌}
use Rattle.admin_pages.specs.declared.figures.LastAnswer.{LastAnswer}
use Rattle.send_retry.specs.Class.{AnswerData, Http, Failed}

-- the status that is noted of an answer: 0 where no whole one came
abbrev pub noted_status : AnswerData → ℕ
noted_status (Http status retry_after body) = status
noted_status Failed = 0

-- what is noted of an answer to a job that was handed in at this moment
abbrev pub noted_of : AnswerData → ℕ → LastAnswer
noted_of answer moment = record { status = noted_status answer; moment = moment }

-- there are so many words, and a tenant's is the one at its number modulo this
abbrev pub words : ℕ
words = 16384

-- a word can tell so many moments, in milliseconds since the start: those of the first two years
abbrev pub moments : ℕ
moments = 2 ^ 36

-- a word can tell one status less than this, of which HTTP has those below 1,000 (RFC 9110, section 15)
abbrev pub statuses : ℕ
statuses = 1024

-- a tenant's answer as a word: from the left its number without what its place tells, the moment, and one more than the
-- status, so that no answer's word is 0
abbrev pub word_of : ℕ → LastAnswer → ℕ
word_of tenant answer =
    (tenant / words * moments + min answer.moment (moments - 1)) * statuses + min answer.status (statuses - 2) + 1

-- whether a word has an answer of this tenant, and not of another with the same place
abbrev pub is_of : ℕ → ℕ → Bool
is_of tenant word = nat_lt 0 (word % statuses) && word / statuses / moments == tenant / words

-- what a word tells of the tenant with this number
abbrev pub answer_in : ℕ → ℕ → Option LastAnswer
answer_in tenant word =
    if is_of tenant word
    then Some (record { status = word % statuses - 1; moment = word / statuses % moments })
    else None

-- what of an answer a word has room for: a later moment is the last one, and a status that HTTP doesn't have the last
-- there is room for
abbrev pub kept : LastAnswer → LastAnswer
kept answer = record { status = min answer.status (statuses - 2); moment = min answer.moment (moments - 1) }

-- What was noted of a tenant at its place is told of this tenant, and nothing is told of another one at the same place.
abbrev pub AreToldAsNoted : Type 0
AreToldAsNoted =
    (tenant other : ℕ) (answer : LastAnswer) → tenant % words ≡ other % words
    → answer_in other (word_of tenant answer) ≡ (if other == tenant then Some (kept answer) else None)

-- nothing is told of anybody where nothing was noted
abbrev pub IsNothingTold : Type 0
IsNothingTold = (tenant : ℕ) → answer_in tenant 0 ≡ None

-- this is what a word tells of a tenant: what its back end answered last, or nothing
abbrev pub IsAnswered : ℕ → Option LastAnswer → Type 0
IsAnswered tenant answer = (word : ℕ) × (answer ≡ answer_in tenant word)
