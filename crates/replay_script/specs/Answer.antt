-- The lines that answer a script's commands. This project's own rule (docs/SCRIPT.md).
use Rattle.std.specs.Prelude.{ℕ, List, [], ◌∷◌, ◌++◌, codes}
use Rattle.std.specs.Fmt.{decimal}
use Rattle.hex.specs.Hex.{encode_lower}

-- bytes in hexadecimal digits of lower case, `-` for none
abbrev pub hex_text : List ℕ → List ℕ
hex_text [] = codes "-"
hex_text (byte ∷ bytes) = encode_lower (byte ∷ bytes)

-- the reply to a post: status and body
abbrev pub reply_text : List ℕ → ℕ → List ℕ → List ℕ
reply_text name status body =
    codes "reply " ++ name ++ codes " " ++ decimal status ++ codes " " ++ hex_text body ++ codes "\n"

-- a turn that handed out a job: its ticket and payload
abbrev pub job_text : List ℕ → ℕ → List ℕ → List ℕ
job_text name ticket payload =
    codes "job " ++ name ++ codes " " ++ decimal ticket ++ codes " " ++ hex_text payload ++ codes "\n"

-- a turn of that tenant that had no job
abbrev pub worked_text : List ℕ → List ℕ
worked_text name = codes "worked " ++ name ++ codes "\n"

-- a turn in which no tenant was ready
abbrev pub idle_text : ℕ → List ℕ
idle_text shard = codes "idle " ++ decimal shard ++ codes "\n"

-- a step that was refused, by the refusal's number
abbrev pub refused_text : List ℕ → ℕ → List ℕ
refused_text name number = codes "refused " ++ name ++ codes " " ++ decimal number ++ codes "\n"

-- a tenant that came: its name and the number that it got
abbrev pub added_text : List ℕ → ℕ → List ℕ
added_text name number = codes "added " ++ name ++ codes " " ++ decimal number ++ codes "\n"

-- an answer to a job, or a drain, that was done
abbrev pub done_text : List ℕ → List ℕ
done_text name = codes "done " ++ name ++ codes "\n"

-- a tenant's report: the line that reports it
abbrev pub report_text : List ℕ → List ℕ → List ℕ
report_text name report = codes "report " ++ name ++ codes " " ++ report ++ codes "\n"
