-- What becomes of a job that is posted to its own tenant's back end. This project's own rules.
use Rattle.std.specs.Prelude.{◌≡◌, ℕ, ◌+◌, ◌≤◌, List, length, Option, Some, None, option_and_then, nat_le, if◌then◌else◌}
use Rattle.std.specs.List.{slice_get}
use Rattle.send_retry.specs.Class.{Failed}
use Rattle.http_edge.specs.Post.{post_text}
use Rattle.export_edge.specs.Posting.{ComesTo}
use Rattle.export_edge.specs.Work.{Posted}

-- an address has at most so many bytes
abbrev pub longest : ℕ
longest = 255

-- a text that isn't too long for an address
abbrev pub as_address : List ℕ → Option (List ℕ)
as_address text = if nat_le (length text) longest then Some text else None

-- the address at a tenant's number
abbrev pub address_in : List (List ℕ) → ℕ → Option (List ℕ)
address_in addresses tenant = option_and_then as_address (slice_get addresses tenant)

-- What a job came to, and how the dialer's state changed: the address that its tenant is then said to have, and no
-- other, was dialed once, over the line that came of it the job's own payload was posted, with that address as the
-- host, and of the reads over it one at most gave no byte; then this line, in the state in which the post and its
-- answer had left it, was given up. Where the tenant has no address nothing was dialed, and without a line none was
-- given up.
pub data JobComesTo {A D L : Type 0} (tells : A → ℕ → Option (List ℕ) → Type 0)
    (dials : D → List ℕ → Option L → D → Type 0) (hangs_up : D → L → D → Type 0)
    (gives takes : L → L → List ℕ → Type 0) (ends failed : L → ℕ) (addresses : A) (old new : D) (p : Posted)
    : Type 0 where
  no_address : tells addresses p.job.tenant None → new ≡ old → p.answer ≡ Failed
      → JobComesTo tells dials hangs_up gives takes ends failed addresses old new p
  no_line : (address : List ℕ) → tells addresses p.job.tenant (Some address) → dials old address None new
      → p.answer ≡ Failed → JobComesTo tells dials hangs_up gives takes ends failed addresses old new p
  over_a_line : (address : List ℕ) → tells addresses p.job.tenant (Some address) → (first last : L) → (between : D)
      → dials old address (Some first) between
      → ComesTo gives takes ends failed (post_text address p.job.payload) first last p.answer
      → ends last ≤ ends first + 1
      → hangs_up between last new
      → JobComesTo tells dials hangs_up gives takes ends failed addresses old new p
