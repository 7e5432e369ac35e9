-- A body whose front has come with what stands before it.
use Rattle.std.proofs.Common.{◌≡◌, ℕ, List, [], ◌++◌, ◌+◌, ◌≤◌, length, drop, take, sym, ap, ◌∙◌, append_assoc, append-nil, length-append, arith}
use Rattle.std.proofs.Math.Seq.{take-append_seam, take-append-add}
use Rattle.std.proofs.lemmas.List.{take_all, take-take, take-append-le}
use Rattle.std.specs.List.{slice_range}
use Rattle.httparse.proofs.RunLemmas.{drop_split}

-- what is taken as a front and what is left behind it are what was there
pub front_come : (buf : List ℕ) (from end : ℕ) → from ≤ end → slice_range buf from end ++ drop end buf ≡ drop from buf
front_come buf from end h = sym (drop_split buf from end h)

-- a body that nothing is left behind takes what is read next
pub front_more : (body more left stream read : List ℕ) → left ≡ [] → body ++ left ≡ stream ++ read
    → (body ++ more) ++ left ≡ stream ++ (read ++ more)
front_more body more left stream read none is =
    ap (λ v. (body ++ more) ++ v) none
    ∙ (append-nil (body ++ more)
    ∙ (ap (λ v. v ++ more) (sym (append-nil body) ∙ (ap (λ v. body ++ v) (sym none) ∙ is))
    ∙ append_assoc stream read more))

-- so the stream has as many bytes as it
pub front_len : (body left stream : List ℕ) → left ≡ [] → body ++ left ≡ stream → length stream ≡ length body
front_len body left stream none is =
    omega (arith, ap length is, ap length none, length-append body left)

-- room that is filled behind a front leaves it as it is
pub front_filled : (front filled zeros : List ℕ) (come more : ℕ) → come ≡ length front → filled ≡ take (come + more) front ++ zeros
    → take come filled ≡ front
front_filled front filled zeros come more len is =
    ap (take come) is
    ∙ (ap (λ l. take come (l ++ zeros)) (take_all (come + more) front (omega (arith, len)))
    ∙ (ap (λ n. take n (front ++ zeros)) len ∙ take-append_seam front zeros))

-- of what was read to that room, what came stands behind the front once the list is cut there
pub front_read : (front filled room tail behind : List ℕ) (come count whole : ℕ) → come ≡ length front → take come filled ≡ front
    → count ≤ length room → come + count ≤ whole
    → take (come + count) (take whole ((take come filled ++ (room ++ tail)) ++ behind)) ≡ front ++ take count room
front_read front filled room tail behind come count whole len is within fits =
    take-take (come + count) whole ((take come filled ++ (room ++ tail)) ++ behind) fits
    ∙ (ap (λ l. take (come + count) ((l ++ (room ++ tail)) ++ behind)) is
    ∙ (ap (take (come + count)) (append_assoc front (room ++ tail) behind ∙ ap (λ l. front ++ l) (append_assoc room tail behind))
    ∙ (ap (λ n. take (n + count) (front ++ (room ++ (tail ++ behind)))) len
    ∙ (take-append-add front (room ++ (tail ++ behind)) count
    ∙ ap (λ l. front ++ l) (take-append-le count room (tail ++ behind) within)))))
