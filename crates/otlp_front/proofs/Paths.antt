-- Which part of a target is its path.
use Rattle.std.proofs.Common.{◌≡◌, ◌≢◌, ℕ, suc, ◌==◌, Bool, true, false, not, ◌&&◌, List, [], ◌∷◌, ◌++◌, length, map, take, drop, codes, inl, inr, refl, sym, ap, ◌∙◌, subst, append_assoc, append-nil, length-append, one-add, arith}
use Rattle.std.specs.Prelude.{All, IsTrue, nat_le}
use Rattle.std.specs.Char.{to_ascii_lowercase}
use Rattle.std.specs.List.{list_all}
use Rattle.std.proofs.Math.Seq.{drop-append_seam}
use Rattle.std.proofs.lemmas.Bool.Decides.{nat_tests}
use Rattle.std.proofs.lemmas.List.{length-map, map-append, take-map}
use Rattle.std.proofs.lemmas.Slice.Eq.{bytes_eq-Decides}
use Rattle.http1.specs.Text.{eq_ignore_case}
use Rattle.otlp_front.specs.Target.{before_query, begins_with, from_slash, path_in, path_of}
use Rattle.otlp_front.specs.Law.{IsAbsolutePath, IsQueryPart, IsSchemePart, IsAuthority, PathsStandInTargets}

other_byte : (b c : ℕ) → b ≢ c → (b == c) ≡ false
other_byte b c ne = grind (arith, nat_tests)

-- a byte that isn't `?` stands before the query
one_before : (b : ℕ) (text : List ℕ) → b ≢ 63 → before_query (b ∷ text) ≡ b ∷ before_query text
one_before b text ne = rw (other_byte b 63 ne) (ap (λ n. take n (b ∷ text)) (one-add _))

-- bytes that aren't `?` stand before it
all_before : (front rest : List ℕ) → All (λ b. b ≢ 63) front → before_query (front ++ rest) ≡ front ++ before_query rest
all_before [] rest none = refl
all_before (b ∷ front) rest none =
    one_before b (front ++ rest) (none 0 0 (omega arith))
    ∙ ap (λ text. b ∷ text) (all_before front rest (λ k d lt. none (suc k) d (omega (arith, lt))))

no_byte_before : (part : List ℕ) → IsQueryPart part → before_query part ≡ []
no_byte_before part (inl e) = rw e refl
no_byte_before part (inr q) = rw q.1 refl

-- what stands before the query of a path with one
path_before : (path query : List ℕ) → All (λ b. b ≢ 63) path → IsQueryPart query → before_query (path ++ query) ≡ path
path_before path query none q =
    all_before path query none ∙ ap (λ text. path ++ text) (no_byte_before query q) ∙ append-nil path

-- behind the authority stands the path
past_authority : (authority path : List ℕ) → IsAuthority authority → from_slash (authority ++ path) ≡ from_slash path
past_authority [] path none = refl
past_authority (b ∷ authority) path none =
    rw (other_byte b 47 (none 0 0 (omega arith)).0)
    (past_authority authority path (λ k d lt. none (suc k) d (omega (arith, lt))))

-- in lower case a scheme is this
lowered : (part scheme : List ℕ) → IsTrue (eq_ignore_case part scheme) → map to_ascii_lowercase part ≡ map to_ascii_lowercase scheme
unfolding eq_ignore_case
lowered part scheme e = (bytes_eq-Decides (map to_ascii_lowercase part) (map to_ascii_lowercase scheme)).0 e

both : (c more : Bool) → (c && more) ≡ true → (c ≡ true) × (more ≡ true)
both true more e = (refl, e)
both false more e = cc

is_no_mark : (b x : ℕ) → to_ascii_lowercase b ≡ x → not (x == 63) ≡ true → b ≢ 63
is_no_mark b x e none is = grind (arith, nat_tests)

-- a text whose bytes in lower case aren't `?` stands before the query
lower_before : (front low rest : List ℕ) → map to_ascii_lowercase front ≡ low → list_all (λ b. not (b == 63)) low ≡ true
    → before_query (front ++ rest) ≡ front ++ before_query rest
lower_before [] low rest e none = refl
lower_before (b ∷ front) [] rest e none = cc
lower_before (b ∷ front) (x ∷ low) rest e none =
    let all = both (not (x == 63)) (list_all (λ b. not (b == 63)) low) none in
    let first : to_ascii_lowercase b ≡ x = cc in
    let more : map to_ascii_lowercase front ≡ low = cc in
    one_before b (front ++ rest) (is_no_mark b x first all.0)
    ∙ ap (λ text. b ∷ text) (lower_before front low rest more all.1)

-- the front of a text in lower case
lower_take : (n : ℕ) (front rest low : List ℕ) → map to_ascii_lowercase front ≡ low
    → map to_ascii_lowercase (take n (front ++ rest)) ≡ take n (low ++ map to_ascii_lowercase rest)
lower_take n front rest low e =
    sym (take-map to_ascii_lowercase n (front ++ rest))
    ∙ ap (take n) (map-append to_ascii_lowercase front rest ∙ ap (λ text. text ++ map to_ascii_lowercase rest) e)

lower_length : (front low : List ℕ) → map to_ascii_lowercase front ≡ low → length front ≡ length low
lower_length front low e = sym (length-map front to_ascii_lowercase) ∙ ap length e

past_front : (n : ℕ) (front rest : List ℕ) → length front ≡ n → drop n (front ++ rest) ≡ rest
past_front n front rest e = subst (λ m. drop m (front ++ rest) ≡ rest) e (drop-append_seam front rest)

-- a scheme of seven bytes, and of eight
http_begins : (part rest : List ℕ) → map to_ascii_lowercase part ≡ codes "http://" → begins_with (codes "http://") (part ++ rest) ≡ true
unfolding eq_ignore_case
http_begins part rest e =
    let long : nat_le 7 (length (part ++ rest)) ≡ true =
    grind (arith, nat_tests, length-append part rest, lower_length part (codes "http://") e) in
    rw (long, lower_take 7 part rest (codes "http://") e) refl

https_begins : (part rest : List ℕ) → map to_ascii_lowercase part ≡ codes "https://" → begins_with (codes "https://") (part ++ rest) ≡ true
unfolding eq_ignore_case
https_begins part rest e =
    let long : nat_le 8 (length (part ++ rest)) ≡ true =
    grind (arith, nat_tests, length-append part rest, lower_length part (codes "https://") e) in
    rw (long, lower_take 8 part rest (codes "https://") e) refl

never : (b : Bool) → (b && false) ≡ false
never true = refl
never false = refl

https_is_no_http : (part rest : List ℕ) → map to_ascii_lowercase part ≡ codes "https://" → begins_with (codes "http://") (part ++ rest) ≡ false
unfolding eq_ignore_case
https_is_no_http part rest e =
    rw (lower_take 7 part rest (codes "https://") e) (never (nat_le 7 (length (part ++ rest))))

-- behind a scheme the path begins with the first `/`
path_past_scheme : (part rest : List ℕ) → IsSchemePart part → path_in (part ++ rest) ≡ from_slash rest
path_past_scheme part rest (inl e) =
    let low = lowered part (codes "http://") e in
    rw (http_begins part rest low)
    (ap from_slash (past_front 7 part rest (lower_length part (codes "http://") low)))
path_past_scheme part rest (inr e) =
    let low = lowered part (codes "https://") e in
    rw (https_is_no_http part rest low, https_begins part rest low)
    (ap from_slash (past_front 8 part rest (lower_length part (codes "https://") low)))

scheme_before : (part rest : List ℕ) → IsSchemePart part → before_query (part ++ rest) ≡ part ++ before_query rest
scheme_before part rest (inl e) = lower_before part (codes "http://") rest (lowered part (codes "http://") e) refl
scheme_before part rest (inr e) = lower_before part (codes "https://") rest (lowered part (codes "https://") e) refl

-- behind one of these schemes and an authority the path begins with the first `/`
path_past : (scheme authority rest : List ℕ) → IsSchemePart scheme → IsAuthority authority
    → path_of (scheme ++ authority ++ rest) ≡ from_slash (before_query rest)
unfolding path_of
path_past scheme authority rest s a =
    ap path_in (ap before_query (append_assoc scheme authority rest)
    ∙ scheme_before scheme (authority ++ rest) s
    ∙ ap (λ text. scheme ++ text) (all_before authority rest (λ k d lt. (a k d lt).1)))
    ∙ path_past_scheme scheme (authority ++ before_query rest) s
    ∙ past_authority authority (before_query rest) a

-- a text that begins with `/` is its own path
path_alone : (path segments : List ℕ) → path ≡ 47 ∷ segments → (from_slash path ≡ path) × (path_in path ≡ path)
unfolding eq_ignore_case
path_alone path segments e =
    rw (e, never (nat_le 7 (suc (length segments))), never (nat_le 8 (suc (length segments)))) (refl, refl)

origin_form : (path query : List ℕ) → IsAbsolutePath path → IsQueryPart query → path_of (path ++ query) ≡ path
unfolding path_of
origin_form path query p q =
    ap path_in (path_before path query p.no_query q) ∙ (path_alone path p.segments p.begins).1

absolute_form : (scheme authority path query : List ℕ) → IsSchemePart scheme → IsAuthority authority
    → IsAbsolutePath path → IsQueryPart query → path_of (scheme ++ authority ++ path ++ query) ≡ path
absolute_form scheme authority path query s a p q =
    ap path_of (append_assoc (scheme ++ authority) path query)
    ∙ path_past scheme authority (path ++ query) s a
    ∙ ap from_slash (path_before path query p.no_query q)
    ∙ (path_alone path p.segments p.begins).0

without_path : (scheme authority query : List ℕ) → IsSchemePart scheme → IsAuthority authority
    → IsQueryPart query → path_of (scheme ++ authority ++ query) ≡ []
without_path scheme authority query s a q =
    path_past scheme authority query s a ∙ ap from_slash (no_byte_before query q)

pub paths_stand_in_targets : PathsStandInTargets
paths_stand_in_targets = record {
  origin_form = origin_form;
  absolute_form = absolute_form;
  without_path = without_path;
}
