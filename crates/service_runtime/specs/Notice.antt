-- What the admin port tells in few words. This project's own rule.
use Rattle.std.specs.Prelude.{ℕ, List, [], ◌∷◌, ◌++◌, codes, if◌then◌else◌}
use Rattle.std.specs.Str.{bytes_eq}
use Rattle.admin_pages.specs.Json.{string_text}
use Rattle.http_edge.specs.Message.{Response}
use Rattle.http_edge.specs.declared.message.Allow.{Allow}
use Rattle.http_edge.specs.declared.message.Allow.TheVariants.{Post, Get, GetPost, GetDelete}
use Rattle.http_edge.specs.declared.message.MediaType.{MediaType}
use Rattle.http_edge.specs.declared.message.MediaType.TheVariants.{Json}

-- a member of an object (RFC 8259, section 4), whose value is this text
abbrev pub pair_text : List ℕ → List ℕ → List ℕ
pair_text member text = string_text member ++ codes ":" ++ string_text text

-- an object of one member
abbrev pub member_text : List ℕ → List ℕ → List ℕ
member_text member text = codes "{" ++ pair_text member text ++ codes "}"

-- a reply with this content
abbrev pub reply_of : ℕ → MediaType → List ℕ → Response
reply_of status media body = record { status = status; media = media; allow = Post; body = body }

-- a reply that says this
abbrev pub notice_of : ℕ → List ℕ → List ℕ → Response
notice_of status member text = reply_of status Json (member_text member text)

-- the methods that a path takes, by what the field `Allow` has
abbrev pub allow_of : List ℕ → Allow
allow_of methods =
    if bytes_eq methods (codes "GET, HEAD") then Get
    else if bytes_eq methods (codes "GET, HEAD, POST") then GetPost
    else if bytes_eq methods (codes "GET, HEAD, DELETE") then GetDelete else Post

-- the reply to a method that a path doesn't take, which takes these (405, RFC 9110, section 15.5.6)
abbrev pub not_allowed : List ℕ → Response
not_allowed methods = record {
  status = 405;
  media = Json;
  allow = allow_of methods;
  body = member_text (codes "error") (codes "method not allowed");
}

-- nobody who is present has the name (404, RFC 9110, section 15.5.5)
abbrev pub unknown_reply : Response
unknown_reply = notice_of 404 (codes "error") (codes "unknown tenant")

-- that a tenant of this name came (201, RFC 9110, section 15.3.2), with these warnings of its document
abbrev pub warned_reply : List ℕ → List ℕ → Response
warned_reply name warnings =
    reply_of 201 Json (codes "{" ++ pair_text (codes "tenant") name ++ codes ","
    ++ pair_text (codes "warnings") warnings ++ codes "}")

-- the same, without warnings where there are none
abbrev pub came_reply : List ℕ → List ℕ → Response
came_reply name [] = notice_of 201 (codes "tenant") name
came_reply name (byte ∷ warnings) = warned_reply name (byte ∷ warnings)
