-- The bytes of a reply: a status line, fields and a body (RFC 9112, section 4).
use Rattle.std.specs.Prelude.{ℕ, Bool, true, ◌==◌, ◌&&◌, List, [], ◌∷◌, ◌++◌, length, if◌then◌else◌, codes, decimal}
use Rattle.httparse.specs.Ascii.{crlf_bytes}
use Rattle.http_edge.specs.Message.{Response}
use Rattle.http_edge.specs.declared.message.Allow.{Allow}
use Rattle.http_edge.specs.declared.message.Allow.TheVariants as allow
use Rattle.http_edge.specs.declared.message.MediaType.{MediaType}
use Rattle.http_edge.specs.declared.message.MediaType.TheVariants.{Protobuf, Metrics, Json, Html}
use Rattle.http_edge.specs.declared.message.RefusalForm.{RefusalForm}
use Rattle.http_edge.specs.declared.message.RefusalForm.TheVariants as forms

-- the reason phrase (RFC 9110, section 15), and none for a status that this server has no use for
abbrev pub phrase_of : ℕ → List ℕ
phrase_of status =
    if status == 200 then codes "OK"
    else (if status == 201 then codes "Created"
    else (if status == 202 then codes "Accepted"
    else (if status == 400 then codes "Bad Request"
    else (if status == 401 then codes "Unauthorized"
    else (if status == 403 then codes "Forbidden"
    else (if status == 404 then codes "Not Found"
    else (if status == 405 then codes "Method Not Allowed"
    else (if status == 409 then codes "Conflict"
    else (if status == 413 then codes "Content Too Large"
    else (if status == 415 then codes "Unsupported Media Type"
    else (if status == 422 then codes "Unprocessable Content"
    else (if status == 429 then codes "Too Many Requests"
    else (if status == 431 then codes "Request Header Fields Too Large"
    else (if status == 503 then codes "Service Unavailable" else []))))))))))))))

-- the methods that a target takes (RFC 9110, section 10.2.1)
abbrev pub methods_of : Allow → List ℕ
methods_of allow.Post = codes "POST"
methods_of allow.Get = codes "GET, HEAD"
methods_of allow.GetPost = codes "GET, HEAD, POST"
methods_of allow.GetDelete = codes "GET, HEAD, DELETE"

-- the field that says so
abbrev pub allow_line : Allow → List ℕ
allow_line methods = codes "Allow: " ++ methods_of methods ++ crlf_bytes

-- what a 401 (RFC 9110, section 15.5.2, and RFC 6750, section 3), a 405 (RFC 9110, section 15.5.6) and a 429 (RFC 6585,
-- section 4) tell the client beside
abbrev pub advice_of : ℕ → Allow → List ℕ
advice_of status methods =
    if status == 401 then codes "WWW-Authenticate: Bearer realm=\"nimchaes\"" ++ crlf_bytes
    else (if status == 405 then allow_line methods
    else (if status == 429 then codes "Retry-After: 1" ++ crlf_bytes else []))

-- the field that says that the connection ends after this reply (RFC 9112, section 9.6)
abbrev pub close_line : Bool → List ℕ
close_line close = if close then codes "Connection: close" ++ crlf_bytes else []

-- the names of what content may be (RFC 9110, section 8.3): Prometheus has its own text format, version 0.0.4
abbrev pub type_of : MediaType → List ℕ
type_of Protobuf = codes "application/x-protobuf"
type_of Metrics = codes "text/plain; version=0.0.4"
type_of Json = codes "application/json"
type_of Html = codes "text/html; charset=utf-8"

-- what stands between the reason phrase and the fields that not every reply has
abbrev pub type_line : MediaType → List ℕ
type_line media = crlf_bytes ++ codes "Content-Type: " ++ type_of media ++ crlf_bytes

-- the head of a reply
unfoldable pub head_text_of : Bool → Response → List ℕ
head_text_of close reply =
    codes "HTTP/1.1 " ++ (decimal reply.status ++ (codes " " ++ (phrase_of reply.status ++ (type_line reply.media
    ++ (advice_of reply.status reply.allow ++ (close_line close ++ (codes "Content-Length: "
    ++ (decimal (length reply.body) ++ (crlf_bytes ++ crlf_bytes)))))))))

-- the bytes of a reply as it stands; the answer to HEAD has no body (RFC 9110, section 9.3.2)
abbrev pub plain_text : Bool → Bool → Response → List ℕ
plain_text bodiless close reply =
    head_text_of close reply ++ (if bodiless then [] else reply.body)

-- a `google.rpc.Status` with a message of less than 128 bytes alone (field 2), as OTLP/HTTP has it for refusals
abbrev pub status_body : List ℕ → List ℕ
status_body message = 18 ∷ length message ∷ message

-- an object of one member (RFC 8259, section 4), whose value is a message of which nothing is to be escaped
abbrev pub error_body : List ℕ → List ℕ
error_body message = codes "{\"error\":\"" ++ message ++ codes "\"}"

-- what the content of a refusal in this form is
abbrev pub refusal_media : RefusalForm → MediaType
refusal_media forms.Status = Protobuf
refusal_media forms.Json = Json

-- the content of a refusal in this form that says this
abbrev pub refusal_body : RefusalForm → List ℕ → List ℕ
refusal_body forms.Status message = status_body message
refusal_body forms.Json message = error_body message

-- the refusal in this form that has this status and says this
abbrev pub refused_with : RefusalForm → ℕ → List ℕ → Response
refused_with form status message = record {
  status = status;
  media = refusal_media form;
  allow = allow.Post;
  body = refusal_body form message;
}

-- the reply where there was no memory for another
abbrev pub out_of_memory : RefusalForm → Response
out_of_memory form = refused_with form 503 (codes "out of memory")

-- its bytes where the connection closes after it
abbrev pub no_memory_text : RefusalForm → Bool → List ℕ
no_memory_text form bodiless = plain_text bodiless true (out_of_memory form)

-- a 503 without a body stands for it, so that it takes no memory to ask for it
abbrev pub is_for_no_memory : Response → Bool
is_for_no_memory reply = (reply.status == 503) && (length reply.body == 0)

-- the bytes that are written for a reply, by who has its refusals in this form
unfoldable pub reply_text : RefusalForm → Bool → Bool → Response → List ℕ
reply_text form bodiless close reply =
    if is_for_no_memory reply then plain_text bodiless close (out_of_memory form) else plain_text bodiless close reply

-- the words to a client whose message is bad
abbrev pub refusal_message : ℕ → List ℕ
refusal_message status =
    if status == 413 then codes "body too large"
    else (if status == 431 then codes "too many header fields" else codes "bad request")

-- the reply to a bad message
abbrev pub refusal : RefusalForm → ℕ → Response
refusal form status = refused_with form status (refusal_message status)

-- its bytes: the connection closes after it
abbrev pub refusal_text : RefusalForm → Bool → ℕ → List ℕ
refusal_text form bodiless status = reply_text form bodiless true (refusal form status)

-- what tells a client to send its body (RFC 9110, section 15.2.1)
abbrev pub continue_text : List ℕ
continue_text = codes "HTTP/1.1 100 Continue" ++ crlf_bytes ++ crlf_bytes
