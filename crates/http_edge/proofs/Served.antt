-- Messages one after another, and where a talk ends.
use Rattle.std.proofs.Common.{◌≡◌, ◌≢◌, ℕ, ◌≤◌, Bool, true, false, not, List, [], ◌∷◌, ◌++◌, length, drop, if◌then◌else◌, Option, Some, None, is_some, is_none, refl, sym, ap, subst, ◌∙◌, append_assoc, append-nil}
use Rattle.httparse.specs.Grammar.{RequestHead}
use Rattle.http_edge.specs.declared.head.Head.{Head}
use Rattle.http_edge.specs.declared.wire.EdgeFault.{EdgeFault}
use Rattle.http_edge.specs.declared.wire.EdgeFault.TheVariants.{ReadFailed, WriteFailed, OutOfMemory}
use Rattle.http_edge.specs.Message.{Request, Response, Message, Frame, sized, chunked, HasBody, HasMessage, request_of, with_body, closes, expects, HasNoBody, is_bodiless, max_body}
use Rattle.http_edge.specs.Talk.{Exchange, exchange_text, interim_text, Asks, told, Runs, Talks, Due, Lacks, Begins, MayInterim, reading_body, interim, replying, at_reply, breaking, lacking}
use Rattle.http_edge.specs.Reply.{continue_text, is_for_no_memory, no_memory_text}
use Rattle.http_edge.specs.Stages.{IsHead, IsHeadOf, IsMessageOf, kept_if, frame_by, message_with, IsBrokenOff, IsShort, IsCut, IsOver, StaysOpen, Replies}
use Rattle.http_edge.specs.Seen.{seen}
use Rattle.http_edge.specs.declared.message.RefusalForm.{RefusalForm}
use Rattle.http_line.specs.Line.{Moves}
use Rattle.http_line.proofs.Moved.{then_to}
use Rattle.http_edge.proofs.Heads.{has_head_more}
use Rattle.http_edge.proofs.Pieces.{chunked_more}

-- a body and what follows, of which more came
pub has_body_more : (frame : Frame) (stream body after more : List ℕ) → HasBody frame stream body after
    → HasBody frame (stream ++ more) body (after ++ more)
has_body_more (sized n) stream body after more h = (h.0, ap (λ v. v ++ more) h.1 ∙ append_assoc body after more)
has_body_more chunked stream body after more h = chunked_more more h

pub has_message_more : {bytes : List ℕ} {m : Message} {after : List ℕ} (more : List ℕ) → HasMessage bytes m after
    → HasMessage (bytes ++ more) m (after ++ more)
has_message_more {bytes} {m} {after} more p = record {
  after_head = p.after_head ++ more;
  head = has_head_more more p.head;
  frame = p.frame;
  framed = p.framed;
  body = has_body_more p.frame p.after_head m.body after more p.body;
  size = p.size;
}

-- more was read after the exchanges so far
pub asks_read : (es : List Exchange) (read rest more : List ℕ) → Asks read es rest → Asks (read ++ more) es (rest
    ++ more)
asks_read [] read rest more p = ap (λ v. v ++ more) p
asks_read (e ∷ es) read rest more p = (p.0 ++ more, has_message_more more p.1, p.2, asks_read es p.0 rest more p.3)

-- one more exchange
pub asks_more : (es : List Exchange) (e : Exchange) (read rest after : List ℕ) → Asks read es rest
    → HasMessage rest e.message after → closes e.message.head ≡ false → Asks read (es ++ e ∷ []) after
asks_more [] e read rest after p q stays = (after, subst (λ v. HasMessage v e.message after) (sym p) q, stays, refl)
asks_more (d ∷ es) e read rest after p q stays = (p.0, p.1, p.2, asks_more es e p.0 rest after p.3 q stays)

pub runs_more : {H : Type 0} (answers : H → Request → Response → H → Type 0) (old mid new : H) (es : List Exchange)
    (e : Exchange) → Runs answers old es mid → answers mid (request_of e.message) e.reply new
    → Runs answers old (es ++ e ∷ []) new
runs_more answers old mid new [] e p q = (new, rw p at q, refl)
runs_more answers old mid new (d ∷ es) e p q = (p.0, p.1, runs_more answers p.0 mid new es e p.2 q)

pub told_more : (form : RefusalForm) (es : List Exchange) (e : Exchange)
    → told form (es ++ e ∷ []) ≡ told form es ++ exchange_text form e
told_more form [] e = append-nil (exchange_text form e)
told_more form (d ∷ es) e = ap (λ v. exchange_text form d ++ v) (told_more form es e)
    ∙ sym (append_assoc (exchange_text form d) (told form es) (exchange_text form e))

-- the interim text is due
pub may_interim : {bytes : List ℕ} {head : Head} {h : RequestHead} (read : List ℕ) → IsHead bytes head h
    → MayInterim (bytes ++ read) h
may_interim {bytes} {head} {h} read p = record {
  after = drop head.len bytes ++ read;
  frame = frame_by head.kind;
  head = has_head_more read p.has;
  framed = p.framing;
  short = p.fits;
}

-- a write of it failed
pub due_interim : {form : RefusalForm} {H : Type 0} {fault : EdgeFault} (answers : H → Request → Response → H → Type 0) (s : H) {bytes : List ℕ} {head : Head}
    {h : RequestHead} (read front missing : List ℕ) → fault ≡ WriteFailed → IsHead bytes head h
    → (if head.expects then continue_text else []) ≡ front ++ missing → Due form fault answers s (bytes ++ read) s (front
    ++ missing)
due_interim answers s {bytes} {head} {h} read front missing is p e =
    let t : interim_text h ≡ front ++ missing = ap (λ (b : Bool). if b then continue_text else []) (sym p.says.expects)
    ∙ e in
    rw (← t) (interim is h (may_interim read p) refl)

-- a read of the body behind it failed
pub due_body : {form : RefusalForm} {H : Type 0} {fault : EdgeFault} (answers : H → Request → Response → H → Type 0) (s : H) {bytes : List ℕ} {head : Head}
    {h : RequestHead} (read : List ℕ) → fault ≡ ReadFailed → IsHead bytes head h
    → HasNoBody (frame_by head.kind) (drop head.len bytes ++ read)
    → Due form fault answers s (bytes ++ read) s (interim_text h ++ [])
unfolding may_interim
due_body answers s {bytes} {head} {h} read is p none =
    rw (append-nil (interim_text h)) (reading_body is h (may_interim read p) none refl)

-- the fault has another name
pub due_of : {form : RefusalForm} {H : Type 0} {met fault : EdgeFault} {answers : H → Request → Response → H → Type 0} {old : H}
    {rest : List ℕ} {new : H} {text : List ℕ} → met ≡ fault → Due form met answers old rest new text
    → Due form fault answers old rest new text
due_of {form} {answers = answers} {old} {rest} {new} {text} same due =
    subst (λ (f : EdgeFault). Due form f answers old rest new text) same due

-- what was written for a message: the interim text and then the reply
pub first_moves : {L : Type 0} {gives takes : L → L → List ℕ → Type 0} {l0 l1 l2 : L} {read : List ℕ} (due : Bool) (h : RequestHead)
    → due ≡ expects h → Moves gives takes l0 l1 [] (if due then continue_text else []) → Moves gives takes l1 l2 read []
    → Moves gives takes l0 l2 read (interim_text h)
first_moves due h e p q = then_to p q refl (append-nil _ ∙ ap (λ (b : Bool). if b then continue_text else []) e)

pub all_moves : {L : Type 0} {gives takes : L → L → List ℕ → Type 0} {l0 l1 l2 l3 : L} {read text : List ℕ} (due : Bool) (h : RequestHead)
    → due ≡ expects h → Moves gives takes l0 l1 [] (if due then continue_text else []) → Moves gives takes l1 l2 read []
    → Moves gives takes l2 l3 [] text → Moves gives takes l0 l3 read (interim_text h ++ text)
all_moves {read = read} due h e p q r = then_to (first_moves due h e p q) r (append-nil read) refl

pub reply_whole : {form : RefusalForm} {H : Type 0} (answers : H → Request → Response → H
    → Type 0) {old new : H} {m : Message} {text missing : List ℕ} (p : Replies form answers old new m text missing)
    → exchange_text form (record { message = m; reply = p.reply }) ≡ (interim_text m.head ++ text) ++ missing
unfolding exchange_text
reply_whole answers {old} {new} {m} {text} {missing} p = ap (λ v. interim_text m.head ++ v) p.text
    ∙ sym (append_assoc (interim_text m.head) text missing)

pub due_reply : {form : RefusalForm} {H : Type 0} {fault : EdgeFault} (answers : H → Request → Response → H
    → Type 0) {old new : H} {m : Message} {text missing : List ℕ} (bytes after : List ℕ) → fault ≡ WriteFailed → HasMessage bytes m after
    → Replies form answers old new m text missing
    → Due form fault answers old bytes new ((interim_text m.head ++ text) ++ missing)
due_reply answers {old} {new} {m} {text} {missing} bytes after is has p =
    rw (← reply_whole answers p) (replying is (record { message = m; reply = p.reply }) after has p.answered)

-- there was no memory for the bytes of the reply
pub lacks_reply : {form : RefusalForm} {H : Type 0} (answers : H → Request → Response → H
    → Type 0) {old new : H} {m : Message} {text missing : List ℕ} (bytes after : List ℕ) → HasMessage bytes m after
    → (p : Replies form answers old new m text missing) → is_for_no_memory p.reply ≡ false
    → Lacks answers old bytes new (is_bodiless m.head) (interim_text m.head)
lacks_reply answers {m = m} bytes after has p is =
    at_reply (record { message = m; reply = p.reply }) after has p.answered is

-- the message whose head was there and whose body has come
pub whole_message : {bytes : List ℕ} {head : Head} {h : RequestHead} (read body after : List ℕ) → IsHead bytes head h
    → HasBody (frame_by head.kind) (drop head.len bytes ++ read) body after → length body ≤ max_body
    → HasMessage (bytes ++ read) (message_with h body) after
whole_message {bytes} {head} {h} read body after p b short = record {
  after_head = drop head.len bytes ++ read;
  head = has_head_more read p.has;
  frame = frame_by head.kind;
  framed = p.framing;
  body = b;
  size = short;
}

is_wanted : {A : Type 0} (settled : Option A) (wanted : Bool) → is_some settled ≡ not wanted → wanted ≡ is_none settled
is_wanted None true e = refl
is_wanted None false e = absurd (let f : false ≡ true = e in cc)
is_wanted (Some x) true e = absurd (let f : true ≡ false = e in cc)
is_wanted (Some x) false e = refl

-- the message of whose body what is wanted was kept, where no reply was settled
pub message_kept : {A : Type 0} {head : Head} {h : RequestHead} (settled : Option A) (wanted : Bool) (kept body : List ℕ)
    → is_some settled ≡ not wanted → IsHeadOf head h → kept ≡ kept_if wanted body
    → IsMessageOf head kept (is_none settled) (message_with h body)
message_kept settled wanted kept body e says keeps = record {
  says = says;
  keeps = keeps ∙ ap (λ w. kept_if w body) (is_wanted settled wanted e);
}

-- what is asked for it
pub request_is : {head : Head} {kept : List ℕ} {wanted : Bool} {m : Message} → IsMessageOf head kept wanted m
    → with_body (seen head.message) m.body ≡ request_of m
request_is {m = m} is =
    λ i. record { method = is.says.method i; target = is.says.target i; headers = is.says.headers i; body = m.body }

-- the same from an earlier moment, before these bytes were read
pub goes_after : {form : RefusalForm} {H : Type 0} {answers : H → Request → Response → H
    → Type 0} {old new : H} {L : Type 0} {gives takes : L → L → List ℕ → Type 0} {l0 l1 l2 : L} {b0 b1 after read : List ℕ}
    → Moves gives takes l0 l1 read [] → b1 ≡ b0 ++ read → StaysOpen form answers old new gives takes l1 l2 b1 after
    → StaysOpen form answers old new gives takes l0 l2 b0 after
goes_after {b0 = b0} {read = read} p e q = record {
  read = read ++ q.read;
  exchange = q.exchange;
  moves = then_to p q.moves refl refl;
  has = rw (← append_assoc b0 read q.read, ← e) q.has;
  stays = q.stays;
  answered = q.answered;
}

pub over_after : {form : RefusalForm} {H : Type 0} {answers : H → Request → Response → H
    → Type 0} {old new : H} {L : Type 0} {gives takes : L → L → List ℕ → Type 0} {l0 l1 l2 : L} {b0 b1 read : List ℕ} {ended1 ended0 : Type 0}
    → (ended1 → ended0) → Moves gives takes l0 l1 read [] → b1 ≡ b0 ++ read
    → IsOver form answers old new gives takes l1 l2 ended1 b1 → IsOver form answers old new gives takes l0 l2 ended0 b0
over_after {b0 = b0} {read = read} since p e q = record {
  read = read ++ q.read;
  text = q.text;
  over = q.over;
  moves = then_to p q.moves refl refl;
  ends = rw (← append_assoc b0 read q.read, ← e) q.ends;
  end = λ f. since (q.end f);
}

broken_after : {form : RefusalForm} {H : Type 0} {fault : EdgeFault} {answers : H → Request → Response → H
    → Type 0} {old new : H} {L : Type 0} {gives takes : L → L → List ℕ → Type 0} {l0 l1 l2 : L} {b0 b1 read : List ℕ} → Moves gives takes l0 l1 read []
    → b1 ≡ b0 ++ read → IsBrokenOff form fault answers old new gives takes l1 l2 b1
    → IsBrokenOff form fault answers old new gives takes l0 l2 b0
broken_after {b0 = b0} {read = read} p e q = record {
  read = read ++ q.read;
  written = q.written;
  moves = then_to p q.moves refl refl;
  missing = q.missing;
  due = rw (← append_assoc b0 read q.read, ← e) q.due;
  whole = q.whole;
}

short_after : {bodiless : Bool} {H : Type 0} {answers : H → Request → Response → H
    → Type 0} {old new : H} {L : Type 0} {gives takes : L → L → List ℕ → Type 0} {l0 l1 l2 : L} {b0 b1 read : List ℕ} → Moves gives takes l0 l1 read []
    → b1 ≡ b0 ++ read → IsShort bodiless answers old new gives takes l1 l2 b1
    → IsShort bodiless answers old new gives takes l0 l2 b0
short_after {b0 = b0} {read = read} p e q = record {
  read = read ++ q.read;
  written = q.written;
  moves = then_to p q.moves refl refl;
  lacks = rw (← append_assoc b0 read q.read, ← e) q.lacks;
}

pub cut_after : {form : RefusalForm} {H : Type 0} {fault : EdgeFault} {bodiless : Bool} {answers : H → Request → Response → H
    → Type 0} {old new : H} {L : Type 0} {gives takes : L → L → List ℕ → Type 0} {l0 l1 l2 : L} {b0 b1 read : List ℕ} → Moves gives takes l0 l1 read []
    → b1 ≡ b0 ++ read → IsCut form fault bodiless answers old new gives takes l1 l2 b1
    → IsCut form fault bodiless answers old new gives takes l0 l2 b0
cut_after p e q = record {
  broken = λ lack. broken_after p e (q.broken lack);
  short = λ lack. short_after p e (q.short lack);
}

-- by the same fault
pub cut_by : {form : RefusalForm} {H : Type 0} {fault other : EdgeFault} {bodiless : Bool} {answers : H → Request → Response → H
    → Type 0} {old new : H} {L : Type 0} {gives takes : L → L → List ℕ → Type 0} {first last : L} {before : List ℕ}
    → IsCut form fault bodiless answers old new gives takes first last before → fault ≡ other
    → IsCut form other bodiless answers old new gives takes first last before
cut_by {form = form} {bodiless = bodiless} {answers = answers} {old = old} {new = new} {gives = gives} {takes = takes} {first = first} {last = last} {before = before} p e =
    subst (λ f. IsCut form f bodiless answers old new gives takes first last before) e p

-- what is no failed read, and no want of memory, is a failed write
pub write_failed : (fault : EdgeFault) → fault ≢ ReadFailed → fault ≢ OutOfMemory → fault ≡ WriteFailed
write_failed ReadFailed read memory = absurd (read refl)
write_failed WriteFailed read memory = refl
write_failed OutOfMemory read memory = absurd (memory refl)

-- and what is no failed write, and no want of memory, is a failed read
pub read_failed : (fault : EdgeFault) → fault ≢ WriteFailed → fault ≢ OutOfMemory → fault ≡ ReadFailed
read_failed ReadFailed write memory = refl
read_failed WriteFailed write memory = absurd (write refl)
read_failed OutOfMemory write memory = absurd (memory refl)

-- a fault of the line broke the talk off
pub breaks : {form : RefusalForm} {H : Type 0} {answers : H → Request → Response → H → Type 0} {old new : H} {fault : EdgeFault} {read : List ℕ}
    (written missing : List ℕ) → (fault ≢ WriteFailed → missing ≡ [])
    → Talks form answers (Due form fault answers) old read new (written ++ missing)
    → Begins form fault answers old read new written
breaks written missing whole t = (
  missing,
  record {
    exchanges = t.exchanges;
    rest = t.rest;
    reads = t.reads;
    mid = t.mid;
    runs = t.runs;
    last = t.last;
    due = breaking t.last t.due;
    writes = t.writes;
  },
  whole,
)

-- after want of memory this much was written of the reply that says so
pub tells : (form : RefusalForm) (bodiless : Bool) {H : Type 0} {answers : H → Request → Response → H → Type 0} {old new : H} {fault : EdgeFault} {read written : List ℕ}
    (front missing : List ℕ) → fault ≢ ReadFailed → no_memory_text form bodiless ≡ front ++ missing → (fault ≢ WriteFailed → missing ≡ [])
    → Talks form answers (λ mid rest last_state text. Lacks answers mid rest last_state bodiless text) old read new written
    → Begins form fault answers old read new (written ++ front)
tells form bodiless {written = written} front missing no_read parts whole t = (
  missing,
  record {
    exchanges = t.exchanges;
    rest = t.rest;
    reads = t.reads;
    mid = t.mid;
    runs = t.runs;
    last = t.last ++ no_memory_text form bodiless;
    due = lacking t.last bodiless no_read t.due;
    writes = append_assoc written front missing
        ∙ (ap (λ v. written ++ v) (sym parts)
        ∙ (ap (λ v. v ++ no_memory_text form bodiless) t.writes
        ∙ append_assoc (told form t.exchanges) t.last (no_memory_text form bodiless)));
  },
  whole,
)

pub not_is : (b went : Bool) → went ≡ not b → went ≡ true → b ≡ false
not_is true went e f = absurd (let x : false ≡ true = sym e ∙ f in cc)
not_is false went e f = refl

pub not_is_not : (b went : Bool) → went ≡ not b → went ≡ false → b ≡ true
not_is_not true went e f = refl
not_is_not false went e f = absurd (let x : true ≡ false = sym e ∙ f in cc)

-- where a text is broken off, so is the whole that it ends
pub cut_text : (front : List ℕ) {text : List ℕ} (written missing : List ℕ) → text ≡ written ++ missing
    → front ++ text ≡ (front ++ written) ++ missing
cut_text front {text} written missing e = ap (λ v. front ++ v) e ∙ sym (append_assoc front written missing)
