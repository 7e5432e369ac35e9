-- A stream has one list of messages at its front.
use Rattle.std.proofs.Common.{◌≡◌, ℕ, ◌⊎◌, inl, inr, ⊎_elim, Bool, true, false, List, [], ◌∷◌, ◌++◌, refl, sym, ap, subst, ◌∙◌}
use Rattle.http_edge.specs.declared.message.RefusalForm.{RefusalForm}
use Rattle.http_edge.specs.declared.wire.EdgeFault.{EdgeFault}
use Rattle.http_edge.specs.Message.{Request, Response, Message, HasMessage, closes}
use Rattle.http_edge.specs.Talk.{Exchange, Asks, Ends, waits, refuses, closing, Due, reading_head, reading_body, interim, refusing, replying, Lacks, at_front, behind_head, at_refusal, at_body, at_reply, IsDue, breaking, lacking}
use Rattle.http_edge.specs.Reading.{messages, closing_message, cut_message, unwritten_message, due_message, Answered, whole, broken_off, IsFrontOf, OneReading, ReadsFront, ReadsAlike}
use Rattle.http_edge.proofs.Served.{has_message_more}
use Rattle.http_edge.proofs.Unique.{message_same, side_not, waits_side, refuses_side}

-- the messages stand at the front of the bytes, one after another, and none but the last may close
data Stands : List ℕ → List Message → Type 0 where
  none : (bytes : List ℕ) → Stands bytes []
  last : (bytes : List ℕ) (m : Message) (after : List ℕ) → HasMessage bytes m after → Stands bytes (m ∷ [])
  next : (bytes : List ℕ) (m : Message) (after : List ℕ) (ms : List Message) → HasMessage bytes m after
      → closes m.head ≡ false → Stands after ms → Stands bytes (m ∷ ms)

-- they are all that stand there up to one that closes
data Fills : List ℕ → List Message → Type 0 where
  stop : (bytes : List ℕ) → ((m : Message) (after : List ℕ) → HasMessage bytes m after → ⊥) → Fills bytes []
  shut : (bytes : List ℕ) (m : Message) (after : List ℕ) → HasMessage bytes m after → closes m.head ≡ true
      → Fills bytes (m ∷ [])
  open_next : (bytes : List ℕ) (m : Message) (after : List ℕ) (ms : List Message) → HasMessage bytes m after
      → closes m.head ≡ false → Fills after ms → Fills bytes (m ∷ ms)

fills_stands : {bytes : List ℕ} {ms : List Message} → Fills bytes ms → Stands bytes ms
fills_stands (stop bytes absent) = none bytes
fills_stands (shut bytes m after has e) = last bytes m after has
fills_stands (open_next bytes m after ms has e fills) = next bytes m after ms has e (fills_stands fills)

stands_more : {bytes : List ℕ} {ms : List Message} (more : List ℕ) → Stands bytes ms → Stands (bytes ++ more) ms
stands_more more (none bytes) = none (bytes ++ more)
stands_more more (last bytes m after has) = last (bytes ++ more) m (after ++ more) (has_message_more more has)
stands_more more (next bytes m after ms has e stands) =
    next (bytes ++ more) m (after ++ more) ms (has_message_more more has) e (stands_more more stands)

front_behind : (m n : Message) (ms ns : List Message) → m ≡ n → IsFrontOf ms ns → IsFrontOf (m ∷ ms) (n ∷ ns)
front_behind m n ms ns e f = (f.0, λ i. e i ∷ f.1 i)

front_first : (m n : Message) (ns : List Message) → m ≡ n → IsFrontOf (m ∷ []) (n ∷ ns)
front_first m n ns e = (ns, λ i. e i ∷ ns)

both_closes : {m n : Message} → m ≡ n → closes m.head ≡ false → closes n.head ≡ true → ⊥
both_closes {m} {n} e stays shuts =
    let no : false ≡ true = sym stays ∙ (ap (λ (v : Message). closes v.head) e ∙ shuts) in cc

along : {bytes : List ℕ} {ms ns : List Message} → Stands bytes ms → Stands bytes ns → IsFrontOf ms ns ⊎ IsFrontOf ns ms
along {ns = ns} (none bytes) s = inl (ns, refl)
along (last _ m after has) (none bytes) = inr (m ∷ [], refl)
along (last _ m after has) (last bytes n later had) = inl (front_first m n [] (message_same has had).0)
along (last _ m after has) (next bytes n later ns had e s) = inl (front_first m n ns (message_same has had).0)
along (next _ m after ms has d r) (none bytes) = inr (m ∷ ms, refl)
along (next _ m after ms has d r) (last bytes n later had) = inr (front_first n m ms (message_same had has).0)
along (next _ m after ms has d r) (next bytes n later ns had e s) =
    let same = message_same has had in
    ⊎_elim (λ f. inl (front_behind m n ms ns same.0 f)) (λ f. inr (front_behind n m ns ms (sym same.0) f)) (along r (subst
    (λ v. Stands v ns) (sym same.1) s))

within : {bytes : List ℕ} {ms ns : List Message} → Stands bytes ms → Fills bytes ns → IsFrontOf ms ns
within {ns = ns} (none bytes) f = (ns, refl)
within (last _ m after has) (stop bytes absent) = absurd (absent m after has)
within (last _ m after has) (shut bytes n later had e) = front_first m n [] (message_same has had).0
within (last _ m after has) (open_next bytes n later ns had e f) = front_first m n ns (message_same has had).0
within (next _ m after ms has d r) (stop bytes absent) = absurd (absent m after has)
within (next _ m after ms has d r) (shut bytes n later had e) = absurd (both_closes (message_same has had).0 d e)
within (next _ m after ms has d r) (open_next bytes n later ns had e f) =
    let same = message_same has had in
    front_behind m n ms ns same.0 (within r (subst (λ v. Fills v ns) (sym same.1) f))

filled_same : {bytes : List ℕ} {ms ns : List Message} → Fills bytes ms → Fills bytes ns → ms ≡ ns
filled_same (stop _ none_there) (stop bytes absent) = refl
filled_same (stop _ absent) (shut bytes n later had e) = absurd (absent n later had)
filled_same (stop _ absent) (open_next bytes n later ns had e f) = absurd (absent n later had)
filled_same (shut _ m after has d) (stop bytes absent) = absurd (absent m after has)
filled_same (shut _ m after has d) (shut bytes n later had e) = λ i. (message_same has had).0 i ∷ []
filled_same (shut _ m after has d) (open_next bytes n later ns had e f) = absurd (both_closes (message_same had has).0 e d)
filled_same (open_next _ m after ms has d r) (stop bytes absent) = absurd (absent m after has)
filled_same (open_next _ m after ms has d r) (shut bytes n later had e) = absurd (both_closes (message_same has had).0 d e)
filled_same (open_next _ m after ms has d r) (open_next bytes n later ns had e f) =
    let same = message_same has had in
    let rest = filled_same r (subst (λ v. Fills v ns) (sym same.1) f) in λ i. same.0 i ∷ rest i

-- ---- talks

module _ (form : RefusalForm) {H : Type 0} (answers : H → Request → Response → H → Type 0) where
  ends_fill : {old new : H} {rest text : List ℕ} {over : Bool} (due : Ends form answers old rest new text over)
      → Fills rest (closing_message due)
  ends_fill {rest = rest} (waits text less e) = stop rest (λ m after has. side_not (waits_side form less) has)
  ends_fill {rest = rest} (refuses text bad e) = stop rest (λ m after has. side_not (refuses_side bad) has)
  ends_fill {rest = rest} (closing e after has shuts told) = shut rest e.message after has shuts

  due_stands : {fault : EdgeFault} {old new : H} {rest text : List ℕ} (due : Due form fault answers old rest new text)
      → Stands rest (cut_message due)
  due_stands {rest = rest} (reading_head failed absent e) = none rest
  due_stands {rest = rest} (reading_body failed h may absent e) = none rest
  due_stands {rest = rest} (interim failed h may e) = none rest
  due_stands {rest = rest} (refusing failed text bad e) = none rest
  due_stands {rest = rest} (replying failed e after has told) = last rest e.message after has

  lacks_stands : {old new : H} {rest text : List ℕ} {bodiless : Bool} (due : Lacks answers old rest new bodiless text)
      → Stands rest (unwritten_message due)
  lacks_stands {rest = rest} (at_front absent e) = none rest
  lacks_stands {rest = rest} (behind_head h after has e) = none rest
  lacks_stands {rest = rest} (at_refusal bodiless status bad e) = none rest
  lacks_stands {rest = rest} (at_body h may e) = none rest
  lacks_stands {rest = rest} (at_reply e after has told full) = last rest e.message after has

  is_due_stands : {fault : EdgeFault} {old new : H} {rest text : List ℕ} (due : IsDue form fault answers old rest new text)
      → Stands rest (due_message due)
  is_due_stands (breaking text due) = due_stands due
  is_due_stands (lacking text bodiless other lacks) = lacks_stands lacks

  asks_fill : (es : List Exchange) (read : List ℕ) {rest : List ℕ} {ms : List Message} → Asks read es rest → Fills rest ms
      → Fills read (messages es ++ ms)
  asks_fill [] read {rest} {ms} asks f = subst (λ v. Fills v ms) (sym asks) f
  asks_fill (e ∷ es) read {rest} {ms} asks f =
      open_next read e.message asks.0 (messages es ++ ms) asks.1 asks.2 (asks_fill es asks.0 asks.3 f)

  asks_stand : (es : List Exchange) (read : List ℕ) {rest : List ℕ} {ms : List Message} → Asks read es rest
      → Stands rest ms → Stands read (messages es ++ ms)
  asks_stand [] read {rest} {ms} asks s = subst (λ v. Stands v ms) (sym asks) s
  asks_stand (e ∷ es) read {rest} {ms} asks s =
      next read e.message asks.0 (messages es ++ ms) asks.1 asks.2 (asks_stand es asks.0 asks.3 s)

  talk_fills : {read : List ℕ} {ms : List Message} {ended : Bool} → Answered form answers read ms ended → ended ≡ true
      → Fills read ms
  talk_fills {read = read} (whole old new written over talk) e =
      asks_fill talk.exchanges read talk.reads (ends_fill talk.due)
  talk_fills (broken_off fault old new written talk) e = cc

  talk_stands : {read : List ℕ} {ms : List Message} {ended : Bool} → Answered form answers read ms ended → Stands read ms
  talk_stands {read = read} (whole old new written over talk) =
      fills_stands (asks_fill talk.exchanges read talk.reads (ends_fill talk.due))
  talk_stands {read = read} (broken_off fault old new written talk) =
      asks_stand talk.exchanges read talk.reads (is_due_stands talk.due)

module _ (form : RefusalForm) {H : Type 0} (answers : H → Request → Response → H → Type 0) (other : RefusalForm) {G : Type 0}
    (replies : G → Request → Response → G → Type 0) where
  pub one_reading : OneReading form answers other replies
  one_reading read these those a b = filled_same (talk_fills form answers a refl) (talk_fills other replies b refl)

  pub reads_front : ReadsFront form answers other replies
  reads_front read more these those ended a b =
      within (stands_more more (talk_stands form answers a)) (talk_fills other replies b refl)

  pub reads_alike : ReadsAlike form answers other replies
  reads_alike read more text rest these those ended over e a b =
      along (stands_more more (talk_stands form answers a)) (subst (λ v. Stands v those) (sym e) (stands_more rest
      (talk_stands other replies b)))
