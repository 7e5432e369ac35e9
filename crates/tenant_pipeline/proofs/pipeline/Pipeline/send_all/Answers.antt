use Rattle.std.proofs.Common.{◌≡◌, ◌<◌, ◌≤◌, ◌+◌, ◌-◌, ◌++◌, ◌∙◌, ℕ, List, length, max, sym, ap, subst, refl, arith, Some}
use Rattle.std.proofs.lemmas.Result.{on_ok_weaker}
use Rattle.std.specs.Result.{OnOk}
use Rattle.send_queue.specs.Sender.{SenderData, payload_bytes}
use Rattle.span_batcher.specs.Batches.{Batch}
use Rattle.span_batcher.specs.Maps.{spans_of}
use Rattle.tail_policy.specs.declared.note.TraceNote.{TraceNote}
use Rattle.trace_rows.specs.declared.table.Row.{Row}
use Rattle.tenant_stores.specs.Counts.{count, range}
use Rattle.tenant_stores.specs.declared.stores.Stores.{Stores}
use Rattle.tenant_stores.specs.Part.{Part, part}
use Rattle.tenant_stores.specs.Shows.{row_shown}
use Rattle.tenant_stores.proofs.Lists.{count-append}
use Rattle.tenant_pipeline.specs.declared.pipeline.Pipeline.{Pipeline}
use Rattle.tenant_pipeline.specs.StateIn.{part_in, policies_of, unsent_at, waiting_of, written_with}
use Rattle.tenant_pipeline.specs.Drains.{SendsAll, SendsRestUnsent, SendsRow, keys_if, sampled_keys}
use Rattle.tenant_pipeline.specs.Invariant.{IsNoted}
use Rattle.tenant_pipeline.specs.Outbox.{AreThere, HasRoom}
use Rattle.tenant_pipeline.specs.Unsent.{IsWeighed}
use Rattle.tenant_pipeline.proofs.Behind.{written_none}
use Rattle.tenant_pipeline.proofs.Draining.{SentTo, none_sent, one_sent, row_found, row_of, all_left, back_same}
use Rattle.tenant_pipeline.proofs.Verdicts.{keys_next, keys_end}
use Rattle.tenant_pipeline.proofs.pipeline.Pipeline.send_all.Goals as goal

pub loop-number-init : goal.loop-number-init
loop-number-init c =
    let own = c.args.self.now in
    let p = part_in own c.args.stores.now in
    let same : written_with c.args.leaving.now.unsent p own ≡ own = ap (λ (us : List (Batch ℕ)). written_with us p own) c.requires.none ∙ written_none own p c.requires.holds.unsent_is in
    record {
      from = omega arith;
      sent = subst (λ (x : Pipeline). SentTo c.args.moment own.rows.decided p own x) (sym same) (none_sent own p c.args.moment c.requires.holds c.requires.quiet);
      gone = λ key.
          let none = ap (λ (us : List (Batch ℕ)). count key (spans_of us)) c.requires.none in
          let none_gone = ap (count key) c.requires.none_gone in
          omega (arith, none, none_gone);
      back = λ start back. back;
      offers = c.requires.offers;
      weighed =
          let weigh = ap (λ (us : List (Batch ℕ)). payload_bytes (unsent_at p us)) c.requires.none in
          c.requires.none_weigh ∙ sym weigh;
      sender = refl;
    }

pub send_row-requires-clause-there : goal.send_row-requires-clause-there
send_row-requires-clause-there c =
    let own = c.args.self.now in
    let mid = c.loop-number.self in
    let p = part_in own c.args.stores.now in
    let d = c.loop-number.number in
    let number = d + 1 in
    let inv = c.loop-number.invariant in
    let from = inv.from in
    let opened : mid.rows.opened ≡ own.rows.opened = ap (λ (x : Pipeline). x.rows.opened) inv.sent.same in
    let some : d < own.rows.opened = omega (arith, opened) in
    let found = row_found own p c.args.moment c.requires.holds number (omega (arith, from)) (omega (arith, some)) in
    let row = found.0 in
    let known = row_of own p c.args.moment c.requires.holds d number (written_with c.loop-number.leaving.unsent p mid) row inv.sent from some refl found.1 in
    let tenant : mid.tenant ≡ own.tenant = ap (λ (x : Pipeline). x.tenant) inv.sent.same in
    subst (λ (t : ℕ). let q : Part TraceNote = part t c.args.stores.now in
    (row : Row TraceNote) × (q.rows number ≡ Some row) × IsNoted (policies_of mid) (row_shown q row) × (length row.keys ≤ mid.ledger.places.undecided) × AreThere q (mid.batcher.spans ++ row.keys))
    (sym tenant) (row, found.1, known.noted, known.undecided, known.there)

pub send_row-requires-clause-room : goal.send_row-requires-clause-room
send_row-requires-clause-room c =
    let mid = c.loop-number.self in
    let inv = c.loop-number.invariant in
    let tenant : mid.tenant ≡ c.args.self.now.tenant = ap (λ (x : Pipeline). x.tenant) inv.sent.same in
    subst (λ (t : ℕ). HasRoom (written_with c.loop-number.leaving.unsent (part t c.args.stores.now) mid)) (sym tenant) inv.sent.room

pub send_row-requires-clause-offers : goal.send_row-requires-clause-offers
send_row-requires-clause-offers c = c.loop-number.invariant.offers

pub send_row-requires-clause-weighed : goal.send_row-requires-clause-weighed
send_row-requires-clause-weighed c =
    let inv = c.loop-number.invariant in
    let tenant : c.loop-number.self.tenant ≡ c.args.self.now.tenant = ap (λ (x : Pipeline). x.tenant) inv.sent.same in
    subst (λ (t : ℕ). IsWeighed (part t c.args.stores.now) c.loop-number.leaving) (sym tenant) inv.weighed

pub loop-number-preserved : goal.loop-number-preserved
loop-number-preserved c =
    let own = c.args.self.now in
    let mid = c.loop-number.self in
    let new = c.send_row.new.self in
    let us = c.loop-number.leaving.unsent in
    let us' = c.send_row.new.leaving.unsent in
    let stores = c.args.stores.now in
    let p = part_in own stores in
    let pol = policies_of own in
    let d = c.loop-number.number in
    let number = d + 1 in
    let o = own.rows.opened in
    let inv = c.loop-number.invariant in
    let from = inv.from in
    let opened : mid.rows.opened ≡ o = ap (λ (x : Pipeline). x.rows.opened) inv.sent.same in
    let some : d < o = omega (arith, opened) in
    let found = row_found own p c.args.moment c.requires.holds number (omega (arith, from)) (omega (arith, some)) in
    let row = found.0 in
    let tenant : mid.tenant ≡ own.tenant = ap (λ (x : Pipeline). x.tenant) inv.sent.same in
    let sends : (row : Row TraceNote) → p.rows number ≡ Some row → SendsRow c.args.moment (waiting_of (row_shown p row)) p (written_with us p mid) (written_with us' p new) =
    subst (λ (t : ℕ). let q : Part TraceNote = part t stores in (row : Row TraceNote) → q.rows number ≡ Some row → SendsRow c.args.moment (waiting_of (row_shown q row)) q (written_with us q mid) (written_with us' q new))
    tenant c.in_ok-send_row.ensures.on_success in
    record {
      from = omega (arith, from);
      sent = one_sent own p c.args.moment c.requires.holds d number (written_with us p mid) row inv.sent from some refl found.1 (written_with us' p new) (sends row found.1);
      gone = λ key.
          let was = inv.gone key in
          let now = c.in_ok-send_row.ensures.gone key in
          let keys = ap (λ (x : Pipeline). count key (keys_if (policies_of x) ((part_in x stores).rows number))) inv.sent.same in
          let next = ap (count key) (keys_next pol p.rows d o number some refl) in
          let both = count-append key (keys_if pol (p.rows number)) (sampled_keys pol p.rows (range number (o - number))) in
          omega (arith, was, now, keys, next, both);
      back = λ start back. c.send_row.ensures.back start (inv.back start back);
      offers = c.send_row.ensures.offers;
      weighed = subst (λ (t : ℕ). IsWeighed (part t stores) c.send_row.new.leaving) tenant c.in_ok-send_row.ensures.weighed;
      sender = c.send_row.ensures.sender ∙ inv.sender;
    }

pub returns-in_err-send_row-clause-back : goal.returns-in_err-send_row-clause-back
returns-in_err-send_row-clause-back c = λ start back. c.send_row.ensures.back start (c.loop-number.invariant.back start back)

pub send_rest-requires-clause-weighed : goal.send_rest-requires-clause-weighed
send_rest-requires-clause-weighed c =
    let inv = c.loop-number.invariant in
    let tenant : c.loop-number.self.tenant ≡ c.args.self.now.tenant = ap (λ (x : Pipeline). x.tenant) inv.sent.same in
    subst (λ (t : ℕ). IsWeighed (part t c.args.stores.now) c.loop-number.leaving) (sym tenant) inv.weighed

pub returns-in_err-send_rest-clause-back : goal.returns-in_err-send_rest-clause-back
returns-in_err-send_rest-clause-back c = λ start back. back_same c.loop-number.undo start c.loop-number.self c.send_rest.new.self c.send_rest.ensures.same (c.loop-number.invariant.back start back)

-- the last batch, by the part that the tenant had
rest_over : (own : Pipeline) (stores : Stores TraceNote) (moment : ℕ) (us us' : List (Batch ℕ)) (mid new : Pipeline) → mid.tenant ≡ own.tenant → SendsRestUnsent moment (part_in mid stores) us us' mid new → SendsRestUnsent moment (part_in own stores) us us' mid new
rest_over own stores moment us us' mid new tenant rest = subst (λ (t : ℕ). SendsRestUnsent moment (part t stores) us us' mid new) tenant rest

pub write_first-requires-clause-room : goal.write_first-requires-clause-room
write_first-requires-clause-room c =
    let own = c.args.self.now in
    let mid = c.loop-number.self in
    let new = c.send_rest.new.self in
    let p = part_in own c.args.stores.now in
    let inv = c.loop-number.invariant in
    let rest = rest_over own c.args.stores.now c.args.moment c.loop-number.leaving.unsent c.send_rest.new.leaving.unsent mid new (ap (λ (x : Pipeline). x.tenant) inv.sent.same) c.in_ok-send_rest.ensures.on_success inv.sent.there inv.sent.room in
    let tenant : new.tenant ≡ own.tenant = ap (λ (x : Pipeline). x.tenant) c.send_rest.ensures.same ∙ ap (λ (x : Pipeline). x.tenant) inv.sent.same in
    subst (λ (t : ℕ). HasRoom (written_with c.send_rest.new.leaving.unsent (part t c.args.stores.now) new)) (sym tenant) rest.room

pub write_first-requires-clause-offers : goal.write_first-requires-clause-offers
write_first-requires-clause-offers c =
    let few = c.loop-number.invariant.offers in
    let same = ap (λ (x : Pipeline). length x.sender.queue) c.send_rest.ensures.same in
    omega (arith, few, same)

pub returns-clause-on_success : goal.returns-clause-on_success
returns-clause-on_success c =
    let own = c.args.self.now in
    let mid = c.loop-number.self in
    let new = c.send_rest.new.self in
    let last = c.write_first.new.self in
    let us = c.loop-number.leaving.unsent in
    let us' = c.send_rest.new.leaving.unsent in
    let us'' = c.write_first.new.leaving.unsent in
    let stores = c.args.stores.now in
    let p = part_in own stores in
    let inv = c.loop-number.invariant in
    let opened : mid.rows.opened ≡ own.rows.opened = ap (λ (x : Pipeline). x.rows.opened) inv.sent.same in
    let tenant : new.tenant ≡ own.tenant = ap (λ (x : Pipeline). x.tenant) c.send_rest.ensures.same ∙ ap (λ (x : Pipeline). x.tenant) inv.sent.same in
    let rest = rest_over own c.args.stores.now c.args.moment c.loop-number.leaving.unsent c.send_rest.new.leaving.unsent mid new (ap (λ (x : Pipeline). x.tenant) inv.sent.same) c.in_ok-send_rest.ensures.on_success inv.sent.there inv.sent.room in
    let all : SendsAll c.args.moment p own (written_with us' p new) =
    all_left own p c.args.moment c.requires.holds c.loop-number.number (written_with us p mid) (written_with us' p new) (omega (arith, opened)) inv.sent rest in
    on_ok_weaker c.write_first.result (λ (same : written_with us'' (part_in new stores) last ≡ written_with us' (part_in new stores) new).
    let here : written_with us'' p last ≡ written_with us' p new = subst (λ (t : ℕ). written_with us'' (part t stores) last ≡ written_with us' (part t stores) new) tenant same in
    subst (λ (x : Pipeline). SendsAll c.args.moment p own x) (sym here) all) c.write_first.ensures.on_success

pub returns-clause-gone : goal.returns-clause-gone
returns-clause-gone c =
    let own = c.args.self.now in
    let mid = c.loop-number.self in
    let p = part_in own c.args.stores.now in
    let inv = c.loop-number.invariant in
    let opened : mid.rows.opened ≡ own.rows.opened = ap (λ (x : Pipeline). x.rows.opened) inv.sent.same in
    on_ok_weaker c.write_first.result (λ gone key.
    let was = inv.gone key in
    let now = c.in_ok-send_rest.ensures.gone key in
    let last = gone key in
    let none = ap (count key) (keys_end (policies_of own) p.rows c.loop-number.number own.rows.opened (omega (arith, opened))) in
    omega (arith, was, now, last, none)) c.write_first.ensures.gone

pub returns-clause-first : goal.returns-clause-first
returns-clause-first c =
    let same : c.send_rest.new.self.sender ≡ c.args.self.now.sender = ap (λ (x : Pipeline). x.sender) c.send_rest.ensures.same ∙ c.loop-number.invariant.sender in
    subst (λ (s : SenderData). OnOk c.write_first.result (length c.write_first.new.self.sender.queue ≤ max 1 (length s.queue))) same c.write_first.ensures.first

pub returns-clause-back : goal.returns-clause-back
returns-clause-back c = λ start back.
    c.write_first.ensures.back start (back_same c.loop-number.undo start c.loop-number.self c.send_rest.new.self c.send_rest.ensures.same (c.loop-number.invariant.back start back))
