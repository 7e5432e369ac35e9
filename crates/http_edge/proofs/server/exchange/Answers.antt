use Rattle.std.proofs.Common.{Ok, [], refl, ap, ◌∙◌, append-nil, true, false, arith}
use Rattle.std.proofs.lemmas.Result.{err_from_is_err_and}
use Rattle.http_edge.specs.Talk.{RefusesHead, at_head, many_lines, reading_head, refusing, waits, refuses, in_head, at_front, behind_head, at_refusal}
use Rattle.http_edge.specs.Reply.{refusal_text}
use Rattle.http_edge.specs.Stages.{IsHeadProgress}
use Rattle.http_edge.specs.declared.head.HeadProgress.TheVariants.{More, TooMany, OutOfMemory}
use Rattle.http_line.proofs.Moved.{then_to}
use Rattle.http_edge.proofs.Served.{goes_after, over_after, cut_after, cut_by, read_failed, write_failed}
use Rattle.http_edge.proofs.server.exchange.Goals as goal

pub returns-in_err-read_head-clause-on_error : goal.returns-in_err-read_head-clause-on_error
returns-in_err-read_head-clause-on_error g c =
    let e = c.in_err-read_head.ensures.on_error in
    let p = err_from_is_err_and c.from_residual.result c.from_residual.ensures.1 in
    let same = p.2 in
    rw p.1 (record {
      broken = λ lack.
          let is = read_failed _ (λ is. c.in_err-read_head.ensures.no_write (cc)) lack in
          let l = c.in_err-read_head.ensures.unread (cc) in
          record {
            read = l.0;
            written = [];
            moves = l.1;
            missing = [];
            due = rw (← l.2) (reading_head is l.3 refl);
            whole = λ _. refl;
          };
      short = λ lack.
          let l = c.in_err-read_head.ensures.lacks (cc) in
          record { read = l.0; written = []; moves = l.1; lacks = rw (← l.2) (at_front l.3 refl) };
    })

pub returns-in_err-refuse-in-Refuse-clause-on_error : goal.returns-in_err-refuse-in-Refuse-clause-on_error
returns-in_err-refuse-in-Refuse-clause-on_error g c =
    let e = c.in_ok-read_head.ensures.on_success in
    let begin : RefusesHead c.read_head.new.buffer.items c.in-Refuse.is_bodiless
    c.in-Refuse.status = rw c.in-Refuse.is at e.3 in
    let f = rw c.refusals-in-Refuse.ensures at c.in_err-refuse-in-Refuse.ensures.on_error in
    let p = err_from_is_err_and c.from_residual-in_err-refuse-in-Refuse.result
    c.from_residual-in_err-refuse-in-Refuse.ensures.1 in
    let same = p.2 in
    rw p.1 (record {
      broken = λ lack. record {
        read = e.0;
        written = f.0;
        moves = then_to e.1 f.3 (append-nil _) refl;
        missing = f.1;
        due = rw (← e.2, ← f.2) (refusing (write_failed _ (λ is. c.in_err-refuse-in-Refuse.ensures.no_read (cc)) lack) _
            (at_head _ _ begin) refl);
        whole = λ is. absurd (c.in_err-refuse-in-Refuse.ensures.no_read (cc));
      };
      short = λ lack. record {
        read = e.0;
        written = [];
        moves = then_to e.1 (c.in_err-refuse-in-Refuse.ensures.quiet (cc)) (append-nil _) refl;
        lacks = rw (← e.2) (at_refusal _ _ begin refl);
      };
    })

pub returns-in_err-refuse-in-TooMany-clause-on_error : goal.returns-in_err-refuse-in-TooMany-clause-on_error
returns-in_err-refuse-in-TooMany-clause-on_error g c =
    let e = c.in_ok-read_head.ensures.on_success in
    let begin : IsHeadProgress c.read_head.new.buffer.items TooMany = rw c.in-TooMany.is at e.3 in
    let f = rw c.refusals.ensures at c.in_err-refuse-in-TooMany.ensures.on_error in
    let p = err_from_is_err_and c.from_residual-in_err-refuse-in-TooMany.result
    c.from_residual-in_err-refuse-in-TooMany.ensures.1 in
    let same = p.2 in
    rw p.1 (record {
      broken = λ lack. record {
        read = e.0;
        written = f.0;
        moves = then_to e.1 f.3 (append-nil _) refl;
        missing = f.1;
        due = rw (← e.2, ← f.2) (refusing (write_failed _ (λ is. c.in_err-refuse-in-TooMany.ensures.no_read (cc)) lack) _
            (many_lines begin.0 begin.1 begin.2) refl);
        whole = λ is. absurd (c.in_err-refuse-in-TooMany.ensures.no_read (cc));
      };
      short = λ lack. record {
        read = e.0;
        written = [];
        moves = then_to e.1 (c.in_err-refuse-in-TooMany.ensures.quiet (cc)) (append-nil _) refl;
        lacks = rw (← e.2) (at_front begin.0 refl);
      };
    })

pub returns-in-OutOfMemory-clause-on_error : goal.returns-in-OutOfMemory-clause-on_error
returns-in-OutOfMemory-clause-on_error g c =
    let e = c.in_ok-read_head.ensures.on_success in
    let begin : IsHeadProgress c.read_head.new.buffer.items (OutOfMemory c.in-OutOfMemory.is_bodiless) = rw c.in-OutOfMemory.is at e.3 in
    record {
      broken = λ other. absurd (other refl);
      short = λ _. record {
        read = e.0;
        written = [];
        moves = e.1;
        lacks = rw (← e.2, begin.3) (behind_head begin.0 begin.1 begin.2 refl);
      };
    }

pub returns-in_ok-refuse-in-TooMany-clause-closes : goal.returns-in_ok-refuse-in-TooMany-clause-closes
returns-in_ok-refuse-in-TooMany-clause-closes g c = λ _.
    let e = c.in_ok-read_head.ensures.on_success in
    let begin : IsHeadProgress c.read_head.new.buffer.items TooMany = rw c.in-TooMany.is at e.3 in
    record {
      read = e.0;
      text = refusal_text g.H.Handler.refusals false 431;
      over = true;
      moves = then_to e.1 (rw c.refusals.ensures at c.in_ok-refuse-in-TooMany.ensures.on_success) (append-nil _) refl;
      ends = rw (← e.2) (refuses _ (many_lines begin.0 begin.1 begin.2) refl);
      end = λ f. cc;
    }

pub returns-in-More-clause-closes : goal.returns-in-More-clause-closes
returns-in-More-clause-closes g c = λ _.
    let e = c.in_ok-read_head.ensures.on_success in
    let begin : IsHeadProgress c.read_head.new.buffer.items More = rw c.in-More.is at e.3 in
    record {
      read = e.0;
      text = [];
      over = false;
      moves = e.1;
      ends = rw (← e.2) (waits [] (in_head (c.in_ok-read_head.ensures.short (ap Ok c.in-More.is))
          (c.in_ok-read_head.ensures.lines_bounded (ap Ok c.in-More.is)) begin.0 begin.1) refl);
      end = λ _. c.in_ok-read_head.ensures.end (ap Ok c.in-More.is);
    }

pub returns-in_ok-refuse-in-Refuse-clause-closes : goal.returns-in_ok-refuse-in-Refuse-clause-closes
returns-in_ok-refuse-in-Refuse-clause-closes g c = λ _.
    let e = c.in_ok-read_head.ensures.on_success in
    let begin : RefusesHead c.read_head.new.buffer.items c.in-Refuse.is_bodiless
    c.in-Refuse.status = rw c.in-Refuse.is at e.3 in
    record {
      read = e.0;
      text = refusal_text g.H.Handler.refusals c.in-Refuse.is_bodiless c.in-Refuse.status;
      over = true;
      moves = then_to e.1 (rw c.refusals-in-Refuse.ensures at c.in_ok-refuse-in-Refuse.ensures.on_success) (append-nil _) refl;
      ends = rw (← e.2) (refuses _ (at_head _ _ begin) refl);
      end = λ f. cc;
    }

pub returns-in_ok-goes-in-Whole-clause-stays_open : goal.returns-in_ok-goes-in-Whole-clause-stays_open
returns-in_ok-goes-in-Whole-clause-stays_open g c = λ eq.
    let e = c.in_ok-read_head.ensures.on_success in goes_after e.1 e.2 (c.in_ok-goes-in-Whole.ensures.stays_open eq)

pub returns-in_ok-goes-in-Whole-clause-closes : goal.returns-in_ok-goes-in-Whole-clause-closes
returns-in_ok-goes-in-Whole-clause-closes g c = λ eq.
    let e = c.in_ok-read_head.ensures.on_success in over_after (λ w. omega (arith, w, c.in_ok-read_head.ensures.ends)) e.1 e.2
    (c.in_ok-goes-in-Whole.ensures.closes eq)

pub returns-in_err-goes-in-Whole-clause-on_error : goal.returns-in_err-goes-in-Whole-clause-on_error
returns-in_err-goes-in-Whole-clause-on_error g c =
    let e = c.in_ok-read_head.ensures.on_success in
    let p = err_from_is_err_and c.from_residual-in_err-goes-in-Whole.result
    c.from_residual-in_err-goes-in-Whole.ensures.1 in
    let same = p.2 in
    rw p.1 (cut_by (cut_after e.1 e.2 c.in_err-goes-in-Whole.ensures.on_error) (cc))

pub returns-in_ok-goes-in-Whole-clause-goes_on : goal.returns-in_ok-goes-in-Whole-clause-goes_on
returns-in_ok-goes-in-Whole-clause-goes_on g c = λ eq.
    c.in_ok-goes-in-Whole.ensures.goes_on eq ∙ (rw c.in-Whole.is at c.in_ok-read_head.ensures.whole)

pub returns-in_ok-goes-in-Whole-clause-stops : goal.returns-in_ok-goes-in-Whole-clause-stops
returns-in_ok-goes-in-Whole-clause-stops g c =
    let same = rw c.in-Whole.is at c.in_ok-read_head.ensures.whole in
    omega (arith, c.in_ok-goes-in-Whole.ensures.stops, same)

pub returns-in_err-goes-in-Whole-clause-stops : goal.returns-in_err-goes-in-Whole-clause-stops
returns-in_err-goes-in-Whole-clause-stops g c =
    let same = rw c.in-Whole.is at c.in_ok-read_head.ensures.whole in
    omega (arith, c.in_err-goes-in-Whole.ensures.stops, same)
