use Rattle.std.proofs.Common.{◌≡◌, ◌++◌, Bool, true, false, Ok, Some, subst, [], drop, refl, sym, ap, ◌∙◌, append-nil, arith}
use Rattle.std.proofs.lemmas.Result.{err_from_is_err_and}
use Rattle.http_edge.specs.Message.{chunked, closes, IsBroken, IsTooLong, LacksBody}
use Rattle.http_edge.specs.Stages.{IsRead, frame_by, message_with}
use Rattle.http_edge.specs.declared.body.BodyRead.TheVariants.{Whole}
use Rattle.http_edge.specs.Talk.{Due, Ends, exchange_text, waits, refuses, refusing, closing, in_body, long_chunks, bad_chunks, interim_text, at_body}
use Rattle.http_edge.specs.Reply.{refusal_text}
use Rattle.http_line.proofs.Moved.{then_to}
use Rattle.http_edge.proofs.Heads.{has_head_more, head_some}
use Rattle.http_edge.proofs.Served.{cut_text, due_interim, due_body, due_reply, read_failed, write_failed, lacks_reply, may_interim, first_moves, all_moves, whole_message, message_kept, reply_whole, not_is, not_is_not}
use Rattle.http_edge.proofs.server.serve_message.Goals as goal

pub returns-in_err-interim-clause-on_error : goal.returns-in_err-interim-clause-on_error
returns-in_err-interim-clause-on_error g c =
    let e = c.in_err-interim.ensures.on_error in
    let p = err_from_is_err_and c.from_residual.result c.from_residual.ensures.1 in
    let same = p.2 in
    rw p.1 (record {
      broken = λ lack. record {
        read = [];
        written = e.0;
        moves = e.3;
        missing = e.1;
        due = due_interim g.H.Handler.answers
            c.args.handler.now [] e.0 e.1 (write_failed _ (λ is. c.in_err-interim.ensures.no_read (cc)) lack) c.requires.1 e.2;
        whole = λ is. absurd (c.in_err-interim.ensures.no_read (cc));
      };
      short = λ lack. absurd (c.in_err-interim.ensures.no_memory (cc));
    })

pub returns-in_err-read_body-clause-on_error : goal.returns-in_err-read_body-clause-on_error
returns-in_err-read_body-clause-on_error g c =
    let is = c.requires.1 in
    let e = c.in_err-read_body.ensures.on_error in
    let p = err_from_is_err_and c.from_residual-in_err-read_body.result c.from_residual-in_err-read_body.ensures.1 in
    let same = p.2 in
    rw p.1 (record {
      broken = λ lack.
          let failed = read_failed _ (λ fault_is. c.in_err-read_body.ensures.no_write (cc)) lack in
          let u = c.in_err-read_body.ensures.unread (cc) in
          record {
            read = u.0;
            written = interim_text c.requires.0;
            moves = first_moves c.args.head.expects c.requires.0 is.says.expects c.in_ok-interim.ensures.on_success u.1;
            missing = [];
            due = due_body g.H.Handler.answers c.args.handler.now u.0 failed is u.2;
            whole = λ _. refl;
          };
      short = λ _. record {
        read = e.0;
        written = interim_text c.requires.0;
        moves = first_moves c.args.head.expects c.requires.0 is.says.expects c.in_ok-interim.ensures.on_success e.1;
        lacks = rw is.says.bodiless (at_body c.requires.0 (may_interim e.0 is) refl);
      };
    })

pub returns-in_err-refuse-in-TooLong-clause-on_error : goal.returns-in_err-refuse-in-TooLong-clause-on_error
returns-in_err-refuse-in-TooLong-clause-on_error g c =
    let is = c.requires.1 in
    let e = c.in_ok-read_body.ensures.on_success in
    let r : (frame_by c.args.head.kind ≡ chunked) × IsTooLong chunked (drop c.args.head.len c.args.buffer.now.items
    ++ e.0) = rw c.in-TooLong.is at e.2 in
    let bad = long_chunks c.requires.0 _ (has_head_more e.0 is.has) (is.framing ∙ ap Some r.0) r.1 in
    let f = rw c.refusals.ensures at c.in_err-refuse-in-TooLong.ensures.on_error in
    let p = err_from_is_err_and c.from_residual-in_err-refuse-in-TooLong.result
    c.from_residual-in_err-refuse-in-TooLong.ensures.1 in
    let same = p.2 in
    rw p.1 (record {
      broken = λ lack. record {
        read = e.0;
        written = interim_text c.requires.0 ++ f.0;
        moves = all_moves c.args.head.expects c.requires.0 is.says.expects c.in_ok-interim.ensures.on_success e.1 f.3;
        missing = f.1;
        due = subst (Due g.H.Handler.refusals _ g.H.Handler.answers c.args.handler.now (c.args.buffer.now.items ++ e.0) c.args.handler.now)
            (cut_text (interim_text c.requires.0) f.0 f.1 (ap (λ (b : Bool). refusal_text g.H.Handler.refusals b 413) (sym is.says.bodiless)
            ∙ f.2)) (refusing (write_failed _ (λ fault_is. c.in_err-refuse-in-TooLong.ensures.no_read (cc)) lack) _ bad refl);
        whole = λ fault_is. absurd (c.in_err-refuse-in-TooLong.ensures.no_read (cc));
      };
      short = λ lack. record {
        read = e.0;
        written = interim_text c.requires.0;
        moves = then_to (first_moves c.args.head.expects c.requires.0 is.says.expects c.in_ok-interim.ensures.on_success
            e.1) (c.in_err-refuse-in-TooLong.ensures.quiet (cc)) (append-nil _) (append-nil _);
        lacks = rw is.says.bodiless (at_body c.requires.0 (may_interim e.0 is) refl);
      };
    })

pub returns-in_err-refuse-in-Bad-clause-on_error : goal.returns-in_err-refuse-in-Bad-clause-on_error
returns-in_err-refuse-in-Bad-clause-on_error g c =
    let is = c.requires.1 in
    let e = c.in_ok-read_body.ensures.on_success in
    let r : (frame_by c.args.head.kind ≡ chunked) × IsBroken (drop c.args.head.len c.args.buffer.now.items
    ++ e.0) = rw c.in-Bad.is at e.2 in
    let bad = bad_chunks c.requires.0 _ (has_head_more e.0 is.has) (is.framing ∙ ap Some r.0) r.1 in
    let f = rw c.refusals-in-Bad.ensures at c.in_err-refuse-in-Bad.ensures.on_error in
    let p = err_from_is_err_and c.from_residual-in_err-refuse-in-Bad.result
    c.from_residual-in_err-refuse-in-Bad.ensures.1 in
    let same = p.2 in
    rw p.1 (record {
      broken = λ lack. record {
        read = e.0;
        written = interim_text c.requires.0 ++ f.0;
        moves = all_moves c.args.head.expects c.requires.0 is.says.expects c.in_ok-interim.ensures.on_success e.1 f.3;
        missing = f.1;
        due = subst (Due g.H.Handler.refusals _ g.H.Handler.answers c.args.handler.now (c.args.buffer.now.items ++ e.0) c.args.handler.now)
            (cut_text (interim_text c.requires.0) f.0 f.1 (ap (λ (b : Bool). refusal_text g.H.Handler.refusals b 400) (sym is.says.bodiless)
            ∙ f.2)) (refusing (write_failed _ (λ fault_is. c.in_err-refuse-in-Bad.ensures.no_read (cc)) lack) _ bad refl);
        whole = λ fault_is. absurd (c.in_err-refuse-in-Bad.ensures.no_read (cc));
      };
      short = λ lack. record {
        read = e.0;
        written = interim_text c.requires.0;
        moves = then_to (first_moves c.args.head.expects c.requires.0 is.says.expects c.in_ok-interim.ensures.on_success
            e.1) (c.in_err-refuse-in-Bad.ensures.quiet (cc)) (append-nil _) (append-nil _);
        lacks = rw is.says.bodiless (at_body c.requires.0 (may_interim e.0 is) refl);
      };
    })

pub returns-in_err-goes-in-Whole-clause-on_error : goal.returns-in_err-goes-in-Whole-clause-on_error
returns-in_err-goes-in-Whole-clause-on_error g c =
    let h = c.requires.0 in
    let is = c.requires.1 in
    let e = c.in_ok-read_body.ensures.on_success in
    let r : IsRead c.is_none.result (frame_by c.args.head.kind) (drop c.args.head.len c.args.buffer.now.items
    ++ e.0) c.read_body.new.buffer.items (Whole c.in-Whole.body) = rw c.in-Whole.is
    at e.2 in
    let has = whole_message e.0 r.0 c.read_body.new.buffer.items is r.1 r.2 in
    let kept = message_kept c.reply_to_head-settled.result c.is_none.result c.in-Whole.body.items r.0 c.is_none.ensures is.says r.3 in
    let a = c.in_err-goes-in-Whole.ensures.on_error (message_with h r.0) kept in
    let p = err_from_is_err_and c.from_residual-in_err-goes-in-Whole.result
    c.from_residual-in_err-goes-in-Whole.ensures.1 in
    let same = p.2 in
    rw p.1 (record {
      broken = λ lack. record {
        read = e.0;
        written = interim_text h ++ a.0;
        moves = all_moves c.args.head.expects h is.says.expects c.in_ok-interim.ensures.on_success e.1 a.1;
        missing = a.2;
        due = due_reply g.H.Handler.answers (c.args.buffer.now.items ++ e.0) c.read_body.new.buffer.items
            (write_failed _ (λ fault_is. c.in_err-goes-in-Whole.ensures.no_read (cc)) lack) has a.3;
        whole = λ fault_is. absurd (c.in_err-goes-in-Whole.ensures.no_read (cc));
      };
      short = λ lack.
          let s = c.in_err-goes-in-Whole.ensures.short (cc) (message_with h r.0) kept in
          record {
            read = e.0;
            written = interim_text h;
            moves = then_to (first_moves c.args.head.expects h is.says.expects c.in_ok-interim.ensures.on_success e.1)
                s.0 (append-nil _) (append-nil _);
            lacks = rw is.says.bodiless (lacks_reply g.H.Handler.answers (c.args.buffer.now.items ++ e.0)
                c.read_body.new.buffer.items has s.2 s.3);
          };
    })

pub returns-in-Ended-clause-closes : goal.returns-in-Ended-clause-closes
returns-in-Ended-clause-closes g c =
    let is = c.requires.1 in
    let e = c.in_ok-read_body.ensures.on_success in
    let r : LacksBody (frame_by c.args.head.kind) (drop c.args.head.len c.args.buffer.now.items
    ++ e.0) = rw c.in-Ended.is at e.2 in
    λ _. record {
      read = e.0;
      text = interim_text c.requires.0;
      over = false;
      moves = first_moves c.args.head.expects c.requires.0 is.says.expects c.in_ok-interim.ensures.on_success e.1;
      ends = waits _ (in_body c.requires.0 _ (frame_by c.args.head.kind) (has_head_more e.0 is.has) is.framing r) refl;
      end = λ _. let w = c.in_ok-read_body.ensures.end (ap Ok c.in-Ended.is) in omega (
        arith,
        w,
        c.in_ok-interim.ensures.end,
      );
    }

pub returns-in_ok-refuse-in-TooLong-clause-closes : goal.returns-in_ok-refuse-in-TooLong-clause-closes
returns-in_ok-refuse-in-TooLong-clause-closes g c =
    let h = c.requires.0 in
    let is = c.requires.1 in
    let e = c.in_ok-read_body.ensures.on_success in
    let r : (frame_by c.args.head.kind ≡ chunked) × IsTooLong chunked (drop c.args.head.len c.args.buffer.now.items
    ++ e.0) = rw c.in-TooLong.is at e.2 in
    let bad = long_chunks h _ (has_head_more e.0 is.has) (is.framing ∙ ap Some r.0) r.1 in
    λ _. record {
      read = e.0;
      text = interim_text h ++ refusal_text g.H.Handler.refusals c.args.head.bodiless 413;
      over = true;
      moves = all_moves c.args.head.expects h is.says.expects c.in_ok-interim.ensures.on_success e.1
          (rw c.refusals.ensures at c.in_ok-refuse-in-TooLong.ensures.on_success);
      ends = subst (λ (b : Bool). Ends g.H.Handler.refusals g.H.Handler.answers c.args.handler.now (c.args.buffer.now.items
          ++ e.0) c.args.handler.now (interim_text h ++ refusal_text g.H.Handler.refusals b 413) true) (sym is.says.bodiless) (refuses _ bad
          refl);
      end = λ f. cc;
    }

pub returns-in_ok-refuse-in-Bad-clause-closes : goal.returns-in_ok-refuse-in-Bad-clause-closes
returns-in_ok-refuse-in-Bad-clause-closes g c =
    let h = c.requires.0 in
    let is = c.requires.1 in
    let e = c.in_ok-read_body.ensures.on_success in
    let r : (frame_by c.args.head.kind ≡ chunked) × IsBroken (drop c.args.head.len c.args.buffer.now.items
    ++ e.0) = rw c.in-Bad.is at e.2 in
    let bad = bad_chunks h _ (has_head_more e.0 is.has) (is.framing ∙ ap Some r.0) r.1 in
    λ _. record {
      read = e.0;
      text = interim_text h ++ refusal_text g.H.Handler.refusals c.args.head.bodiless 400;
      over = true;
      moves = all_moves c.args.head.expects h is.says.expects c.in_ok-interim.ensures.on_success e.1
          (rw c.refusals-in-Bad.ensures at c.in_ok-refuse-in-Bad.ensures.on_success);
      ends = subst (λ (b : Bool). Ends g.H.Handler.refusals g.H.Handler.answers c.args.handler.now (c.args.buffer.now.items
          ++ e.0) c.args.handler.now (interim_text h ++ refusal_text g.H.Handler.refusals b 400) true) (sym is.says.bodiless) (refuses _ bad
          refl);
      end = λ f. cc;
    }

pub returns-in_ok-goes-in-Whole-clause-stays_open : goal.returns-in_ok-goes-in-Whole-clause-stays_open
returns-in_ok-goes-in-Whole-clause-stays_open g c = λ eq.
    let h = c.requires.0 in
    let is = c.requires.1 in
    let e = c.in_ok-read_body.ensures.on_success in
    let r : IsRead c.is_none.result (frame_by c.args.head.kind) (drop c.args.head.len c.args.buffer.now.items
    ++ e.0) c.read_body.new.buffer.items (Whole c.in-Whole.body) = rw c.in-Whole.is
    at e.2 in
    let kept = message_kept c.reply_to_head-settled.result c.is_none.result c.in-Whole.body.items r.0 c.is_none.ensures is.says r.3 in
    let a = c.in_ok-goes-in-Whole.ensures.on_success (message_with h r.0) kept in
    let went : c.in_ok-goes-in-Whole.goes ≡ true = cc in
    record {
      read = e.0;
      exchange = record { message = message_with h r.0; reply = a.2.reply };
      moves = rw (
        reply_whole g.H.Handler.answers a.2,
        append-nil (interim_text h
            ++ a.0),
      ) (all_moves c.args.head.expects h is.says.expects c.in_ok-interim.ensures.on_success e.1 a.1);
      has = whole_message e.0 r.0 c.read_body.new.buffer.items is r.1 r.2;
      stays = not_is (closes h) c.in_ok-goes-in-Whole.goes a.3 went;
      answered = a.2.answered;
    }

pub returns-in_ok-goes-in-Whole-clause-closes : goal.returns-in_ok-goes-in-Whole-clause-closes
returns-in_ok-goes-in-Whole-clause-closes g c = λ eq.
    let h = c.requires.0 in
    let is = c.requires.1 in
    let e = c.in_ok-read_body.ensures.on_success in
    let r : IsRead c.is_none.result (frame_by c.args.head.kind) (drop c.args.head.len c.args.buffer.now.items
    ++ e.0) c.read_body.new.buffer.items (Whole c.in-Whole.body) = rw c.in-Whole.is
    at e.2 in
    let kept = message_kept c.reply_to_head-settled.result c.is_none.result c.in-Whole.body.items r.0 c.is_none.ensures is.says r.3 in
    let a = c.in_ok-goes-in-Whole.ensures.on_success (message_with h r.0) kept in
    let went : c.in_ok-goes-in-Whole.goes ≡ false = cc in
    record {
      read = e.0;
      text = exchange_text g.H.Handler.refusals (record { message = message_with h r.0; reply = a.2.reply });
      over = true;
      moves = rw (
        reply_whole g.H.Handler.answers a.2,
        append-nil (interim_text h
            ++ a.0),
      ) (all_moves c.args.head.expects h is.says.expects c.in_ok-interim.ensures.on_success e.1 a.1);
      ends = closing (record { message = message_with h r.0; reply = a.2.reply })
          c.read_body.new.buffer.items (whole_message e.0 r.0 c.read_body.new.buffer.items is r.1
          r.2) (not_is_not (closes h) c.in_ok-goes-in-Whole.goes a.3 went) a.2.answered;
      end = λ f. cc;
    }

pub returns-in_ok-goes-in-Whole-clause-work : goal.returns-in_ok-goes-in-Whole-clause-work
returns-in_ok-goes-in-Whole-clause-work g c = λ eq.
    omega (
      arith,
      c.in_ok-goes-in-Whole.ensures.reads,
      head_some c.requires.1,
      c.in_ok-read_body.ensures.work,
      c.in_ok-interim.ensures.reads,
    )

pub returns-in_ok-goes-in-Whole-clause-goes_on : goal.returns-in_ok-goes-in-Whole-clause-goes_on
returns-in_ok-goes-in-Whole-clause-goes_on g c = λ _.
    c.in_ok-goes-in-Whole.ensures.end
    ∙ ((rw c.in-Whole.is at c.in_ok-read_body.ensures.whole) ∙ c.in_ok-interim.ensures.end)
