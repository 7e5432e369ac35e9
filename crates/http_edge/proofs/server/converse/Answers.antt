use Rattle.std.proofs.Common.{◌++◌, [], ◌∷◌, Ok, refl, sym, ap, ◌∙◌, append_assoc, arith, rules}
use Rattle.std.proofs.lemmas.Result.{err_from_is_err_and}
use Rattle.http_edge.specs.Talk.{told}
use Rattle.http_line.proofs.Moved.{then, then_to}
use Rattle.http_edge.proofs.Served.{due_of, runs_more, told_more, asks_more, asks_read}
use Rattle.http_line.specs.Line.{no_call}
use Rattle.http_edge.proofs.server.converse.Goals as goal

pub messages-preserved : goal.messages-preserved
messages-preserved g c =
    let inv = c.messages.invariant in
    let on = c.in_ok-exchange.ensures.stays_open (ap Ok c.if-branch.true) in
    record {
      read = inv.read ++ on.read;
      exchanges = inv.exchanges ++ on.exchange ∷ [];
      so_far = (
        then_to inv.so_far.0 on.moves refl (sym (told_more g.H.Handler.refusals inv.exchanges on.exchange)),
        runs_more g.H.Handler.answers c.args.handler.now c.messages.handler c.exchange.new.handler inv.exchanges
            on.exchange inv.so_far.1 on.answered,
        asks_more inv.exchanges on.exchange (inv.read ++ on.read) (c.messages.buffer.items
            ++ on.read) c.exchange.new.buffer.items (asks_read inv.exchanges inv.read c.messages.buffer.items on.read
            inv.so_far.2) on.has on.stays,
      );
      kept = c.in_ok-exchange.ensures.kept ∙ inv.kept;
      ends = c.in_ok-exchange.ensures.goes_on (ap Ok c.if-branch.true) ∙ inv.ends;
    }

pub returns-clause-talk : goal.returns-clause-talk
returns-clause-talk g c =
    let inv = c.messages.invariant in
    let over = c.in_ok-exchange.ensures.closes (ap Ok c.if-branch.false) in (
      inv.read ++ over.read,
      told g.H.Handler.refusals inv.exchanges ++ over.text,
      over.over,
      then inv.so_far.0 over.moves,
      record {
        exchanges = inv.exchanges;
        rest = c.messages.buffer.items ++ over.read;
        reads = asks_read inv.exchanges inv.read c.messages.buffer.items over.read inv.so_far.2;
        mid = c.messages.handler;
        runs = inv.so_far.1;
        last = over.text;
        due = over.ends;
        writes = refl;
      },
      λ f. let w = over.end f in omega (arith, w, inv.ends),
    )

pub returns-in_err-exchange-clause-broken : goal.returns-in_err-exchange-clause-broken
returns-in_err-exchange-clause-broken g c =
    let inv = c.messages.invariant in
    let p = err_from_is_err_and c.from_residual.result c.from_residual.ensures.1 in
    let same = p.2 in
    rw p.1 (λ lack.
    let cut = c.in_err-exchange.ensures.on_error.broken (λ is. lack (cc)) in (
      inv.read ++ cut.read,
      told g.H.Handler.refusals inv.exchanges ++ cut.written,
      then inv.so_far.0 cut.moves,
      cut.missing,
      record {
        exchanges = inv.exchanges;
        rest = c.messages.buffer.items ++ cut.read;
        reads = asks_read inv.exchanges inv.read c.messages.buffer.items cut.read inv.so_far.2;
        mid = c.messages.handler;
        runs = inv.so_far.1;
        last = cut.written ++ cut.missing;
        due = due_of (cc) cut.due;
        writes = append_assoc (told g.H.Handler.refusals inv.exchanges) cut.written cut.missing;
      },
      λ is. cut.whole (cc),
    ))

pub returns-in_err-exchange-clause-short : goal.returns-in_err-exchange-clause-short
returns-in_err-exchange-clause-short g c = λ lack.
    let inv = c.messages.invariant in
    let p = err_from_is_err_and c.from_residual.result c.from_residual.ensures.1 in
    let told_of = p.1 in
    let same = p.2 in
    let cut = c.in_err-exchange.ensures.on_error.short (cc) in (
      inv.read ++ cut.read,
      told g.H.Handler.refusals inv.exchanges ++ cut.written,
      then inv.so_far.0 cut.moves,
      record {
        exchanges = inv.exchanges;
        rest = c.messages.buffer.items ++ cut.read;
        reads = asks_read inv.exchanges inv.read c.messages.buffer.items cut.read inv.so_far.2;
        mid = c.messages.handler;
        runs = inv.so_far.1;
        last = cut.written;
        due = cut.lacks;
        writes = refl;
      },
    )

pub messages-init : goal.messages-init
messages-init g c = record {
  read = [];
  exchanges = [];
  so_far = (no_call, refl, search rules);
  kept = refl;
  ends = refl;
}
