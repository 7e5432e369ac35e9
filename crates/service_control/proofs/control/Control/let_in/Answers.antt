use Rattle.std.proofs.Common.{length, string_bytes, refl}
use Rattle.std.proofs.lemmas.Result.{err_from_is_err_and, IfOk-weaker}
use Rattle.service_control.specs.Control.{standing_with, standing_of}
use Rattle.service_control.proofs.Joined.{not_heard, without_room, not_let_in, joins, joins_not}
use Rattle.service_control.proofs.control.Control.let_in.Goals as goal

pub returns-in_err-text-clause-not_added : goal.returns-in_err-text-clause-not_added
returns-in_err-text-clause-not_added g c =
    let p = err_from_is_err_and c.from_residual.result c.from_residual.ensures.1 in
    let standing = standing_of c.args.self.now c.args.roster.now in
    rw (p.1, p.2) (not_heard g.D.Documents.reads g.J.SettingsNaming.first (length c.args.self.now.context.hub.now) c.args.path.now
    standing c.args.self.now.context.caller standing _ c.in_err-text.ensures.unread refl)

pub returns-in_err-reserve-clause-not_added : goal.returns-in_err-reserve-clause-not_added
returns-in_err-reserve-clause-not_added g c =
    let p = err_from_is_err_and c.from_residual-in_err-reserve.result c.from_residual-in_err-reserve.ensures.1 in
    let standing = standing_of c.args.self.now c.args.roster.now in
    rw (p.1, c.reserve.ensures.same) (without_room g.D.Documents.reads g.J.SettingsNaming.first (length c.args.self.now.context.hub.now)
    c.args.path.now standing c.args.self.now.context.caller standing (string_bytes c.in_ok-text.text) p.0
    c.in_ok-text.ensures.text p.2 refl)

pub returns-in_err-newcomer-clause-not_added : goal.returns-in_err-newcomer-clause-not_added
returns-in_err-newcomer-clause-not_added g c =
    let p = err_from_is_err_and c.from_residual-in_err-newcomer.result c.from_residual-in_err-newcomer.ensures.1 in
    rw p.1 (not_let_in g.D.Documents.reads g.J.SettingsNaming.first (length c.args.self.now.context.hub.now)
    c.args.path.now (standing_of c.args.self.now c.args.roster.now) c.args.self.now.context.caller (standing_with c.reserve.new.self c.newcomer.new.self)
    (string_bytes c.in_ok-text.text) _ p.0 p.2
    c.in_ok-text.ensures.text (rw c.as_str.ensures.value at c.in_err-newcomer.ensures.fault) c.reserve.ensures.same)

pub returns-clause-added : goal.returns-clause-added
returns-clause-added g c =
    let came = rw c.as_str.ensures.value at c.in_ok-newcomer.ensures.on_success in
    IfOk-weaker c.join.result _ _
    (λ line joined. joins g.D.Documents.reads g.J.SettingsNaming.first (length c.args.self.now.context.hub.now) c.args.path.now
    (standing_of c.args.self.now c.args.roster.now) c.args.self.now.context.caller (standing_of c.join.new.self c.join.new.roster)
    (string_bytes c.in_ok-text.text) c.in_ok-newcomer.newcomer _ c.join.new.self.context.caller line.items
    c.in_ok-text.ensures.text came joined)
    (rw c.reserve.ensures.same at c.join.ensures.joined)

pub returns-clause-not_added : goal.returns-clause-not_added
returns-clause-not_added g c =
    joins_not g.D.Documents.reads g.J.SettingsNaming.first (length c.args.self.now.context.hub.now) c.args.path.now
    (standing_of c.args.self.now c.args.roster.now) c.args.self.now.context.caller (standing_of c.join.new.self c.join.new.roster)
    (string_bytes c.in_ok-text.text) c.in_ok-newcomer.newcomer (standing_with c.reserve.new.self c.newcomer.new.self) c.join.new.self.context.caller
    c.join.result c.in_ok-text.ensures.text (rw c.as_str.ensures.value at c.in_ok-newcomer.ensures.on_success) c.reserve.ensures.same
    c.join.ensures.not_joined
