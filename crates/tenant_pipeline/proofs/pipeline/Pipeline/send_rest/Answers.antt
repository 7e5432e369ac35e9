use Rattle.std.proofs.Common.{◌≡◌, ◌<◌, ◌∙◌, ◌++◌, ℕ, List, [], ◌∷◌, length, ap, subst, sym, refl, arith, append-nil}
use Rattle.std.proofs.lemmas.Bool.Decides.{nat_tests}
use Rattle.std.proofs.lemmas.Result.{on_ok_weaker}
use Rattle.drop_ledger.specs.Ledger.{LedgerData}
use Rattle.tenant_stores.specs.Counts.{count}
use Rattle.tenant_rules.specs.Batching.{as_sent}
use Rattle.tenant_pipeline.specs.declared.pipeline.Pipeline.{Pipeline}
use Rattle.tenant_pipeline.specs.Outbox.{AreThere, arrivals_at}
use Rattle.tenant_pipeline.specs.StateIn.{part_in, written_with}
use Rattle.tenant_pipeline.specs.Unsent.{AddsAll}
use Rattle.tenant_pipeline.proofs.Adding.{rest_sends}
use Rattle.tenant_pipeline.proofs.Draining.{rest_none, rest_some}
use Rattle.tenant_pipeline.proofs.pipeline.Pipeline.send_rest.Goals as goal

none_long : (keys : List ℕ) → length keys ≡ 0 → keys ≡ []
none_long [] none = refl
none_long (key ∷ keys) none = absurd (omega (arith, none))

pub returns-then-is_empty-clause-on_success : goal.returns-then-is_empty-clause-on_success
returns-then-is_empty-clause-on_success c = λ there room.
    let own = c.args.self.now in
    let p = part_in own c.args.stores.now in
    let size : length c.spans-keys.result.now ≡ 0 = grind (arith, nat_tests, c.is_empty.ensures, c.if-is_empty.true) in
    let none : own.batcher.spans ≡ [] = sym c.spans-keys.ensures ∙ none_long c.spans-keys.result.now size in
    rest_none (written_with c.args.leaving.now.unsent p own) p c.args.moment none room

pub returns-clause-on_success : goal.returns-clause-on_success
returns-clause-on_success c =
    let own = c.args.self.now in
    let p = part_in own c.args.stores.now in
    let us = c.args.leaving.now.unsent in
    let us' = c.add.new.self.unsent in
    let m = c.args.moment in
    let l' : LedgerData = c.add.new.ledger in
    let mid : Pipeline = record own { ledger = l' } in
    let keys = ap length c.spans-keys.ensures in
    let some : 0 < length own.batcher.spans = grind (arith, nat_tests, keys, c.is_empty.ensures, c.if-is_empty.false) in
    on_ok_weaker c.add.result (λ (adds : AddsAll p (record { moment = m; spans = c.spans-keys.result.now } ∷ []) own.sender c.args.leaving.now c.add.new.self own.ledger l') there room.
    let adds' : AddsAll p (record { moment = m; spans = own.batcher.spans } ∷ []) own.sender c.args.leaving.now c.add.new.self own.ledger l' =
    subst (λ (ks : List ℕ). AddsAll p (record { moment = m; spans = ks } ∷ []) own.sender c.args.leaving.now c.add.new.self own.ledger l') c.spans-keys.ensures adds in
    let there' : AreThere p (own.batcher.spans ++ []) = subst (AreThere p) (sym (append-nil own.batcher.spans)) there in
    rest_some (written_with us p own) (written_with us' p mid) p m (as_sent (record { moment = m; spans = arrivals_at p own.batcher.spans })) some there refl
    (rest_sends p own (record { moment = m; spans = own.batcher.spans }) c.args.leaving.now c.add.new.self l' adds' there') refl
    adds'.room room) c.add.ensures

pub returns-clause-gone : goal.returns-clause-gone
returns-clause-gone c =
    on_ok_weaker c.add.result (λ adds key.
    let keys = ap (count key) (append-nil c.spans-keys.result.now) in
    let same = ap (count key) c.spans-keys.ensures in
    let gone = adds.gone key in
    omega (arith, keys, same, gone)) c.add.ensures
