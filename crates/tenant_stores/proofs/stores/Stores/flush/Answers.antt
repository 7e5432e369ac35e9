use Rattle.std.proofs.Common.{◌≡◌, ◌∙◌, ap, sym, arith, ℕ, List, [], drop}
use Rattle.std.proofs.lemmas.List.{drop_all}
use Rattle.span_pool.specs.Pool.{without}
use Rattle.tenant_stores.specs.Changes.{texts_without}
use Rattle.tenant_stores.proofs.Sounds.{leaves_sound}
use Rattle.tenant_stores.specs.Part.{part}
use Rattle.tenant_stores.proofs.Parts.{leave_more}
use Rattle.tenant_stores.proofs.Shows.{leaves_shows, leaves_stays}
use Rattle.tenant_stores.proofs.stores.Stores.flush.Goals as goal

pub loop-key-preserved : goal.loop-key-preserved
loop-key-preserved g c =
    let more = leave_more c.args.keys.now c.loop-key.key-index (part c.args.tenant c.loop-key.self) (part c.args.tenant c.leave.new.self) c.loop-key-test.true c.leave.ensures.own_part in
    record {
      spans = more.0 ∙ c.loop-key.invariant.spans;
      texts = more.1 ∙ c.loop-key.invariant.texts;
      rows = c.leave.ensures.own_part.rows ∙ c.loop-key.invariant.rows;
      latest_rows = c.leave.ensures.own_part.latest_rows ∙ c.loop-key.invariant.latest_rows;
      others = λ other ne. c.leave.ensures.others_unchanged other ne ∙ c.loop-key.invariant.others other ne;
    }

pub returns-clause-store_invariant : goal.returns-clause-store_invariant
returns-clause-store_invariant g c = λ n pending left held all sound.
    let keys = c.args.keys.now in
    let old = part c.args.tenant c.args.self.now in
    let new = part c.args.tenant c.loop-key.self in
    let end : drop c.loop-key.key-index keys ≡ [] = drop_all c.loop-key.key-index keys (omega (arith, c.loop-key-test.false)) in
    leaves_sound keys old new (record {
      spans = sym (ap (λ (ks : List ℕ). without ks new.spans) end) ∙ c.loop-key.invariant.spans;
      texts = sym (ap (λ (ks : List ℕ). texts_without ks new.spans new.texts) end) ∙ c.loop-key.invariant.texts;
      rows = c.loop-key.invariant.rows;
      latest_rows = c.loop-key.invariant.latest_rows;
    }) n pending left held all sound

pub returns-clause-shows : goal.returns-clause-shows
returns-clause-shows g c = λ n pending left held shown all sound among.
    let keys = c.args.keys.now in
    let old = part c.args.tenant c.args.self.now in
    let new = part c.args.tenant c.loop-key.self in
    let end : drop c.loop-key.key-index keys ≡ [] = drop_all c.loop-key.key-index keys (omega (arith, c.loop-key-test.false)) in
    leaves_shows keys old new (record {
      spans = sym (ap (λ (ks : List ℕ). without ks new.spans) end) ∙ c.loop-key.invariant.spans;
      texts = sym (ap (λ (ks : List ℕ). texts_without ks new.spans new.texts) end) ∙ c.loop-key.invariant.texts;
      rows = c.loop-key.invariant.rows;
      latest_rows = c.loop-key.invariant.latest_rows;
    }) n pending left held all sound shown among

pub returns-clause-stay : goal.returns-clause-stay
returns-clause-stay g c = λ n pending left held all sound.
    let keys = c.args.keys.now in
    let old = part c.args.tenant c.args.self.now in
    let new = part c.args.tenant c.loop-key.self in
    let end : drop c.loop-key.key-index keys ≡ [] = drop_all c.loop-key.key-index keys (omega (arith, c.loop-key-test.false)) in
    leaves_stays keys old new (record {
      spans = sym (ap (λ (ks : List ℕ). without ks new.spans) end) ∙ c.loop-key.invariant.spans;
      texts = sym (ap (λ (ks : List ℕ). texts_without ks new.spans new.texts) end) ∙ c.loop-key.invariant.texts;
      rows = c.loop-key.invariant.rows;
      latest_rows = c.loop-key.invariant.latest_rows;
    }) n pending left held all sound
