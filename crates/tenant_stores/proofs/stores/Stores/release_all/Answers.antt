use Rattle.std.proofs.Common.{refl}
use Rattle.tenant_stores.specs.Part.{part}
use Rattle.tenant_stores.specs.View.{text_keys}
use Rattle.tenant_stores.proofs.Parts.{part_by}
use Rattle.tenant_stores.proofs.Shows.{released_shows, released_stays}
use Rattle.tenant_stores.proofs.Held.{released_sound}
use Rattle.tenant_stores.proofs.stores.Stores.release_all.Goals as goal

pub returns-clause-uses_removed : goal.returns-clause-uses_removed
returns-clause-uses_removed g c = record { spans = refl; texts = c.release_all.ensures.uses_removed; rows = refl; latest_rows = refl }

pub returns-clause-store_invariant : goal.returns-clause-store_invariant
returns-clause-store_invariant g c = λ n pending held sound.
    released_sound (text_keys c.args.keys) (part c.args.tenant c.args.self.now) _ refl c.release_all.ensures.uses_removed refl refl n pending held sound

pub returns-clause-shows : goal.returns-clause-shows
returns-clause-shows g c = λ n pending held shown sound among.
    released_shows (text_keys c.args.keys) (part c.args.tenant c.args.self.now) (part c.args.tenant (record c.args.self.now { texts = c.release_all.new.texts })) refl c.release_all.ensures.uses_removed refl n pending held sound shown among

pub returns-clause-stay : goal.returns-clause-stay
returns-clause-stay g c = λ n pending held sound.
    released_stays (text_keys c.args.keys) (part c.args.tenant c.args.self.now) (part c.args.tenant (record c.args.self.now { texts = c.release_all.new.texts })) refl c.release_all.ensures.uses_removed refl n pending held sound

pub returns-clause-others_unchanged : goal.returns-clause-others_unchanged
returns-clause-others_unchanged g c = λ other ne. part_by _ _ _ _ _ _ _ _ refl (c.release_all.ensures.others_unchanged other ne) refl refl
