use Rattle.std.proofs.Common.{refl}
use Rattle.tenant_stores.specs.Part.{part}
use Rattle.tenant_stores.proofs.Parts.{part_by}
use Rattle.tenant_stores.proofs.Sounds.{waits_sound}
use Rattle.tenant_stores.proofs.Shows.{waits_shows}
use Rattle.tenant_stores.proofs.stores.Stores.keep_late.Goals as goal

pub returns-clause-own_part : goal.returns-clause-own_part
returns-clause-own_part g c = record { vacant = c.in_ok-late.ensures.vacant c.args.span.owner; spans = c.in_ok-late.ensures.own_part; texts = refl; rows = refl; latest_rows = refl }

pub returns-clause-store_invariant : goal.returns-clause-store_invariant
returns-clause-store_invariant g c = λ n pending held sound.
    waits_sound c.in_ok-late.late c.args.span (part c.args.span.owner c.args.self.now) _ n pending held (record { vacant = c.in_ok-late.ensures.vacant c.args.span.owner; spans = c.in_ok-late.ensures.own_part; texts = refl; rows = refl; latest_rows = refl }) sound

pub returns-clause-shows : goal.returns-clause-shows
returns-clause-shows g c = λ n pending held keys sound among.
    waits_shows c.in_ok-late.late c.args.span (part c.args.span.owner c.args.self.now) _ (record { vacant = c.in_ok-late.ensures.vacant c.args.span.owner; spans = c.in_ok-late.ensures.own_part; texts = refl; rows = refl; latest_rows = refl }) n pending held sound keys among

pub returns-clause-others_unchanged : goal.returns-clause-others_unchanged
returns-clause-others_unchanged g c = λ other ne. part_by _ _ _ _ _ _ _ _ (c.in_ok-late.ensures.others_unchanged other ne) refl refl refl

pub returns-in_err-late-clause-others_unchanged : goal.returns-in_err-late-clause-others_unchanged
returns-in_err-late-clause-others_unchanged g c = λ other ne. part_by _ _ _ _ _ _ _ _ (c.in_err-late.ensures.others_unchanged other ne) refl refl refl
