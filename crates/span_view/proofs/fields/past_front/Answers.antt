use Rattle.std.proofs.Common.{◌∙◌, refl}
use Rattle.span_view.proofs.Short.{past_held, past_told}
use Rattle.span_view.proofs.fields.past_front.Goals as goal

pub returns-clause-start : goal.returns-clause-start
returns-clause-start c = λ kind.
    past_held 7 1 kind _ _ c.past_short_bytes-trace.ensures refl
    ∙ past_held 7 2 kind _ _ c.past_short_bytes-span.ensures refl
    ∙ past_held 7 3 kind _ _ c.past_short_bytes-state.ensures refl
    ∙ past_held 7 4 kind _ _ c.past_short_bytes-parent.ensures refl
    ∙ past_held 7 5 kind _ _ c.past_short_bytes-name.ensures refl
    ∙ past_held 7 6 kind _ _ c.past_kind.ensures refl

pub returns-clause-end : goal.returns-clause-end
returns-clause-end c = λ kind.
    past_held 8 1 kind _ _ c.past_short_bytes-trace.ensures refl
    ∙ past_held 8 2 kind _ _ c.past_short_bytes-span.ensures refl
    ∙ past_held 8 3 kind _ _ c.past_short_bytes-state.ensures refl
    ∙ past_held 8 4 kind _ _ c.past_short_bytes-parent.ensures refl
    ∙ past_held 8 5 kind _ _ c.past_short_bytes-name.ensures refl
    ∙ past_held 8 6 kind _ _ c.past_kind.ensures refl

pub returns-clause-status : goal.returns-clause-status
returns-clause-status c = λ kind.
    past_held 15 1 kind _ _ c.past_short_bytes-trace.ensures refl
    ∙ past_held 15 2 kind _ _ c.past_short_bytes-span.ensures refl
    ∙ past_held 15 3 kind _ _ c.past_short_bytes-state.ensures refl
    ∙ past_held 15 4 kind _ _ c.past_short_bytes-parent.ensures refl
    ∙ past_held 15 5 kind _ _ c.past_short_bytes-name.ensures refl
    ∙ past_held 15 6 kind _ _ c.past_kind.ensures refl

pub returns-clause-told : goal.returns-clause-told
returns-clause-told c =
    past_told 1 _ _ c.past_short_bytes-trace.ensures refl
    ∙ past_told 2 _ _ c.past_short_bytes-span.ensures refl
    ∙ past_told 3 _ _ c.past_short_bytes-state.ensures refl
    ∙ past_told 4 _ _ c.past_short_bytes-parent.ensures refl
    ∙ past_told 5 _ _ c.past_short_bytes-name.ensures refl
    ∙ past_told 6 _ _ c.past_kind.ensures refl
