-- When steps are equal. This project's own rule.
use Rattle.std.specs.Prelude.{◌≡◌}
use Rattle.tail_settings.specs.Section.{section_view}
use Rattle.send_retry.specs.Class.{answer_view}
use Rattle.tenant_shard.specs.declared.step.Step.{Step}
use Rattle.tenant_shard.specs.declared.step.Step.TheVariants as steps

-- two steps of one kind, at one moment and of one tenant, with the same body, the same section, or the same answer to
-- the job of one ticket with one word
abbrev pub AreSame : Step → Step → Type 0
AreSame (steps.Post now prepared) (steps.Post now' prepared') = (now ≡ now') × (prepared ≡ prepared')
AreSame (steps.Turn now) (steps.Turn now') = now ≡ now'
AreSame (steps.Answer tenant now ticket word answer) (steps.Answer tenant' now' ticket' word' answer') =
    (tenant ≡ tenant') × (now ≡ now') × (ticket ≡ ticket') × (word ≡ word') × (answer_view answer ≡ answer_view answer')
AreSame (steps.Report tenant now) (steps.Report tenant' now') = (tenant ≡ tenant') × (now ≡ now')
AreSame (steps.Drain tenant now) (steps.Drain tenant' now') = (tenant ≡ tenant') × (now ≡ now')
AreSame (steps.Add tenant section) (steps.Add tenant' section') =
    (tenant ≡ tenant') × (section_view section ≡ section_view section')
AreSame (steps.Retire tenant now) (steps.Retire tenant' now') = (tenant ≡ tenant') × (now ≡ now')
AreSame _ _ = ⊥
