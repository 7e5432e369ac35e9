use Rattle.std.proofs.Common.{◌∙◌}
use Rattle.std.specs.Prelude.{option_to_list}
use Rattle.text_pool.specs.Part.{part}
use Rattle.tenant_stores.proofs.Parts.{four_released}
use Rattle.tenant_stores.proofs.texts.release_all.Goals as goal

pub returns-clause-uses_removed : goal.returns-clause-uses_removed
returns-clause-uses_removed c = four_released (option_to_list c.args.keys.resource) (option_to_list c.args.keys.resource_schema_url) (option_to_list c.args.keys.scope) (option_to_list c.args.keys.scope_schema_url) (part c.args.tenant c.args.texts.now) (part c.args.tenant c.release.new.texts) (part c.args.tenant c.release-2.new.texts) (part c.args.tenant c.release-3.new.texts) (part c.args.tenant c.release-4.new.texts) c.release.ensures.uses_removed c.release-2.ensures.uses_removed c.release-3.ensures.uses_removed c.release-4.ensures.uses_removed

pub returns-clause-others_unchanged : goal.returns-clause-others_unchanged
returns-clause-others_unchanged c = λ other ne. c.release-4.ensures.others_unchanged other ne ∙ (c.release-3.ensures.others_unchanged other ne ∙ (c.release-2.ensures.others_unchanged other ne ∙ c.release.ensures.others_unchanged other ne))
