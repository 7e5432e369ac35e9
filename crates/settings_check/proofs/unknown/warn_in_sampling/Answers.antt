use Rattle.std.proofs.Common.{◌≡◌, ◌++◌, codes, string_bytes, ◌∙◌}
use Rattle.std.proofs.lemmas.Result.{on_ok_weaker}
use Rattle.tail_settings.specs.Keys.{keys_of}
use Rattle.settings_check.specs.Unknown.{items_in, unknown_in, unknown_in_cache, unknown_in_policies}
use Rattle.settings_check.specs.Warning.{warnings}
use Rattle.settings_check.specs.declared.table.TableKind.TheVariants as kinds
use Rattle.settings_check.proofs.Warnings.{put_both}
use Rattle.settings_check.proofs.unknown.warn_in_sampling.Goals as goal

pub returns : goal.returns
returns c =
    let out = string_bytes c.args.out.now in
    let place = c.args.place.now in
    let sampling = keys_of c.args.sampling in
    let own = unknown_in (place ++ codes ", table tail_sampling") kinds.TailSampling sampling in
    let cache = unknown_in_cache place sampling in
    let all = unknown_in_policies place 1 (items_in (codes "policy") sampling) in
    let first : string_bytes c.warn_in.new.out ≡ out ++ warnings own = rw (c.as_str.ensures.value, c.in_ok-title.ensures) at c.in_ok-warn_in.ensures in
    let second : string_bytes c.warn_in_cache.new.out ≡ out ++ warnings (own ++ cache) = (rw first at c.in_ok-warn_in_cache.ensures) ∙ put_both out own cache in
    on_ok_weaker c.warn_in_policies.result
    (λ more. (rw (second, c.items.ensures) at more) ∙ put_both out (own ++ cache) all)
    c.warn_in_policies.ensures
