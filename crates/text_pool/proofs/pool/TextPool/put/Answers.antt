use Rattle.std.proofs.Common.{◌≡◌, ap, ◌∙◌, subst, rules, ℕ, List, None, Some}
use Rattle.slab.specs.Slab.{Slab, Updates}
use Rattle.text_pool.specs.declared.pool.CountedText.{CountedText}
use Rattle.text_pool.specs.Part.{part, with_text, held}
use Rattle.text_pool.proofs.Puts.{put_part}
use Rattle.text_pool.proofs.pool.TextPool.put.Goals as goal

pub returns-clause-own_part : goal.returns-clause-own_part
returns-clause-own_part c =
    let kept : CountedText = record { owner = c.args.tenant; text = c.in_ok-copy.copy; uses = 1 } in
    let key = c.in-Ok.key in
    let same : c.insert_reserved.result ≡ key = search rules in
    let put = subst (λ (k : ℕ). Updates c.reserve.new.self c.insert_reserved.new.self k (Some kept)) same c.insert_reserved.ensures.updates in
    put_part c.reserve.new.self c.insert_reserved.new.self key kept put
    ∙ (ap (λ (pool : Slab CountedText). with_text key (Some kept) (part c.args.tenant pool)) c.in_ok-reserve.ensures.rest_kept
    ∙ (ap (λ (pool : Slab CountedText). with_text key (Some kept) (part c.args.tenant pool)) c.self.view_is
    ∙ ap (λ (text : List ℕ). with_text key (held c.args.tenant text None) (part c.args.tenant c.args.self.now)) c.in_ok-copy.ensures))
