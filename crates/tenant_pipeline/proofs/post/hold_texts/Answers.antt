use Rattle.std.proofs.Common.{◌∙◌}
use Rattle.span_pool.specs.Stored.{bytes_of}
use Rattle.tenant_stores.specs.Part.{part}
use Rattle.tenant_pipeline.proofs.Origins.{among_taken, resource_like}
use Rattle.tenant_pipeline.proofs.Posting.{on_err}
use Rattle.tenant_pipeline.proofs.post.hold_texts.Goals as goal

-- ---- with the resource of these keys

pub returns-in_ok-again-in-Some-clause-uses_added : goal.returns-in_ok-again-in-Some-clause-uses_added
returns-in_ok-again-in-Some-clause-uses_added c = λ n pending held among sound.
    c.in_ok-again-in-Some.ensures.uses_added n pending held (among_taken c.args.like c.in-Some.keys held c.in-Some.is among) sound

pub returns-in_ok-again-in-Some-clause-store_invariant : goal.returns-in_ok-again-in-Some-clause-store_invariant
returns-in_ok-again-in-Some-clause-store_invariant c = λ n pending held among sound.
    c.in_ok-again-in-Some.ensures.store_invariant n pending held (among_taken c.args.like c.in-Some.keys held c.in-Some.is among) sound

pub returns-in_ok-again-in-Some-clause-origin : goal.returns-in_ok-again-in-Some-clause-origin
returns-in_ok-again-in-Some-clause-origin c = λ n pending held among sound.
    let same = resource_like c.args.like c.in-Some.keys c.args.origin.now (part c.args.tenant c.args.stores.now) c.in-Some.is c.requires.like in
    c.in_ok-again-in-Some.ensures.texts n pending held (among_taken c.args.like c.in-Some.keys held c.in-Some.is among) sound
    ∙ (λ i. record {
      resource = same.resource i;
      resource_schema_url = same.schema_url i;
      scope = c.scope.ensures.value i;
      scope_schema_url = bytes_of (c.scope_schema_url.ensures.value i);
    })

pub returns-in_ok-again-in-Some-clause-shows : goal.returns-in_ok-again-in-Some-clause-shows
returns-in_ok-again-in-Some-clause-shows c = λ n pending held shown among sound within.
    c.in_ok-again-in-Some.ensures.shows n pending held shown (among_taken c.args.like c.in-Some.keys held c.in-Some.is among) sound within

pub returns-in_ok-again-in-Some-clause-stay : goal.returns-in_ok-again-in-Some-clause-stay
returns-in_ok-again-in-Some-clause-stay c = λ n pending held among sound.
    c.in_ok-again-in-Some.ensures.stay n pending held (among_taken c.args.like c.in-Some.keys held c.in-Some.is among) sound

pub returns-in_err-again-in-Some-clause-on_refusal : goal.returns-in_err-again-in-Some-clause-on_refusal
returns-in_err-again-in-Some-clause-on_refusal c = on_err c.from_residual.result (λ n pending held among sound.
    c.in_err-again-in-Some.ensures.on_refusal n pending held (among_taken c.args.like c.in-Some.keys held c.in-Some.is among) sound)

-- ---- all by their texts

pub returns-in_ok-keys-in-None-clause-uses_added : goal.returns-in_ok-keys-in-None-clause-uses_added
returns-in_ok-keys-in-None-clause-uses_added c = λ n pending held among sound. c.in_ok-keys-in-None.ensures.uses_added n pending held sound

pub returns-in_ok-keys-in-None-clause-store_invariant : goal.returns-in_ok-keys-in-None-clause-store_invariant
returns-in_ok-keys-in-None-clause-store_invariant c = λ n pending held among sound. c.in_ok-keys-in-None.ensures.store_invariant n pending held sound

pub returns-in_ok-keys-in-None-clause-origin : goal.returns-in_ok-keys-in-None-clause-origin
returns-in_ok-keys-in-None-clause-origin c = λ n pending held among sound.
    c.in_ok-keys-in-None.ensures.texts n pending held sound ∙ (λ i. record {
      resource = c.resource.ensures.value i;
      resource_schema_url = bytes_of (c.resource_schema_url.ensures.value i);
      scope = c.scope-in-None.ensures.value i;
      scope_schema_url = bytes_of (c.scope_schema_url-in-None.ensures.value i);
    })

pub returns-in_ok-keys-in-None-clause-shows : goal.returns-in_ok-keys-in-None-clause-shows
returns-in_ok-keys-in-None-clause-shows c = λ n pending held shown among sound within. c.in_ok-keys-in-None.ensures.shows n pending held shown sound within

pub returns-in_ok-keys-in-None-clause-stay : goal.returns-in_ok-keys-in-None-clause-stay
returns-in_ok-keys-in-None-clause-stay c = λ n pending held among sound. c.in_ok-keys-in-None.ensures.stay n pending held sound

pub returns-in_err-keys-in-None-clause-on_refusal : goal.returns-in_err-keys-in-None-clause-on_refusal
returns-in_err-keys-in-None-clause-on_refusal c = on_err c.from_residual-in_err-keys-in-None.result (λ n pending held among sound. c.in_err-keys-in-None.ensures.on_refusal n pending held sound)
