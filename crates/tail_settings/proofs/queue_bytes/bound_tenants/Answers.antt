use Rattle.std.proofs.Common.{◌≡◌, ◌∙◌, ap, sym, arith, map, add-one}
use Rattle.std.proofs.lemmas.List.{length-map}
use Rattle.indexmap.proofs.CallerLemmas.{index_map_len-with_value_at}
use Rattle.tail_settings.specs.Settings.{tenant_view}
use Rattle.tail_settings.proofs.QueueBytes.{front, front_whole, front_more}
use Rattle.tail_settings.proofs.queue_bytes.bound_tenants.Goals as goal

pub index_mut-requires : goal.index_mut-requires
index_mut-requires c = omega (arith, c.loop-place.invariant.count, c.len-place-end.ensures.len)

pub loop-place-preserved : goal.loop-place-preserved
loop-place-preserved c =
    let es = c.loop-place.tenants.entries in
    let ts = map tenant_view c.args.tenants.now.entries in
    let n = c.loop-place.place in
    record {
      bounded =
          front_more c.args.bytes es ts n _ _ c.loop-place.invariant.bounded c.index_mut.ensures.value c.bound_queue.ensures.number c.bound_queue.ensures.section
          ∙ ap (λ k. front c.args.bytes k ts) (sym (add-one n));
      count = index_map_len-with_value_at c.loop-place.tenants n _ ∙ c.loop-place.invariant.count;
    }

pub returns : goal.returns
returns c =
    let ts = map tenant_view c.args.tenants.now.entries in
    let whole : c.loop-place.place ≡ c.len-place-end.result = omega arith in
    c.loop-place.invariant.bounded
    ∙ ap (λ k. front c.args.bytes k ts) (whole ∙ c.len-place-end.ensures.len ∙ sym (length-map c.args.tenants.now.entries tenant_view))
    ∙ front_whole c.args.bytes ts
