use Rattle.std.proofs.Common.{codes, ◌∙◌, refl}
use Rattle.std.specs.Fmt.{decimal}
use Rattle.admin_pages.specs.Settings.{sampling_text}
use Rattle.admin_pages.proofs.Joined.{more}
use Rattle.admin_pages.proofs.Pieces.{appended, last, pieces9}
use Rattle.admin_pages.proofs.settings.put_sampling.Goals as goal

pub returns : goal.returns
unfolding sampling_text
returns c =
    let sampling = c.args.sampling.now in
    let old = c.args.out.now.items in
    let numbers = c.as_bytes.ensures.value ∙ (c.in_ok-numbers.ensures.ok ∙ pieces9 (codes "{\"decision_wait_ms\":") (decimal sampling.decision_wait)
    (codes ",\"num_traces\":") (decimal sampling.num_traces) (codes ",\"decision_cache\":{\"sampled_cache_size\":") (decimal sampling.sampled_cache_size)
    (codes ",\"non_sampled_cache_size\":") (decimal sampling.non_sampled_cache_size) (codes "},\"policy\":[")) in
    let begun = rw numbers at c.in_ok-extend_from_slice.ensures.items in
    let policies = more old _ c.put_policies.new.out.items _ _ begun (rw c.deref.ensures.value at c.in_ok-put_policies.ensures) in
    let end = appended c.extend_from_slice-2.result c.put_policies.new.out.items c.extend_from_slice-2.new.self.items _ _ c.extend_from_slice-2.ensures.items refl in
    let all = last c.extend_from_slice-2.result old c.put_policies.new.out.items c.extend_from_slice-2.new.self.items _ _ policies end in
    all
