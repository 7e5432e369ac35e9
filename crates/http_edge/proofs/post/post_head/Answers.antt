use Rattle.http_edge.proofs.Posts.{head_parts}
use Rattle.http_edge.proofs.post.post_head.Goals as goal

pub returns : goal.returns
returns c =
    head_parts c.args.host.now c.args.len _ _ _ _ _
    c.in_ok-text.ensures.items
    (rw (← c.as_bytes.ensures.value) c.in_ok-extend_from_slice.ensures.items)
    c.in_ok-extend_from_slice-2.ensures.items
    (rw (← c.in_ok-decimal.ensures, ← c.deref.ensures.value) c.in_ok-extend_from_slice-3.ensures.items)
    c.in_ok-extend_from_slice-4.ensures.items
