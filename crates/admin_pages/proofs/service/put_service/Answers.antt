use Rattle.admin_pages.specs.Service.{service_text}
use Rattle.admin_pages.proofs.Joined.{more}
use Rattle.admin_pages.proofs.Pieces.{last}
use Rattle.admin_pages.proofs.service.put_service.Goals as goal

pub returns : goal.returns
unfolding service_text
returns c =
    let old = c.args.out.now.items in
    let standing = more old _ c.put_each.new.out.items _ _ c.in_ok-put_build.ensures (rw c.standing.ensures at c.in_ok-put_each.ensures) in
    let memory = more old _ c.put_memory.new.out.items _ _ standing c.in_ok-put_memory.ensures in
    let receiving = more old _ c.put_each-2.new.out.items _ _ memory (rw c.receiving.ensures at c.in_ok-put_each-2.ensures) in
    let requests = more old _ c.put_requests.new.out.items _ _ receiving c.in_ok-put_requests.ensures in
    let sending = more old _ c.put_each-3.new.out.items _ _ requests (rw c.sending.ensures at c.in_ok-put_each-3.ensures) in
    let all = last c.put_answers.result old c.put_each-3.new.out.items c.put_answers.new.out.items _ _ sending c.put_answers.ensures in
    all
