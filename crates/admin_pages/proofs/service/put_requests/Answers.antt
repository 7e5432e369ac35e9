use Rattle.admin_pages.proofs.service.put_requests.Goals as goal

pub returns : goal.returns
returns c = rw c.by_status.ensures at c.put_measures.ensures
