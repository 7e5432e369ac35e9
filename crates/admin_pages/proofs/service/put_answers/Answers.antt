use Rattle.admin_pages.proofs.service.put_answers.Goals as goal

pub returns : goal.returns
returns c = rw c.answers.ensures at c.put_measures.ensures
