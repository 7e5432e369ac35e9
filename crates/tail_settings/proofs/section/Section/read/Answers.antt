use Rattle.tail_settings.specs.Section.{section_of}
use Rattle.tail_settings.proofs.Told.{passed_on}
use Rattle.tail_settings.proofs.section.Section.read.Goals as goal

pub returns-in_err-seed : goal.returns-in_err-seed
unfolding section_of
returns-in_err-seed c =
    rw (c.in_ok-endpoint.ensures.meaning, c.in_ok-max_spans.ensures.meaning)
    (passed_on _ _ _ _ _ c.from_residual-in_err-seed.ensures.1 c.in_err-seed.ensures.meaning)

pub returns-in_err-tail_sampling : goal.returns-in_err-tail_sampling
unfolding section_of
returns-in_err-tail_sampling c =
    rw (c.in_ok-endpoint.ensures.meaning, c.in_ok-max_spans.ensures.meaning, c.in_ok-seed.ensures.meaning)
    (passed_on _ _ _ _ _ c.from_residual-in_err-tail_sampling.ensures.1 c.in_err-tail_sampling.ensures)

pub returns-in_err-batch : goal.returns-in_err-batch
unfolding section_of
returns-in_err-batch c =
    rw (c.in_ok-endpoint.ensures.meaning, c.in_ok-max_spans.ensures.meaning, c.in_ok-seed.ensures.meaning, c.in_ok-tail_sampling.ensures)
    (passed_on _ _ _ _ _ c.from_residual-in_err-batch.ensures.1 c.in_err-batch.ensures.meaning)

pub returns-in_err-sending_queue : goal.returns-in_err-sending_queue
unfolding section_of
returns-in_err-sending_queue c =
    rw (c.in_ok-endpoint.ensures.meaning, c.in_ok-max_spans.ensures.meaning, c.in_ok-seed.ensures.meaning, c.in_ok-tail_sampling.ensures, c.in_ok-batch.ensures.meaning)
    (passed_on _ _ _ _ _ c.from_residual-in_err-sending_queue.ensures.1 c.in_err-sending_queue.ensures.meaning)

pub returns-in_err-retry_on_failure : goal.returns-in_err-retry_on_failure
unfolding section_of
returns-in_err-retry_on_failure c =
    rw (c.in_ok-endpoint.ensures.meaning, c.in_ok-max_spans.ensures.meaning, c.in_ok-seed.ensures.meaning, c.in_ok-tail_sampling.ensures, c.in_ok-batch.ensures.meaning, c.in_ok-sending_queue.ensures.meaning)
    (passed_on _ _ _ _ _ c.from_residual-in_err-retry_on_failure.ensures.1 c.in_err-retry_on_failure.ensures.meaning)

pub returns : goal.returns
unfolding section_of
returns c =
    rw (c.in_ok-endpoint.ensures.meaning, c.in_ok-max_spans.ensures.meaning, c.in_ok-seed.ensures.meaning, c.in_ok-tail_sampling.ensures, c.in_ok-batch.ensures.meaning, c.in_ok-sending_queue.ensures.meaning, c.in_ok-retry_on_failure.ensures.meaning)
