use Rattle.span_batcher.proofs.Requests.{text_is, values_are, texts_are, whole, reads}
use Rattle.span_batcher.proofs.request.batches_are_requests.Goals as goal

pub returns : goal.returns
returns c = record {
  text = text_is;
  values = values_are;
  texts = texts_are;
  whole = whole c.written_reads_back.ensures.resource c.written_reads_back.ensures.scope;
  read = reads c.written_reads_back.ensures.request;
}
