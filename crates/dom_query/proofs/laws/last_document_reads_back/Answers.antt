use Rattle.dom_query.proofs.ReadBacks.{end-reads-back}
use Rattle.dom_query.proofs.laws.last_document_reads_back.Goals as goal

pub returns : goal.returns
returns c = end-reads-back c.one_reading.ensures c.one_reading-2.ensures c.plain_documents_are_spelled.ensures.root
