use Rattle.dom_query.proofs.ReadBacks.{reads-back}
use Rattle.dom_query.proofs.laws.document_reads_back.Goals as goal

pub returns : goal.returns
returns c = reads-back c.one_reading.ensures c.one_reading-2.ensures c.documents_are_forests.ensures c.plain_documents_are_spelled.ensures.root
