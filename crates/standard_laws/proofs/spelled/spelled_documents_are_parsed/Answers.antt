use Rattle.standard_laws.proofs.SpelledParsed.{documents_parsed}
use Rattle.standard_laws.proofs.spelled.spelled_documents_are_parsed.Goals as goal

pub returns : goal.returns
returns c = documents_parsed c.one_parse.ensures.documents
