use Rattle.standard_laws.proofs.CalmPageSpelled.{calm_pages_parsed, calm_pages_spelled}
use Rattle.standard_laws.proofs.CalmStands.{calm_pages_documents}
use Rattle.standard_laws.proofs.spelled.calm_pages_are_parsed.Goals as goal

pub returns-clause-spelled : goal.returns-clause-spelled
returns-clause-spelled c = calm_pages_spelled

pub returns-clause-parsed : goal.returns-clause-parsed
returns-clause-parsed c = calm_pages_parsed c.one_parse.ensures.documents

pub returns-clause-documents : goal.returns-clause-documents
returns-clause-documents c = calm_pages_documents c.one_parse.ensures.documents
