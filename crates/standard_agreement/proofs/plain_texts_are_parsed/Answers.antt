use Rattle.standard_agreement.proofs.Texts.{fragments_parsed, pages_parsed}
use Rattle.standard_agreement.proofs.plain_texts_are_parsed.Goals as goal

pub returns-clause-page : goal.returns-clause-page
returns-clause-page c = pages_parsed c.plain_pages.ensures.read

pub returns-clause-fragment : goal.returns-clause-fragment
returns-clause-fragment c = fragments_parsed c.plain_pages.ensures.read
