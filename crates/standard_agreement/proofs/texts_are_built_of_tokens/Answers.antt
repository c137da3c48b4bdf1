use Rattle.standard_agreement.proofs.OwnAnswers.{documents_built, fragments_built}
use Rattle.standard_agreement.proofs.texts_are_built_of_tokens.Goals as goal

pub returns-clause-document : goal.returns-clause-document
returns-clause-document c = documents_built

pub returns-clause-fragment : goal.returns-clause-fragment
returns-clause-fragment c = fragments_built
