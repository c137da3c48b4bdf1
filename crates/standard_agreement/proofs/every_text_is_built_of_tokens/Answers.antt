use Rattle.standard_agreement.proofs.TextsRead.{every_fragment_is_built, every_text_is_built}
use Rattle.standard_agreement.proofs.every_text_is_built_of_tokens.Goals as goal

pub returns-clause-document : goal.returns-clause-document
returns-clause-document c = every_text_is_built

pub returns-clause-fragment : goal.returns-clause-fragment
returns-clause-fragment c = every_fragment_is_built
