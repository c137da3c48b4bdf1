use Rattle.standard_laws.proofs.ParsedExamples.{implied_tags, text_states}
use Rattle.standard_laws.proofs.parsing.examples.Goals as goal

pub returns-clause-implied : goal.returns-clause-implied
returns-clause-implied c = implied_tags

pub returns-clause-texts : goal.returns-clause-texts
returns-clause-texts c = text_states
