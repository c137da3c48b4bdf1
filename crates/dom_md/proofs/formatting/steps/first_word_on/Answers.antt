use Rattle.dom_md.proofs.SpacedLemmas.{joined-empty}
use Rattle.dom_md.proofs.formatting.steps.first_word_on.Goals as goal

pub returns-clause-empty : goal.returns-clause-empty
returns-clause-empty c = joined-empty c.args.added.now c.trim_start.result.now c.utf8.added c.trim_start.ensures.trim
