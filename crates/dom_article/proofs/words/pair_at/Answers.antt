use Rattle.dom_article.specs.Words.{table}
use Rattle.dom_article.proofs.words.pair_at.Goals as goal

pub returns-clause-is : goal.returns-clause-is
unfolding table
returns-clause-is c = c.pair_in.ensures.is
