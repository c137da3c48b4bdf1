use Rattle.std.proofs.Common.{◌∙◌, sym}
use Rattle.dom_article.proofs.FoldLemmas.{pair_is}
use Rattle.dom_article.proofs.words.pair_in.Goals as goal

pub returns-clause-is : goal.returns-clause-is
returns-clause-is c = sym (c.pair_found.ensures.is ∙ pair_is c.args.words.now c.args.at)
