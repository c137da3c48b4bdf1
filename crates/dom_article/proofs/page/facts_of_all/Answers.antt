use Rattle.dom_article.proofs.KnownLemmas.{facts_known}
use Rattle.dom_article.proofs.page.facts_of_all.Goals as goal

pub returns : goal.returns
returns c = facts_known c.args.tree.now c.in_ok-facts.facts.items _ c.in_ok-facts.ensures c.hold_all.ensures.kept c.hold_all.ensures.held
