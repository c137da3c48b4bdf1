use Rattle.dom_article.proofs.KnownLemmas.{known_on}
use Rattle.dom_article.proofs.page.facts_of_each.Goals as goal

pub loop-id-preserved : goal.loop-id-preserved
loop-id-preserved c = (
  c.look_at.ensures.kinds,
  c.look_at.ensures.words,
  known_on c.args.tree.now c.args.order.now c.loop-id.facts.items c.look_at.new.facts.items c.loop-id.rest.now c.in-Some.others.now c.in-Some.id.now
      c.forest_laws.ensures.forest c.forest_laws.ensures.lines c.requires c.in-Some.ensures.cases.0 c.loop-id.invariant.2 c.in_ok-look_at.ensures.facts,
)
