use Rattle.std.proofs.Common.{subst}
use Rattle.dom_links.specs.Sound.{IsForest}
use Rattle.dom_query.proofs.runner.cleaning.clean_by.Goals as goal

pub returns-clause-ok : goal.returns-clause-ok
returns-clause-ok c = record {
  was = subst IsForest c.nodes.ensures.value c.nodes.ensures.sound.forest;
  is = subst IsForest c.nodes-2.ensures.value c.nodes-2.ensures.sound.forest;
  cleaned = c.in_ok-sanitize_tree.ensures.ok;
}
