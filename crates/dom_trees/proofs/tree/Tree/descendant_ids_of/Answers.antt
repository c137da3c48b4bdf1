use Rattle.std.proofs.Common.{◌∙◌}
use Rattle.dom_links.proofs.walks.GivenNodes.{collected_nodes}
use Rattle.dom_trees.proofs.tree.Tree.descendant_ids_of.Goals as goal

pub returns : goal.returns
returns c =
    let ran = c.in_ok-collect.ensures.ran in
    ran.2.0 ∙ collected_nodes c.descendant_ids_of_it.result ran.0 ran.1 ∙ c.descendant_ids_of_it.ensures.all
