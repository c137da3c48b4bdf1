use Rattle.std.proofs.Common.{sym, ap, get_or, ◌∙◌}
use Rattle.dom_links.specs.Forest.{forest_of}
use Rattle.dom_links.proofs.forest.Climbs.{leaf_reaches_none}
use Rattle.dom_links.proofs.ops.placing.is_leaf.Goals as goal

pub returns : goal.returns
returns c _ n way =
    leaf_reaches_none (forest_of c.args.nodes.now) c.args.nodes.now c.args.x n c.index-nodes-value.result c.requires.linked c.requires.known
    (c.index-nodes-value.is ∙ ap (λ i. get_or c.args.nodes.now i c.index-nodes-value.result) c.value.ensures.number)
    (sym c.get.ensures ∙ c.in-None.is) (sym c.template_contents.ensures ∙ c.in-None-template_contents.is) way
