use Rattle.std.proofs.Common.{false, sym, ap, ◌∙◌, find}
use Rattle.dom_links.specs.Forest.{forest_of}
use Rattle.dom_links.specs.ListMoves.{element_at}
use Rattle.dom_links.proofs.walks.Later.{Follows, follows}
use Rattle.dom_links.proofs.ops.TreeNodeOps.next_element_sibling_of.Goals as goal

pub first_element_on-requires-clause-within : goal.first_element_on-requires-clause-within
first_element_on-requires-clause-within c = Follows.within (follows (forest_of c.args.nodes.now) false c.args.id.now c.next_sibling_id.result c.requires.forest c.next_sibling_id.ensures)

pub returns : goal.returns
returns c =
    c.first_element_on.ensures ∙ sym (ap (find (element_at (forest_of c.args.nodes.now))) (Follows.rest (follows (forest_of c.args.nodes.now) false c.args.id.now c.next_sibling_id.result c.requires.forest c.next_sibling_id.ensures)))
