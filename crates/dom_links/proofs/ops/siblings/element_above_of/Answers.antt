use Rattle.std.proofs.Common.{◌∙◌, ap, sym, ◌≡◌, ◌<◌, Some, length, arith, get_or}
use Rattle.dom_nodes.specs.declared.node_data.TreeNode.{TreeNode}
use Rattle.dom_nodes.specs.Kinds.{is_element}
use Rattle.dom_links.specs.Forest.{forest_of, parent}
use Rattle.dom_links.specs.ListMoves.{element_at}
use Rattle.dom_links.proofs.moves.Attach.{read_parent}
use Rattle.dom_links.proofs.forest.Changing.{element_here}
use Rattle.dom_links.proofs.moves.Cuts.{parent_known}
use Rattle.dom_links.proofs.moves.TwoSteps.{element_named, no_element}
use Rattle.dom_links.proofs.ops.siblings.element_above_of.Goals.{After-value-2}
use Rattle.dom_links.proofs.ops.siblings.element_above_of.Goals as goal

above : (c : After-value-2) → parent (forest_of c.args.nodes.now) c.args.n ≡ Some c.in_ok-parent.parent
above c =
    sym (read_parent (forest_of c.args.nodes.now) c.args.nodes.now c.value.result c.args.n c.index-nodes-value.result c.requires.linked c.requires.known c.value.ensures.number)
    ∙ sym c.get.ensures ∙ c.in_ok-parent.was

known : (c : After-value-2) → c.in_ok-parent.parent < length c.args.nodes.now
known c = parent_known (forest_of c.args.nodes.now) c.args.nodes.now c.args.n (Some c.in_ok-parent.parent) c.requires.linked c.requires.known (sym (above c))

here : (c : After-value-2) (d : TreeNode) → element_at (forest_of c.args.nodes.now) c.in_ok-parent.parent ≡ is_element (get_or c.args.nodes.now c.value-2.result d).content
here c d =
    let inside = known c in
    element_here c.args.nodes.now c.value-2.result c.in_ok-parent.parent d c.requires.linked (omega (arith, c.value-2.ensures.number)) c.value-2.ensures.number

pub bounds-nodes-value-3 : goal.bounds-nodes-value-3
bounds-nodes-value-3 c = let inside = known c in omega (arith, c.value-2.ensures.number)

pub returns-then-is_element : goal.returns-then-is_element
returns-then-is_element c =
    let at = (goal.at.returns-then-is_element c).After-value-2 in
    sym (element_named (forest_of c.args.nodes.now) c.args.n c.in_ok-parent.parent (above at)
    (here at c.index-nodes-value-2.result ∙ ap (λ (node : TreeNode). is_element node.content) (sym c.index-nodes-value-2.is) ∙ sym c.is_element.ensures ∙ c.if-is_element.true))

pub returns-else-is_element : goal.returns-else-is_element
returns-else-is_element c =
    let at = (goal.at.returns-else-is_element c).After-value-2 in
    sym (no_element (forest_of c.args.nodes.now) c.args.n c.in_ok-parent.parent (above at)
    (here at c.index-nodes-value-2.result ∙ ap (λ (node : TreeNode). is_element node.content) (sym c.index-nodes-value-2.is) ∙ sym c.is_element.ensures ∙ c.if-is_element.false))
