use Rattle.std.proofs.Common.{◌≡◌, List, length, arith, sym, subst, ◌∙◌}
use Rattle.std.proofs.lemmas.Grind.{common_steps}
use Rattle.std.proofs.lemmas.List.{with_items_is}
use Rattle.dom_nodes.specs.declared.node_data.TreeNode.{TreeNode}
use Rattle.dom_links.specs.Forest.{forest_of}
use Rattle.dom_links.specs.declared.gap.InsertionPoint.TheVariants.{Before}
use Rattle.dom_links.specs.declared.gap.MovedNodes.TheVariants.{Node}
use Rattle.dom_links.specs.Sound.{IsSoundArena}
use Rattle.dom_trees.specs.Edits.{MayMove}
use Rattle.dom_trees.proofs.Whole.{replaced_sound}
use Rattle.dom_trees.proofs.tree.Tree.replace_with.Goals as goal

pub invariant_of-self : goal.invariant_of-self
invariant_of-self c =
    let same : length c.replace_with.new.nodes ≡ length c.deref_mut.result.now = omega arith in
    let long : length c.replace_with.new.nodes ≡ c.self.inside.nodes.len = same ∙ c.deref_mut.ensures.len in
    let lent = sym c.deref_mut.ensures.value in
    let may = subst (λ (nodes : List TreeNode). MayMove (Before c.args.id.now) (Node c.args.new_node.now) (forest_of nodes)) (c.deref.ensures.value ∙ lent) c.in_ok-check_move.ensures in
    subst IsSoundArena (sym (with_items_is c.self.inside.nodes c.replace_with.new.nodes long))
    (replaced_sound c.deref_mut.result.now c.replace_with.new.nodes c.args.id.now c.args.new_node.now (subst IsSoundArena lent c.self.invariant) may c.replace_with.ensures same)

pub replace_with-requires-clause-target_known : goal.replace_with-requires-clause-target_known
replace_with-requires-clause-target_known c = grind (arith, common_steps)

pub replace_with-requires-clause-known : goal.replace_with-requires-clause-known
replace_with-requires-clause-known c = grind (arith, common_steps)

pub returns : goal.returns
returns c = grind (arith, common_steps)
