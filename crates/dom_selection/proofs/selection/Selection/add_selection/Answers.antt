use Rattle.std.proofs.Common.{◌∙◌, ◌++◌, ◌+◌, List, ap, arith, drop, not, sym, subst}
use Rattle.std.proofs.lemmas.Grind.{common_steps}
use Rattle.dom_links.specs.Lists.{is_member, without}
use Rattle.dom_trees.specs.declared.node_ref.NodeRef.{NodeRef}
use Rattle.dom_selection.specs.Selections.{HasOneTree, ids_of, refs_in}
use Rattle.dom_selection.proofs.GatherLemmas.{left_from}
use Rattle.dom_selection.proofs.SetLemmas.{add_step, added_all, one_tree-added}
use Rattle.dom_selection.proofs.selection.Selection.add_selection.Goals as goal

pub loop-node-preserved : goal.loop-node-preserved
loop-node-preserved c =
    let ours = c.args.self.now in
    let items = c.nodes-node-items.result.now in
    let node = c.node-item.result in
    let split = left_from items c.loop-node.node-index node c.loop-node-test.true c.node-item.is in
    let seen = ap not (c.has.ensures ∙ c.in_ok-ours.ensures node.id ∙ ap (λ (ns : List NodeRef). is_member node.id (ids_of ns)) c.nodes.ensures.nodes) in
    ap (λ (ns : List NodeRef). ns ++ refs_in ours (without (ids_of ours) (ids_of (drop (c.loop-node.node-index + 1) items)))) c.in_ok-push_if.ensures
    ∙ add_step ours c.loop-node.all.items c.in-Some.tree c.new.result node.id (ids_of (drop (c.loop-node.node-index + 1) items)) _ (not c.has.result) (sym c.in-Some.ensures.tree) c.new.ensures seen
    (ap (λ (ns : List NodeRef). c.loop-node.all.items ++ refs_in ours (without (ids_of ours) (ids_of ns))) (sym split) ∙ c.loop-node.invariant)

pub of_one_tree-requires : goal.of_one_tree-requires
of_one_tree-requires c =
    let all = added_all c.args.self.now c.loop-node.all.items c.nodes-node-items.result.now _ c.loop-node.node-index c.loop-node-test.false c.loop-node.invariant in
    subst HasOneTree (sym all) (one_tree-added c.args.self.now c.nodes-node-items.result.now c.nodes.ensures.one_tree)

pub returns-in_default : goal.returns-in_default
returns-in_default c = grind (arith, common_steps)
