use Rattle.std.proofs.Common.{◌∙◌, ◌+◌, Some, [], sym, ap, subst, List, ◌≡◌, drop}
use Rattle.std.specs.List.{flat_map}
use Rattle.std.specs.Borrow.{Bor}
use Rattle.dom_links.specs.Forest.{Forest}
use Rattle.dom_links.specs.Sound.{IsForest}
use Rattle.dom_trees.specs.declared.node_ref.NodeRef.{NodeRef}
use Rattle.dom_trees.specs.Views.{refs_to}
use Rattle.dom_select.specs.Selected.{first_occurrences}
use Rattle.dom_selection.specs.Selections.{ids_of}
use Rattle.dom_selection.specs.Steps.{related_by}
use Rattle.dom_selection.proofs.AboveLemmas.{closed_on, closed_start}
use Rattle.dom_selection.proofs.GatherLemmas.{goes_on_from, goes_start, left_from, met_all, gathered_in}
use Rattle.dom_selection.proofs.SelectionLemmas.{one_tree_of}
use Rattle.dom_selection.proofs.selection.Selection.gather.Goals as goal

pub loop-node-init : goal.loop-node-init
loop-node-init c = (closed_start c.args.step c.new-gathered.result c.new-gathered.ensures.met, goes_start c.new-gathered.result _)

pub gather_related-requires : goal.gather_related-requires
gather_related-requires c = c.loop-node.invariant.0

good : (c : goal.In_ok-gather_related) → IsForest c.loop-node.gathered.tree.now
good c =
    subst (λ (t : Bor Forest). IsForest t.now) (sym (c.loop-node.invariant.1.1.tree ∙ c.new-gathered.ensures.tree))
    (subst IsForest c.nodes-nodes.ensures.value c.nodes-nodes.ensures.sound.forest)

pub loop-node-preserved : goal.loop-node-preserved
loop-node-preserved c = (
  closed_on c.args.step c.new-gathered.result c.loop-node.gathered c.gather_related.new.self _ _ c.node-item.result.id (good c) c.new-gathered.ensures.met c.loop-node.invariant.1 c.loop-node.invariant.0 c.in_ok-gather_related.ensures,
  goes_on_from c.new-gathered.result c.loop-node.gathered c.gather_related.new.self (related_by c.args.step) _
      (drop c.loop-node.node-index c.nodes-node-items.result.now) (drop (c.loop-node.node-index + 1) c.nodes-node-items.result.now) c.node-item.result
      c.loop-node.invariant.1 (left_from c.nodes-node-items.result.now c.loop-node.node-index c.node-item.result c.loop-node-test.true c.node-item.is) c.in_ok-gather_related.ensures,
)

pub of_one_tree-requires : goal.of_one_tree-requires
of_one_tree-requires c =
    one_tree_of _ _ _ (met_all c.new-gathered.result c.loop-node.gathered (related_by c.args.step) c.nodes-node-items.result.now c.loop-node.node-index c.new-gathered.ensures.met c.loop-node-test.false c.loop-node.invariant.1)

pub returns : goal.returns
returns c =
    c.of_one_tree.ensures
    ∙ gathered_in c.args.self.now c.loop-node.gathered.nodes.items (related_by c.args.step) c.new-gathered.result.tree (sym c.in-Some.ensures.tree ∙ ap Some (sym c.new-gathered.ensures.tree))
    (subst (λ (ns : List NodeRef). c.loop-node.gathered.nodes.items ≡ refs_to c.new-gathered.result.tree (first_occurrences [] (flat_map (related_by c.args.step c.new-gathered.result.tree.now) (ids_of ns)))) c.nodes-node-items.ensures.nodes
    (met_all c.new-gathered.result c.loop-node.gathered (related_by c.args.step) c.nodes-node-items.result.now c.loop-node.node-index c.new-gathered.ensures.met c.loop-node-test.false c.loop-node.invariant.1))
