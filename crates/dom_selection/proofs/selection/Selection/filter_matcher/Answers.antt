use Rattle.std.proofs.Common.{◌+◌, ap, drop, sym, subst, List}
use Rattle.dom_trees.specs.declared.node_ref.NodeRef.{NodeRef}
use Rattle.std.proofs.lemmas.List.{drop_all}
use Rattle.std.specs.Prelude.{MatchBool}
use Rattle.dom_select.specs.Meaning.{MatchesNode}
use Rattle.dom_selection.specs.Selecting.{Keeps}
use Rattle.dom_selection.specs.Selections.{ids_of}
use Rattle.dom_selection.proofs.GatherLemmas.{left_from}
use Rattle.dom_selection.proofs.SelectLemmas.{KeptSoFar, keep_one, keeps_all, kept_tree}
use Rattle.dom_selection.proofs.selection.Selection.filter_matcher.Goals as goal

pub loop-node-preserved : goal.loop-node-preserved
loop-node-preserved c =
    let items = c.nodes-node-items.result.now in
    let i = c.loop-node.node-index in
    subst (λ (ns : List NodeRef). KeptSoFar c.args.matcher.now c.args.self.now ns (drop (i + 1) items)) (sym c.in_ok-push_if.ensures)
    (keep_one c.args.matcher.now c.args.self.now c.loop-node.kept.items (drop (i + 1) items) (drop i items) c.in-Some.tree c.node-item.result.id c.new-node.result c.match_element.result
    (sym c.in-Some.ensures.tree) c.new-node.ensures (ap ids_of (left_from items i c.node-item.result c.loop-node-test.true c.node-item.is))
    (subst (λ (n : NodeRef). MatchBool c.match_element.result (MatchesNode c.args.matcher.now n.tree.now n.id) (MatchesNode c.args.matcher.now n.tree.now n.id → ⊥)) c.new-node.ensures c.match_element.ensures) c.loop-node.invariant)

pub of_one_tree-requires : goal.of_one_tree-requires
of_one_tree-requires c = kept_tree c.args.matcher.now c.args.self.now c.loop-node.kept.items (drop c.loop-node.node-index c.nodes-node-items.result.now) c.loop-node.invariant

pub returns : goal.returns
returns c =
    subst (Keeps c.args.matcher.now c.args.self.now) (sym c.of_one_tree.ensures)
    (keeps_all c.args.matcher.now c.args.self.now c.loop-node.kept.items c.in-Some.tree (sym c.in-Some.ensures.tree)
    (subst (KeptSoFar c.args.matcher.now c.args.self.now c.loop-node.kept.items) (drop_all c.loop-node.node-index c.nodes-node-items.result.now c.loop-node-test.false) c.loop-node.invariant))
