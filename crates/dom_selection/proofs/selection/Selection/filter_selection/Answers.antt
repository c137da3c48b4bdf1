use Rattle.std.proofs.Common.{sym, subst}
use Rattle.dom_selection.specs.Selections.{HasOneTree}
use Rattle.dom_selection.proofs.SetLemmas.{is_among, kept_all, one_tree-filter}
use Rattle.dom_selection.proofs.selection.Selection.filter_selection.Goals as goal

pub of_one_tree-requires : goal.of_one_tree-requires
of_one_tree-requires c =
    let all = kept_all (is_among c.args.other.now) c.loop-node.kept.items c.nodes-node-items.result.now _ c.loop-node.node-index c.loop-node-test.false c.loop-node.invariant in
    subst HasOneTree (sym all)
    (one_tree-filter (is_among c.args.other.now) c.nodes-node-items.result.now (subst HasOneTree (sym c.nodes-node-items.ensures.nodes) c.nodes-node-items.ensures.one_tree))
