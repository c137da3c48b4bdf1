use Rattle.std.proofs.Common.{subst, List}
use Rattle.dom_trees.specs.declared.node_ref.NodeRef.{NodeRef}
use Rattle.dom_query.specs.Queries.{Added}
use Rattle.dom_selection.specs.Selecting.{Adds}
use Rattle.dom_query.proofs.QueryLemmas.{numbers-of, adds-numbers}
use Rattle.dom_query.proofs.runner.query.add.Goals as goal

pub returns : goal.returns
returns c =
    let found = subst (λ (nodes : List NodeRef). Adds c.args.matcher.now nodes c.in_ok-all.all) c.in_ok-from.ensures c.in_ok-all.ensures in
    numbers-of (Added c.args.tree.now c.args.selection.now c.args.matcher.now) c.ids.result _ c.ids.ensures (adds-numbers c.args.matcher.now c.args.tree c.args.selection.now c.in_ok-all.all found)
