use Rattle.std.proofs.Common.{subst, List}
use Rattle.dom_trees.specs.declared.node_ref.NodeRef.{NodeRef}
use Rattle.dom_select.specs.Meaning.{MatchesNode}
use Rattle.dom_select.specs.Selected.{FiltersTo}
use Rattle.dom_selection.specs.Selecting.{Keeps}
use Rattle.dom_query.proofs.QueryLemmas.{numbers-of, keeps-numbers}
use Rattle.dom_query.proofs.runner.query.filter.Goals as goal

pub returns : goal.returns
returns c =
    let found = subst (λ (nodes : List NodeRef). Keeps c.args.matcher.now nodes c.in_ok-kept.kept) c.in_ok-from.ensures c.in_ok-kept.ensures in
    numbers-of (FiltersTo (MatchesNode c.args.matcher.now c.args.tree.now) c.args.selection.now) c.ids.result _ c.ids.ensures (keeps-numbers c.args.matcher.now c.args.tree c.args.selection.now c.in_ok-kept.kept found)
