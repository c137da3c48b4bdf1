use Rattle.std.proofs.Common.{List, ℕ, subst, sym, ◌∙◌}
use Rattle.dom_trees.specs.declared.node_ref.NodeRef.{NodeRef}
use Rattle.dom_index.specs.Index.{Finds}
use Rattle.dom_selection.specs.Selecting.{Selects}
use Rattle.dom_selection.specs.Selections.{ids_of}
use Rattle.dom_selection.proofs.SelectLemmas.{found_selects, found_tree}
use Rattle.dom_selection.proofs.selection.Selection.select_matcher.Goals as goal

pub of_one_tree-requires : goal.of_one_tree-requires
of_one_tree-requires c = found_tree c.in-Some.tree c.deref.result.now c.args.matcher.now c.in_ok-found.found.items c.in_ok-found.ensures

pub returns : goal.returns
returns c =
    let finds : Finds c.in-Some.tree (ids_of c.args.self.now) c.args.matcher.now c.in_ok-found.found.items =
    subst (λ (ns : List ℕ). Finds c.in-Some.tree ns c.args.matcher.now c.in_ok-found.found.items) (c.deref.ensures.value ∙ c.in_ok-roots.ensures) c.in_ok-found.ensures in
    subst (λ (nodes : List NodeRef). Selects c.args.matcher.now c.args.self.now nodes) (sym c.of_one_tree.ensures) (found_selects c.args.matcher.now c.args.self.now c.in-Some.tree c.in_ok-found.found.items (sym c.in-Some.ensures.tree) finds)
