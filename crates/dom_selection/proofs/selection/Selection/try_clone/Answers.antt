use Rattle.std.proofs.Common.{◌∙◌, sym, subst}
use Rattle.dom_selection.specs.Selections.{HasOneTree}
use Rattle.dom_selection.proofs.selection.Selection.try_clone.Goals as goal

pub of_one_tree-requires : goal.of_one_tree-requires
of_one_tree-requires c = subst HasOneTree (sym (c.in_ok-nodes.ensures ∙ c.nodes.ensures.nodes)) c.nodes.ensures.one_tree
