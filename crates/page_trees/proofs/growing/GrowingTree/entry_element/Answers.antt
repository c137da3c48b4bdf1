use Rattle.std.proofs.Common.{subst}
use Rattle.std.specs.Prelude.{IfSome}
use Rattle.page_trees.specs.Elements.{IsElement}
use Rattle.page_trees.specs.TreeState.{TreeState}
use Rattle.page_trees.proofs.ReopenedElements.{entry_stays}
use Rattle.page_trees.proofs.growing.GrowingTree.entry_element.Goals as goal

pub returns-clause-element : goal.returns-clause-element
returns-clause-element c =
    subst (λ (s : TreeState). IfSome c.element_at.result (λ o. IsElement s.forest o.id)) c.self.view_is
    (entry_stays c.self.inside.tree c.self.inside.formatting.entries c.args.index c.element_at.result c.self.invariant.0.formatting c.element_at.ensures)
