use Rattle.std.proofs.Common.{subst, sym}
use Rattle.page_trees.specs.Elements.{IsElement}
use Rattle.page_trees.specs.TreeState.{TreeState}
use Rattle.page_trees.proofs.HeldNumbers.{entries_inserted}
use Rattle.page_trees.proofs.growing.GrowingTree.insert_entry.Goals as goal

pub invariant_of-self : goal.invariant_of-self
invariant_of-self c =
    let element = subst (λ (s : TreeState). IsElement s.forest c.args.element.now.id) (sym c.self.view_is) c.requires in
    (entries_inserted _ _ _ _ _ _ _ _ _ _ c.self.invariant.0 element c.insert.ensures.ok c.insert.ensures.err c.insert.ensures.likes, c.self.invariant.1)
