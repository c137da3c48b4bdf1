use Rattle.std.proofs.Common.{subst, sym}
use Rattle.standard_trees.specs.NameLists.{headings}
use Rattle.page_trees.specs.Stands.{Builds}
use Rattle.page_trees.proofs.BuiltStacks.{is_popped, not_popped}
use Rattle.page_trees.proofs.ClosedElements.{heading_tells}
use Rattle.page_trees.proofs.growing.GrowingTree.pop_heading.Goals as goal

pub returns-then-current_is_heading : goal.returns-then-current_is_heading
returns-then-current_is_heading c t b =
    let same = heading_tells _ _ t c.self.view_is b _ c.current_is_heading.ensures in
    subst (Builds c.pop.new.self) (sym (is_popped headings t _ c.if-current_is_heading.true same)) (c.pop.ensures t b)

pub returns-else-current_is_heading : goal.returns-else-current_is_heading
returns-else-current_is_heading c t b =
    let same = heading_tells _ _ t c.self.view_is b _ c.current_is_heading.ensures in
    subst (Builds c.args.self.now) (sym (not_popped headings t _ c.if-current_is_heading.false same)) b
