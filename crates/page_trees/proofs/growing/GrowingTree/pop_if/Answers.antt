use Rattle.std.proofs.Common.{[], subst, sym, ◌∷◌}
use Rattle.page_trees.specs.Names.{text_of}
use Rattle.page_trees.specs.Stands.{Builds}
use Rattle.page_trees.proofs.BuiltStacks.{current_tells, is_popped, not_popped}
use Rattle.page_trees.proofs.growing.GrowingTree.pop_if.Goals as goal

pub returns-then-current_is : goal.returns-then-current_is
returns-then-current_is c known t b =
    let same = current_tells _ _ t c.args.name known c.self.view_is b _ c.current_is.ensures in
    subst (Builds c.pop.new.self) (sym (is_popped (text_of c.args.name ∷ []) t _ c.if-current_is.true same)) (c.pop.ensures t b)

pub returns-else-current_is : goal.returns-else-current_is
returns-else-current_is c known t b =
    let same = current_tells _ _ t c.args.name known c.self.view_is b _ c.current_is.ensures in
    subst (Builds c.args.self.now) (sym (not_popped (text_of c.args.name ∷ []) t _ c.if-current_is.false same)) b
