use Rattle.std.proofs.Common.{refl}
use Rattle.page_trees.proofs.BuiltStacks.{built_as, popped_to}
use Rattle.page_trees.proofs.NumberedNames.{before_numbered}
use Rattle.page_trees.proofs.growing.GrowingTree.pop_to.Goals as goal

pub returns : goal.returns
returns c known t b =
    built_as _ _ t _ _ c.take_to.ensures b (popped_to c.args.name known t _ _ refl b.stack)
    (before_numbered _ _ _ _ b.numbered)
