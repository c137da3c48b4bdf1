use Rattle.page_trees.proofs.BuiltStacks.{built_as, popped_one}
use Rattle.page_trees.proofs.NumberedNames.{popped_numbered}
use Rattle.page_trees.proofs.growing.GrowingTree.pop.Goals as goal

pub returns : goal.returns
returns c t b =
    built_as _ _ t _ _ c.take.ensures.rest b (popped_one t _ _ _ c.take.ensures.stack c.take.ensures.none b.stack)
    (popped_numbered _ _ _ _ _ c.take.ensures.stack b.numbered)
