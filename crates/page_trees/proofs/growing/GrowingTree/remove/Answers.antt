use Rattle.std.proofs.Common.{◌∙◌}
use Rattle.page_trees.proofs.TakenOut.{unstacks_found, unstacks_none}
use Rattle.page_trees.proofs.growing.GrowingTree.remove.Goals as goal

pub returns-in-Some-clause-rule : goal.returns-in-Some-clause-rule
returns-in-Some-clause-rule c =
    unstacks_found c.args.self.now _ c.mark.new.self c.args.element.now c.in-Some.place c.place_of.result c.self.invariant.0.order c.self.view_is
    (c.place_of.ensures c.self.invariant.1) c.in-Some.is (c.mark.ensures ∙ c.remove_at.ensures)

pub returns-in_default-clause-rule : goal.returns-in_default-clause-rule
returns-in_default-clause-rule c =
    unstacks_none c.args.self.now _ c.args.element.now c.place_of.result c.self.view_is (c.place_of.ensures c.self.invariant.1) c.in_default.is
