use Rattle.std.proofs.Common.{refl, sym, ◌∙◌}
use Rattle.page_trees.specs.TableSteps.{is_a_cell}
use Rattle.page_trees.proofs.BuiltStacks.{restacked_again}
use Rattle.page_trees.proofs.PoppingLemmas.{ended_by, passed_by}
use Rattle.page_trees.proofs.growing.GrowingTree.take_to_cell.Goals as goal

pub returns-then-is_cell_element : goal.returns-then-is_cell_element
returns-then-is_cell_element c =
    restacked_again c.args.self.now c.loop-open.self c.take.new.self _ c.loop-open.invariant.rest c.take.ensures.rest
    (ended_by is_a_cell _ _ _ c.in-Some.ensures.stack (sym c.is_cell_element.ensures ∙ c.if-is_cell_element.true) ∙ c.loop-open.invariant.stack)

pub loop-open-preserved : goal.loop-open-preserved
loop-open-preserved c = record {
  stack = passed_by is_a_cell _ _ _ c.in-Some.ensures.stack (sym c.is_cell_element.ensures ∙ c.if-is_cell_element.false) ∙ c.loop-open.invariant.stack;
  rest = restacked_again c.args.self.now c.loop-open.self c.take.new.self _ c.loop-open.invariant.rest c.take.ensures.rest refl;
}
