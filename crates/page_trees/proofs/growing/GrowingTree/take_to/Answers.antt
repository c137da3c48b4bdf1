use Rattle.std.proofs.Common.{refl, sym, ◌∙◌}
use Rattle.page_trees.specs.Scopes.{has_name}
use Rattle.page_trees.proofs.BuiltStacks.{restacked_again}
use Rattle.page_trees.proofs.PoppingLemmas.{ended_by, passed_by}
use Rattle.page_trees.proofs.growing.GrowingTree.take_to.Goals as goal

pub returns-then-is_html : goal.returns-then-is_html
returns-then-is_html c =
    restacked_again c.args.self.now c.loop-open.self c.take.new.self _ c.loop-open.invariant.rest c.take.ensures.rest
    (ended_by (has_name c.args.name) _ _ _ c.in-Some.ensures.stack (sym c.is_html.ensures ∙ c.if-is_html.true) ∙ c.loop-open.invariant.stack)

pub loop-open-preserved : goal.loop-open-preserved
loop-open-preserved c = record {
  stack = passed_by (has_name c.args.name) _ _ _ c.in-Some.ensures.stack (sym c.is_html.ensures ∙ c.if-is_html.false) ∙ c.loop-open.invariant.stack;
  rest = restacked_again c.args.self.now c.loop-open.self c.take.new.self _ c.loop-open.invariant.rest c.take.ensures.rest refl;
}
