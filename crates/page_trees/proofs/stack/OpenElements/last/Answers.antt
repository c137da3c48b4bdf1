use Rattle.std.proofs.Common.{arith, sym, ◌∙◌}
use Rattle.page_trees.specs.SearchIndex.{is_sought}
use Rattle.page_trees.proofs.PoppingLemmas.{front_shorter}
use Rattle.page_trees.proofs.ScopeLemmas.{ends_here, goes_below}
use Rattle.page_trees.proofs.StackSearches.{below_still, index_decides}
use Rattle.page_trees.proofs.stack.OpenElements.last.Goals as goal

pub returns-then-is : goal.returns-then-is
returns-then-is c is = ends_here (is_sought c.args.sought) _ _ _ c.in-Some.ensures.cases.0 (sym c.is.ensures ∙ c.if-is.true) ∙ c.loop-rest.invariant.value

pub loop-rest-preserved : goal.loop-rest-preserved
loop-rest-preserved c = record {
  front = front_shorter _ _ _ _ c.in-Some.ensures.cases.0 c.loop-rest.invariant.front;
  enough = λ _. below_still _ _ _ _ c.in-Some.ensures.cases.0 (omega arith);
  value = goes_below (is_sought c.args.sought) _ _ _ c.in-Some.ensures.cases.0 (sym c.is.ensures ∙ c.if-is.false) ∙ c.loop-rest.invariant.value;
}

pub returns : goal.returns
returns c is = index_decides c.args.self.now.elements.items _ c.args.self.now.marks (is_sought c.args.sought) _ c.loop-rest.invariant.front c.loop-rest.invariant.enough (omega arith) c.loop-rest.invariant.value c.last.ensures is
