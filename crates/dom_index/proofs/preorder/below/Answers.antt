use Rattle.std.proofs.Common.{arith}
use Rattle.std.proofs.lemmas.Grind.{common_steps, elements}
use Rattle.dom_index.proofs.preorder.below.Goals as goal

pub slice_bounds-result-count : goal.slice_bounds-result-count
slice_bounds-result-count c = grind (arith, elements)

pub slice_bounds-result-start : goal.slice_bounds-result-start
slice_bounds-result-start c = grind (arith, elements)

pub slice_bounds-result-end-2 : goal.slice_bounds-result-end-2
slice_bounds-result-end-2 c = grind (arith, elements)

pub returns : goal.returns
returns c = grind (arith, common_steps)
