use Rattle.page_trees.specs.Lifts.{all_lifted}
use Rattle.page_trees.proofs.DepthLemmas.{few_told}
use Rattle.page_trees.proofs.depth.limit_depth.Goals as goal

pub returns-in_err-nests_too_deep-clause-lifts : goal.returns-in_err-nests_too_deep-clause-lifts
returns-in_err-nests_too_deep-clause-lifts c = all_lifted

pub returns-then-len-most-clause-nests : goal.returns-then-len-most-clause-nests
returns-then-len-most-clause-nests c = few_told c.args.tree.now _ c.max-most.result c.len.result c.max-most.ensures c.len.ensures c.if-len-most.true

pub returns-then-len-most-clause-lifts : goal.returns-then-len-most-clause-lifts
returns-then-len-most-clause-lifts c = all_lifted

pub returns-then-not-branch-clause-lifts : goal.returns-then-not-branch-clause-lifts
returns-then-not-branch-clause-lifts c = all_lifted
