use Rattle.std.proofs.Common.{ap, arith, length, ◌+◌}
use Rattle.page_trees.specs.TreeState.{TreeState}
use Rattle.page_trees.proofs.ClosedEntries.{halfway_start, halfway_step}
use Rattle.page_trees.proofs.growing.GrowingTree.reconstruct.Goals as goal

pub loop-index-init : goal.loop-index-init
loop-index-init c in_head within t fosters b = halfway_start c.args.placing c.args.self.now c.first_closed-index.result t c.first_closed-index.ensures fosters b

pub loop-index-preserved : goal.loop-index-preserved
loop-index-preserved c in_head within t fosters b =
    halfway_step c.args.placing c.args.self.now c.loop-index.self c.reconstruct_formatting.new.self c.loop-index.index (c.loop-index.index + 1) t
    (c.loop-index.invariant in_head (omega (arith, within, c.in_ok-reconstruct_formatting.ensures.grows)) t fosters b) c.in_ok-reconstruct_formatting.ensures.rule in_head within
    (omega (arith, c.loop-index-test.true, c.len-index-end.ensures, ap (λ (s : TreeState). length s.formatting) c.self.view_is)) (omega arith)
