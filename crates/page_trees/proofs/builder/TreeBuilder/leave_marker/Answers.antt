use Rattle.std.proofs.Common.{refl}
use Rattle.page_trees.proofs.BuilderSteps.{entered}
use Rattle.page_trees.proofs.TableRules.{marker_cleared}
use Rattle.page_trees.proofs.builder.TreeBuilder.leave_marker.Goals as goal

pub returns-clause-rule : goal.returns-clause-rule
returns-clause-rule c plain within b stands =
    entered (record c.args.self.now { tree = c.clear_to_marker.new.self }) _ c.args.mode refl plain _
    (marker_cleared c.args.self.now c.clear_to_marker.new.self c.clear_to_marker.ensures.rule b stands)
