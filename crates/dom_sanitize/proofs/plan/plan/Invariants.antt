use Rattle.std.proofs.Common.{◌≡◌, ◌++◌}
use Rattle.dom_links.specs.Forest.{children_of}
use Rattle.dom_links.specs.Trees.{trees}
use Rattle.dom_sanitize.specs.Clean.{lists_of}
use Rattle.dom_sanitize.specs.Plan.{AreRows, planned, rows_plan, rows_weight}
use Rattle.dom_sanitize.proofs.plan.plan.Given as goal

abbrev pub invariant-loop-row : goal.invariant-loop-row
invariant-loop-row l = record {
  within : AreRows l.tree l.rows;
  whole : l.steps.items ++ rows_plan (lists_of l.allow) l.tree l.rows ≡ planned (lists_of l.allow) l.tree 0 (trees l.tree (children_of l.tree 0));
}

abbrev pub decreases-loop-row : goal.decreases-loop-row
decreases-loop-row l = rows_weight l.tree l.rows
