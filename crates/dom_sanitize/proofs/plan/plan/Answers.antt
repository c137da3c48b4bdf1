use Rattle.std.proofs.Common.{◌++◌, ap, ◌∙◌}
use Rattle.dom_sanitize.specs.Clean.{lists_of}
use Rattle.dom_sanitize.specs.Plan.{rows_plan}
use Rattle.dom_sanitize.proofs.Rows.{rows_start}
use Rattle.dom_sanitize.proofs.plan.plan.Goals as goal

pub loop-row-init : goal.loop-row-init
loop-row-init c =
    let forest = c.args.tree.now in
    let start = rows_start (lists_of c.args.allow.now) forest (c.trees_of_a_forest.ensures forest c.requires) (c.lines_of_a_forest.ensures forest c.requires) c.first_below-first.result c.root_id-root.result c.new-rows.result c.push_row.new.rows
    c.first_below-first.ensures c.root_id-root.ensures c.new-rows.ensures c.in_ok-push_row.ensures in
    record { within = start.0; whole = ap (λ ss. ss ++ rows_plan (lists_of c.args.allow.now) forest c.push_row.new.rows) c.new-steps.ensures.items ∙ start.1 }
