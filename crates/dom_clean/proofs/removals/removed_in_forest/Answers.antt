use Rattle.std.proofs.Common.{◌++◌, ◌∙◌, ap, map}
use Rattle.dom_clean.specs.Policies.{policy_of}
use Rattle.dom_clean.specs.Removals.{ahead_removed, removal_of}
use Rattle.dom_clean.proofs.Removing.{starts}
use Rattle.dom_clean.proofs.removals.removed_in_forest.Goals as goal

pub loop-entry-init : goal.loop-entry-init
loop-entry-init c =
    let forest = c.args.tree.now in
    let P = policy_of c.args.lists.now in
    let start = starts P forest (c.trees_of_a_forest.ensures forest c.requires) (c.lines_of_a_forest.ensures forest c.requires) c.first_below-first.result c.args.id.now c.in_body.result c.new-ahead.result c.push_row.new.ahead
    c.first_below-first.ensures c.in_body.ensures c.new-ahead.ensures c.in_ok-push_row.ensures in
    record { known = start.0; whole = ap (λ l. map removal_of l ++ ahead_removed P forest c.push_row.new.ahead) c.new-made.ensures.items ∙ start.1 }
