use Rattle.std.proofs.Common.{◌∙◌, map}
use Rattle.std.proofs.lemmas.Result.{on_ok_weaker}
use Rattle.dom_clean.specs.Policies.{policy_of}
use Rattle.dom_clean.specs.Removals.{removal_of}
use Rattle.dom_clean.proofs.Removing.{node-noted}
use Rattle.dom_clean.proofs.removals.note_node.Goals as goal

pub returns : goal.returns
returns c =
    let forest = c.args.tree.now in
    let node = c.in-Some.ensures in
    on_ok_weaker c.push_removed.result
    (λ made. node-noted (policy_of c.args.lists.now) forest (c.trees_of_a_forest.ensures forest c.requires.sound) (c.lines_of_a_forest.ensures forest c.requires.sound)
    c.in_ok-fate.fate c.in-Some.node.now.content c.args.row.0 c.args.row.1 c.args.ahead.now c.push_row.new.ahead c.push_below.new.ahead (map removal_of c.args.made.now.items) _ c.get.result c.get-2.result
    c.requires.first c.requires.known node.content_is c.in_ok-fate.ensures (c.get.ensures ∙ node.next_is) (c.get-2.ensures ∙ node.first_is)
    c.in_ok-push_row.ensures c.in_ok-push_below.ensures made)
    c.push_removed.ensures
