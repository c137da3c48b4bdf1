use Rattle.std.proofs.Common.{◌∙◌, string_bytes}
use Rattle.dom_clean.proofs.Results.{on_ok_both}
use Rattle.dom_clean.specs.Policies.{policy_of}
use Rattle.dom_clean.proofs.Writing.{node-written}
use Rattle.dom_clean.proofs.writer.write_node.Goals as goal

pub returns : goal.returns
returns c =
    let forest = c.args.tree.now in
    let node = c.in-Some.ensures in
    on_ok_both c.push_opening.result
    (λ made front. node-written (policy_of c.args.lists.now) forest (c.trees_of_a_forest.ensures forest c.requires.sound) (c.lines_of_a_forest.ensures forest c.requires.sound)
    c.in_ok-fate.fate c.in-Some.node.now.content c.args.first c.args.place c.args.ahead.now c.push_row.new.ahead c.push_below.new.ahead (string_bytes c.args.output.now.text) _ c.args.output.now.in_front _ c.get.result c.get-2.result
    c.requires.first c.requires.known node.content_is c.in_ok-fate.ensures (c.get.ensures ∙ node.next_is) (c.get-2.ensures ∙ node.first_is)
    c.in_ok-push_row.ensures c.in_ok-push_below.ensures made front)
    c.push_opening.ensures.text c.push_opening.ensures.front
