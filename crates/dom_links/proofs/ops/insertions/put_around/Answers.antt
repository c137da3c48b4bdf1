use Rattle.std.proofs.Common.{◌∙◌, ◌<◌, arith, length, sym}
use Rattle.dom_links.specs.Forest.{forest_of}
use Rattle.dom_links.proofs.moves.Cuts.{length-contents}
use Rattle.dom_links.proofs.moves.BlockMoves.{IsRun, is_run}
use Rattle.dom_links.proofs.copies.Inserting.{first_apart, round_first, round_none, round_other}
use Rattle.dom_links.proofs.forest.Neighbours.{first-stands}
use Rattle.dom_links.proofs.ops.insertions.put_around.Goals.{In-Some}
use Rattle.dom_links.proofs.ops.insertions.put_around.Goals as goal

run : (c : In-Some) → IsRun c.args.nodes.now c.gather.new.nodes c.args.new.now c.in-Some.start
run c = is_run c.args.nodes.now c.gather.new.nodes c.args.new.now c.in-Some.start c.requires.linked c.requires.new c.gather.ensures.arena (sym c.gather.ensures.start ∙ c.in-Some.is)

known : (c : In-Some) → c.in-Some.start < length c.gather.new.nodes
known c =
    let long = length-contents (forest_of c.args.nodes.now) c.args.nodes.now c.requires.linked.links in
    let known = c.requires.new.known c.in-Some.start (first-stands c.args.new.now c.in-Some.start (sym c.gather.ensures.start ∙ c.in-Some.is)) in
    omega (arith, long, known, c.gather.auto.nodes)

pub returns-in_default : goal.returns-in_default
returns-in_default c = round_none c.args.nodes.now c.gather.new.nodes c.args.x c.args.new.now c.requires.new c.gather.ensures.arena (sym c.gather.ensures.start ∙ c.in_default.is)

pub is_element-requires-clause-linked : goal.is_element-requires-clause-linked
is_element-requires-clause-linked c = IsRun.linked (run (goal.at.is_element-requires-clause-linked c).In-Some)

pub is_element-requires-clause-known : goal.is_element-requires-clause-known
is_element-requires-clause-known c = known (goal.at.is_element-requires-clause-known c).In-Some

pub wrap_node-requires-clause-linked : goal.wrap_node-requires-clause-linked
wrap_node-requires-clause-linked c = IsRun.linked (run (goal.at.wrap_node-requires-clause-linked c).In-Some)

pub wrap_node-requires-clause-wrapper_known : goal.wrap_node-requires-clause-wrapper_known
wrap_node-requires-clause-wrapper_known c = known (goal.at.wrap_node-requires-clause-wrapper_known c).In-Some

pub wrap_node-requires-clause-apart : goal.wrap_node-requires-clause-apart
wrap_node-requires-clause-apart c = first_apart c.args.x c.in-Some.start c.args.new.now (sym c.gather.ensures.start ∙ c.in-Some.is) c.requires.apart

pub returns-then-is_element : goal.returns-then-is_element
returns-then-is_element c =
    round_first c.args.nodes.now c.gather.new.nodes c.wrap_node.new.nodes c.args.x c.in-Some.start c.args.new.now c.requires.new
    (run (goal.at.returns-then-is_element c).In-Some)
    (sym c.gather.ensures.start ∙ c.in-Some.is) (sym c.is_element.ensures ∙ c.if-is_element.true) c.wrap_node.ensures

pub returns-else-is_element : goal.returns-else-is_element
returns-else-is_element c =
    round_other c.args.nodes.now c.gather.new.nodes c.args.x c.in-Some.start c.args.new.now c.requires.new
    (run (goal.at.returns-else-is_element c).In-Some)
    (sym c.gather.ensures.start ∙ c.in-Some.is) (sym c.is_element.ensures ∙ c.if-is_element.false)
