use Rattle.std.proofs.Common.{◌∙◌, sym, ap, subst, ◌≡◌, Some, arith}
use Rattle.dom_links.specs.Lists.{is_member}
use Rattle.dom_links.specs.Forest.{forest_of}
use Rattle.dom_links.specs.Moves.{before_node}
use Rattle.dom_links.specs.ListMoves.{MovedList, wrapper}
use Rattle.dom_links.proofs.moves.Cuts.{length-contents}
use Rattle.dom_links.proofs.forest.Depth.{parent_inside}
use Rattle.dom_links.proofs.forest.Places.{siblings_child}
use Rattle.dom_links.proofs.moves.TwoSteps.{IsWrapper, unwraps, wrapper_apart, wrapper_is}
use Rattle.dom_links.proofs.ops.lists.unwrap_node.Goals as goal

pub move_to-requires : goal.move_to-requires
move_to-requires c =
    let long = length-contents (forest_of c.args.nodes.now) c.args.nodes.now c.requires.linked.links in
    let is = wrapper_is (forest_of c.args.nodes.now) c.args.x c.in-Some.parent (sym c.wrapper_of.ensures ∙ c.in-Some.is) in
    let known = parent_inside (forest_of c.args.nodes.now) c.args.x c.in-Some.parent c.requires.forest (IsWrapper.parent_is is) in
    record {
      linked = c.requires.linked;
      target_known = omega arith;
      known = c.requires.known;
      apart = ap (is_member c.in-Some.parent) (siblings_child (forest_of c.args.nodes.now) c.args.x c.in-Some.parent (IsWrapper.parent_is is)) ∙ wrapper_apart (forest_of c.args.nodes.now) c.in-Some.parent c.requires.forest;
    }

pub remove_from_parent-requires-clause-known : goal.remove_from_parent-requires-clause-known
remove_from_parent-requires-clause-known c =
    let long = length-contents (forest_of c.args.nodes.now) c.args.nodes.now c.requires.linked.links in
    let is = wrapper_is (forest_of c.args.nodes.now) c.args.x c.in-Some.parent (sym c.wrapper_of.ensures ∙ c.in-Some.is) in
    let known = parent_inside (forest_of c.args.nodes.now) c.args.x c.in-Some.parent c.requires.forest (IsWrapper.parent_is is) in
    omega arith

pub returns : goal.returns
returns c =
    let some : wrapper (forest_of c.args.nodes.now) c.args.x ≡ Some c.in-Some.parent = sym c.wrapper_of.ensures ∙ c.in-Some.is in
    let is = wrapper_is (forest_of c.args.nodes.now) c.args.x c.in-Some.parent some in
    unwraps c.args.nodes.now c.move_to.new.nodes c.remove_from_parent.new.nodes c.args.x c.in-Some.parent some
    (subst (MovedList c.args.nodes.now c.move_to.new.nodes (before_node c.in-Some.parent))
    (siblings_child (forest_of c.args.nodes.now) c.args.x c.in-Some.parent (IsWrapper.parent_is is)) c.move_to.ensures)
    c.remove_from_parent.ensures.removed
