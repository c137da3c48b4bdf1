use Rattle.std.proofs.Common.{◌∙◌, ap, arith, length, subst, ◌<◌, ◌≡◌, false}
use Rattle.std.proofs.lemmas.Grind.{common_steps}
use Rattle.std.specs.Option.{IfSome}
use Rattle.dom_links.specs.Lists.{is_member}
use Rattle.dom_links.specs.Forest.{forest_of, children_of}
use Rattle.dom_links.specs.Moves.{end_of}
use Rattle.dom_links.specs.ListMoves.{MovedList}
use Rattle.dom_links.proofs.moves.TwoSteps.{no_children_moved, reparents_to}
use Rattle.dom_links.proofs.ops.TreeNodeOps.reparent_children_of.Goals as goal

pub returns-in_default-first_child_of : goal.returns-in_default-first_child_of
returns-in_default-first_child_of c =
    reparents_to c.args.nodes.now c.args.nodes.now c.args.x c.in-Some.t c.args.parent c.in-Some.is
    (no_children_moved c.args.nodes.now c.args.x (end_of c.in-Some.t) c.requires.linked c.in_default-first_child_of.ensures.all)

pub append_children_of-requires : goal.append_children_of-requires
append_children_of-requires c =
    let out : is_member c.in-Some.t (children_of (forest_of c.args.nodes.now) c.args.x) ≡ false = subst (λ o. IfSome o (λ t. is_member t (children_of (forest_of c.args.nodes.now) c.args.x) ≡ false)) c.in-Some.is c.requires.apart in
    record {
      linked = c.requires.linked;
      target_known = subst (λ o. IfSome o (λ t. t < length c.args.nodes.now)) c.in-Some.is c.requires.target_known;
      known = grind (arith, common_steps);
      apart = ap (is_member c.in-Some.t) c.in-Some-first_child_of.ensures.all ∙ out;
    }

pub returns : goal.returns
returns c =
    reparents_to c.args.nodes.now c.append_children_of.new.nodes c.args.x c.in-Some.t c.args.parent c.in-Some.is
    (subst (MovedList c.args.nodes.now c.append_children_of.new.nodes (end_of c.in-Some.t)) c.in-Some-first_child_of.ensures.all c.append_children_of.ensures)
