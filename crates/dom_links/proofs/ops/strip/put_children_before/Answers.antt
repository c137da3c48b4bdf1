use Rattle.std.proofs.Common.{◌∙◌, ap, arith, subst}
use Rattle.std.proofs.lemmas.Grind.{common_steps}
use Rattle.dom_links.specs.Forest.{forest_of}
use Rattle.dom_links.specs.Lists.{is_member}
use Rattle.dom_links.specs.ListMoves.{MovedList}
use Rattle.dom_links.specs.Moves.{before_node}
use Rattle.dom_links.proofs.moves.Dissolving.{known_in}
use Rattle.dom_links.proofs.moves.TwoSteps.{no_children_moved, wrapper_apart}
use Rattle.dom_links.proofs.ops.strip.put_children_before.Goals as goal

pub first_child_of-requires-clause-known : goal.first_child_of-requires-clause-known
first_child_of-requires-clause-known c = known_in c.args.nodes.now c.args.p c.requires.placed.0 c.requires.sound c.requires.placed.1

pub move_to-requires : goal.move_to-requires
move_to-requires c = record {
  linked = c.requires.sound.arena;
  target_known = known_in c.args.nodes.now c.args.p c.requires.placed.0 c.requires.sound c.requires.placed.1;
  known = grind (arith, common_steps);
  apart = ap (is_member c.args.p) c.in-Some.ensures.all ∙ wrapper_apart (forest_of c.args.nodes.now) c.args.p c.requires.sound.forest;
}

pub returns-in_default : goal.returns-in_default
returns-in_default c = no_children_moved c.args.nodes.now c.args.p (before_node c.args.p) c.requires.sound.arena c.in_default.ensures.all

pub returns : goal.returns
returns c = subst (MovedList c.args.nodes.now c.move_to.new.nodes (before_node c.args.p)) c.in-Some.ensures.all c.move_to.ensures
