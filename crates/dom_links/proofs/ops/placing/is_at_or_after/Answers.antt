use Rattle.std.proofs.Common.{◌∙◌, sym}
use Rattle.std.proofs.lemmas.Bool.{eqb-false, eqb-true, not-true, not-false}
use Rattle.std.specs.Prelude.{◌==◌}
use Rattle.dom_links.specs.Forest.{forest_of}
use Rattle.dom_links.proofs.walks.SiblingWalks.{Seeking, Along, goes_forth, seeks_forth, seeks_no_more, sought_it, seeking_starts}
use Rattle.dom_links.proofs.moves.BlockMoves.{known_inside}
use Rattle.dom_links.proofs.ops.placing.is_at_or_after.Goals as goal

pub loop-n-init : goal.loop-n-init
loop-n-init c = seeking_starts (forest_of c.args.nodes.now) c.args.x c.args.n (known_inside (forest_of c.args.nodes.now) c.args.nodes.now c.args.x c.requires.linked c.requires.known)

pub returns-in_default : goal.returns-in_default
returns-in_default c =
    sym (seeks_no_more (forest_of c.args.nodes.now) c.args.nodes.now c.args.x c.args.n c.loop-n.at c.value.result _ c.requires.linked c.loop-n.invariant
    (eqb-false c.loop-n.at c.args.n (not-true (c.loop-n.at == c.args.n) (sym c.ne.ensures ∙ c.loop-n-test.true))) c.value.ensures.number (sym c.get.ensures ∙ c.in_default.is))

pub loop-n-smaller : goal.loop-n-smaller
loop-n-smaller c =
    Along.fewer (goes_forth (forest_of c.args.nodes.now) c.args.nodes.now c.args.x c.loop-n.at c.value.result c.in-Some.next _ c.requires.linked (Seeking.here c.loop-n.invariant) c.value.ensures.number (sym c.get.ensures ∙ c.in-Some.is))

pub loop-n-preserved : goal.loop-n-preserved
loop-n-preserved c =
    seeks_forth (forest_of c.args.nodes.now) c.args.nodes.now c.args.x c.args.n c.loop-n.at c.value.result c.in-Some.next _ c.requires.linked c.loop-n.invariant
    (eqb-false c.loop-n.at c.args.n (not-true (c.loop-n.at == c.args.n) (sym c.ne.ensures ∙ c.loop-n-test.true))) c.value.ensures.number (sym c.get.ensures ∙ c.in-Some.is)

pub returns : goal.returns
returns c = sym (sought_it (forest_of c.args.nodes.now) c.args.x c.args.n c.loop-n.at c.loop-n.invariant (eqb-true c.loop-n.at c.args.n (not-false (c.loop-n.at == c.args.n) (sym c.ne.ensures ∙ c.loop-n-test.false))))
