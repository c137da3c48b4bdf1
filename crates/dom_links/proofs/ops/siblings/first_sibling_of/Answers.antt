use Rattle.std.proofs.Common.{◌∙◌, sym}
use Rattle.dom_links.specs.Forest.{forest_of}
use Rattle.dom_links.proofs.walks.SiblingWalks.{beside_itself, Along, goes_back, comes_first, inside_nodes}
use Rattle.dom_links.proofs.moves.BlockMoves.{all_siblings, known_inside}
use Rattle.dom_links.proofs.ops.siblings.first_sibling_of.Goals as goal

pub loop-prev-init : goal.loop-prev-init
loop-prev-init c = beside_itself (forest_of c.args.nodes.now) c.args.x (known_inside (forest_of c.args.nodes.now) c.args.nodes.now c.args.x c.requires.linked c.requires.known)

pub loop-prev-smaller : goal.loop-prev-smaller
loop-prev-smaller c = Along.fewer (goes_back (forest_of c.args.nodes.now) c.args.nodes.now c.args.x c.loop-prev.at c.value.result c.in-Some.prev _ c.requires.linked c.loop-prev.invariant c.value.ensures.number (sym c.get.ensures ∙ c.in-Some.is))

pub loop-prev-preserved : goal.loop-prev-preserved
loop-prev-preserved c = Along.there (goes_back (forest_of c.args.nodes.now) c.args.nodes.now c.args.x c.loop-prev.at c.value.result c.in-Some.prev _ c.requires.linked c.loop-prev.invariant c.value.ensures.number (sym c.get.ensures ∙ c.in-Some.is))

pub returns-clause-first : goal.returns-clause-first
returns-clause-first c = comes_first (forest_of c.args.nodes.now) c.args.nodes.now c.args.x c.loop-prev.at c.value.result _ c.requires.linked c.loop-prev.invariant c.value.ensures.number (sym c.get.ensures ∙ c.in_default.is)

pub returns-clause-known : goal.returns-clause-known
returns-clause-known c = inside_nodes (forest_of c.args.nodes.now) c.args.nodes.now c.args.x c.loop-prev.at c.requires.linked c.loop-prev.invariant

pub returns-clause-all : goal.returns-clause-all
returns-clause-all c = all_siblings (forest_of c.args.nodes.now) c.args.x c.loop-prev.at c.requires.linked.once (returns-clause-first c) c.loop-prev.invariant
