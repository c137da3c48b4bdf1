use Rattle.std.proofs.Common.{◌∙◌}
use Rattle.dom_links.specs.Forest.{forest_of}
use Rattle.dom_links.proofs.moves.Attach.{first_known, read_first}
use Rattle.dom_links.proofs.moves.TwoSteps.{first_child_given}
use Rattle.dom_links.proofs.ops.siblings.first_child_of.Goals as goal

pub returns-clause-first : goal.returns-clause-first
returns-clause-first c = c.get.ensures ∙ read_first (forest_of c.args.nodes.now) c.args.nodes.now c.value.result c.args.x c.index-nodes-value.result c.requires.linked c.requires.known c.value.ensures.number

pub returns-clause-known : goal.returns-clause-known
returns-clause-known c = first_known (forest_of c.args.nodes.now) c.args.nodes.now c.args.x _ c.requires.linked (returns-clause-first c)

pub returns-clause-all : goal.returns-clause-all
returns-clause-all c = first_child_given c.args.nodes.now c.args.x _ c.requires.linked (returns-clause-first c)
