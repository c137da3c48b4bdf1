use Rattle.std.proofs.Common.{ap}
use Rattle.page_trees.specs.Modes.{is_start_kind}
use Rattle.page_trees.proofs.builder.TreeBuilder.foreign_tag.Goals as goal

pub returns-in-Start : goal.returns-in-Start
returns-in-Start c = record { rule = c.foreign_start.ensures.rule (ap is_start_kind c.in-Start.is) }

pub returns-in-End : goal.returns-in-End
returns-in-End c = record { rule = c.foreign_end.ensures.rule (ap is_start_kind c.in-End.is) }
