use Rattle.page_trees.proofs.ForeignTags.{none_dispatched, some_dispatched}
use Rattle.page_trees.proofs.builder.TreeBuilder.is_tag_foreign.Goals as goal

pub returns-in-Some : goal.returns-in-Some
returns-in-Some c = some_dispatched c.args.self.now.tree c.adjusted_current.result _ c.args.kind c.args.name _ c.in-Some.is c.adjusted_current.ensures c.is_foreign_to.ensures

pub returns-in-None : goal.returns-in-None
returns-in-None c = none_dispatched c.args.self.now.tree c.adjusted_current.result c.args.kind c.args.name c.in-None.is c.adjusted_current.ensures
