use Rattle.page_trees.proofs.MergedSteps.{tag_merged}
use Rattle.page_trees.proofs.builder.TreeBuilder.add_attrs.Goals as goal

pub returns-clause-rule : goal.returns-clause-rule
returns-clause-rule c = tag_merged c.args.self.now _ _ _ _ c.args.tag.now c.keep.ensures c.add_attrs-added.ensures.rule
