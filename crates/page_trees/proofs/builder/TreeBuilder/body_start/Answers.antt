use Rattle.page_trees.proofs.BodyStarts.{start_processed}
use Rattle.page_trees.proofs.builder.TreeBuilder.body_start.Goals as goal

pub returns : goal.returns
returns c = record {
  rule = start_processed c.group_of-group.result c.args.name c.args.tag.now c.args.self.now c.before_start.new.self c.start_block.new.self c.start_block.result c.group_of-group.ensures.named
      c.before_start.ensures.rule c.start_block.ensures.rule;
}
