use Rattle.std.proofs.Common.{◌∙◌, sym}
use Rattle.page_trees.proofs.builder.TreeBuilder.column_group_tag.Goals as goal

pub returns-then-is_start : goal.returns-then-is_start
returns-then-is_start c = record {
  rule = λ covered. c.start_in_group.ensures.rule (sym c.is_start.ensures ∙ c.if-is_start.true);
}

pub returns : goal.returns
returns c = record {
  rule = λ covered. c.end_in_group.ensures.rule c.args.tag.now (sym c.is_start.ensures ∙ c.if-is_start.false);
}
