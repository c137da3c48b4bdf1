use Rattle.std.proofs.Common.{sym, ◌∙◌}
use Rattle.page_trees.proofs.BodyStarts.{end_processed}
use Rattle.page_trees.proofs.builder.TreeBuilder.body_tag.Goals as goal

pub returns-then-is_start : goal.returns-then-is_start
returns-then-is_start c = record { rule = c.body_start.ensures.rule (sym c.is_start.ensures ∙ c.if-is_start.true) }

pub returns-else-is_start : goal.returns-else-is_start
returns-else-is_start c = record {
  rule = end_processed c.args.name c.args.tag.now c.args.self.now c.body_end.new.self c.body_end.result (sym c.is_start.ensures ∙ c.if-is_start.false) c.body_end.ensures.rule;
}
