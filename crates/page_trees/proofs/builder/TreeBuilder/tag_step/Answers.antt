use Rattle.std.proofs.Common.{refl}
use Rattle.page_trees.proofs.CoveredTags.{mode_dispatched}
use Rattle.page_trees.proofs.ForeignStarts.{foreign_dispatched}
use Rattle.page_trees.proofs.builder.TreeBuilder.tag_step.Goals as goal

pub returns-then-is_tag_foreign : goal.returns-then-is_tag_foreign
returns-then-is_tag_foreign c = record {
  rule = λ within b current covered stands.
      foreign_dispatched _ _ b _ c.if-is_tag_foreign.true (c.is_tag_foreign.ensures c.args.tag.now refl b current stands.tree) covered
      (λ foreign here. c.foreign_tag.ensures.rule within b current foreign here stands);
}

pub returns-else-is_tag_foreign : goal.returns-else-is_tag_foreign
returns-else-is_tag_foreign c = record {
  rule = λ within b current covered stands.
      mode_dispatched c.args.self.now.mode b _ _ _ c.if-is_tag_foreign.false (c.is_tag_foreign.ensures c.args.tag.now refl b current stands.tree) stands.mode covered
      (λ here. c.html_tag.ensures.rule within b current here stands);
}
