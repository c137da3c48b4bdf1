use Rattle.std.proofs.Common.{◌∙◌, true, refl, sym, subst}
use Rattle.page_trees.specs.declared.builder.Next.{Next}
use Rattle.page_trees.specs.Constructs.{Outcome}
use Rattle.standard_trees.specs.RuleWords.{InCaption}
use Rattle.page_trees.specs.TableSteps.{closing_caption}
use Rattle.page_trees.proofs.TableRows.{caption_known, part_in_caption, start_in_caption}
use Rattle.page_trees.proofs.TableTags.{content_done, left_over, tag_leaves}
use Rattle.page_trees.proofs.builder.TreeBuilder.start_in_caption.Goals as goal

pub returns-then-is_table_part : goal.returns-then-is_table_part
returns-then-is_table_part c = record {
  rule = λ starts within b current html covered stands. subst (λ (n : Next). Outcome InCaption b c.end_caption.new.self n) (sym c.next_if.ensures) (tag_leaves InCaption caption_known c.args.name c.args.tag.now true b _ closing_caption c.end_caption.result _ current starts refl
      (part_in_caption b c.args.name (sym c.is_table_part.ensures ∙ c.if-is_table_part.true)) (c.end_caption.ensures.found b.tree stands.tree) (c.end_caption.ensures.rule within b stands));
}

pub returns : goal.returns
returns c = record {
  rule = λ starts within b current html covered stands. content_done InCaption caption_known c.args.name c.args.tag.now true b _ _ _ current starts
      (start_in_caption b c.args.name (sym c.is_table_part.ensures ∙ c.if-is_table_part.false))
      (left_over _ _ (sym c.is_table_part.ensures ∙ c.if-is_table_part.false) covered) within html stands c.body_tag.ensures.rule;
}
