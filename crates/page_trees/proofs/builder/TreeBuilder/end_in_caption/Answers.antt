use Rattle.std.proofs.Common.{◌∙◌, false, refl, rules, sym, subst}
use denote.Enum.Bare.{same_false, same_true}
use Rattle.page_trees.specs.contracts.name.Name.{the_type}
use Rattle.page_trees.specs.declared.name.Name.{Name}
use Rattle.page_trees.specs.declared.builder.Next.{Next}
use Rattle.page_trees.specs.Constructs.{Outcome}
use Rattle.standard_trees.specs.RuleWords.{InCaption}
use Rattle.page_trees.specs.TableSteps.{closing_caption}
use Rattle.page_trees.proofs.TableRows.{caption_end, caption_known, end_in_caption, ignored_in_caption, table_end_in_caption}
use Rattle.page_trees.proofs.TableTags.{content_done, left_over, no_table, row_at, tag_closes, tag_ignored, tag_leaves}
use Rattle.page_trees.proofs.builder.TreeBuilder.end_in_caption.Goals as goal

pub returns-then-eq : goal.returns-then-eq
returns-then-eq c = record {
  rule = λ ends within b current html covered stands. subst (λ (n : Next). Outcome InCaption b c.end_caption.new.self n) (sym c.next_if.ensures) (tag_leaves InCaption caption_known c.args.name c.args.tag.now false b _ closing_caption c.end_caption.result _ current ends refl
      (row_at InCaption b false c.args.name Name.Table (same_true the_type (search rules) c.args.name Name.Table (sym c.eq.ensures ∙ c.if-eq.true)) ∙ table_end_in_caption b)
      (c.end_caption.ensures.found b.tree stands.tree) (c.end_caption.ensures.rule within b stands));
}

pub returns-then-eq-2 : goal.returns-then-eq-2
returns-then-eq-2 c = record {
  rule = λ ends within b current html covered stands. tag_closes InCaption caption_known c.args.name c.args.tag.now false b _ closing_caption c.end_caption-then-eq-2.result _ current ends refl
      (row_at InCaption b false c.args.name Name.Caption (same_true the_type (search rules) c.args.name Name.Caption (sym c.eq-2.ensures ∙ c.if-eq-2.true)) ∙ caption_end b)
      (c.end_caption-then-eq-2.ensures.found b.tree stands.tree) (c.end_caption-then-eq-2.ensures.rule within b stands);
}

pub returns-then-is_ignored_end : goal.returns-then-is_ignored_end
returns-then-is_ignored_end c = record {
  rule = λ ends within b current html covered stands. tag_ignored InCaption caption_known c.args.name c.args.tag.now false b _ current ends
      (ignored_in_caption b c.args.name (same_false the_type c.args.name Name.Caption (sym c.eq-2.ensures ∙ c.if-eq-2.false)) (sym c.is_ignored_end.ensures ∙ c.if-is_ignored_end.true)) stands;
}

pub returns : goal.returns
returns c = record {
  rule = λ ends within b current html covered stands. content_done InCaption caption_known c.args.name c.args.tag.now false b _ _ _ current ends
      (end_in_caption b c.args.name (same_false the_type c.args.name Name.Table (sym c.eq.ensures ∙ c.if-eq.false)) (sym c.is_ignored_end.ensures ∙ c.if-is_ignored_end.false))
      (left_over _ _ (no_table c.args.name (same_false the_type c.args.name Name.Table (sym c.eq.ensures ∙ c.if-eq.false)))
      (left_over _ _ (sym c.is_ignored_end.ensures ∙ c.if-is_ignored_end.false) covered)) within html stands c.body_tag.ensures.rule;
}
