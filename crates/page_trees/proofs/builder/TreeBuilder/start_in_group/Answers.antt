use Rattle.std.proofs.Common.{◌∙◌, true, [], ◌∷◌, refl, rules, sym, ap, subst}
use denote.Enum.Bare.{same_false, same_true}
use Rattle.standard_trees.specs.RuleWords.{InBody, InColumnGroup, InHead, InsertElement, Pop}
use Rattle.page_trees.specs.contracts.name.Name.{the_type}
use Rattle.page_trees.specs.Constructs.{IsCurrentTag, Outcome}
use Rattle.page_trees.specs.Groups.{is_metadata_name}
use Rattle.page_trees.specs.TableSteps.{closing_group}
use Rattle.page_trees.specs.declared.builder.Next.{Next}
use Rattle.page_trees.specs.declared.name.Name.{Name}
use Rattle.page_trees.proofs.TableRows.{col_in_group, group_known, html_in_group, start_in_group, template_in_group}
use Rattle.page_trees.proofs.TableTags.{row_at, tag_does, tag_leaves_by, tag_uses}
use Rattle.page_trees.proofs.builder.TreeBuilder.start_in_group.Goals as goal

pub returns-then-eq : goal.returns-then-eq
returns-then-eq c = record {
  rule = λ starts within b current html stands. tag_uses InColumnGroup InBody group_known c.args.name c.args.tag.now true b _ _ current starts (row_at InColumnGroup b true c.args.name Name.Html (same_true the_type (search rules) c.args.name Name.Html
      (sym c.eq.ensures ∙ c.if-eq.true)) ∙ html_in_group b)
      (c.add_html_attrs.ensures.rule starts within b (subst (λ (n : Name). IsCurrentTag n c.args.tag.now b) (same_true the_type (search rules) c.args.name Name.Html (sym c.eq.ensures ∙ c.if-eq.true)) current) html stands);
}

pub returns-then-eq-2 : goal.returns-then-eq-2
returns-then-eq-2 c = record {
  rule = λ starts within b current html stands. subst (λ (n : Next). Outcome InColumnGroup b c.insert_void.new.self n) (sym c.insert_void.ensures.next) (tag_does InColumnGroup group_known c.args.name c.args.tag.now true b _
      (InsertElement ∷ Pop ∷ []) Next.Done current starts refl
      (row_at InColumnGroup b true c.args.name Name.Col (same_true the_type (search rules) c.args.name Name.Col (sym c.eq-2.ensures ∙ c.if-eq-2.true)) ∙ col_in_group b) (c.insert_void.ensures.rule starts within b current stands));
}

pub returns-then-eq-3 : goal.returns-then-eq-3
returns-then-eq-3 c = record {
  rule = λ starts within b current html stands. tag_uses InColumnGroup InHead group_known c.args.name c.args.tag.now true b _ _ current starts
      (row_at InColumnGroup b true c.args.name Name.Template (same_true the_type (search rules) c.args.name Name.Template (sym c.eq-3.ensures ∙ c.if-eq-3.true)) ∙ template_in_group b)
      (c.head_element.ensures.rule (ap is_metadata_name (same_true the_type (search rules) c.args.name Name.Template (sym c.eq-3.ensures ∙ c.if-eq-3.true))) starts within b current stands);
}

pub returns : goal.returns
returns c = record {
  rule = λ starts within b current html stands. tag_leaves_by InColumnGroup group_known c.args.name c.args.tag.now true b _ closing_group c.leave_column_group.result _ current starts refl
      (start_in_group b c.args.name (same_false the_type c.args.name Name.Html (sym c.eq.ensures ∙ c.if-eq.false)) (same_false the_type c.args.name Name.Col (sym c.eq-2.ensures ∙ c.if-eq-2.false)) (same_false the_type c.args.name Name.Template
      (sym c.eq-3.ensures ∙ c.if-eq-3.false)))
      (c.leave_column_group.ensures.found b.tree stands.tree) (c.leave_column_group.ensures.rule within b stands);
}
