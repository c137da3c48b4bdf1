use Rattle.std.proofs.Common.{◌≡◌, ◌∙◌, Bool, true, false, refl, rules, sym, subst}
use denote.Enum.Bare.{same_false, same_true}
use Rattle.page_trees.specs.contracts.name.Name.{the_type}
use Rattle.page_trees.specs.declared.name.Name.{Name}
use Rattle.standard_trees.specs.RuleWords.{InTable, InTableBody}
use Rattle.page_trees.specs.TableSteps.{closing_section, covers_table}
use Rattle.page_trees.proofs.TableRows.{body_known, end_in_body, ignored_in_body, table_end_in_body}
use Rattle.page_trees.proofs.TableTags.{left_over, no_table, row_at, tag_ignored, tag_leaves_by, tag_uses}
use Rattle.page_trees.proofs.builder.TreeBuilder.end_in_table_body.Goals as goal

pub returns-then-is_section : goal.returns-then-is_section
returns-then-is_section c = record {
  rule = λ ends within b current html covered stands. c.close_section.ensures.rule c.args.tag.now (sym c.is_section.ensures ∙ c.if-is_section.true) ends within b current stands;
}

pub returns-then-eq : goal.returns-then-eq
returns-then-eq c = record {
  rule = λ ends within b current html covered stands. tag_leaves_by InTableBody body_known c.args.name c.args.tag.now false b _ closing_section c.leave_section.result _ current ends refl
      (row_at InTableBody b false c.args.name Name.Table (same_true the_type (search rules) c.args.name Name.Table (sym c.eq.ensures ∙ c.if-eq.true)) ∙ table_end_in_body b) (c.leave_section.ensures.found b.tree stands.tree) (c.leave_section.ensures.rule within b stands);
}

pub returns-then-is_ignored_end : goal.returns-then-is_ignored_end
returns-then-is_ignored_end c = record {
  rule = λ ends within b current html covered stands. tag_ignored InTableBody body_known c.args.name c.args.tag.now false b _ current ends (ignored_in_body b c.args.name (sym c.is_section.ensures ∙ c.if-is_section.false)
      (sym c.is_ignored_end.ensures ∙ c.if-is_ignored_end.true)) stands;
}

pub returns : goal.returns
returns c = record {
  rule = λ ends within b current html covered stands. tag_uses InTableBody InTable body_known c.args.name c.args.tag.now false b _ _ current ends (end_in_body b c.args.name (same_false the_type c.args.name Name.Table (sym c.eq.ensures ∙ c.if-eq.false))
      (sym c.is_ignored_end.ensures ∙ c.if-is_ignored_end.false))
      (c.table_tag.ensures.rule within b current html (subst (λ (s : Bool). covers_table s c.args.name b ≡ true) (sym ends) (left_over _ _ (no_table c.args.name (same_false the_type c.args.name Name.Table (sym c.eq.ensures ∙ c.if-eq.false))) (left_over _ _
      (sym c.is_ignored_end.ensures ∙ c.if-is_ignored_end.false) covered))) stands);
}
