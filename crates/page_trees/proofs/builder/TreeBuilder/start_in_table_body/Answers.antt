use Rattle.std.proofs.Common.{◌≡◌, ◌∙◌, Bool, true, [], ◌∷◌, codes, refl, rules, sym, subst}
use denote.Enum.Bare.{same_false, same_true}
use Rattle.page_trees.specs.contracts.name.Name.{the_type}
use Rattle.page_trees.specs.declared.name.Name.{Name}
use Rattle.page_trees.specs.declared.builder.Next.{Next}
use Rattle.page_trees.specs.Constructs.{Outcome}
use Rattle.standard_trees.specs.RuleWords.{InRow, InTable, InTableBody, InsertElement, InsertNamed, SwitchTo}
use Rattle.page_trees.specs.TableSteps.{clearing_to, closing_section, covers_table}
use Rattle.page_trees.specs.declared.sets.TableContext.{TableContext}
use Rattle.page_trees.proofs.TableRows.{body_known, cell_in_body, part_in_body, row_start, start_in_body}
use Rattle.page_trees.proofs.TableTags.{left_over, row_at, tag_does, tag_leaves_by, tag_uses}
use Rattle.page_trees.proofs.builder.TreeBuilder.start_in_table_body.Goals as goal

pub returns-then-eq : goal.returns-then-eq
returns-then-eq c = record {
  rule = λ starts within b current html covered stands. subst (λ (n : Next). Outcome InTableBody b c.start_row.new.self n) (sym c.start_row.ensures.next) (tag_does InTableBody body_known c.args.name c.args.tag.now true b _
      (clearing_to TableContext.Section ∷ InsertElement ∷ SwitchTo InRow ∷ []) Next.Done current starts refl
      (row_at InTableBody b true c.args.name Name.Tr (same_true the_type (search rules) c.args.name Name.Tr (sym c.eq.ensures ∙ c.if-eq.true)) ∙ row_start b) (c.start_row.ensures.rule starts within b current stands));
}

pub returns-then-is_cell : goal.returns-then-is_cell
returns-then-is_cell c = record {
  rule = λ starts within b current html covered stands. subst (λ (n : Next). Outcome InTableBody b c.imply_row.new.self n) (sym c.imply_row.ensures.next) (tag_does InTableBody body_known c.args.name c.args.tag.now true b _
      (clearing_to TableContext.Section ∷ InsertNamed (codes "tr") ∷ SwitchTo InRow ∷ []) Next.Again current starts refl (cell_in_body b c.args.name (sym c.is_cell.ensures ∙ c.if-is_cell.true)) (c.imply_row.ensures.rule within b stands));
}

pub returns-then-is_table_part : goal.returns-then-is_table_part
returns-then-is_table_part c = record {
  rule = λ starts within b current html covered stands. tag_leaves_by InTableBody body_known c.args.name c.args.tag.now true b _ closing_section c.leave_section.result _ current starts refl
      (part_in_body b c.args.name (same_false the_type c.args.name Name.Tr (sym c.eq.ensures ∙ c.if-eq.false)) (sym c.is_cell.ensures ∙ c.if-is_cell.false) (sym c.is_table_part.ensures ∙ c.if-is_table_part.true)) (c.leave_section.ensures.found b.tree stands.tree)
      (c.leave_section.ensures.rule within b stands);
}

pub returns : goal.returns
returns c = record {
  rule = λ starts within b current html covered stands. tag_uses InTableBody InTable body_known c.args.name c.args.tag.now true b _ _ current starts (start_in_body b c.args.name (sym c.is_table_part.ensures ∙ c.if-is_table_part.false))
      (c.table_tag.ensures.rule within b current html (subst (λ (s : Bool). covers_table s c.args.name b ≡ true) (sym starts) (left_over _ _ (sym c.is_table_part.ensures ∙ c.if-is_table_part.false) covered)) stands);
}
