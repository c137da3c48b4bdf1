use Rattle.std.proofs.Common.{refl}
use Rattle.page_trees.specs.declared.builder.Mode.{Mode}
use Rattle.page_trees.specs.TableSteps.{covers_caption, covers_cell, covers_group, covers_row, covers_table, covers_table_body}
use Rattle.page_trees.proofs.CoveredTags.{always, outer_of, text_covered, text_left, under_body, under_state, under_test}
use Rattle.page_trees.proofs.builder.TreeBuilder.html_tag.Goals as goal

pub returns-in-Text : goal.returns-in-Text
returns-in-Text c = record { rule = text_covered _ _ _ _ _ c.in-Text.is (c.text_tag.ensures.rule c.args.name c.in-Text.is) }

pub returns-in_default : goal.returns-in_default
returns-in_default c = record {
  rule = c.outer_tag.ensures.rule (outer_of c.args.self.now.mode c.in_default.not-InBody c.in_default.not-Text c.in_default.not-InTable c.in_default.not-InTableText
      c.in_default.not-InCaption c.in_default.not-InColumnGroup c.in_default.not-InTableBody c.in_default.not-InRow c.in_default.not-InCell c.in_default.not-InTemplate);
}

pub returns-in-InTable : goal.returns-in-InTable
returns-in-InTable c = record { rule = under_state _ Mode.InTable _ _ _ _ _ c.in-InTable.is covers_table (λ b. refl) c.table_tag.ensures.rule }

pub returns-in-InTableText : goal.returns-in-InTableText
returns-in-InTableText c = record { rule = text_left c.args.name c.args.tag.now c.args.self.now _ _ c.in-InTableText.is c.leave_table_text.ensures.next c.leave_table_text.ensures.rule }

pub returns-in-InBody : goal.returns-in-InBody
returns-in-InBody c = record { rule = under_body _ _ _ _ _ _ c.in-InBody.is c.body_tag.ensures.rule }

pub returns-in-InCaption : goal.returns-in-InCaption
returns-in-InCaption c = record { rule = under_state _ Mode.InCaption _ _ _ _ _ c.in-InCaption.is covers_caption (λ b. refl) c.caption_tag.ensures.rule }

pub returns-in-InColumnGroup : goal.returns-in-InColumnGroup
returns-in-InColumnGroup c = record { rule = under_test _ Mode.InColumnGroup _ _ _ _ _ c.in-InColumnGroup.is (λ start name. covers_group name) (λ b. refl) c.column_group_tag.ensures.rule }

pub returns-in-InTableBody : goal.returns-in-InTableBody
returns-in-InTableBody c = record { rule = under_state _ Mode.InTableBody _ _ _ _ _ c.in-InTableBody.is covers_table_body (λ b. refl) c.table_body_tag.ensures.rule }

pub returns-in-InRow : goal.returns-in-InRow
returns-in-InRow c = record { rule = under_state _ Mode.InRow _ _ _ _ _ c.in-InRow.is covers_row (λ b. refl) c.row_tag.ensures.rule }

pub returns-in-InCell : goal.returns-in-InCell
returns-in-InCell c = record { rule = under_state _ Mode.InCell _ _ _ _ _ c.in-InCell.is covers_cell (λ b. refl) c.cell_tag.ensures.rule }

pub returns-in-InTemplate : goal.returns-in-InTemplate
returns-in-InTemplate c = record { rule = always _ Mode.InTemplate _ _ _ _ _ c.in-InTemplate.is c.template_tag.ensures.rule }
