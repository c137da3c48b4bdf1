-- The two tables agree on every token of plain trees, computed by the prover.
use Rattle.std.specs.Prelude.{◌≡◌, refl, true, None, codes, drop, take}
use Rattle.std.specs.List.{list_all}
use Rattle.standard_tokens.specs.Tokens.{AnEnd}
use Rattle.standard_rules.specs.RuleWords as O
use Rattle.standard_rules.specs.TreeRules.{rules as old_rules}
use Rattle.standard_trees.specs.RuleWords as N
use Rattle.standard_trees.specs.TreeRules.{rules}
use Rattle.standard_agreement.proofs.Names.{known}
use Rattle.standard_agreement.proofs.Choosing.{agrees, end_agrees, in_halves, others_agree, start_agrees, start_names, is_later}

in_head_starts : list_all (start_agrees O.InHead) start_names ≡ true
unfolding rules old_rules
in_head_starts = refl

in_head_ends : list_all (end_agrees O.InHead) known ≡ true
unfolding rules old_rules
in_head_ends = refl

in_head_others : others_agree O.InHead ≡ true
unfolding rules old_rules
in_head_others = refl

after_head_starts : list_all (start_agrees O.AfterHead) start_names ≡ true
unfolding rules old_rules
after_head_starts = refl

after_head_ends : list_all (end_agrees O.AfterHead) known ≡ true
unfolding rules old_rules
after_head_ends = refl

after_head_others : others_agree O.AfterHead ≡ true
unfolding rules old_rules
after_head_others = refl

in_body_starts0 : list_all (start_agrees O.InBody) (take 20 start_names) ≡ true
unfolding rules old_rules
in_body_starts0 = refl

in_body_starts1 : list_all (start_agrees O.InBody) (take 20 (drop 20 start_names)) ≡ true
unfolding rules old_rules
in_body_starts1 = refl

in_body_starts2 : list_all (start_agrees O.InBody) (take 20 (drop 20 (drop 20 start_names))) ≡ true
unfolding rules old_rules
in_body_starts2 = refl

in_body_starts3 : list_all (start_agrees O.InBody) (take 20 (drop 20 (drop 20 (drop 20 start_names)))) ≡ true
unfolding rules old_rules
in_body_starts3 = refl

in_body_starts4 : list_all (start_agrees O.InBody) (take 20 (drop 20 (drop 20 (drop 20 (drop 20 start_names))))) ≡ true
unfolding rules old_rules
in_body_starts4 = refl

in_body_starts5 : list_all (start_agrees O.InBody) (take 20 (drop 20 (drop 20 (drop 20 (drop 20 (drop 20 start_names)))))) ≡ true
unfolding rules old_rules
in_body_starts5 = refl

in_body_starts : list_all (start_agrees O.InBody) start_names ≡ true
in_body_starts =
    (in_halves (start_agrees O.InBody) 20 start_names in_body_starts0
    (in_halves (start_agrees O.InBody) 20 (drop 20 start_names) in_body_starts1
    (in_halves (start_agrees O.InBody) 20 (drop 20 (drop 20 start_names)) in_body_starts2
    (in_halves (start_agrees O.InBody) 20 (drop 20 (drop 20 (drop 20 start_names))) in_body_starts3
    (in_halves (start_agrees O.InBody) 20 (drop 20 (drop 20 (drop 20 (drop 20 start_names)))) in_body_starts4 (in_halves (start_agrees O.InBody) 20 (drop 20 (drop 20 (drop 20 (drop 20 (drop 20 start_names))))) in_body_starts5 refl))))))

in_body_ends0 : list_all (end_agrees O.InBody) (take 20 known) ≡ true
unfolding rules old_rules
in_body_ends0 = refl

in_body_ends1 : list_all (end_agrees O.InBody) (take 20 (drop 20 known)) ≡ true
unfolding rules old_rules
in_body_ends1 = refl

in_body_ends2 : list_all (end_agrees O.InBody) (take 20 (drop 20 (drop 20 known))) ≡ true
unfolding rules old_rules
in_body_ends2 = refl

in_body_ends3 : list_all (end_agrees O.InBody) (take 20 (drop 20 (drop 20 (drop 20 known)))) ≡ true
unfolding rules old_rules
in_body_ends3 = refl

in_body_ends4 : list_all (end_agrees O.InBody) (take 20 (drop 20 (drop 20 (drop 20 (drop 20 known))))) ≡ true
unfolding rules old_rules
in_body_ends4 = refl

in_body_ends5 : list_all (end_agrees O.InBody) (take 20 (drop 20 (drop 20 (drop 20 (drop 20 (drop 20 known)))))) ≡ true
unfolding rules old_rules
in_body_ends5 = refl

in_body_ends : list_all (end_agrees O.InBody) known ≡ true
in_body_ends =
    (in_halves (end_agrees O.InBody) 20 known in_body_ends0
    (in_halves (end_agrees O.InBody) 20 (drop 20 known) in_body_ends1
    (in_halves (end_agrees O.InBody) 20 (drop 20 (drop 20 known)) in_body_ends2
    (in_halves (end_agrees O.InBody) 20 (drop 20 (drop 20 (drop 20 known))) in_body_ends3
    (in_halves (end_agrees O.InBody) 20 (drop 20 (drop 20 (drop 20 (drop 20 known)))) in_body_ends4 (in_halves (end_agrees O.InBody) 20 (drop 20 (drop 20 (drop 20 (drop 20 (drop 20 known))))) in_body_ends5 refl))))))

in_body_others : others_agree O.InBody ≡ true
unfolding rules old_rules
in_body_others = refl

text_starts : list_all (start_agrees O.Text) start_names ≡ true
unfolding rules old_rules
text_starts = refl

text_ends : list_all (end_agrees O.Text) known ≡ true
unfolding rules old_rules
text_ends = refl

text_others : others_agree O.Text ≡ true
unfolding rules old_rules
text_others = refl

in_table_starts : list_all (start_agrees O.InTable) start_names ≡ true
unfolding rules old_rules
in_table_starts = refl

in_table_ends : list_all (end_agrees O.InTable) known ≡ true
unfolding rules old_rules
in_table_ends = refl

in_table_others : others_agree O.InTable ≡ true
unfolding rules old_rules
in_table_others = refl

in_caption_starts : list_all (start_agrees O.InCaption) start_names ≡ true
unfolding rules old_rules
in_caption_starts = refl

in_caption_ends : list_all (end_agrees O.InCaption) known ≡ true
unfolding rules old_rules
in_caption_ends = refl

in_caption_others : others_agree O.InCaption ≡ true
unfolding rules old_rules
in_caption_others = refl

in_column_group_starts : list_all (start_agrees O.InColumnGroup) start_names ≡ true
unfolding rules old_rules
in_column_group_starts = refl

in_column_group_ends : list_all (end_agrees O.InColumnGroup) known ≡ true
unfolding rules old_rules
in_column_group_ends = refl

in_column_group_others : others_agree O.InColumnGroup ≡ true
unfolding rules old_rules
in_column_group_others = refl

in_table_body_starts : list_all (start_agrees O.InTableBody) start_names ≡ true
unfolding rules old_rules
in_table_body_starts = refl

in_table_body_ends : list_all (end_agrees O.InTableBody) known ≡ true
unfolding rules old_rules
in_table_body_ends = refl

in_table_body_others : others_agree O.InTableBody ≡ true
unfolding rules old_rules
in_table_body_others = refl

in_row_starts : list_all (start_agrees O.InRow) start_names ≡ true
unfolding rules old_rules
in_row_starts = refl

in_row_ends : list_all (end_agrees O.InRow) known ≡ true
unfolding rules old_rules
in_row_ends = refl

in_row_others : others_agree O.InRow ≡ true
unfolding rules old_rules
in_row_others = refl

in_cell_starts : list_all (start_agrees O.InCell) start_names ≡ true
unfolding rules old_rules
in_cell_starts = refl

in_cell_ends : list_all (end_agrees O.InCell) known ≡ true
unfolding rules old_rules
in_cell_ends = refl

in_cell_others : others_agree O.InCell ≡ true
unfolding rules old_rules
in_cell_others = refl

after_body_starts : list_all (start_agrees O.AfterBody) start_names ≡ true
unfolding rules old_rules
after_body_starts = refl

after_body_ends : list_all (end_agrees O.AfterBody) known ≡ true
unfolding rules old_rules
after_body_ends = refl

after_body_others : others_agree O.AfterBody ≡ true
unfolding rules old_rules
after_body_others = refl

after_after_body_starts : list_all (start_agrees O.AfterAfterBody) start_names ≡ true
unfolding rules old_rules
after_after_body_starts = refl

after_after_body_ends : list_all (end_agrees O.AfterAfterBody) known ≡ true
unfolding rules old_rules
after_after_body_ends = refl

after_after_body_others : others_agree O.AfterAfterBody ≡ true
unfolding rules old_rules
after_after_body_others = refl

pub html_ends : agrees true (AnEnd (codes "html")) None (rules N.AfterBody) (old_rules O.AfterBody) ≡ true
unfolding rules old_rules
html_ends = refl

-- ---- in every mode

pub all_starts : (mode : O.Mode) → is_later mode ≡ true → list_all (start_agrees mode) start_names ≡ true
all_starts O.InHead h = in_head_starts
all_starts O.AfterHead h = after_head_starts
all_starts O.InBody h = in_body_starts
all_starts O.Text h = text_starts
all_starts O.InTable h = in_table_starts
all_starts O.InCaption h = in_caption_starts
all_starts O.InColumnGroup h = in_column_group_starts
all_starts O.InTableBody h = in_table_body_starts
all_starts O.InRow h = in_row_starts
all_starts O.InCell h = in_cell_starts
all_starts O.AfterBody h = after_body_starts
all_starts O.AfterAfterBody h = after_after_body_starts
all_starts O.Initial h = cc
all_starts O.BeforeHtml h = cc
all_starts O.BeforeHead h = cc

pub all_ends : (mode : O.Mode) → is_later mode ≡ true → list_all (end_agrees mode) known ≡ true
all_ends O.InHead h = in_head_ends
all_ends O.AfterHead h = after_head_ends
all_ends O.InBody h = in_body_ends
all_ends O.Text h = text_ends
all_ends O.InTable h = in_table_ends
all_ends O.InCaption h = in_caption_ends
all_ends O.InColumnGroup h = in_column_group_ends
all_ends O.InTableBody h = in_table_body_ends
all_ends O.InRow h = in_row_ends
all_ends O.InCell h = in_cell_ends
all_ends O.AfterBody h = after_body_ends
all_ends O.AfterAfterBody h = after_after_body_ends
all_ends O.Initial h = cc
all_ends O.BeforeHtml h = cc
all_ends O.BeforeHead h = cc

pub all_others : (mode : O.Mode) → is_later mode ≡ true → others_agree mode ≡ true
all_others O.InHead h = in_head_others
all_others O.AfterHead h = after_head_others
all_others O.InBody h = in_body_others
all_others O.Text h = text_others
all_others O.InTable h = in_table_others
all_others O.InCaption h = in_caption_others
all_others O.InColumnGroup h = in_column_group_others
all_others O.InTableBody h = in_table_body_others
all_others O.InRow h = in_row_others
all_others O.InCell h = in_cell_others
all_others O.AfterBody h = after_body_others
all_others O.AfterAfterBody h = after_after_body_others
all_others O.Initial h = cc
all_others O.BeforeHtml h = cc
all_others O.BeforeHead h = cc
