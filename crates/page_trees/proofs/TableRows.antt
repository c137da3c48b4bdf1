-- The rules for tags in the modes of tables, by the name of the tag.
use Rattle.std.proofs.Common.{◌≡◌, ◌&&◌, true, false, List, [], ◌∷◌, codes, refl}
use Rattle.standard_trees.specs.Building.{Building, is_set, own_name}
use Rattle.standard_trees.specs.RuleWords.{Action, ClearListToMarker, InBody, InCaption, InCell, InColumnGroup, InHead, InRow, InTable, InTableBody, InsertElement}
use Rattle.standard_trees.specs.RuleWords.{ImpliedEndTags, InsertNamed, ListMarker, Own, Pop, PopUntil, SetFormPointer, SwitchTo, Use, goes}
use Rattle.standard_trees.specs.TreeRules.{rules}
use Rattle.page_trees.specs.Groups.{is_cell_name, is_dropped_end_name, is_part_name, is_section_name}
use Rattle.page_trees.specs.LateMerges.{is_open}
use Rattle.page_trees.specs.Names.{html_rows, rare_rows}
use Rattle.page_trees.specs.TableSteps.{cell_names, clearing_to, closing_caption, closing_cell, closing_group, closing_row, closing_section, closing_table, ends_cell_name, is_ignored_end_name}
use Rattle.page_trees.specs.TableSteps.{is_hidden_content_name, is_in_group, is_in_table, section_names}
use Rattle.page_trees.specs.declared.builder.Next.{Next}
use Rattle.page_trees.specs.declared.name.Name.{Name}
use Rattle.page_trees.specs.declared.sets.TableContext.{TableContext}
use Rattle.page_trees.proofs.RulesRun.{plainly}
use Rattle.page_trees.proofs.RulesTaken.{are_of_names, chosen, plain_tag}
use Rattle.page_trees.proofs.TableRules.{choice}

-- ---- in table

pub table_known : are_of_names (rules InTable) ≡ true
unfolding rules html_rows rare_rows
table_known = refl

pub caption_start : (b : Building) → chosen (plain_tag true Name.Caption) b (rules InTable) ≡
    plainly (clearing_to TableContext.Table ∷ ListMarker ∷ InsertElement ∷ SwitchTo InCaption ∷ []) Next.Done
unfolding rules
caption_start b = refl

pub colgroup_start : (b : Building) → chosen (plain_tag true Name.Colgroup) b (rules InTable) ≡
    plainly (clearing_to TableContext.Table ∷ InsertElement ∷ SwitchTo InColumnGroup ∷ []) Next.Done
unfolding rules
colgroup_start b = refl

pub col_start : (b : Building) → chosen (plain_tag true Name.Col) b (rules InTable) ≡
    plainly (clearing_to TableContext.Table ∷ InsertNamed (codes "colgroup") ∷ SwitchTo InColumnGroup ∷ []) Next.Again
unfolding rules
col_start b = refl

pub section_start : (b : Building) (name : Name) → is_section_name name ≡ true → chosen (plain_tag true name) b (rules InTable) ≡
    plainly (clearing_to TableContext.Table ∷ InsertElement ∷ SwitchTo InTableBody ∷ []) Next.Done
unfolding rules
section_start b Name.Tbody h = refl
section_start b Name.Tfoot h = refl
section_start b Name.Thead h = refl
section_start b _ h = absurd (cc)

pub inner_start : (b : Building) (name : Name) → is_part_name name ≡ true → (name ≡ Name.Caption → ⊥) → (name ≡ Name.Colgroup → ⊥) → (name ≡ Name.Col → ⊥) →
    is_section_name name ≡ false → chosen (plain_tag true name) b (rules InTable) ≡
    plainly (clearing_to TableContext.Table ∷ InsertNamed (codes "tbody") ∷ SwitchTo InTableBody ∷ []) Next.Again
unfolding rules
inner_start b Name.Td h i j k l = refl
inner_start b Name.Th h i j k l = refl
inner_start b Name.Tr h i j k l = refl
inner_start b Name.Caption h i j k l = absurd (i refl)
inner_start b Name.Colgroup h i j k l = absurd (j refl)
inner_start b Name.Col h i j k l = absurd (k refl)
inner_start b Name.Tbody h i j k l = absurd (cc)
inner_start b Name.Tfoot h i j k l = absurd (cc)
inner_start b Name.Thead h i j k l = absurd (cc)
inner_start b _ h i j k l = absurd (cc)

pub ignored_in_table : (b : Building) (name : Name) → is_ignored_end_name name ≡ true → chosen (plain_tag false name) b (rules InTable) ≡ []
unfolding rules
ignored_in_table b Name.Body h = refl
ignored_in_table b Name.Html h = refl
ignored_in_table b Name.Caption h = refl
ignored_in_table b Name.Col h = refl
ignored_in_table b Name.Colgroup h = refl
ignored_in_table b Name.Tbody h = refl
ignored_in_table b Name.Td h = refl
ignored_in_table b Name.Tfoot h = refl
ignored_in_table b Name.Th h = refl
ignored_in_table b Name.Thead h = refl
ignored_in_table b Name.Tr h = refl
ignored_in_table b _ h = absurd (cc)

pub form_start : (b : Building) → chosen (plain_tag true Name.Form) b (rules InTable) ≡
    (elim (is_open (codes "template") b.tree && true) [
      | true ↦ []
      | false ↦ elim (is_set b.tree.form && true) [
        | true ↦ []
        | false ↦ plainly (InsertElement ∷ SetFormPointer ∷ Pop ∷ []) Next.Done
      ]
    ])
unfolding rules
form_start b = refl

pub table_start : (b : Building) → chosen (plain_tag true Name.Table) b (rules InTable) ≡
    choice (is_in_table (codes "table" ∷ []) b.tree) (plainly closing_table Next.Again)
unfolding rules
table_start b = refl

pub table_end : (b : Building) → chosen (plain_tag false Name.Table) b (rules InTable) ≡
    choice (is_in_table (codes "table" ∷ []) b.tree) (plainly closing_table Next.Done)
unfolding rules
table_end b = refl

pub hidden_in_table : (b : Building) (name : Name) → is_hidden_content_name name ≡ true → chosen (plain_tag true name) b (rules InTable) ≡ goes (Use InHead) ∷ []
unfolding rules
hidden_in_table b Name.Style h = refl
hidden_in_table b Name.Script h = refl
hidden_in_table b Name.Template h = refl
hidden_in_table b _ h = absurd (cc)

pub template_end_in_table : (b : Building) → chosen (plain_tag false Name.Template) b (rules InTable) ≡ goes (Use InHead) ∷ []
unfolding rules
template_end_in_table b = refl

-- ---- in caption

pub caption_known : are_of_names (rules InCaption) ≡ true
unfolding rules html_rows rare_rows
caption_known = refl

pub part_in_caption : (b : Building) (name : Name) → is_part_name name ≡ true → chosen (plain_tag true name) b (rules InCaption) ≡
    choice (is_in_table (codes "caption" ∷ []) b.tree) (plainly closing_caption Next.Again)
unfolding rules
part_in_caption b Name.Caption h = refl
part_in_caption b Name.Col h = refl
part_in_caption b Name.Colgroup h = refl
part_in_caption b Name.Tbody h = refl
part_in_caption b Name.Td h = refl
part_in_caption b Name.Tfoot h = refl
part_in_caption b Name.Th h = refl
part_in_caption b Name.Thead h = refl
part_in_caption b Name.Tr h = refl
part_in_caption b _ h = absurd (cc)

pub start_in_caption : (b : Building) (name : Name) → is_part_name name ≡ false → chosen (plain_tag true name) b (rules InCaption) ≡ goes (Use InBody) ∷ []
unfolding rules
start_in_caption b Name.Caption h = absurd (cc)
start_in_caption b Name.Col h = absurd (cc)
start_in_caption b Name.Colgroup h = absurd (cc)
start_in_caption b Name.Tbody h = absurd (cc)
start_in_caption b Name.Td h = absurd (cc)
start_in_caption b Name.Tfoot h = absurd (cc)
start_in_caption b Name.Th h = absurd (cc)
start_in_caption b Name.Thead h = absurd (cc)
start_in_caption b Name.Tr h = absurd (cc)
start_in_caption b _ h = refl

pub caption_end : (b : Building) → chosen (plain_tag false Name.Caption) b (rules InCaption) ≡
    choice (is_in_table (codes "caption" ∷ []) b.tree) (plainly closing_caption Next.Done)
unfolding rules
caption_end b = refl

pub table_end_in_caption : (b : Building) → chosen (plain_tag false Name.Table) b (rules InCaption) ≡
    choice (is_in_table (codes "caption" ∷ []) b.tree) (plainly closing_caption Next.Again)
unfolding rules
table_end_in_caption b = refl

pub ignored_in_caption : (b : Building) (name : Name) → (name ≡ Name.Caption → ⊥) → is_ignored_end_name name ≡ true → chosen (plain_tag false name) b (rules InCaption) ≡ []
unfolding rules
ignored_in_caption b Name.Caption k h = absurd (k refl)
ignored_in_caption b Name.Body k h = refl
ignored_in_caption b Name.Html k h = refl
ignored_in_caption b Name.Col k h = refl
ignored_in_caption b Name.Colgroup k h = refl
ignored_in_caption b Name.Tbody k h = refl
ignored_in_caption b Name.Td k h = refl
ignored_in_caption b Name.Tfoot k h = refl
ignored_in_caption b Name.Th k h = refl
ignored_in_caption b Name.Thead k h = refl
ignored_in_caption b Name.Tr k h = refl
ignored_in_caption b _ k h = absurd (cc)

pub end_in_caption : (b : Building) (name : Name) → (name ≡ Name.Table → ⊥) → is_ignored_end_name name ≡ false → chosen (plain_tag false name) b (rules InCaption) ≡ goes (Use InBody) ∷ []
unfolding rules
end_in_caption b Name.Table k h = absurd (k refl)
end_in_caption b Name.Caption k h = absurd (cc)
end_in_caption b Name.Body k h = absurd (cc)
end_in_caption b Name.Html k h = absurd (cc)
end_in_caption b Name.Col k h = absurd (cc)
end_in_caption b Name.Colgroup k h = absurd (cc)
end_in_caption b Name.Tbody k h = absurd (cc)
end_in_caption b Name.Td k h = absurd (cc)
end_in_caption b Name.Tfoot k h = absurd (cc)
end_in_caption b Name.Th k h = absurd (cc)
end_in_caption b Name.Thead k h = absurd (cc)
end_in_caption b Name.Tr k h = absurd (cc)
end_in_caption b _ k h = refl

-- ---- in cell

pub cell_known : are_of_names (rules InCell) ≡ true
unfolding rules html_rows rare_rows
cell_known = refl

pub part_in_cell : (b : Building) (name : Name) → is_part_name name ≡ true → chosen (plain_tag true name) b (rules InCell) ≡
    choice (is_in_table cell_names b.tree) (plainly (closing_cell cell_names) Next.Again)
unfolding rules
part_in_cell b Name.Caption h = refl
part_in_cell b Name.Col h = refl
part_in_cell b Name.Colgroup h = refl
part_in_cell b Name.Tbody h = refl
part_in_cell b Name.Td h = refl
part_in_cell b Name.Tfoot h = refl
part_in_cell b Name.Th h = refl
part_in_cell b Name.Thead h = refl
part_in_cell b Name.Tr h = refl
part_in_cell b _ h = absurd (cc)

pub start_in_cell : (b : Building) (name : Name) → is_part_name name ≡ false → chosen (plain_tag true name) b (rules InCell) ≡ goes (Use InBody) ∷ []
unfolding rules
start_in_cell b Name.Caption h = absurd (cc)
start_in_cell b Name.Col h = absurd (cc)
start_in_cell b Name.Colgroup h = absurd (cc)
start_in_cell b Name.Tbody h = absurd (cc)
start_in_cell b Name.Td h = absurd (cc)
start_in_cell b Name.Tfoot h = absurd (cc)
start_in_cell b Name.Th h = absurd (cc)
start_in_cell b Name.Thead h = absurd (cc)
start_in_cell b Name.Tr h = absurd (cc)
start_in_cell b _ h = refl

abbrev pub closing_own_cell : List Action
closing_own_cell = ImpliedEndTags ∷ PopUntil Own ∷ ClearListToMarker ∷ SwitchTo InRow ∷ []

pub cell_end : (b : Building) (name : Name) → is_cell_name name ≡ true → chosen (plain_tag false name) b (rules InCell) ≡
    choice (is_in_table (own_name b.token ∷ []) b.tree) (plainly closing_own_cell Next.Done)
unfolding rules
cell_end b Name.Td h = refl
cell_end b Name.Th h = refl
cell_end b _ h = absurd (cc)

pub dropped_in_cell : (b : Building) (name : Name) → is_dropped_end_name name ≡ true → chosen (plain_tag false name) b (rules InCell) ≡
    []
unfolding rules
dropped_in_cell b Name.Body h = refl
dropped_in_cell b Name.Caption h = refl
dropped_in_cell b Name.Col h = refl
dropped_in_cell b Name.Colgroup h = refl
dropped_in_cell b Name.Html h = refl
dropped_in_cell b _ h = absurd (cc)

pub leaving_cell : (b : Building) (name : Name) → ends_cell_name name ≡ true → chosen (plain_tag false name) b (rules InCell) ≡
    choice (is_in_table (own_name b.token ∷ []) b.tree) (plainly (closing_cell cell_names) Next.Again)
unfolding rules
leaving_cell b Name.Table h = refl
leaving_cell b Name.Tbody h = refl
leaving_cell b Name.Tfoot h = refl
leaving_cell b Name.Thead h = refl
leaving_cell b Name.Tr h = refl
leaving_cell b _ h = absurd (cc)

pub end_in_cell : (b : Building) (name : Name) → is_cell_name name ≡ false → is_dropped_end_name name ≡ false → ends_cell_name name ≡ false → chosen (plain_tag false name) b (rules InCell) ≡
    goes (Use InBody) ∷ []
unfolding rules
end_in_cell b Name.Td h i j = absurd (cc)
end_in_cell b Name.Th h i j = absurd (cc)
end_in_cell b Name.Body h i j = absurd (cc)
end_in_cell b Name.Caption h i j = absurd (cc)
end_in_cell b Name.Col h i j = absurd (cc)
end_in_cell b Name.Colgroup h i j = absurd (cc)
end_in_cell b Name.Html h i j = absurd (cc)
end_in_cell b Name.Table h i j = absurd (cc)
end_in_cell b Name.Tbody h i j = absurd (cc)
end_in_cell b Name.Tfoot h i j = absurd (cc)
end_in_cell b Name.Thead h i j = absurd (cc)
end_in_cell b Name.Tr h i j = absurd (cc)
end_in_cell b _ h i j = refl

-- ---- in row

pub row_known : are_of_names (rules InRow) ≡ true
unfolding rules html_rows rare_rows
row_known = refl

pub cell_start : (b : Building) (name : Name) → is_cell_name name ≡ true → chosen (plain_tag true name) b (rules InRow) ≡
    plainly (clearing_to TableContext.Row ∷ InsertElement ∷ SwitchTo InCell ∷ ListMarker ∷ []) Next.Done
unfolding rules
cell_start b Name.Td h = refl
cell_start b Name.Th h = refl
cell_start b _ h = absurd (cc)

pub part_in_row : (b : Building) (name : Name) → is_cell_name name ≡ false → is_part_name name ≡ true → chosen (plain_tag true name) b (rules InRow) ≡
    choice (is_in_table (codes "tr" ∷ []) b.tree) (plainly closing_row Next.Again)
unfolding rules
part_in_row b Name.Caption i h = refl
part_in_row b Name.Col i h = refl
part_in_row b Name.Colgroup i h = refl
part_in_row b Name.Tbody i h = refl
part_in_row b Name.Tfoot i h = refl
part_in_row b Name.Thead i h = refl
part_in_row b Name.Tr i h = refl
part_in_row b Name.Td i h = absurd (cc)
part_in_row b Name.Th i h = absurd (cc)
part_in_row b _ i h = absurd (cc)

pub start_in_row : (b : Building) (name : Name) → is_part_name name ≡ false → chosen (plain_tag true name) b (rules InRow) ≡
    goes (Use InTable) ∷ []
unfolding rules
start_in_row b Name.Caption h = absurd (cc)
start_in_row b Name.Col h = absurd (cc)
start_in_row b Name.Colgroup h = absurd (cc)
start_in_row b Name.Tbody h = absurd (cc)
start_in_row b Name.Td h = absurd (cc)
start_in_row b Name.Tfoot h = absurd (cc)
start_in_row b Name.Th h = absurd (cc)
start_in_row b Name.Thead h = absurd (cc)
start_in_row b Name.Tr h = absurd (cc)
start_in_row b _ h = refl

pub row_end : (b : Building) → chosen (plain_tag false Name.Tr) b (rules InRow) ≡
    choice (is_in_table (codes "tr" ∷ []) b.tree) (plainly closing_row Next.Done)
unfolding rules
row_end b = refl

pub table_end_in_row : (b : Building) → chosen (plain_tag false Name.Table) b (rules InRow) ≡
    choice (is_in_table (codes "tr" ∷ []) b.tree) (plainly closing_row Next.Again)
unfolding rules
table_end_in_row b = refl

pub section_end_in_row : (b : Building) (name : Name) → is_section_name name ≡ true → chosen (plain_tag false name) b (rules InRow) ≡
    choice (is_in_table (own_name b.token ∷ []) b.tree) (choice (is_in_table (codes "tr" ∷ []) b.tree) (plainly closing_row Next.Again))
unfolding rules
section_end_in_row b Name.Tbody h = refl
section_end_in_row b Name.Tfoot h = refl
section_end_in_row b Name.Thead h = refl
section_end_in_row b _ h = absurd (cc)

pub ignored_in_row : (b : Building) (name : Name) → (name ≡ Name.Tr → ⊥) → is_section_name name ≡ false → is_ignored_end_name name ≡ true → chosen (plain_tag false name) b (rules InRow) ≡
    []
unfolding rules
ignored_in_row b Name.Body k i h = refl
ignored_in_row b Name.Html k i h = refl
ignored_in_row b Name.Caption k i h = refl
ignored_in_row b Name.Col k i h = refl
ignored_in_row b Name.Colgroup k i h = refl
ignored_in_row b Name.Td k i h = refl
ignored_in_row b Name.Th k i h = refl
ignored_in_row b Name.Tr k i h = absurd (k refl)
ignored_in_row b Name.Tbody k i h = absurd (cc)
ignored_in_row b Name.Tfoot k i h = absurd (cc)
ignored_in_row b Name.Thead k i h = absurd (cc)
ignored_in_row b _ k i h = absurd (cc)

pub end_in_row : (b : Building) (name : Name) → (name ≡ Name.Table → ⊥) → is_ignored_end_name name ≡ false → chosen (plain_tag false name) b (rules InRow) ≡
    goes (Use InTable) ∷ []
unfolding rules
end_in_row b Name.Table k h = absurd (k refl)
end_in_row b Name.Body k h = absurd (cc)
end_in_row b Name.Html k h = absurd (cc)
end_in_row b Name.Caption k h = absurd (cc)
end_in_row b Name.Col k h = absurd (cc)
end_in_row b Name.Colgroup k h = absurd (cc)
end_in_row b Name.Tbody k h = absurd (cc)
end_in_row b Name.Td k h = absurd (cc)
end_in_row b Name.Tfoot k h = absurd (cc)
end_in_row b Name.Th k h = absurd (cc)
end_in_row b Name.Thead k h = absurd (cc)
end_in_row b Name.Tr k h = absurd (cc)
end_in_row b _ k h = refl

-- ---- in table body

pub body_known : are_of_names (rules InTableBody) ≡ true
unfolding rules html_rows rare_rows
body_known = refl

pub row_start : (b : Building) → chosen (plain_tag true Name.Tr) b (rules InTableBody) ≡
    plainly (clearing_to TableContext.Section ∷ InsertElement ∷ SwitchTo InRow ∷ []) Next.Done
unfolding rules
row_start b = refl

pub cell_in_body : (b : Building) (name : Name) → is_cell_name name ≡ true → chosen (plain_tag true name) b (rules InTableBody) ≡
    plainly (clearing_to TableContext.Section ∷ InsertNamed (codes "tr") ∷ SwitchTo InRow ∷ []) Next.Again
unfolding rules
cell_in_body b Name.Td h = refl
cell_in_body b Name.Th h = refl
cell_in_body b _ h = absurd (cc)

pub part_in_body : (b : Building) (name : Name) → (name ≡ Name.Tr → ⊥) → is_cell_name name ≡ false → is_part_name name ≡ true → chosen (plain_tag true name) b (rules InTableBody) ≡
    choice (is_in_table section_names b.tree) (plainly closing_section Next.Again)
unfolding rules
part_in_body b Name.Caption k i h = refl
part_in_body b Name.Col k i h = refl
part_in_body b Name.Colgroup k i h = refl
part_in_body b Name.Tbody k i h = refl
part_in_body b Name.Tfoot k i h = refl
part_in_body b Name.Thead k i h = refl
part_in_body b Name.Tr k i h = absurd (k refl)
part_in_body b Name.Td k i h = absurd (cc)
part_in_body b Name.Th k i h = absurd (cc)
part_in_body b _ k i h = absurd (cc)

pub start_in_body : (b : Building) (name : Name) → is_part_name name ≡ false → chosen (plain_tag true name) b (rules InTableBody) ≡
    goes (Use InTable) ∷ []
unfolding rules
start_in_body b Name.Caption h = absurd (cc)
start_in_body b Name.Col h = absurd (cc)
start_in_body b Name.Colgroup h = absurd (cc)
start_in_body b Name.Tbody h = absurd (cc)
start_in_body b Name.Td h = absurd (cc)
start_in_body b Name.Tfoot h = absurd (cc)
start_in_body b Name.Th h = absurd (cc)
start_in_body b Name.Thead h = absurd (cc)
start_in_body b Name.Tr h = absurd (cc)
start_in_body b _ h = refl

pub section_end : (b : Building) (name : Name) → is_section_name name ≡ true → chosen (plain_tag false name) b (rules InTableBody) ≡
    choice (is_in_table (own_name b.token ∷ []) b.tree) (plainly closing_section Next.Done)
unfolding rules
section_end b Name.Tbody h = refl
section_end b Name.Tfoot h = refl
section_end b Name.Thead h = refl
section_end b _ h = absurd (cc)

pub table_end_in_body : (b : Building) → chosen (plain_tag false Name.Table) b (rules InTableBody) ≡
    choice (is_in_table section_names b.tree) (plainly closing_section Next.Again)
unfolding rules
table_end_in_body b = refl

pub ignored_in_body : (b : Building) (name : Name) → is_section_name name ≡ false → is_ignored_end_name name ≡ true → chosen (plain_tag false name) b (rules InTableBody) ≡
    []
unfolding rules
ignored_in_body b Name.Body i h = refl
ignored_in_body b Name.Html i h = refl
ignored_in_body b Name.Caption i h = refl
ignored_in_body b Name.Col i h = refl
ignored_in_body b Name.Colgroup i h = refl
ignored_in_body b Name.Td i h = refl
ignored_in_body b Name.Th i h = refl
ignored_in_body b Name.Tr i h = refl
ignored_in_body b Name.Tbody i h = absurd (cc)
ignored_in_body b Name.Tfoot i h = absurd (cc)
ignored_in_body b Name.Thead i h = absurd (cc)
ignored_in_body b _ i h = absurd (cc)

pub end_in_body : (b : Building) (name : Name) → (name ≡ Name.Table → ⊥) → is_ignored_end_name name ≡ false → chosen (plain_tag false name) b (rules InTableBody) ≡
    goes (Use InTable) ∷ []
unfolding rules
end_in_body b Name.Table k h = absurd (k refl)
end_in_body b Name.Body k h = absurd (cc)
end_in_body b Name.Html k h = absurd (cc)
end_in_body b Name.Caption k h = absurd (cc)
end_in_body b Name.Col k h = absurd (cc)
end_in_body b Name.Colgroup k h = absurd (cc)
end_in_body b Name.Tbody k h = absurd (cc)
end_in_body b Name.Td k h = absurd (cc)
end_in_body b Name.Tfoot k h = absurd (cc)
end_in_body b Name.Th k h = absurd (cc)
end_in_body b Name.Thead k h = absurd (cc)
end_in_body b Name.Tr k h = absurd (cc)
end_in_body b _ k h = refl

-- ---- in column group

pub group_known : are_of_names (rules InColumnGroup) ≡ true
unfolding rules html_rows rare_rows
group_known = refl

pub html_in_group : (b : Building) → chosen (plain_tag true Name.Html) b (rules InColumnGroup) ≡
    goes (Use InBody) ∷ []
unfolding rules
html_in_group b = refl

pub col_in_group : (b : Building) → chosen (plain_tag true Name.Col) b (rules InColumnGroup) ≡
    plainly (InsertElement ∷ Pop ∷ []) Next.Done
unfolding rules
col_in_group b = refl

pub template_in_group : (b : Building) → chosen (plain_tag true Name.Template) b (rules InColumnGroup) ≡
    goes (Use InHead) ∷ []
unfolding rules
template_in_group b = refl

pub start_in_group : (b : Building) (name : Name) → (name ≡ Name.Html → ⊥) → (name ≡ Name.Col → ⊥) → (name ≡ Name.Template → ⊥) → chosen (plain_tag true name) b (rules InColumnGroup) ≡
    choice (is_in_group b.tree) (plainly closing_group Next.Again)
unfolding rules
start_in_group b Name.Html h i j = absurd (h refl)
start_in_group b Name.Col h i j = absurd (i refl)
start_in_group b Name.Template h i j = absurd (j refl)
start_in_group b _ h i j = refl

pub group_end : (b : Building) → chosen (plain_tag false Name.Colgroup) b (rules InColumnGroup) ≡
    choice (is_in_group b.tree) (plainly closing_group Next.Done)
unfolding rules
group_end b = refl

pub col_end : (b : Building) → chosen (plain_tag false Name.Col) b (rules InColumnGroup) ≡
    []
unfolding rules
col_end b = refl

pub template_end_in_group : (b : Building) → chosen (plain_tag false Name.Template) b (rules InColumnGroup) ≡
    goes (Use InHead) ∷ []
unfolding rules
template_end_in_group b = refl

pub end_in_group : (b : Building) (name : Name) → (name ≡ Name.Colgroup → ⊥) → (name ≡ Name.Col → ⊥) → (name ≡ Name.Template → ⊥) → chosen (plain_tag false name) b (rules InColumnGroup) ≡
    choice (is_in_group b.tree) (plainly closing_group Next.Again)
unfolding rules
end_in_group b Name.Colgroup h i j = absurd (h refl)
end_in_group b Name.Col h i j = absurd (i refl)
end_in_group b Name.Template h i j = absurd (j refl)
end_in_group b _ h i j = refl
