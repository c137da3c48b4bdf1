-- Calm trees are plain: the elements of each category meet the conditions of their class.
use Rattle.std.specs.Prelude.{◌≡◌, ℕ, Bool, true, false, not, ◌==◌, ◌||◌, ◌&&◌, List, [], ◌∷◌, codes, refl, if◌then◌else◌}
use Rattle.std.specs.List.{list_all}
use Rattle.std.specs.Str.{bytes_eq, chars}
use Rattle.std.proofs.lemmas.Slice.Eq.{bytes_eq-Decides}
use Rattle.std.proofs.lemmas.Bool.{and_parts, true≢false}
use Rattle.std.specs.Cmp.Derive.{both_true}
use mathlib.Core.Path.{◌∙◌, sym, ap, subst}
use Rattle.dom_nodes.specs.Words.{is_among}
use Rattle.dom_markup.specs.Names.{mode_in, raw_names, raw_text_of, text_of, text_names, void_names}
use Rattle.dom_markup.specs.Plain.{IsPlainIn, IsPlainTrees, begins_with_text}
use Rattle.dom_markup.specs.ValueTrees.{ValueTrees}
use Rattle.dom_markup.specs.ValueTrees.ValueTrees.{no_trees, text_node, comment_node, doctype_node, element_node}
use Rattle.calm_pages.specs.Calm.{admits, are_calm, bars, begins_line, behind, behind_first, inside, may_hold_comment, may_hold_text}
use Rattle.calm_pages.specs.declared.nesting.Scope.{Scope}
use Rattle.page_trees.specs.ElementKinds.{kind_among, kind_of, may_hold, named_kinds, names_of}
use Rattle.page_trees.specs.declared.element_kinds.ElementCategory.{ElementCategory}
use Rattle.page_trees.specs.declared.element_kinds.ElementCategory.TheVariants.{Document, Html, Head, Body, Metadata, Verbatim, Phrase, Anchor, Button, Paragraph, Block, Heading, Form, Pre, ItemList, Item, DescriptionList, Description, Ruby, RubyText, Table, Caption, ColumnGroup, Column, RowGroup}
use Rattle.page_trees.specs.declared.element_kinds.ElementCategory.TheVariants.{TableRow, Cell, Other}
use Rattle.standard_rules.specs.PlainTrees.{Class, ABlock, AList, ADescriptionList, AHeading, AParagraph, APhrase, AFormatting, AnAnchor, AVoid, AnItem, ADescription, AButton, ABreak, ASource, AnInput, AForm, APre, ARuby, ARubyText, ARawText, AMetadata, ATable, ACaption, AColumnGroup, AColumn}
use Rattle.standard_rules.specs.PlainTrees.{ARowGroup, ARow, ACell, Within, are_plain, begins_feed, begins_text, class_of, is_flow, is_heading, is_none, is_raw, admits as admits_class, inside as inside_class}
use Rattle.standard_rules.specs.TreeTokens.{text_node as text}
use Rattle.standard_rules.proofs.PlainElements.{not_so}
use Rattle.standard_rules.proofs.TreeLists.{Each}
use Rattle.standard_laws.specs.CalmTrees.{have_no_null}
use Rattle.standard_laws.proofs.PlainNodes.{place_in, plain_nodes, within}
use Rattle.standard_laws.proofs.CategoryPlaces.{is_inner, holds_Phrase, holds_Anchor, holds_Button, holds_Paragraph, holds_Block, holds_Form, holds_Pre, holds_ItemList, holds_DescriptionList, holds_Table, holds_Heading, holds_Verbatim, holds_Item, holds_Description, holds_Ruby, holds_RubyText}
use Rattle.standard_laws.proofs.CategoryPlaces.{holds_Caption, holds_ColumnGroup, holds_RowGroup, holds_Column, holds_TableRow, holds_Cell, holds_Metadata, holds_no_Html, holds_no_Head, holds_no_Body, holds_no_Other, text_in}
use Rattle.standard_laws.proofs.CharTexts.{feed_chars}

-- an element of that name and category that is admitted is admitted by its class, and its children are in the same place by both
abbrev Meets : ElementCategory → List ℕ → Type 0
Meets kind name = (scope : Scope) (children : ValueTrees) → is_inner scope.parent ≡ true → admits scope kind ≡ true → (is_among name void_names ≡ true → children ≡ no_trees) →
    IsPlainIn (mode_in name) children → IsPlainTrees false children → are_calm (inside scope kind) children ≡ true →
    (admits_class (within scope) (class_of name) (plain_nodes children) ≡ true) × (inside_class (within scope) (class_of name) ≡ within (inside scope kind)) × (is_inner (inside scope kind).parent ≡ true)

-- what a class has to meet
abbrev Met : ElementCategory → Class → Scope → ValueTrees → Type 0
Met kind class scope children = (admits_class (within scope) class (plain_nodes children) ≡ true) × (inside_class (within scope) class ≡ within (inside scope kind)) × (is_inner (inside scope kind).parent ≡ true)

met : (kind : ElementCategory) (class : Class) (name : List ℕ) (scope : Scope) (children : ValueTrees) → class_of name ≡ class → Met kind class scope children → Met kind (class_of name) scope children
met kind class name scope children is = subst (λ (c : Class). Met kind c scope children) (sym is)

-- the two halves of Calm's condition
halves : (scope : Scope) (kind : ElementCategory) → admits scope kind ≡ true → (may_hold scope.parent kind ≡ true) × (not (bars scope kind) ≡ true)
halves scope kind h = and_parts (may_hold scope.parent kind) (not (bars scope kind)) h

neither : (x y : Bool) → not (x || y) ≡ true → (not x ≡ true) × (not y ≡ true)
neither true y h = absurd (true≢false (sym h))
neither false y h = (refl, h)

none_below : (children : ValueTrees) → children ≡ no_trees → is_none (plain_nodes children) ≡ true
none_below children e = ap (λ t. is_none (plain_nodes t)) e

as_phrase : (name : List ℕ) → class_of name ≡ APhrase → Meets Phrase name
as_phrase name is scope children i h v m p c =
    let a : (may_hold scope.parent Phrase ≡ true) × (not (bars scope Phrase) ≡ true) = halves scope Phrase h in
    met Phrase APhrase name scope children is (holds_Phrase scope.parent i a.0, refl, refl)

as_formatting : (name : List ℕ) → class_of name ≡ AFormatting → Meets Phrase name
as_formatting name is scope children i h v m p c =
    let a : (may_hold scope.parent Phrase ≡ true) × (not (bars scope Phrase) ≡ true) = halves scope Phrase h in
    met Phrase AFormatting name scope children is (holds_Phrase scope.parent i a.0, refl, refl)

as_void : (name : List ℕ) → class_of name ≡ AVoid → is_among name void_names ≡ true → Meets Phrase name
as_void name is empty scope children i h v m p c =
    let a : (may_hold scope.parent Phrase ≡ true) × (not (bars scope Phrase) ≡ true) = halves scope Phrase h in
    met Phrase AVoid name scope children is (both_true (holds_Phrase scope.parent i a.0) (none_below children (v empty)), refl, refl)

as_source : (name : List ℕ) → class_of name ≡ ASource → is_among name void_names ≡ true → Meets Phrase name
as_source name is empty scope children i h v m p c =
    let a : (may_hold scope.parent Phrase ≡ true) × (not (bars scope Phrase) ≡ true) = halves scope Phrase h in
    met Phrase ASource name scope children is (both_true (holds_Phrase scope.parent i a.0) (none_below children (v empty)), refl, refl)

as_input : (name : List ℕ) → class_of name ≡ AnInput → is_among name void_names ≡ true → Meets Phrase name
as_input name is empty scope children i h v m p c =
    let a : (may_hold scope.parent Phrase ≡ true) × (not (bars scope Phrase) ≡ true) = halves scope Phrase h in
    met Phrase AnInput name scope children is (both_true (holds_Phrase scope.parent i a.0) (none_below children (v empty)), refl, refl)

as_metadata : (name : List ℕ) → class_of name ≡ AMetadata → is_among name void_names ≡ true → Meets Metadata name
as_metadata name is empty scope children i h v m p c =
    let a : (may_hold scope.parent Metadata ≡ true) × (not (bars scope Metadata) ≡ true) = halves scope Metadata h in
    met Metadata AMetadata name scope children is (both_true (holds_Metadata scope.parent i a.0) (none_below children (v empty)), refl, refl)

as_column : (name : List ℕ) → class_of name ≡ AColumn → is_among name void_names ≡ true → Meets Column name
as_column name is empty scope children i h v m p c =
    let a : (may_hold scope.parent Column ≡ true) × (not (bars scope Column) ≡ true) = halves scope Column h in
    met Column AColumn name scope children is (both_true (holds_Column scope.parent i a.0) (none_below children (v empty)), refl, refl)

as_block : (name : List ℕ) → class_of name ≡ ABlock → Meets Block name
as_block name is scope children i h v m p c =
    let a : (may_hold scope.parent Block ≡ true) × (not (bars scope Block) ≡ true) = halves scope Block h in
    met Block ABlock name scope children is (both_true (holds_Block scope.parent i a.0) a.1, refl, refl)

as_list : (name : List ℕ) → class_of name ≡ AList → Meets ItemList name
as_list name is scope children i h v m p c =
    let a : (may_hold scope.parent ItemList ≡ true) × (not (bars scope ItemList) ≡ true) = halves scope ItemList h in
    met ItemList AList name scope children is (both_true (holds_ItemList scope.parent i a.0) a.1, refl, refl)

as_description_list : (name : List ℕ) → class_of name ≡ ADescriptionList → Meets DescriptionList name
as_description_list name is scope children i h v m p c =
    let a : (may_hold scope.parent DescriptionList ≡ true) × (not (bars scope DescriptionList) ≡ true) = halves scope DescriptionList h in
    met DescriptionList ADescriptionList name scope children is (both_true (holds_DescriptionList scope.parent i a.0) a.1, refl, refl)

as_paragraph : (name : List ℕ) → class_of name ≡ AParagraph → Meets Paragraph name
as_paragraph name is scope children i h v m p c =
    let a : (may_hold scope.parent Paragraph ≡ true) × (not (bars scope Paragraph) ≡ true) = halves scope Paragraph h in
    met Paragraph AParagraph name scope children is (both_true (holds_Paragraph scope.parent i a.0) a.1, refl, refl)

as_table : (name : List ℕ) → class_of name ≡ ATable → Meets Table name
as_table name is scope children i h v m p c =
    let a : (may_hold scope.parent Table ≡ true) × (not (bars scope Table) ≡ true) = halves scope Table h in
    met Table ATable name scope children is (both_true (holds_Table scope.parent i a.0) a.1, refl, refl)

as_anchor : (name : List ℕ) → class_of name ≡ AnAnchor → Meets Anchor name
as_anchor name is scope children i h v m p c =
    let a : (may_hold scope.parent Anchor ≡ true) × (not (bars scope Anchor) ≡ true) = halves scope Anchor h in
    met Anchor AnAnchor name scope children is (both_true (holds_Anchor scope.parent i a.0) a.1, refl, refl)

as_button : (name : List ℕ) → class_of name ≡ AButton → Meets Button name
as_button name is scope children i h v m p c =
    let a : (may_hold scope.parent Button ≡ true) × (not (bars scope Button) ≡ true) = halves scope Button h in
    met Button AButton name scope children is (both_true (holds_Button scope.parent i a.0) a.1, refl, refl)

as_break : (name : List ℕ) → class_of name ≡ ABreak → is_among name void_names ≡ true → Meets Block name
as_break name is empty scope children i h v m p c =
    let a : (may_hold scope.parent Block ≡ true) × (not (bars scope Block) ≡ true) = halves scope Block h in
    met Block ABreak name scope children is (both_true (both_true (holds_Block scope.parent i a.0) a.1) (none_below children (v empty)), refl, refl)

as_caption : (name : List ℕ) → class_of name ≡ ACaption → Meets Caption name
as_caption name is scope children i h v m p c =
    let a : (may_hold scope.parent Caption ≡ true) × (not (bars scope Caption) ≡ true) = halves scope Caption h in
    met Caption ACaption name scope children is (holds_Caption scope.parent i a.0, refl, refl)

as_column_group : (name : List ℕ) → class_of name ≡ AColumnGroup → Meets ColumnGroup name
as_column_group name is scope children i h v m p c =
    let a : (may_hold scope.parent ColumnGroup ≡ true) × (not (bars scope ColumnGroup) ≡ true) = halves scope ColumnGroup h in
    met ColumnGroup AColumnGroup name scope children is (holds_ColumnGroup scope.parent i a.0, refl, refl)

as_row_group : (name : List ℕ) → class_of name ≡ ARowGroup → Meets RowGroup name
as_row_group name is scope children i h v m p c =
    let a : (may_hold scope.parent RowGroup ≡ true) × (not (bars scope RowGroup) ≡ true) = halves scope RowGroup h in
    met RowGroup ARowGroup name scope children is (holds_RowGroup scope.parent i a.0, refl, refl)

as_row : (name : List ℕ) → class_of name ≡ ARow → Meets TableRow name
as_row name is scope children i h v m p c =
    let a : (may_hold scope.parent TableRow ≡ true) × (not (bars scope TableRow) ≡ true) = halves scope TableRow h in
    met TableRow ARow name scope children is (holds_TableRow scope.parent i a.0, refl, refl)

as_cell : (name : List ℕ) → class_of name ≡ ACell → Meets Cell name
as_cell name is scope children i h v m p c =
    let a : (may_hold scope.parent Cell ≡ true) × (not (bars scope Cell) ≡ true) = halves scope Cell h in
    met Cell ACell name scope children is (holds_Cell scope.parent i a.0, refl, refl)

as_heading : (name : List ℕ) → class_of name ≡ AHeading → Meets Heading name
as_heading name is scope children i h v m p c =
    let a : (may_hold scope.parent Heading ≡ true) × (not (bars scope Heading) ≡ true) = halves scope Heading h in
    let b : (is_flow (place_in scope.parent) ≡ true) × (not (is_heading (place_in scope.parent)) ≡ true) =
    and_parts (is_flow (place_in scope.parent)) (not (is_heading (place_in scope.parent))) (holds_Heading scope.parent i a.0) in
    met Heading AHeading name scope children is (both_true (both_true b.0 a.1) b.1, refl, refl)

as_form : (name : List ℕ) → class_of name ≡ AForm → Meets Form name
as_form name is scope children i h v m p c =
    let a : (may_hold scope.parent Form ≡ true) × (not (bars scope Form) ≡ true) = halves scope Form h in
    let b : (not scope.in_paragraph ≡ true) × (not scope.in_form ≡ true) = neither scope.in_paragraph scope.in_form a.1 in
    met Form AForm name scope children is (both_true (both_true (holds_Form scope.parent i a.0) b.0) b.1, refl, refl)

-- the first text of a `pre` begins with no line feed
feedless : (children : ValueTrees) (scope : Scope) → IsPlainTrees false children → are_calm (inside scope Pre) children ≡ true → not (begins_feed (plain_nodes children)) ≡ true
feedless no_trees scope p c = refl
feedless (text_node contents later) scope p c =
    let h : (not (begins_line contents) ≡ true) × (are_calm (behind (inside scope Pre)) later ≡ true) = and_parts (not (begins_line contents)) (are_calm (behind (inside scope Pre)) later) c in
    by_chars (chars contents) refl (not_so (begins_line contents) h.0)
  where
    by_chars : (cs : List ℕ) → chars contents ≡ cs → begins_line contents ≡ false → not (begins_feed (plain_nodes (text_node contents later))) ≡ true
    by_chars [] e f = ap (λ t. not (begins_feed (text t (plain_nodes later)))) e
    by_chars (x ∷ xs) e f = ap (λ t. not (begins_feed (text t (plain_nodes later)))) e ∙ ap not (feed_chars contents p.1 f x xs e)
feedless (comment_node contents later) scope p c = refl
feedless (doctype_node name public system later) scope p c = refl
feedless (element_node name attributes below later) scope p c = refl

as_pre : (name : List ℕ) → class_of name ≡ APre → Meets Pre name
as_pre name is scope children i h v m p c =
    let a : (may_hold scope.parent Pre ≡ true) × (not (bars scope Pre) ≡ true) = halves scope Pre h in
    met Pre APre name scope children is (both_true (both_true (holds_Pre scope.parent i a.0) a.1) (feedless children scope p c), refl, refl)

as_item : (name : List ℕ) → class_of name ≡ AnItem → Meets Item name
as_item name is scope children i h v m p c =
    let a : (may_hold scope.parent Item ≡ true) × (not (bars scope Item) ≡ true) = halves scope Item h in
    met Item AnItem name scope children is (holds_Item scope.parent i a.0, refl, refl)

as_description : (name : List ℕ) → class_of name ≡ ADescription → Meets Description name
as_description name is scope children i h v m p c =
    let a : (may_hold scope.parent Description ≡ true) × (not (bars scope Description) ≡ true) = halves scope Description h in
    met Description ADescription name scope children is (holds_Description scope.parent i a.0, refl, refl)

as_ruby : (name : List ℕ) → class_of name ≡ ARuby → Meets Ruby name
as_ruby name is scope children i h v m p c =
    let a : (may_hold scope.parent Ruby ≡ true) × (not (bars scope Ruby) ≡ true) = halves scope Ruby h in
    met Ruby ARuby name scope children is (holds_Ruby scope.parent i a.0, refl, refl)

as_ruby_text : (name : List ℕ) → class_of name ≡ ARubyText → Meets RubyText name
as_ruby_text name is scope children i h v m p c =
    let a : (may_hold scope.parent RubyText ≡ true) × (not (bars scope RubyText) ≡ true) = halves scope RubyText h in
    met RubyText ARubyText name scope children is (holds_RubyText scope.parent i a.0, refl, refl)

-- an element that holds a text alone holds one or none
raw_text : (name : List ℕ) (children : ValueTrees) → IsPlainIn (raw_text_of name) children → is_raw (plain_nodes children) ≡ true
raw_text name no_trees p = refl
raw_text name (text_node contents no_trees) p = refl
raw_text name (text_node contents (text_node more later)) p = absurd p
raw_text name (text_node contents (comment_node more later)) p = absurd p
raw_text name (text_node contents (doctype_node n public system later)) p = absurd p
raw_text name (text_node contents (element_node n attributes below later)) p = absurd p
raw_text name (comment_node contents later) p = absurd p
raw_text name (doctype_node n public system later) p = absurd p
raw_text name (element_node n attributes below later) p = absurd p

own_text : (name : List ℕ) (children : ValueTrees) → IsPlainIn (text_of name) children → is_raw (plain_nodes children) ≡ true
own_text name no_trees p = refl
own_text name (text_node contents no_trees) p = refl
own_text name (text_node contents (text_node more later)) p = absurd p
own_text name (text_node contents (comment_node more later)) p = absurd p
own_text name (text_node contents (doctype_node n public system later)) p = absurd p
own_text name (text_node contents (element_node n attributes below later)) p = absurd p
own_text name (comment_node contents later) p = absurd p
own_text name (doctype_node n public system later) p = absurd p
own_text name (element_node n attributes below later) p = absurd p

as_raw : (name : List ℕ) → class_of name ≡ ARawText → ((children : ValueTrees) → IsPlainIn (mode_in name) children → is_raw (plain_nodes children) ≡ true) → Meets Verbatim name
as_raw name is raw scope children i h v m p c =
    let a : (may_hold scope.parent Verbatim ≡ true) × (not (bars scope Verbatim) ≡ true) = halves scope Verbatim h in
    met Verbatim ARawText name scope children is (both_true (holds_Verbatim scope.parent i a.0) (raw children m), refl, refl)

-- ---- each name of a category

-- by the first of the names that is the same
pub of_names : (P : List ℕ → Type 0) (names : List (List ℕ)) → Each P names → (n : List ℕ) → is_among n names ≡ true → P n
of_names P [] each n h = absurd (true≢false (sym h))
of_names P (m ∷ names) each n h = by_test (of_names P names each.1 n) (bytes_eq m n) refl h
  where
    by_test : (is_among n names ≡ true → P n) → (b : Bool) → bytes_eq m n ≡ b → (b || is_among n names) ≡ true → P n
    by_test others true e k = subst P ((bytes_eq-Decides m n).0 e) each.0
    by_test others false e k = others k

metadata_names : Each (Meets Metadata) (names_of Metadata)
unfolding names_of void_names raw_names text_names
metadata_names = (as_metadata (codes "base") refl refl, (as_metadata (codes "link") refl refl, (as_metadata (codes "meta") refl refl, tt)))

verbatim_names : Each (Meets Verbatim) (names_of Verbatim)
unfolding names_of void_names raw_names text_names
verbatim_names = (as_raw (codes "script") refl (raw_text (codes "script")), (as_raw (codes "style") refl (raw_text (codes "style")), (as_raw (codes "title") refl (own_text (codes "title")), tt)))

phrase_names : Each (Meets Phrase) (names_of Phrase)
unfolding names_of void_names raw_names text_names
phrase_names = (
  as_phrase (codes "abbr") refl,
  (
    as_phrase (codes "acronym") refl,
    (
      as_void (codes "area") refl refl,
      (
        as_phrase (codes "audio") refl,
        (
          as_formatting (codes "b") refl,
          (
            as_phrase (codes "bdi") refl,
            (
              as_phrase (codes "bdo") refl,
              (
                as_formatting (codes "big") refl,
                (
                  as_void (codes "br") refl refl,
                  (
                    as_phrase (codes "canvas") refl,
                    (
                      as_phrase (codes "cite") refl,
                      (
                        as_formatting (codes "code") refl,
                        (
                          as_phrase (codes "data") refl,
                          (
                            as_phrase (codes "datalist") refl,
                            (
                              as_phrase (codes "del") refl,
                              (
                                as_phrase (codes "dfn") refl,
                                (
                                  as_formatting (codes "em") refl,
                                  (
                                    as_void (codes "embed") refl refl,
                                    (
                                      as_formatting (codes "font") refl,
                                      (
                                        as_formatting (codes "i") refl,
                                        (
                                          as_void (codes "img") refl refl,
                                          (
                                            as_input (codes "input") refl refl,
                                            (
                                              as_phrase (codes "ins") refl,
                                              (
                                                as_phrase (codes "kbd") refl,
                                                (
                                                  as_phrase (codes "label") refl,
                                                  (
                                                    as_phrase (codes "legend") refl,
                                                    (
                                                      as_phrase (codes "map") refl,
                                                      (
                                                        as_phrase (codes "mark") refl,
                                                        (
                                                          as_phrase (codes "meter") refl,
                                                          (
                                                            as_phrase (codes "output") refl,
                                                            (
                                                              as_phrase (codes "picture") refl,
                                                              (
                                                                as_phrase (codes "progress") refl,
                                                                (
                                                                  as_phrase (codes "q") refl,
                                                                  (
                                                                    as_formatting (codes "s") refl,
                                                                    (
                                                                      as_phrase (codes "samp") refl,
                                                                      (
                                                                        as_phrase (codes "slot") refl,
                                                                        (
                                                                          as_formatting (codes "small") refl,
                                                                          (
                                                                            as_source (codes "source") refl refl,
                                                                            (
                                                                              as_phrase (codes "span") refl,
                                                                              (
                                                                                as_formatting (codes "strike") refl,
                                                                                (
                                                                                  as_formatting (codes "strong") refl,
                                                                                  (
                                                                                    as_phrase (codes "sub") refl,
                                                                                    (
                                                                                      as_phrase (codes "sup") refl,
                                                                                      (as_phrase (codes "time") refl, (as_source (codes "track") refl refl, (as_formatting (codes "tt") refl, (as_formatting (codes "u") refl, (as_phrase (codes "var") refl, (as_phrase (codes "video") refl, (as_void (codes "wbr") refl refl, tt))))))),
                                                                                    ),
                                                                                  ),
                                                                                ),
                                                                              ),
                                                                            ),
                                                                          ),
                                                                        ),
                                                                      ),
                                                                    ),
                                                                  ),
                                                                ),
                                                              ),
                                                            ),
                                                          ),
                                                        ),
                                                      ),
                                                    ),
                                                  ),
                                                ),
                                              ),
                                            ),
                                          ),
                                        ),
                                      ),
                                    ),
                                  ),
                                ),
                              ),
                            ),
                          ),
                        ),
                      ),
                    ),
                  ),
                ),
              ),
            ),
          ),
        ),
      ),
    ),
  ),
)

anchor_names : Each (Meets Anchor) (names_of Anchor)
unfolding names_of void_names raw_names text_names
anchor_names = (as_anchor (codes "a") refl, tt)

button_names : Each (Meets Button) (names_of Button)
unfolding names_of void_names raw_names text_names
button_names = (as_button (codes "button") refl, tt)

paragraph_names : Each (Meets Paragraph) (names_of Paragraph)
unfolding names_of void_names raw_names text_names
paragraph_names = (as_paragraph (codes "p") refl, tt)

block_names : Each (Meets Block) (names_of Block)
unfolding names_of void_names raw_names text_names
block_names = (
  as_block (codes "address") refl,
  (
    as_block (codes "article") refl,
    (
      as_block (codes "aside") refl,
      (
        as_block (codes "blockquote") refl,
        (
          as_block (codes "center") refl,
          (
            as_block (codes "details") refl,
            (
              as_block (codes "dialog") refl,
              (
                as_block (codes "div") refl,
                (
                  as_block (codes "fieldset") refl,
                  (
                    as_block (codes "figcaption") refl,
                    (
                      as_block (codes "figure") refl,
                      (
                        as_block (codes "footer") refl,
                        (as_block (codes "header") refl, (as_block (codes "hgroup") refl, (as_break (codes "hr") refl refl, (as_block (codes "main") refl, (as_block (codes "nav") refl, (as_block (codes "search") refl, (as_block (codes "section") refl, (as_block (codes "summary") refl, tt)))))))),
                      ),
                    ),
                  ),
                ),
              ),
            ),
          ),
        ),
      ),
    ),
  ),
)

heading_names : Each (Meets Heading) (names_of Heading)
unfolding names_of void_names raw_names text_names
heading_names = (as_heading (codes "h1") refl, (as_heading (codes "h2") refl, (as_heading (codes "h3") refl, (as_heading (codes "h4") refl, (as_heading (codes "h5") refl, (as_heading (codes "h6") refl, tt))))))

form_names : Each (Meets Form) (names_of Form)
unfolding names_of void_names raw_names text_names
form_names = (as_form (codes "form") refl, tt)

pre_names : Each (Meets Pre) (names_of Pre)
unfolding names_of void_names raw_names text_names
pre_names = (as_pre (codes "pre") refl, tt)

itemlist_names : Each (Meets ItemList) (names_of ItemList)
unfolding names_of void_names raw_names text_names
itemlist_names = (as_list (codes "dir") refl, (as_list (codes "menu") refl, (as_list (codes "ol") refl, (as_list (codes "ul") refl, tt))))

item_names : Each (Meets Item) (names_of Item)
unfolding names_of void_names raw_names text_names
item_names = (as_item (codes "li") refl, tt)

descriptionlist_names : Each (Meets DescriptionList) (names_of DescriptionList)
unfolding names_of void_names raw_names text_names
descriptionlist_names = (as_description_list (codes "dl") refl, tt)

description_names : Each (Meets Description) (names_of Description)
unfolding names_of void_names raw_names text_names
description_names = (as_description (codes "dd") refl, (as_description (codes "dt") refl, tt))

ruby_names : Each (Meets Ruby) (names_of Ruby)
unfolding names_of void_names raw_names text_names
ruby_names = (as_ruby (codes "ruby") refl, tt)

rubytext_names : Each (Meets RubyText) (names_of RubyText)
unfolding names_of void_names raw_names text_names
rubytext_names = (as_ruby_text (codes "rp") refl, (as_ruby_text (codes "rt") refl, tt))

table_names : Each (Meets Table) (names_of Table)
unfolding names_of void_names raw_names text_names
table_names = (as_table (codes "table") refl, tt)

caption_names : Each (Meets Caption) (names_of Caption)
unfolding names_of void_names raw_names text_names
caption_names = (as_caption (codes "caption") refl, tt)

columngroup_names : Each (Meets ColumnGroup) (names_of ColumnGroup)
unfolding names_of void_names raw_names text_names
columngroup_names = (as_column_group (codes "colgroup") refl, tt)

column_names : Each (Meets Column) (names_of Column)
unfolding names_of void_names raw_names text_names
column_names = (as_column (codes "col") refl refl, tt)

rowgroup_names : Each (Meets RowGroup) (names_of RowGroup)
unfolding names_of void_names raw_names text_names
rowgroup_names = (as_row_group (codes "tbody") refl, (as_row_group (codes "tfoot") refl, (as_row_group (codes "thead") refl, tt)))

tablerow_names : Each (Meets TableRow) (names_of TableRow)
unfolding names_of void_names raw_names text_names
tablerow_names = (as_row (codes "tr") refl, tt)

cell_names : Each (Meets Cell) (names_of Cell)
unfolding names_of void_names raw_names text_names
cell_names = (as_cell (codes "td") refl, (as_cell (codes "th") refl, tt))

-- a name of such a category
meets : (kind : ElementCategory) (name : List ℕ) → is_among name (names_of kind) ≡ true → Meets kind name
unfolding names_of
meets Document name is = absurd (true≢false (sym is))
meets Html name is = λ scope children i h v m p c. absurd (true≢false (sym (holds_no_Html scope.parent i (halves scope Html h).0)))
meets Head name is = λ scope children i h v m p c. absurd (true≢false (sym (holds_no_Head scope.parent i (halves scope Head h).0)))
meets Body name is = λ scope children i h v m p c. absurd (true≢false (sym (holds_no_Body scope.parent i (halves scope Body h).0)))
meets Metadata name is = of_names (Meets Metadata) (names_of Metadata) metadata_names name is
meets Verbatim name is = of_names (Meets Verbatim) (names_of Verbatim) verbatim_names name is
meets Phrase name is = of_names (Meets Phrase) (names_of Phrase) phrase_names name is
meets Anchor name is = of_names (Meets Anchor) (names_of Anchor) anchor_names name is
meets Button name is = of_names (Meets Button) (names_of Button) button_names name is
meets Paragraph name is = of_names (Meets Paragraph) (names_of Paragraph) paragraph_names name is
meets Block name is = of_names (Meets Block) (names_of Block) block_names name is
meets Heading name is = of_names (Meets Heading) (names_of Heading) heading_names name is
meets Form name is = of_names (Meets Form) (names_of Form) form_names name is
meets Pre name is = of_names (Meets Pre) (names_of Pre) pre_names name is
meets ItemList name is = of_names (Meets ItemList) (names_of ItemList) itemlist_names name is
meets Item name is = of_names (Meets Item) (names_of Item) item_names name is
meets DescriptionList name is = of_names (Meets DescriptionList) (names_of DescriptionList) descriptionlist_names name is
meets Description name is = of_names (Meets Description) (names_of Description) description_names name is
meets Ruby name is = of_names (Meets Ruby) (names_of Ruby) ruby_names name is
meets RubyText name is = of_names (Meets RubyText) (names_of RubyText) rubytext_names name is
meets Table name is = of_names (Meets Table) (names_of Table) table_names name is
meets Caption name is = of_names (Meets Caption) (names_of Caption) caption_names name is
meets ColumnGroup name is = of_names (Meets ColumnGroup) (names_of ColumnGroup) columngroup_names name is
meets Column name is = of_names (Meets Column) (names_of Column) column_names name is
meets RowGroup name is = of_names (Meets RowGroup) (names_of RowGroup) rowgroup_names name is
meets TableRow name is = of_names (Meets TableRow) (names_of TableRow) tablerow_names name is
meets Cell name is = of_names (Meets Cell) (names_of Cell) cell_names name is
meets Other name is = absurd (true≢false (sym is))

-- the category of a name has it, or it is none of them
by_category : (name : List ℕ) (kinds : List ElementCategory) → Meets (kind_among name kinds) name
by_category name [] = λ scope children i h v m p c. absurd (true≢false (sym (holds_no_Other scope.parent i (halves scope Other h).0)))
by_category name (kind ∷ kinds) = by_test (is_among name (names_of kind)) (meets kind name) (by_category name kinds)
  where
    by_test : (x : Bool) → (x ≡ true → Meets kind name) → Meets (kind_among name kinds) name → Meets (if x then kind else kind_among name kinds) name
    by_test true f g = f refl
    by_test false f g = g

of_kind : (name : List ℕ) → Meets (kind_of name) name
unfolding kind_of
of_kind name = by_category name named_kinds

-- ---- trees

same_begin : (t : ValueTrees) → begins_text (plain_nodes t) ≡ begins_with_text t
same_begin no_trees = refl
same_begin (text_node contents later) = refl
same_begin (comment_node contents later) = refl
same_begin (doctype_node name public system later) = refl
same_begin (element_node name attributes children later) = refl

-- what a node may stand in behind another is the same to the rules
place_behind : (p : ElementCategory) → place_in (behind_first p) ≡ place_in p
place_behind Document = refl
place_behind Html = refl
place_behind Head = refl
place_behind Body = refl
place_behind Metadata = refl
place_behind Verbatim = refl
place_behind Phrase = refl
place_behind Anchor = refl
place_behind Button = refl
place_behind Paragraph = refl
place_behind Block = refl
place_behind Heading = refl
place_behind Form = refl
place_behind Pre = refl
place_behind ItemList = refl
place_behind Item = refl
place_behind DescriptionList = refl
place_behind Description = refl
place_behind Ruby = refl
place_behind RubyText = refl
place_behind Table = refl
place_behind Caption = refl
place_behind ColumnGroup = refl
place_behind Column = refl
place_behind RowGroup = refl
place_behind TableRow = refl
place_behind Cell = refl
place_behind Other = refl

pub inner_behind : (p : ElementCategory) → is_inner p ≡ true → is_inner (behind_first p) ≡ true
inner_behind Document i = i
inner_behind Html i = i
inner_behind Head i = i
inner_behind Body i = i
inner_behind Metadata i = i
inner_behind Verbatim i = i
inner_behind Phrase i = i
inner_behind Anchor i = i
inner_behind Button i = i
inner_behind Paragraph i = i
inner_behind Block i = i
inner_behind Heading i = i
inner_behind Form i = i
inner_behind Pre i = i
inner_behind ItemList i = i
inner_behind Item i = i
inner_behind DescriptionList i = i
inner_behind Description i = i
inner_behind Ruby i = i
inner_behind RubyText i = i
inner_behind Table i = i
inner_behind Caption i = i
inner_behind ColumnGroup i = i
inner_behind Column i = i
inner_behind RowGroup i = i
inner_behind TableRow i = i
inner_behind Cell i = i
inner_behind Other i = i

plain_behind : (scope : Scope) (t : ValueTrees) → are_plain (within (behind scope)) (plain_nodes t) ≡ true → are_plain (within scope) (plain_nodes t) ≡ true
plain_behind scope t h = ap (λ place. are_plain (record (within scope) { place = place }) (plain_nodes t)) (sym (place_behind scope.parent)) ∙ h

-- calm trees inside a head or a body are plain
pub calm_is_plain : (scope : Scope) (t : ValueTrees) → is_inner scope.parent ≡ true → IsPlainTrees false t → have_no_null t ≡ true → are_calm scope t ≡ true → are_plain (within scope) (plain_nodes t) ≡ true
calm_is_plain scope no_trees i p z c = refl
calm_is_plain scope (text_node contents later) i p z c =
    let h : (may_hold_text scope.parent contents ≡ true) × (are_calm (behind scope) later ≡ true) = and_parts (may_hold_text scope.parent contents) (are_calm (behind scope) later) c in
    let n : (list_all (λ c. not (c == 0)) (chars contents) ≡ true) × (have_no_null later ≡ true) = and_parts (list_all (λ c. not (c == 0)) (chars contents)) (have_no_null later) z in
    both_true (both_true (text_in scope.parent contents p.1 p.0 n.0 h.0) (ap not (same_begin later ∙ p.2))) (plain_behind scope later (calm_is_plain (behind scope) later (inner_behind scope.parent i) p.3 n.1 h.1))
calm_is_plain scope (comment_node contents later) i p z c =
    let h : (may_hold_comment scope.parent contents ≡ true) × (are_calm (behind scope) later ≡ true) = and_parts (may_hold_comment scope.parent contents) (are_calm (behind scope) later) c in
    plain_behind scope later (calm_is_plain (behind scope) later (inner_behind scope.parent i) p.1 z h.1)
calm_is_plain scope (doctype_node name public system later) i p z c = absurd (true≢false (sym p.0))
calm_is_plain scope (element_node name attributes children later) i p z c =
    let h : ((admits scope (kind_of name) && are_calm (inside scope (kind_of name)) children) ≡ true) × (are_calm (behind scope) later ≡ true) =
    and_parts (admits scope (kind_of name) && are_calm (inside scope (kind_of name)) children) (are_calm (behind scope) later) c in
    let k : (admits scope (kind_of name) ≡ true) × (are_calm (inside scope (kind_of name)) children ≡ true) = and_parts (admits scope (kind_of name)) (are_calm (inside scope (kind_of name)) children) h.0 in
    let n : (have_no_null children ≡ true) × (have_no_null later ≡ true) = and_parts (have_no_null children) (have_no_null later) z in
    let m : (admits_class (within scope) (class_of name) (plain_nodes children) ≡ true) × (inside_class (within scope) (class_of name) ≡ within (inside scope (kind_of name))) × (is_inner (inside scope (kind_of name)).parent ≡ true) =
    of_kind name scope children i k.0 p.3 p.4 p.5 k.1 in
    both_true
    (both_true m.0 (ap (λ (w : Within). are_plain w (plain_nodes children)) m.1 ∙ calm_is_plain (inside scope (kind_of name)) children m.2 p.5 n.0 k.1))
    (plain_behind scope later (calm_is_plain (behind scope) later (inner_behind scope.parent i) p.6 n.1 h.1))
