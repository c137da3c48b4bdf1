-- What may be where by the categories of Calm may be there by the places of the rules.
use Rattle.std.specs.Prelude.{◌≡◌, ◌≢◌, ℕ, zero, suc, Bool, true, false, not, ◌==◌, ◌||◌, ◌&&◌, List, [], ◌∷◌, refl}
use Rattle.std.specs.List.{list_all}
use Rattle.std.specs.Str.{IsUtf8, chars}
use Rattle.std.proofs.lemmas.Bool.{true≢false}
use Rattle.std.specs.Cmp.Derive.{both_true}
use Rattle.dom_nodes.specs.NameLaws.{both_true as both_of}
use mathlib.Core.Path.{sym}
use Rattle.calm_pages.specs.Calm.{may_hold_text}
use Rattle.page_trees.specs.ElementKinds.{may_hold}
use Rattle.page_trees.specs.declared.element_kinds.ElementCategory.{ElementCategory}
use Rattle.page_trees.specs.declared.element_kinds.ElementCategory.TheVariants.{Document, Html, Head, Body, Metadata, Verbatim, Phrase, Anchor, Button, Paragraph, Block, Heading, Form, Pre, ItemList, Item, DescriptionList, Description, Ruby, RubyText, Table, Caption, ColumnGroup, Column, RowGroup}
use Rattle.page_trees.specs.declared.element_kinds.ElementCategory.TheVariants.{TableRow, Cell, Other}
use Rattle.standard_rules.specs.PlainTrees.{is_column_group, is_description_list, is_flow, is_head, is_heading, is_list, is_row, is_row_group, is_ruby, is_table, may_be_text}
use Rattle.standard_laws.proofs.PlainNodes.{place_in}
use Rattle.standard_laws.proofs.CharTexts.{space_chars, text_chars}

-- a category of elements inside a head or a body
abbrev pub is_inner : ElementCategory → Bool
is_inner Document = false
is_inner Html = false
is_inner category = true

-- ---- what holds of all categories, by computation

abbrev pub every : List ElementCategory
every =
    Document ∷ Html ∷ Head ∷ Body ∷ Metadata ∷ Verbatim ∷ Phrase ∷ Anchor ∷ Button ∷ Paragraph ∷ Block ∷ Heading ∷ Form ∷
    Pre ∷ ItemList ∷ Item ∷ DescriptionList ∷ Description ∷ Ruby ∷ RubyText ∷ Table ∷ Caption ∷ ColumnGroup ∷ Column ∷
    RowGroup ∷ TableRow ∷ Cell ∷ Other ∷ []

-- the category at a place of a list
abbrev pub at : List ElementCategory → ℕ → ElementCategory
at [] n = Document
at (c ∷ cs) zero = c
at (c ∷ cs) (suc n) = at cs n

-- what holds of each category of a list holds of the one at a place
pub holds_at : (f : ElementCategory → Bool) (cs : List ElementCategory) (n : ℕ) → f Document ≡ true → list_all f cs ≡ true → f (at cs n) ≡ true
holds_at f [] n first all = first
holds_at f (c ∷ cs) zero first all = (both_of (f c) (list_all f cs) all).0
holds_at f (c ∷ cs) (suc n) first all = holds_at f cs n first (both_of (f c) (list_all f cs) all).1

pub of_every : (f : ElementCategory → Bool) → f Document ≡ true → list_all f every ≡ true → (p : ElementCategory) → f p ≡ true
of_every f first all Document = holds_at f every 0 first all
of_every f first all Html = holds_at f every 1 first all
of_every f first all Head = holds_at f every 2 first all
of_every f first all Body = holds_at f every 3 first all
of_every f first all Metadata = holds_at f every 4 first all
of_every f first all Verbatim = holds_at f every 5 first all
of_every f first all Phrase = holds_at f every 6 first all
of_every f first all Anchor = holds_at f every 7 first all
of_every f first all Button = holds_at f every 8 first all
of_every f first all Paragraph = holds_at f every 9 first all
of_every f first all Block = holds_at f every 10 first all
of_every f first all Heading = holds_at f every 11 first all
of_every f first all Form = holds_at f every 12 first all
of_every f first all Pre = holds_at f every 13 first all
of_every f first all ItemList = holds_at f every 14 first all
of_every f first all Item = holds_at f every 15 first all
of_every f first all DescriptionList = holds_at f every 16 first all
of_every f first all Description = holds_at f every 17 first all
of_every f first all Ruby = holds_at f every 18 first all
of_every f first all RubyText = holds_at f every 19 first all
of_every f first all Table = holds_at f every 20 first all
of_every f first all Caption = holds_at f every 21 first all
of_every f first all ColumnGroup = holds_at f every 22 first all
of_every f first all Column = holds_at f every 23 first all
of_every f first all RowGroup = holds_at f every 24 first all
of_every f first all TableRow = holds_at f every 25 first all
of_every f first all Cell = holds_at f every 26 first all
of_every f first all Other = holds_at f every 27 first all

-- it is not so, or else the place is such a one
abbrev pub fits : (ElementCategory → Bool) → ElementCategory → ElementCategory → Bool
fits is c p = not (is_inner p && may_hold p c) || is p

pub is_so : (a b r : Bool) → a ≡ true → b ≡ true → (not (a && b) || r) ≡ true → r ≡ true
is_so true true r ha hb h = h
is_so false b r ha hb h = absurd (true≢false (sym ha))
is_so true false r ha hb h = absurd (true≢false (sym hb))

-- each category that may hold elements of another is such a place, as all 28 are tried
pub holds : (is : ElementCategory → Bool) (c : ElementCategory) → fits is c Document ≡ true → list_all (fits is c) every ≡ true →
    (p : ElementCategory) → is_inner p ≡ true → may_hold p c ≡ true → is p ≡ true
holds is c first all p inner may = is_so (is_inner p) (may_hold p c) (is p) inner may (of_every (fits is c) first all p)

pub holds_Phrase : (p : ElementCategory) → is_inner p ≡ true → may_hold p Phrase ≡ true → is_flow (place_in p) ≡ true
holds_Phrase = holds (λ p. is_flow (place_in p)) Phrase refl refl

pub holds_Ruby : (p : ElementCategory) → is_inner p ≡ true → may_hold p Ruby ≡ true → is_flow (place_in p) ≡ true
holds_Ruby = holds (λ p. is_flow (place_in p)) Ruby refl refl

pub holds_Anchor : (p : ElementCategory) → is_inner p ≡ true → may_hold p Anchor ≡ true → is_flow (place_in p) ≡ true
holds_Anchor = holds (λ p. is_flow (place_in p)) Anchor refl refl

pub holds_Button : (p : ElementCategory) → is_inner p ≡ true → may_hold p Button ≡ true → is_flow (place_in p) ≡ true
holds_Button = holds (λ p. is_flow (place_in p)) Button refl refl

pub holds_Paragraph : (p : ElementCategory) → is_inner p ≡ true → may_hold p Paragraph ≡ true → is_flow (place_in p) ≡ true
holds_Paragraph = holds (λ p. is_flow (place_in p)) Paragraph refl refl

pub holds_Block : (p : ElementCategory) → is_inner p ≡ true → may_hold p Block ≡ true → is_flow (place_in p) ≡ true
holds_Block = holds (λ p. is_flow (place_in p)) Block refl refl

pub holds_Form : (p : ElementCategory) → is_inner p ≡ true → may_hold p Form ≡ true → is_flow (place_in p) ≡ true
holds_Form = holds (λ p. is_flow (place_in p)) Form refl refl

pub holds_Pre : (p : ElementCategory) → is_inner p ≡ true → may_hold p Pre ≡ true → is_flow (place_in p) ≡ true
holds_Pre = holds (λ p. is_flow (place_in p)) Pre refl refl

pub holds_ItemList : (p : ElementCategory) → is_inner p ≡ true → may_hold p ItemList ≡ true → is_flow (place_in p) ≡ true
holds_ItemList = holds (λ p. is_flow (place_in p)) ItemList refl refl

pub holds_DescriptionList : (p : ElementCategory) → is_inner p ≡ true → may_hold p DescriptionList ≡ true → is_flow (place_in p) ≡ true
holds_DescriptionList = holds (λ p. is_flow (place_in p)) DescriptionList refl refl

pub holds_Table : (p : ElementCategory) → is_inner p ≡ true → may_hold p Table ≡ true → is_flow (place_in p) ≡ true
holds_Table = holds (λ p. is_flow (place_in p)) Table refl refl

pub holds_Heading : (p : ElementCategory) → is_inner p ≡ true → may_hold p Heading ≡ true → (is_flow (place_in p) && not (is_heading (place_in p))) ≡ true
holds_Heading = holds (λ p. is_flow (place_in p) && not (is_heading (place_in p))) Heading refl refl

pub holds_Verbatim : (p : ElementCategory) → is_inner p ≡ true → may_hold p Verbatim ≡ true → (is_flow (place_in p) || is_head (place_in p)) ≡ true
holds_Verbatim = holds (λ p. is_flow (place_in p) || is_head (place_in p)) Verbatim refl refl

pub holds_Item : (p : ElementCategory) → is_inner p ≡ true → may_hold p Item ≡ true → is_list (place_in p) ≡ true
holds_Item = holds (λ p. is_list (place_in p)) Item refl refl

pub holds_Description : (p : ElementCategory) → is_inner p ≡ true → may_hold p Description ≡ true → is_description_list (place_in p) ≡ true
holds_Description = holds (λ p. is_description_list (place_in p)) Description refl refl

pub holds_RubyText : (p : ElementCategory) → is_inner p ≡ true → may_hold p RubyText ≡ true → is_ruby (place_in p) ≡ true
holds_RubyText = holds (λ p. is_ruby (place_in p)) RubyText refl refl

pub holds_Caption : (p : ElementCategory) → is_inner p ≡ true → may_hold p Caption ≡ true → is_table (place_in p) ≡ true
holds_Caption = holds (λ p. is_table (place_in p)) Caption refl refl

pub holds_ColumnGroup : (p : ElementCategory) → is_inner p ≡ true → may_hold p ColumnGroup ≡ true → is_table (place_in p) ≡ true
holds_ColumnGroup = holds (λ p. is_table (place_in p)) ColumnGroup refl refl

pub holds_RowGroup : (p : ElementCategory) → is_inner p ≡ true → may_hold p RowGroup ≡ true → is_table (place_in p) ≡ true
holds_RowGroup = holds (λ p. is_table (place_in p)) RowGroup refl refl

pub holds_Column : (p : ElementCategory) → is_inner p ≡ true → may_hold p Column ≡ true → is_column_group (place_in p) ≡ true
holds_Column = holds (λ p. is_column_group (place_in p)) Column refl refl

pub holds_TableRow : (p : ElementCategory) → is_inner p ≡ true → may_hold p TableRow ≡ true → is_row_group (place_in p) ≡ true
holds_TableRow = holds (λ p. is_row_group (place_in p)) TableRow refl refl

pub holds_Cell : (p : ElementCategory) → is_inner p ≡ true → may_hold p Cell ≡ true → is_row (place_in p) ≡ true
holds_Cell = holds (λ p. is_row (place_in p)) Cell refl refl

pub holds_Metadata : (p : ElementCategory) → is_inner p ≡ true → may_hold p Metadata ≡ true → is_head (place_in p) ≡ true
holds_Metadata = holds (λ p. is_head (place_in p)) Metadata refl refl

pub holds_no_Html : (p : ElementCategory) → is_inner p ≡ true → may_hold p Html ≡ true → false ≡ true
holds_no_Html = holds (λ p. false) Html refl refl

pub holds_no_Head : (p : ElementCategory) → is_inner p ≡ true → may_hold p Head ≡ true → false ≡ true
holds_no_Head = holds (λ p. false) Head refl refl

pub holds_no_Body : (p : ElementCategory) → is_inner p ≡ true → may_hold p Body ≡ true → false ≡ true
holds_no_Body = holds (λ p. false) Body refl refl

pub holds_no_Other : (p : ElementCategory) → is_inner p ≡ true → may_hold p Other ≡ true → false ≡ true
holds_no_Other = holds (λ p. false) Other refl refl

pub holds_no_Document : (p : ElementCategory) → is_inner p ≡ true → may_hold p Document ≡ true → false ≡ true
holds_no_Document = holds (λ p. false) Document refl refl

-- the text of a calm tree may be in its place
pub text_in : (p : ElementCategory) (bs : List ℕ) → IsUtf8 bs → bs ≢ [] → list_all (λ c. not (c == 0)) (chars bs) ≡ true → may_hold_text p bs ≡ true → may_be_text (place_in p) (chars bs) ≡ true
text_in Document bs u some z h = both_true (text_chars bs u some z) refl
text_in Html bs u some z h = both_true (text_chars bs u some z) refl
text_in Head bs u some z h = both_true (text_chars bs u some z) (space_chars bs u h)
text_in Body bs u some z h = both_true (text_chars bs u some z) refl
text_in Metadata bs u some z h = both_true (text_chars bs u some z) refl
text_in Verbatim bs u some z h = both_true (text_chars bs u some z) refl
text_in Phrase bs u some z h = both_true (text_chars bs u some z) refl
text_in Anchor bs u some z h = both_true (text_chars bs u some z) refl
text_in Button bs u some z h = both_true (text_chars bs u some z) refl
text_in Paragraph bs u some z h = both_true (text_chars bs u some z) refl
text_in Block bs u some z h = both_true (text_chars bs u some z) refl
text_in Heading bs u some z h = both_true (text_chars bs u some z) refl
text_in Form bs u some z h = both_true (text_chars bs u some z) refl
text_in Pre bs u some z h = both_true (text_chars bs u some z) refl
text_in ItemList bs u some z h = both_true (text_chars bs u some z) refl
text_in Item bs u some z h = both_true (text_chars bs u some z) refl
text_in DescriptionList bs u some z h = both_true (text_chars bs u some z) refl
text_in Description bs u some z h = both_true (text_chars bs u some z) refl
text_in Ruby bs u some z h = both_true (text_chars bs u some z) refl
text_in RubyText bs u some z h = both_true (text_chars bs u some z) refl
text_in Table bs u some z h = both_true (text_chars bs u some z) (space_chars bs u h)
text_in Caption bs u some z h = both_true (text_chars bs u some z) refl
text_in ColumnGroup bs u some z h = both_true (text_chars bs u some z) (space_chars bs u h)
text_in Column bs u some z h = both_true (text_chars bs u some z) refl
text_in RowGroup bs u some z h = both_true (text_chars bs u some z) (space_chars bs u h)
text_in TableRow bs u some z h = both_true (text_chars bs u some z) (space_chars bs u h)
text_in Cell bs u some z h = both_true (text_chars bs u some z) refl
text_in Other bs u some z h = both_true (text_chars bs u some z) refl
