-- Calm trees in the words of the older definition of tree construction, standard_rules.
use Rattle.std.specs.Prelude.{◌≡◌, refl, List, [], ◌∷◌, map}
use Rattle.std.specs.Str.{chars}
use mathlib.Core.Path.{◌∙◌, ap}
use Rattle.dom_markup.specs.ValueTrees.{Attribute, ValueTrees}
use Rattle.dom_markup.specs.ValueTrees.ValueTrees.{no_trees, text_node, comment_node, doctype_node, element_node}
use Rattle.page_trees.specs.declared.element_kinds.ElementCategory.{ElementCategory}
use Rattle.page_trees.specs.declared.element_kinds.ElementCategory.TheVariants.{Heading, ItemList, DescriptionList, Ruby, Table}
use Rattle.page_trees.specs.declared.element_kinds.ElementCategory.TheVariants.{ColumnGroup, RowGroup, TableRow, Head}
use Rattle.calm_pages.specs.declared.nesting.Scope.{Scope}
use Rattle.standard_rules.specs.PlainTrees.{Place, FlowPlace, HeadingPlace, ListPlace, DescriptionListPlace, RubyPlace, TablePlace}
use Rattle.standard_rules.specs.PlainTrees.{ColumnGroupPlace, RowGroupPlace, RowPlace, HeadPlace, Within}
use Rattle.standard_rules.specs.TreeTokens.{Trees, doctype_named, no_trees as no_nodes, text_node as text, comment_node as comment}
use Rattle.standard_rules.specs.TreeTokens.{doctype_node as doctype, element_node as element}
use Rattle.standard_tokens.specs.Tokens.{Attr}
use Rattle.standard_trees.specs.TreeStore.{Html, NoSpace, NodeAttr, Trees as WholeTrees, comment_tree, doctype_tree, element_tree, no_trees as no_whole, text_tree}
use Rattle.standard_agreement.specs.PlainPages.{node_attrs, whole}
use Rattle.standard_laws.specs.CalmTrees.{attrs_of, nodes_of}

abbrev pub plain_attrs : List Attribute → List Attr
plain_attrs attributes = map (λ a. record { name = chars a.name; value = chars a.value }) attributes

abbrev pub plain_nodes : ValueTrees → Trees
plain_nodes no_trees = no_nodes
plain_nodes (text_node contents later) = text (chars contents) (plain_nodes later)
plain_nodes (comment_node contents later) = comment (chars contents) (plain_nodes later)
plain_nodes (doctype_node name public system later) = doctype name (plain_nodes later)
plain_nodes (element_node name attributes children later) = element name (plain_attrs attributes) (plain_nodes children) (plain_nodes later)

same_attrs : (attributes : List Attribute) → node_attrs (plain_attrs attributes) ≡ attrs_of attributes
same_attrs [] = refl
same_attrs (a ∷ later) = ap (λ (attrs : List NodeAttr). record { space = NoSpace; name = chars a.name; value = chars a.value } ∷ attrs) (same_attrs later)

-- they are the same trees
pub whole_nodes : (t : ValueTrees) → whole (plain_nodes t) ≡ nodes_of t
whole_nodes no_trees = refl
whole_nodes (text_node contents later) = ap (text_tree (chars contents)) (whole_nodes later)
whole_nodes (comment_node contents later) = ap (comment_tree (chars contents)) (whole_nodes later)
whole_nodes (doctype_node name public system later) = ap (doctype_tree (doctype_named name)) (whole_nodes later)
whole_nodes (element_node name attributes children later) =
    ap (λ (attrs : List NodeAttr). element_tree Html name attrs no_whole (whole (plain_nodes children)) (whole (plain_nodes later))) (same_attrs attributes)
    ∙ ap (λ (below : WholeTrees). element_tree Html name (attrs_of attributes) no_whole below (whole (plain_nodes later))) (whole_nodes children)
    ∙ ap (λ (behind : WholeTrees). element_tree Html name (attrs_of attributes) no_whole (nodes_of children) behind) (whole_nodes later)

-- ---- places

-- what the parent's category is to the rules
abbrev pub place_in : ElementCategory → Place
place_in Heading = HeadingPlace
place_in ItemList = ListPlace
place_in DescriptionList = DescriptionListPlace
place_in Ruby = RubyPlace
place_in Table = TablePlace
place_in ColumnGroup = ColumnGroupPlace
place_in RowGroup = RowGroupPlace
place_in TableRow = RowPlace
place_in Head = HeadPlace
place_in category = FlowPlace

abbrev pub within : Scope → Within
within scope = record {
  place = place_in scope.parent;
  paragraph = scope.in_paragraph;
  anchor = scope.in_anchor;
  button = scope.in_button;
  form = scope.in_form;
}
