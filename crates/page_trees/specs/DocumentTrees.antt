-- When a forest is a Document as standard_trees defines it: the same kinds of nodes, with the same names, namespaces, attributes, texts and
-- children, and the same mode.
use Rattle.std.specs.Prelude.{◌≡◌, Bool, List, None, Option, Some, [], ◌∷◌, encode_utf8_all, false, map, slice_get, true, ℕ}
use Rattle.standard_tokens.specs.Tokens.{Doctype as DoctypeToken}
use Rattle.standard_trees.specs.Building.{Building, Surroundings}
use Rattle.standard_trees.specs.Parsing.{Document, IsDocumentOf, IsFragmentOf, document_of, nodes_of}
use Rattle.standard_trees.specs.TreeStore.{CommentNode, DoctypeNode, ElementNode, Kind, NodeAttr, TextNode, Trees, comment_tree}
use Rattle.standard_trees.specs.TreeStore.{doctype_tree, element_tree, no_trees, text_tree}
use Rattle.dom_nodes.specs.declared.node_data.NodeData.{NodeData}
use Rattle.dom_links.specs.Forest.{Forest, children_of}
use Rattle.dom_trees.specs.declared.quirks.QuirksMode.{QuirksMode}
use Rattle.standard_order.specs.PageShape.{is_page_of}
use Rattle.page_trees.specs.Quirks.{mode_of}
use Rattle.page_trees.specs.SameNodes.{IsKind, part_for}
use Rattle.page_trees.specs.Shape.{IsPage}

-- the first node of the list is of this kind
pub record Begins (forest : Forest) (ns : List ℕ) (n : ℕ) (others : List ℕ) (kind : Kind) : Type 0 where
  pub first : ns ≡ n ∷ others
  pub content : NodeData
  pub got : slice_get forest.content n ≡ Some content
  pub is : IsKind kind content

-- the nodes that template contents have, if there are any
abbrev pub held_in : Forest → Option ℕ → List ℕ
held_in forest None = []
held_in forest (Some contents) = children_of forest contents

-- the nodes of this list, each with those below it, are these trees, in order
abbrev pub AreTrees : Forest → List ℕ → Trees → Type 0
AreTrees forest ns no_trees = ns ≡ []
AreTrees forest ns (doctype_tree d later) =
    (n : ℕ) × (others : List ℕ) × Begins forest ns n others (DoctypeNode d) × AreTrees forest others later
AreTrees forest ns (text_tree text later) =
    (n : ℕ) × (others : List ℕ) × Begins forest ns n others (TextNode text) × AreTrees forest others later
AreTrees forest ns (comment_tree text later) =
    (n : ℕ) × (others : List ℕ) × Begins forest ns n others (CommentNode text) × AreTrees forest others later
AreTrees forest ns (element_tree space name attrs held children later) =
    (n : ℕ) × (others : List ℕ) × (contents : Option ℕ) × Begins forest ns n others (ElementNode space name attrs contents)
    × AreTrees forest (held_in forest contents) held × AreTrees forest (children_of forest n) children × AreTrees forest others later

-- the nodes below the root are the children of the Document, whose mode this is
pub record IsDocumentTree (forest : Forest) (quirks : QuirksMode) (d : Document) : Type 0 where
  pub trees : AreTrees forest (children_of forest 0) d.children
  pub mode : mode_of d.quirks ≡ quirks

-- The tree is the Document of the definition's state, and the children of the first element are the nodes of the fragment, if one was
-- parsed. The tree has the shape of a page if the definition's has it.
pub record IsTreeOf (b : Building) (forest : Forest) (quirks : QuirksMode) : Type 0 where
  pub document : IsDocumentTree forest quirks (document_of b)
  pub fragment : AreTrees forest (children_of forest 1) (nodes_of b)
  pub page : is_page_of b.tree ≡ true → IsPage forest

-- ---- one Document for each forest

abbrev pub attr_in_utf8 : NodeAttr → NodeAttr
attr_in_utf8 a = record { space = a.space; name = encode_utf8_all a.name; value = encode_utf8_all a.value }

-- a doctype, of which a tree keeps no more than its parts
abbrev pub doctype_in_utf8 : DoctypeToken → DoctypeToken
doctype_in_utf8 d = record {
  name = Some (part_for d.name);
  public_id = Some (part_for d.public_id);
  system_id = Some (part_for d.system_id);
  force_quirks = false;
}

-- the trees with names and texts in UTF-8
abbrev pub in_utf8 : Trees → Trees
in_utf8 no_trees = no_trees
in_utf8 (doctype_tree d later) = doctype_tree (doctype_in_utf8 d) (in_utf8 later)
in_utf8 (text_tree text later) = text_tree (encode_utf8_all text) (in_utf8 later)
in_utf8 (comment_tree text later) = comment_tree (encode_utf8_all text) (in_utf8 later)
in_utf8 (element_tree space name attrs held children later) =
    element_tree space (encode_utf8_all name) (map attr_in_utf8 attrs) (in_utf8 held) (in_utf8 children) (in_utf8 later)

-- two Documents for which one forest stands are the same, in UTF-8
abbrev pub StandsForOneDocument : Type 0
StandsForOneDocument = (forest : Forest) (quirks : QuirksMode) (d e : Document) → IsDocumentTree forest quirks d →
    IsDocumentTree forest quirks e → (d.quirks ≡ e.quirks) × (in_utf8 d.children ≡ in_utf8 e.children)

-- ---- parsing

-- the tree is the Document as which the HTML Standard parses a text
pub record IsParsedAs (scripting : Bool) (text : List ℕ) (forest : Forest) (quirks : QuirksMode) : Type 0 where
  pub document : Document
  pub parsed : IsDocumentOf scripting text document
  pub is : IsDocumentTree forest quirks document

-- the children of the first element are the nodes as which the HTML Standard parses a text, as a fragment in that context
pub record IsParsedAsFragment (scripting : Bool) (around : Surroundings) (text : List ℕ) (forest : Forest) : Type 0 where
  pub nodes : Trees
  pub parsed : IsFragmentOf scripting around text nodes
  pub are : AreTrees forest (children_of forest 1) nodes
