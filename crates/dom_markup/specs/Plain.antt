-- Plain documents: those whose HTML the grammar reads as the same document again.
use Rattle.std.specs.Prelude.{◌≡◌, ◌≢◌, ℕ, List, [], ◌∷◌, ◌++◌, map, Bool, true, false, if◌then◌else◌, Option, None, MatchBool, MatchOption, Some, slice_get, codes}
use Rattle.std.specs.List.{flat_map, list_all}
use Rattle.std.specs.Str.{IsUtf8}
use Rattle.dom_nodes.specs.declared.name.Attr.{Attr}
use Rattle.dom_nodes.specs.declared.name.Namespace.TheVariants.{None as NoNamespace, Html}
use Rattle.dom_nodes.specs.declared.node_data.NodeData.{NodeData}
use Rattle.dom_nodes.specs.declared.node_data.NodeData.TheVariants.{Document, Doctype, Comment, Text, Element}
use Rattle.dom_links.specs.Forest.{Forest, children_of}
use Rattle.dom_markup.specs.Bytes.{is_name_byte, folded}
use Rattle.dom_nodes.specs.Words.{is_among}
use Rattle.dom_markup.specs.Names.{Mode, markup, text_of, raw_text_of, mode_in, is_template, void_names, raw_names}
use Rattle.dom_markup.specs.Escaping.{escaped_text}
use Rattle.dom_markup.specs.Html.{attr_text, end_tag}
use Rattle.dom_markup.specs.Markup.{IsTagName, LacksEnd, has_name}
use Rattle.dom_markup.specs.Numbered.{read_attr}
use Rattle.dom_markup.specs.ValueTrees.{Attribute, ValueTrees}
use Rattle.dom_markup.specs.ValueTrees.ValueTrees.{no_trees, text_node, comment_node, doctype_node, element_node}

-- ---- the HTML of value trees

abbrev pub start_text : List ℕ → List Attribute → List ℕ
start_text name attributes = codes "<" ++ (name ++ (flat_map attr_text (map read_attr attributes) ++ codes ">"))

-- The HTML of a list of trees. `raw` says that texts at the top level are not escaped.
abbrev pub text_of_trees : Bool → ValueTrees → List ℕ
text_of_trees raw no_trees = []
text_of_trees raw (text_node contents later) = (if raw then contents else escaped_text contents) ++ text_of_trees raw later
text_of_trees raw (comment_node contents later) = codes "<!--" ++ (contents ++ (codes "-->" ++ text_of_trees raw later))
text_of_trees raw (doctype_node name public system later) = codes "<!DOCTYPE " ++ (name ++ (codes ">" ++ text_of_trees raw later))
text_of_trees raw (element_node name attributes children later) =
    start_text name attributes ++ ((if is_among name void_names then [] else text_of_trees (is_among name raw_names) children ++ end_tag name) ++ text_of_trees raw later)

-- ---- plain trees

-- the text does not contain `-->`
abbrev pub HoldsNoClose : List ℕ → Type 0
HoldsNoClose text = (before later : List ℕ) → text ≡ before ++ (codes "-->" ++ later) → ⊥

-- a name that the grammar allows, in lower case
abbrev pub IsPlainName : List ℕ → Type 0
IsPlainName name = (name ≢ []) × (list_all is_name_byte name ≡ true) × (folded name ≡ name)

-- attributes whose names the grammar allows, each name at most once
abbrev pub ArePlain : List Attribute → Type 0
ArePlain [] = Unit {0}
ArePlain (attribute ∷ later) = IsPlainName attribute.name × IsUtf8 attribute.value × (has_name attribute.name later ≡ false) × ArePlain later

abbrev pub begins_with_text : ValueTrees → Bool
begins_with_text (text_node contents later) = true
begins_with_text _ = false

-- The content of an element that holds text alone is at most one text, and a raw text does not contain the element's end tag.
abbrev pub IsPlainIn : Mode → ValueTrees → Type 0
IsPlainIn markup children = Unit {0}
IsPlainIn (text_of name) no_trees = Unit {0}
IsPlainIn (text_of name) (text_node contents no_trees) = Unit {0}
IsPlainIn (text_of name) _ = ⊥
IsPlainIn (raw_text_of name) no_trees = Unit {0}
IsPlainIn (raw_text_of name) (text_node contents no_trees) = LacksEnd name contents
IsPlainIn (raw_text_of name) _ = ⊥

-- Plain trees. No text is empty or next to another text, names are as the grammar allows them, void elements have no children,
-- comments do not contain `-->`, and doctypes occur only at the top level and have no identifiers. Every text of a program is
-- UTF-8.
abbrev pub IsPlainTrees : Bool → ValueTrees → Type 0
IsPlainTrees top no_trees = Unit {0}
IsPlainTrees top (text_node contents later) = (contents ≢ []) × IsUtf8 contents × (begins_with_text later ≡ false) × IsPlainTrees top later
IsPlainTrees top (comment_node contents later) = HoldsNoClose contents × IsPlainTrees top later
IsPlainTrees top (doctype_node name public system later) = (top ≡ true) × IsPlainName name × (public ≡ []) × (system ≡ []) × IsPlainTrees top later
IsPlainTrees top (element_node name attributes children later) =
    IsTagName name × (folded name ≡ name) × ArePlain attributes
    × (is_among name void_names ≡ true → children ≡ no_trees) × IsPlainIn (mode_in name) children
    × IsPlainTrees false children × IsPlainTrees top later

-- ---- trees of a text that are plain

-- no doctype has a public or system identifier
abbrev pub HaveNoIdentifiers : ValueTrees → Type 0
HaveNoIdentifiers no_trees = Unit {0}
HaveNoIdentifiers (text_node contents later) = HaveNoIdentifiers later
HaveNoIdentifiers (comment_node contents later) = HaveNoIdentifiers later
HaveNoIdentifiers (doctype_node name public system later) = (public ≡ []) × (system ≡ []) × HaveNoIdentifiers later
HaveNoIdentifiers (element_node name attributes children later) = HaveNoIdentifiers children × HaveNoIdentifiers later

-- ---- nodes of a forest, compared with value trees

-- The attributes have no namespace, and these names and values. Their prefixes do not matter, since they are not written.
abbrev pub StandForAttributes : List Attr → List Attribute → Type 0
StandForAttributes [] [] = Unit {0}
StandForAttributes (attr ∷ attrs) (attribute ∷ attributes) =
    (attr.name.ns ≡ NoNamespace) × (attr.name.local ≡ attribute.name) × (attr.value ≡ attribute.value) × StandForAttributes attrs attributes
StandForAttributes _ _ = ⊥

-- an element in the HTML namespace, without a prefix
abbrev pub html_element : List ℕ → List Attr → Option ℕ → Bool → NodeData
html_element name attrs contents flag = Element (record {
  name = record { prefix = None; ns = Html; local = name };
  attrs = attrs;
  template_contents = contents;
  mathml_annotation_xml_integration_point = flag;
})

-- The node is an element with this name and these attributes, and `below` are the ids of its children; for a template, those of
-- the children of its contents.
pub record IsElement (forest : Forest) (n : ℕ) (name : List ℕ) (attributes : List Attribute) (below : List ℕ) : Type 0 where
  pub attrs : List Attr
  pub contents : Option ℕ
  pub flag : Bool
  pub read : slice_get forest.content n ≡ Some (html_element name attrs contents flag)
  pub named : StandForAttributes attrs attributes
  pub holds : MatchBool (is_template name)
      (MatchOption contents ⊥ (λ inner. (children_of forest n ≡ []) × (below ≡ children_of forest inner)))
      ((contents ≡ None) × (below ≡ children_of forest n))

-- the nodes of this list are these trees, in order
abbrev pub Represents : Forest → List ℕ → ValueTrees → Type 0
Represents forest ns no_trees = ns ≡ []
Represents forest ns (text_node contents later) =
    (n : ℕ) × (others : List ℕ) × (ns ≡ n ∷ others) × (slice_get forest.content n ≡ Some (Text contents)) × Represents forest others later
Represents forest ns (comment_node contents later) =
    (n : ℕ) × (others : List ℕ) × (ns ≡ n ∷ others) × (slice_get forest.content n ≡ Some (Comment contents)) × Represents forest others later
Represents forest ns (doctype_node name public system later) =
    (n : ℕ) × (others : List ℕ) × (ns ≡ n ∷ others) × (slice_get forest.content n ≡ Some (Doctype name public system)) × Represents forest others later
Represents forest ns (element_node name attributes children later) =
    (n : ℕ) × (others below : List ℕ) × (ns ≡ n ∷ others) × IsElement forest n name attributes below
    × Represents forest below children × Represents forest others later

-- a document is plain if the nodes below its root are plain trees
pub record IsPlain (forest : Forest) : Type 0 where
  pub trees : ValueTrees
  pub root : slice_get forest.content 0 ≡ Some Document
  pub below : Represents forest (children_of forest 0) trees
  pub plain : IsPlainTrees true trees
