-- Which nodes a simple selector matches.
use Rattle.std.specs.Prelude.{◌≡◌, ◌↔◌, ◌<◌, [], ◌∷◌, slice_get, ℕ, Bool, true, false, ◌&&◌, List, Option, None, Some, codes}
use Rattle.std.specs.List.{list_any}
use Rattle.std.specs.Option.{option_map_or}
use Rattle.std.specs.Str.{bytes_eq, str_to_ascii_lowercase}
use Rattle.dom_nodes.specs.Changes.{is_link}
use Rattle.dom_nodes.specs.declared.indexes.Nth.{Nth}
use Rattle.dom_nodes.specs.declared.name.Attr.{Attr}
use Rattle.dom_nodes.specs.declared.name.Namespace.{Namespace}
use Rattle.dom_nodes.specs.declared.name.Namespace.TheVariants.{Html}
use Rattle.dom_nodes.specs.Elements.{Element}
use Rattle.dom_nodes.specs.declared.node_data.NodeData.{NodeData}
use Rattle.dom_nodes.specs.declared.node_data.NodeData.TheVariants.{Element as AnElement}
use Rattle.dom_nodes.specs.Words.{class_words, is_among}
use Rattle.dom_links.specs.Forest.{Forest}
use Rattle.dom_links.specs.Indexes.{IsNth, index_at}
use Rattle.dom_trees.specs.Views.{root_element_at}
use Rattle.dom_selectors.specs.Comparisons.{passes}
use Rattle.dom_select.specs.Texts.{empty_at, has_text_at, joined_contains_at, only_text_at}
use Rattle.dom_selectors.specs.declared.syntax.Attribute as attributes
use Rattle.dom_selectors.specs.declared.syntax.Comparison.{Comparison}
use Rattle.dom_selectors.specs.declared.syntax.Part.{Part}
use Rattle.dom_selectors.specs.declared.syntax.Part.TheVariants.{Universal, Id, Class, Attribute, Root, Link, Never, Position, Empty, OnlyText, HasText, Contains}

-- the name to compare with: in lower case for HTML elements, as in the source for others
abbrev pub name_within : Namespace → List ℕ → List ℕ
name_within Html name = str_to_ascii_lowercase name
name_within _ name = name

abbrev pub is_attr : List ℕ → List ℕ → Attr → Bool
is_attr name value attr = bytes_eq attr.name.local name && bytes_eq attr.value value

abbrev pub is_without : Namespace → Bool
is_without Namespace.None = true
is_without _ = false

abbrev pub comparison_passes : Option Comparison → List ℕ → Bool
comparison_passes None value = true
comparison_passes (Some comparison) value = passes comparison value

-- the attribute has no namespace, this name, and a value that passes the comparison
abbrev pub attr_passes : Namespace → attributes.Attribute → Attr → Bool
attr_passes ns asked attr = is_without attr.name.ns && bytes_eq attr.name.local (name_within ns asked.name) && comparison_passes asked.comparison attr.value

abbrev pub element_passes : Part → Element → Bool
element_passes Universal element = true
element_passes (Part.«Type» name) element = bytes_eq element.name.local (name_within element.name.ns name)
element_passes (Id value) element = list_any (is_attr (codes "id") value) element.attrs
element_passes (Class word) element = is_among word (class_words element.attrs)
element_passes (Attribute asked) element = list_any (attr_passes element.name.ns asked) element.attrs
element_passes Root element = false
element_passes Link element = is_link element
element_passes Never element = false
element_passes Empty element = false
element_passes OnlyText element = false
element_passes (HasText text) element = false
element_passes (Contains text) element = false
element_passes (Position position) element = false

-- `*` matches every node, and any other simple selector only elements
abbrev pub node_passes : Part → NodeData → Bool
node_passes Universal node = true
node_passes part (AnElement element) = element_passes part element
node_passes part _ = false

-- the simple selector matches the data of the node with this id; false for an unknown id
abbrev pub data_passes : Part → Forest → ℕ → Bool
data_passes part forest n = option_map_or (node_passes part) (slice_get forest.content n) false

abbrev pub passes_at : Part → Forest → ℕ → Type 0
passes_at part forest n = data_passes part forest n ≡ true

-- Whether the simple selector matches the node, by its data or its place in the tree. `:root` matches an element whose parent is
-- node 0.
abbrev pub PartHolds : Part → Forest → ℕ → Type 0
PartHolds (Position position) forest n = IsNth position.nth (index_at position.kind forest n)
PartHolds Empty forest n = empty_at forest n ≡ true
PartHolds OnlyText forest n = only_text_at forest n ≡ true
PartHolds (HasText text) forest n = has_text_at forest text n ≡ true
PartHolds (Contains text) forest n = joined_contains_at forest text n ≡ true
PartHolds Universal forest n = passes_at Universal forest n
PartHolds (Part.«Type» name) forest n = passes_at (Part.«Type» name) forest n
PartHolds (Id value) forest n = passes_at (Id value) forest n
PartHolds (Class word) forest n = passes_at (Class word) forest n
PartHolds (Attribute asked) forest n = passes_at (Attribute asked) forest n
PartHolds Root forest n = root_element_at forest n ≡ true
PartHolds Link forest n = passes_at Link forest n
PartHolds Never forest n = passes_at Never forest n

-- whether the simple selector asks for an index among siblings
abbrev pub asks_for_index : Part → Bool
asks_for_index (Position position) = true
asks_for_index _ = false

-- each of the simple selectors matches the node
abbrev pub EachHolds : List Part → Forest → ℕ → Type 0
EachHolds [] forest n = Unit {0}
EachHolds (part ∷ parts) forest n = PartHolds part forest n × EachHolds parts forest n

-- if one text at or below a node contains a text, then so do the concatenated texts
abbrev pub ContainsWhatItHas : Type 0
ContainsWhatItHas = (forest : Forest) (text : List ℕ) (n : ℕ) → PartHolds (HasText text) forest n → PartHolds (Contains text) forest n

-- An+B selects this index and no other; for 0 it selects none, since indexes start at 1
abbrev pub AsksFor : Nth → ℕ → Type 0
AsksFor nth index = (i : ℕ) → 0 < i → IsNth nth i ↔ (i ≡ index)
