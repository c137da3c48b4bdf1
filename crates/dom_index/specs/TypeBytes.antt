-- A byte for the type of each node, and type filters of compound selectors.
use Rattle.std.specs.Prelude.{not, ℕ, ◌≡◌, ◌<◌, ◌==◌, ◌&&◌, ◌||◌, nat_lt, Bool, true, List, Option, Some, IfSome, length, slice_get, slice_index_or}
use Rattle.std.specs.Str.{bytes_eq}
use Rattle.dom_nodes.specs.declared.node_data.NodeData.{NodeData}
use Rattle.dom_nodes.specs.declared.node_data.NodeData.TheVariants.{Element}
use Rattle.dom_nodes.specs.declared.name.Namespace.{Namespace}
use Rattle.dom_nodes.specs.KnownNames.{known_name}
use Rattle.dom_links.specs.Forest.{Forest}
use Rattle.dom_selectors.specs.declared.syntax.Compound.{Compound}
use Rattle.dom_selectors.specs.Spelling.{Decides}
use Rattle.dom_selectors.specs.Syntax.{CompoundSelector, compound, NestedLists, no_lists}
use Rattle.dom_select.specs.Meaning.{Holds}
use Rattle.dom_select.specs.Parts.{name_within}
use Rattle.dom_index.specs.declared.type_filter.TypeFilter.{TypeFilter}
use Rattle.dom_index.specs.NodeSets.{in_set}

abbrev pub byte_at : List ℕ → ℕ → ℕ
byte_at bytes n = slice_index_or bytes n 0

-- The type byte: the number of an element's name; 254 for an element without a number, and 255 for a node that is no element. 254
-- is allowed for every element.
abbrev pub is_type_byte : NodeData → ℕ → Bool
is_type_byte (Element element) byte = (byte == 254) || (nat_lt byte 247 && bytes_eq (known_name byte) element.name.local)
is_type_byte _ byte = byte == 255

-- `n` is a node, and the byte is its type byte
pub record HasTypeByte (forest : Forest) (n byte : ℕ) : Type 0 where
  pub known : n < length forest.content
  pub named : (node : NodeData) → slice_get forest.content n ≡ Some node → is_type_byte node byte ≡ true

-- an element whose name is the known name with this number
abbrev pub HasKnownName : ℕ → NodeData → Type 0
HasKnownName number (Element element) = element.name.local ≡ known_name number
HasKnownName number _ = ⊥

-- the type bytes of all nodes, indexed by node id
pub record AreTypeBytes (forest : Forest) (bytes : List ℕ) : Type 0 where
  pub long : length bytes ≡ length forest.content
  pub each : (n : ℕ) (node : NodeData) → slice_get forest.content n ≡ Some node → is_type_byte node (byte_at bytes n) ≡ true

-- the nodes of the other set whose type byte is this number or 254
pub record IsFilteredByType (bytes : List ℕ) (number : ℕ) (table other : List Bool) : Type 0 where
  pub long : length table ≡ length other
  pub each : (n : ℕ) → n < length other → in_set table n ≡ (in_set other n && ((byte_at bytes n == number) || (byte_at bytes n == 254)))

-- among the first `count` nodes, those in the set have names with numbers
abbrev pub HaveKnownTypes : List ℕ → List Bool → ℕ → Type 0
HaveKnownTypes bytes table count = (n : ℕ) → n < count → in_set table n ≡ true → byte_at bytes n ≡ 254 → ⊥

-- the nodes whose type bytes are those of elements
pub record AreElements (bytes : List ℕ) (table : List Bool) : Type 0 where
  pub long : length table ≡ length bytes
  pub each : (n : ℕ) → n < length bytes → in_set table n ≡ not (byte_at bytes n == 255)

-- the nested lists of a compound selector
abbrev pub lists_in : CompoundSelector → NestedLists
lists_in (compound parts lists) = lists

-- Every node that the compound selector matches has the name; and if the compound selector has no other part, it matches every
-- node with the name.
pub record IsTypeFilterOf (c : CompoundSelector) (wanted : TypeFilter) : Type 0 where
  pub known : wanted.number < 247
  pub needs : (forest : Forest) (n : ℕ) (node : NodeData) → slice_get forest.content n ≡ Some node → Holds c forest n → HasKnownName wanted.number node
  pub suffices : wanted.is_all ≡ true → (forest : Forest) (n : ℕ) (node : NodeData) → slice_get forest.content n ≡ Some node → HasKnownName wanted.number node → Holds c forest n
  pub alone : wanted.is_all ≡ true → lists_in c ≡ no_lists

-- in every namespace, a type selector with this name requires the known name with this number
abbrev pub IsNumberOf : List ℕ → ℕ → Type 0
IsNumberOf name number = (number < 247) × ((ns : Namespace) → name_within ns name ≡ known_name number)

-- the compound selector is one simple selector and nothing else
abbrev pub IsOnePart : Compound → Type 0
IsOnePart c = (length c.parts.items ≡ 1) × (length c.nested.items ≡ 0)

-- the answer says whether a compound selector with this type filter matches `n`
abbrev pub IsDecidedByType : Forest → ℕ → Option TypeFilter → Bool → Type 0
IsDecidedByType forest n wanted answer = (c : CompoundSelector) → IfSome wanted (IsTypeFilterOf c) → Decides answer (Holds c forest n)

-- for every node with this type byte, the answer says whether a compound selector with this type filter matches it
abbrev pub IsDecidedByByte : ℕ → Option TypeFilter → Bool → Type 0
IsDecidedByByte byte wanted answer =
    (c : CompoundSelector) (forest : Forest) (n : ℕ) → HasTypeByte forest n byte → IfSome wanted (IsTypeFilterOf c) → Decides answer (Holds c forest n)
