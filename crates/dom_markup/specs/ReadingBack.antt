-- Parsing the HTML of a document yields the document again.
use Rattle.std.specs.Prelude.{◌≡◌, ℕ, Bool, false, List, [], Some, String, slice_get, string_bytes}
use Rattle.dom_nodes.specs.declared.node_data.NodeData.TheVariants.{Doctype, Document}
use Rattle.dom_links.specs.Forest.{Forest, children_of}
use Rattle.dom_links.specs.Trees.{trees as trees_of}
use Rattle.dom_trees.specs.SameTree.{SameTree}
use Rattle.dom_markup.specs.Html.{html_of, trees_text}
use Rattle.dom_markup.specs.Markup.{Spells}
use Rattle.dom_markup.specs.Numbered.{document_of}
use Rattle.dom_markup.specs.Plain.{IsPlain, Represents, text_of_trees}
use Rattle.dom_markup.specs.ValueTrees.{ValueTrees}

-- the text is markup for trees whose document is the same tree as this one
pub record SpellsDocument (text : List ℕ) (forest : Forest) : Type 0 where
  pub trees : ValueTrees
  pub spelled : Spells text trees
  pub same : SameTree forest 0 (document_of trees) 0

-- no doctype has a public or system identifier
abbrev pub LacksIdentifiers : Forest → Type 0
LacksIdentifiers forest = (n : ℕ) (name public system : List ℕ) → slice_get forest.content n ≡ Some (Doctype name public system) → (public ≡ []) × (system ≡ [])

-- if the node is the root of a plain document, the string is markup for the same tree
abbrev pub SpellsPlainRoot : {A : Type 0} → Forest → ℕ → String A → Type 0
SpellsPlainRoot forest n text = n ≡ 0 → IsPlain forest → SpellsDocument (string_bytes text) forest

-- ---- forests, and the value trees that their nodes are

-- the HTML of nodes is the HTML of the value trees that they represent
abbrev pub NodesAreWrittenAsTrees : Forest → Type 0
NodesAreWrittenAsTrees forest =
    (raw : Bool) (ns : List ℕ) (values : ValueTrees) → Represents forest ns values → trees_text forest raw (trees_of forest ns) ≡ text_of_trees raw values

-- the HTML of a document is the HTML of the value trees below its root
abbrev pub DocumentIsWrittenAsTrees : Forest → Type 0
DocumentIsWrittenAsTrees forest =
    slice_get forest.content 0 ≡ Some Document → (values : ValueTrees) → Represents forest (children_of forest 0) values → html_of forest 0 ≡ text_of_trees false values

-- the nodes below the root represent value trees, and the HTML of the root is markup for these
abbrev pub SpellsItsTrees : Forest → Type 0
SpellsItsTrees forest = (trees : ValueTrees) × Represents forest (children_of forest 0) trees × Spells (html_of forest 0) trees

-- documents with the same value trees below their roots are the same tree
abbrev pub AreSameByTrees : Forest → Forest → Type 0
AreSameByTrees one other =
    slice_get one.content 0 ≡ Some Document → slice_get other.content 0 ≡ Some Document → (values : ValueTrees)
    → Represents one (children_of one 0) values → Represents other (children_of other 0) values → SameTree one 0 other 0
