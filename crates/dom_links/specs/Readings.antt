-- Ways of reading a tree as a text, from the leaves up, and the ways that don't see whether a text
-- is one node or two.
use Rattle.std.specs.Prelude.{ℕ, ◌≡◌, Bool, false, List, [], ◌∷◌, ◌++◌, slice_get}
use Rattle.std.specs.Option.{option_map_or}
use Rattle.dom_nodes.specs.declared.node_data.NodeData.{NodeData}
use Rattle.dom_nodes.specs.declared.node_data.NodeData.TheVariants.{Text}
use Rattle.dom_links.specs.Forest.{Forest, children_of, parent}
use Rattle.dom_links.specs.SetTexts.{is_text_at}
use Rattle.dom_links.specs.Texts.{text_at}
use Rattle.dom_links.specs.Trees.{Trees, NoTrees, Tree, trees}

-- What a node is read as, depending on its place and on what its template contents and its children
-- are read as; and the place of its children. Template contents are in the place `false`.
pub record Reading : Type 0 where
  pub node : NodeData → (place : Bool) → (contents children : List ℕ) → List ℕ
  pub below : NodeData → Bool

-- What trees are read as, one after another.
abbrev pub read_as : Reading → Forest → (place : Bool) → Trees → List ℕ
read_as reading forest place NoTrees = []
read_as reading forest place (Tree n contents children later) =
    option_map_or (λ content. reading.node content place (read_as reading forest false contents) (read_as reading forest (reading.below content) children)) (slice_get forest.content n) []
    ++ read_as reading forest place later

-- Two adjacent texts of the forest are read as their concatenation is, and nothing is read below a
-- text.
pub record JoinsTexts (reading : Reading) (forest : Forest) : Type 0 where
  pub leaf : (text : List ℕ) (place : Bool) (contents children : List ℕ) → reading.node (Text text) place contents children ≡ reading.node (Text text) place [] []
  pub none : (place : Bool) → reading.node (Text []) place [] [] ≡ []
  pub joins : (n : ℕ) (more : List ℕ) (place : Bool) →
      reading.node (Text (text_at forest n ++ more)) place [] [] ≡ reading.node (Text (text_at forest n)) place [] [] ++ reading.node (Text more) place [] []

-- The node x and its children are read alike in both forests, x has the same parent, and all nodes
-- other than texts have the same data.
pub record ReadsAlike (reading : Reading) (x : ℕ) (new old : Forest) : Type 0 where
  pub node : (place : Bool) → read_as reading new place (trees new (x ∷ [])) ≡ read_as reading old place (trees old (x ∷ []))
  pub children : (place : Bool) → read_as reading new place (trees new (children_of new x)) ≡ read_as reading old place (trees old (children_of old x))
  pub above : parent new x ≡ parent old x
  pub others : (n : ℕ) → is_text_at old n ≡ false → slice_get new.content n ≡ slice_get old.content n
  pub texts : (n : ℕ) → is_text_at new n ≡ is_text_at old n
