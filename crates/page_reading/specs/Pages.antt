-- What parsing a page gives.
use Rattle.std.specs.Prelude.{◌≡◌, ℕ, List}
use Rattle.dom_links.specs.Forest.{Forest}
use Rattle.dom_markup.specs.Numbered.{document_of}
use Rattle.dom_markup.specs.ValueTrees.{ValueTrees}
use Rattle.dom_trees.specs.SameTree.{SameTree}
use Rattle.calm_pages.specs.Calm.{IsCalmPage, SpellsCalmPage}

-- If the text is a calm page, the tree is the one that it spells.
pub record ReadsAsWritten (text : List ℕ) (tree : Forest) : Type 0 where
  pub calm : (trees : ValueTrees) → IsCalmPage text trees → tree ≡ document_of trees
  pub same : (forest : Forest) → SpellsCalmPage text forest → SameTree forest 0 tree 0
