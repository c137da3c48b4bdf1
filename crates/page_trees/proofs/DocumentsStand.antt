-- The finished tree is the Document of the definition's state.
use Rattle.std.proofs.Common.{◌≡◌, subst, sym}
use Rattle.dom_links.specs.Forest.{Forest}
use Rattle.dom_links.specs.Sound.{IsForest}
use Rattle.dom_trees.specs.declared.quirks.QuirksMode.{QuirksMode}
use Rattle.standard_trees.specs.Building.{Building}
use Rattle.standard_trees.specs.GrowingTree.{GrowingTree}
use Rattle.page_trees.specs.DocumentTrees.{IsTreeOf}
use Rattle.page_trees.specs.Quirks.{mode_of}
use Rattle.page_trees.specs.SameNodes.{AreNodes}
use Rattle.page_trees.specs.Stands.{Builds}
use Rattle.page_trees.specs.TreeState.{TreeState, completed}
use Rattle.page_trees.proofs.PageShapes.{page_shape}
use Rattle.page_trees.proofs.WalkedTrees.{walked}

pub tree_stands : (s : TreeState) (b : Building) (f : Forest) (mode : QuirksMode) → IsForest f → Builds s b.tree → f ≡ completed s.late s.forest → mode_of b.quirks ≡ mode → IsTreeOf b f mode
tree_stands s b f mode good builds is same =
    let are = subst (AreNodes b.tree.nodes) (sym is) builds.nodes in
    record {
      document = record { trees = walked b.tree.nodes f 0 good are; mode = same };
      fragment = walked b.tree.nodes f 1 good are;
      page = page_shape b.tree f are;
    }

-- the quirks mode is no part of the tree that is built
pub mode_set : (s : TreeState) (t : GrowingTree) (mode : QuirksMode) → Builds s t → Builds (record s { quirks = mode }) t
mode_set s t mode b = record {
  nodes = b.nodes;
  stack = b.stack;
  numbered = b.numbered;
  listed = b.listed;
  head = b.head;
  head_named = b.head_named;
  form = b.form;
  form_named = b.form_named;
  context = b.context;
  late = b.late;
  lone = b.lone;
}
