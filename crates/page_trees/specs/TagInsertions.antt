-- What inserting an element for a tag does to the state of tree construction (13.2.6.1).
use Rattle.std.specs.Prelude.{List, ℕ}
use Rattle.standard_trees.specs.Building.{Building, with_tree}
use Rattle.standard_trees.specs.GrowingTree.{GrowingTree, inserted_at, place}
use Rattle.standard_trees.specs.TreeStore.{NodeAttr, Place}
use Rattle.page_tokens.specs.declared.token.Tag.{Tag}
use Rattle.page_trees.specs.Constructs.{Constructs, WithinLimits}
use Rattle.page_trees.specs.Sets.{local_for, space_of}
use Rattle.page_trees.specs.Stands.{IsTagOf}
use Rattle.page_trees.specs.declared.builder.TreeBuilder.{TreeBuilder}
use Rattle.page_trees.specs.declared.name.Name.{Name}
use Rattle.page_trees.specs.declared.stack.ElementNamespace.{ElementNamespace}

-- within the limits, an element for the tag is inserted, at the appropriate place or at another one
abbrev pub InsertsTagAt : (GrowingTree → Place) → ElementNamespace → Name → Tag → TreeBuilder → TreeBuilder → Type 0
InsertsTagAt spot ns name tag old new =
    (written : List ℕ) (attrs : List NodeAttr) → IsTagOf ns name tag written attrs → WithinLimits new → (b : Building) → Constructs old b →
    Constructs new (with_tree b (inserted_at (spot b.tree) (space_of ns) (local_for ns written) attrs b.tree))

abbrev pub InsertsTag : ElementNamespace → Name → Tag → TreeBuilder → TreeBuilder → Type 0
InsertsTag ns name tag old new = InsertsTagAt place ns name tag old new
