-- What is asked about the context element is what the definition asks.
use Rattle.std.proofs.Common.{◌≡◌, false, [], ◌∷◌, Option, Some, None, refl}
use Rattle.std.specs.Option.{option_map_or}
use Rattle.standard_trees.specs.GrowingTree.{GrowingTree}
use Rattle.standard_trees.specs.GrowingTree.{is_named as is_of_kind}
use Rattle.standard_trees.specs.TreeStore.{Kind}
use Rattle.page_trees.specs.Names.{text_of}
use Rattle.page_trees.specs.Scopes.{has_name, is_name}
use Rattle.page_trees.specs.Stands.{Builds, IsContext}
use Rattle.page_trees.specs.TreeState.{TreeState}
use Rattle.page_trees.specs.declared.name.Name.{Name}
use Rattle.page_trees.specs.declared.stack.Open.{Open}
use Rattle.page_trees.proofs.StandingNames.{current_named}

pub context_tells : (s : TreeState) (t : GrowingTree) (name : Name) → is_name name Name.Other ≡ false → Builds s t →
    option_map_or (has_name name) s.context false ≡ option_map_or (is_of_kind (text_of name ∷ [])) t.context false
context_tells s t name known b = by s.context t.context b.context
  where
    by : (c : Option Open) (k : Option Kind) → IsContext c k → option_map_or (has_name name) c false ≡ option_map_or (is_of_kind (text_of name ∷ [])) k false
    by None None is = refl
    by (Some o) (Some kind) is = current_named name known (Some o) kind is
    by None (Some kind) is = absurd is
    by (Some o) None is = absurd is
