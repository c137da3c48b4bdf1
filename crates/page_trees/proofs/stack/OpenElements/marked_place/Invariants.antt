use Rattle.std.proofs.Common.{◌≡◌, false}
use Rattle.page_trees.specs.Scopes.{is_name}
use Rattle.page_trees.specs.SearchIndex.{IsIndexed}
use Rattle.page_trees.specs.declared.name.Name.TheVariants.{Other}
use Rattle.page_trees.proofs.ThisElement.{IsAtKey}
use Rattle.page_trees.proofs.stack.OpenElements.marked_place.Given as goal

-- the elements up to the position decide
abbrev pub invariant-loop-place : goal.invariant-loop-place
invariant-loop-place l = is_name l.fn.name Other ≡ false → IsIndexed l.self → IsAtKey l.fn.name l.id l.self.elements.items l.self.marks l.top

abbrev pub decreases-loop-place : goal.decreases-loop-place
decreases-loop-place l = l.top
