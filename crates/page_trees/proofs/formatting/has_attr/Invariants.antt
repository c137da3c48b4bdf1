use Rattle.std.proofs.Common.{◌≡◌, length}
use Rattle.page_trees.specs.Formatting.{has_attr}
use Rattle.page_trees.proofs.formatting.has_attr.Given as goal

-- what is left decides
abbrev pub invariant-loop-also : goal.invariant-loop-also
invariant-loop-also l = has_attr l.rest l.attr ≡ has_attr l.element.attrs l.attr

abbrev pub decreases-loop-also : goal.decreases-loop-also
decreases-loop-also l = length l.rest
