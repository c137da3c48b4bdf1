use Rattle.std.proofs.Common.{◌≡◌, length}
use Rattle.page_trees.specs.ElementKinds.{kind_among}
use Rattle.page_trees.proofs.element_kinds.ElementCategory.among.Given as goal

-- what is left decides
abbrev pub invariant-loop-kind : goal.invariant-loop-kind
invariant-loop-kind l = kind_among l.name l.rest ≡ kind_among l.name l.kinds

abbrev pub decreases-loop-kind : goal.decreases-loop-kind
decreases-loop-kind l = length l.rest
