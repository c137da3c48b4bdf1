use Rattle.std.proofs.Common.{◌≡◌, length}
use Rattle.std.specs.List.{list_all}
use Rattle.page_trees.specs.Formatting.{has_attr}
use Rattle.page_trees.proofs.formatting.has_attrs.Given as goal

-- what is left decides
abbrev pub invariant-loop-attr : goal.invariant-loop-attr
invariant-loop-attr l = list_all (has_attr l.other.attrs) l.rest ≡ list_all (has_attr l.other.attrs) l.one.attrs

abbrev pub decreases-loop-attr : goal.decreases-loop-attr
decreases-loop-attr l = length l.rest
