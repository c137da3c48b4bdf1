use Rattle.std.proofs.Common.{◌≡◌, length}
use Rattle.page_trees.specs.Foreign.{value_named}
use Rattle.page_trees.proofs.attributes.value_of.Given as goal

-- what is left decides
abbrev pub invariant-loop-attr : goal.invariant-loop-attr
invariant-loop-attr l = value_named l.name l.rest ≡ value_named l.name l.tag.attrs.items

abbrev pub decreases-loop-attr : goal.decreases-loop-attr
decreases-loop-attr l = length l.rest
