use Rattle.std.proofs.Common.{◌≡◌, map, take}
use Rattle.page_trees.specs.Foreign.{attr_in}
use Rattle.page_trees.proofs.attributes.attrs_of.Given as goal

abbrev pub invariant-loop-attr : goal.invariant-loop-attr
invariant-loop-attr l = l.attrs ≡ map (attr_in l.ns) (take l.attr-index l.given)
