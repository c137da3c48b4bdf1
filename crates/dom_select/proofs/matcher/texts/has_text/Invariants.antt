use Rattle.std.proofs.Common.{◌≡◌}
use Rattle.std.specs.List.{list_any}
use Rattle.dom_links.specs.Trees.{descendants_in_order}
use Rattle.dom_select.specs.Texts.{contains_at}
use Rattle.dom_select.proofs.matcher.texts.has_text.Given as goal

-- the nodes that are left decide
abbrev pub invariant-loop-below : goal.invariant-loop-below
invariant-loop-below l = list_any (contains_at l.tree l.inner) l.below-iterator.left ≡ list_any (contains_at l.tree l.inner) (descendants_in_order l.tree l.id)
