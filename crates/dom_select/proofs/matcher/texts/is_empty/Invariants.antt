use Rattle.std.proofs.Common.{◌≡◌}
use Rattle.std.specs.Prelude.{◌||◌, not}
use Rattle.std.specs.List.{list_all}
use Rattle.dom_links.specs.Forest.{children_of}
use Rattle.dom_links.specs.ListMoves.{element_at}
use Rattle.dom_select.specs.Texts.{filled_at}
use Rattle.dom_select.proofs.matcher.texts.is_empty.Given as goal

-- the children that are left decide
abbrev pub invariant-loop-child : goal.invariant-loop-child
invariant-loop-child l =
    list_all (λ child. not (element_at l.tree child || filled_at l.tree child)) l.child-iterator ≡ list_all (λ child. not (element_at l.tree child || filled_at l.tree child)) (children_of l.tree l.id)
