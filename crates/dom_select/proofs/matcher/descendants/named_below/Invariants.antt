use Rattle.std.proofs.Common.{ℕ, List, [], ◌∷◌, ◌++◌}
use Rattle.dom_select.specs.Descendants.{IsMatch}
use Rattle.dom_select.specs.Selected.{FiltersTo, Selected}
use Rattle.dom_select.proofs.matcher.descendants.named_below.Given as goal

-- what was matched and what is to come is what is selected
abbrev pub invariant-loop-id : goal.invariant-loop-id
invariant-loop-id l = (ids : List ℕ) → FiltersTo (IsMatch l.matcher l.tree) l.id-iterator.left ids → Selected l.tree (l.root ∷ []) l.matcher (l.named.items ++ ids)
