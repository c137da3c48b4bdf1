use Rattle.std.proofs.Common.{◌≡◌, ◌||◌, ℕ, drop}
use Rattle.dom_links.specs.Lists.{is_member}
use Rattle.dom_selection.specs.Selections.{ids_of}
use Rattle.dom_selection.proofs.selection.seen.Seen.of.Given as goal

-- what was seen and what is to come
abbrev pub invariant-loop-node : goal.invariant-loop-node
invariant-loop-node l = (n : ℕ) → (is_member n l.seen || is_member n (ids_of (drop l.node-index l.nodes))) ≡ is_member n (ids_of l.nodes)
