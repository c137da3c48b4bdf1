use Rattle.std.proofs.Common.{◌≡◌, ◌<◌, ℕ, Some}
use Rattle.std.specs.Prelude.{slice_get}
use Rattle.dom_selectors.specs.declared.syntax.Selector.{Selector, out-Selector}
use Rattle.dom_index.specs.NodeTests.{IsPlain}
use Rattle.dom_index.proofs.strategies.are_plain.Given as goal

-- the selectors up to here are plain
abbrev pub invariant-loop-i : goal.invariant-loop-i
invariant-loop-i l = (j : ℕ) (s : Selector) → j < l.i → slice_get l.selectors j ≡ Some s → IsPlain (out-Selector s).rest.items
