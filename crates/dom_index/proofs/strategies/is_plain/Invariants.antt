use Rattle.std.proofs.Common.{◌≡◌, ◌<◌, ℕ, Some}
use Rattle.std.specs.Prelude.{slice_get}
use Rattle.dom_selectors.specs.declared.syntax.Step.{Step}
use Rattle.dom_index.specs.FlagRows.{is_sideways}
use Rattle.dom_index.proofs.strategies.is_plain.Given as goal

-- the steps up to here go one way
abbrev pub invariant-loop-i : goal.invariant-loop-i
invariant-loop-i l = (j : ℕ) (s : Step) → j < l.i → slice_get l.steps j ≡ Some s → is_sideways s.combinator ≡ is_sideways l.way
