use Rattle.std.proofs.Common.{◌≡◌, string_bytes, length}
use Rattle.dom_md.specs.Formatted.{drop_spaces}
use Rattle.dom_md.proofs.formatting.steps.drop_spaces.Given as goal

abbrev pub invariant-loop-text : goal.invariant-loop-text
invariant-loop-text l = drop_spaces (string_bytes l.text) ≡ drop_spaces (string_bytes l.fn.text)

abbrev pub decreases-loop-text : goal.decreases-loop-text
decreases-loop-text l = length (string_bytes l.text)
