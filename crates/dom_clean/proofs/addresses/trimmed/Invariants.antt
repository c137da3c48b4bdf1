use Rattle.std.proofs.Common.{◌≡◌, length}
use Rattle.url.specs.Input.{trim_c0_control_and_space}
use Rattle.dom_clean.proofs.addresses.trimmed.Given as goal

-- what is left is trimmed to the same
abbrev pub invariant-loop-first : goal.invariant-loop-first
invariant-loop-first l = trim_c0_control_and_space l.rest ≡ trim_c0_control_and_space l.bytes

abbrev pub decreases-loop-first : goal.decreases-loop-first
decreases-loop-first l = length l.rest
