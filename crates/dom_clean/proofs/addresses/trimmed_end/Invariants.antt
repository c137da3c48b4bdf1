use Rattle.std.proofs.Common.{◌≡◌, length}
use Rattle.url.specs.Input.{is_c0_control_or_space, trim_end}
use Rattle.dom_clean.proofs.addresses.trimmed_end.Given as goal

-- what is left is trimmed to the same
abbrev pub invariant-loop-last : goal.invariant-loop-last
invariant-loop-last l = trim_end is_c0_control_or_space l.rest ≡ trim_end is_c0_control_or_space l.bytes

abbrev pub decreases-loop-last : goal.decreases-loop-last
decreases-loop-last l = length l.rest
