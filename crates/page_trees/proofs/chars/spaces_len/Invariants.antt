use Rattle.std.proofs.Common.{◌≡◌, ◌+◌, ◌-◌, ◌≤◌, drop, length}
use Rattle.page_trees.specs.CharacterTexts.{front_spaces}
use Rattle.page_trees.proofs.chars.spaces_len.Given as goal

-- so many bytes of white space come first, and those at the beginning of the others
abbrev pub invariant-loop-count : goal.invariant-loop-count
invariant-loop-count l = record {
  within : l.count ≤ length l.bytes;
  counted : length (front_spaces l.bytes) ≡ l.count + length (front_spaces (drop l.count l.bytes));
}

abbrev pub decreases-loop-count : goal.decreases-loop-count
decreases-loop-count l = length l.bytes - l.count
