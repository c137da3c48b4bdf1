use Rattle.std.proofs.Common.{◌≡◌, ◌+◌, ◌-◌, ◌≤◌, drop, length}
use Rattle.page_trees.specs.CharacterTexts.{front_word}
use Rattle.page_trees.proofs.chars.word_len.Given as goal

-- so many bytes of the word come first, and those at the beginning of the others
abbrev pub invariant-loop-count : goal.invariant-loop-count
invariant-loop-count l = record {
  within : l.count ≤ length l.bytes;
  counted : length (front_word l.bytes) ≡ l.count + length (front_word (drop l.count l.bytes));
}

abbrev pub decreases-loop-count : goal.decreases-loop-count
decreases-loop-count l = length l.bytes - l.count
