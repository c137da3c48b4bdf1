use Rattle.std.proofs.Common.{◌≡◌, ◌+◌, ◌-◌, ◌≤◌, drop, length}
use Rattle.dom_markup.specs.Markup.{text_front}
use Rattle.dom_markup.proofs.document.scan.text_len.Given as goal

abbrev pub invariant-loop-found : goal.invariant-loop-found
invariant-loop-found l = record {
  within : l.at ≤ length l.bytes;
  same : length (text_front l.bytes) ≡ l.at + length (text_front (drop l.at l.bytes));
}

abbrev pub decreases-loop-found : goal.decreases-loop-found
decreases-loop-found l = length l.bytes - l.at
