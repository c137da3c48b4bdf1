-- Loops that count how far a test passes at the front of a text.
use Rattle.std.proofs.Common.{◌≡◌, ℕ, ◌+◌, ◌≤◌, List, length, drop, Bool}
use Rattle.std.specs.List.{prefix_len}

-- so many characters pass so far, and those behind them are still to be tested
abbrev pub Counts : (ℕ → Bool) → List ℕ → ℕ → Type 0
Counts test text n = record {
  within : n ≤ length text;
  counted : n + prefix_len test (drop n text) ≡ prefix_len test text;
}
