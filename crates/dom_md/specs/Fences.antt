-- Runs of backticks.
use Rattle.std.specs.Prelude.{ℕ, ◌+◌, ◌==◌, max, List, [], ◌∷◌, if◌then◌else◌}
use Rattle.dom_nodes.specs.Ascii.{backtick}

-- how many backticks the text begins with
abbrev pub ticks : List ℕ → ℕ
ticks [] = 0
ticks (b ∷ text) = if b == backtick then 1 + ticks text else 0

abbrev pub longest_run : List ℕ → ℕ
longest_run [] = 0
longest_run (b ∷ text) = max (ticks (b ∷ text)) (longest_run text)
