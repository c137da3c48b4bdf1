-- Cached sibling indexes.
use Rattle.std.specs.Prelude.{◌≡◌, ◌<◌, ◌≤◌, ℕ, List}
use Rattle.dom_links.specs.Indexes.{index_known}

-- this index is cached for the node
abbrev pub IsKept : List ℕ → ℕ → ℕ → Type 0
IsKept known n index = (0 < index) × (index ≤ 4294967295) × (index ≡ index_known known n)
