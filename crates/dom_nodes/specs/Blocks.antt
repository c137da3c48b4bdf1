-- Texts that lie in a block of bytes.
use Rattle.std.specs.Prelude.{◌≡◌, ◌≤◌, ◌+◌, ℕ, List, length, take, drop}

-- The bytes of `block` from index `start` on begin with `text`.
abbrev pub LiesAt : (text : List ℕ) (start : ℕ) (block : List ℕ) → Type 0
LiesAt text start block = (start + length text ≤ length block) × (take (length text) (drop start block) ≡ text)
