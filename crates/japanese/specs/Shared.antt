-- What the decoders share.
use Rattle.std.specs.Prelude.{ℕ, ◌+◌}

-- the halfwidth katakana so far after the first one
abbrev pub katakana : ℕ → ℕ
katakana offset = 0xFF61 + offset
