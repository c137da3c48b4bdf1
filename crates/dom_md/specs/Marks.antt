-- The first mark of a text.
use Rattle.std.specs.Prelude.{◌≡◌, ◌<◌, ◌+◌, ℕ, List, MatchOption, Option, ◌∷◌, ◌++◌, length, take, drop, slice_index_or}
use Rattle.dom_nodes.specs.Ascii.{backslash}
use Rattle.dom_md.specs.Chunks.{with_marks}
use Rattle.dom_md.specs.declared.chunks.Marked.{Marked}

-- the first byte of the text that needs a backslash is at this index
pub record IsFirstMark (text : List ℕ) (at : ℕ) : Type 0 where
  pub within : at < length text
  pub ascii : slice_index_or text at 0 < 128
  pub whole : with_marks text ≡ take at text ++ backslash ∷ slice_index_or text at 0 ∷ with_marks (drop (at + 1) text)

-- the text is split at its first mark
pub record Cuts (text before mark after : List ℕ) : Type 0 where
  pub whole : with_marks text ≡ before ++ backslash ∷ (mark ++ with_marks after)
  pub shorter : length after < length text

-- the text is split there, or it has no mark
abbrev pub CutsMark : List ℕ → Option Marked → Type 0
CutsMark text result = MatchOption result (with_marks text ≡ text) (λ cut. Cuts text cut.before.now cut.mark.now cut.after.now)
