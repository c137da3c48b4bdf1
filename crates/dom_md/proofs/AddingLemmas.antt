-- A loop that adds a text piece by piece.
use Rattle.std.specs.Prelude.{◌≡◌, ◌++◌, List, ℕ}
use Rattle.std.specs.Str.{IsUtf8}

-- the text so far and what is still to be written make the old text and all that is added to it
pub record IsAdding (write : List ℕ → List ℕ) (text rest old added : List ℕ) : Type 0 where
  pub utf8 : IsUtf8 rest
  pub whole : text ++ write rest ≡ old ++ write added
