-- Where a text is cut at a character that no page can have.
use Rattle.std.specs.Prelude.{ℕ, ◌≡◌, ◌<◌, List, ◌++◌, length}
use Rattle.dom_clean.specs.Fates.{spellable}

-- what is left of the text is this front, and what is left of a later part
pub record SpellsAfter (text front later : List ℕ) : Type 0 where
  pub whole : spellable text ≡ front ++ spellable later
  pub shorter : length later < length text
