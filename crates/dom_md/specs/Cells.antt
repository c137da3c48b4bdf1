-- Texts in the cells of a table.
use Rattle.std.specs.Prelude.{◌≡◌, ℕ, ◌==◌, ◌&&◌, not, Bool, false, List, [], ◌∷◌, ◌++◌, if◌then◌else◌}
use Rattle.dom_nodes.specs.Ascii.{backslash, vertical_bar}

-- a backslash before each `|` that does not have one; `after` says whether a backslash precedes the text
abbrev pub in_cell_on : (after : Bool) → List ℕ → List ℕ
in_cell_on after [] = []
in_cell_on after (b ∷ text) =
    if b == vertical_bar && not after then backslash ∷ b ∷ in_cell_on false text
    else b ∷ in_cell_on (b == backslash) text

abbrev pub in_cell : List ℕ → List ℕ
in_cell text = in_cell_on false text

-- every `|` has a backslash before it
abbrev pub BarsAreEscaped : List ℕ → Type 0
BarsAreEscaped text = (front back : List ℕ) → text ≡ front ++ vertical_bar ∷ back → (before : List ℕ) × (front ≡ before ++ backslash ∷ [])

-- the new text is the old one with a backslash inserted before some of its bars
pub data AddsBackslashes : (old new : List ℕ) → Type 0 where
  done : AddsBackslashes [] []
  kept : {old new : List ℕ} → (b : ℕ) → AddsBackslashes old new → AddsBackslashes (b ∷ old) (b ∷ new)
  bar : {old new : List ℕ} → AddsBackslashes old new → AddsBackslashes (vertical_bar ∷ old) (backslash ∷ vertical_bar ∷ new)
