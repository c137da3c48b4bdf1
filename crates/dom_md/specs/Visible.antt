-- Bytes of a text that stay as they are when its words are separated by single spaces.
use Rattle.std.specs.Prelude.{ℕ, ◌==◌, ◌&&◌, ◌||◌, nat_lt, Bool, false, List, [], ◌∷◌}
use Rattle.dom_nodes.specs.Ascii.{space}

-- an ASCII byte greater than the space
abbrev pub is_visible : ℕ → Bool
is_visible b = nat_lt space b && nat_lt b 128

abbrev pub begins_visible : List ℕ → Bool
begins_visible [] = false
begins_visible (b ∷ text) = is_visible b

-- the byte is visible, or it is a space directly before a visible one
abbrev pub stays : ℕ → List ℕ → Bool
stays b text = is_visible b || (b == space && begins_visible text)
