-- Addresses (URLs) of links and images.
use Rattle.std.specs.Prelude.{ℕ, ◌==◌, List, [], ◌∷◌, ◌++◌, codes, if◌then◌else◌}
use Rattle.dom_nodes.specs.Ascii.{ampersand}

-- the address with `&amp;` in place of each `&`
abbrev pub with_ampersands : List ℕ → List ℕ
with_ampersands [] = []
with_ampersands (b ∷ text) = if b == ampersand then codes "&amp;" ++ with_ampersands text else b ∷ with_ampersands text
