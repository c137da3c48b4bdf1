-- Texts without their whitespace.
use Rattle.std.specs.Prelude.{◌≡◌, ℕ, Bool, not, true, List}
use Rattle.std.specs.Char.{is_whitespace}
use Rattle.std.specs.List.{filter}
use Rattle.std.specs.Str.{chars}
use Rattle.dom_nodes.specs.Kinds.{children_allowed}
use Rattle.dom_links.specs.Forest.{Forest}
use Rattle.dom_links.specs.Texts.{text_of}
use Rattle.dom_trees.specs.Views.{node_is}

abbrev pub is_solid : ℕ → Bool
is_solid c = not (is_whitespace c)

-- the characters of a text that are not whitespace
abbrev pub solid : List ℕ → List ℕ
solid text = filter is_solid (chars text)

-- if the node may have children, the text is the node's text apart from whitespace
abbrev pub KeepsWords : Forest → ℕ → List ℕ → Type 0
KeepsWords forest n text = node_is children_allowed forest n ≡ true → solid text ≡ solid (text_of forest n)
