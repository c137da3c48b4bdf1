-- The text that the Markdown of a node whose children are all texts is read as.
use Rattle.std.specs.Prelude.{◌≡◌, ℕ, ◌&&◌, Bool, true, false, List, ◌∷◌, String, string_bytes}
use Rattle.std.specs.List.{flat_map, list_all}
use Rattle.dom_nodes.specs.Ascii.{space}
use Rattle.dom_nodes.specs.Classes.{words_joined}
use Rattle.dom_nodes.specs.Kinds.{is_text, children_allowed}
use Rattle.dom_nodes.specs.Words.{words_of}
use Rattle.dom_links.specs.Forest.{Forest, children_of}
use Rattle.dom_links.specs.Texts.{text_of}
use Rattle.dom_trees.specs.Views.{node_is}
use Rattle.dom_md.specs.Resolved.{resolved}

-- the words with one space between each two, and one before them all if `parted`
abbrev pub spaced : (parted : Bool) → List (List ℕ) → List ℕ
spaced false words = words_joined words
spaced true words = flat_map (λ word. space ∷ word) words

-- the node may have children, and all its children are text nodes
abbrev pub holds_texts : Forest → ℕ → Bool
holds_texts forest n = node_is children_allowed forest n && list_all (λ child. node_is is_text forest child) (children_of forest n)

-- the words in the node's text, as separated by ASCII whitespace, joined by single spaces
abbrev pub joined_words_of : Forest → ℕ → List ℕ
joined_words_of forest n = words_joined (words_of (text_of forest n))

-- if all children of the node are texts, its Markdown resolves to the words of its text
abbrev pub ReadsAsWords : {A : Type 0} → Forest → ℕ → String A → Type 0
ReadsAsWords forest n md = holds_texts forest n ≡ true → resolved (string_bytes md) ≡ joined_words_of forest n
