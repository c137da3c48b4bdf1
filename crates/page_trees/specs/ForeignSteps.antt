-- What is done with a tag in foreign content, SVG and MathML (13.2.6.5).
use Rattle.std.specs.Prelude.{◌≡◌, ◌&&◌, Bool, List, encode_utf8_all, false, not, take, true, ℕ}
use Rattle.std.specs.Str.{bytes_eq}
use Rattle.standard_trees.specs.Building.{Building, with_tree}
use Rattle.standard_trees.specs.GrowingTree.{GrowingTree, current, inserted, kind_of, lower, own_before_html, past, with_stack}
use Rattle.standard_trees.specs.TreeStore.{NodeAttr, is_html, local_in, space_in}
use Rattle.page_tokens.specs.declared.token.Tag.{Tag}
use Rattle.page_trees.specs.Constructs.{Constructs, WithinLimits}
use Rattle.page_trees.specs.Names.{name_of}
use Rattle.page_trees.specs.Sets.{is_in_html, local_for, space_of}
use Rattle.page_trees.specs.Stands.{Builds, IsTagName, IsTagOf, popped}
use Rattle.page_trees.specs.TreeState.{TreeState}
use Rattle.page_trees.specs.declared.builder.TreeBuilder.{TreeBuilder}
use Rattle.page_trees.specs.declared.growing.popping.ForeignEnd.{ForeignEnd}
use Rattle.page_trees.specs.declared.name.Name.{Name}
use Rattle.page_trees.specs.declared.stack.ElementNamespace.{ElementNamespace}
use Rattle.page_trees.specs.declared.stack.Open.{Open}

-- "if the token has its self-closing flag set, then pop the current node off the stack of open elements"
abbrev pub closed_if : Bool → GrowingTree → GrowingTree
closed_if closing t = elim closing [ true ↦ popped t | false ↦ t ]

-- the name of the node, in lower case, is this one
abbrev pub is_called : List ℕ → GrowingTree → ℕ → Bool
is_called name t n = bytes_eq (lower (local_in (kind_of t n))) name

-- an element outside of the HTML namespace with that name
abbrev pub is_foreign_called : List ℕ → GrowingTree → Open → Bool
is_foreign_called name t o = not (is_in_html o.ns) && is_called name t o.id

-- the name of a tag, with its characters and its bytes
pub record IsTagNamed (name : Name) (bytes text : List ℕ) : Type 0 where
  pub tag : IsTagName text
  pub known : name ≡ name_of text
  pub spelt : bytes ≡ encode_utf8_all text

-- What an end tag with that name does, by the elements from the current node up. `At`: one with the name comes before every HTML element,
-- and elements are popped until it has been popped. `Html`: an HTML element comes first, but the current node isn't one. `Nowhere`: the
-- current node is one.
abbrev pub EndsForeign : List ℕ → TreeState → ForeignEnd → Type 0
EndsForeign name state (ForeignEnd.At place) = (t : GrowingTree) → Builds state t →
    (own_before_html t name t.stack ≡ true) ×
    Builds (record state { stack = take place state.stack }) (with_stack t (past (is_called name t) t.stack))
EndsForeign name state ForeignEnd.Html = (t : GrowingTree) → Builds state t →
    (own_before_html t name t.stack ≡ false) × (is_html (space_in (kind_of t (current t))) ≡ false)
EndsForeign name state ForeignEnd.Nowhere = (t : GrowingTree) → Builds state t → is_html (space_in (kind_of t (current t))) ≡ true

-- within the limits, a foreign element for the tag is inserted, and popped again if the tag is self-closing
abbrev pub InsertsForeign : ElementNamespace → Name → Tag → TreeBuilder → TreeBuilder → Type 0
InsertsForeign ns name tag old new =
    (written : List ℕ) (attrs : List NodeAttr) → IsTagOf ns name tag written attrs → WithinLimits new → (b : Building) → Constructs old b →
    Constructs new (with_tree b (closed_if tag.self_closing (inserted (space_of ns) (local_for ns written) attrs b.tree)))

-- the end tags that leave foreign content
abbrev pub leaves_foreign_name : Name → Bool
leaves_foreign_name Name.Br = true
leaves_foreign_name Name.P = true
leaves_foreign_name _ = false
