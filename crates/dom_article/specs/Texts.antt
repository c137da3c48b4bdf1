-- The texts of a page that a reader sees.
use Rattle.std.specs.Prelude.{ℕ, ◌≡◌, ◌==◌, ◌&&◌, ◌||◌, ◌⊎◌, not, nat_le, Bool, true, false, List, [], ◌∷◌, length, slice_get}
use Rattle.std.specs.List.{filter, flat_map, list_any}
use Rattle.std.specs.Option.{option_map_or}
use Rattle.std.specs.Str.{chars}
use Rattle.dom_nodes.specs.declared.node_data.NodeData.{NodeData}
use Rattle.dom_nodes.specs.declared.node_data.NodeData.TheVariants.{Text}
use Rattle.dom_links.specs.Forest.{Forest}
use Rattle.dom_links.specs.Lists.{is_member}
use Rattle.dom_links.specs.Texts.{text_at}
use Rattle.dom_links.specs.Trees.{descendants_in_order}
use Rattle.dom_article.specs.Hidden.{IsHidden}
use Rattle.dom_article.specs.Pruned.{IsExtract, marked}

-- Whether a character is from the first one to the last one.
abbrev pub is_from_to : (first last c : ℕ) → Bool
is_from_to first last c = nat_le first c && nat_le c last

-- Whether a character leaves no mark: a control character, white space, or one of no width.
abbrev pub is_blank : ℕ → Bool
is_blank c =
    nat_le c 0x20 || (c == 0x85) || (c == 0xa0) || (c == 0x1680) || is_from_to 0x2000 0x200b c
    || (c == 0x2028) || (c == 0x2029) || (c == 0x202f) || (c == 0x205f) || (c == 0x3000) || (c == 0xfeff)

-- Whether a text has a character that leaves a mark.
abbrev pub is_visible : List ℕ → Bool
is_visible text = list_any (λ c. not (is_blank c)) (chars text)

-- Whether a node is such a text.
abbrev pub is_visible_text : NodeData → Bool
is_visible_text (Text contents) = is_visible contents
is_visible_text _ = false

-- Whether node n is such a text.
abbrev pub is_visible_at : Forest → ℕ → Bool
is_visible_at forest n = option_map_or is_visible_text (slice_get forest.content n) false

-- The nodes of a page in document order.
abbrev pub page_nodes : Forest → List ℕ
page_nodes forest = 0 ∷ descendants_in_order forest 0

-- Whether node n is such a text, and is marked.
abbrev pub is_kept_text_at : Forest → List Bool → ℕ → Bool
is_kept_text_at forest marks n = marked marks n && is_visible_at forest n

-- Whether a marked node of the page is a text with a character that leaves a mark.
abbrev pub keeps_text : Forest → List Bool → Bool
keeps_text forest marks = list_any (is_kept_text_at forest marks) (page_nodes forest)

-- Each text of the page that has a character that leaves a mark is hidden.
abbrev pub ShowsNoText : Forest → Type 0
ShowsNoText forest =
    (n : ℕ) → is_member n (page_nodes forest) ≡ true → is_visible_at forest n ≡ true → IsHidden forest n

-- The marks are those of the shown ones among some nodes of a page: no marked node is hidden, and
-- each of the nodes is marked or hidden.
pub record AreShown (forest : Forest) (ns : List ℕ) (marks : List Bool) : Type 0 where
  pub extract : IsExtract forest 0 marks
  pub each : (n : ℕ) → is_member n ns ≡ true → (marked marks n ≡ true) ⊎ IsHidden forest n
  pub long : length marks ≡ length forest.content

-- The nodes that an article keeps, in document order.
abbrev pub kept_nodes : Forest → (root : ℕ) → List Bool → List ℕ
kept_nodes forest root marks = filter (marked marks) (root ∷ descendants_in_order forest root)

-- The text of an article: that of its nodes, in document order.
abbrev pub kept_text : Forest → (root : ℕ) → List Bool → List ℕ
kept_text forest root marks = flat_map (text_at forest) (kept_nodes forest root marks)

-- A text with parts left out.
pub data IsSubsequence : List ℕ → List ℕ → Type 0 where
  nothing : (text : List ℕ) → IsSubsequence [] text
  taken : (c : ℕ) (part text : List ℕ) → IsSubsequence part text → IsSubsequence (c ∷ part) (c ∷ text)
  left_out : (c : ℕ) (part text : List ℕ) → IsSubsequence part text → IsSubsequence part (c ∷ text)
