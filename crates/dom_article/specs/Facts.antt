-- What is known of each node of a page before it is judged in rounds.
use Rattle.std.specs.Prelude.{ℕ, ◌≡◌, ℤ, pos, negsuc, ◌&&◌, ◌||◌, not, Bool, true, false, List, [], ◌∷◌, Some, codes, slice_get}
use Rattle.std.specs.Prelude.{if◌then◌else◌}
use Rattle.std.specs.Char.{is_ascii_whitespace}
use Rattle.std.specs.List.{list_any}
use Rattle.std.specs.Str.{bytes_eq}
use Rattle.dom_links.specs.Forest.{Forest, children_of}
use Rattle.dom_links.specs.Lists.{is_member}
use Rattle.dom_links.specs.Trees.{descendants_in_order}
use Rattle.dom_nodes.specs.Words.{is_among}
use Rattle.dom_nodes.specs.declared.name.Attr.{Attr}
use Rattle.dom_nodes.specs.declared.node_data.NodeData.{NodeData}
use Rattle.dom_nodes.specs.declared.node_data.NodeData.TheVariants.{Text, Element as AnElement}
use Rattle.dom_article.specs.Attributes.{value_of, value_or}
use Rattle.dom_article.specs.Best.{facts_at}
use Rattle.dom_article.specs.Contents.{no_text, text_facts}
use Rattle.dom_article.specs.Hidden.{begins_with, says_hidden}
use Rattle.dom_article.specs.Names.{kind_of, kind_with}
use Rattle.dom_article.specs.Scores.{points_plus}
use Rattle.dom_article.specs.Texts.{page_nodes}
use Rattle.dom_article.specs.Words.{words_in}
use Rattle.dom_article.specs.declared.kinds.Kind.{Kind}
use Rattle.dom_article.specs.declared.kinds.Tag.{Tag}
use Rattle.dom_article.specs.declared.kinds.Tag.TheVariants.{A, Article, Body, Document, H1, Html, Input, Main, Other, Text as AText}
use Rattle.dom_article.specs.declared.kinds.Tag.TheVariants.{Textarea}
use Rattle.dom_article.specs.declared.page.Facts.{Facts}
use Rattle.dom_article.specs.declared.texts.TextFacts.{TextFacts}
use Rattle.dom_article.specs.declared.words.Found.{Found}

-- ---- kinds of elements

abbrev pub is_main_tag : Tag → Bool
is_main_tag Article = true
is_main_tag Main = true
is_main_tag _ = false

abbrev pub is_input_tag : Tag → Bool
is_input_tag Input = true
is_input_tag Textarea = true
is_input_tag _ = false

abbrev pub is_link_tag : Tag → Bool
is_link_tag A = true
is_link_tag _ = false

abbrev pub is_h1 : Tag → Bool
is_h1 H1 = true
is_h1 _ = false

abbrev pub is_outer_tag : Tag → Bool
is_outer_tag Html = true
is_outer_tag Body = true
is_outer_tag _ = false

-- ---- what attributes say

-- Whether the attributes say that the element is the article.
abbrev pub says_main : List Attr → Bool
says_main attrs =
    bytes_eq (value_of attrs (codes "role")) (codes "main") || bytes_eq (value_of attrs (codes "itemprop")) (codes "articleBody")

-- The values of `role` of elements that are left out where hints count.
unfoldable pub role_names : List (List ℕ)
role_names =
    codes "menu" ∷ codes "menubar" ∷ codes "complementary" ∷ codes "navigation" ∷ codes "alert" ∷ codes "alertdialog" ∷
    codes "dialog" ∷ codes "search" ∷ codes "banner" ∷ codes "contentinfo" ∷ codes "toolbar" ∷ codes "tooltip" ∷ []

-- Whether a text has a character that isn't white space.
abbrev pub has_letters : List ℕ → Bool
has_letters text = list_any (λ c. not (is_ascii_whitespace c)) text

-- ---- what the words in a class and an id say

-- The points of a text: 25 for good words without bad ones, and as many less for bad words without good ones.
abbrev pub word_points : Found → ℤ
word_points found =
    if found.positive && not found.negative then pos 25
    else if found.negative && not found.positive then negsuc 24
    else pos 0

-- The id counts too, unless it names a place.
abbrev pub points_of_words : Kind → (class id : Found) → ℤ
points_of_words kind class id =
    if kind.is_place then word_points class else points_plus (word_points class) (word_points id)

abbrev pub in_either : Kind → (class id : Bool) → Bool
in_either kind class id = class || (not kind.is_place && id)

-- Whether an element is probably not the article, by its words.
abbrev pub is_unlikely : Kind → (class id : Found) → Bool
is_unlikely kind class id =
    not kind.stays && in_either kind class.unlikely id.unlikely
    && (not (in_either kind class.maybe id.maybe) || in_either kind class.strong id.strong)

-- ---- what is known of a node by itself

-- The facts of an element of this kind with these attributes, in whose class and id these words are. (What only its title, author
-- and date are taken from is left out.)
pub record IsElement (kind : Kind) (attrs : List Attr) (class id : Found) (facts : Facts) : Type 0 where
  pub kind_is : facts.kind ≡ kind
  pub text : facts.text ≡ no_text
  pub weight : facts.weight ≡ points_of_words kind class id
  pub is_main : facts.is_main ≡ (is_main_tag kind.tag || says_main attrs)
  pub is_hidden : facts.is_hidden ≡ (kind.is_never || (not (is_outer_tag kind.tag) && says_hidden attrs))
  pub has_role : facts.has_role ≡ (not (is_outer_tag kind.tag) && is_among (value_of attrs (codes "role")) role_names)
  pub is_unlikely_is : facts.is_unlikely ≡ is_unlikely kind class id
  pub has_class : facts.has_class ≡ has_letters (value_of attrs (codes "class"))
  pub is_raised : facts.is_raised ≡ says_main attrs
  pub is_link : facts.is_link ≡ (is_link_tag kind.tag && not (begins_with (codes "#") (value_or attrs (codes "href") (codes "#"))))
  pub is_input : facts.is_input ≡ (is_input_tag kind.tag && not (bytes_eq (value_of attrs (codes "type")) (codes "hidden")))

-- The facts of a node of which nothing is known but its tag, its text and whether it is hidden.
pub record IsBare (tag : Tag) (text : TextFacts) (hidden : Bool) (facts : Facts) : Type 0 where
  pub kind_is : facts.kind ≡ kind_with tag
  pub text_is : facts.text ≡ text
  pub weight : facts.weight ≡ pos 0
  pub is_main : facts.is_main ≡ false
  pub is_hidden : facts.is_hidden ≡ hidden
  pub has_role : facts.has_role ≡ false
  pub is_unlikely : facts.is_unlikely ≡ false
  pub has_class : facts.has_class ≡ false
  pub is_raised : facts.is_raised ≡ false
  pub is_link : facts.is_link ≡ false
  pub is_input : facts.is_input ≡ false

-- The facts of a node below the root: a text; an element; or another node, which is hidden.
abbrev pub IsNode : NodeData → Facts → Type 0
IsNode (Text contents) facts = IsBare AText (text_facts contents) false facts
IsNode (AnElement e) facts =
    IsElement (kind_of e.name.local) e.attrs (words_in (value_of e.attrs (codes "class"))) (words_in (value_of e.attrs (codes "id"))) facts
IsNode _ facts = IsBare Other no_text true facts

-- ---- all nodes

-- The facts of these nodes are those of what they are.
abbrev pub AreKnown : Forest → List Facts → (ns : List ℕ) → Type 0
AreKnown forest facts ns =
    (n : ℕ) (content : NodeData) → is_member n ns ≡ true → slice_get forest.content n ≡ Some content → IsNode content (facts_at facts n)

-- Whether a node is a first heading or says that it is the article.
abbrev pub is_head : Facts → Bool
is_head facts = facts.is_main || is_h1 facts.kind.tag

-- Whether a node is such a node, or a child holds the article.
abbrev pub holds_in : Forest → List Facts → ℕ → Bool
holds_in forest facts n = is_head (facts_at facts n) || list_any (λ m. (facts_at facts m).holds) (children_of forest n)

-- These nodes hold the article if that is so.
abbrev pub AreHeld : Forest → List Facts → (ns : List ℕ) → Type 0
AreHeld forest facts ns = (n : ℕ) → is_member n ns ≡ true → (facts_at facts n).holds ≡ holds_in forest facts n

-- The facts of the nodes of a page: of the root that it is a document; of each other node what it is; and of each node whether it
-- holds the article.
pub record AreFacts (forest : Forest) (facts : List Facts) : Type 0 where
  pub root : IsBare Document no_text false (facts_at facts 0)
  pub each : AreKnown forest facts (descendants_in_order forest 0)
  pub holds : AreHeld forest facts (page_nodes forest)
