-- How a long list of active formatting elements finds the elements that are like another (13.2.4.3): each has a number, and like elements
-- have the same.
use Rattle.std.specs.Prelude.{◌≡◌, ◌++◌, IfSome, List, Option, Some, [], ◌∷◌, ℕ}
use Rattle.std.specs.BTreeSet.{insert_key}
use Rattle.std.specs.Cmp.Lexicographic.{slice_cmp}
use Rattle.std.specs.List.{concat}
use Rattle.std.specs.Ordering.{nat_cmp}
use Rattle.dom_nodes.specs.Elements.{Element}
use Rattle.dom_nodes.specs.declared.name.Attr.{Attr}
use Rattle.dom_links.specs.Forest.{Forest}
use Rattle.dom_trees.specs.Views.{node_element}
use Rattle.page_trees.specs.NameNumbers.{number_in}
use Rattle.page_trees.specs.declared.formatting.Entry.{Entry}
use Rattle.page_trees.specs.declared.formatting.Entry.TheVariants.{Element as AnEntry, Marker}

-- ---- the text of an element

-- the name and the value of an attribute, with a NUL before each, which none of them contains
abbrev pub attr_text : Attr → List ℕ
attr_text attr = 0 ∷ attr.name.local ++ 0 ∷ attr.value

-- these texts and those of attributes, in order and each once
abbrev pub texts_with : List (List ℕ) → List Attr → List (List ℕ)
texts_with texts [] = texts
texts_with texts (attr ∷ attrs) = texts_with (insert_key (slice_cmp nat_cmp) texts (attr_text attr)) attrs

-- the name and the attributes of an element
abbrev pub element_text : Element → List ℕ
element_text element = element.name.local ++ concat (texts_with [] element.attrs)

-- ---- the list

-- the numbers of the entries, and those of the texts of elements
pub record Likes : Type 0 where
  pub keys : List ℕ
  pub numbers : List (List ℕ × ℕ)

-- the entries, the oldest first, and what a long list has besides
pub record Listed : Type 0 where
  pub entries : List Entry
  pub likes : Option Likes

-- an element has the number of its text
pub record HasNumber (forest : Forest) (numbers : List (List ℕ × ℕ)) (id number : ℕ) : Type 0 where
  pub element : Element
  pub there : node_element forest id ≡ Some element
  pub known : number_in numbers (element_text element) ≡ Some number

-- the element of an entry does, if it is no marker
abbrev pub IsKeyOf : Forest → List (List ℕ × ℕ) → Entry → ℕ → Type 0
IsKeyOf forest numbers (AnEntry o) key = HasNumber forest numbers o.id key
IsKeyOf forest numbers Marker key = Unit {0}

-- each entry does
abbrev pub AreKeysOf : Forest → List (List ℕ × ℕ) → List Entry → List ℕ → Type 0
AreKeysOf forest numbers [] [] = Unit {0}
AreKeysOf forest numbers (entry ∷ entries) (key ∷ keys) = IsKeyOf forest numbers entry key × AreKeysOf forest numbers entries keys
AreKeysOf forest numbers _ _ = ⊥

-- what a long list has besides its entries is right
abbrev pub AreLikesOf : Forest → List Entry → Option Likes → Type 0
AreLikesOf forest entries likes = IfSome likes (λ l. AreKeysOf forest l.numbers entries l.keys)

abbrev pub KnowsLikes : Forest → Listed → Type 0
KnowsLikes forest listed = AreLikesOf forest listed.entries listed.likes

-- in a long list, an element has the number of its text
abbrev pub HasLikeness : Forest → ℕ → ℕ → Option Likes → Type 0
HasLikeness forest id number likes = IfSome likes (λ l. HasNumber forest l.numbers id number)

-- the element of an entry does, if it is no marker
abbrev pub IsLikeness : Forest → Entry → ℕ → Option Likes → Type 0
IsLikeness forest entry number likes = IfSome likes (λ l. IsKeyOf forest l.numbers entry number)

-- texts keep their numbers
abbrev pub KeepsNumbers : List (List ℕ × ℕ) → List (List ℕ × ℕ) → Type 0
KeepsNumbers old new = (text : List ℕ) (number : ℕ) → number_in old text ≡ Some number → number_in new text ≡ Some number
