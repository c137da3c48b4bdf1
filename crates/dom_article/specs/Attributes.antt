-- The attributes of an element that rules look at.
use Rattle.std.specs.Prelude.{ℕ, ◌≡◌, List, [], codes, is_some}
use Rattle.std.specs.Option.{option_map_or}
use Rattle.dom_nodes.specs.declared.name.Attr.{Attr}
use Rattle.dom_nodes.specs.Attrs.{attr_of}
use Rattle.dom_article.specs.Hidden.{has_value}
use Rattle.dom_article.specs.declared.attributes.Attributes.{Attributes}

-- The value of the first attribute of this name, or else another text.
abbrev pub value_or : List Attr → (name other : List ℕ) → List ℕ
value_or attrs name other = option_map_or (λ value. value) (attr_of attrs name) other

abbrev pub value_of : List Attr → (name : List ℕ) → List ℕ
value_of attrs name = value_or attrs name []

-- The attributes that rules look at are those of the list. Without `href`, that is `#`.
pub record AreAttributes (attrs : List Attr) (found : Attributes) : Type 0 where
  pub class : found.class.now ≡ value_of attrs (codes "class")
  pub id : found.id.now ≡ value_of attrs (codes "id")
  pub rel : found.rel.now ≡ value_of attrs (codes "rel")
  pub role : found.role.now ≡ value_of attrs (codes "role")
  pub style : found.style.now ≡ value_of attrs (codes "style")
  pub itemprop : found.itemprop.now ≡ value_of attrs (codes "itemprop")
  pub href : found.href.now ≡ value_or attrs (codes "href") (codes "#")
  pub input : found.input.now ≡ value_of attrs (codes "type")
  pub aria_hidden : found.aria_hidden ≡ has_value attrs (codes "aria-hidden") (codes "true")
  pub aria_modal : found.aria_modal ≡ has_value attrs (codes "aria-modal") (codes "true")
  pub hidden : found.hidden ≡ is_some (attr_of attrs (codes "hidden"))
  pub has_datetime : found.has_datetime ≡ is_some (attr_of attrs (codes "datetime"))
