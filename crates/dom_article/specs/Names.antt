-- What is known of an element by its name.
use Rattle.std.specs.Prelude.{ℕ, ◌≡◌, ◌<◌, ℤ, pos, negsuc, ◌||◌, false, List, [], ◌∷◌, Some, None, codes, slice_index_or, if◌then◌else◌}
use Rattle.std.specs.Str.{bytes_eq}
use Rattle.dom_nodes.specs.KnownNames.{known_name}
use Rattle.dom_nodes.specs.Words.{is_among}
use Rattle.dom_article.specs.Hidden.{never_names}
use Rattle.dom_article.specs.declared.kinds.Kind.{Kind}
use Rattle.dom_article.specs.declared.kinds.Kinds.{Kinds}
use Rattle.dom_article.specs.declared.kinds.Tag.{Tag}
use Rattle.dom_article.specs.declared.kinds.Tag.TheVariants.{A, Article, Aside, Blockquote, Body, Br, Cell, Div, Figure, Footer, H1, H2, H3}
use Rattle.dom_article.specs.declared.kinds.Tag.TheVariants.{Html, Image, Input, List as AList, Main, Meta, Other, Paragraph, Preformatted}
use Rattle.dom_article.specs.declared.kinds.Tag.TheVariants.{Script, Section, Style, Table, Textarea, Time, Title}

-- The elements that rules name one by one.
unfoldable pub named_tags : List (List ℕ × Tag)
named_tags =
    (codes "a", A) ∷ (codes "article", Article) ∷ (codes "aside", Aside) ∷ (codes "blockquote", Blockquote) ∷
    (codes "body", Body) ∷ (codes "br", Br) ∷ (codes "div", Div) ∷ (codes "figure", Figure) ∷
    (codes "footer", Footer) ∷ (codes "h1", H1) ∷ (codes "h2", H2) ∷ (codes "h3", H3) ∷ (codes "html", Html) ∷
    (codes "img", Image) ∷ (codes "input", Input) ∷ (codes "dl", AList) ∷ (codes "ol", AList) ∷ (codes "ul", AList) ∷
    (codes "main", Main) ∷ (codes "meta", Meta) ∷ (codes "p", Paragraph) ∷ (codes "pre", Preformatted) ∷
    (codes "script", Script) ∷ (codes "section", Section) ∷ (codes "style", Style) ∷ (codes "table", Table) ∷
    (codes "td", Cell) ∷ (codes "textarea", Textarea) ∷ (codes "time", Time) ∷ (codes "title", Title) ∷ []

-- The tag of the pair, if it has this name; otherwise the other one.
abbrev pub tag_by : List ℕ × Tag → (name : List ℕ) → (other : Tag) → Tag
tag_by (word, tag) name other = if bytes_eq word name then tag else other

-- The tag of the pair with this name. (No name is in the list twice.)
abbrev pub tag_in : List (List ℕ × Tag) → (name : List ℕ) → (other : Tag) → Tag
tag_in [] name other = other
tag_in (pair ∷ more) name other = tag_in more name (tag_by pair name other)

abbrev pub tag_of : List ℕ → Tag
tag_of name = tag_in named_tags name Other

-- The elements that are blocks.
unfoldable pub block_names : List (List ℕ)
block_names =
    codes "address" ∷ codes "article" ∷ codes "aside" ∷ codes "blockquote" ∷ codes "body" ∷ codes "caption" ∷
    codes "center" ∷ codes "dd" ∷ codes "details" ∷ codes "dialog" ∷ codes "dir" ∷ codes "div" ∷ codes "dl" ∷
    codes "dt" ∷ codes "fieldset" ∷ codes "figcaption" ∷ codes "figure" ∷ codes "footer" ∷ codes "form" ∷
    codes "h1" ∷ codes "h2" ∷ codes "h3" ∷ codes "h4" ∷ codes "h5" ∷ codes "h6" ∷ codes "header" ∷
    codes "hgroup" ∷ codes "hr" ∷ codes "html" ∷ codes "li" ∷ codes "main" ∷ codes "menu" ∷ codes "nav" ∷
    codes "ol" ∷ codes "p" ∷ codes "pre" ∷ codes "search" ∷ codes "section" ∷ codes "summary" ∷ codes "table" ∷
    codes "tbody" ∷ codes "td" ∷ codes "tfoot" ∷ codes "th" ∷ codes "thead" ∷ []

-- More of them.
unfoldable pub row_names : List (List ℕ)
row_names = codes "tr" ∷ codes "ul" ∷ []

unfoldable pub heading_names : List (List ℕ)
heading_names = codes "h1" ∷ codes "h2" ∷ codes "h3" ∷ codes "h4" ∷ codes "h5" ∷ codes "h6" ∷ []

-- With the headings: the elements whose ids name a place of the text, so that only their class is a hint.
unfoldable pub place_names : List (List ℕ)
place_names =
    codes "section" ∷ codes "a" ∷ codes "span" ∷ codes "p" ∷ codes "dt" ∷ codes "dd" ∷ codes "li" ∷ codes "td" ∷
    codes "tr" ∷ codes "table" ∷ []

-- The elements that aren't left out because of the words in their class and id.
unfoldable pub staying_names : List (List ℕ)
staying_names =
    codes "a" ∷ codes "code" ∷ codes "td" ∷ codes "tr" ∷ codes "tbody" ∷ codes "article" ∷ codes "main" ∷
    codes "b" ∷ codes "em" ∷ codes "i" ∷ codes "strong" ∷ codes "html" ∷ codes "body" ∷ []

-- The elements that are never left out as bad blocks.
unfoldable pub never_bad_names : List (List ℕ)
never_bad_names =
    codes "body" ∷ codes "html" ∷ codes "p" ∷ codes "td" ∷ codes "th" ∷ codes "tr" ∷ codes "tbody" ∷
    codes "thead" ∷ codes "tfoot" ∷ codes "pre" ∷ codes "li" ∷ codes "dt" ∷ codes "dd" ∷ codes "blockquote" ∷
    codes "main" ∷ codes "figcaption" ∷ codes "caption" ∷ codes "summary" ∷ []

-- The points that elements begin with.
unfoldable pub named_bases : List (List ℕ × ℤ)
named_bases =
    (codes "div", pos 5) ∷ (codes "article", pos 10) ∷ (codes "main", pos 10) ∷ (codes "pre", pos 3) ∷
    (codes "td", pos 3) ∷ (codes "blockquote", pos 3) ∷ (codes "address", negsuc 2) ∷ (codes "ol", negsuc 2) ∷
    (codes "ul", negsuc 2) ∷ (codes "dl", negsuc 2) ∷ (codes "dd", negsuc 2) ∷ (codes "dt", negsuc 2) ∷
    (codes "li", negsuc 2) ∷ (codes "form", negsuc 2) ∷ (codes "th", negsuc 4) ∷ (codes "h1", negsuc 4) ∷
    (codes "h2", negsuc 4) ∷ (codes "h3", negsuc 4) ∷ (codes "h4", negsuc 4) ∷ (codes "h5", negsuc 4) ∷
    (codes "h6", negsuc 4) ∷ []

-- The points of the first pair with this name.
abbrev pub base_in : List (List ℕ × ℤ) → (name : List ℕ) → ℤ
base_in [] name = pos 0
base_in ((word, base) ∷ more) name = if bytes_eq word name then base else base_in more name

abbrev pub base_of : List ℕ → ℤ
base_of name = base_in named_bases name

-- What is known of a node of this tag, and nothing more.
abbrev pub kind_with : Tag → Kind
kind_with tag = record {
  tag = tag;
  is_block = false;
  is_heading = false;
  is_never = false;
  is_place = false;
  stays = false;
  is_never_bad = false;
  base = pos 0;
}

-- What is known of the elements with this name.
abbrev pub kind_of : List ℕ → Kind
kind_of name = record {
  tag = tag_of name;
  is_block = is_among name block_names || is_among name row_names;
  is_heading = is_among name heading_names;
  is_never = is_among name never_names;
  is_place = is_among name heading_names || is_among name place_names;
  stays = is_among name staying_names;
  is_never_bad = is_among name never_bad_names;
  base = base_of name;
}

-- The kinds that are kept are those of the names with these numbers.
abbrev pub AreKinds : Kinds → Type 0
AreKinds kinds =
    (number : ℕ) (kind : Kind) → number < 247 → slice_index_or kinds.known.items number None ≡ Some kind → kind ≡ kind_of (known_name number)
