-- What kinds of elements Markdown distinguishes, by their names.
use Rattle.std.specs.Prelude.{ℕ, ◌+◌, ◌-◌, ◌==◌, ◌&&◌, ◌||◌, nat_le, List, [], ◌∷◌, codes, if◌then◌else◌}
use Rattle.std.specs.Str.{bytes_eq}
use Rattle.dom_md.specs.declared.serializer.names.TheConstants.{P, DIV, SECTION, ARTICLE, DL, A, LI, UL, OL, STRONG, B, EM, I, CODE, PRE, BR, IMG, TD, TH, TR, TABLE, BLOCKQUOTE, HR, H1, H6}
use Rattle.dom_md.specs.declared.serializer.names.Tag.{Tag}
use Rattle.dom_md.specs.declared.serializer.names.Tag.TheVariants.{Heading, Block, Quote, Table, Rule, UnorderedList, OrderedList, Item, TableRow, TableCell, Break, Link, Image, Preformatted, Code, Strong, Emphasis, Other}

unfoldable pub named_tags : List (List ℕ × Tag)
named_tags =
    (codes "p", Block) ∷ (codes "div", Block) ∷ (codes "section", Block) ∷ (codes "article", Block) ∷ (codes "dl", Block)
    ∷ (codes "h1", Heading 1) ∷ (codes "h2", Heading 2) ∷ (codes "h3", Heading 3) ∷ (codes "h4", Heading 4) ∷ (codes "h5", Heading 5) ∷ (codes "h6", Heading 6)
    ∷ (codes "blockquote", Quote) ∷ (codes "hr", Rule) ∷ (codes "ul", UnorderedList) ∷ (codes "ol", OrderedList) ∷ (codes "li", Item)
    ∷ (codes "table", Table) ∷ (codes "tr", TableRow) ∷ (codes "td", TableCell) ∷ (codes "th", TableCell)
    ∷ (codes "a", Link) ∷ (codes "img", Image) ∷ (codes "br", Break) ∷ (codes "pre", Preformatted) ∷ (codes "code", Code)
    ∷ (codes "strong", Strong) ∷ (codes "b", Strong) ∷ (codes "em", Emphasis) ∷ (codes "i", Emphasis) ∷ []

abbrev pub tag_in : List (List ℕ × Tag) → List ℕ → Tag
tag_in [] name = Other
tag_in (entry ∷ entries) name = if bytes_eq name entry.0 then entry.1 else tag_in entries name

-- the kind of an element with this name; `Other` for names that are not in the table
abbrev pub tag_named : List ℕ → Tag
tag_named name = tag_in named_tags name

-- the kind by the number of a known name
abbrev pub inner_numbered : ℕ → Tag
inner_numbered n =
    if n == LI then Item else if n == TR then TableRow else if n == TD || n == TH then TableCell
    else if n == BR then Break else if n == A then Link else if n == IMG then Image
    else if n == PRE then Preformatted else if n == CODE then Code
    else if n == STRONG || n == B then Strong else if n == EM || n == I then Emphasis else Other

abbrev pub tag_numbered : ℕ → Tag
tag_numbered n =
    if n == P || n == DIV || n == SECTION || n == ARTICLE || n == DL then Block
    else if nat_le H1 n && nat_le n H6 then Heading (n - H1 + 1)
    else if n == BLOCKQUOTE then Quote else if n == TABLE then Table else if n == HR then Rule
    else if n == UL then UnorderedList else if n == OL then OrderedList else inner_numbered n
