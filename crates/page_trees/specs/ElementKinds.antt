-- Categories of elements, as the rules on calm pages need them, and the element names of each. A calm page is explicit markup
-- that tree construction leaves as it is; `page_reading` defines it.
use Rattle.std.specs.Prelude.{ℕ, Bool, true, false, ◌&&◌, ◌||◌, List, [], ◌∷◌, codes, if◌then◌else◌}
use Rattle.dom_nodes.specs.Words.{is_among}
use Rattle.page_trees.specs.declared.element_kinds.ElementCategory.{ElementCategory}
use Rattle.page_trees.specs.declared.element_kinds.ElementCategory.TheVariants.{Document, Html, Head, Body, Metadata, Verbatim, Phrase, Anchor, Button, Paragraph, Block, Heading, Form, Pre, ItemList, Item, DescriptionList, Description, Ruby, RubyText, Table, Caption, ColumnGroup, Column, RowGroup, TableRow, Cell, Other}
use Rattle.page_trees.specs.declared.element_kinds.Role.{Role}
use Rattle.page_trees.specs.declared.element_kinds.Role.TheVariants.{Flow, FlowHolder, FlowLeaf, FlowTable, Parts, Apart}

-- the names of the elements in a category
unfoldable pub names_of : ElementCategory → List (List ℕ)
names_of Html = codes "html" ∷ []
names_of Head = codes "head" ∷ []
names_of Body = codes "body" ∷ []
names_of Metadata = codes "base" ∷ codes "link" ∷ codes "meta" ∷ []
names_of Verbatim = codes "script" ∷ codes "style" ∷ codes "title" ∷ []
names_of Phrase = codes "abbr" ∷ codes "acronym" ∷ codes "area" ∷ codes "audio" ∷ codes "b" ∷ codes "bdi" ∷ codes "bdo" ∷ codes "big" ∷ codes "br" ∷ codes "canvas" ∷ codes "cite" ∷ codes "code" ∷ codes "data" ∷ codes "datalist" ∷ codes "del" ∷ codes "dfn" ∷ codes "em" ∷ codes "embed" ∷ codes "font" ∷ codes "i" ∷ codes "img" ∷ codes "input" ∷ codes "ins" ∷ codes "kbd" ∷ codes "label" ∷ codes "legend" ∷ codes "map" ∷ codes "mark" ∷ codes "meter" ∷ codes "output" ∷ codes "picture" ∷ codes "progress" ∷ codes "q" ∷ codes "s" ∷ codes "samp" ∷ codes "slot" ∷ codes "small" ∷ codes "source" ∷ codes "span" ∷ codes "strike" ∷ codes "strong" ∷ codes "sub" ∷ codes "sup" ∷ codes "time" ∷ codes "track" ∷ codes "tt" ∷ codes "u" ∷ codes "var" ∷ codes "video" ∷ codes "wbr" ∷ []
names_of Anchor = codes "a" ∷ []
names_of Button = codes "button" ∷ []
names_of Paragraph = codes "p" ∷ []
names_of Block = codes "address" ∷ codes "article" ∷ codes "aside" ∷ codes "blockquote" ∷ codes "center" ∷ codes "details" ∷ codes "dialog" ∷ codes "div" ∷ codes "fieldset" ∷ codes "figcaption" ∷ codes "figure" ∷ codes "footer" ∷ codes "header" ∷ codes "hgroup" ∷ codes "hr" ∷ codes "main" ∷ codes "nav" ∷ codes "search" ∷ codes "section" ∷ codes "summary" ∷ []
names_of Heading = codes "h1" ∷ codes "h2" ∷ codes "h3" ∷ codes "h4" ∷ codes "h5" ∷ codes "h6" ∷ []
names_of Form = codes "form" ∷ []
names_of Pre = codes "pre" ∷ []
names_of ItemList = codes "dir" ∷ codes "menu" ∷ codes "ol" ∷ codes "ul" ∷ []
names_of Item = codes "li" ∷ []
names_of DescriptionList = codes "dl" ∷ []
names_of Description = codes "dd" ∷ codes "dt" ∷ []
names_of Ruby = codes "ruby" ∷ []
names_of RubyText = codes "rp" ∷ codes "rt" ∷ []
names_of Table = codes "table" ∷ []
names_of Caption = codes "caption" ∷ []
names_of ColumnGroup = codes "colgroup" ∷ []
names_of Column = codes "col" ∷ []
names_of RowGroup = codes "tbody" ∷ codes "tfoot" ∷ codes "thead" ∷ []
names_of TableRow = codes "tr" ∷ []
names_of Cell = codes "td" ∷ codes "th" ∷ []
names_of _ = []

-- the categories that have names
abbrev pub named_kinds : List ElementCategory
named_kinds = Html ∷ Head ∷ Body ∷ Metadata ∷ Verbatim ∷ Phrase ∷ Anchor ∷ Button ∷ Paragraph ∷ Block ∷ Heading ∷ Form ∷ Pre ∷ ItemList ∷ Item ∷ DescriptionList ∷ Description ∷ Ruby ∷ RubyText ∷ Table ∷ Caption ∷ ColumnGroup ∷ Column ∷ RowGroup ∷ TableRow ∷ Cell ∷ []

-- the first category of the list that has the name
abbrev pub kind_among : List ℕ → List ElementCategory → ElementCategory
kind_among name [] = Other
kind_among name (kind ∷ kinds) = if is_among name (names_of kind) then kind else kind_among name kinds

-- the category of the element with that name
unfoldable pub kind_of : List ℕ → ElementCategory
kind_of name = kind_among name named_kinds

-- whether elements of a category occur in the content of a body, and whether they may hold such content
abbrev pub role_of : ElementCategory → Role
role_of Phrase = Flow
role_of Anchor = Flow
role_of Button = Flow
role_of Paragraph = Flow
role_of Block = Flow
role_of Heading = Flow
role_of Form = Flow
role_of Pre = Flow
role_of ItemList = Flow
role_of DescriptionList = Flow
role_of Ruby = Flow
role_of Body = FlowHolder
role_of Item = FlowHolder
role_of Description = FlowHolder
role_of RubyText = FlowHolder
role_of Caption = FlowHolder
role_of Cell = FlowHolder
role_of Verbatim = FlowLeaf
role_of Table = FlowTable
role_of Head = Parts
role_of ColumnGroup = Parts
role_of RowGroup = Parts
role_of TableRow = Parts
role_of _ = Apart

-- whether elements of the category may hold the same content as a body
abbrev pub holds_flow : ElementCategory → Bool
holds_flow kind = elim (role_of kind) [ Flow ↦ true | FlowHolder ↦ true | FlowLeaf ↦ false | FlowTable ↦ false | Parts ↦ false | Apart ↦ false ]

-- whether elements of the category may occur in the content of a body
abbrev pub is_flow : ElementCategory → Bool
is_flow kind = elim (role_of kind) [ Flow ↦ true | FlowHolder ↦ false | FlowLeaf ↦ true | FlowTable ↦ true | Parts ↦ false | Apart ↦ false ]

-- whether elements of the category hold only certain elements, whitespace and comments
abbrev pub holds_parts : ElementCategory → Bool
holds_parts kind = elim (role_of kind) [ Flow ↦ false | FlowHolder ↦ false | FlowLeaf ↦ false | FlowTable ↦ true | Parts ↦ true | Apart ↦ false ]

-- whether an element of the second category may be a child of one of the first
abbrev pub may_hold : ElementCategory → ElementCategory → Bool
may_hold Document Html = true
may_hold Html Head = true
may_hold Html Body = true
may_hold Head Metadata = true
may_hold Head Verbatim = true
may_hold Heading Heading = false
may_hold ItemList Item = true
may_hold DescriptionList Description = true
may_hold Ruby RubyText = true
may_hold Table Caption = true
may_hold Table ColumnGroup = true
may_hold Table RowGroup = true
may_hold ColumnGroup Column = true
may_hold RowGroup TableRow = true
may_hold TableRow Cell = true
may_hold parent kind = holds_flow parent && is_flow kind

-- whether comments may be children of elements of the category
abbrev pub holds_comments : ElementCategory → Bool
holds_comments parent = holds_parts parent || holds_flow parent

-- whether a doctype may be a child: only the document may have one
abbrev pub holds_doctype : ElementCategory → Bool
holds_doctype Document = true
holds_doctype parent = false
