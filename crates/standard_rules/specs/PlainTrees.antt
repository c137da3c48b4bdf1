-- Plain trees: elements that occur only where tree construction leaves them, so that their markup, with every tag written, is
-- read as the same tree.
use Rattle.std.specs.Prelude.{ℕ, ◌≡◌, Bool, true, false, not, cond, ◌&&◌, ◌||◌, ◌==◌, List, [], ◌∷◌, codes}
use Rattle.std.specs.List.{list_all}
use Rattle.standard_rules.specs.Building.{is_space}
use Rattle.standard_rules.specs.TreeRules.{blocks, cells, groups, headings}
use Rattle.standard_tokens.specs.Tokens.{Attr}
use Rattle.standard_rules.specs.TreeTokens.{Trees, no_trees, text_node, comment_node, doctype_node, element_node, is_among}

-- ---- classes of elements

-- the elements that the rules treat alike
pub data Class : Type 0 where
  AList ADescriptionList ABlock AHeading AParagraph APhrase AFormatting AnAnchor AVoid AnItem ADescription AButton ABreak ASource AnInput :
      Class
  AForm APre ARuby ARubyText ARawText AMetadata ATable ACaption AColumnGroup AColumn ARowGroup ARow ACell Another : Class

abbrev pub names_of : Class → List (List ℕ)
names_of AList = codes "dir" ∷ codes "menu" ∷ codes "ol" ∷ codes "ul" ∷ []
names_of ADescriptionList = codes "dl" ∷ []
names_of ABlock = blocks
names_of AHeading = headings
names_of AParagraph = codes "p" ∷ []
names_of APhrase = codes "abbr" ∷ codes "acronym" ∷ codes "audio" ∷ codes "bdi" ∷ codes "bdo" ∷ codes "canvas" ∷ codes "cite" ∷ codes "data"
    ∷ codes "datalist" ∷ codes "del" ∷ codes "dfn" ∷ codes "ins" ∷ codes "kbd" ∷ codes "label" ∷ codes "legend" ∷ codes "map" ∷ codes "mark"
    ∷ codes "meter" ∷ codes "output" ∷ codes "picture" ∷ codes "progress" ∷ codes "q" ∷ codes "samp" ∷ codes "slot" ∷ codes "span"
    ∷ codes "sub" ∷ codes "sup" ∷ codes "time" ∷ codes "var" ∷ codes "video" ∷ []
names_of AFormatting = codes "b" ∷ codes "big" ∷ codes "code" ∷ codes "em" ∷ codes "font" ∷ codes "i" ∷ codes "s" ∷ codes "small"
    ∷ codes "strike" ∷ codes "strong" ∷ codes "tt" ∷ codes "u" ∷ []
names_of AnAnchor = codes "a" ∷ []
names_of AVoid = codes "area" ∷ codes "br" ∷ codes "embed" ∷ codes "img" ∷ codes "wbr" ∷ []
names_of AnItem = codes "li" ∷ []
names_of ADescription = codes "dd" ∷ codes "dt" ∷ []
names_of AButton = codes "button" ∷ []
names_of ABreak = codes "hr" ∷ []
names_of ASource = codes "source" ∷ codes "track" ∷ []
names_of AnInput = codes "input" ∷ []
names_of AForm = codes "form" ∷ []
names_of APre = codes "pre" ∷ []
names_of ARuby = codes "ruby" ∷ []
names_of ARubyText = codes "rp" ∷ codes "rt" ∷ []
names_of ARawText = codes "script" ∷ codes "style" ∷ codes "title" ∷ []
names_of AMetadata = codes "base" ∷ codes "link" ∷ codes "meta" ∷ []
names_of ATable = codes "table" ∷ []
names_of ACaption = codes "caption" ∷ []
names_of AColumnGroup = codes "colgroup" ∷ []
names_of AColumn = codes "col" ∷ []
names_of ARowGroup = groups
names_of ARow = codes "tr" ∷ []
names_of ACell = cells
names_of Another = []

abbrev pub classes : List Class
classes = AList ∷ ADescriptionList ∷ ABlock ∷ AHeading ∷ AParagraph ∷ APhrase ∷ AFormatting ∷ AnAnchor ∷ AVoid ∷ AnItem ∷ ADescription
    ∷ AButton ∷ ABreak ∷ ASource ∷ AnInput
    ∷ AForm ∷ APre ∷ ARuby ∷ ARubyText ∷ ARawText ∷ AMetadata ∷ ATable ∷ ACaption ∷ AColumnGroup ∷ AColumn ∷ ARowGroup ∷ ARow ∷ ACell ∷ []

-- the first of the classes that has the name
abbrev pub class_among : List ℕ → List Class → Class
class_among name [] = Another
class_among name (c ∷ cs) = cond (is_among name (names_of c)) c (class_among name cs)

abbrev pub class_of : List ℕ → Class
class_of name = class_among name classes

-- ---- where nodes are

-- what the parent of a node is: an element that holds what a body holds, with five cases that the rules tell apart, or one of the others
pub data Place : Type 0 where
  FlowPlace HeadingPlace ListPlace DescriptionListPlace RubyPlace TablePlace ColumnGroupPlace RowGroupPlace RowPlace HeadPlace : Place

abbrev pub is_flow : Place → Bool
is_flow FlowPlace = true
is_flow HeadingPlace = true
is_flow ListPlace = true
is_flow DescriptionListPlace = true
is_flow RubyPlace = true
is_flow _ = false

abbrev pub is_heading : Place → Bool
is_heading HeadingPlace = true
is_heading _ = false

abbrev pub is_list : Place → Bool
is_list ListPlace = true
is_list _ = false

abbrev pub is_description_list : Place → Bool
is_description_list DescriptionListPlace = true
is_description_list _ = false

abbrev pub is_ruby : Place → Bool
is_ruby RubyPlace = true
is_ruby _ = false

abbrev pub is_table : Place → Bool
is_table TablePlace = true
is_table _ = false

abbrev pub is_column_group : Place → Bool
is_column_group ColumnGroupPlace = true
is_column_group _ = false

abbrev pub is_row_group : Place → Bool
is_row_group RowGroupPlace = true
is_row_group _ = false

abbrev pub is_row : Place → Bool
is_row RowPlace = true
is_row _ = false

abbrev pub is_head : Place → Bool
is_head HeadPlace = true
is_head _ = false

-- where nodes are: the kind of their parent, and which of these elements are among their ancestors
pub record Within : Type 0 where
  pub place : Place
  pub paragraph : Bool
  pub anchor : Bool
  pub button : Bool
  pub form : Bool

abbrev pub outermost : Place → Within
outermost place = record { place = place; paragraph = false; anchor = false; button = false; form = false }

abbrev pub place_of : Class → Place
place_of AHeading = HeadingPlace
place_of AList = ListPlace
place_of ADescriptionList = DescriptionListPlace
place_of ARuby = RubyPlace
place_of ATable = TablePlace
place_of AColumnGroup = ColumnGroupPlace
place_of ARowGroup = RowGroupPlace
place_of ARow = RowPlace
place_of _ = FlowPlace

-- where the children of an element of that class are
abbrev pub inside : Within → Class → Within
inside w AParagraph = record w { place = FlowPlace; paragraph = true }
inside w AnAnchor = record w { place = FlowPlace; anchor = true }
inside w AButton = record w { place = FlowPlace; button = true }
inside w AForm = record w { place = FlowPlace; form = true }
inside w class = record w { place = place_of class }

-- ---- which elements may be there

abbrev pub is_none : Trees → Bool
is_none no_trees = true
is_none _ = false

-- a text alone, or nothing
abbrev pub is_raw : Trees → Bool
is_raw no_trees = true
is_raw (text_node contents later) = is_none later
is_raw _ = false

-- the first child is a text that begins with a line feed
abbrev pub begins_feed : Trees → Bool
begins_feed (text_node (c ∷ contents) later) = c == 10
begins_feed _ = false

-- an element that closes an open `p` may be there
abbrev pub holds_blocks : Within → Bool
holds_blocks w = is_flow w.place && not w.paragraph

-- an element of that class with these children may be there
abbrev pub admits : Within → Class → Trees → Bool
admits w ABlock children = holds_blocks w
admits w AList children = holds_blocks w
admits w ADescriptionList children = holds_blocks w
admits w AParagraph children = holds_blocks w
admits w ATable children = holds_blocks w
admits w AHeading children = holds_blocks w && not (is_heading w.place)
admits w AForm children = holds_blocks w && not w.form
admits w APre children = holds_blocks w && not (begins_feed children)
admits w ABreak children = holds_blocks w && is_none children
admits w AnItem children = is_list w.place
admits w ADescription children = is_description_list w.place
admits w APhrase children = is_flow w.place
admits w AFormatting children = is_flow w.place
admits w ARuby children = is_flow w.place
admits w ARubyText children = is_ruby w.place
admits w AnAnchor children = is_flow w.place && not w.anchor
admits w AButton children = is_flow w.place && not w.button
admits w AVoid children = is_flow w.place && is_none children
admits w ASource children = is_flow w.place && is_none children
admits w AnInput children = is_flow w.place && is_none children
admits w ARawText children = (is_flow w.place || is_head w.place) && is_raw children
admits w AMetadata children = is_head w.place && is_none children
admits w ACaption children = is_table w.place
admits w AColumnGroup children = is_table w.place
admits w ARowGroup children = is_table w.place
admits w AColumn children = is_column_group w.place && is_none children
admits w ARow children = is_row_group w.place
admits w ACell children = is_row w.place
admits w Another children = false

-- ---- plain trees

abbrev pub begins_text : Trees → Bool
begins_text (text_node contents later) = true
begins_text _ = false

-- some characters, none of them U+0000
abbrev pub is_text : List ℕ → Bool
is_text [] = false
is_text (c ∷ contents) = list_all (λ d. not (d == 0)) (c ∷ contents)

-- outside of flow, white space alone
abbrev pub may_be_text : Place → List ℕ → Bool
may_be_text place contents = is_text contents && (is_flow place || list_all is_space contents)

-- no text follows another, and each element may be where it is
abbrev pub are_plain : Within → Trees → Bool
are_plain w no_trees = true
are_plain w (text_node contents later) = (may_be_text w.place contents && not (begins_text later)) && are_plain w later
are_plain w (comment_node contents later) = are_plain w later
are_plain w (doctype_node name later) = false
are_plain w (element_node name attrs children later) = (admits w (class_of name) children && are_plain (inside w (class_of name)) children)
    && are_plain w later

-- ---- pages

-- white space between the head and the body, if there is any
abbrev pub space_node : List ℕ → Trees → Trees
space_node [] later = later
space_node (c ∷ space) later = text_node (c ∷ space) later

pub record Page : Type 0 where
  pub html : List Attr
  pub head : List Attr
  pub metadata : Trees  -- what the head holds
  pub space : List ℕ
  pub body : List Attr
  pub contents : Trees  -- what the body holds

abbrev pub page_trees : Page → Trees
page_trees page = doctype_node (codes "html") (element_node (codes "html") page.html
    (element_node (codes "head") page.head page.metadata
    (space_node page.space (element_node (codes "body") page.body page.contents no_trees))) no_trees)

-- a page whose head and body hold plain trees
pub record IsPlainPage (page : Page) : Type 0 where
  pub metadata : are_plain (outermost HeadPlace) page.metadata ≡ true
  pub space : list_all is_space page.space ≡ true
  pub contents : are_plain (outermost FlowPlace) page.contents ≡ true

-- the context elements of which the law for fragments speaks
abbrev pub flow_contexts : List (List ℕ)
flow_contexts = codes "body" ∷ codes "div" ∷ codes "li" ∷ codes "td" ∷ codes "blockquote" ∷ []
