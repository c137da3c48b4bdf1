-- Calm pages. A page is calm if it is explicit markup (`dom_markup`) that tree construction leaves as it is, so that
-- `Document::parse` and the HTML Standard give the same tree. The definition names sufficient conditions that are cheap to check.
use Rattle.std.specs.Prelude.{ℕ, ◌≡◌, ◌==◌, ◌&&◌, ◌||◌, Bool, true, false, not, nat_eq, List, [], ◌∷◌, Option, None, find, codes}
use Rattle.std.specs.Prelude.{if◌then◌else◌}
use Rattle.std.specs.Char.{is_ascii_alphanumeric}
use Rattle.std.specs.List.{list_all, starts_with}
use Rattle.std.specs.Option.{option_map_or}
use Rattle.dom_nodes.specs.Ascii.{ampersand, carriage_return, exclamation_mark, greater_than, less_than, line_feed, number_sign, slash}
use Rattle.dom_links.specs.Forest.{Forest, children_of}
use Rattle.dom_links.specs.ListMoves.{element_at}
use Rattle.dom_links.specs.Lists.{first, last}
use Rattle.dom_trees.specs.SameTree.{SameTree}
use Rattle.dom_trees.specs.declared.quirks.QuirksMode.TheVariants.{NoQuirks}
use Rattle.dom_markup.specs.Bytes.{is_whitespace}
use Rattle.dom_markup.specs.Html.{html_of}
use Rattle.dom_markup.specs.Markup.{Spells}
use Rattle.dom_markup.specs.Numbered.{document_of}
use Rattle.dom_markup.specs.Plain.{Represents}
use Rattle.dom_markup.specs.ValueTrees.{Attribute, ValueTrees}
use Rattle.dom_markup.specs.declared.document.Document.{Document as CalmDocument}
use Rattle.dom_markup.specs.ValueTrees.ValueTrees.{no_trees, text_node, comment_node, doctype_node, element_node}
use Rattle.page_trees.specs.ElementKinds.{holds_comments, holds_doctype, holds_flow, holds_parts, kind_of, may_hold}
use Rattle.page_trees.specs.Framed.{IsFramed}
use Rattle.page_trees.specs.Shape.{IsPage}
use Rattle.page_trees.specs.declared.element_kinds.ElementCategory.{ElementCategory}
use Rattle.page_trees.specs.declared.element_kinds.ElementCategory.TheVariants.{Anchor, Block, Button, DescriptionList, Document, Form}
use Rattle.page_trees.specs.declared.element_kinds.ElementCategory.TheVariants.{Heading, Html, ItemList, Paragraph, Pre, Table, Verbatim}
use Rattle.calm_pages.specs.declared.nesting.Scope.{Scope}
use Rattle.page_trees.specs.declared.reading.Options.{Options}

-- ---- trees

-- an open element forbids an element of this category: it would be closed or ignored, such as a `p` in a `p`
abbrev pub bars : Scope → ElementCategory → Bool
bars scope Anchor = scope.in_anchor
bars scope Button = scope.in_button
bars scope Form = scope.in_paragraph || scope.in_form
bars scope Paragraph = scope.in_paragraph
bars scope Block = scope.in_paragraph
bars scope Heading = scope.in_paragraph
bars scope Pre = scope.in_paragraph
bars scope ItemList = scope.in_paragraph
bars scope DescriptionList = scope.in_paragraph
bars scope Table = scope.in_paragraph
bars scope _ = false

-- the scope of the children of an element of that category
abbrev pub inside : Scope → ElementCategory → Scope
inside scope Anchor = record scope { parent = Anchor; in_anchor = true }
inside scope Button = record scope { parent = Button; in_button = true }
inside scope Form = record scope { parent = Form; in_form = true }
inside scope Paragraph = record scope { parent = Paragraph; in_paragraph = true }
inside scope kind = record scope { parent = kind }

-- the scope of the root's children
abbrev pub top : Scope
top = record { parent = Document; in_paragraph = false; in_anchor = false; in_button = false; in_form = false }

abbrev pub admits : Scope → ElementCategory → Bool
admits scope kind = may_hold scope.parent kind && not (bars scope kind)

-- a `<` before these bytes starts an end tag or a declaration
abbrev pub begins_close : List ℕ → Bool
begins_close [] = false
begins_close (b ∷ rest) = b == slash || b == exclamation_mark

-- the text contains an end tag or a declaration
abbrev pub has_close : List ℕ → Bool
has_close [] = false
has_close (b ∷ rest) = (b == less_than && begins_close rest) || has_close rest

abbrev pub begins_line : List ℕ → Bool
begins_line [] = false
begins_line (b ∷ rest) = b == line_feed

-- whether such an element may have this text as a child: only whitespace in elements whose text tree construction would move;
-- in a `pre`, no text that begins with a line feed, which a reader drops right after the start tag
abbrev pub may_hold_text : ElementCategory → List ℕ → Bool
may_hold_text Html contents = list_all is_whitespace contents
may_hold_text Verbatim contents = not (has_close contents)
may_hold_text Pre contents = not (begins_line contents)
may_hold_text parent contents = if holds_parts parent then list_all is_whitespace contents else holds_flow parent

-- what an element may hold after its first child: a `pre` is then like any block
abbrev pub behind_first : ElementCategory → ElementCategory
behind_first Pre = Block
behind_first kind = kind

-- the scope of the later siblings of a node
abbrev pub behind : Scope → Scope
behind scope = record scope { parent = behind_first scope.parent }

abbrev pub may_hold_comment : ElementCategory → List ℕ → Bool
may_hold_comment parent contents = holds_comments parent && list_all (λ b. not (b == greater_than)) contents

-- the trees may be in this scope, and so may their descendants be in theirs
abbrev pub are_calm : Scope → ValueTrees → Bool
are_calm scope no_trees = true
are_calm scope (text_node contents later) = may_hold_text scope.parent contents && are_calm (behind scope) later
are_calm scope (comment_node contents later) = may_hold_comment scope.parent contents && are_calm (behind scope) later
are_calm scope (doctype_node name public system later) = holds_doctype scope.parent && are_calm (behind scope) later
are_calm scope (element_node name attributes children later) =
    (admits scope (kind_of name) && are_calm (inside scope (kind_of name)) children) && are_calm (behind scope) later

-- the trees after this text, or the trees alone if the text is empty
abbrev pub behind_text : List ℕ → ValueTrees → ValueTrees
behind_text [] later = later
behind_text (b ∷ contents) later = text_node (b ∷ contents) later

-- A calm document: a doctype and an element `html` with a head, optional whitespace and a body, whose content is calm.
pub record IsCalmDocument (trees : ValueTrees) : Type 0 where
  pub html_attributes : List Attribute
  pub head_attributes : List Attribute
  pub body_attributes : List Attribute
  pub head : ValueTrees
  pub space : List ℕ
  pub body : ValueTrees
  pub is : trees ≡ doctype_node (codes "html") [] [] (element_node (codes "html") html_attributes
      (element_node (codes "head") head_attributes head (behind_text space (element_node (codes "body") body_attributes body no_trees)))
      no_trees)
  pub calm : are_calm top trees ≡ true

-- whether there is such a node, and it is an element
abbrev pub is_element_at : Forest → Option ℕ → Bool
is_element_at forest found = option_map_or (element_at forest) found false

-- whether the first and the last child of the root's first element are elements
abbrev pub has_elements_at_ends : Forest → Bool
has_elements_at_ends forest =
    option_map_or (λ html. is_element_at forest (first (children_of forest html)) && is_element_at forest (last (children_of forest html)))
    (find (element_at forest) (children_of forest 0)) false

-- ---- texts

abbrev pub begins : List ℕ → List ℕ → Bool
begins after word = starts_with nat_eq after word

-- an `&` before these bytes is plain text, whichever names of references a parser knows
abbrev pub is_bare : List ℕ → Bool
is_bare [] = true
is_bare (b ∷ rest) = not (is_ascii_alphanumeric b || b == number_sign)

-- these bytes complete an `&` to one of five references, or to none
abbrev pub is_plain_reference : List ℕ → Bool
is_plain_reference after = begins after (codes "amp;") || begins after (codes "lt;") || begins after (codes "gt;")
    || begins after (codes "quot;") || begins after (codes "nbsp;") || is_bare after

-- these bytes after a `<` are a tag of an element with foreign content
abbrev pub begins_foreign : List ℕ → Bool
begins_foreign after = begins after (codes "svg") || begins after (codes "math")

-- these bytes after a `<` are a tag of an element that no calm page has; the list holds the most frequent ones
abbrev pub begins_other_tag : List ℕ → Bool
begins_other_tag after = begins_foreign after || begins after (codes "select") || begins after (codes "noscript")
    || begins after (codes "template") || begins after (codes "iframe")

abbrev pub is_calm_byte : ℕ → List ℕ → Bool
is_calm_byte b after =
    if b == ampersand then is_plain_reference after
    else if b == less_than then not (begins_other_tag after)
    else not (b == 0 || b == carriage_return)

-- each occurrence of this byte is calm
abbrev pub is_calm_at : ℕ → List ℕ → Bool
is_calm_at byte [] = true
is_calm_at byte (b ∷ after) = (not (b == byte) || is_calm_byte b after) && is_calm_at byte after

-- The text has no null and no carriage return. Each `&` starts one of the five references or none, and no `<` starts one of those
-- tags.
abbrev pub is_calm_text : List ℕ → Bool
is_calm_text [] = true
is_calm_text (b ∷ after) = is_calm_byte b after && is_calm_text after

-- ---- pages

-- the text is markup for a calm document, and its bytes are calm
pub record IsCalmPage (text : List ℕ) (trees : ValueTrees) : Type 0 where
  pub spelled : Spells text trees
  pub framed : IsFramed text
  pub bytes : is_calm_text text ≡ true
  pub document : IsCalmDocument trees

-- the text is a calm page, and the document that of its trees, in no-quirks mode
pub record IsReadCalm (text : List ℕ) (document : CalmDocument) : Type 0 where
  pub trees : ValueTrees
  pub page : IsCalmPage text trees
  pub is : document.tree ≡ document_of trees
  pub no_quirks : document.quirks_mode ≡ NoQuirks

-- the tree passes the tests of calm pages: it has the shape of a page, `html` begins and ends with an element, and what it is read from is
-- calm
pub record PassesTests (forest : Forest) : Type 0 where
  pub page : IsPage forest
  pub ends : has_elements_at_ends forest ≡ true
  pub calm : (trees : ValueTrees) → forest ≡ document_of trees → are_calm top trees ≡ true

-- the options under which calm pages are parsed as explicit markup: no limit on depth, and no errors collected
abbrev pub ReadsCalm : Options → Type 0
ReadsCalm options = (options.max_depth ≡ None) × (options.errors ≡ false)

-- the text is a calm page, whose document is the same tree as this one
pub record SpellsCalmPage (text : List ℕ) (forest : Forest) : Type 0 where
  pub trees : ValueTrees
  pub page : IsCalmPage text trees
  pub same : SameTree forest 0 (document_of trees) 0

-- the nodes are a calm document, and the bytes of its HTML are calm
pub record IsCalmForest (forest : Forest) : Type 0 where
  pub trees : ValueTrees
  pub below : Represents forest (children_of forest 0) trees
  pub document : IsCalmDocument trees
  pub bytes : is_calm_text (html_of forest 0) ≡ true
