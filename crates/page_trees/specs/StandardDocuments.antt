-- What reading a text to its end gives: the Document, or the nodes of the fragment, as which the HTML Standard parses the text.
use Rattle.std.specs.Prelude.{◌≡◌, List, true, ℕ}
use Rattle.standard_tokens.specs.Tokens.{Token}
use Rattle.standard_trees.specs.Building.{Building}
use Rattle.standard_trees.specs.Parsing.{IsDocumentOf, IsFragmentOf, document_of, nodes_of}
use Rattle.standard_order.specs.Beginnings.{Beginning, OfFragment, OfPage}
use Rattle.standard_order.specs.PageShape.{is_page_of}
use Rattle.dom_links.specs.Forest.{Forest}
use Rattle.dom_trees.specs.declared.quirks.QuirksMode.{QuirksMode}
use Rattle.page_trees.specs.DocumentTrees.{IsTreeOf}
use Rattle.page_trees.specs.PagesRead.{HasBuilt, IsRead}
use Rattle.page_trees.specs.StandardDepth.{IsWithinDepth}
use Rattle.page_trees.specs.declared.growing.BuiltTree.{BuiltTree}
use Rattle.page_trees.specs.declared.reading.PageReader.{PageReader}

-- the text is parsed as the Document of that state, or as the nodes of its fragment
abbrev pub IsParsedTo : Beginning → List ℕ → Building → Type 0
IsParsedTo (OfPage scripting) text end = IsDocumentOf scripting text (document_of end)
IsParsedTo (OfFragment scripting around) text end = IsFragmentOf scripting around text (nodes_of end)

-- what tree construction builds of the tokens of a text is that as which the text is parsed
abbrev pub TextsAreParsed : Type 0
TextsAreParsed = (depth : ℕ) (beginning : Beginning) (text : List ℕ) (all : List Token) (end : Building) →
    IsRead depth beginning text all end → IsParsedTo beginning text end

-- the Document of a page has the shape of a page
abbrev pub HasShape : Beginning → Building → Type 0
HasShape (OfPage scripting) end = is_page_of end.tree ≡ true
HasShape (OfFragment scripting around) end = Unit {0}

-- the text is parsed as the definition's state says, and the tree is that of the state
pub record IsStandardTree (beginning : Beginning) (text : List ℕ) (end : Building) (forest : Forest) (quirks : QuirksMode) : Type 0 where
  pub tree : IsTreeOf end forest quirks
  pub parsed : IsParsedTo beginning text end
  pub shape : HasShape beginning end

-- if what was read is a whole text, and the elements of its Document nest no deeper than the limit, the tree is the one as which it is parsed
abbrev pub FinishesText : PageReader → BuiltTree → Type 0
FinishesText r built =
    (beginning : Beginning) (text : List ℕ) → HasBuilt beginning text r → (depth : ℕ) (all : List Token) (end : Building) →
    IsRead depth beginning text all end → IsWithinDepth r.options.max_depth (document_of end) →
    IsStandardTree beginning text end built.tree built.quirks_mode
