-- How the HTML Standard's parser, as standard_trees defines it, parses the text of calm documents: as HTML elements, in no-quirks mode,
-- with and without scripting.
use Rattle.std.specs.Prelude.{◌≡◌, ℕ, Bool, List}
use Rattle.standard_trees.specs.Parsing.{Document, IsDocumentOf, IsFragmentOf}
use Rattle.standard_trees.specs.TreeStore.{NodeAttr, Trees}
use Rattle.standard_agreement.specs.PlainPages.{context_named, no_quirks}

-- the text is parsed as a page, and these are the children of its Document
abbrev pub IsPageOf : List ℕ → Trees → Type 0
IsPageOf text children = (scripting : Bool) → IsDocumentOf scripting text (no_quirks children)

-- the text is parsed as a fragment, and these are the nodes; the context element has that name and any attributes, is outside of forms, and
-- its document is in no-quirks mode
abbrev pub IsFragmentIn : List ℕ → List ℕ → Trees → Type 0
IsFragmentIn context text nodes =
    (scripting : Bool) (attrs : List NodeAttr) → IsFragmentOf scripting (context_named context attrs) text nodes

-- the text is parsed as a page with these children, and as no other Document
pub record IsPageOnlyOf (text : List ℕ) (children : Trees) : Type 0 where
  pub parsed : IsPageOf text children
  pub only : (scripting : Bool) (other : Document) → IsDocumentOf scripting text other → other ≡ no_quirks children

-- the text is parsed as these nodes of a fragment, and as no others
pub record IsFragmentOnlyOf (context text : List ℕ) (nodes : Trees) : Type 0 where
  pub parsed : IsFragmentIn context text nodes
  pub only : (scripting : Bool) (attrs : List NodeAttr) (other : Trees) →
      IsFragmentOf scripting (context_named context attrs) text other → other ≡ nodes
