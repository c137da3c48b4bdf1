-- Calm pages whose tree the HTML Standard determines.
use Rattle.std.specs.Prelude.{◌≡◌, ◌⊎◌, ℕ, false, List}
use Rattle.std.specs.Str.{IsUtf8, chars}
use Rattle.dom_nodes.specs.Escaping.{value_char}
use Rattle.dom_links.specs.Forest.{Forest}
use Rattle.dom_links.specs.Sound.{IsForest}
use Rattle.dom_markup.specs.Html.{html_of}
use Rattle.dom_markup.specs.Numbered.{document_of}
use Rattle.dom_markup.specs.Plain.{IsPlain}
use Rattle.dom_markup.specs.ValueTrees.{ValueTrees}
use Rattle.calm_pages.specs.Calm.{IsCalmForest, IsCalmPage}
use Rattle.standard_laws.specs.CalmTrees.{nodes_of}
use Rattle.dom_markup.specs.WrittenTrees.{safe_char, text_by}
use Rattle.standard_laws.specs.Parsing.{IsPageOnlyOf}

-- the text is written as HTML is, or as cautious writers do, who escape `<` and `>` in values too
abbrev pub IsWrittenOf : List ℕ → ValueTrees → Type 0
IsWrittenOf text trees = (text ≡ text_by value_char false trees) ⊎ (text ≡ text_by safe_char false trees)

-- the text is a calm page that is written so
pub record IsWrittenPage (text : List ℕ) : Type 0 where
  pub trees : ValueTrees
  pub page : IsCalmPage text trees
  pub written : IsWrittenOf text trees

-- the tree is the one as which the HTML Standard parses the text, in no-quirks mode, and it parses it as no other
pub record IsParsedPage (text : List ℕ) (forest : Forest) : Type 0 where
  pub trees : ValueTrees
  pub is : forest ≡ document_of trees
  pub parsed : IsPageOnlyOf (chars text) (nodes_of trees)

-- a calm page that is written so is parsed as its document and as no other
abbrev pub WrittenPagesAreParsed : Type 0
WrittenPagesAreParsed = (text : List ℕ) (trees : ValueTrees) → IsUtf8 text → IsCalmPage text trees → IsWrittenOf text trees →
    IsPageOnlyOf (chars text) (nodes_of trees)

-- the HTML of a plain and calm document is such a page
abbrev pub CalmHtmlIsWritten : Type 0
CalmHtmlIsWritten = (forest : Forest) → IsForest forest → IsPlain forest → IsCalmForest forest → IsWrittenPage (html_of forest 0)
