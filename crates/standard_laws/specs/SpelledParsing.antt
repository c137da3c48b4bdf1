-- What parsing makes of pages of markup that is spelled in any way.
use Rattle.std.specs.Prelude.{◌≡◌, ℕ, Bool, true, false, not, ◌&&◌, List, [], flat_map, map}
use Rattle.std.specs.Str.{IsUtf8, chars}
use Rattle.dom_nodes.specs.Words.{is_among}
use Rattle.dom_markup.specs.Names.{void_names}
use Rattle.dom_trees.specs.declared.quirks.QuirksMode.TheVariants.{NoQuirks}
use Rattle.dom_markup.specs.Numbered.{document_of}
use Rattle.dom_markup.specs.Plain.{IsPlainTrees}
use Rattle.dom_markup.specs.ValueTrees.{ValueTrees}
use Rattle.calm_pages.specs.Calm.{IsCalmDocument, IsCalmPage}
use Rattle.page_trees.specs.DocumentTrees.{IsParsedAs}
use Rattle.standard_tokens.specs.Reading.{plain_feedback}
use Rattle.standard_tokens.specs.Tokens.{Token, AStart}
use Rattle.standard_laws.specs.CalmTrees.{have_no_null, nodes_of}
use Rattle.standard_laws.specs.Parsing.{IsPageOnlyOf}
use Rattle.standard_laws.specs.SpelledPages.{AreAnswered, SpelledItem, are_spelled, has_no_return, tokens, written}
use Rattle.standard_laws.specs.TreeTokens.{tokens_in}

-- the start tag of a void element, as if it ended in `>` and not in `/>`; any other token as it is
abbrev pub unslashed : Token → Token
unslashed (AStart name attrs closing) = AStart name attrs (closing && not (is_among name void_names))
unslashed token = token

-- The text is spelled as items that stand for the tokens of the trees, where tags of void elements may end in `/>`. An element is spelled
-- as one whose text is read in a state of its own exactly where its name has such a state.
pub record IsSpelledOf (text : List ℕ) (trees : ValueTrees) : Type 0 where
  pub items : List SpelledItem
  pub is : text ≡ flat_map written items
  pub spelled : are_spelled items [] ≡ true
  pub answered : AreAnswered (plain_feedback false) [] items
  pub kept : has_no_return text ≡ true
  pub same : map unslashed (flat_map tokens items) ≡ tokens_in trees

-- a page that is spelled as a calm document is parsed as that document and as no other
abbrev pub SpelledDocumentsAreParsed : Type 0
SpelledDocumentsAreParsed = (text : List ℕ) (trees : ValueTrees) → IsCalmDocument trees → IsPlainTrees true trees →
    have_no_null trees ≡ true → IsSpelledOf text trees → IsPageOnlyOf text (nodes_of trees)

-- ---- calm pages

-- a calm page is spelled as its document
abbrev pub CalmPagesAreSpelled : Type 0
CalmPagesAreSpelled = (text : List ℕ) (trees : ValueTrees) → IsUtf8 text → IsCalmPage text trees → IsSpelledOf (chars text) trees

-- and so it is parsed as its document and as no other
abbrev pub EachCalmPageIsParsed : Type 0
EachCalmPageIsParsed = (text : List ℕ) (trees : ValueTrees) → IsUtf8 text → IsCalmPage text trees →
    IsPageOnlyOf (chars text) (nodes_of trees)

-- the document of the trees that are written in a calm page is the one as which the page is parsed, in no-quirks mode
abbrev pub CalmPagesAreDocuments : Type 0
CalmPagesAreDocuments = (text : List ℕ) (trees : ValueTrees) → IsUtf8 text → IsCalmPage text trees → (scripting : Bool) →
    IsParsedAs scripting (chars text) (document_of trees) NoQuirks
