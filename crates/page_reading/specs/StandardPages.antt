-- What parsing a page or a fragment by tree construction gives: the Document, or the nodes, as which the HTML Standard parses the text.
use Rattle.std.specs.Prelude.{◌≡◌, ◌++◌, [], Bool, List, false, true, ℕ}
use Rattle.std.specs.Str.{chars}
use Rattle.standard_tokens.specs.Tokens.{Token}
use Rattle.standard_trees.specs.Building.{Building, Surroundings}
use Rattle.standard_trees.specs.Parsing.{document_of}
use Rattle.standard_order.specs.Beginnings.{Beginning, OfFragment, OfPage}
use Rattle.calm_pages.specs.Calm.{ReadsCalm}
use Rattle.dom_markup.specs.declared.document.Document.{Document}
use Rattle.page_trees.specs.DocumentTrees.{IsParsedAs, IsParsedAsFragment}
use Rattle.page_trees.specs.PagesRead.{HasBuilt, IsRead}
use Rattle.page_trees.specs.StandardDepth.{IsWithinDepth}
use Rattle.page_trees.specs.declared.reading.Options.{Options}
use Rattle.text_decoding.specs.Decoding.{characters_behind}
use Rattle.page_reading.specs.Pages.{ReadsAsWritten}
use Rattle.page_reading.specs.Utf8Pages.{text_behind, utf8_text}
use Rattle.page_reading.specs.declared.reading.PageParser.{PageParser}

-- By the definitions, the elements of the Document that is built of the text nest no deeper than the limit on depth, if there is one. In
-- that of a fragment its nodes are in an element `html`.
abbrev pub IsTextInLimit : Options → Beginning → List ℕ → Type 0
IsTextInLimit options beginning text = (depth : ℕ) (all : List Token) (end : Building) → IsRead depth beginning text all end →
    IsWithinDepth options.max_depth (document_of end)

abbrev pub IsPageInLimit : Options → List ℕ → Type 0
IsPageInLimit options text = IsTextInLimit options (OfPage options.scripting) text

-- the same of a fragment in that context
abbrev pub IsFragmentInLimit : Options → Surroundings → List ℕ → Type 0
IsFragmentInLimit options around text = IsTextInLimit options (OfFragment options.scripting around) text

-- the document is the one as which the HTML Standard parses the text
abbrev pub IsStandardPage : Options → List ℕ → Document → Type 0
IsStandardPage options text document = IsParsedAs options.scripting text document.tree document.quirks_mode

-- the document is the fragment as which the HTML Standard parses the text in that context
abbrev pub IsStandardFragment : Options → Surroundings → List ℕ → Document → Type 0
IsStandardFragment options around text document = IsParsedAsFragment options.scripting around text document.tree

-- the one or the other
abbrev pub IsStandardText : Beginning → List ℕ → Document → Type 0
IsStandardText (OfPage scripting) text document = IsParsedAs scripting text document.tree document.quirks_mode
IsStandardText (OfFragment scripting around) text document = IsParsedAsFragment scripting around text document.tree

-- The text is parsed as it is written, if it is a calm page. If it nests no deeper than the limit, the document is the one as which the
-- HTML Standard parses it.
pub record ReadsText (options : Options) (text : List ℕ) (document : Document) : Type 0 where
  pub written : ReadsCalm options → ReadsAsWritten text document.tree
  pub standard : IsPageInLimit options (chars text) → IsStandardPage options (chars text) document

abbrev pub is_of_fragment : Beginning → Bool
is_of_fragment (OfPage scripting) = false
is_of_fragment (OfFragment scripting around) = true

-- The parser parses a page or a fragment with these options, and this text came so far, in pieces cut anywhere. No character of bytes has
-- begun.
pub record HasParsed (options : Options) (beginning : Beginning) (text : List ℕ) (parser : PageParser) : Type 0 where
  pub kind : parser.is_fragment ≡ is_of_fragment beginning
  pub options_are : parser.reader.options ≡ options
  pub built : HasBuilt beginning text parser.reader
  pub no_bytes : characters_behind parser.bytes.decoder [] ≡ []

-- the parser has parsed so much more
abbrev pub ParsesOn : List ℕ → PageParser → PageParser → Type 0
ParsesOn more old new =
    (options : Options) (beginning : Beginning) (text : List ℕ) → HasParsed options beginning text old →
    HasParsed options beginning (text ++ more) new

abbrev pub KeepsParsed : PageParser → PageParser → Type 0
KeepsParsed old new =
    (options : Options) (beginning : Beginning) (text : List ℕ) → HasParsed options beginning text old →
    HasParsed options beginning text new

-- if the text that came is a whole text that nests no deeper than the limit, the document is the one as which it is parsed
abbrev pub ParsesText : PageParser → Document → Type 0
ParsesText parser document =
    (options : Options) (beginning : Beginning) (text : List ℕ) → HasParsed options beginning text parser →
    IsTextInLimit options beginning text → IsStandardText beginning text document

-- if the whole text comes in one piece, and nests no deeper than the limit, the document is the one as which it is parsed
abbrev pub ParsesWhole : PageParser → List ℕ → Document → Type 0
ParsesWhole parser text document =
    (options : Options) (beginning : Beginning) → HasParsed options beginning [] parser → IsTextInLimit options beginning text →
    IsStandardText beginning text document

-- ---- bytes

-- The parser parses a page or a fragment with these options, and these bytes came so far, in pieces cut anywhere. It has read a text,
-- behind which follows that of the bytes that come.
pub record HasParsedBytes (options : Options) (beginning : Beginning) (bytes : List ℕ) (parser : PageParser) : Type 0 where
  pub kind : parser.is_fragment ≡ is_of_fragment beginning
  pub options_are : parser.reader.options ≡ options
  pub read : List ℕ
  pub built : HasBuilt beginning read parser.reader
  pub follows : (more : List ℕ) → utf8_text (bytes ++ more) ≡ read ++ text_behind parser.bytes more

-- the parser has parsed so many more bytes
abbrev pub ParsesBytesOn : List ℕ → PageParser → PageParser → Type 0
ParsesBytesOn more old new =
    (options : Options) (beginning : Beginning) (bytes : List ℕ) → HasParsedBytes options beginning bytes old →
    HasParsedBytes options beginning (bytes ++ more) new

-- the bytes end, and their text has come
abbrev pub EndsBytes : PageParser → PageParser → Type 0
EndsBytes old new =
    (options : Options) (beginning : Beginning) (bytes : List ℕ) → HasParsedBytes options beginning bytes old →
    HasParsed options beginning (utf8_text bytes) new

-- if the text of the bytes that came nests no deeper than the limit, the document is the one as which it is parsed
abbrev pub ParsesBytes : PageParser → Document → Type 0
ParsesBytes parser document =
    (options : Options) (beginning : Beginning) (bytes : List ℕ) → HasParsedBytes options beginning bytes parser →
    IsTextInLimit options beginning (utf8_text bytes) → IsStandardText beginning (utf8_text bytes) document
