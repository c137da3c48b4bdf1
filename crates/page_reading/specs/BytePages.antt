-- What parsing a page in any encoding gives, whose bytes come in pieces.
use Rattle.std.specs.Prelude.{◌≡◌, ◌++◌, List, false, ℕ}
use Rattle.standard_order.specs.Beginnings.{OfPage}
use Rattle.page_trees.specs.PagesRead.{HasBuilt}
use Rattle.page_trees.specs.declared.reading.Options.{Options}
use Rattle.page_reading.specs.PageDecoding.{HasDecoded, text_in}
use Rattle.page_reading.specs.StandardPages.{IsPageInLimit, IsStandardPage}
use Rattle.page_reading.specs.declared.byte_parser.PageByteParser.{PageByteParser}
use Rattle.page_reading.specs.declared.charset.ReadPage.{ReadPage}

-- The parser parses a page with these options, and these bytes came so far, in pieces cut anywhere. It has read this text of them.
pub record HasParsedPage (options : Options) (bytes : List ℕ) (parser : PageByteParser) : Type 0 where
  pub options_are : parser.reader.options ≡ options
  pub read : List ℕ
  pub built : HasBuilt (OfPage options.scripting) read parser.reader
  pub decoded : HasDecoded false bytes read parser.source

-- the parser has parsed so many more bytes
abbrev pub ParsesPageOn : List ℕ → PageByteParser → PageByteParser → Type 0
ParsesPageOn more old new =
    (options : Options) (bytes : List ℕ) → HasParsedPage options bytes old → HasParsedPage options (bytes ++ more) new

-- if the bytes that came are a whole page whose text, in the encoding that is returned, nests no deeper than the limit, the document is the
-- one as which it is parsed
abbrev pub ParsesPage : PageByteParser → ReadPage → Type 0
ParsesPage parser read =
    (options : Options) (bytes : List ℕ) → HasParsedPage options bytes parser → IsPageInLimit options (text_in read.encoding bytes) →
    IsStandardPage options (text_in read.encoding bytes) read.document
