-- A page whose bytes come in pieces is parsed as its text is.
use Rattle.std.proofs.Common.{◌≡◌, List, false, refl, true, ℕ}
use Rattle.encodings.specs.declared.encoding.Encoding.TheVariants.{Replacement}
use Rattle.standard_order.specs.Beginnings.{OfPage}
use Rattle.page_trees.specs.PagesRead.{HasBuilt}
use Rattle.page_trees.specs.declared.reading.Options.{Options}
use Rattle.page_trees.specs.declared.reading.PageReader.{PageReader}
use Rattle.text_decoding.specs.Decoding.{start}
use Rattle.page_reading.specs.StandardPages.{HasParsed, IsPageInLimit, IsStandardPage}
use Rattle.page_reading.specs.declared.page_decoder.PageDecoder.{PageDecoder}
use Rattle.page_reading.specs.declared.reading.PageParser.{PageParser}
use Rattle.page_reading.proofs.StandardLemmas.{page_finished}
use Rattle.dom_markup.specs.declared.document.Document.{Document}
use Rattle.page_trees.specs.Shape.{IsPage}
use Rattle.page_trees.specs.StandardDocuments.{FinishesText}
use Rattle.page_trees.specs.declared.growing.BuiltTree.{BuiltTree}

-- a parser of texts with the same reader, and a decoder of bytes that has ended
pub text_parser : PageReader → PageDecoder → PageParser
text_parser reader source = record {
  reader = reader;
  is_fragment = false;
  bytes = record {
    alloc = source.alloc;
    decoder = record source.decoder { encoding = Replacement; state = record start { is_replaced = true } };
    is_start = false;
  };
}

pub text_parsed : (options : Options) (text : List ℕ) (reader : PageReader) (source : PageDecoder) → reader.options ≡ options →
    HasBuilt (OfPage options.scripting) text reader → HasParsed options (OfPage options.scripting) text (text_parser reader source)
unfolding text_parser
text_parsed options text reader source same built = record {
  kind = refl;
  options_are = same;
  built = built;
  no_bytes = refl;
}

-- so its document is that of the text, if it nests no deeper than the limit
pub bytes_finished : (reader : PageReader) (source : PageDecoder) (built : BuiltTree) (page : Document) →
    FinishesText reader built → (IsPage built.tree → page.tree ≡ built.tree) →
    page.quirks_mode ≡ built.quirks_mode → (options : Options) (text : List ℕ) → reader.options ≡ options →
    HasBuilt (OfPage options.scripting) text reader → IsPageInLimit options text → IsStandardPage options text page
unfolding text_parser
bytes_finished reader source built page finishes same mode options text is has limit =
    page_finished (text_parser reader source) built page finishes same mode refl options (OfPage options.scripting) text
    (text_parsed options text reader source is has) limit
