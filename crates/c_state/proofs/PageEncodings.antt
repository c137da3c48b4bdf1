-- A page that was read from bytes in any encoding.
use Rattle.std.proofs.Common.{◌≡◌, ℕ, List, Option, Some, subst, sym, ap, ◌∙◌}
use Rattle.std.specs.Prelude.{MatchOption}
use Rattle.decoded_text.specs.Characters.{errors_in}
use Rattle.text_decoding.specs.Decoding.{characters}
use Rattle.text_decoding.specs.Pages.{IsPageEncoding, behind_mark, page_text}
use Rattle.text_decoding.specs.declared.page.Charset.{Charset}
use Rattle.text_decoding.specs.declared.page.Fallback.{Fallback}
use Rattle.text_decoding.specs.declared.page.Fallback.TheVariants.{Guess}
use Rattle.dom_markup.specs.Numbered.{document_of}
use Rattle.dom_markup.specs.ValueTrees.{ValueTrees}
use Rattle.dom_markup.specs.declared.document.Document.{Document}
use Rattle.calm_pages.specs.Calm.{IsCalmPage, ReadsCalm}
use Rattle.page_reading.specs.Pages.{ReadsAsWritten}
use Rattle.page_reading.specs.declared.charset.ReadPage.{ReadPage}
use Rattle.page_trees.specs.Shape.{IsPage}
use Rattle.page_trees.specs.declared.reading.Options.{Options}
use Rattle.c_state.specs.Decodings.{IsDecoded, IsDecodedPage, IsTransport}
use Rattle.c_state.specs.declared.decoding.Decoded.{Decoded}
use Rattle.c_state.specs.declared.state.State.{State}

-- what the page says of its encoding, by what was known of it
decoded_as : (label bytes : List ℕ) (charset : Charset) (decoded : Decoded) → charset.fallback ≡ Guess → IsTransport label charset.transport → IsPageEncoding charset bytes decoded.encoding decoded.source
    → decoded.replaced ≡ errors_in (characters decoded.encoding (behind_mark bytes)) → IsDecoded label bytes decoded
decoded_as label bytes charset decoded guess labelled encoding replaced = record {
  transport = charset.transport;
  labelled = labelled;
  encoding = subst (λ (fallback : Fallback). IsPageEncoding (record { transport = charset.transport; fallback = fallback }) bytes decoded.encoding decoded.source) guess encoding;
  replaced = replaced;
}

-- the state of what was read
pub decoded_page : (label bytes : List ℕ) (max_depth : ℕ) (charset : Charset) (options : Options) (read : ReadPage) (decoded : Decoded) (state : State) → charset.fallback ≡ Guess → IsTransport label charset.transport → (max_depth ≡ 0 → ReadsCalm options)
    → IsPage read.document.tree → IsPageEncoding charset bytes read.encoding read.confidence → read.replaced ≡ errors_in (characters read.encoding (behind_mark bytes))
    → (ReadsCalm options → ReadsAsWritten (page_text read.encoding bytes) read.document.tree)
    → decoded ≡ record { encoding = read.encoding; source = read.confidence; replaced = read.replaced } → state.document ≡ read.document → state.decoded ≡ Some decoded → IsDecodedPage label bytes max_depth state
decoded_page label bytes max_depth charset options read decoded state guess labelled reads page encoding replaced written made same is =
    let known : state.decoded ≡ Some (record { encoding = read.encoding; source = read.confidence; replaced = read.replaced }) = is ∙ ap (λ (d : Decoded). Some d) made in record {
      page = subst (λ (d : Document). IsPage d.tree) (sym same) page;
      decoded = subst (λ (o : Option Decoded). MatchOption o ⊥ (IsDecoded label bytes)) (sym known) (decoded_as label bytes charset (record { encoding = read.encoding; source = read.confidence; replaced = read.replaced }) guess labelled encoding replaced);
      calm =
          subst (λ (o : Option Decoded). MatchOption o ⊥ (λ decoded. (trees : ValueTrees) → max_depth ≡ 0 → IsCalmPage (page_text decoded.encoding bytes) trees → state.document.tree ≡ document_of trees)) (sym known)
          (λ trees zero is_calm. ap (λ (d : Document). d.tree) same ∙ (written (reads zero)).calm trees is_calm);
    }
