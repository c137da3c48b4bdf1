-- Pages that are read from bytes in any encoding.
use Rattle.std.specs.Prelude.{ℕ, ◌≡◌, true, List, [], ◌∷◌, Option, None, MatchOption}
use Rattle.std.specs.Option.{is_some}
use Rattle.decoded_text.specs.Characters.{errors_in}
use Rattle.encodings.specs.declared.encoding.Encoding.{Encoding}
use Rattle.text_decoding.specs.Decoding.{characters}
use Rattle.text_decoding.specs.Pages.{IsPageEncoding, behind_mark, page_text}
use Rattle.text_decoding.specs.declared.page.Charset.{Charset}
use Rattle.text_decoding.specs.declared.page.Confidence.{Confidence}
use Rattle.text_decoding.specs.declared.page.Confidence.TheVariants.{Declared, Fallback, Mark, Transport}
use Rattle.text_decoding.specs.declared.page.Fallback.TheVariants.{Guess}
use Rattle.dom_markup.specs.Numbered.{document_of}
use Rattle.dom_markup.specs.ValueTrees.{ValueTrees}
use Rattle.calm_pages.specs.Calm.{IsCalmPage}
use Rattle.page_trees.specs.Shape.{IsPage}
use Rattle.c_state.specs.declared.decoding.Decoded.{Decoded}
use Rattle.c_state.specs.declared.state.State.{State}

-- What a label says that came with a page: an empty one says nothing, and any other names an encoding
abbrev pub IsTransport : List ℕ → Option Encoding → Type 0
IsTransport [] transport = transport ≡ None
IsTransport (b ∷ label) transport = is_some transport ≡ true

-- The encoding is the one that a byte order mark, the label or the page itself says, in this order, or else a guess; and so many
-- characters stand for bytes that aren't in it
pub record IsDecoded (label bytes : List ℕ) (decoded : Decoded) : Type 0 where
  pub transport : Option Encoding
  pub labelled : IsTransport label transport
  pub encoding : IsPageEncoding (record { transport = transport; fallback = Guess }) bytes decoded.encoding decoded.source
  pub replaced : decoded.replaced ≡ errors_in (characters decoded.encoding (behind_mark bytes))

-- The document has the shape of a page. Where its text is a calm page and depth isn't limited, the tree is exactly the one that is
-- written down
pub record IsDecodedPage (label bytes : List ℕ) (max_depth : ℕ) (state : State) : Type 0 where
  pub page : IsPage state.document.tree
  pub decoded : MatchOption state.decoded ⊥ (IsDecoded label bytes)
  pub calm : MatchOption state.decoded ⊥ (λ decoded. (trees : ValueTrees) → max_depth ≡ 0
      → IsCalmPage (page_text decoded.encoding bytes) trees → state.document.tree ≡ document_of trees)

-- What says in which encoding a page is, by its number
abbrev pub source_number : Confidence → ℕ
source_number Mark = 0
source_number Transport = 1
source_number Declared = 2
source_number Fallback = 3
