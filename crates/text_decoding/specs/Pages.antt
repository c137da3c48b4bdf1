-- Which encoding a page is in.
use Rattle.std.specs.Prelude.{◌≡◌, ℕ, List, drop, Option, Some, None, MatchOption, IsUtf8}
use Rattle.std.specs.Option.{option_map_or}
use Rattle.decoded_text.specs.Characters.{text_of}
use Rattle.encodings.specs.Labels.{for_bom}
use Rattle.encodings.specs.Prescan.{declared_encoding}
use Rattle.encodings.specs.declared.encoding.Encoding.{Encoding}
use Rattle.encodings.specs.declared.encoding.Encoding.TheVariants.{SingleByte, Utf8}
use Rattle.encodings.specs.declared.single_byte.SingleByte.TheVariants.{Windows1252}
use Rattle.text_decoding.specs.Decoding.{characters}
use Rattle.text_decoding.specs.declared.page.Charset.{Charset}
use Rattle.text_decoding.specs.declared.page.Confidence.{Confidence}
use Rattle.text_decoding.specs.declared.page.Confidence.TheVariants.{Declared, Fallback as Unsaid, Mark, Transport}
use Rattle.text_decoding.specs.declared.page.Fallback.{Fallback}
use Rattle.text_decoding.specs.declared.page.Fallback.TheVariants.{Guess, Of}

-- the bytes after a byte order mark
abbrev pub behind_mark : List ℕ → List ℕ
behind_mark bytes = drop (option_map_or (λ mark. mark.1) (for_bom bytes) 0) bytes

-- the text of a page that is in that encoding
abbrev pub page_text : Encoding → List ℕ → List ℕ
page_text encoding bytes = text_of (characters encoding (behind_mark bytes))

-- what says which encoding a page is in: a byte order mark, or else what came with the page, or else
-- what the page declares
abbrev pub said : Option (Encoding × ℕ) → Option Encoding → Option Encoding → Option (Encoding × Confidence)
said (Some mark) transport declared = Some (mark.0, Mark)
said None (Some encoding) declared = Some (encoding, Transport)
said None None (Some encoding) = Some (encoding, Declared)
said None None None = None

-- the encoding of bytes of which nothing is said
abbrev pub IsFallback : Fallback → List ℕ → Encoding → Type 0
IsFallback (Of given) bytes encoding = encoding ≡ given
IsFallback Guess bytes encoding = (IsUtf8 bytes → encoding ≡ Utf8) × ((IsUtf8 bytes → ⊥) → encoding ≡ SingleByte Windows1252)

-- the page is in the encoding that the strongest of these says, and in the fallback where none does
abbrev pub IsPageEncoding : Charset → List ℕ → Encoding → Confidence → Type 0
IsPageEncoding charset bytes encoding confidence =
    MatchOption (said (for_bom bytes) charset.transport (declared_encoding bytes))
    (IsFallback charset.fallback bytes encoding × (confidence ≡ Unsaid)) (λ found. found ≡ (encoding, confidence))
