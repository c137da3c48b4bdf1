-- The decoder of each encoding.
use Rattle.std.specs.Prelude.{◌≡◌, ℕ, ◌+◌, List, [], ◌∷◌, ◌++◌, Bool, true, false, if◌then◌else◌, Option, None, string_bytes}
use Rattle.encodings.specs.declared.encoding.Encoding.{Encoding}
use Rattle.encodings.specs.declared.encoding.Encoding.TheVariants.{Utf8, Utf16Be, Utf16Le, Gbk, Gb18030, Big5, EucJp, Iso2022Jp, ShiftJis, EucKr, Replacement, SingleByte}
use Rattle.encodings.specs.declared.utf16.ByteOrder.TheVariants.{BigEndian, LittleEndian}
use Rattle.encodings.specs.SingleByte.{characters as single_byte_characters, index_of}
use Rattle.encodings.specs.Utf16.{characters as utf16_characters}
use Rattle.gb18030.specs.Decoding.{characters as gb18030_characters}
use Rattle.gb18030.specs.Tables.{codes as CODES, firsts as FIRSTS, index as GB18030}
use Rattle.big5.specs.Decoding.{characters as big5_characters}
use Rattle.big5.specs.Tables.{index as BIG5}
use Rattle.euc_kr.specs.Decoding.{characters as euc_kr_characters}
use Rattle.euc_kr.specs.Tables.{index as EUC_KR}
use Rattle.japanese.specs.ShiftJis.{characters as shift_jis_characters}
use Rattle.japanese.specs.EucJp.{characters as euc_jp_characters}
use Rattle.japanese.specs.Iso2022Jp.{characters as iso_2022_jp_characters, start as japanese_start}
use Rattle.japanese.specs.Tables.{jis0208 as JIS0208, jis0212 as JIS0212}
use Rattle.decoded_text.specs.declared.decoded.Decoded.{Decoded}
use Rattle.decoded_text.specs.Characters.{IsDecoded, errors_in, text_of}
use Rattle.text_decoding.specs.Utf8.{characters as utf8_characters, fresh}
use Rattle.text_decoding.specs.declared.state.State.{State}
use Rattle.text_decoding.specs.declared.decoder.Decoder.{Decoder}
use Rattle.text_decoding.specs.declared.whole.DecodedText.{DecodedText}
use Rattle.text_decoding.specs.declared.whole.DecodedText.TheVariants.{Lent, Owned}

-- the state of a decoder at the beginning of a text
abbrev pub start : State
start = record { utf8 = fresh; japanese = japanese_start; is_replaced = false }

-- any bytes are one error in the replacement encoding
abbrev pub replaced : List ℕ → List (Option ℕ)
replaced [] = []
replaced (byte ∷ rest) = None ∷ []

abbrev pub replaced_from : State → List ℕ → List (Option ℕ)
replaced_from state bytes = if state.is_replaced then [] else replaced bytes

-- the characters of the bytes in an encoding, from a state on; None for each error
abbrev pub characters_from : Encoding → State → List ℕ → List (Option ℕ)
characters_from Utf8 state bytes = utf8_characters state.utf8 bytes
characters_from Utf16Be state bytes = utf16_characters BigEndian bytes
characters_from Utf16Le state bytes = utf16_characters LittleEndian bytes
characters_from Gbk state bytes = gb18030_characters GB18030 FIRSTS CODES bytes
characters_from Gb18030 state bytes = gb18030_characters GB18030 FIRSTS CODES bytes
characters_from Big5 state bytes = big5_characters BIG5 bytes
characters_from EucJp state bytes = euc_jp_characters JIS0208 JIS0212 bytes
characters_from Iso2022Jp state bytes = iso_2022_jp_characters JIS0208 state.japanese bytes
characters_from ShiftJis state bytes = shift_jis_characters JIS0208 bytes
characters_from EucKr state bytes = euc_kr_characters EUC_KR bytes
characters_from Replacement state bytes = replaced_from state bytes
characters_from (SingleByte single) state bytes = single_byte_characters (index_of single) bytes

-- the characters of the bytes in an encoding; None for each error
abbrev pub characters : Encoding → List ℕ → List (Option ℕ)
characters encoding bytes = characters_from encoding start bytes

-- what a decoder gives of the bytes that come, behind those that it has read
abbrev pub characters_behind : Decoder → List ℕ → List (Option ℕ)
characters_behind decoder bytes = characters_from decoder.encoding decoder.state (decoder.waiting.items ++ bytes)

-- a piece of decoded text that stands before the rest
pub record Begins (decoded : Decoded) (whole : List (Option ℕ)) (rest : List (Option ℕ)) : Type 0 where
  pub text : text_of whole ≡ string_bytes decoded.text ++ text_of rest
  pub replaced : errors_in whole ≡ decoded.replaced + errors_in rest

-- no character has begun in the bytes that were read
pub record IsBetweenCharacters (decoder : Decoder) : Type 0 where
  pub utf8 : decoder.state.utf8.needed ≡ 0
  pub waiting : decoder.waiting.items ≡ []

-- the text and its number of replacements are those of the characters
abbrev pub IsTextOf : DecodedText → List (Option ℕ) → Type 0
IsTextOf (Lent text) characters = (text.now ≡ text_of characters) × (errors_in characters ≡ 0)
IsTextOf (Owned decoded) characters = IsDecoded decoded characters

-- the text, lent or not, stands before the rest
abbrev pub BeginsWith : DecodedText → List (Option ℕ) → List (Option ℕ) → Type 0
BeginsWith (Lent text) whole rest = (text_of whole ≡ text.now ++ text_of rest) × (errors_in whole ≡ errors_in rest)
BeginsWith (Owned decoded) whole rest = Begins decoded whole rest

-- the bytes are the UTF-8 of the text that they stand for
abbrev pub IsItself : Encoding → List ℕ → Type 0
IsItself encoding bytes = (text_of (characters encoding bytes) ≡ bytes) × (errors_in (characters encoding bytes) ≡ 0)

-- the bytes of a text, and its number of replacements
abbrev pub text_bytes : DecodedText → List ℕ
text_bytes (Lent text) = text.now
text_bytes (Owned decoded) = string_bytes decoded.text

abbrev pub replaced_in : DecodedText → ℕ
replaced_in (Lent text) = 0
replaced_in (Owned decoded) = decoded.replaced

-- the pieces as one
abbrev pub joined : {R : Type 0} → (R → List ℕ) → List R → List ℕ
joined bytes [] = []
joined bytes (piece ∷ pieces) = bytes piece ++ joined bytes pieces

-- ASCII bytes are ASCII characters in the encoding
abbrev pub is_ascii_based : Encoding → Bool
is_ascii_based Utf16Be = false
is_ascii_based Utf16Le = false
is_ascii_based Iso2022Jp = false
is_ascii_based Replacement = false
is_ascii_based Utf8 = true
is_ascii_based Gbk = true
is_ascii_based Gb18030 = true
is_ascii_based Big5 = true
is_ascii_based EucJp = true
is_ascii_based ShiftJis = true
is_ascii_based EucKr = true
is_ascii_based (SingleByte single) = true
