-- How the bytes of a page are decoded that come in pieces, while the encoding of the page has to be found.
use Rattle.std.specs.Prelude.{◌≡◌, ◌++◌, ◌⊎◌, ◌≤◌, [], Bool, List, None, drop, encode_utf8_all, false, length, take, true, ℕ}
use Rattle.std.specs.Str.{IsAscii}
use Rattle.encodings.specs.Labels.{for_bom}
use Rattle.encodings.specs.declared.encoding.Encoding.{Encoding}
use Rattle.encodings.specs.declared.encoding.Encoding.TheVariants.{SingleByte, Utf8}
use Rattle.encodings.specs.declared.single_byte.SingleByte.TheVariants.{Windows1252}
use Rattle.text_decoding.specs.Decoding.{characters, characters_behind}
use Rattle.text_decoding.specs.Pages.{behind_mark}
use Rattle.page_reading.specs.Utf8Pages.{with_replacements}
use Rattle.page_reading.specs.declared.page_decoder.PageDecoder.{PageDecoder}
use Rattle.page_reading.specs.declared.page_decoder.Part.{Part}
use Rattle.page_reading.specs.declared.page_decoder.Stage.{Stage}
use Rattle.page_reading.specs.declared.page_decoder.Stage.TheVariants as stage

-- the text of a page in an encoding: without a byte order mark, and with U+FFFD in place of each error
abbrev pub text_in : Encoding → List ℕ → List ℕ
text_in encoding bytes = with_replacements (characters encoding (behind_mark bytes))

-- the text of the bytes that come
abbrev pub text_ahead : PageDecoder → List ℕ → List ℕ
text_ahead d more = with_replacements (characters_behind d.decoder more)

-- these bytes may come; none, where the page has ended
abbrev pub MayCome : Bool → List ℕ → Type 0
MayCome true more = more ≡ []
MayCome false more = Unit {0}

-- the page begins with no byte order mark
abbrev pub LacksMark : Bool → List ℕ → Type 0
LacksMark ended bytes = (more : List ℕ) → MayCome ended more → for_bom (bytes ++ more) ≡ None

-- the encoding isn't known, and the decoder has read nothing
abbrev pub IsUnknown : PageDecoder → Type 0
IsUnknown d = (d.encoding ≡ Utf8) × (characters_behind d.decoder [] ≡ [])

-- Where a decoder stands behind these bytes, of which it has given this text: all bytes are held; those that were given are ASCII, and the
-- others are held; or the encoding is known, and none are held.
abbrev pub StandsAt : Stage → Bool → List ℕ → List ℕ → PageDecoder → Type 0
StandsAt stage.First ended bytes read d = (ended ≡ false) × IsUnknown d × (read ≡ []) × (d.held.items ≡ bytes)
StandsAt stage.Ascii ended bytes read d =
    (bytes ≡ read ++ d.held.items) × IsAscii read × IsUnknown d × LacksMark ended bytes × (ended ≡ true → d.held.items ≡ [])
StandsAt stage.Known ended bytes read d =
    (d.held.items ≡ []) × ((more : List ℕ) → MayCome ended more → text_in d.encoding (bytes ++ more) ≡ read ++ text_ahead d more)

abbrev pub HasDecoded : Bool → List ℕ → List ℕ → PageDecoder → Type 0
HasDecoded ended bytes read d = StandsAt d.stage ended bytes read d

-- more bytes came, and this text of them was given
abbrev pub DecodesOn : List ℕ → PageDecoder → PageDecoder → List ℕ → Type 0
DecodesOn more old new text =
    (bytes read cs : List ℕ) → HasDecoded false bytes read old → text ≡ encode_utf8_all cs →
    HasDecoded false (bytes ++ more) (read ++ cs) new

-- what was held is decoded as far as it can be; the flag says that the page has ended
abbrev pub DecodesHeld : Bool → PageDecoder → PageDecoder → List ℕ → Type 0
DecodesHeld ended old new text =
    (bytes read cs : List ℕ) → HasDecoded false bytes read old → text ≡ encode_utf8_all cs → HasDecoded ended bytes (read ++ cs) new

-- ---- which of the bytes that were held are decoded

-- behind ASCII that was given before: none of the first bytes; those at the front that are ASCII; or all but a byte order mark
abbrev pub FindsAt : Stage → Bool → List ℕ → List ℕ → Part → PageDecoder → Type 0
FindsAt stage.First ended before held part new = (ended ≡ false) × IsUnknown new × (before ≡ []) × (part.to ≡ 0)
FindsAt stage.Ascii ended before held part new =
    (part.from ≡ 0) × IsAscii before × IsAscii (take part.to held) × IsUnknown new × LacksMark ended (before ++ held)
    × (ended ≡ true → drop part.to held ≡ [])
FindsAt stage.Known ended before held part new =
    (drop part.to held ≡ []) × ((more : List ℕ) → MayCome ended more →
    text_in new.encoding ((before ++ held) ++ more) ≡ before ++ text_ahead new (drop part.from held ++ more))

abbrev pub Finds : Bool → List ℕ → List ℕ → Part → PageDecoder → Type 0
Finds ended before held part new = FindsAt new.stage ended before held part new

-- the bytes are held behind ASCII, or they are the first ones
abbrev pub WaitsAt : Stage → List ℕ → List ℕ → PageDecoder → Type 0
WaitsAt stage.First before held old = (before ≡ []) × IsUnknown old
WaitsAt stage.Ascii before held old = IsAscii before × IsUnknown old × LacksMark false (before ++ held)
WaitsAt stage.Known before held old = ⊥

-- the two encodings of which one is guessed
abbrev pub IsGuess : Encoding → Type 0
IsGuess encoding = (encoding ≡ Utf8) ⊎ (encoding ≡ SingleByte Windows1252)
