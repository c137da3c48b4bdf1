-- Single-byte encodings: each byte is a character.
use Rattle.std.specs.Prelude.{ℕ, ◌-◌, List, map, nat_lt, ◌==◌, slice_index, if◌then◌else◌, Option, Some, None}
use lib.Utf8.{scalar}
use Rattle.encodings.specs.declared.single_byte.SingleByte.{SingleByte}
use Rattle.encodings.specs.declared.single_byte.SingleByte.TheVariants.{Ibm866, Iso8859_10, Iso8859_13, Iso8859_14, Iso8859_15, Iso8859_16, Iso8859_2, Iso8859_3, Iso8859_4, Iso8859_5, Iso8859_6, Iso8859_7, Iso8859_8, Koi8R, Koi8U, Macintosh, Windows1250, Windows1251, Windows1252, Windows1253, Windows1254, Windows1255, Windows1256, Windows1257, Windows1258, Windows874, XMacCyrillic, XUserDefined, Iso8859_8I}
use Rattle.encodings.specs.declared.tables.TheConstants.{IBM866, ISO_8859_10, ISO_8859_13, ISO_8859_14, ISO_8859_15, ISO_8859_16, ISO_8859_2, ISO_8859_3, ISO_8859_4, ISO_8859_5, ISO_8859_6, ISO_8859_7, ISO_8859_8, KOI8_R, KOI8_U, MACINTOSH, WINDOWS_1250, WINDOWS_1251, WINDOWS_1252, WINDOWS_1253, WINDOWS_1254, WINDOWS_1255, WINDOWS_1256, WINDOWS_1257, WINDOWS_1258, WINDOWS_874, X_MAC_CYRILLIC, X_USER_DEFINED}

-- the characters of the bytes from 128 on
abbrev pub index_of : SingleByte → List ℕ
index_of Ibm866 = IBM866
index_of Iso8859_10 = ISO_8859_10
index_of Iso8859_13 = ISO_8859_13
index_of Iso8859_14 = ISO_8859_14
index_of Iso8859_15 = ISO_8859_15
index_of Iso8859_16 = ISO_8859_16
index_of Iso8859_2 = ISO_8859_2
index_of Iso8859_3 = ISO_8859_3
index_of Iso8859_4 = ISO_8859_4
index_of Iso8859_5 = ISO_8859_5
index_of Iso8859_6 = ISO_8859_6
index_of Iso8859_7 = ISO_8859_7
index_of Iso8859_8 = ISO_8859_8
index_of Koi8R = KOI8_R
index_of Koi8U = KOI8_U
index_of Macintosh = MACINTOSH
index_of Windows1250 = WINDOWS_1250
index_of Windows1251 = WINDOWS_1251
index_of Windows1252 = WINDOWS_1252
index_of Windows1253 = WINDOWS_1253
index_of Windows1254 = WINDOWS_1254
index_of Windows1255 = WINDOWS_1255
index_of Windows1256 = WINDOWS_1256
index_of Windows1257 = WINDOWS_1257
index_of Windows1258 = WINDOWS_1258
index_of Windows874 = WINDOWS_874
index_of XMacCyrillic = X_MAC_CYRILLIC
index_of XUserDefined = X_USER_DEFINED
index_of Iso8859_8I = ISO_8859_8

-- the character of a byte: below 128 itself, and from there on that of the index, where 0 stands for
-- none
unfoldable pub character_of : List ℕ → ℕ → Option ℕ
character_of index byte =
    if nat_lt byte 128 then Some byte
    else (let code = slice_index index (byte - 128) in if code == 0 then None else (if scalar code then Some code else None))

-- the characters of the bytes; None for each error
abbrev pub characters : List ℕ → List ℕ → List (Option ℕ)
characters index bytes = map (character_of index) bytes
