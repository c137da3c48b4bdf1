-- Labels of encodings, and byte order marks.
use Rattle.std.specs.Prelude.{ℕ, ◌-◌, List, [], ◌∷◌, map, nat_eq, length, take, drop, Option, Some, None, if◌then◌else◌, bytes_eq}
use Rattle.std.specs.Char.{is_ascii_whitespace, to_ascii_lowercase}
use Rattle.std.specs.List.{prefix_len, starts_with, suffix_len}
use Rattle.encodings.specs.declared.encoding.Encoding.{Encoding}
use Rattle.encodings.specs.declared.encoding.Encoding.TheVariants.{SingleByte, Utf8, Utf16Be, Utf16Le}
use Rattle.encodings.specs.declared.single_byte.SingleByte.TheVariants.{Windows1252, XUserDefined}
use Rattle.encodings.specs.declared.labels.TheConstants.{LABELS}

-- the encoding of the first row whose label is this one, whatever the case of the row's letters
unfoldable pub labelled : {R : Type 0} → (R → List ℕ) → (R → Encoding) → List R → List ℕ → Option Encoding
labelled name encoding [] label = None
labelled name encoding (row ∷ rows) label =
    if bytes_eq (map to_ascii_lowercase (name row)) label then Some (encoding row) else labelled name encoding rows label

-- the bytes without the white space at their front, and without that at their end
abbrev pub trimmed_front : List ℕ → List ℕ
trimmed_front bytes = drop (prefix_len is_ascii_whitespace bytes) bytes

abbrev pub trimmed_end : List ℕ → List ℕ
trimmed_end bytes = take (length bytes - suffix_len is_ascii_whitespace bytes) bytes

-- "Get an encoding" from a label: white space around it and the case of its letters don't matter
unfoldable pub encoding_of : List ℕ → Option Encoding
encoding_of label = labelled (λ row. row.0.now) (λ row. row.1) LABELS (map to_ascii_lowercase (trimmed_end (trimmed_front label)))

-- the encoding of a page that declares this one in a `meta`
abbrev pub of_markup : Encoding → Encoding
of_markup Utf16Be = Utf8
of_markup Utf16Le = Utf8
of_markup (SingleByte XUserDefined) = SingleByte Windows1252
of_markup other = other

-- the encoding of a page that declares this one in an XML declaration
abbrev pub of_xml_markup : Encoding → Encoding
of_xml_markup Utf16Be = Utf8
of_xml_markup Utf16Le = Utf8
of_xml_markup other = other

-- the encoding whose byte order mark the bytes begin with, and the length of the mark
abbrev pub for_bom : List ℕ → Option (Encoding × ℕ)
for_bom bytes =
    if starts_with nat_eq bytes (0xEF ∷ 0xBB ∷ 0xBF ∷ []) then Some (Utf8, 3)
    else (if starts_with nat_eq bytes (0xFE ∷ 0xFF ∷ []) then Some (Utf16Be, 2)
    else (if starts_with nat_eq bytes (0xFF ∷ 0xFE ∷ []) then Some (Utf16Le, 2) else None))
