-- The attributes of a tag as the prescan of the HTML Standard reads them (13.2.3.2), and what those of a `meta` declare.
use Rattle.std.specs.Prelude.{ℕ, ◌-◌, zero, suc, List, [], ◌∷◌, Bool, true, false, not, map, ◌==◌, codes, length, drop, bytes_eq, Option, Some, None, option_and_then, if◌then◌else◌}
use Rattle.std.specs.List.{list_any}
use Rattle.std.specs.Option.{option_map}
use Rattle.std.specs.Char.{to_ascii_lowercase}
use Rattle.encodings.specs.declared.encoding.Encoding.{Encoding}
use Rattle.encodings.specs.Bytes.{after_while, begins, begins_with_word, ends_label, ends_name, ends_value, front_while, in_quotes, is_quote, is_space, is_space_or_slash}
use Rattle.encodings.specs.Labels.{encoding_of, of_markup}

-- ---- "Get an attribute". The result is the attribute, or None where the tag has no more, and the bytes from the position on.
-- There is no result where the bytes end first. Names and values are as written: they are compared in letters of any case.

abbrev pub Got : Type 0
Got = Option (Option (List ℕ × List ℕ) × List ℕ)

-- 10 and 11: a value in quotes, or one up to a space or `>`
abbrev pub quoted_value : List ℕ → Option (List ℕ × List ℕ) → Got
quoted_value name None = None
quoted_value name (Some (value, behind)) = Some (Some (name, value), behind)

abbrev pub bare_value : List ℕ → List ℕ → List ℕ → Got
bare_value name value [] = None
bare_value name value (byte ∷ rest) = Some (Some (name, value), byte ∷ rest)

unfoldable pub at_value : List ℕ → List ℕ → Got
at_value name bytes =
    if begins is_quote bytes then quoted_value name (in_quotes bytes)
    else bare_value name (front_while (λ byte. not (ends_value byte)) bytes) (after_while (λ byte. not (ends_value byte)) bytes)

-- 7 and 8: without `=` the value is empty. 9: spaces before the value are passed over
unfoldable pub at_equals : List ℕ → List ℕ → Got
at_equals name [] = None
at_equals name (byte ∷ rest) = if byte == 0x3D then at_value name (after_while is_space rest) else Some (Some (name, []), byte ∷ rest)

-- 3 to 5: the first byte is part of the name, and so is each up to one that ends it. 6: spaces behind the name are passed over.
-- 2: at `>` the tag has no more attributes
unfoldable pub at_name : List ℕ → Got
at_name [] = None
at_name (byte ∷ rest) =
    if byte == 0x3E then Some (None, byte ∷ rest)
    else at_equals (byte ∷ front_while (λ each. not (ends_name each)) rest) (after_while is_space (after_while (λ each. not (ends_name each)) rest))

-- 1: spaces and slashes are passed over
unfoldable pub get_attribute : List ℕ → Got
get_attribute bytes = at_name (after_while is_space_or_slash bytes)

-- ---- "Extracting a character encoding from a meta element": the label that a value names

-- what stands behind `charset`, spaces and `=`, if the bytes begin with these
abbrev pub behind_equals : List ℕ → Option (List ℕ)
behind_equals [] = None
behind_equals (byte ∷ rest) = if byte == 0x3D then Some rest else None

unfoldable pub behind_charset : List ℕ → Option (List ℕ)
behind_charset bytes = if begins_with_word (codes "charset") bytes then behind_equals (after_while is_space (drop 7 bytes)) else None

-- a label in quotes, or one up to a space, a `;` or the end
unfoldable pub label_at : List ℕ → Option (List ℕ)
label_at [] = None
label_at (byte ∷ rest) =
    if is_quote byte then option_map (λ found. found.0) (in_quotes (byte ∷ rest))
    else Some (front_while (λ each. not (ends_label each)) (byte ∷ rest))

-- the label behind the first `charset` that an `=` follows
abbrev pub label_or : Option (List ℕ) → Option (List ℕ) → Option (List ℕ)
label_or None later = later
label_or (Some value) later = label_at (after_while is_space value)

unfoldable pub label_in : List ℕ → Option (List ℕ)
label_in [] = None
label_in (byte ∷ rest) = label_or (behind_charset (byte ∷ rest)) (label_in rest)

-- ---- A `meta`

-- what its attributes say so far: the attribute list, got pragma, need pragma (None: null), and charset (None: null; Some None:
-- failure)
pub record Meta : Type 0 where
  pub names : List (List ℕ)
  pub got_pragma : Bool
  pub need_pragma : Option Bool
  pub charset : Option (Option Encoding)

-- 2 and 3
abbrev pub no_attributes : Meta
no_attributes = record { names = []; got_pragma = false; need_pragma = None; charset = None }

-- 7, `content`: an encoding counts if none was found before, and needs the pragma
abbrev pub with_content : Meta → Option (Option Encoding) → Option Encoding → Meta
with_content meta None (Some found) = record meta { charset = Some (Some found); need_pragma = Some true }
with_content meta charset found = meta

-- 7: what an attribute says, whose name is in lower case
abbrev pub with_attribute : Meta → List ℕ → List ℕ → Meta
with_attribute meta name value =
    if bytes_eq name (codes "http-equiv") then (if bytes_eq (map to_ascii_lowercase value) (codes "content-type") then record meta { got_pragma = true } else meta)
    else (if bytes_eq name (codes "content") then with_content meta meta.charset (option_and_then encoding_of (label_in value))
    else (if bytes_eq name (codes "charset") then record meta { charset = Some (encoding_of value); need_pragma = Some false } else meta))

-- 5 and 6: only the first attribute of a name counts
abbrev pub is_in : List ℕ → List (List ℕ) → Bool
is_in name names = list_any (λ each. bytes_eq name each) names

abbrev pub noted_as : Meta → List ℕ → List ℕ → Meta
noted_as meta name value = if is_in name meta.names then meta else with_attribute (record meta { names = name ∷ meta.names }) name value

abbrev pub noted : Meta → List ℕ × List ℕ → Meta
noted meta attribute = noted_as meta (map to_ascii_lowercase attribute.0) attribute.1

-- 4 and 8: all attributes of the tag, and the bytes from its `>` on. `ahead` bytes are passed over first: those of the attribute
-- before.
abbrev pub and_more : Meta → Got → (Meta → List ℕ → Option (Meta × List ℕ)) → Option (Meta × List ℕ)
and_more meta None more = None
and_more meta (Some (None, here)) more = Some (meta, here)
and_more meta (Some (Some attribute, behind)) more = more (noted meta attribute) behind

unfoldable pub attributes : Meta → ℕ → List ℕ → Option (Meta × List ℕ)
attributes meta ahead [] = None
attributes meta (suc ahead) (byte ∷ rest) = attributes meta ahead rest
attributes meta zero (byte ∷ rest) =
    and_more meta (get_attribute (byte ∷ rest)) (λ more behind. attributes more (length rest - length behind) rest)

-- 9 to 14, "processing": the encoding that the `meta` declares
abbrev pub processed : Option Bool → Bool → Option (Option Encoding) → Option Encoding
processed None got charset = None
processed (Some true) false charset = None
processed (Some need) got None = None
processed (Some need) got (Some charset) = option_map of_markup charset

abbrev pub declared_by : Meta → Option Encoding
declared_by meta = processed meta.need_pragma meta.got_pragma meta.charset
