-- "Prescan a byte stream to determine its encoding" (HTML Standard, 13.2.3.2), over at most the first 1,024 bytes.
use Rattle.std.specs.Prelude.{ℕ, ◌-◌, zero, suc, List, [], ◌∷◌, Bool, not, ◌||◌, ◌&&◌, nat_eq, codes, length, take, drop, Option, Some, None, if◌then◌else◌}
use Rattle.std.specs.List.{list_any, starts_with}
use Rattle.std.specs.Option.{option_map}
use Rattle.std.specs.Char.{is_ascii_alphabetic}
use Rattle.encodings.specs.declared.encoding.Encoding.{Encoding}
use Rattle.encodings.specs.declared.encoding.Encoding.TheVariants.{Utf16Be, Utf16Le}
use Rattle.encodings.specs.Bytes.{◌>>=◌, after_while, begins, begins_with_word, cut_at, ends_value, from_first, in_quotes, is_blank, is_space_or_slash}
use Rattle.encodings.specs.Attributes.{Meta, attributes, declared_by, no_attributes}
use Rattle.encodings.specs.Labels.{encoding_of, of_xml_markup}

-- ---- "Loop": what begins at a position

-- whether the bytes begin with this text
abbrev pub begins_with : List ℕ → List ℕ → Bool
begins_with text bytes = starts_with nat_eq bytes text

-- `<meta` and a space or a slash
abbrev pub begins_meta : List ℕ → Bool
begins_meta bytes = begins_with_word (codes "<meta") bytes && begins is_space_or_slash (drop 5 bytes)

-- `<`, optionally `/`, and a letter
abbrev pub begins_tag : List ℕ → Bool
begins_tag bytes = (begins_with (codes "<") bytes && begins is_ascii_alphabetic (drop 1 bytes))
    || (begins_with (codes "</") bytes && begins is_ascii_alphabetic (drop 2 bytes))

-- `<!`, `</` or `<?`
abbrev pub begins_other : List ℕ → Bool
begins_other bytes = begins_with (codes "<!") bytes || (begins_with (codes "</") bytes || begins_with (codes "<?") bytes)

-- What a step gives: the encoding that a `meta` declares, or the bytes with which the next step begins; or the bytes end.
pub data Step : Type 0 where
  declares : Encoding → Step
  goes_on : List ℕ → Step
  ends : Step

-- "Next byte": what is behind the byte at the position
abbrev pub behind_byte : List ℕ → Step
behind_byte [] = ends
behind_byte (byte ∷ rest) = goes_on rest

abbrev pub next_byte : Option (List ℕ) → Step
next_byte None = ends
next_byte (Some bytes) = behind_byte bytes

-- from the `>` on of the first `-->` behind `<!`, whose dashes may be those of `<!--`
abbrev pub comment_end : List ℕ → Option (List ℕ)
comment_end bytes = option_map (drop 2) (from_first (begins_with (codes "-->")) (drop 2 bytes))

-- what a `meta` declares, whose attributes come
abbrev pub or_next : Option Encoding → List ℕ → Step
or_next (Some encoding) bytes = declares encoding
or_next None bytes = behind_byte bytes

abbrev pub of_meta : Option (Meta × List ℕ) → Step
of_meta None = ends
of_meta (Some (meta, here)) = or_next (declared_by meta) here

-- from the `>` on of a tag, whose attributes are read as those of a `meta`, and say nothing
abbrev pub tag_end : List ℕ → Option (List ℕ)
tag_end bytes = option_map (λ read. read.1) (attributes no_attributes 0 (after_while (λ byte. not (ends_value byte)) bytes))

-- from the first `>` on
abbrev pub other_end : List ℕ → Option (List ℕ)
other_end bytes = from_first (begins_with (codes ">")) bytes

unfoldable pub step : List ℕ → Step
step bytes =
    if begins_with (codes "<!--") bytes then next_byte (comment_end bytes)
    else (if begins_meta bytes then of_meta (attributes no_attributes 0 (drop 5 bytes))
    else (if begins_tag bytes then next_byte (tag_end bytes)
    else (if begins_other bytes then next_byte (other_end bytes)
    else behind_byte bytes)))

-- All steps. `ahead` bytes are passed over first: those of the step before.
abbrev pub and_steps : Step → (List ℕ → Option Encoding) → Option Encoding
and_steps (declares encoding) later = Some encoding
and_steps (goes_on bytes) later = later bytes
and_steps ends later = None

unfoldable pub prescan : ℕ → List ℕ → Option Encoding
prescan ahead [] = None
prescan (suc ahead) (byte ∷ rest) = prescan ahead rest
prescan zero (byte ∷ rest) = and_steps (step (byte ∷ rest)) (λ bytes. prescan (length rest - length bytes) rest)

-- ---- "Get an XML encoding", where no `meta` declares one: of `<?xml .. encoding .. = .. "LABEL" .. >`, with spaces and control
-- characters around the equals sign

-- what stands behind this text, if the bytes begin with it
abbrev pub behind_text : List ℕ → List ℕ → Option (List ℕ)
behind_text text bytes = if begins_with text bytes then Some (drop (length text) bytes) else None

-- the encoding of a label that has no space and no control character
abbrev pub of_xml_label : List ℕ → Option Encoding
of_xml_label label = if list_any is_blank label then None else option_map of_xml_markup (encoding_of label)

abbrev pub after_blanks : List ℕ → List ℕ
after_blanks bytes = after_while is_blank bytes

-- the label in quotes
abbrev pub of_xml_value : List ℕ → Option Encoding
of_xml_value value = in_quotes (after_blanks value) >>= λ label. of_xml_label label.0

-- behind the word `encoding`: an equals sign and the label
abbrev pub of_xml_word : List ℕ → Option Encoding
of_xml_word rest = behind_text (codes "=") (after_blanks rest) >>= of_xml_value

-- between `<?xml` and the first `>`
abbrev pub of_declaration : List ℕ → Option Encoding
of_declaration declaration = from_first (begins_with (codes "encoding")) declaration >>= λ word. of_xml_word (drop 8 word)

abbrev pub of_xml : List ℕ → Option Encoding
of_xml rest = cut_at 0x3E rest >>= λ declaration. of_declaration declaration.0

unfoldable pub xml_encoding : List ℕ → Option Encoding
xml_encoding bytes = behind_text (codes "<?xml") bytes >>= of_xml

-- ---- The whole

-- how many bytes are looked at
abbrev pub looked_at : ℕ
looked_at = 1024

-- what the steps find, and else an XML declaration
abbrev pub or_xml : Option Encoding → Option Encoding → Option Encoding
or_xml (Some encoding) xml = Some encoding
or_xml None xml = xml

-- an XML declaration in UTF-16 comes first
unfoldable pub declared_in : List ℕ → Option Encoding
declared_in bytes =
    if begins_with (0x3C ∷ 0 ∷ 0x3F ∷ 0 ∷ 0x78 ∷ 0 ∷ []) bytes then Some Utf16Le
    else (if begins_with (0 ∷ 0x3C ∷ 0 ∷ 0x3F ∷ 0 ∷ 0x78 ∷ []) bytes then Some Utf16Be
    else or_xml (prescan 0 bytes) (xml_encoding bytes))

unfoldable pub declared_encoding : List ℕ → Option Encoding
declared_encoding bytes = declared_in (take looked_at bytes)
