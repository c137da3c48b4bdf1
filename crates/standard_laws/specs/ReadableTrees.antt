-- What plain trees must be like for the standard's tokenizer to read what is written of them as their tokens.
use Rattle.std.specs.Prelude.{◌≡◌, ℕ, true, false, List, [], ◌∷◌, codes, bytes_eq, if◌then◌else◌}
use Rattle.std.specs.List.{list_all}
use Rattle.std.specs.Str.{chars, IsUtf8}
use Rattle.dom_markup.specs.Names.{Mode, raw_text_of, mode_in}
use Rattle.dom_markup.specs.ValueTrees.{Attribute, ValueTrees}
use Rattle.dom_markup.specs.ValueTrees.ValueTrees.{no_trees, text_node, comment_node, doctype_node, element_node}
use Rattle.standard_tokens.specs.PlainMarkup.{TextKind, Rawtext, Script, is_comment_text, is_raw_char, lacks_end}

-- no null and no carriage return: in texts the standard drops the one, and makes a line feed of the other
abbrev pub IsKept : List ℕ → Type 0
IsKept text = list_all is_raw_char (chars text) ≡ true

abbrev pub AreKept : List Attribute → Type 0
AreKept [] = Unit {0}
AreKept (attribute ∷ later) = IsUtf8 attribute.name × IsKept attribute.value × AreKept later

abbrev pub kind_of : List ℕ → TextKind
kind_of name = if bytes_eq name (codes "script") then Script else Rawtext

-- a raw text does not contain `</NAME`, and a script does not contain `<!--`; nothing ends a `plaintext`
abbrev pub EndsByTag : Mode → ValueTrees → Type 0
EndsByTag (raw_text_of name) (text_node contents no_trees) = (bytes_eq name (codes "plaintext") ≡ false)
    × (lacks_end (kind_of name) (chars name) (chars contents) ≡ true)
EndsByTag (raw_text_of name) _ = bytes_eq name (codes "plaintext") ≡ false
EndsByTag _ children = Unit {0}

-- texts and values contain neither of the two characters, and no comment ends inside its text
abbrev pub AreReadable : ValueTrees → Type 0
AreReadable no_trees = Unit {0}
AreReadable (text_node contents later) = IsKept contents × AreReadable later
AreReadable (comment_node contents later) = IsUtf8 contents × (is_comment_text (chars contents) ≡ true) × AreReadable later
AreReadable (doctype_node name public system later) = IsUtf8 name × AreReadable later
AreReadable (element_node name attributes children later) =
    IsUtf8 name × AreKept attributes × EndsByTag (mode_in name) children × AreReadable children × AreReadable later
