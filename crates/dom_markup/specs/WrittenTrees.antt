-- The text of value trees as it is written by writers that escape texts as HTML does, and values each in a way of its own.
use Rattle.std.specs.Prelude.{ℕ, ◌==◌, Bool, List, [], ◌++◌, codes, if◌then◌else◌}
use Rattle.std.specs.List.{flat_map}
use Rattle.std.specs.Str.{chars}
use Rattle.dom_nodes.specs.Ascii.{double_quote}
use Rattle.dom_nodes.specs.Words.{is_among}
use Rattle.dom_markup.specs.Escaping.{escaped_text, text_char}
use Rattle.dom_markup.specs.Html.{end_tag}
use Rattle.dom_markup.specs.Names.{raw_names, void_names}
use Rattle.dom_markup.specs.ValueTrees.{Attribute, ValueTrees}
use Rattle.dom_markup.specs.ValueTrees.ValueTrees.{no_trees, text_node, comment_node, doctype_node, element_node}

-- how a character of a value is written
abbrev pub ValueChar : Type 0
ValueChar = ℕ → List ℕ

-- as cautious writers write it: `<` and `>` are escaped in values too
abbrev pub safe_char : ValueChar
safe_char c = if c == double_quote then codes "&quot;" else text_char c

abbrev pub attr_by : ValueChar → Attribute → List ℕ
attr_by by attribute = codes " " ++ (attribute.name ++ (codes "=\"" ++ (flat_map by (chars attribute.value) ++ codes "\"")))

abbrev pub start_by : ValueChar → List ℕ → List Attribute → List ℕ
start_by by name attributes = codes "<" ++ (name ++ (flat_map (attr_by by) attributes ++ codes ">"))

-- `raw` says that texts at the top are written as they are
abbrev pub text_by : ValueChar → Bool → ValueTrees → List ℕ
text_by by raw no_trees = []
text_by by raw (text_node contents later) = (if raw then contents else escaped_text contents) ++ text_by by raw later
text_by by raw (comment_node contents later) = codes "<!--" ++ (contents ++ (codes "-->" ++ text_by by raw later))
text_by by raw (doctype_node name public system later) = codes "<!DOCTYPE " ++ (name ++ (codes ">" ++ text_by by raw later))
text_by by raw (element_node name attributes children later) =
    start_by by name attributes
    ++ ((if is_among name void_names then [] else text_by by (is_among name raw_names) children ++ end_tag name) ++ text_by by raw later)
