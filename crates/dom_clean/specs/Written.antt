-- The text of what is left, in which `<` and `>` are escaped in values too.
use Rattle.std.specs.Prelude.{ℕ, List, [], ◌++◌, codes, if◌then◌else◌}
use Rattle.std.specs.List.{flat_map}
use Rattle.std.specs.Str.{chars}
use Rattle.dom_nodes.specs.Words.{is_among}
use Rattle.dom_markup.specs.Escaping.{escaped_text}
use Rattle.dom_markup.specs.Html.{end_tag}
use Rattle.dom_markup.specs.Names.{void_names}
use Rattle.dom_markup.specs.ValueTrees.{Attribute, ValueTrees}
use Rattle.dom_markup.specs.ValueTrees.ValueTrees.{no_trees, text_node, comment_node, doctype_node, element_node}
use Rattle.dom_markup.specs.WrittenTrees.{attr_by, safe_char, start_by}

abbrev pub safe_value : List ℕ → List ℕ
safe_value value = flat_map safe_char (chars value)

abbrev pub attribute_text : Attribute → List ℕ
attribute_text = attr_by safe_char

abbrev pub start_of : List ℕ → List Attribute → List ℕ
start_of = start_by safe_char

-- the text of trees
abbrev pub text_of : ValueTrees → List ℕ
text_of no_trees = []
text_of (text_node contents later) = escaped_text contents ++ text_of later
text_of (comment_node contents later) = codes "<!--" ++ (contents ++ (codes "-->" ++ text_of later))
text_of (doctype_node name public system later) = codes "<!DOCTYPE " ++ (name ++ (codes ">" ++ text_of later))
text_of (element_node name attributes children later) =
    start_of name attributes ++ ((if is_among name void_names then [] else text_of children ++ end_tag name) ++ text_of later)
