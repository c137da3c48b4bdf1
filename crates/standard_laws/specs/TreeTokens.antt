-- The tokens that value trees represent.
use Rattle.std.specs.Prelude.{ℕ, false, List, [], ◌∷◌, ◌++◌, map, None, Some, if◌then◌else◌}
use Rattle.std.specs.Str.{chars}
use Rattle.dom_nodes.specs.Words.{is_among}
use Rattle.dom_markup.specs.Names.{void_names}
use Rattle.dom_markup.specs.ValueTrees.{Attribute, ValueTrees}
use Rattle.dom_markup.specs.ValueTrees.ValueTrees.{no_trees, text_node, comment_node, doctype_node, element_node}
use Rattle.standard_tokens.specs.Tokens.{Attr, Token, AChar, AComment, ADoctype, AStart, AnEnd}

abbrev pub attr_token : Attribute → Attr
attr_token attribute = record { name = chars attribute.name; value = chars attribute.value }

abbrev pub start_of : List ℕ → List Attribute → Token
start_of name attributes = AStart (chars name) (map attr_token attributes) false

abbrev pub doctype_of : List ℕ → Token
doctype_of name = ADoctype (record { name = Some (chars name); public_id = None; system_id = None; force_quirks = false })

-- their tags, texts, comments and doctypes, in order; a void element is its start tag
abbrev pub tokens_in : ValueTrees → List Token
tokens_in no_trees = []
tokens_in (text_node contents later) = map AChar (chars contents) ++ tokens_in later
tokens_in (comment_node contents later) = AComment (chars contents) ∷ tokens_in later
tokens_in (doctype_node name public system later) = doctype_of name ∷ tokens_in later
tokens_in (element_node name attributes children later) =
    start_of name attributes ∷ ((if is_among name void_names then [] else tokens_in children ++ AnEnd (chars name) ∷ []) ++ tokens_in later)
