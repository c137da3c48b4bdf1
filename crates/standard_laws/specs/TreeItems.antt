-- Value trees as items of plain markup.
use Rattle.std.specs.Prelude.{ℕ, ◌==◌, List, [], ◌∷◌, ◌++◌, map, if◌then◌else◌}
use Rattle.std.specs.Str.{chars}
use Rattle.dom_nodes.specs.Words.{is_among}
use Rattle.dom_markup.specs.Names.{Mode, markup, text_of, raw_text_of, mode_in, void_names}
use Rattle.dom_markup.specs.ValueTrees.{Attribute, ValueTrees}
use Rattle.dom_markup.specs.ValueTrees.ValueTrees.{no_trees, text_node, comment_node, doctype_node, element_node}
use Rattle.standard_tokens.specs.PlainMarkup.{Piece, Itself, Amp, Lt, Gt, Nbsp, PlainAttr, Item, CharItem, StartTag, EndTag}
use Rattle.standard_tokens.specs.PlainMarkup.{CommentItem, DoctypeItem, TextElement, RawElement}
use Rattle.standard_laws.specs.ReadableTrees.{kind_of}

-- how a character of a text is written
abbrev pub text_piece : ℕ → Piece
text_piece c = if c == 38 then Amp else if c == 60 then Lt else if c == 62 then Gt else if c == 160 then Nbsp else Itself c

abbrev pub plain_attr : (ℕ → Piece) → Attribute → PlainAttr
plain_attr piece attribute = record { name = chars attribute.name; value = map piece (chars attribute.value) }

-- the text of an element that contains text alone
abbrev pub own_text : ValueTrees → List ℕ
own_text (text_node contents later) = chars contents
own_text _ = []

-- an element, of whose children these are the items
abbrev pub element_items : (ℕ → Piece) → Mode → List ℕ → List Attribute → ValueTrees → List Item → List Item
element_items piece markup name attributes children inner =
    StartTag (chars name) (map (plain_attr piece) attributes) ∷ (if is_among name void_names then [] else inner ++ EndTag (chars name) ∷ [])
element_items piece (text_of own) name attributes children inner =
    TextElement (chars name) (map (plain_attr piece) attributes) (map text_piece (own_text children)) ∷ []
element_items piece (raw_text_of own) name attributes children inner =
    RawElement (kind_of name) (chars name) (map (plain_attr piece) attributes) (own_text children) ∷ []

-- `piece` is how a character of a value is written
abbrev pub items_of : (ℕ → Piece) → ValueTrees → List Item
items_of piece no_trees = []
items_of piece (text_node contents later) = map CharItem (map text_piece (chars contents)) ++ items_of piece later
items_of piece (comment_node contents later) = CommentItem (chars contents) ∷ items_of piece later
items_of piece (doctype_node name public system later) = DoctypeItem (chars name) ∷ items_of piece later
items_of piece (element_node name attributes children later) =
    element_items piece (mode_in name) name attributes children (items_of piece children) ++ items_of piece later
