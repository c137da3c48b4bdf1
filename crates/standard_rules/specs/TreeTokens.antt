-- Trees of nodes, and the tokens that a tokenizer makes of the markup that writes such trees with every tag.
use Rattle.std.specs.Prelude.{ℕ, Bool, false, None, Some, List, [], ◌∷◌, ◌++◌, map, bytes_eq, codes, cond}
use Rattle.std.specs.List.{list_any}
use Rattle.standard_tokens.specs.Tokens.{Attr, Doctype, Token, AChar, AComment, ADoctype, AStart, AnEnd}

abbrev pub is_among : List ℕ → List (List ℕ) → Bool
is_among name names = list_any (bytes_eq name) names

-- a list of sibling nodes: empty, or its first node (for an element its children too) and the siblings after that
pub data Trees : Type 0 where
  no_trees : Trees
  text_node : List ℕ → Trees → Trees
  comment_node : List ℕ → Trees → Trees
  doctype_node : List ℕ → Trees → Trees
  element_node : List ℕ → List Attr → Trees → Trees → Trees

-- two lists of siblings, one after the other
abbrev pub joined : Trees → Trees → Trees
joined no_trees others = others
joined (text_node contents later) others = text_node contents (joined later others)
joined (comment_node contents later) others = comment_node contents (joined later others)
joined (doctype_node name later) others = doctype_node name (joined later others)
joined (element_node name attrs children later) others = element_node name attrs children (joined later others)

-- insert a character (13.2.6.1): into the text at the end of the list, or into a new one
abbrev pub with_char : Trees → ℕ → Trees
with_char no_trees c = text_node (c ∷ []) no_trees
with_char (text_node contents no_trees) c = text_node (contents ++ c ∷ []) no_trees
with_char (text_node contents (text_node more later)) c = text_node contents (with_char (text_node more later) c)
with_char (text_node contents (comment_node more later)) c = text_node contents (with_char (comment_node more later) c)
with_char (text_node contents (doctype_node name later)) c = text_node contents (with_char (doctype_node name later) c)
with_char (text_node contents (element_node name attrs children later)) c =
    text_node contents (with_char (element_node name attrs children later) c)
with_char (comment_node contents later) c = comment_node contents (with_char later c)
with_char (doctype_node name later) c = doctype_node name (with_char later c)
with_char (element_node name attrs children later) c = element_node name attrs children (with_char later c)

-- a doctype without identifiers
abbrev pub doctype_named : List ℕ → Doctype
doctype_named name = record { name = Some name; public_id = None; system_id = None; force_quirks = false }

-- the void elements (13.1.2)
abbrev pub void_names : List (List ℕ)
void_names = codes "area" ∷ codes "base" ∷ codes "br" ∷ codes "col" ∷ codes "embed" ∷ codes "hr" ∷ codes "img" ∷ codes "input"
    ∷ codes "link" ∷ codes "meta" ∷ codes "source" ∷ codes "track" ∷ codes "wbr" ∷ []

-- the end tag of an element, unless it is void
abbrev pub end_of : List ℕ → List Token
end_of name = cond (is_among name void_names) [] (AnEnd name ∷ [])

-- the tokens of the markup that writes these nodes, one for each character of a text
abbrev pub tokens : Trees → List Token
tokens no_trees = []
tokens (text_node contents later) = map AChar contents ++ tokens later
tokens (comment_node contents later) = AComment contents ∷ tokens later
tokens (doctype_node name later) = ADoctype (doctype_named name) ∷ tokens later
tokens (element_node name attrs children later) = AStart name attrs false ∷ (tokens children ++ (end_of name ++ tokens later))
