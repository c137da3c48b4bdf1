-- The names of the elements that the parser and the serializer treat specially.
use Rattle.std.specs.Prelude.{ℕ, Bool, List, [], ◌∷◌, codes, if◌then◌else◌}
use Rattle.dom_nodes.specs.Words.{is_among}
use Rattle.std.specs.Str.{bytes_eq}

-- the void elements, which have a start tag alone
unfoldable pub void_names : List (List ℕ)
void_names = codes "area" ∷ codes "base" ∷ codes "basefont" ∷ codes "bgsound" ∷ codes "br" ∷ codes "col" ∷ codes "embed" ∷ codes "frame" ∷ codes "hr" ∷ codes "img" ∷ codes "input" ∷ codes "keygen" ∷ codes "link" ∷ codes "meta" ∷ codes "param" ∷ codes "source" ∷ codes "track" ∷ codes "wbr" ∷ []

-- the raw text elements, whose text is read and written without escaping
unfoldable pub raw_names : List (List ℕ)
raw_names = codes "style" ∷ codes "script" ∷ codes "xmp" ∷ codes "iframe" ∷ codes "noembed" ∷ codes "noframes" ∷ codes "plaintext" ∷ []

-- the escapable raw text elements, whose content is one text in which character references are resolved
unfoldable pub text_names : List (List ℕ)
text_names = codes "title" ∷ codes "textarea" ∷ []

abbrev pub is_template : List ℕ → Bool
is_template name = bytes_eq (codes "template") name

-- how the text at some place is read
pub data Mode : Type 0 where
  -- tags, texts, comments and doctypes
  markup : Mode
  -- the contents of an element with this name, up to its end tag: as text in which character references are resolved (`text_of`),
  -- or as text in which they are not (`raw_text_of`)
  text_of : List ℕ → Mode
  raw_text_of : List ℕ → Mode

-- the mode in which the content of an element is read
abbrev pub mode_in : List ℕ → Mode
mode_in name = if is_among name raw_names then raw_text_of name else if is_among name text_names then text_of name else markup
