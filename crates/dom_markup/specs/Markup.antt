-- The grammar of explicit markup: as which trees a text is read. Every element has its end tag, unless it is void.
use Rattle.std.specs.Prelude.{◌≡◌, ◌≢◌, ℕ, ◌≤◌, ◌==◌, ◌||◌, ◌&&◌, not, List, [], ◌∷◌, ◌++◌, length, drop, Bool, true, false, MatchBool, ◌⊎◌, codes, if◌then◌else◌}
use Rattle.std.specs.List.{list_all, list_any}
use Rattle.std.specs.Str.{bytes_eq}
use Rattle.dom_markup.specs.Bytes.{is_whitespace, is_letter, is_name_byte, folded}
use Rattle.dom_nodes.specs.Words.{is_among}
use Rattle.dom_markup.specs.Names.{Mode, markup, text_of, raw_text_of, mode_in, void_names}
use Rattle.dom_markup.specs.References.{decoded}
use Rattle.dom_markup.specs.ValueTrees.{Attribute, ValueTrees}
use Rattle.dom_markup.specs.ValueTrees.ValueTrees.{no_trees, text_node, comment_node, doctype_node, element_node}
use Rattle.dom_nodes.specs.Ascii.{double_quote, equals_sign, exclamation_mark, greater_than, less_than, question_mark, single_quote, slash}

-- A token: a start tag, an end tag, a text, a comment or a doctype.
pub data Item : Type 0 where
  start_tag : List ℕ → List Attribute → Item
  end_tag : List ℕ → Item
  characters : List ℕ → Item
  comment : List ℕ → Item
  doctype : List ℕ → List ℕ → List ℕ → Item

-- ---- names and whitespace

-- a tag name: a letter, followed by bytes that may occur in names
abbrev pub IsTagName : List ℕ → Type 0
IsTagName [] = ⊥
IsTagName (b ∷ bs) = (is_letter b ≡ true) × (list_all is_name_byte bs ≡ true)

-- The tag name `written` in the source is the element's `name` in lower case.
abbrev pub NamesElement : List ℕ → List ℕ → Type 0
NamesElement written name = IsTagName written × (name ≡ folded written)

abbrev pub IsSpace : List ℕ → Type 0
IsSpace text = list_all is_whitespace text ≡ true

-- the text without its leading whitespace
abbrev pub after_space : List ℕ → List ℕ
after_space [] = []
after_space (b ∷ bs) = if is_whitespace b then after_space bs else b ∷ bs

-- ---- attributes

abbrev pub is_bare_byte : ℕ → Bool
is_bare_byte b = not (is_whitespace b || b == greater_than)

-- the text is empty, or its first byte does not pass
abbrev pub Fails : (ℕ → Bool) → List ℕ → Type 0
Fails p [] = Unit {0}
Fails p (b ∷ bs) = p b ≡ false

-- the text is `front` without the byte, then the byte, then `rest`
abbrev pub EndsAtByte : ℕ → List ℕ → List ℕ → List ℕ → Type 0
EndsAtByte byte text front rest = (list_all (λ b. not (b == byte)) front ≡ true) × (text ≡ front ++ byte ∷ rest)

-- The text is an attribute value and then `rest`: the value is in double or single quotes and doesn't contain that quote, or it
-- is unquoted and as long as possible.
abbrev pub BeginsValue : List ℕ → List ℕ → List ℕ → Type 0
BeginsValue [] written rest = ⊥
BeginsValue (c ∷ more) written rest =
    MatchBool (c == double_quote || c == single_quote)
    (EndsAtByte c more written rest)
    ((c ∷ more ≡ written ++ rest) × (written ≢ []) × (list_all is_bare_byte written ≡ true) × Fails is_bare_byte rest)

abbrev pub begins_equals : List ℕ → Bool
begins_equals [] = false
begins_equals (b ∷ bs) = b == equals_sign

-- `after` is `=`, a value and then `rest`, and whitespace may surround the `=`. Without an `=` the value is empty.
abbrev pub HasValue : List ℕ → List ℕ → List ℕ → Type 0
HasValue after value rest = MatchBool (begins_equals (after_space after))
    ((written : List ℕ) × BeginsValue (after_space (drop 1 (after_space after))) written rest × (value ≡ decoded written))
    ((value ≡ []) × (rest ≡ after))

-- the text is whitespace, an attribute name, its value if it has one, and then `rest`
pub record BeginsAttribute (text : List ℕ) (attribute : Attribute) (rest : List ℕ) : Type 0 where
  pub space : List ℕ
  pub name : List ℕ
  pub after : List ℕ
  pub is : text ≡ space ++ (name ++ after)
  pub is_space : IsSpace space
  pub some_space : space ≢ []
  pub is_name : list_all is_name_byte name ≡ true
  pub some_name : name ≢ []
  pub whole_name : Fails is_name_byte after
  pub folds : attribute.name ≡ folded name
  pub valued : HasValue after attribute.value rest

-- the text does not start with an attribute
abbrev pub BeginsNoAttribute : List ℕ → Type 0
BeginsNoAttribute text = (attribute : Attribute) (rest : List ℕ) → BeginsAttribute text attribute rest → ⊥

-- The text is optional whitespace, `>` and then `rest`. If `may_slash` is true, the end may also be `/>`.
abbrev pub Closes : Bool → List ℕ → List ℕ → Type 0
Closes may_slash text rest = (space : List ℕ) × IsSpace space
    × ((text ≡ space ++ (greater_than ∷ rest)) ⊎ ((may_slash ≡ true) × (text ≡ space ++ (slash ∷ greater_than ∷ rest))))

-- the text is these attributes in the source, the end of the tag, and then `rest`
abbrev pub EndsTag : Bool → List ℕ → List Attribute → List ℕ → Type 0
EndsTag may_slash text [] rest = Closes may_slash text rest
EndsTag may_slash text (attribute ∷ attributes) rest =
    (after : List ℕ) × BeginsAttribute text attribute after × EndsTag may_slash after attributes rest

abbrev pub has_name : List ℕ → List Attribute → Bool
has_name name attributes = list_any (λ a. bytes_eq a.name name) attributes

-- the list with those attributes appended whose name doesn't occur before them
abbrev pub kept_after : List Attribute → List Attribute → List Attribute
kept_after first [] = first
kept_after first (attribute ∷ attributes) =
    kept_after (if has_name attribute.name first then first else first ++ attribute ∷ []) attributes

-- ---- tags

-- The text is a start tag and then `rest`. Only the tag of a void element may end in `/>`.
pub record BeginsStart (text name : List ℕ) (attributes : List Attribute) (rest : List ℕ) : Type 0 where
  pub written : List ℕ
  pub more : List ℕ
  pub all : List Attribute
  pub is : text ≡ less_than ∷ (written ++ more)
  pub names : NamesElement written name
  pub ends : EndsTag (is_among name void_names) more all rest
  pub kept : attributes ≡ kept_after [] all

-- the text is an end tag and then `rest`
pub record BeginsEnd (text name rest : List ℕ) : Type 0 where
  pub written : List ℕ
  pub space : List ℕ
  pub is : text ≡ less_than ∷ slash ∷ (written ++ (space ++ (greater_than ∷ rest)))
  pub names : NamesElement written name
  pub is_space : IsSpace space

-- the text does not start with an end tag
abbrev pub BeginsNoEnd : List ℕ → Type 0
BeginsNoEnd text = (name rest : List ℕ) → BeginsEnd text name rest → ⊥

-- ---- texts

-- the bytes after a `<` that make it the start of a token: a letter, `/`, `!` or `?`
abbrev pub opens_markup : ℕ → Bool
opens_markup b = is_letter b || b == slash || b == exclamation_mark || b == question_mark

-- a tag, a comment, a doctype or a processing instruction starts here: a `<` followed by a letter, `/`, `!` or `?`
abbrev pub begins_markup : List ℕ → Bool
begins_markup [] = false
begins_markup (a ∷ []) = false
begins_markup (a ∷ b ∷ bs) = a == less_than && opens_markup b

-- the text up to the first place where a tag, comment, doctype or processing instruction starts
abbrev pub text_front : List ℕ → List ℕ
text_front [] = []
text_front (b ∷ bs) = if begins_markup (b ∷ bs) then [] else b ∷ text_front bs

-- the text is `front` and then `rest`, which starts with the first end tag of this name
pub record EndsAtTag (name text front rest : List ℕ) : Type 0 where
  pub is : text ≡ front ++ rest
  pub after : List ℕ
  pub ends : BeginsEnd rest name after
  pub first : (before later beyond : List ℕ) → text ≡ before ++ later → BeginsEnd later name beyond → length front ≤ length before

-- the text contains no end tag of this name
abbrev pub LacksEnd : List ℕ → List ℕ → Type 0
LacksEnd name text = (before later beyond : List ℕ) → text ≡ before ++ later → BeginsEnd later name beyond → ⊥

-- ---- comments and doctypes

-- the text is `front`, then the first occurrence of the mark, then `rest`
pub record EndsAtMark (mark text front rest : List ℕ) : Type 0 where
  pub is : text ≡ front ++ (mark ++ rest)
  pub first : (before later : List ℕ) → text ≡ before ++ (mark ++ later) → length front ≤ length before

-- the text is whitespace, a value in quotes, and then `rest`
pub record BeginsQuoted (text value rest : List ℕ) : Type 0 where
  pub space : List ℕ
  pub quote : ℕ
  pub is : text ≡ space ++ (quote ∷ (value ++ (quote ∷ rest)))
  pub is_space : IsSpace space
  pub some_space : space ≢ []
  pub is_quote : (quote ≡ double_quote) ⊎ (quote ≡ single_quote)
  pub within : list_all (λ b. not (b == quote)) value ≡ true

-- the text is whitespace, the word in upper or lower case, and then `rest`
pub record BeginsWord (word text rest : List ℕ) : Type 0 where
  pub space : List ℕ
  pub written : List ℕ
  pub is : text ≡ space ++ (written ++ rest)
  pub is_space : IsSpace space
  pub some_space : space ≢ []
  pub folds : folded written ≡ word

-- the text does not start with the word as a whole name
abbrev pub BeginsNoWord : List ℕ → List ℕ → Type 0
BeginsNoWord word text = (rest : List ℕ) → Fails is_name_byte rest → BeginsWord word text rest → ⊥

-- The text is the identifiers of a doctype and then `rest`: none, a public one with or without a system one, or a system one.
abbrev pub BeginsIdentifiers : List ℕ → List ℕ → List ℕ → List ℕ → Type 0
BeginsIdentifiers text public system rest =
    ((public ≡ []) × (system ≡ []) × (rest ≡ text))
    ⊎ ((after : List ℕ) × BeginsWord (codes "public") text after × BeginsQuoted after public rest × (system ≡ []))
    ⊎ ((after later : List ℕ) × BeginsWord (codes "public") text after × BeginsQuoted after public later × BeginsQuoted later system rest)
    ⊎ ((after : List ℕ) × BeginsWord (codes "system") text after × BeginsQuoted after system rest × (public ≡ []))

-- the text is a doctype and then `rest`
pub record BeginsDoctype (text name public system rest : List ℕ) : Type 0 where
  pub word : List ℕ
  pub space : List ℕ
  pub written : List ℕ
  pub more : List ℕ
  pub close : List ℕ
  pub is : text ≡ less_than ∷ exclamation_mark ∷ (word ++ (space ++ (written ++ more)))
  pub is_word : folded word ≡ codes "doctype"
  pub is_space : IsSpace space
  pub some_space : space ≢ []
  pub is_name : list_all is_name_byte written ≡ true
  pub some_name : written ≢ []
  pub whole_name : Fails is_name_byte more
  pub folds : name ≡ folded written
  pub identifiers : BeginsIdentifiers more public system close
  pub closes : Closes false close rest

-- the text does not start with a doctype
abbrev pub BeginsNoDoctype : List ℕ → Type 0
BeginsNoDoctype text = (name public system rest : List ℕ) → BeginsDoctype text name public system rest → ⊥

-- ---- items

-- The text is this token and then `rest`. The mode says whether the text is markup or the text inside an element such as
-- `script`.
abbrev pub Begins : Mode → List ℕ → Item → List ℕ → Type 0
Begins markup text (start_tag name attributes) rest = BeginsStart text name attributes rest
Begins markup text (end_tag name) rest = BeginsEnd text name rest
Begins markup text (characters contents) rest = (text_front text ≢ []) × (text ≡ text_front text ++ rest) × (contents ≡ decoded (text_front text))
Begins markup text (comment contents) rest = (more : List ℕ) × (text ≡ codes "<!--" ++ more) × EndsAtMark (codes "-->") more contents rest
Begins markup text (doctype name public system) rest = BeginsDoctype text name public system rest
Begins (text_of name) text (end_tag other) rest = (other ≡ name) × BeginsEnd text name rest
Begins (text_of name) text (characters contents) rest = (front : List ℕ) × (front ≢ []) × EndsAtTag name text front rest × (contents ≡ decoded front)
Begins (text_of name) text item rest = ⊥
Begins (raw_text_of name) text (end_tag other) rest = (other ≡ name) × BeginsEnd text name rest
Begins (raw_text_of name) text (characters contents) rest = (contents ≢ []) × EndsAtTag name text contents rest
Begins (raw_text_of name) text item rest = ⊥

-- the mode in which the text after this token is read
abbrev pub mode_after : Mode → Item → Mode
mode_after mode (start_tag name attributes) = mode_in name
mode_after mode (end_tag name) = markup
mode_after mode (characters contents) = mode
mode_after mode (comment contents) = markup
mode_after mode (doctype name public system) = markup

-- the mode in which the text after these tokens is read
abbrev pub mode_past : Mode → List Item → Mode
mode_past mode [] = mode
mode_past mode (item ∷ items) = mode_past (mode_after mode item) items

-- the text is these tokens, one after the other, and then `rest`
abbrev pub SpellsItemsUpTo : Mode → List ℕ → List Item → List ℕ → Type 0
SpellsItemsUpTo mode text [] rest = text ≡ rest
SpellsItemsUpTo mode text (item ∷ items) rest = (after : List ℕ) × Begins mode text item after × SpellsItemsUpTo (mode_after mode item) after items rest

-- ---- trees

-- the tokens of the trees, in document order; a void element has a start tag and no end tag
abbrev pub items_of : ValueTrees → List Item
items_of no_trees = []
items_of (text_node contents later) = characters contents ∷ items_of later
items_of (comment_node contents later) = comment contents ∷ items_of later
items_of (doctype_node name public system later) = doctype name public system ∷ items_of later
items_of (element_node name attributes children later) =
    start_tag name attributes ∷ (if is_among name void_names then items_of later else (items_of children ++ end_tag name ∷ items_of later))

-- void elements have no children, and doctypes occur only at the top level
abbrev pub AreInPlace : Bool → ValueTrees → Type 0
AreInPlace top no_trees = Unit {0}
AreInPlace top (text_node contents later) = AreInPlace top later
AreInPlace top (comment_node contents later) = AreInPlace top later
AreInPlace top (doctype_node name public system later) = (top ≡ true) × AreInPlace top later
AreInPlace top (element_node name attributes children later) =
    (is_among name void_names ≡ true → children ≡ no_trees) × AreInPlace false children × AreInPlace top later

-- The grammar reads the text as these trees. In the other comments: the text is markup for these trees.
pub record Spells (text : List ℕ) (trees : ValueTrees) : Type 0 where
  pub items : SpellsItemsUpTo markup text (items_of trees) []
  pub in_place : AreInPlace true trees

-- no token starts at the beginning of the text
abbrev pub BeginsNothing : Mode → List ℕ → Type 0
BeginsNothing mode text = (item : Item) (rest : List ℕ) → Begins mode text item rest → ⊥

-- the text is not markup: the grammar reads it as no trees
abbrev pub SpellsNothing : List ℕ → Type 0
SpellsNothing text = (trees : ValueTrees) → Spells text trees → ⊥
