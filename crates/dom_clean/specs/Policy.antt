-- What a policy allows, and which policies can be kept safely.
use Rattle.std.specs.Prelude.{◌&&◌, ◌||◌, ◌==◌, ℕ, Bool, true, false, not, nat_eq, nat_le, nat_lt, List, [], ◌∷◌, ◌++◌, map, Option, None}
use Rattle.std.specs.Prelude.{codes, filter}
use Rattle.std.specs.List.{list_all, starts_with}
use Rattle.std.specs.Option.{option_map_or}
use Rattle.std.specs.Str.{bytes_eq}
use Rattle.dom_nodes.specs.Words.{is_among}
use Rattle.url.specs.Parts.{Parts}

-- what becomes of an address without a scheme
pub data Relative : Type 0 where
  kept : Relative
  dropped : Relative
  -- it is joined to this base
  resolved : Parts → Relative

-- an attribute of one element, with one of these values; any value where none are listed
pub record OwnAttribute : Type 0 where
  pub element : List ℕ
  pub attribute : List ℕ
  pub values : List (List ℕ)

-- with that value, or any
abbrev pub own_attribute : List ℕ → List ℕ → Option (List ℕ) → OwnAttribute
own_attribute element attribute value =
    record { element = element; attribute = attribute; values = option_map_or (λ one. one ∷ []) value [] }

pub record Policy : Type 0 where
  -- the elements that stay, and those that vanish with all that is below them; any other is unwrapped
  pub elements : List (List ℕ)
  pub dropped : List (List ℕ)
  -- the attributes of every element, and those of one
  pub attributes : List (List ℕ)
  pub own_attributes : List OwnAttribute
  -- whether every element may have attributes whose names begin with `data-`
  pub data_attributes : Bool
  -- the schemes of addresses
  pub schemes : List (List ℕ)
  pub relative : Relative
  -- the `rel` of each link
  pub rel : Option (List ℕ)
  -- what each `id` begins with
  pub id_prefix : List ℕ
  -- the classes that stay: none says that all do
  pub classes : Option (List (List ℕ))
  -- so many kept elements may lie in one another
  pub depth : ℕ

-- ---- lists that get shorter

-- the names without that one
abbrev pub without : List ℕ → List (List ℕ) → List (List ℕ)
without name names = filter (λ one. not (bytes_eq one name)) names

-- the attributes of elements without that one of that element, with whatever values
abbrev pub without_own : List ℕ → List ℕ → List OwnAttribute → List OwnAttribute
without_own element name owns = filter (λ own. not (bytes_eq own.element element && bytes_eq own.attribute name)) owns

-- the policy that keeps texts alone
abbrev pub no_rules : Policy
no_rules = record {
  elements = [];
  dropped = [];
  attributes = [];
  own_attributes = [];
  data_attributes = false;
  schemes = [];
  relative = dropped;
  rel = None;
  id_prefix = [];
  classes = None;
  depth = 128;
}

-- ---- lists that no policy changes

-- the attributes whose values are addresses
unfoldable pub address_names : List (List ℕ)
address_names = codes "action" ∷ codes "background" ∷ codes "cite" ∷ codes "classid" ∷ codes "codebase" ∷ codes "data" ∷ codes "dynsrc"
    ∷ codes "formaction" ∷ codes "href" ∷ codes "icon" ∷ codes "longdesc" ∷ codes "lowsrc" ∷ codes "manifest" ∷ codes "poster"
    ∷ codes "profile" ∷ codes "src" ∷ codes "usemap" ∷ []

-- the attributes that hold scripts, styles, markup, or several addresses
unfoldable pub refused_attributes : List (List ℕ)
refused_attributes = codes "archive" ∷ codes "attributionsrc" ∷ codes "http-equiv" ∷ codes "imagesrcset" ∷ codes "is" ∷ codes "nonce"
    ∷ codes "ping" ∷ codes "srcdoc" ∷ codes "srcset" ∷ codes "style" ∷ codes "xmlns" ∷ []

-- the elements that can be kept: they stand in a body, are read as markup, and bring in no other document
unfoldable pub keepable_names : List (List ℕ)
keepable_names = codes "a" ∷ codes "abbr" ∷ codes "acronym" ∷ codes "address" ∷ codes "area" ∷ codes "article" ∷ codes "aside"
    ∷ codes "audio" ∷ codes "b" ∷ codes "bdi" ∷ codes "bdo" ∷ codes "big" ∷ codes "blockquote" ∷ codes "br" ∷ codes "button"
    ∷ codes "canvas" ∷ codes "caption" ∷ codes "center" ∷ codes "cite" ∷ codes "code" ∷ codes "col" ∷ codes "colgroup" ∷ codes "data"
    ∷ codes "datalist" ∷ codes "dd" ∷ codes "del" ∷ codes "details" ∷ codes "dfn" ∷ codes "dialog" ∷ codes "dir" ∷ codes "div" ∷ codes "dl"
    ∷ codes "dt" ∷ codes "em" ∷ codes "fieldset" ∷ codes "figcaption" ∷ codes "figure" ∷ codes "font" ∷ codes "footer" ∷ codes "form"
    ∷ codes "h1" ∷ codes "h2" ∷ codes "h3" ∷ codes "h4" ∷ codes "h5" ∷ codes "h6" ∷ codes "header" ∷ codes "hgroup" ∷ codes "hr" ∷ codes "i"
    ∷ codes "img" ∷ codes "input" ∷ codes "ins" ∷ codes "kbd" ∷ codes "label" ∷ codes "legend" ∷ codes "li" ∷ codes "main" ∷ codes "map"
    ∷ codes "mark" ∷ codes "menu" ∷ codes "meter" ∷ codes "nav" ∷ codes "ol" ∷ codes "output" ∷ codes "p" ∷ codes "picture" ∷ codes "pre"
    ∷ codes "progress" ∷ codes "q" ∷ codes "rp" ∷ codes "rt" ∷ codes "ruby" ∷ codes "s" ∷ codes "samp" ∷ codes "search" ∷ codes "section"
    ∷ codes "slot" ∷ codes "small" ∷ codes "source" ∷ codes "span" ∷ codes "strike" ∷ codes "strong" ∷ codes "sub" ∷ codes "summary"
    ∷ codes "sup" ∷ codes "table" ∷ codes "tbody" ∷ codes "td" ∷ codes "tfoot" ∷ codes "th" ∷ codes "thead" ∷ codes "time" ∷ codes "tr"
    ∷ codes "track" ∷ codes "tt" ∷ codes "u" ∷ codes "ul" ∷ codes "var" ∷ codes "video" ∷ codes "wbr" ∷ []

-- the schemes that run scripts, or hold documents
unfoldable pub refused_schemes : List (List ℕ)
refused_schemes = codes "data" ∷ codes "javascript" ∷ codes "vbscript" ∷ []

-- the parts of a table that hold texts, or elements that hold them
unfoldable pub table_parts : List (List ℕ)
table_parts = codes "tbody" ∷ codes "tr" ∷ codes "td" ∷ codes "th" ∷ codes "thead" ∷ codes "tfoot" ∷ codes "caption" ∷ []

-- the elements that lead elsewhere, and get the `rel` of links
unfoldable pub link_names : List (List ℕ)
link_names = codes "a" ∷ codes "area" ∷ []

-- ---- names

-- a letter in lower case, a digit, `-` or `_`
abbrev pub is_simple_byte : ℕ → Bool
is_simple_byte b = (nat_lt 96 b && nat_lt b 123) || ((nat_lt 47 b && nat_lt b 58) || (b == 45 || b == 95))

-- such bytes alone, and at least one
abbrev pub is_simple : List ℕ → Bool
is_simple [] = false
is_simple (b ∷ name) = list_all is_simple_byte (b ∷ name)

abbrev pub may_keep : List ℕ → Bool
may_keep name = is_among name keepable_names

abbrev pub may_have : List ℕ → Bool
may_have name = is_simple name && not (starts_with nat_eq name (codes "on")) && not (is_among name refused_attributes)

abbrev pub may_lead : List ℕ → Bool
may_lead scheme = not (is_among scheme refused_schemes)

-- such a byte, or a space
abbrev pub is_word_byte : ℕ → Bool
is_word_byte b = is_simple_byte b || b == 32

-- the bytes of a list of words
abbrev pub is_worded : List ℕ → Bool
is_worded text = list_all is_word_byte text

-- the bytes of a class: ASCII without controls and spaces
abbrev pub is_class_byte : ℕ → Bool
is_class_byte b = nat_lt 32 b && nat_lt b 127

abbrev pub is_class : List ℕ → Bool
is_class [] = false
is_class (b ∷ name) = list_all is_class_byte (b ∷ name)

-- ---- policies

abbrev pub attribute_names : Policy → List (List ℕ)
attribute_names policy = policy.attributes ++ map (λ own. own.attribute) policy.own_attributes

-- with `table` a table has all its parts
abbrev pub keeps_tables : List (List ℕ) → Bool
keeps_tables elements = not (is_among (codes "table") elements) || list_all (λ part. is_among part elements) table_parts

-- the base that addresses are joined to has an allowed scheme
abbrev pub joins_well : List (List ℕ) → Relative → Bool
joins_well schemes kept = true
joins_well schemes dropped = true
joins_well schemes (resolved base) = is_among base.scheme schemes

-- the `rel` of links is of words, and no policy allows another
abbrev pub is_rel : Policy → List ℕ → Bool
is_rel policy rel = is_worded rel && not (is_among (codes "rel") (attribute_names policy))

-- each element and attribute can be kept safely
abbrev pub are_names_sound : Policy → Bool
are_names_sound policy =
    list_all may_keep policy.elements && (keeps_tables policy.elements && list_all may_have (attribute_names policy))

-- each element, attribute, scheme and address can be kept safely, and all that is written by the policy itself
abbrev pub is_sound : Policy → Bool
is_sound policy =
    are_names_sound policy
    && (list_all may_lead policy.schemes
    && (joins_well policy.schemes policy.relative
    && (option_map_or (is_rel policy) policy.rel true
    && (option_map_or (list_all is_class) policy.classes true
    && (list_all is_simple_byte policy.id_prefix && nat_le policy.depth 256)))))
