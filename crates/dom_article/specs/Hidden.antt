-- Nodes that are never shown.
use Rattle.std.specs.Prelude.{ℕ, ◌≡◌, ◌==◌, ◌||◌, ◌&&◌, not, Bool, true, false, List, [], ◌∷◌, Some, codes, is_some, length, slice_get}
use Rattle.std.specs.Prelude.{if◌then◌else◌}
use Rattle.std.specs.Char.{is_ascii_whitespace, to_ascii_lowercase}
use Rattle.std.specs.List.{filter}
use Rattle.std.specs.Option.{option_map_or}
use Rattle.std.specs.Str.{bytes_eq}
use Rattle.dom_nodes.specs.declared.name.Attr.{Attr}
use Rattle.dom_nodes.specs.Attrs.{attr_of}
use Rattle.dom_nodes.specs.Elements.{Element}
use Rattle.dom_nodes.specs.Words.{is_among}
use Rattle.dom_nodes.specs.declared.node_data.NodeData.{NodeData}
use Rattle.dom_nodes.specs.declared.node_data.NodeData.TheVariants.{Document, Fragment, Text, Element as AnElement}
use Rattle.dom_links.specs.Forest.{Forest, parent}

-- The names of elements that are never part of an article: scripts, styles, what isn't shown,
-- navigation, controls of forms, and what is embedded. They are in the order of their lengths.
unfoldable pub never_names : List (List ℕ)
never_names =
    codes "svg" ∷ codes "nav" ∷ codes "map" ∷ codes "head" ∷ codes "link" ∷ codes "meta" ∷
    codes "base" ∷ codes "menu" ∷ codes "area" ∷ codes "style" ∷ codes "title" ∷ codes "frame" ∷
    codes "embed" ∷ codes "audio" ∷ codes "video" ∷ codes "track" ∷ codes "input" ∷ codes "meter" ∷
    codes "param" ∷ codes "script" ∷ codes "iframe" ∷ codes "object" ∷ codes "applet" ∷
    codes "canvas" ∷ codes "source" ∷ codes "button" ∷ codes "select" ∷ codes "option" ∷
    codes "dialog" ∷ codes "keygen" ∷ codes "noembed" ∷ codes "bgsound" ∷ codes "noscript" ∷
    codes "template" ∷ codes "frameset" ∷ codes "textarea" ∷ codes "optgroup" ∷ codes "datalist" ∷
    codes "progress" ∷ codes "noframes" ∷ codes "basefont" ∷ []

-- The words of that length.
abbrev pub of_length : ℕ → List (List ℕ) → List (List ℕ)
of_length n words = filter (λ word. length word == n) words

-- The elements `html` and `body`, whose attributes don't count, since pages hide them only until a
-- script has run.
unfoldable pub frame_names : List (List ℕ)
frame_names = codes "html" ∷ codes "body" ∷ []

-- A text without white space, in lower case.
abbrev pub squeezed : List ℕ → List ℕ
squeezed [] = []
squeezed (c ∷ cs) = if is_ascii_whitespace c then squeezed cs else to_ascii_lowercase c ∷ squeezed cs

-- Whether a text begins with these characters.
abbrev pub begins_with : (wanted text : List ℕ) → Bool
begins_with [] text = true
begins_with (w ∷ ws) [] = false
begins_with (w ∷ ws) (c ∷ cs) = (c == w) && begins_with ws cs

-- Whether a text has these characters somewhere, one after the other.
abbrev pub has_part : (wanted text : List ℕ) → Bool
has_part wanted [] = begins_with wanted []
has_part wanted (c ∷ cs) = begins_with wanted (c ∷ cs) || has_part wanted cs

-- Whether a text begins with white space.
abbrev pub begins_blank : List ℕ → Bool
begins_blank [] = false
begins_blank (c ∷ cs) = is_ascii_whitespace c

-- Whether a text begins with these characters, and not with white space.
abbrev pub is_mentioned_first : (wanted text : List ℕ) → Bool
is_mentioned_first wanted text = not (begins_blank text) && begins_with wanted (squeezed text)

-- Whether a text has these characters somewhere. White space and case don't count.
abbrev pub mentions : (wanted text : List ℕ) → Bool
mentions wanted text = has_part wanted (squeezed text)

-- Whether a style says that an element isn't shown.
abbrev pub hides : (style : List ℕ) → Bool
hides style = mentions (codes "display:none") style || mentions (codes "visibility:hidden") style

-- Whether the first attribute of this name has this value.
abbrev pub has_value : List Attr → (name value : List ℕ) → Bool
has_value attrs name value = option_map_or (λ v. bytes_eq v value) (attr_of attrs name) false

-- Whether the class is that of an image in place of a formula. Such an image is hidden from screen
-- readers only.
abbrev pub is_fallback : List Attr → Bool
is_fallback attrs = option_map_or (mentions (codes "fallback-image")) (attr_of attrs (codes "class")) false

-- Whether the attributes of an element say that it isn't shown.
abbrev pub says_hidden : List Attr → Bool
says_hidden attrs =
    is_some (attr_of attrs (codes "hidden"))
    || has_value attrs (codes "aria-modal") (codes "true")
    || option_map_or hides (attr_of attrs (codes "style")) false
    || (has_value attrs (codes "aria-hidden") (codes "true") && not (is_fallback attrs))

-- Whether an element is never shown: its name is one of those above, or its attributes say so.
abbrev pub is_hidden_element : Element → Bool
is_hidden_element e =
    is_among e.name.local never_names || (says_hidden e.attrs && not (is_among e.name.local frame_names))

-- Whether a node is never shown by itself. Comments, doctypes and processing instructions aren't.
abbrev pub is_hidden : NodeData → Bool
is_hidden Document = false
is_hidden Fragment = false
is_hidden (Text contents) = false
is_hidden (AnElement e) = is_hidden_element e
is_hidden _ = true

-- Whether node n is never shown by itself. An unknown node isn't.
abbrev pub hidden_at : Forest → ℕ → Bool
hidden_at forest n = option_map_or is_hidden (slice_get forest.content n) true

-- Node n is never shown, by itself or because it is inside such a node.
pub data IsHidden (forest : Forest) : ℕ → Type 0 where
  itself : (n : ℕ) → hidden_at forest n ≡ true → IsHidden forest n
  inside : (p n : ℕ) → parent forest n ≡ Some p → IsHidden forest p → IsHidden forest n
