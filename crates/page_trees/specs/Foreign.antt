-- Foreign content, SVG and MathML (13.2.6.1 and 13.2.6.5): names in their proper case, attributes that have a namespace, and the
-- tokens that are processed by the rules for foreign content.
use Rattle.std.specs.Prelude.{ℕ, Bool, true, false, not, ◌==◌, ◌&&◌, ◌||◌, List, [], Option, None, Some, codes, find, position}
use Rattle.std.specs.Prelude.{string_bytes, if◌then◌else◌}
use Rattle.std.specs.List.{after_first, before_first}
use Rattle.std.specs.Option.{is_some, option_map, option_map_or, unwrap_or}
use Rattle.std.specs.Str.{bytes_eq, str_eq_ignore_ascii_case}
use Rattle.dom_nodes.specs.Changes.{plain_name}
use Rattle.dom_nodes.specs.declared.name.Attr.{Attr}
use Rattle.dom_nodes.specs.declared.name.NameParts.{NameParts}
use Rattle.dom_nodes.specs.declared.name.Namespace.{Namespace}
use Rattle.page_tokens.specs.declared.attribute.TagAttr.{TagAttr}
use Rattle.page_tokens.specs.declared.token.TagKind.{TagKind}
use Rattle.dom_nodes.specs.Words.{is_among as is_word_among}
use Rattle.standard_trees.specs.GrowingTree.{is_among, lower}
use Rattle.standard_trees.specs.NameLists.{breakouts, foreign_attributes, html_encodings, svg_attributes, svg_names}
use Rattle.page_trees.specs.Names.{text_of}
use Rattle.page_trees.specs.Sets.{is_a_text_point, is_an_html_point, is_in_html, is_in_mathml}
use Rattle.page_trees.specs.declared.name.Name.{Name}
use Rattle.page_trees.specs.declared.stack.ElementNamespace.{ElementNamespace}
use Rattle.page_trees.specs.declared.stack.Open.{Open}

-- ---- names

-- the name of the list that is the same but for the case of ASCII letters; the name itself, where there is none
abbrev pub adjusted : List (List ℕ) → List ℕ → List ℕ
adjusted names name = unwrap_or (find (λ known. str_eq_ignore_ascii_case known name) names) name

-- "adjust MathML attributes"
abbrev pub mathml_attr_name : List ℕ → List ℕ
mathml_attr_name name = if bytes_eq name (codes "definitionurl") then codes "definitionURL" else name

-- the name of an attribute without a namespace
abbrev pub adjusted_attr_name : ElementNamespace → List ℕ → List ℕ
adjusted_attr_name ElementNamespace.Html name = name
adjusted_attr_name ElementNamespace.Svg name = adjusted svg_attributes name
adjusted_attr_name ElementNamespace.MathMl name = mathml_attr_name name

abbrev pub is_colon : ℕ → Bool
is_colon c = c == 58

-- the prefix of such a name, before its colon, and the local name after it; without a colon the prefix is empty
abbrev pub prefix_in : List ℕ → List ℕ
prefix_in name = if is_some (position is_colon name) then before_first is_colon name else []

abbrev pub local_in : List ℕ → List ℕ
local_in name = if is_some (position is_colon name) then after_first is_colon name else name

-- the namespace of each prefix; `xmlns` itself has none
abbrev pub namespace_of_prefix : List ℕ → Namespace
namespace_of_prefix prefix =
    if bytes_eq prefix (codes "xlink") then Namespace.XLink else if bytes_eq prefix (codes "xml") then Namespace.Xml else Namespace.XmlNs

-- an empty prefix is none
abbrev pub prefix_or_none : List ℕ → Option (List ℕ)
prefix_or_none [] = None
prefix_or_none prefix = Some prefix

abbrev pub qualified_name : List ℕ → NameParts
qualified_name name = record { prefix = prefix_or_none (prefix_in name); ns = namespace_of_prefix (prefix_in name); local = local_in name }

-- the name of an attribute, as the element has it
abbrev pub attr_name_in : ElementNamespace → List ℕ → NameParts
attr_name_in ns name =
    if not (is_in_html ns) && is_word_among name foreign_attributes then qualified_name name else plain_name (adjusted_attr_name ns name)

-- the attribute of the element for an attribute of its tag
abbrev pub attr_in : ElementNamespace → TagAttr → Attr
attr_in ns given = record { name = attr_name_in ns (string_bytes given.name); value = string_bytes given.value }

abbrev pub namespace_in : ElementNamespace → Namespace
namespace_in ElementNamespace.Html = Namespace.Html
namespace_in ElementNamespace.Svg = Namespace.Svg
namespace_in ElementNamespace.MathMl = Namespace.MathMl

-- the local name of the element that a tag makes: an HTML `image` becomes `img`
abbrev pub html_local : Name → List ℕ → List ℕ
html_local Name.Img written = codes "img"
html_local _ written = written

abbrev pub local_name_in : ElementNamespace → Name → List ℕ → List ℕ
local_name_in ElementNamespace.Html name written = html_local name written
local_name_in ElementNamespace.Svg name written = adjusted svg_names written
local_name_in ElementNamespace.MathMl name written = written

abbrev pub element_name_in : ElementNamespace → Name → List ℕ → NameParts
element_name_in ns name written = record { prefix = None; ns = namespace_in ns; local = local_name_in ns name written }

-- ---- attributes of tags

-- the value of the first attribute with that name
abbrev pub value_named : List ℕ → List TagAttr → Option (List ℕ)
value_named name attrs = option_map (λ attr. string_bytes attr.value) (find (λ attr. bytes_eq (string_bytes attr.name) name) attrs)

-- an attribute `type` whose value is `hidden`, in any case
abbrev pub is_hidden_by : List TagAttr → Bool
is_hidden_by attrs = option_map_or (λ kind. str_eq_ignore_ascii_case kind (codes "hidden")) (value_named (codes "type") attrs) false

-- an attribute `encoding` whose value is one of those that make an `annotation-xml` an HTML integration point
abbrev pub is_html_encoding : List ℕ → Bool
is_html_encoding value = is_among (lower value) html_encodings

abbrev pub has_html_encoding : List TagAttr → Bool
has_html_encoding attrs = option_map_or is_html_encoding (value_named (codes "encoding") attrs) false

abbrev pub names_annotation : Name → Bool
names_annotation Name.AnnotationXml = true
names_annotation _ = false

abbrev pub is_html_annotation : ElementNamespace → Name → List TagAttr → Bool
is_html_annotation ns name attrs = (is_in_mathml ns && names_annotation name) && has_html_encoding attrs

-- ---- the rules for foreign content

-- "A start tag whose tag name is one of" (13.2.6.5): the names that end foreign content. A start tag `font` does so too, if it has
-- an attribute `color`, `face` or `size`.
abbrev pub ends_foreign_name : Name → Bool
ends_foreign_name name = is_among (text_of name) breakouts

abbrev pub names_font : Name → Bool
names_font Name.Font = true
names_font _ = false

abbrev pub has_attr_named : List ℕ → List TagAttr → Bool
has_attr_named name attrs = is_some (value_named name attrs)

-- the start tags that end foreign content: those with certain names, and `font` with an attribute `color`, `face` or `size`
abbrev pub ends_foreign : Name → List TagAttr → Bool
ends_foreign name attrs =
    ends_foreign_name name
    || (names_font name && (has_attr_named (codes "color") attrs || has_attr_named (codes "face") attrs || has_attr_named (codes "size") attrs))

abbrev pub is_glyph_name : Name → Bool
is_glyph_name Name.Mglyph = true
is_glyph_name Name.Malignmark = true
is_glyph_name _ = false

abbrev pub names_svg : Name → Bool
names_svg Name.Svg = true
names_svg _ = false

-- The tree construction dispatcher (13.2.6), with the adjusted current node: the start tags that the rules for HTML content
-- process. They process end tags only where that node is an HTML element.
abbrev pub takes_start : Open → Name → Bool
takes_start o name =
    (is_a_text_point o && not (is_glyph_name name))
    || (is_in_mathml o.ns && (names_annotation o.name && names_svg name))
    || is_an_html_point o

abbrev pub is_foreign_to : Open → TagKind → Name → Bool
is_foreign_to o TagKind.End name = not (is_in_html o.ns)
is_foreign_to o TagKind.Start name = not (is_in_html o.ns) && not (takes_start o name)
