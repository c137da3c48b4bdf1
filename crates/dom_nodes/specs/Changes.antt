-- Changes of attribute lists and names.
use Rattle.std.specs.Prelude.{ℕ, Bool, not, List, [], ◌∷◌, ◌++◌, None, is_some, codes, filter, if◌then◌else◌, ◌&&◌, ◌||◌}
use Rattle.std.specs.List.{list_any}
use Rattle.std.specs.Str.{bytes_eq}
use Rattle.dom_nodes.specs.declared.name.Attr.{Attr}
use Rattle.dom_nodes.specs.declared.name.NameParts.{NameParts}
use Rattle.dom_nodes.specs.declared.name.Namespace.TheVariants.{None as Nowhere}
use Rattle.dom_nodes.specs.Elements.{Element}
use Rattle.dom_nodes.specs.declared.node_data.NodeData.{NodeData}
use Rattle.dom_nodes.specs.declared.node_data.NodeData.TheVariants.{Element as AnElement}
use Rattle.dom_nodes.specs.Attrs.{attr_of}
use Rattle.dom_nodes.specs.Names.{same_name}
use Rattle.dom_nodes.specs.Words.{is_among}

-- Whether the attribute has this local name.
abbrev pub is_attr_named : List ℕ → Attr → Bool
is_attr_named name attr = bytes_eq attr.name.local name

-- Whether the attribute's local name is one of the names.
abbrev pub is_named_in : List (List ℕ) → Attr → Bool
is_named_in names attr = is_among attr.name.local names

-- The name with this local name, without prefix and namespace.
abbrev pub plain_name : List ℕ → NameParts
plain_name name = record { prefix = None; ns = Nowhere; local = name }

-- The attribute with this local name and value, without prefix and namespace.
abbrev pub plain_attr : List ℕ → List ℕ → Attr
plain_attr name value = record { name = plain_name name; value = value }

-- The attributes after the first one with this local name was set to the value. When there is none,
-- nothing is added.
abbrev pub with_value : List ℕ → List ℕ → List Attr → List Attr
with_value name value [] = []
with_value name value (attr ∷ attrs) =
    if is_attr_named name attr then record attr { value = value } ∷ attrs else attr ∷ with_value name value attrs

-- The attributes after the first one with this local name was set to the value. When there is none,
-- one is appended.
abbrev pub with_attr : List ℕ → List ℕ → List Attr → List Attr
with_attr name value attrs =
    if is_some (attr_of attrs name) then with_value name value attrs else attrs ++ plain_attr name value ∷ []

-- The attributes that don't have this local name.
abbrev pub without_name : List ℕ → List Attr → List Attr
without_name name attrs = filter (λ attr. not (is_attr_named name attr)) attrs

-- The attributes whose local name isn't one of the names.
abbrev pub without_names : List (List ℕ) → List Attr → List Attr
without_names names attrs = filter (λ attr. not (is_named_in names attr)) attrs

-- The attributes whose local name is one of the names.
abbrev pub only_names : List (List ℕ) → List Attr → List Attr
only_names names attrs = filter (is_named_in names) attrs

-- Whether one of the attributes has this name: prefix, namespace and local name.
abbrev pub has_attr_named : List Attr → NameParts → Bool
has_attr_named attrs name = list_any (λ attr. same_name attr.name name) attrs

-- The attributes of the list `attrs`, then those of `added` whose names `attrs` doesn't have.
abbrev pub with_missing : List Attr → List Attr → List Attr
with_missing added attrs = attrs ++ filter (λ attr. not (has_attr_named attrs attr.name)) added

-- The element with its local name replaced.
abbrev pub renamed : List ℕ → Element → Element
renamed name element = record element { name = record element.name { local = name } }

-- Whether elements of this local name are links when they have an attribute `href`.
abbrev pub is_link_name : List ℕ → Bool
is_link_name name = bytes_eq name (codes "a") || (bytes_eq name (codes "area") || bytes_eq name (codes "link"))

-- Whether the element is a link: an `a`, `area` or `link` element with an attribute `href`.
abbrev pub is_link : Element → Bool
is_link element = is_link_name element.name.local && is_some (attr_of element.attrs (codes "href"))

-- The node after a change of its element. A node that is no element is unchanged.
abbrev pub on_element : (Element → Element) → NodeData → NodeData
on_element change (AnElement element) = AnElement (change element)
on_element change node = node

-- The node after a change of its attributes. A node that is no element is unchanged.
abbrev pub with_attrs : (List Attr → List Attr) → NodeData → NodeData
with_attrs change (AnElement element) = AnElement (record element { attrs = change element.attrs })
with_attrs change node = node
