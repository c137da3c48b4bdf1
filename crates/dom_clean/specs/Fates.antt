-- What becomes of a node where it stands.
use Rattle.std.specs.Prelude.{ℕ, ◌-◌, ◌==◌, ◌&&◌, ◌||◌, Bool, true, false, nat_eq, nat_lt, not, List, [], ◌∷◌, ◌++◌, filter, codes}
use Rattle.std.specs.Prelude.{encode_utf8, is_some, Option, Some, None, Ok, Err, if◌then◌else◌}
use Rattle.std.specs.List.{flat_map, list_all, list_any, starts_with}
use Rattle.std.specs.Option.{option_and_then, option_map}
use Rattle.std.specs.Str.{bytes_eq, chars}
use Rattle.std.proofs.Math.Utf8.{scalar}
use Rattle.dom_nodes.specs.Ascii.{carriage_return}
use Rattle.dom_nodes.specs.Classes.{with_word}
use Rattle.dom_nodes.specs.Words.{is_among, words_of}
use Rattle.dom_nodes.specs.declared.name.Attr.{Attr}
use Rattle.dom_nodes.specs.declared.name.Namespace.{Namespace}
use Rattle.dom_nodes.specs.declared.name.Namespace.TheVariants.{None as NoNamespace}
use Rattle.dom_nodes.specs.Elements.{Element}
use Rattle.dom_nodes.specs.declared.node_data.NodeData.{NodeData}
use Rattle.dom_nodes.specs.declared.node_data.NodeData.TheVariants.{Element as AnElement, Text}
use Rattle.dom_markup.specs.Html.{is_html}
use Rattle.dom_markup.specs.ValueTrees.{Attribute}
use Rattle.page_trees.specs.ElementKinds.{kind_of}
use Rattle.page_trees.specs.declared.element_kinds.ElementCategory.{ElementCategory}
use Rattle.page_trees.specs.declared.element_kinds.ElementCategory.TheVariants.{Head, Metadata, Verbatim}
use Rattle.calm_pages.specs.Calm.{admits, behind, inside, may_hold_text}
use Rattle.url.specs.Parser.{Parsed, parse_url}
use Rattle.url.specs.Parts.{Parts, serialize}
use Rattle.dom_clean.specs.Addresses.{scheme_of}
use Rattle.dom_clean.specs.declared.fates.Fate.{Fate}
use Rattle.dom_clean.specs.declared.fates.Fate.TheVariants.{Stays, Unwrapped, Vanishes}
use Rattle.dom_clean.specs.declared.fates.Place.{Place}
use Rattle.dom_clean.specs.Policy.{OwnAttribute, Policy, Relative, address_names, is_simple_byte, link_names}
use Rattle.dom_clean.specs.Policy.Relative.{kept, dropped, resolved}

-- ---- texts and values

-- a character that a page can have: no byte 0 and no carriage return
abbrev pub is_spelled : ℕ → Bool
is_spelled c = not (c == 0 || c == carriage_return) && scalar c

abbrev pub spelled_char : ℕ → List ℕ
spelled_char c = if is_spelled c then encode_utf8 c else []

-- the text without the characters that no page can have
abbrev pub spellable : List ℕ → List ℕ
spellable text = flat_map spelled_char (chars text)

-- the text and these words, with a space between
abbrev pub with_words : List ℕ → List (List ℕ) → List ℕ
with_words text [] = text
with_words text (word ∷ words) = with_words (with_word text word) words

-- some value, unless it is empty
abbrev pub unless_empty : List ℕ → Option (List ℕ)
unless_empty [] = None
unless_empty (b ∷ value) = Some (b ∷ value)

abbrev pub joined_address : Parsed Parts → Option (List ℕ)
joined_address (Ok url) = Some (serialize url)
joined_address (Err fault) = None

-- an address of an allowed scheme stays, and one of another scheme goes; `other` is for one without a scheme
abbrev pub judged : List (List ℕ) → List ℕ → Option (List ℕ) → Option (List ℕ) → Option (List ℕ)
judged schemes address None other = other
judged schemes address (Some scheme) other = if is_among scheme schemes then Some address else None

abbrev pub allowed_address : List (List ℕ) → List ℕ → Option (List ℕ)
allowed_address schemes address = judged schemes address (scheme_of address) None

abbrev pub relative_address : Policy → Relative → List ℕ → Option (List ℕ)
relative_address policy kept address = Some address
relative_address policy dropped address = None
relative_address policy (resolved base) address =
    option_and_then (allowed_address policy.schemes) (option_map spellable (joined_address (parse_url (Some base) address)))

abbrev pub cleaned_address : Policy → List ℕ → Option (List ℕ)
cleaned_address policy address = judged policy.schemes address (scheme_of address) (relative_address policy policy.relative address)

abbrev pub cleaned_classes : Option (List (List ℕ)) → List ℕ → Option (List ℕ)
cleaned_classes None value = Some value
cleaned_classes (Some classes) value = unless_empty (with_words [] (filter (λ word. is_among word classes) (words_of value)))

abbrev pub prefixed : List ℕ → List ℕ → List ℕ
prefixed front value = if starts_with nat_eq value front then value else front ++ value

-- what the value of an attribute becomes; none says that the attribute goes
abbrev pub cleaned_value : Policy → List ℕ → List ℕ → Option (List ℕ)
cleaned_value policy name value =
    if is_among name address_names then cleaned_address policy value
    else if bytes_eq name (codes "class") then cleaned_classes policy.classes value
    else if bytes_eq name (codes "id") then Some (prefixed policy.id_prefix value)
    else Some value

-- ---- attributes

abbrev pub is_nowhere : Namespace → Bool
is_nowhere NoNamespace = true
is_nowhere _ = false

-- one of these values; any where none are listed
abbrev pub allows_value : List ℕ → List (List ℕ) → Bool
allows_value value [] = true
allows_value value (one ∷ values) = is_among value (one ∷ values)

-- such an attribute of such an element, with such a value
abbrev pub is_own : List ℕ → List ℕ → List ℕ → OwnAttribute → Bool
is_own element name value own =
    bytes_eq own.element element && (bytes_eq own.attribute name && allows_value value own.values)

-- the name of an attribute for scripts
abbrev pub is_data_name : List ℕ → Bool
is_data_name name = starts_with nat_eq name (codes "data-") && list_all is_simple_byte name

abbrev pub has_attribute : Policy → List ℕ → List ℕ → List ℕ → Bool
has_attribute policy element name value =
    is_among name policy.attributes
    || ((policy.data_attributes && is_data_name name) || list_any (is_own element name value) policy.own_attributes)

abbrev pub with_name : List ℕ → Option (List ℕ) → List Attribute
with_name name None = []
with_name name (Some value) = record { name = name; value = value } ∷ []

-- an attribute with that value, where there is one and the policy has it
abbrev pub kept_attr : Policy → List ℕ → List ℕ → Option (List ℕ) → List Attribute
kept_attr policy element name None = []
kept_attr policy element name (Some value) = if has_attribute policy element name value then record { name = name; value = value } ∷ []
    else []

-- what is left of an attribute with that name and value: one, or none
abbrev pub allowed_attr : Policy → List ℕ → List ℕ → List ℕ → List Attribute
allowed_attr policy element name value = kept_attr policy element name (cleaned_value policy name value)

-- an attribute of that name, in no namespace
abbrev pub is_named : List ℕ → Attr → Bool
is_named name attr = is_nowhere attr.name.ns && bytes_eq attr.name.local name

-- what is left of an attribute after those: it is the first of its name
abbrev pub cleaned_attr : Policy → List ℕ → List Attr → Attr → List Attribute
cleaned_attr policy element before attr =
    if is_nowhere attr.name.ns && not (list_any (is_named attr.name.local) before)
    then allowed_attr policy element attr.name.local (spellable attr.value) else []

-- what is left of attributes after those
abbrev pub attrs_behind : Policy → List ℕ → List Attr → List Attr → List Attribute
attrs_behind policy element before [] = []
attrs_behind policy element before (attr ∷ later) =
    cleaned_attr policy element before attr ++ attrs_behind policy element (before ++ attr ∷ []) later

abbrev pub link_rel : Policy → List ℕ → List Attribute
link_rel policy element = if is_among element link_names then with_name (codes "rel") policy.rel else []

abbrev pub cleaned_attrs : Policy → Element → List Attribute
cleaned_attrs policy element = attrs_behind policy element.name.local [] element.attrs ++ link_rel policy element.name.local

-- ---- nodes

-- the elements that vanish whatever the policy says: their texts are not for readers
abbrev pub is_unseen : ElementCategory → Bool
is_unseen Head = true
is_unseen Metadata = true
is_unseen Verbatim = true
is_unseen kind = false

abbrev pub is_dropped : Policy → Element → Bool
is_dropped policy element = is_some element.template_contents || is_unseen (kind_of element.name.local)
    || is_among element.name.local policy.dropped

abbrev pub may_stay : Policy → Place → Element → Bool
may_stay policy place element =
    is_html element.name.ns && is_among element.name.local policy.elements && admits place.scope (kind_of element.name.local)
    && nat_lt 0 place.left

abbrev pub text_fate : Place → List ℕ → Fate
text_fate place contents = if may_hold_text place.scope.parent (spellable contents) then Stays else Vanishes

abbrev pub element_fate : Policy → Place → Element → Fate
element_fate policy place element =
    if is_dropped policy element then Vanishes else if may_stay policy place element then Stays else Unwrapped

abbrev pub fate_of : Policy → Place → NodeData → Fate
fate_of policy place (Text contents) = text_fate place contents
fate_of policy place (AnElement element) = element_fate policy place element
fate_of policy place content = Vanishes

-- what the children of a node stand in; a text may stand wherever a later one may
abbrev pub place_below : Fate → Place → NodeData → Place
place_below Stays place (AnElement element) =
    record { scope = behind (inside place.scope (kind_of element.name.local)); left = place.left - 1 }
place_below fate place content = place
