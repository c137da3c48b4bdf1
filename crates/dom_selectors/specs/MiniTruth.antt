-- Which nodes a mini selector matches, by their own data.
use Rattle.std.specs.Prelude.{ℕ, List, Bool, true, false, ◌&&◌, not, Option, Some, None, codes, is_some}
use Rattle.std.specs.List.{list_all, list_any}
use Rattle.std.specs.Option.{option_map_or}
use Rattle.std.specs.Str.{bytes_eq}
use Rattle.dom_nodes.specs.Attrs.{attr_of, element_of}
use Rattle.dom_nodes.specs.declared.case_sensitivity.CaseSensitivity.TheVariants.{CaseSensitive}
use Rattle.dom_nodes.specs.declared.name.Attr.{Attr}
use Rattle.dom_nodes.specs.Elements.{Element}
use Rattle.dom_nodes.specs.declared.node_data.NodeData.{NodeData}
use Rattle.dom_nodes.specs.Words.{class_words, is_among}
use Rattle.dom_selectors.specs.declared.syntax.AttrOperator.{AttrOperator}
use Rattle.dom_selectors.specs.Comparisons.{compares, is_empty}
use Rattle.dom_selectors.specs.MiniSyntax.{Asked, Mini}

-- the element has this local name, if the selector has a name
abbrev pub name_holds : Option (List ℕ) → Element → Bool
name_holds None element = true
name_holds (Some name) element = bytes_eq element.name.local name

-- the first attribute `id` has this value, if the selector has an id
abbrev pub id_holds : Option (List ℕ) → Element → Bool
id_holds None element = true
id_holds (Some id) element = option_map_or (λ value. bytes_eq value id) (attr_of element.attrs (codes "id")) false

-- the value is not empty and passes the operator
abbrev pub test_passes : AttrOperator × List ℕ → List ℕ → Bool
test_passes test value = not (is_empty value) && compares test.0 CaseSensitive value test.1

abbrev pub attr_passes : List ℕ → AttrOperator × List ℕ → Attr → Bool
attr_passes key test attr = bytes_eq attr.name.local key && test_passes test attr.value

-- the element has an attribute with this local name, or one of them passes the comparison
abbrev pub asked_holds : Element → List ℕ → Option (AttrOperator × List ℕ) → Bool
asked_holds element key None = is_some (attr_of element.attrs key)
asked_holds element key (Some test) = list_any (attr_passes key test) element.attrs

-- the class is a word of the element's first attribute `class`
abbrev pub has_class : Element → List ℕ → Bool
has_class element class = is_among class (class_words element.attrs)

-- the element has all of the classes
abbrev pub classes_hold : List (List ℕ) → Element → Bool
classes_hold classes element = list_all (λ class. has_class element class) classes

abbrev pub is_as_asked : Element → Asked → Bool
is_as_asked element asked = asked_holds element asked.key asked.test

-- the element passes the test for each of the attributes
abbrev pub attrs_hold : List Asked → Element → Bool
attrs_hold attrs element = list_all (λ asked. is_as_asked element asked) attrs

-- the element passes every part of the selector
abbrev pub element_passes : Mini → Element → Bool
element_passes mini element = name_holds mini.name element && id_holds mini.id element
    && classes_hold mini.classes element && attrs_hold mini.attrs element

-- only elements match
abbrev pub node_passes : Mini → NodeData → Bool
node_passes mini node = option_map_or (element_passes mini) (element_of node) false
