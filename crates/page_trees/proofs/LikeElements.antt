-- Two formatting elements of the tree are alike where those of the definition are.
use Rattle.std.proofs.Common.{◌≡◌, ℕ, ◌<◌, ◌&&◌, ◌||◌, Bool, true, false, List, [], ◌∷◌, ◌+◌, map, refl, sym, ap, ◌∙◌, length, Option, Some, None, subst, suc, zero, arith, true≢false}
use Rattle.std.specs.Prelude.{encode_utf8_all, slice_get}
use Rattle.std.specs.List.{list_all, list_any}
use Rattle.std.specs.Option.{option_and_then, option_map_or}
use Rattle.std.specs.Str.{bytes_eq}
use Rattle.std.proofs.lemmas.Bool.Decides.{Decides-like, same_from_decides}
use Rattle.std.proofs.lemmas.Slice.Eq.{bytes_eq-Decides}
use Rattle.std.proofs.lemmas.Str.{encodes_same}
use Rattle.dom_nodes.specs.Elements.{Element as Parts}
use Rattle.dom_nodes.specs.Attrs.{element_of}
use Rattle.dom_nodes.specs.Names.{same_name, same_namespace, same_prefix}
use Rattle.dom_nodes.specs.declared.name.Attr.{Attr}
use Rattle.dom_nodes.specs.declared.node_data.NodeData.{NodeData}
use Rattle.dom_links.specs.Forest.{Forest}
use Rattle.dom_trees.specs.Views.{node_element}
use Rattle.standard_trees.specs.Formatting.{are_alike as are_alike_by_rules, holds_all, same_attr as same_attr_by_rules}
use Rattle.standard_trees.specs.GrowingTree.{GrowingTree, kind_of}
use Rattle.standard_trees.specs.TreeStore.{AttrSpace, ElementNode, Html, Kind, NoSpace, NodeAttr, XLink, Xml, XmlNs, attrs_in, key_in, same_space}
use Rattle.page_trees.specs.Elements.{IsElement}
use Rattle.page_trees.specs.Formatting.{are_alike, has_attr, same_attr, same_element}
use Rattle.page_trees.specs.SameNodes.{IsKind, attr_for, attr_namespace, attr_prefix, element_for, name_for}
use Rattle.page_trees.specs.Sets.{is_one, local_for, space_of}
use Rattle.page_trees.specs.Stands.{Builds, StandsFor, formatting_names}
use Rattle.dom_nodes.specs.Kinds.{is_element}
use Rattle.dom_links.specs.Lists.{map_from}
use Rattle.page_trees.specs.TreeState.{Late, TreeState, added_to, completed, with_attrs}
use Rattle.page_trees.proofs.LateNodes.{no_attrs}
use Rattle.page_trees.specs.declared.stack.ElementNamespace.{ElementNamespace}
use Rattle.page_trees.specs.declared.stack.Open.{Open}
use Rattle.page_trees.proofs.CopiedElements.{formatting_html, none_later}
use Rattle.page_trees.proofs.NamesAgree.{both}
use Rattle.page_trees.proofs.StandingNodes.{kind_is}

-- ---- attributes

same_bool : (b c : Bool) → (b ≡ true → c ≡ true) → (c ≡ true → b ≡ true) → b ≡ c
same_bool true true f g = refl
same_bool true false f g = sym (f refl)
same_bool false true f g = g refl
same_bool false false f g = refl

all_three : (a b c : Bool) → a ≡ true → b ≡ true → c ≡ true → (a && b && c) ≡ true
all_three true true true f g h = refl
all_three false b c f g h = f
all_three true false c f g h = g
all_three true true false f g h = h

both_are : (a b : Bool) → a ≡ true → b ≡ true → (a && b) ≡ true
both_are true true f g = refl
both_are false b f g = f
both_are true false f g = g

bytes_itself : (x : List ℕ) → bytes_eq x x ≡ true
bytes_itself x = (bytes_eq-Decides x x).1 refl

bytes_are : (x y : List ℕ) → bytes_eq x y ≡ true → x ≡ y
bytes_are x y e = (bytes_eq-Decides x y).0 e

space_is : (a c : AttrSpace) → same_space a c ≡ true → a ≡ c
space_is NoSpace NoSpace h = refl
space_is XLink XLink h = refl
space_is Xml Xml h = refl
space_is XmlNs XmlNs h = refl
space_is _ _ h = absurd (true≢false (sym h))

space_itself : (a : AttrSpace) → same_space a a ≡ true
space_itself NoSpace = refl
space_itself XLink = refl
space_itself Xml = refl
space_itself XmlNs = refl

space_back : (a c : AttrSpace) → same_namespace (attr_namespace a) (attr_namespace c) ≡ true → a ≡ c
space_back NoSpace NoSpace h = refl
space_back XLink XLink h = refl
space_back Xml Xml h = refl
space_back XmlNs XmlNs h = refl
space_back NoSpace XLink h = absurd (true≢false (sym h))
space_back NoSpace Xml h = absurd (true≢false (sym h))
space_back NoSpace XmlNs h = absurd (true≢false (sym h))
space_back XLink NoSpace h = absurd (true≢false (sym h))
space_back XLink Xml h = absurd (true≢false (sym h))
space_back XLink XmlNs h = absurd (true≢false (sym h))
space_back Xml NoSpace h = absurd (true≢false (sym h))
space_back Xml XLink h = absurd (true≢false (sym h))
space_back Xml XmlNs h = absurd (true≢false (sym h))
space_back XmlNs NoSpace h = absurd (true≢false (sym h))
space_back XmlNs XLink h = absurd (true≢false (sym h))
space_back XmlNs Xml h = absurd (true≢false (sym h))

namespace_itself : (a : AttrSpace) → same_namespace (attr_namespace a) (attr_namespace a) ≡ true
namespace_itself NoSpace = refl
namespace_itself XLink = refl
namespace_itself Xml = refl
namespace_itself XmlNs = refl

prefix_itself : (p : Option (List ℕ)) → same_prefix p p ≡ true
prefix_itself None = refl
prefix_itself (Some x) = bytes_itself x

abbrev made : AttrSpace → List ℕ → List ℕ → Attr
made space name value = record {
  name = record { prefix = attr_prefix space name; ns = attr_namespace space; local = encode_utf8_all name };
  value = encode_utf8_all value;
}

made_itself : (space : AttrSpace) (name value : List ℕ) → same_attr (made space name value) (made space name value) ≡ true
made_itself space name value =
    both_are _ _ (all_three _ _ _ (prefix_itself (attr_prefix space name)) (namespace_itself space) (bytes_itself (encode_utf8_all name))) (bytes_itself (encode_utf8_all value))

attr_there : (a c : NodeAttr) → same_attr_by_rules a c ≡ true → same_attr (attr_for a) (attr_for c) ≡ true
attr_there a c h =
    let outer = both (same_space a.space c.space && bytes_eq a.name c.name) (bytes_eq a.value c.value) h in
    let inner = both (same_space a.space c.space) (bytes_eq a.name c.name) outer.0 in
    ap (λ (space : AttrSpace). same_attr (made a.space a.name a.value) (made space c.name c.value)) (sym (space_is a.space c.space inner.0))
    ∙ ap (λ (name : List ℕ). same_attr (made a.space a.name a.value) (made a.space name c.value)) (sym (bytes_are a.name c.name inner.1))
    ∙ ap (λ (value : List ℕ). same_attr (made a.space a.name a.value) (made a.space a.name value)) (sym (bytes_are a.value c.value outer.1))
    ∙ made_itself a.space a.name a.value

attr_back : (a c : NodeAttr) → same_attr (attr_for a) (attr_for c) ≡ true → same_attr_by_rules a c ≡ true
attr_back a c h =
    let outer = both _ (bytes_eq (encode_utf8_all a.value) (encode_utf8_all c.value)) h in
    let middle = both _ (bytes_eq (encode_utf8_all a.name) (encode_utf8_all c.name)) outer.0 in
    let inner = both _ (same_namespace (attr_namespace a.space) (attr_namespace c.space)) middle.0 in
    let space : same_space a.space c.space ≡ true = ap (same_space a.space) (sym (space_back a.space c.space inner.1)) ∙ space_itself a.space in
    let name : bytes_eq a.name c.name ≡ true = (bytes_eq-Decides a.name c.name).1 (encodes_same a.name c.name (bytes_are _ _ middle.1)) in
    let value : bytes_eq a.value c.value ≡ true = (bytes_eq-Decides a.value c.value).1 (encodes_same a.value c.value (bytes_are _ _ outer.1)) in
    all_three _ _ _ space name value

attr_alike : (a c : NodeAttr) → same_attr_by_rules a c ≡ same_attr (attr_for a) (attr_for c)
attr_alike a c = same_bool _ _ (attr_there a c) (attr_back a c)

any_alike : (a : NodeAttr) (others : List NodeAttr) → list_any (same_attr_by_rules a) others ≡ has_attr (map attr_for others) (attr_for a)
any_alike a [] = refl
any_alike a (c ∷ others) =
    ap (λ b. b || list_any (same_attr_by_rules a) others) (attr_alike a c) ∙ ap (λ b. same_attr (attr_for a) (attr_for c) || b) (any_alike a others)

all_alike : (attrs others : List NodeAttr) → holds_all attrs others ≡ list_all (has_attr (map attr_for others)) (map attr_for attrs)
all_alike [] others = refl
all_alike (a ∷ attrs) others =
    ap (λ b. b && holds_all attrs others) (any_alike a others) ∙ ap (λ b. has_attr (map attr_for others) (attr_for a) && b) (all_alike attrs others)

-- ---- elements

there : (cs : List NodeData) (n : ℕ) → option_map_or is_element (slice_get cs n) false ≡ true → (c : NodeData) × (slice_get cs n ≡ Some c)
there [] n h = absurd (true≢false (sym h))
there (c ∷ cs) zero h = (c, refl)
there (c ∷ cs) (suc n) h = there cs n h

late_got : (late : List Late) (i n k : ℕ) (cs : List NodeData) (c : NodeData) → i + n ≡ k → slice_get cs n ≡ Some c → added_to late k ≡ [] →
    slice_get (map_from i (λ (m : ℕ) (node : NodeData). with_attrs (added_to late m) node) cs) n ≡ Some c
late_got late i n k [] c e got none = cc
late_got late i zero k (d ∷ cs) c e got none =
    let same : i ≡ k = omega (arith, e) in
    let one : d ≡ c = cc in
    ap (λ (m : ℕ). Some (with_attrs (added_to late m) d)) same ∙ ap (λ (attrs : List Attr). Some (with_attrs attrs d)) none ∙ ap (λ (x : NodeData). Some x) (no_attrs d ∙ one)
late_got late i (suc n) k (d ∷ cs) c e got none = late_got late (i + 1) n k cs c (omega (arith, e)) got none

late_found : (late : List Late) (f : Forest) (n : ℕ) (c : NodeData) → slice_get f.content n ≡ Some c → added_to late n ≡ [] → slice_get (completed late f).content n ≡ Some c
unfolding completed
late_found late f n c got none = late_got late 0 n n f.content c (omega arith) got none

-- the data of an open formatting element
pub record IsListedElement (f : Forest) (n : ℕ) (kind : Kind) : Type 0 where
  pub parts : Parts
  pub there : node_element f n ≡ Some parts
  pub name : parts.name ≡ name_for Html (key_in kind)
  pub attrs : parts.attrs ≡ map attr_for (attrs_in kind)

below : {X : Type 0} (xs : List X) (n : ℕ) (x : X) → slice_get xs n ≡ Some x → n < length xs
below [] n x e = cc
below (y ∷ xs) zero x e = omega arith
below (y ∷ xs) (suc n) x e = (let more = below xs n x e in omega (arith, more))

pub element_is : (s : TreeState) (t : GrowingTree) (o : Open) → Builds s t → IsElement s.forest o.id → StandsFor t.nodes o → is_one formatting_names o ≡ true →
    IsListedElement s.forest o.id (kind_of t o.id)
element_is s t o b element stands is =
    let one = there s.forest.content o.id element in
    let got = late_found s.late s.forest o.id one.0 one.1 (none_later t.nodes s.late o b.late stands is) in
    let known = kind_is t.nodes (completed s.late s.forest) o.id b.nodes (below (completed s.late s.forest).content o.id one.0 got) in
    let html : o.ns ≡ ElementNamespace.Html = formatting_html o is in
    let kind : kind_of t o.id ≡ ElementNode Html stands.written stands.attrs stands.contents =
    stands.kind ∙ ap (λ (ns : ElementNamespace). ElementNode (space_of ns) (local_for ns stands.written) stands.attrs stands.contents) html in
    let same : Some one.0 ≡ Some known.0 = sym got ∙ known.1 in
    let is_data : IsKind (ElementNode Html stands.written stands.attrs stands.contents) known.0 = subst (λ (k : Kind). IsKind k known.0) kind known.2 in
    let content : one.0 ≡ element_for is_data.0 Html stands.written stands.attrs stands.contents = (let e : one.0 ≡ known.0 = cc in e ∙ is_data.1) in
    record {
      parts = record {
        name = name_for Html stands.written;
        attrs = map attr_for stands.attrs;
        template_contents = stands.contents;
        mathml_annotation_xml_integration_point = is_data.0;
      };
      there = ap (λ (c : Option NodeData). option_and_then element_of c) (one.1 ∙ ap (λ (c : NodeData). Some c) content);
      name = ap (λ (k : Kind). name_for Html (key_in k)) (sym kind);
      attrs = ap (λ (k : Kind). map attr_for (attrs_in k)) (sym kind);
    }

-- the code asks in another order
turned : (k x y : Bool) → (k && x && y) ≡ (k && (y && x))
turned true true true = refl
turned true true false = refl
turned true false true = refl
turned true false false = refl
turned false x y = refl

names_alike : (x y : List ℕ) → bytes_eq x y ≡ bytes_eq (encode_utf8_all y) (encode_utf8_all x)
names_alike x y =
    same_from_decides _ _ (bytes_eq-Decides x y)
    (Decides-like _ (λ e. sym (encodes_same y x e)) (λ e. ap encode_utf8_all (sym e)) (bytes_eq-Decides (encode_utf8_all y) (encode_utf8_all x)))

kinds_alike : (kind other : Kind) (parts others : Parts) → parts.name ≡ name_for Html (key_in kind) → parts.attrs ≡ map attr_for (attrs_in kind) → others.name ≡ name_for Html (key_in other) →
    others.attrs ≡ map attr_for (attrs_in other) →
    (bytes_eq (key_in other) (key_in kind) && holds_all (attrs_in other) (attrs_in kind) && holds_all (attrs_in kind) (attrs_in other)) ≡ same_element parts others
kinds_alike kind other parts others name attrs name_too attrs_too =
    ap (λ b. b && holds_all (attrs_in other) (attrs_in kind) && holds_all (attrs_in kind) (attrs_in other)) (names_alike (key_in other) (key_in kind))
    ∙ ap (λ b. bytes_eq (encode_utf8_all (key_in kind)) (encode_utf8_all (key_in other)) && b && holds_all (attrs_in kind) (attrs_in other)) (all_alike (attrs_in other) (attrs_in kind))
    ∙ ap (λ b. bytes_eq (encode_utf8_all (key_in kind)) (encode_utf8_all (key_in other)) && list_all (has_attr (map attr_for (attrs_in kind))) (map attr_for (attrs_in other)) && b)
    (all_alike (attrs_in kind) (attrs_in other))
    ∙ turned (bytes_eq (encode_utf8_all (key_in kind)) (encode_utf8_all (key_in other))) (list_all (has_attr (map attr_for (attrs_in kind))) (map attr_for (attrs_in other)))
    (list_all (has_attr (map attr_for (attrs_in other))) (map attr_for (attrs_in kind)))
    ∙ sym (
    ap (λ n. same_name n others.name && (list_all (has_attr others.attrs) parts.attrs && list_all (has_attr parts.attrs) others.attrs)) name
    ∙ ap (λ n. same_name (name_for Html (key_in kind)) n && (list_all (has_attr others.attrs) parts.attrs && list_all (has_attr parts.attrs) others.attrs)) name_too
    ∙ ap (λ (xs : List Attr). bytes_eq (encode_utf8_all (key_in kind)) (encode_utf8_all (key_in other)) && (list_all (has_attr others.attrs) xs && list_all (has_attr xs) others.attrs)) attrs
    ∙ ap (λ (xs : List Attr). bytes_eq (encode_utf8_all (key_in kind)) (encode_utf8_all (key_in other)) && (list_all (has_attr xs) (map attr_for (attrs_in kind)) && list_all (has_attr (map attr_for (attrs_in kind))) xs)) attrs_too
    )

pub alike_is : (s : TreeState) (t : GrowingTree) (o p : Open) → Builds s t → IsElement s.forest o.id → StandsFor t.nodes o → is_one formatting_names o ≡ true →
    IsElement s.forest p.id → StandsFor t.nodes p → is_one formatting_names p ≡ true → are_alike_by_rules t p.id o.id ≡ are_alike s.forest o.id p.id
alike_is s t o p b one stands is other stands_too is_too =
    let x = element_is s t o b one stands is in
    let y = element_is s t p b other stands_too is_too in
    kinds_alike (kind_of t o.id) (kind_of t p.id) x.parts y.parts x.name x.attrs y.name y.attrs
    ∙ sym (
    ap (λ (q : Option Parts). option_map_or (λ a. option_map_or (same_element a) (node_element s.forest p.id) false) q false) x.there
    ∙ ap (λ (q : Option Parts). option_map_or (same_element x.parts) q false) y.there
    )
