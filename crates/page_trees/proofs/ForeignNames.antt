-- The element of SVG or MathML that a tag makes has the adjusted name and attributes that the definition gives it.
use Rattle.std.proofs.Common.{◌≡◌, ◌&&◌, ◌||◌, ℕ, Bool, true, false, List, [], ◌∷◌, Option, None, Some, codes, cond, drop, map, nat_eq, not, refl, sym, ap, subst, ◌∙◌, true≢false, if◌then◌else◌}
use Rattle.std.specs.List.{find, list_all, starts_with}
use Rattle.std.specs.Option.{option_map, option_map_or, unwrap_or}
use Rattle.std.specs.Prelude.{encode_utf8_all, string_bytes}
use Rattle.std.specs.Str.{bytes_eq, str_eq_ignore_ascii_case}
use Rattle.std.proofs.lemmas.Bool.{and_parts}
use Rattle.std.proofs.lemmas.Bool.Decides.{same_from_decides, Decides-like}
use Rattle.std.proofs.lemmas.Slice.Eq.{bytes_eq-Decides}
use Rattle.std.proofs.lemmas.Str.{encodes_same}
use lib.Utf8.{encode}
use Rattle.dom_nodes.specs.Words.{is_among as is_word_among}
use Rattle.dom_nodes.specs.Changes.{plain_name}
use Rattle.dom_nodes.specs.declared.name.Attr.{Attr as TheAttr}
use Rattle.dom_nodes.specs.declared.name.NameParts.{NameParts}
use Rattle.standard_tokens.specs.Tokens.{Attr}
use Rattle.standard_trees.specs.Building.{adjusted, is_text, with_names, with_space}
use Rattle.standard_trees.specs.GrowingTree.{has_value, is_among, lower, value_of}
use Rattle.standard_trees.specs.NameLists.{foreign_attributes, html_encodings, mathml_attributes, svg_attributes, svg_names}
use Rattle.standard_trees.specs.TreeStore.{NoSpace, NodeAttr, XLink, Xml, XmlNs}
use Rattle.page_tokens.specs.PlainNames.{are_plain, is_plain}
use Rattle.page_tokens.specs.Standard.{AreAttrs, IsAttr}
use Rattle.page_tokens.specs.declared.attribute.TagAttr.{TagAttr}
use Rattle.page_tokens.specs.declared.token.Tag.{Tag}
use Rattle.page_trees.specs.Foreign.{adjusted as adjusted_bytes, adjusted_attr_name, attr_in, attr_name_in, has_html_encoding, is_html_encoding, qualified_name, value_named}
use Rattle.page_trees.specs.Names.{name_of}
use Rattle.page_trees.specs.SameNodes.{attr_for}
use Rattle.page_trees.specs.Sets.{is_in_html, is_one_in, key_for}
use Rattle.page_trees.specs.Stands.{IsTagName, IsTagOf}
use Rattle.page_trees.specs.declared.name.Name.{Name}
use Rattle.page_trees.specs.declared.stack.ElementNamespace.{ElementNamespace}
use Rattle.page_trees.proofs.DoctypeTexts.{are_ascii, same_text}
use Rattle.page_trees.proofs.ForeignTags.{annotation, annotation_is, annotation_known}
use Rattle.page_trees.proofs.StandingNames.{key_agrees}
use Rattle.page_trees.proofs.ToldTokens.{lower_same}

-- ---- texts

turned : (a b : List ℕ) → bytes_eq a b ≡ bytes_eq b a
turned a b = same_from_decides _ _ (Decides-like _ sym sym (bytes_eq-Decides a b)) (bytes_eq-Decides b a)

same_bytes : (text cs : List ℕ) → encode_utf8_all text ≡ text → bytes_eq text (encode_utf8_all cs) ≡ bytes_eq text cs
same_bytes text cs plain =
    same_from_decides _ _ (Decides-like _ (λ e. encodes_same text cs (plain ∙ e)) (λ e. sym plain ∙ ap encode_utf8_all e) (bytes_eq-Decides text (encode_utf8_all cs)))
    (bytes_eq-Decides text cs)

-- a text that is spelled as it is, compared with another one
pub spelled_eq : (cs text : List ℕ) → encode_utf8_all text ≡ text → bytes_eq (encode_utf8_all cs) text ≡ bytes_eq cs text
spelled_eq cs text plain = turned (encode_utf8_all cs) text ∙ same_bytes text cs plain ∙ turned text cs

-- ASCII texts are spelled as they are
abbrev is_low : List ℕ → Bool
is_low text = are_ascii text && bytes_eq (encode_utf8_all text) text

abbrev are_low : List (List ℕ) → Bool
are_low names = list_all is_low names

low_parts : (text : List ℕ) → is_low text ≡ true → (are_ascii text ≡ true) × (encode_utf8_all text ≡ text)
low_parts text h =
    let parts = and_parts (are_ascii text) (bytes_eq (encode_utf8_all text) text) h in
    (parts.0, (bytes_eq-Decides (encode_utf8_all text) text).0 parts.1)

-- ---- adjusted names

folded : (one cs : List ℕ) → are_ascii one ≡ true → lower cs ≡ cs → str_eq_ignore_ascii_case one (encode_utf8_all cs) ≡ bytes_eq (lower one) cs
folded one cs ascii low =
    turned (lower one) (lower (encode_utf8_all cs)) ∙ same_text one ascii cs ∙ turned (lower cs) (lower one) ∙ ap (bytes_eq (lower one)) low

pub adjusted_spelled : (names : List (List ℕ)) → are_low names ≡ true → (cs : List ℕ) → lower cs ≡ cs → adjusted_bytes names (encode_utf8_all cs) ≡ encode_utf8_all (adjusted names cs)
adjusted_spelled [] h cs low = refl
adjusted_spelled (one ∷ names) h cs low =
    let parts = and_parts (is_low one) (are_low names) h in
    let plain = low_parts one parts.0 in
    ap (λ b. unwrap_or (cond b (Some one) (find (λ known. str_eq_ignore_ascii_case known (encode_utf8_all cs)) names)) (encode_utf8_all cs)) (folded one cs plain.0 low)
    ∙ by plain.1 (adjusted_spelled names parts.1 cs low) (bytes_eq (lower one) cs)
  where
    by : encode_utf8_all one ≡ one → adjusted_bytes names (encode_utf8_all cs) ≡ encode_utf8_all (adjusted names cs) → (b : Bool) →
        unwrap_or (cond b (Some one) (find (λ known. str_eq_ignore_ascii_case known (encode_utf8_all cs)) names)) (encode_utf8_all cs)
        ≡ encode_utf8_all (unwrap_or (cond b (Some one) (find (λ known. bytes_eq (lower known) cs) names)) cs)
    by plain others true = sym plain
    by plain others false = others

-- none of the names, and none of them in lower case, is one of the others
abbrev are_apart : List (List ℕ) → List (List ℕ) → Bool
are_apart names others = list_all (λ one. not (is_among one others) && not (is_among (lower one) others)) names

not_true : (b : Bool) → not b ≡ true → b ≡ false
not_true true e = sym e
not_true false e = refl

adjusted_apart : (names others : List (List ℕ)) → are_apart names others ≡ true → (cs : List ℕ) → is_among (adjusted names cs) others ≡ is_among cs others
adjusted_apart [] others h cs = refl
adjusted_apart (one ∷ names) others h cs =
    let parts = and_parts (not (is_among one others) && not (is_among (lower one) others)) (are_apart names others) h in
    let two = and_parts (not (is_among one others)) (not (is_among (lower one) others)) parts.0 in
    by (not_true (is_among one others) two.0) (not_true (is_among (lower one) others) two.1) (adjusted_apart names others parts.1 cs) (bytes_eq (lower one) cs) refl
  where
    by : is_among one others ≡ false → is_among (lower one) others ≡ false → is_among (adjusted names cs) others ≡ is_among cs others → (b : Bool) → bytes_eq (lower one) cs ≡ b →
        is_among (unwrap_or (cond b (Some one) (find (λ known. bytes_eq (lower known) cs) names)) cs) others ≡ is_among cs others
    by first second rest true e = first ∙ sym second ∙ ap (λ text. is_among text others) ((bytes_eq-Decides (lower one) cs).0 e)
    by first second rest false e = rest

-- ---- what is true of each name of a list

abbrev AllOf : (List ℕ → Type 0) → List (List ℕ) → Type 0
AllOf P [] = Unit {0}
AllOf P (name ∷ names) = P name × AllOf P names

of_one : (P : List ℕ → Type 0) (names : List (List ℕ)) → AllOf P names → (cs : List ℕ) → is_among cs names ≡ true → P cs
of_one P [] all cs h = absurd (true≢false (sym h))
of_one P (name ∷ names) all cs h = by (of_one P names all.1 cs) (bytes_eq cs name) refl h
  where
    by : (is_among cs names ≡ true → P cs) → (b : Bool) → bytes_eq cs name ≡ b → (b || is_among cs names) ≡ true → P cs
    by rest true e k = subst P (sym ((bytes_eq-Decides cs name).0 e)) all.0
    by rest false e k = rest k

word_among : (names : List (List ℕ)) → are_low names ≡ true → (cs : List ℕ) → is_word_among (encode_utf8_all cs) names ≡ is_among cs names
word_among [] h cs = refl
word_among (name ∷ names) h cs =
    let parts = and_parts (is_low name) (are_low names) h in
    ap (λ b. b || is_word_among (encode_utf8_all cs) names) (same_bytes name cs (low_parts name parts.0).1 ∙ turned name cs)
    ∙ ap (λ b. bytes_eq cs name || b) (word_among names parts.1 cs)

-- ---- attributes

abbrev pub plain : Attr → NodeAttr
plain a = record { space = NoSpace; name = a.name; value = a.value }

abbrev named_attr : NameParts → List ℕ → TheAttr
named_attr name value = record { name = name; value = encode_utf8_all value }

abbrev pub adjusted_attr : List (List ℕ) → List ℕ → List ℕ → NodeAttr
adjusted_attr names name value = with_space (record { space = NoSpace; name = adjusted names name; value = value })

-- an attribute that has a namespace in foreign content
abbrev IsQualified : List (List ℕ) → List ℕ → List ℕ → Type 0
IsQualified names value name = named_attr (qualified_name (encode_utf8_all name)) value ≡ attr_for (adjusted_attr names name value)

foreign_low : are_low foreign_attributes ≡ true
unfolding encode
foreign_low = refl

abbrev spaced_if : Bool → Bool → Bool → NodeAttr → NodeAttr
spaced_if x y z a = elim x [
  | false ↦ a
  | true ↦ elim y [
    | true ↦ record a { space = XLink; name = drop 6 a.name }
    | false ↦ elim z [
      | true ↦ record a { space = Xml; name = drop 4 a.name }
      | false ↦ record a { space = XmlNs; name = cond (bytes_eq a.name (codes "xmlns")) a.name (drop 6 a.name) }
    ]
  ]
]

spaced : (a : NodeAttr) → is_among a.name foreign_attributes ≡ false → with_space a ≡ a
spaced a e = ap (λ x. spaced_if x (starts_with nat_eq a.name (codes "xlink:")) (starts_with nat_eq a.name (codes "xml:")) a) e

attr_is : (ns : ElementNamespace) (names : List (List ℕ)) → not (is_in_html ns) ≡ true → are_apart names foreign_attributes ≡ true →
    ((value : List ℕ) → AllOf (IsQualified names value) foreign_attributes) → ((cs : List ℕ) → lower cs ≡ cs → adjusted_attr_name ns (encode_utf8_all cs) ≡ encode_utf8_all (adjusted names cs)) →
    (one : TagAttr) (other : Attr) → IsAttr one other → lower other.name ≡ other.name → attr_in ns one ≡ attr_for (adjusted_attr names other.name other.value)
attr_is ns names foreign apart qualified spells one other is low =
    ap (λ (name : List ℕ). record { name = attr_name_in ns name; value = string_bytes one.value }) is.name
    ∙ ap (λ (value : List ℕ). record { name = attr_name_in ns (encode_utf8_all other.name); value = value }) is.value
    ∙ ap (λ b. named_attr (if b && is_word_among (encode_utf8_all other.name) foreign_attributes then qualified_name (encode_utf8_all other.name)
    else plain_name (adjusted_attr_name ns (encode_utf8_all other.name))) other.value) foreign
    ∙ ap (λ b. named_attr (if b then qualified_name (encode_utf8_all other.name) else plain_name (adjusted_attr_name ns (encode_utf8_all other.name))) other.value)
    (word_among foreign_attributes foreign_low other.name)
    ∙ by (is_among other.name foreign_attributes) refl
  where
    by : (b : Bool) → is_among other.name foreign_attributes ≡ b →
        named_attr (if b then qualified_name (encode_utf8_all other.name) else plain_name (adjusted_attr_name ns (encode_utf8_all other.name))) other.value
        ≡ attr_for (adjusted_attr names other.name other.value)
    by true e = of_one (IsQualified names other.value) foreign_attributes (qualified other.value) other.name e
    by false e =
        ap (λ (local : List ℕ). named_attr (plain_name local) other.value) (spells other.name low)
        ∙ sym (ap attr_for (spaced (record { space = NoSpace; name = adjusted names other.name; value = other.value }) (adjusted_apart names foreign_attributes apart other.name ∙ e)))

attrs_are : (ns : ElementNamespace) (names : List (List ℕ)) → not (is_in_html ns) ≡ true → are_apart names foreign_attributes ≡ true →
    ((value : List ℕ) → AllOf (IsQualified names value) foreign_attributes) → ((cs : List ℕ) → lower cs ≡ cs → adjusted_attr_name ns (encode_utf8_all cs) ≡ encode_utf8_all (adjusted names cs)) →
    (ones : List TagAttr) (others : List Attr) → AreAttrs ones others → are_plain others ≡ true →
    map (attr_in ns) ones ≡ map attr_for (map with_space (with_names names (map plain others)))
attrs_are ns names foreign apart qualified spells [] [] are named = refl
attrs_are ns names foreign apart qualified spells [] (other ∷ others) are named = absurd are
attrs_are ns names foreign apart qualified spells (one ∷ ones) [] are named = absurd are
attrs_are ns names foreign apart qualified spells (one ∷ ones) (other ∷ others) are named =
    let parts = and_parts (is_plain other.name) (are_plain others) named in
    ap (λ (a : TheAttr). a ∷ map (attr_in ns) ones) (attr_is ns names foreign apart qualified spells one other are.0 (lower_same other.name parts.0))
    ∙ ap (λ (rest : List TheAttr). attr_for (adjusted_attr names other.name other.value) ∷ rest) (attrs_are ns names foreign apart qualified spells ones others are.1 parts.1)

-- ---- the lists of names

svg_low : are_low svg_names ≡ true
unfolding encode
svg_low = refl

svg_attributes_low : are_low svg_attributes ≡ true
unfolding encode
svg_attributes_low = refl

svg_apart : are_apart svg_attributes foreign_attributes ≡ true
svg_apart = refl

svg_qualified : (value : List ℕ) → AllOf (IsQualified svg_attributes value) foreign_attributes
unfolding encode
svg_qualified value = (refl, (refl, (refl, (refl, (refl, (refl, (refl, (refl, (refl, (refl, (refl, tt)))))))))))

mathml_attributes_low : are_low mathml_attributes ≡ true
unfolding encode
mathml_attributes_low = refl

mathml_apart : are_apart mathml_attributes foreign_attributes ≡ true
mathml_apart = refl

mathml_qualified : (value : List ℕ) → AllOf (IsQualified mathml_attributes value) foreign_attributes
unfolding encode
mathml_qualified value = (refl, (refl, (refl, (refl, (refl, (refl, (refl, (refl, (refl, (refl, (refl, tt)))))))))))

definition_url : encode_utf8_all (codes "definitionurl") ≡ codes "definitionurl"
unfolding encode
definition_url = refl

definition_url_is : encode_utf8_all (codes "definitionURL") ≡ codes "definitionURL"
unfolding encode
definition_url_is = refl

mathml_spelled : (cs : List ℕ) → adjusted_attr_name ElementNamespace.MathMl (encode_utf8_all cs) ≡ encode_utf8_all (adjusted mathml_attributes cs)
mathml_spelled cs =
    ap (λ b. if b then codes "definitionURL" else encode_utf8_all cs) (turned (encode_utf8_all cs) (codes "definitionurl") ∙ same_bytes (codes "definitionurl") cs definition_url)
    ∙ by (bytes_eq (codes "definitionurl") cs)
  where
    by : (b : Bool) → (if b then codes "definitionURL" else encode_utf8_all cs) ≡ encode_utf8_all (unwrap_or (cond b (Some (codes "definitionURL")) None) cs)
    by true = sym definition_url_is
    by false = refl

-- ---- elements of SVG

-- a tag whose name and attributes are these makes an element of SVG
pub svg_tag : (name : Name) (tag : Tag) (written : List ℕ) (attrs : List Attr) → IsTagName written → name ≡ name_of written → string_bytes tag.name ≡ encode_utf8_all written →
    AreAttrs tag.attrs.items attrs → are_plain attrs ≡ true → IsTagOf ElementNamespace.Svg name tag written (map with_space (with_names svg_attributes (map plain attrs)))
svg_tag name tag written attrs is known spelt are named = record {
  tag_name = is;
  known = known;
  local = ap (adjusted_bytes svg_names) spelt ∙ adjusted_spelled svg_names svg_low written is.lower_case;
  spelt = λ other. spelt;
  same_attrs = attrs_are ElementNamespace.Svg svg_attributes refl svg_apart svg_qualified (adjusted_spelled svg_attributes svg_attributes_low) tag.attrs.items attrs are named;
  point = refl;
}

-- ---- elements of MathML

abbrev encoding : List ℕ
encoding = codes "encoding"

encoding_low : encode_utf8_all encoding ≡ encoding
unfolding encode
encoding_low = refl

abbrev KeepsName : List ℕ → List ℕ → Type 0
KeepsName value name = bytes_eq (adjusted_attr mathml_attributes name value).name encoding ≡ bytes_eq name encoding

foreign_kept : (value : List ℕ) → AllOf (KeepsName value) foreign_attributes
foreign_kept value = (refl, (refl, (refl, (refl, (refl, (refl, (refl, (refl, (refl, (refl, (refl, tt)))))))))))

-- an attribute is called `encoding` after its name is adjusted where it is so before
encoding_kept : (name value : List ℕ) → KeepsName value name
encoding_kept name value = by (is_among name foreign_attributes) refl
  where
    either : (b : Bool) → bytes_eq (codes "definitionurl") name ≡ b → bytes_eq (unwrap_or (cond b (Some (codes "definitionURL")) None) name) encoding ≡ bytes_eq name encoding
    either true e = ap (λ text. bytes_eq text encoding) ((bytes_eq-Decides (codes "definitionurl") name).0 e)
    either false e = refl

    by : (b : Bool) → is_among name foreign_attributes ≡ b → KeepsName value name
    by true e = of_one (KeepsName value) foreign_attributes (foreign_kept value) name e
    by false e =
        ap (λ (a : NodeAttr). bytes_eq a.name encoding)
        (spaced (record { space = NoSpace; name = adjusted mathml_attributes name; value = value }) (adjusted_apart mathml_attributes foreign_attributes mathml_apart name ∙ e))
        ∙ either (bytes_eq (codes "definitionurl") name) refl

value_kept : (a : NodeAttr) → (with_space a).value ≡ a.value
value_kept a = by (is_among a.name foreign_attributes) (starts_with nat_eq a.name (codes "xlink:")) (starts_with nat_eq a.name (codes "xml:"))
  where
    by : (x y z : Bool) → (spaced_if x y z a).value ≡ a.value
    by false y z = refl
    by true true z = refl
    by true false true = refl
    by true false false = refl

-- the value of the attribute `encoding`
encoding_is : (ones : List TagAttr) (others : List Attr) → AreAttrs ones others →
    value_named encoding ones ≡ option_map encode_utf8_all (value_of encoding (map with_space (with_names mathml_attributes (map plain others))))
encoding_is [] [] are = refl
encoding_is [] (other ∷ others) are = absurd are
encoding_is (one ∷ ones) [] are = absurd are
encoding_is (one ∷ ones) (other ∷ others) are =
    let a : NodeAttr = adjusted_attr mathml_attributes other.name other.value in
    let tested : bytes_eq (string_bytes one.name) encoding ≡ bytes_eq other.name encoding =
    ap (λ (name : List ℕ). bytes_eq name encoding) are.0.name ∙ spelled_eq other.name encoding encoding_low in
    let value : string_bytes one.value ≡ encode_utf8_all a.value =
    are.0.value ∙ sym (ap encode_utf8_all (value_kept (record { space = NoSpace; name = adjusted mathml_attributes other.name; value = other.value }))) in
    by a (bytes_eq (string_bytes one.name) encoding) (bytes_eq a.name encoding) (tested ∙ sym (encoding_kept other.name other.value)) value (encoding_is ones others are.1)
  where
    by : (a : NodeAttr) (x y : Bool) → x ≡ y → string_bytes one.value ≡ encode_utf8_all a.value →
        value_named encoding ones ≡ option_map encode_utf8_all (value_of encoding (map with_space (with_names mathml_attributes (map plain others)))) →
        option_map (λ attr. string_bytes attr.value) (cond x (Some one) (find (λ (attr : TagAttr). bytes_eq (string_bytes attr.name) encoding) ones))
        ≡ option_map encode_utf8_all (elim y [ true ↦ Some a.value | false ↦ value_of encoding (map with_space (with_names mathml_attributes (map plain others))) ])
    by a true true e value rest = ap (λ (text : List ℕ). Some text) value
    by a false false e value rest = rest
    by a true false e value rest = absurd (true≢false e)
    by a false true e value rest = absurd (true≢false (sym e))

html_encoding_is : (value : List ℕ) → is_html_encoding (encode_utf8_all value) ≡ is_among (lower value) html_encodings
html_encoding_is value =
    ap (λ b. b || (is_text (encode_utf8_all value) (codes "application/xhtml+xml") || false)) (same_text (codes "text/html") refl value)
    ∙ ap (λ b. is_text value (codes "text/html") || (b || false)) (same_text (codes "application/xhtml+xml") refl value)

html_encodings_are : (ones : List TagAttr) (others : List Attr) → AreAttrs ones others →
    has_html_encoding ones ≡ has_value encoding html_encodings (map with_space (with_names mathml_attributes (map plain others)))
html_encodings_are ones others are =
    ap (λ o. option_map_or is_html_encoding o false) (encoding_is ones others are) ∙ by (value_of encoding (map with_space (with_names mathml_attributes (map plain others))))
  where
    by : (o : Option (List ℕ)) → option_map_or is_html_encoding (option_map encode_utf8_all o) false ≡ option_map_or (λ value. is_among (lower value) html_encodings) o false
    by None = refl
    by (Some value) = html_encoding_is value

-- a tag whose name and attributes are these makes an element of MathML
pub mathml_tag : (name : Name) (tag : Tag) (written : List ℕ) (attrs : List Attr) → IsTagName written → name ≡ name_of written → string_bytes tag.name ≡ encode_utf8_all written →
    AreAttrs tag.attrs.items attrs → are_plain attrs ≡ true → IsTagOf ElementNamespace.MathMl name tag written (map with_space (with_names mathml_attributes (map plain attrs)))
mathml_tag name tag written attrs is known spelt are named = record {
  tag_name = is;
  known = known;
  local = spelt;
  spelt = λ other. spelt;
  same_attrs = attrs_are ElementNamespace.MathMl mathml_attributes refl mathml_apart mathml_qualified (λ cs low. mathml_spelled cs) tag.attrs.items attrs are named;
  point = ap (λ b. b && has_html_encoding tag.attrs.items)
      (sym (annotation_is ElementNamespace.MathMl name) ∙ ap (is_one_in annotation ElementNamespace.MathMl) known ∙ key_agrees annotation annotation_known ElementNamespace.MathMl written is)
      ∙ ap (λ b. is_among (key_for ElementNamespace.MathMl written) annotation && b) (html_encodings_are tag.attrs.items attrs are);
}
