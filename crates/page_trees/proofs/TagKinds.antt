-- The element that a tag makes is the one that the definition makes of the token.
use Rattle.std.proofs.Common.{◌≡◌, ℕ, ◌&&◌, ◌||◌, Bool, true, false, List, [], ◌∷◌, map, reverse, refl, sym, ap, ◌∙◌, length, None, inl, inr, subst, codes, true≢false}
use Rattle.std.specs.Prelude.{encode_utf8_all, string_bytes}
use Rattle.std.specs.Str.{bytes_eq}
use Rattle.std.proofs.lemmas.Slice.Eq.{bytes_eq-Decides}
use Rattle.dom_nodes.specs.declared.name.Attr.{Attr as TheAttr}
use Rattle.dom_nodes.specs.declared.name.Namespace.{Namespace}
use Rattle.page_tokens.specs.Standard.{AreAttrs, IsTag}
use Rattle.page_tokens.specs.declared.attribute.TagAttr.{TagAttr}
use Rattle.page_tokens.specs.declared.token.Tag.{Tag}
use Rattle.standard_tokens.specs.Entries.{Ending, Starting, TagKind}
use Rattle.standard_tokens.specs.Machine.{Tag as StandardTag, distinct, token_of}
use Rattle.standard_tokens.specs.Tokens.{AStart, AnEnd, Attr}
use Rattle.standard_trees.specs.Building.{token_attrs}
use Rattle.standard_trees.specs.GrowingTree.{GrowingTree, current, has_value, inserted_at, is_among, kind_of}
use Rattle.standard_trees.specs.GrowingTree.{is_one as is_one_of}
use Rattle.standard_trees.specs.NameLists.{html_encodings}
use Rattle.standard_trees.specs.TreeStore.{Kind, NoSpace, NodeAttr, Place, Space, is_member, key_in, key_of}
use Rattle.page_trees.specs.Foreign.{attr_in, html_local}
use Rattle.page_trees.specs.Names.{name_of, text_of}
use Rattle.page_trees.specs.SameNodes.{attr_for}
use Rattle.page_trees.specs.Stands.{IsTagName, IsTagOf}
use Rattle.page_trees.specs.declared.name.Name.{Name}
use Rattle.page_trees.specs.declared.stack.ElementNamespace.{ElementNamespace}
use Rattle.page_trees.proofs.ActionsOnNodes.{created_kind}
use Rattle.page_trees.proofs.BuiltNodes.{inserted_is, made_kind}
use Rattle.page_trees.proofs.StandingNames.{text_again}

-- ---- HTML elements

abbrev plain : Attr → NodeAttr
plain a = record { space = NoSpace; name = a.name; value = a.value }

abbrev without_space : List ℕ → List ℕ → TheAttr
without_space name value = record { name = record { prefix = None; ns = Namespace.None; local = name }; value = value }

attrs_are : (ones : List TagAttr) (others : List Attr) → AreAttrs ones others → map (attr_in ElementNamespace.Html) ones ≡ map attr_for (map plain others)
attrs_are [] [] are = refl
attrs_are [] (other ∷ others) are = absurd are
attrs_are (one ∷ ones) [] are = absurd are
attrs_are (one ∷ ones) (other ∷ others) are =
    ap (λ (name : List ℕ). without_space name (string_bytes one.value) ∷ map (attr_in ElementNamespace.Html) ones) are.0.name
    ∙ ap (λ (value : List ℕ). without_space (encode_utf8_all other.name) value ∷ map (attr_in ElementNamespace.Html) ones) are.0.value
    ∙ ap (λ (rest : List TheAttr). attr_for (plain other) ∷ rest) (attrs_are ones others are.1)

abbrev is_img : Name → Bool
is_img Name.Img = true
is_img _ = false

local_is : (name : Name) (text : List ℕ) → (name ≡ Name.Img → text ≡ codes "img") → html_local name text ≡ text
local_is Name.Img text image = sym (image refl)
local_is _ text image = refl

image_text : (written : List ℕ) → name_of written ≡ Name.Img → encode_utf8_all written ≡ codes "img"
unfolding lib.Utf8.encode
image_text written is = elim (text_again written) [
  | inl other ↦ absurd (true≢false (ap is_img (sym is ∙ other)))
  | inr same ↦ ap encode_utf8_all (sym same ∙ ap text_of is)
]

no_annotation : (written : List ℕ) → is_member 32 written ≡ false → bytes_eq written (codes "math annotation-xml") ≡ false
no_annotation written unspaced = by (bytes_eq written (codes "math annotation-xml")) refl
  where
    by : (b : Bool) → bytes_eq written (codes "math annotation-xml") ≡ b → b ≡ false
    by false e = refl
    by true e = absurd (true≢false (sym (ap (is_member 32) ((bytes_eq-Decides written (codes "math annotation-xml")).0 e)) ∙ unspaced))

-- a tag whose name and attributes are these makes an HTML element
pub html_tag : (name : Name) (tag : Tag) (written : List ℕ) (attrs : List Attr) → IsTagName written → name ≡ name_of written → string_bytes tag.name ≡ encode_utf8_all written →
    AreAttrs tag.attrs.items attrs → IsTagOf ElementNamespace.Html name tag written (map plain attrs)
html_tag name tag written attrs is known spelt are = record {
  tag_name = is;
  known = known;
  local = local_is name (string_bytes tag.name) (λ image. spelt ∙ image_text written (sym known ∙ image)) ∙ spelt;
  spelt = λ other. spelt;
  same_attrs = attrs_are tag.attrs.items attrs are;
  point = sym (ap (λ b. (b || false) && has_value (codes "encoding") html_encodings (map plain attrs)) (no_annotation written is.unspaced));
}

-- the same of the token of a start tag
pub token_tag : (standard : StandardTag) (name : Name) (tag : Tag) → IsTag standard tag → IsTagName standard.name → name ≡ name_of standard.name → standard.kind ≡ Starting →
    IsTagOf ElementNamespace.Html name tag standard.name (token_attrs (token_of standard))
token_tag standard name tag is named known starts =
    subst (IsTagOf ElementNamespace.Html name tag standard.name)
    (sym (ap (λ (kind : TagKind). token_attrs (elim kind [ Starting ↦ AStart standard.name (distinct (reverse standard.attrs)) standard.self_closing | Ending ↦ AnEnd standard.name ])) starts))
    (html_tag name tag standard.name (distinct (reverse standard.attrs)) named known is.name is.attrs)

-- a tag without attributes that is in no text
pub implied_tag : (name : Name) (tag : Tag) (written : List ℕ) → IsTagName written → name ≡ name_of written → string_bytes tag.name ≡ encode_utf8_all written → tag.attrs.items ≡ [] →
    IsTagOf ElementNamespace.Html name tag written []
implied_tag name tag written is known spelt none = html_tag name tag written [] is known spelt (subst (λ (attrs : List TagAttr). AreAttrs attrs []) (sym none) tt)

-- ---- the current node, once an element has been inserted

pub inserted_kind : (spot : Place) (space : Space) (name : List ℕ) (attrs : List NodeAttr) (t : GrowingTree) →
    kind_of (inserted_at spot space name attrs t) (current (inserted_at spot space name attrs t)) ≡ created_kind space name attrs (length t.nodes)
inserted_kind spot space name attrs t =
    ap (λ (u : GrowingTree). kind_of u (current u)) (inserted_is spot space name attrs t) ∙ made_kind (created_kind space name attrs (length t.nodes)) spot t.nodes

pub inserted_one : (names : List (List ℕ)) (spot : Place) (space : Space) (name : List ℕ) (attrs : List NodeAttr) (t : GrowingTree) →
    is_one_of (inserted_at spot space name attrs t) names (current (inserted_at spot space name attrs t)) ≡ is_among (key_of space name) names
inserted_one names spot space name attrs t = ap (λ (kind : Kind). is_among (key_in kind) names) (inserted_kind spot space name attrs t)
