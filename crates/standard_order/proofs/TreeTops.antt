-- What is done to the tree leaves the children of the Document as they are: nothing is put into it, and none of them is moved.
use Rattle.std.specs.Prelude.{◌≡◌, ◌&&◌, ◌||◌, refl, ℕ, zero, suc, Bool, true, false, not, List, [], ◌∷◌, ◌++◌, Option, None, Some, codes, drop}
use Rattle.std.specs.Prelude.{bytes_eq, cond, length, reverse, unwrap_or}
use Rattle.std.specs.List.{list_all}
use Rattle.std.proofs.lemmas.Slice.Eq.{bytes_eq-Decides}
use mathlib.Core.Path.{◌∙◌, sym, ap, subst}
use Rattle.standard_trees.specs.NameLists.{fostering_names}
use Rattle.standard_trees.specs.TreeStore.{Before, CommentNode, ContentsNode, DoctypeNode, DocumentNode, ElementNode, EndOf, Html, Kind, MathMl}
use Rattle.standard_trees.specs.TreeStore.{Node, NodeAttr, Place, Space, Svg, TextNode, changed_at, contents_in, is_document as is_document_kind, key_in}
use Rattle.standard_trees.specs.TreeStore.{leaf, node_at, node_before, parent_of, put_at, removed, text_in, without}
use Rattle.standard_trees.specs.GrowingTree.{GrowingTree, beyond, created, created_at, created_element, current, foster_place, fresh, in_contents}
use Rattle.standard_trees.specs.GrowingTree.{inserted, inserted_at, is_among, is_one, is_template, kind_of, merged_into, past, place, place_in, place_is_document}
use Rattle.standard_trees.specs.GrowingTree.{pushed, put, text_behind, top, with_char, with_chars, with_comment, with_stack, with_text}
use Rattle.standard_trees.specs.Formatting.{attrs_of, closed_entries, local_of, reconstructed, reopened}
use Rattle.standard_order.proofs.Labels.{Is as IsAt, kind_at, labels, other_than, weaker_at}
use Rattle.standard_order.proofs.StandingStacks.{both, fewer, fixed, loose, never}
use Rattle.standard_order.proofs.NodeTags.{Cls, CommentC, ContentsC, DocC, DoctypeC, HtmlC, Keeps, NoC, Tag, TextC, class_at, class_kept, class_passes}
use Rattle.standard_order.proofs.NodeTags.{classes, is_element, is_there, keeps_more, kind_class, last_tag, name_class, none_past, other_classes, tag_at}
use Rattle.standard_order.proofs.NodeTags.{tag_of, tag_there, tags, tags_attrs, tags_more, tags_put, tags_text, there}
use Rattle.standard_order.proofs.NodeKids.{AllThere, all_joined, all_weaker, all_without, counted, counted_joined, counted_member, kids, kids_at, kids_removed}
use Rattle.standard_order.proofs.NodeKids.{parent_document, target}
use Rattle.standard_order.proofs.NodeTops.{AllTop, Contents, Same, Stage, Top, all_top, is_counted, is_top, kids_leaf, same_both, same_element, same_element_at}
use Rattle.standard_order.proofs.NodeTops.{same_kind, same_leaf, same_leaf_at, same_nodes, same_removed, still_top, zero_there}

abbrev pub Elements : List Tag → List ℕ → Type 0
Elements ts ns = list_all (λ n. is_element (class_at ts n)) ns ≡ true

-- the Document's children, and that only elements are open
pub record Doc (stage : Stage) (t : GrowingTree) : Type 0 where
  pub top : Top stage t.nodes
  pub open_ : Elements (tags t.nodes) t.stack

abbrev pub Filled : List ℕ → Type 0
Filled s = s ≡ [] → ⊥

-- ---- elements

-- other elements than `html`
abbrev pub is_movable : Cls → Bool
is_movable NoC = false
is_movable DocC = false
is_movable DoctypeC = false
is_movable CommentC = false
is_movable TextC = false
is_movable ContentsC = false
is_movable HtmlC = false
is_movable _ = true

pub movable_element : (c : Cls) → is_movable c ≡ true → is_element c ≡ true
movable_element NoC h = never h
movable_element DocC h = never h
movable_element DoctypeC h = never h
movable_element CommentC h = never h
movable_element TextC h = never h
movable_element ContentsC h = never h
movable_element HtmlC h = never h
movable_element _ h = refl

pub movable_top : (c : Cls) → is_movable c ≡ true → is_top c ≡ false
movable_top NoC h = never h
movable_top DocC h = never h
movable_top DoctypeC h = never h
movable_top CommentC h = never h
movable_top TextC h = never h
movable_top ContentsC h = never h
movable_top HtmlC h = never h
movable_top _ h = refl

element_counted : (c : Cls) → is_element c ≡ true → is_counted c ≡ true
element_counted CommentC h = never h
element_counted _ h = refl

pub name_element : (name : List ℕ) → is_element (name_class name) ≡ true
name_element name = class_passes is_element name classes refl

other_name : (name : List ℕ) → not (is_among name (codes "html" ∷ [])) ≡ true → is_movable (name_class name) ≡ true
other_name name h = by (is_among name (codes "html" ∷ [])) h
  where
    by : (x : Bool) → not x ≡ true → is_movable (elim x as (λ _. Cls) [
      | true ↦ HtmlC
      | false ↦ Rattle.standard_order.proofs.NodeTags.class_in other_classes name
    ]) ≡ true
    by true e = cc
    by false e = class_passes is_movable name other_classes refl

pub name_movable : (name : List ℕ) → not (is_among name fixed) ≡ true → is_movable (name_class name) ≡ true
name_movable name h = other_name name (fewer name (codes "html" ∷ []) fixed refl h)

-- an open element that the levels tell from `html`
other_kind : (kind : Kind) → not (is_among (key_in kind) (codes "html" ∷ [])) ≡ true → is_element (kind_class kind) ≡ true →
    is_movable (kind_class kind) ≡ true
other_kind (ElementNode Html name attrs contents) h e = other_name name h
other_kind (ElementNode Svg name attrs contents) h e = refl
other_kind (ElementNode MathMl name attrs contents) h e = refl
other_kind (TextNode text) h e = never e
other_kind (CommentNode text) h e = never e
other_kind (DoctypeNode d) h e = never e
other_kind DocumentNode h e = never e
other_kind ContentsNode h e = never e

pub other_movable : (nodes : List Node) (n : ℕ) → IsAt (other_than (codes "html" ∷ [])) (labels nodes) n → is_element (class_at (tags nodes) n) ≡ true →
    is_movable (class_at (tags nodes) n) ≡ true
other_movable nodes n l e =
    let same : tag_at (tags nodes) n ≡ tag_of (node_at nodes n).kind = tag_there nodes n (there is_element refl (class_at (tags nodes) n) e) in
    subst (λ t. is_movable t.cls ≡ true) (sym same)
    (other_kind (node_at nodes n).kind (kind_at (other_than (codes "html" ∷ [])) nodes n l) (subst (λ t. is_element t.cls ≡ true) same e))

pub loose_movable : (nodes : List Node) (n : ℕ) → IsAt loose (labels nodes) n → is_element (class_at (tags nodes) n) ≡ true →
    is_movable (class_at (tags nodes) n) ≡ true
loose_movable nodes n l e =
    other_movable nodes n (weaker_at loose (other_than (codes "html" ∷ [])) (λ one h. fewer one.name (codes "html" ∷ []) fixed refl h) (labels nodes) n l) e

pub elements_kept : (ts us : List Tag) → Keeps ts us → (ns : List ℕ) → Elements ts ns → Elements us ns
elements_kept ts us keeps ns h =
    all_weaker (λ n. is_element (class_at ts n)) (λ n. is_element (class_at us n)) (λ n k. class_kept is_element refl ts us keeps n k) ns h

pub doc_nodes : (stage : Stage) (t : GrowingTree) (nodes : List Node) → Same t.nodes nodes → Doc stage t → Doc stage (record t { nodes = nodes })
doc_nodes stage t nodes same doc = record {
  top = same.top stage doc.top;
  open_ = elements_kept (tags t.nodes) (tags nodes) same.keeps t.stack doc.open_;
}

pub doc_stack : (stage : Stage) (t : GrowingTree) (s : List ℕ) → Elements (tags t.nodes) s → Doc stage t → Doc stage (with_stack t s)
doc_stack stage t s h doc = record { top = doc.top; open_ = h }

-- ---- places

-- the Document is no element
pub element_off : (stage : Stage) (nodes : List Node) (n : ℕ) → Top stage nodes → is_element (class_at (tags nodes) n) ≡ true → n ≡ 0 → ⊥
element_off stage nodes n h e zero_is = clash (class_at (tags nodes) 0) h.doc (subst (λ i. is_element (class_at (tags nodes) i) ≡ true) zero_is e)
  where
    clash : (c : Cls) → c ≡ DocC → is_element c ≡ true → ⊥
    clash c f k = never (sym (ap is_element f) ∙ k)

pub held_is : (nodes : List Node) (n k : ℕ) → contents_in (node_at nodes n).kind ≡ Some k → (tag_at (tags nodes) n).held ≡ Some k
held_is [] n k e = cc
held_is (node ∷ nodes) zero k e = e
held_is (node ∷ nodes) (suc n) k e = held_is nodes n k e

pub contents_off : (stage : Stage) (t : GrowingTree) → Doc stage t → (n k : ℕ) → contents_in (kind_of t n) ≡ Some k → k ≡ 0 → ⊥
contents_off stage t doc n k e zero_is =
    clash (class_at (tags t.nodes) 0) doc.top.doc
    (subst (λ i. class_at (tags t.nodes) i ≡ ContentsC) zero_is (doc.top.contents n k (held_is t.nodes n k e)))
  where
    clash : (c : Cls) → c ≡ DocC → c ≡ ContentsC → ⊥
    clash c f g = never (ap is_document (sym g ∙ f))
      where
        is_document : Cls → Bool
        is_document ContentsC = false
        is_document _ = true

pub in_contents_off : (stage : Stage) (t : GrowingTree) → Doc stage t → (spot : Place) → (target spot ≡ 0 → ⊥) → target (in_contents t spot) ≡ 0 → ⊥
in_contents_off stage t doc (EndOf p) off = by (contents_in (kind_of t p)) refl
  where
    by : (o : Option ℕ) → contents_in (kind_of t p) ≡ o → unwrap_or o p ≡ 0 → ⊥
    by None e = off
    by (Some k) e = contents_off stage t doc p k e
in_contents_off stage t doc (Before p m) off = by (contents_in (kind_of t p)) refl
  where
    by : (o : Option ℕ) → contents_in (kind_of t p) ≡ o → target (elim o as (λ _. Place) [ Some k ↦ EndOf k | None ↦ Before p m ]) ≡ 0 → ⊥
    by None e = off
    by (Some k) e = contents_off stage t doc p k e

-- an element `table` is no child of the Document
table_kind : (kind : Kind) → is_among (key_in kind) (codes "table" ∷ []) ≡ true → is_top (kind_class kind) ≡ true → ⊥
table_kind (ElementNode Html name attrs contents) h e = by (bytes_eq name (codes "table")) refl h
  where
    by : (x : Bool) → bytes_eq name (codes "table") ≡ x → x || false ≡ true → ⊥
    by true f k = never (subst (λ n. is_top (name_class n) ≡ true) ((bytes_eq-Decides name (codes "table")).0 f) e)
    by false f k = never k
table_kind (ElementNode Svg name attrs contents) h e = never e
table_kind (ElementNode MathMl name attrs contents) h e = never e
table_kind (TextNode text) h e = never e
table_kind (CommentNode text) h e = never e
table_kind (DoctypeNode d) h e = never h
table_kind DocumentNode h e = never e
table_kind ContentsNode h e = never e

table_off : (stage : Stage) (t : GrowingTree) (n p : ℕ) → Doc stage t → is_element (class_at (tags t.nodes) n) ≡ true →
    is_one t (codes "table" ∷ []) n ≡ true → parent_of t.nodes n ≡ Some p → p ≡ 0 → ⊥
table_off stage t n p doc e one parent zero_is =
    table_kind (kind_of t n) one (subst (λ u. is_top u.cls ≡ true) (tag_there t.nodes n (there is_element refl (class_at (tags t.nodes) n) e))
    (counted_member is_counted (tags t.nodes) (λ i. is_top (class_at (tags t.nodes) i)) n (kids t.nodes 0)
    (parent_document n t.nodes (subst (λ i. parent_of t.nodes n ≡ Some i) zero_is parent))
    (element_counted (class_at (tags t.nodes) n) e) (all_top stage (tags t.nodes) (counted is_counted (tags t.nodes) (kids t.nodes 0)) doc.top.form)))

foster_off : (stage : Stage) (t : GrowingTree) → Doc stage t → (s : List ℕ) → Filled s → Elements (tags t.nodes) s → target (foster_place t s) ≡ 0 → ⊥
foster_off stage t doc [] filled h zero_is = filled refl
foster_off stage t doc (n ∷ []) filled h zero_is =
    element_off stage t.nodes n doc.top (both (is_element (class_at (tags t.nodes) n)) true h).0 zero_is
foster_off stage t doc (n ∷ m ∷ ns) filled h zero_is =
    by (is_one t (codes "template" ∷ []) n) (is_one t (codes "table" ∷ []) n) (parent_of t.nodes n) refl refl
    (foster_off stage t doc (m ∷ ns) some two.1) zero_is
  where
    two : (is_element (class_at (tags t.nodes) n) ≡ true) × Elements (tags t.nodes) (m ∷ ns)
    two = both (is_element (class_at (tags t.nodes) n)) (list_all (λ i. is_element (class_at (tags t.nodes) i)) (m ∷ ns)) h

    some : Filled (m ∷ ns)
    some e = cc

    by : (x y : Bool) (o : Option ℕ) → is_one t (codes "table" ∷ []) n ≡ y → parent_of t.nodes n ≡ o →
        (target (foster_place t (m ∷ ns)) ≡ 0 → ⊥) →
        target (elim x as (λ _. Place) [
          | true ↦ EndOf n
          | false ↦ elim y as (λ _. Place) [
            | true ↦ elim o as (λ _. Place) [ Some p ↦ Before p n | None ↦ EndOf m ]
            | false ↦ foster_place t (m ∷ ns)
          ]
        ]) ≡ 0 → ⊥
    by true y o e f rest z = element_off stage t.nodes n doc.top two.0 z
    by false true (Some p) e f rest z = table_off stage t n p doc two.0 e f z
    by false true None e f rest z =
        element_off stage t.nodes m doc.top (both (is_element (class_at (tags t.nodes) m)) (list_all (λ i. is_element (class_at (tags t.nodes) i)) ns) two.1).0 z
    by false false o e f rest z = rest z

pub place_off : (stage : Stage) (t : GrowingTree) (x : ℕ) → Doc stage t → Filled t.stack → is_element (class_at (tags t.nodes) x) ≡ true →
    target (place_in t x) ≡ 0 → ⊥
place_off stage t x doc filled e =
    in_contents_off stage t doc (elim (t.fostering && is_one t fostering_names x) as (λ _. Place) [ true ↦ foster_place t t.stack | false ↦ EndOf x ])
    (by (t.fostering && is_one t fostering_names x))
  where
    by : (y : Bool) → target (elim y as (λ _. Place) [ true ↦ foster_place t t.stack | false ↦ EndOf x ]) ≡ 0 → ⊥
    by true = foster_off stage t doc t.stack filled doc.open_
    by false = element_off stage t.nodes x doc.top e

pub first_element : (ts : List Tag) (s : List ℕ) → Filled s → Elements ts s → is_element (class_at ts (top s)) ≡ true
first_element ts [] filled h = absurd (filled refl)
first_element ts (n ∷ ns) filled h = (both (is_element (class_at ts n)) (list_all (λ i. is_element (class_at ts i)) ns) h).0

pub current_off : (stage : Stage) (t : GrowingTree) → Doc stage t → Filled t.stack → target (place t) ≡ 0 → ⊥
current_off stage t doc filled = place_off stage t (current t) doc filled (first_element (tags t.nodes) t.stack filled doc.open_)

-- ---- characters

document_class : (kind : Kind) → kind_class kind ≡ DocC → is_document_kind kind ≡ true
document_class (ElementNode Html name attrs contents) h = never (sym (ap is_element h) ∙ name_element name)
document_class (ElementNode Svg name attrs contents) h = cc
document_class (ElementNode MathMl name attrs contents) h = cc
document_class (TextNode text) h = cc
document_class (CommentNode text) h = cc
document_class (DoctypeNode d) h = cc
document_class DocumentNode h = refl
document_class ContentsNode h = cc

pub document_kind : (stage : Stage) (t : GrowingTree) → Doc stage t → is_document_kind (kind_of t 0) ≡ true
document_kind stage t doc =
    document_class (kind_of t 0) (sym (ap (λ u. u.cls) (tag_there t.nodes 0 (zero_there stage t.nodes doc.top))) ∙ doc.top.doc)

pub no_document : (stage : Stage) (t : GrowingTree) → Doc stage t → (spot : Place) → place_is_document t spot ≡ false → target spot ≡ 0 → ⊥
no_document stage t doc (EndOf p) e zero_is =
    never (sym (subst (λ i. is_document_kind (kind_of t i) ≡ false) zero_is e) ∙ document_kind stage t doc)
no_document stage t doc (Before p m) e zero_is =
    never (sym (subst (λ i. is_document_kind (kind_of t i) ≡ false) zero_is e) ∙ document_kind stage t doc)

pub doc_leaf : (stage : Stage) (t : GrowingTree) (spot : Place) (kind : Kind) → (target spot ≡ 0 → ⊥) → contents_in kind ≡ None → Doc stage t →
    Doc stage (created_at spot kind t)
doc_leaf stage t spot kind off none doc =
    doc_nodes stage t (put_at (length t.nodes) spot (t.nodes ++ leaf kind ∷ [])) (same_leaf_at kind spot t.nodes off none) doc

pub doc_char : (stage : Stage) (c : ℕ) (t : GrowingTree) → Doc stage t → Doc stage (with_char c t)
doc_char stage c t doc = by (place_is_document t (place t)) refl
  where
    in_text : (n : ℕ) → (target (place t) ≡ 0 → ⊥) → (o : Option (List ℕ)) → text_in (kind_of t n) ≡ o →
        Doc stage (elim o as (λ _. GrowingTree) [
          | Some text ↦ with_text t n (text ++ c ∷ [])
          | None ↦ created_at (place t) (TextNode (c ∷ [])) t
        ])
    in_text n off (Some text) e =
        doc_nodes stage t (changed_at (λ node. record node { kind = TextNode (text ++ c ∷ []) }) t.nodes n)
        (same_kind (λ node. record node { kind = TextNode (text ++ c ∷ []) }) t.nodes n (λ node. refl) (tags_text text (text ++ c ∷ []) t.nodes n e)) doc
    in_text n off None e = doc_leaf stage t (place t) (TextNode (c ∷ [])) off refl doc

    behind : (o : Option ℕ) → (target (place t) ≡ 0 → ⊥) → Doc stage (text_behind o (place t) c t)
    behind None off = doc_leaf stage t (place t) (TextNode (c ∷ [])) off refl doc
    behind (Some n) off = in_text n off (text_in (kind_of t n)) refl

    by : (x : Bool) → place_is_document t (place t) ≡ x → Doc stage (elim x as (λ _. GrowingTree) [
      | true ↦ t
      | false ↦ text_behind (node_before t.nodes (place t)) (place t) c t
    ])
    by true e = doc
    by false e = behind (node_before t.nodes (place t)) (no_document stage t doc (place t) e)

pub doc_chars : (stage : Stage) (cs : List ℕ) (t : GrowingTree) → Doc stage t → Doc stage (with_chars cs t)
doc_chars stage [] t doc = doc
doc_chars stage (c ∷ cs) t doc = doc_chars stage cs (with_char c t) (doc_char stage c t doc)

-- ---- comments in the Document

pub same_comment : (text : List ℕ) (nodes : List Node) → Same nodes (put_at (length nodes) (EndOf 0) (nodes ++ leaf (CommentNode text) ∷ []))
same_comment text nodes = record {
  keeps = (same_both nodes mid new (same_leaf (CommentNode text) nodes refl) (record {
    keeps = Rattle.standard_order.proofs.NodeTags.keeps_same (tags mid) (tags new) tags_are;
    top = λ stage h. later stage h;
  })).keeps;
  top = λ stage h. wholly stage h;
}
  where
    mid : List Node
    mid = nodes ++ leaf (CommentNode text) ∷ []

    new : List Node
    new = put_at (length nodes) (EndOf 0) mid

    tags_are : tags new ≡ tags mid
    tags_are = tags_put (length nodes) (EndOf 0) mid

    last : tag_at (tags mid) (length nodes) ≡ tag_of (CommentNode text)
    last = ap (λ ts. tag_at ts (length nodes)) (tags_more nodes (leaf (CommentNode text) ∷ [])) ∙
        last_tag (tags nodes) (tag_of (CommentNode text)) nodes refl

    kids_removed_at : (stage : Stage) → Top stage mid → kids new 0 ≡ without (length nodes) (kids mid 0) ++ length nodes ∷ []
    kids_removed_at stage h =
        kids_at (λ node. record node { children = node.children ++ length nodes ∷ [] }) (removed (length nodes) mid) 0
        (subst (λ ts. is_there (class_at ts 0) ≡ true) (sym (Rattle.standard_order.proofs.NodeTags.tags_removed (length nodes) mid)) (zero_there stage mid h))
        ∙ ap (λ ns. ns ++ length nodes ∷ []) (kids_removed (length nodes) mid 0)

    uncounted : (ns : List ℕ) → counted is_counted (tags mid) (ns ++ length nodes ∷ []) ≡ counted is_counted (tags mid) ns
    uncounted ns =
        counted_joined is_counted (tags mid) ns (length nodes ∷ [])
        ∙ ap (λ t. counted is_counted (tags mid) ns ++ cond (is_counted t.cls) (length nodes ∷ []) []) last ∙ nothing (counted is_counted (tags mid) ns)
      where
        nothing : (ms : List ℕ) → ms ++ [] ≡ ms
        nothing [] = refl
        nothing (m ∷ ms) = ap (λ q. m ∷ q) (nothing ms)

    is_last_there : is_there (class_at (tags mid) (length nodes)) ≡ true
    is_last_there = ap (λ t. is_there t.cls) last

    off : is_top (class_at (tags mid) (length nodes)) ≡ false
    off = ap (λ t. is_top t.cls) last

    later : (stage : Stage) → Top stage mid → Top stage new
    later stage h =
        still_top stage mid new (Rattle.standard_order.proofs.NodeTags.keeps_same (tags mid) (tags new) tags_are)
        (ap (λ ts. counted is_counted ts (kids new 0)) tags_are ∙ ap (counted is_counted (tags mid)) (kids_removed_at stage h)
        ∙ uncounted (without (length nodes) (kids mid 0))
        ∙ Rattle.standard_order.proofs.NodeTops.without_top (tags mid) (length nodes) (kids mid 0) off (all_top stage (tags mid) (counted is_counted (tags mid) (kids mid 0)) h.form))
        (subst (λ ts. AllThere ts (kids new 0)) (sym tags_are) (subst (AllThere (tags mid)) (sym (kids_removed_at stage h))
        (all_joined (λ c. is_there (class_at (tags mid) c)) (without (length nodes) (kids mid 0)) (length nodes ∷ [])
        (all_without (λ c. is_there (class_at (tags mid) c)) (length nodes) (kids mid 0) h.valid) (ap (λ x. x && true) is_last_there))))
        (subst Contents (sym tags_are) h.contents) h

    wholly : (stage : Stage) → Top stage nodes → Top stage new
    wholly stage h = later stage ((same_leaf (CommentNode text) nodes refl).top stage h)

pub doc_comment_in : (stage : Stage) (text : List ℕ) (t : GrowingTree) → Doc stage t → Doc stage (with_comment text (EndOf 0) t)
doc_comment_in stage text t doc =
    doc_nodes stage t (put_at (length t.nodes) (EndOf 0) (t.nodes ++ leaf (CommentNode text) ∷ [])) (same_comment text t.nodes) doc

-- ---- elements that are inserted

pub element_class : (space : Space) (name : List ℕ) (attrs : List NodeAttr) (contents : Option ℕ) → is_element (kind_class (ElementNode space name attrs contents)) ≡ true
element_class Html name attrs contents = name_element name
element_class Svg name attrs contents = refl
element_class MathMl name attrs contents = refl

pub fresh_passes : (test : Cls → Bool) → test NoC ≡ false → (space : Space) (name : List ℕ) (attrs : List NodeAttr) →
    ((contents : Option ℕ) → test (kind_class (ElementNode space name attrs contents)) ≡ true) → (t : GrowingTree) →
    test (class_at (tags (created_element space name attrs t).nodes) (fresh t)) ≡ true
fresh_passes test off space name attrs passes t = by (is_template space name)
  where
    last : (kind : Kind) → test (kind_class kind) ≡ true → test (class_at (tags (t.nodes ++ leaf kind ∷ [])) (fresh t)) ≡ true
    last kind e = subst (λ u. test u.cls ≡ true) (sym (ap (λ ts. tag_at ts (fresh t)) (tags_more t.nodes (leaf kind ∷ [])) ∙
        last_tag (tags t.nodes) (tag_of kind) t.nodes refl)) e

    by : (x : Bool) → test (class_at (tags (elim x as (λ _. GrowingTree) [
      | true ↦ created ContentsNode (created (ElementNode space name attrs (Some (suc (fresh t)))) t)
      | false ↦ created (ElementNode space name attrs None) t
    ]).nodes) (fresh t)) ≡ true
    by true = subst (λ ts. test (class_at ts (fresh t)) ≡ true) (sym (tags_more first (leaf ContentsNode ∷ [])))
        (class_kept test off (tags first) (tags first ++ tags (leaf ContentsNode ∷ [])) (keeps_more (tags first) (tags (leaf ContentsNode ∷ []))) (fresh t)
        (last (ElementNode space name attrs (Some (suc (fresh t)))) (passes (Some (suc (fresh t))))))
      where
        first : List Node
        first = t.nodes ++ leaf (ElementNode space name attrs (Some (suc (fresh t)))) ∷ []
    by false = last (ElementNode space name attrs None) (passes None)

pub fresh_element : (space : Space) (name : List ℕ) (attrs : List NodeAttr) (t : GrowingTree) →
    is_element (class_at (tags (created_element space name attrs t).nodes) (fresh t)) ≡ true
fresh_element space name attrs t = fresh_passes is_element refl space name attrs (λ contents. element_class space name attrs contents) t

pub created_only : (space : Space) (name : List ℕ) (attrs : List NodeAttr) (t : GrowingTree) →
    created_element space name attrs t ≡ record t { nodes = (created_element space name attrs t).nodes }
created_only space name attrs t = by (is_template space name)
  where
    abbrev_made : Bool → GrowingTree
    abbrev_made x = elim x as (λ _. GrowingTree) [
      | true ↦ created ContentsNode (created (ElementNode space name attrs (Some (suc (fresh t)))) t)
      | false ↦ created (ElementNode space name attrs None) t
    ]

    by : (x : Bool) → abbrev_made x ≡ record t { nodes = (abbrev_made x).nodes }
    by true = refl
    by false = refl

pub doc_inserted_at : (stage : Stage) (spot : Place) (space : Space) (name : List ℕ) (attrs : List NodeAttr) (t : GrowingTree) →
    (target spot ≡ 0 → ⊥) → Doc stage t → Doc stage (inserted_at spot space name attrs t)
doc_inserted_at stage spot space name attrs t off doc =
    subst (λ (made : GrowingTree). Doc stage (pushed (fresh t) (put (fresh t) spot made))) (sym (created_only space name attrs t)) (record {
      top = same.top stage doc.top;
      open_ = ap (λ x. x && list_all (λ n. is_element (class_at (tags nodes) n)) t.stack) new ∙ elements_kept (tags t.nodes) (tags nodes) same.keeps t.stack doc.open_;
    })
  where
    nodes : List Node
    nodes = put_at (fresh t) spot (created_element space name attrs t).nodes

    same : Same t.nodes nodes
    same = same_element_at spot space name attrs t off

    new : is_element (class_at (tags nodes) (fresh t)) ≡ true
    new = subst (λ ts. is_element (class_at ts (fresh t)) ≡ true) (sym (tags_put (fresh t) spot (created_element space name attrs t).nodes))
        (fresh_element space name attrs t)

pub doc_inserted : (stage : Stage) (space : Space) (name : List ℕ) (attrs : List NodeAttr) (t : GrowingTree) → Filled t.stack → Doc stage t →
    Doc stage (inserted space name attrs t)
doc_inserted stage space name attrs t filled doc = doc_inserted_at stage (place t) space name attrs t (current_off stage t doc filled) doc

pub filled_inserted : (space : Space) (name : List ℕ) (attrs : List NodeAttr) (t : GrowingTree) → Filled (inserted space name attrs t).stack
filled_inserted space name attrs t e = cc

doc_reopened : (stage : Stage) (ns : List ℕ) (t : GrowingTree) → Filled t.stack → Doc stage t → Doc stage (reopened ns t)
doc_reopened stage [] t filled doc = doc
doc_reopened stage (n ∷ ns) t filled doc =
    let after : Doc stage (inserted Html (local_of t n) (attrs_of t n) t) = doc_inserted stage Html (local_of t n) (attrs_of t n) t filled doc in
    doc_reopened stage ns _ (filled_inserted Html (local_of t n) (attrs_of t n) t) (record { top = after.top; open_ = after.open_ })

pub doc_reconstructed : (stage : Stage) (t : GrowingTree) → Filled t.stack → Doc stage t → Doc stage (reconstructed t)
doc_reconstructed stage t filled doc =
    doc_reopened stage (reverse (closed_entries t.stack t.listed)) (record t { listed = drop (length (closed_entries t.stack t.listed)) t.listed }) filled
    (record { top = doc.top; open_ = doc.open_ })

pub doc_merged : (stage : Stage) (o : Option ℕ) (new : List NodeAttr) (t : GrowingTree) → Doc stage t → Doc stage (merged_into o new t)
doc_merged stage None new t doc = doc
doc_merged stage (Some n) new t doc =
    doc_nodes stage t (merged_into (Some n) new t).nodes (same_kind (λ node. record node {
      kind = Rattle.standard_trees.specs.GrowingTree.with_attrs new node.kind;
    }) t.nodes n (λ node. refl) (tags_attrs new t.nodes n)) doc

-- ---- elements that are popped

pub elements_past : (ts : List Tag) (test : ℕ → Bool) (s : List ℕ) → Elements ts s → Elements ts (past test s)
elements_past ts test [] h = refl
elements_past ts test (n ∷ ns) h = by (test n) (both (is_element (class_at ts n)) _ h).1 (elements_past ts test ns (both (is_element (class_at ts n)) _ h).1)
  where
    by : (x : Bool) → Elements ts ns → Elements ts (past test ns) → Elements ts (elim x as (λ _. List ℕ) [ true ↦ ns | false ↦ past test ns ])
    by true a b = a
    by false a b = b

pub elements_beyond : (ts : List Tag) (test : ℕ → Bool) (s : List ℕ) → Elements ts s → Elements ts (beyond test s)
elements_beyond ts test [] h = refl
elements_beyond ts test (n ∷ ns) h = by (test n) (elements_beyond ts test ns (both (is_element (class_at ts n)) _ h).1)
  where
    by : (x : Bool) → Elements ts (beyond test ns) → Elements ts (elim x as (λ _. List ℕ) [ true ↦ beyond test ns | false ↦ n ∷ ns ])
    by true a = a
    by false a = h

pub elements_without : (ts : List Tag) (m : ℕ) (s : List ℕ) → Elements ts s → Elements ts (without m s)
elements_without ts m s h = all_without (λ n. is_element (class_at ts n)) m s h

pub elements_dropped : (ts : List Tag) (s : List ℕ) → Elements ts s → Elements ts (drop 1 s)
elements_dropped ts [] h = refl
elements_dropped ts (n ∷ ns) h = (both (is_element (class_at ts n)) (list_all (λ i. is_element (class_at ts i)) ns) h).1
