-- In the modes of the body: characters, comments and attributes, elements that are opened again, and ordinary elements that are popped.
use Rattle.std.specs.Prelude.{◌≡◌, refl, ℕ, zero, suc, Bool, true, false, not, List, [], ◌∷◌, ◌++◌, Option, None, Some, drop, filter, length, nat_eq}
use Rattle.std.specs.Prelude.{cond}
use mathlib.Core.List.{reverse_aux}
use mathlib.Core.Path.{subst}
use Rattle.standard_trees.specs.TreeStore.{CommentNode, ElementNode, EndOf, Html, Kind, MathMl, Node, NodeAttr, Place, Svg, TextNode, changed_at, key_in, leaf}
use Rattle.standard_trees.specs.TreeStore.{local_in, node_before, put_at, text_in, without}
use Rattle.standard_trees.specs.GrowingTree.{Entry, FormPointer, Formatting, GrowingTree, Marker, created_at}
use Rattle.standard_trees.specs.GrowingTree.{kind_of, merged_into, place, place_is_document}
use Rattle.standard_trees.specs.GrowingTree.{text_behind, with_attrs, with_char, with_chars, with_comment, with_text}
use Rattle.standard_trees.specs.Formatting.{closed_entries, is_entry, local_of, unlisted}
use Rattle.standard_order.proofs.Labels.{Grows, kind_at, labels}
use Rattle.standard_order.proofs.StandingStacks.{never}
use Rattle.standard_order.proofs.GoodTrees.{held}
use Rattle.standard_order.proofs.NodeTags.{Keeps, Tag, class_at, class_kept, kind_class, name_class, tag_there, tags, tags_attrs}
use Rattle.standard_order.proofs.NodeTags.{tags_text, there}
use Rattle.standard_order.proofs.NodeKids.{target}
use Rattle.standard_order.proofs.NodeTops.{same_leaf_at}
use Rattle.standard_order.proofs.TreeTops.{no_document, same_comment}
use Rattle.standard_order.proofs.Chains.{Site, is_plain}
use Rattle.standard_order.proofs.PartTrees.{In, PlainForm, PlainFound, PlainListed, cls, doc_in, in_nodes, parts_for, step_kind}
use Rattle.standard_order.proofs.PartTrees.{step_leaf}

-- ---- characters, comments, attributes

pub in_leaf : (r : ℕ) (c : Site) (t : GrowingTree) (text : List ℕ) (spot : Place) → (target spot ≡ 0 → ⊥) → In r c t → In r c (created_at spot (TextNode text) t)
in_leaf r c t text spot off i =
    in_nodes r c t (put_at (length t.nodes) spot (t.nodes ++ leaf (TextNode text) ∷ []))
    (step_leaf r (parts_for (cls t)) (TextNode text) spot t.nodes (same_leaf_at (TextNode text) spot t.nodes off refl) refl refl refl refl) i

pub in_char : (r : ℕ) (c : Site) (x : ℕ) (t : GrowingTree) → In r c t → In r c (with_char x t)
in_char r c x t i = by (place_is_document t (place t)) refl
  where
    in_text : (n : ℕ) → (target (place t) ≡ 0 → ⊥) → (o : Option (List ℕ)) → text_in (kind_of t n) ≡ o →
        In r c (elim o as (λ _. GrowingTree) [
          | Some text ↦ with_text t n (text ++ x ∷ [])
          | None ↦ created_at (place t) (TextNode (x ∷ [])) t
        ])
    in_text n off (Some text) e =
        in_nodes r c t (changed_at (λ node. record node { kind = TextNode (text ++ x ∷ []) }) t.nodes n)
        (step_kind r (parts_for (cls t)) (λ node. record node { kind = TextNode (text ++ x ∷ []) }) t.nodes n (λ node. refl)
        (tags_text text (text ++ x ∷ []) t.nodes n e)) i
    in_text n off None e = in_leaf r c t (x ∷ []) (place t) off i

    behind : (o : Option ℕ) → (target (place t) ≡ 0 → ⊥) → In r c (text_behind o (place t) x t)
    behind None off = in_leaf r c t (x ∷ []) (place t) off i
    behind (Some n) off = in_text n off (text_in (kind_of t n)) refl

    by : (y : Bool) → place_is_document t (place t) ≡ y → In r c (elim y as (λ _. GrowingTree) [
      | true ↦ t
      | false ↦ text_behind (node_before t.nodes (place t)) (place t) x t
    ])
    by true e = i
    by false e = behind (node_before t.nodes (place t)) (no_document Rattle.standard_order.proofs.NodeTops.Rooted t (doc_in r c t i) (place t) e)

pub in_chars : (r : ℕ) (c : Site) (xs : List ℕ) (t : GrowingTree) → In r c t → In r c (with_chars xs t)
in_chars r c [] t i = i
in_chars r c (x ∷ xs) t i = in_chars r c xs (with_char x t) (in_char r c x t i)

pub in_comment : (r : ℕ) (c : Site) (text : List ℕ) (spot : Place) (t : GrowingTree) → (target spot ≡ 0 → ⊥) → In r c t → In r c (with_comment text spot t)
in_comment r c text spot t off i =
    in_nodes r c t (put_at (length t.nodes) spot (t.nodes ++ leaf (CommentNode text) ∷ []))
    (step_leaf r (parts_for (cls t)) (CommentNode text) spot t.nodes (same_leaf_at (CommentNode text) spot t.nodes off refl) refl refl refl refl) i

pub in_remark : (r : ℕ) (c : Site) (text : List ℕ) (t : GrowingTree) → In r c t → In r c (with_comment text (EndOf 0) t)
in_remark r c text t i =
    in_nodes r c t (put_at (length t.nodes) (EndOf 0) (t.nodes ++ leaf (CommentNode text) ∷ []))
    (step_leaf r (parts_for (cls t)) (CommentNode text) (EndOf 0) t.nodes (same_comment text t.nodes) refl refl refl refl) i

pub in_merged : (r : ℕ) (c : Site) (o : Option ℕ) (new : List NodeAttr) (t : GrowingTree) → In r c t → In r c (merged_into o new t)
in_merged r c None new t i = i
in_merged r c (Some n) new t i =
    in_nodes r c t (merged_into (Some n) new t).nodes
    (step_kind r (parts_for (cls t)) (λ node. record node { kind = with_attrs new node.kind }) t.nodes n (λ node. refl) (tags_attrs new t.nodes n)) i

-- ---- the list of active formatting elements

pub in_listed : (r : ℕ) (c : Site) (t : GrowingTree) (es : List Entry) → PlainListed (tags t.nodes) es → In r c t → In r c (record t { listed = es })
in_listed r c t es h i = record {
  nodes = i.nodes;
  open_ = i.open_;
  chained = i.chained;
  within = i.within;
  few = i.few;
  inner = i.inner;
  listed = h;
  form = i.form;
  page = i.page;
  found = i.found;
}

pub in_form : (r : ℕ) (c : Site) (t : GrowingTree) (form : FormPointer) → PlainForm (tags t.nodes) form → In r c t → In r c (record t { form = form })
in_form r c t form h i = record {
  nodes = i.nodes;
  open_ = i.open_;
  chained = i.chained;
  within = i.within;
  few = i.few;
  inner = i.inner;
  listed = i.listed;
  form = h;
  page = i.page;
  found = i.found;
}

pub in_found : (r : ℕ) (c : Site) (t : GrowingTree) (o : Option ℕ) → PlainFound (tags t.nodes) o → In r c t → In r c (record t { found = o })
in_found r c t o h i = record {
  nodes = i.nodes;
  open_ = i.open_;
  chained = i.chained;
  within = i.within;
  few = i.few;
  inner = i.inner;
  listed = i.listed;
  form = i.form;
  page = i.page;
  found = h;
}

plain_filtered : (ts : List Tag) (n : ℕ) (es : List Entry) → PlainListed ts es → PlainListed ts (filter (λ entry. not (is_entry n entry)) es)
plain_filtered ts n [] h = tt
plain_filtered ts n (Marker ∷ es) h = plain_filtered ts n es h
plain_filtered ts n (Formatting m ∷ es) h = by (nat_eq m n) (plain_filtered ts n es h.1)
  where
    by : (x : Bool) → PlainListed ts (filter (λ entry. not (is_entry n entry)) es) →
        PlainListed ts (cond (not x) (Formatting m ∷ filter (λ entry. not (is_entry n entry)) es) (filter (λ entry. not (is_entry n entry)) es))
    by true k = k
    by false k = (h.0, k)

pub in_unlisted : (r : ℕ) (c : Site) (n : ℕ) (t : GrowingTree) → In r c t → In r c (unlisted n t)
in_unlisted r c n t i = in_listed r c t (filter (λ entry. not (is_entry n entry)) t.listed) (plain_filtered (tags t.nodes) n t.listed i.listed) i

abbrev pub PlainAll : List Tag → List ℕ → Type 0
PlainAll ts [] = Unit {0}
PlainAll ts (n ∷ ns) = (is_plain (class_at ts n) ≡ true) × PlainAll ts ns

pub all_plain_kept : (ts us : List Tag) → Keeps ts us → (ns : List ℕ) → PlainAll ts ns → PlainAll us ns
all_plain_kept ts us keeps [] h = tt
all_plain_kept ts us keeps (n ∷ ns) h = (class_kept is_plain refl ts us keeps n h.0, all_plain_kept ts us keeps ns h.1)

pub closed_plain : (ts : List Tag) (stack : List ℕ) (es : List Entry) → PlainListed ts es → PlainAll ts (closed_entries stack es)
closed_plain ts stack [] h = tt
closed_plain ts stack (Marker ∷ es) h = tt
closed_plain ts stack (Formatting n ∷ es) h = by (Rattle.standard_trees.specs.TreeStore.is_member n stack) (closed_plain ts stack es h.1)
  where
    by : (x : Bool) → PlainAll ts (closed_entries stack es) → PlainAll ts (elim x as (λ _. List ℕ) [ true ↦ [] | false ↦ n ∷ closed_entries stack es ])
    by true k = tt
    by false k = (h.0, k)

pub plain_turned : (ts : List Tag) (ns ms : List ℕ) → PlainAll ts ns → PlainAll ts ms → PlainAll ts (reverse_aux ns ms)
plain_turned ts [] ms h k = k
plain_turned ts (n ∷ ns) ms h k = plain_turned ts ns (n ∷ ms) h.1 (h.0, k)

pub plain_dropped : (ts : List Tag) (n : ℕ) (es : List Entry) → PlainListed ts es → PlainListed ts (drop n es)
plain_dropped ts zero es h = h
plain_dropped ts (suc n) [] h = tt
plain_dropped ts (suc n) (Marker ∷ es) h = plain_dropped ts n es h
plain_dropped ts (suc n) (Formatting m ∷ es) h = plain_dropped ts n es h.1

-- the local name of such an element in HTML is that of an ordinary one
local_plain : (kind : Kind) → held (Rattle.standard_order.proofs.Labels.label_of kind) ≡ true → is_plain (kind_class kind) ≡ true → is_plain (name_class (local_in kind)) ≡ true
local_plain (ElementNode Html name attrs contents) h p = p
local_plain (ElementNode Svg name attrs contents) h p = never h
local_plain (ElementNode MathMl name attrs contents) h p = never h
local_plain _ h p = never p

pub copy_plain : (t : GrowingTree) (n : ℕ) → Rattle.standard_order.proofs.Labels.Is held (labels t.nodes) n → is_plain (class_at (tags t.nodes) n) ≡ true →
    is_plain (name_class (local_of t n)) ≡ true
copy_plain t n h p =
    local_plain (kind_of t n) (kind_at held t.nodes n h)
    (subst (λ u. is_plain u.cls ≡ true) (tag_there t.nodes n (there is_plain refl (class_at (tags t.nodes) n) p)) p)
