-- Before the body and in framesets: what is known of the tree, and what actions leave of it.
use Rattle.std.specs.Prelude.{◌≡◌, ◌&&◌, ◌||◌, refl, ℕ, zero, suc, Bool, true, false, not, List, [], ◌∷◌, ◌++◌, Option, None, Some, drop, length, nat_eq, reverse, unwrap_or}
use Rattle.std.specs.List.{list_all}
use mathlib.Core.Path.{◌∙◌, sym, ap, subst}
use Rattle.standard_trees.specs.TreeStore.{CommentNode, ElementNode, EndOf, Html, Node, NodeAttr, Place, Space, TextNode, changed_at, contents_in, leaf, node_before}
use Rattle.standard_trees.specs.TreeStore.{put_at, text_in}
use Rattle.standard_trees.specs.GrowingTree.{Formatting, GrowingTree, beyond, created_at, created_element, current, fresh, inserted, kind_of, merged_into, past, place}
use Rattle.standard_trees.specs.GrowingTree.{place_is_document, pushed, put, text_behind, top, with_attrs, with_char, with_chars, with_comment, with_stack, with_text}
use Rattle.standard_trees.specs.Formatting.{attrs_of, closed_entries, local_of, reconstructed, reopened}
use Rattle.standard_order.proofs.Labels.{labels}
use Rattle.standard_order.proofs.StandingStacks.{both, never, same_number}
use Rattle.standard_order.proofs.GoodTrees.{AllHeld, AllListed, closed_held, held_grown, held_reversed, makes_inserted}
use Rattle.standard_order.proofs.GoodEnds.{same_again}
use Rattle.standard_order.proofs.NodeTags.{BodyC, Cls, FramesetC, HeadC, HtmlC, Keeps, TemplateC, Tag, class_at, class_kept, is_element, kind_class, name_class, tags}
use Rattle.standard_order.proofs.NodeTags.{tags_attrs, tags_put, tags_text}
use Rattle.standard_order.proofs.NodeKids.{all_weaker, target}
use Rattle.standard_order.proofs.NodeTops.{Rooted, is_root, same_leaf_at}
use Rattle.standard_order.proofs.TreeTops.{Doc, Elements, Filled, created_only, element_class, fresh_passes, no_document, place_off, same_comment}
use Rattle.standard_order.proofs.PartKids.{Bald, Framed, Headed, Parts, is_frameset, is_head}
use Rattle.standard_order.proofs.Chains.{is_plain, is_tabled}
use Rattle.standard_order.proofs.PartTrees.{In, Nodes, Off, Step, is_single, plain_element, plain_single, single_root, step_element, step_kind, step_leaf}
use Rattle.standard_order.proofs.PartOps.{PlainAll, all_plain_kept, closed_plain, copy_plain, plain_dropped, plain_turned}
use Rattle.standard_order.proofs.PartBegun.{Adds, Open, Plainly, adds_any, frameset_begun, head_begun, in_body, in_body_begun, in_template, in_template_begun, nodes_end}
use Rattle.standard_order.proofs.PartBegun.{place_at, place_away, plainly_kept}

-- ---- what changes nodes alone

-- A tree with these parts of which something else is known, which other nodes leave.
pub record Stays (r : ℕ) (parts : Parts) (P : GrowingTree → Type 0) : Type 0 where
  pub doc : (t : GrowingTree) → P t → Doc Rooted t
  pub nodes : (t : GrowingTree) (nodes : List Node) → Step r parts t.nodes nodes → P t → P (record t { nodes = nodes })

leaf_stays : (r : ℕ) (parts : Parts) (P : GrowingTree → Type 0) → Stays r parts P → (t : GrowingTree) (text : List ℕ) (spot : Place) → (target spot ≡ 0 → ⊥) → P t →
    P (created_at spot (TextNode text) t)
leaf_stays r parts P s t text spot off p =
    s.nodes t (put_at (length t.nodes) spot (t.nodes ++ leaf (TextNode text) ∷ []))
    (step_leaf r parts (TextNode text) spot t.nodes (same_leaf_at (TextNode text) spot t.nodes off refl) refl refl refl refl) p

pub char_stays : (r : ℕ) (parts : Parts) (P : GrowingTree → Type 0) → Stays r parts P → (x : ℕ) (t : GrowingTree) → P t → P (with_char x t)
char_stays r parts P s x t p = by (place_is_document t (place t)) refl
  where
    in_text : (n : ℕ) → (target (place t) ≡ 0 → ⊥) → (o : Option (List ℕ)) → text_in (kind_of t n) ≡ o →
        P (elim o as (λ _. GrowingTree) [
          | Some text ↦ with_text t n (text ++ x ∷ [])
          | None ↦ created_at (place t) (TextNode (x ∷ [])) t
        ])
    in_text n off (Some text) e =
        s.nodes t (changed_at (λ node. record node { kind = TextNode (text ++ x ∷ []) }) t.nodes n)
        (step_kind r parts (λ node. record node { kind = TextNode (text ++ x ∷ []) }) t.nodes n (λ node. refl) (tags_text text (text ++ x ∷ []) t.nodes n e)) p
    in_text n off None e = leaf_stays r parts P s t (x ∷ []) (place t) off p

    behind : (o : Option ℕ) → (target (place t) ≡ 0 → ⊥) → P (text_behind o (place t) x t)
    behind None off = leaf_stays r parts P s t (x ∷ []) (place t) off p
    behind (Some n) off = in_text n off (text_in (kind_of t n)) refl

    by : (y : Bool) → place_is_document t (place t) ≡ y → P (elim y as (λ _. GrowingTree) [
      | true ↦ t
      | false ↦ text_behind (node_before t.nodes (place t)) (place t) x t
    ])
    by true e = p
    by false e = behind (node_before t.nodes (place t)) (no_document Rooted t (s.doc t p) (place t) e)

pub chars_stay : (r : ℕ) (parts : Parts) (P : GrowingTree → Type 0) → Stays r parts P → (xs : List ℕ) (t : GrowingTree) → P t → P (with_chars xs t)
chars_stay r parts P s [] t p = p
chars_stay r parts P s (x ∷ xs) t p = chars_stay r parts P s xs (with_char x t) (char_stays r parts P s x t p)

pub comment_stays : (r : ℕ) (parts : Parts) (P : GrowingTree → Type 0) → Stays r parts P → (text : List ℕ) (spot : Place) (t : GrowingTree) → (target spot ≡ 0 → ⊥) →
    P t → P (with_comment text spot t)
comment_stays r parts P s text spot t off p =
    s.nodes t (put_at (length t.nodes) spot (t.nodes ++ leaf (CommentNode text) ∷ []))
    (step_leaf r parts (CommentNode text) spot t.nodes (same_leaf_at (CommentNode text) spot t.nodes off refl) refl refl refl refl) p

pub remark_stays : (r : ℕ) (parts : Parts) (P : GrowingTree → Type 0) → Stays r parts P → (text : List ℕ) (t : GrowingTree) → P t → P (with_comment text (EndOf 0) t)
remark_stays r parts P s text t p =
    s.nodes t (put_at (length t.nodes) (EndOf 0) (t.nodes ++ leaf (CommentNode text) ∷ []))
    (step_leaf r parts (CommentNode text) (EndOf 0) t.nodes (same_comment text t.nodes) refl refl refl refl) p

pub merged_stays : (r : ℕ) (parts : Parts) (P : GrowingTree → Type 0) → Stays r parts P → (o : Option ℕ) (new : List NodeAttr) (t : GrowingTree) → P t →
    P (merged_into o new t)
merged_stays r parts P s None new t p = p
merged_stays r parts P s (Some n) new t p =
    s.nodes t (merged_into (Some n) new t).nodes
    (step_kind r parts (λ node. record node { kind = with_attrs new node.kind }) t.nodes n (λ node. refl) (tags_attrs new t.nodes n)) p

-- ---- before the body

-- what is open: `html` without a head; the head in `html`; `html` with the head
pub data Base : Type 0 where
  Headless OnHead OnHtml : Base

abbrev pub base_parts : Base → Parts
base_parts Headless = Bald
base_parts OnHead = Headed
base_parts OnHtml = Headed

abbrev pub BaseIs : ℕ → (ℕ → Cls) → Base → List ℕ → Type 0
BaseIs r f Headless s = s ≡ r ∷ []
BaseIs r f OnHtml s = s ≡ r ∷ []
BaseIs r f OnHead s = (h : ℕ) × (s ≡ h ∷ r ∷ []) × (is_head (f h) ≡ true)

-- so many ordinary elements are above that
abbrev pub Over : (ℕ → Cls) → (List ℕ → Type 0) → ℕ → List ℕ → Type 0
Over f P zero s = P s
Over f P (suc k) [] = ⊥
Over f P (suc k) (n ∷ s) = (is_plain (f n) ≡ true) × Over f P k s

pub record EarlyAt (r : ℕ) (base : Base) (k : ℕ) (t : GrowingTree) : Type 0 where
  pub nodes : Nodes r (base_parts base) t.nodes
  pub stack : Over (class_at (tags t.nodes)) (BaseIs r (class_at (tags t.nodes)) base) k t.stack
  pub plainly : Plainly t

head_class : (c : Cls) → is_head c ≡ true → c ≡ HeadC
head_class HeadC h = refl
head_class _ h = never h

base_elements : (r : ℕ) (base : Base) (ts : List Tag) (s : List ℕ) → class_at ts r ≡ HtmlC → BaseIs r (class_at ts) base s → Elements ts s
base_elements r Headless ts s root e = subst (Elements ts) (sym e) (ap (λ c. is_element c && true) root)
base_elements r OnHtml ts s root e = subst (Elements ts) (sym e) (ap (λ c. is_element c && true) root)
base_elements r OnHead ts s root (h, e, head) =
    subst (Elements ts) (sym e) (ap (λ c. is_element c && (is_element (class_at ts r) && true)) (head_class _ head) ∙ ap (λ c. is_element c && true) root)

over_elements : (r : ℕ) (base : Base) (ts : List Tag) (k : ℕ) (s : List ℕ) → class_at ts r ≡ HtmlC → Over (class_at ts) (BaseIs r (class_at ts) base) k s → Elements ts s
over_elements r base ts zero s root h = base_elements r base ts s root h
over_elements r base ts (suc k) [] root h = absurd h
over_elements r base ts (suc k) (n ∷ s) root h =
    ap (λ x. x && list_all (λ m. is_element (class_at ts m)) s) (plain_element _ h.0) ∙ over_elements r base ts k s root h.1

pub early_elements : (r : ℕ) (base : Base) (k : ℕ) (t : GrowingTree) → EarlyAt r base k t → Elements (tags t.nodes) t.stack
early_elements r base k t e = over_elements r base (tags t.nodes) k t.stack e.nodes.frame.root e.stack

no_cons : {n : ℕ} {s q : List ℕ} → q ≡ n ∷ s → q ≡ [] → ⊥
no_cons e f = none (sym e ∙ f)
  where
    none : {m : ℕ} {p : List ℕ} → m ∷ p ≡ [] → ⊥
    none g = cc

pub over_filled : (r : ℕ) (f : ℕ → Cls) (base : Base) (k : ℕ) (s : List ℕ) → Over f (BaseIs r f base) k s → Filled s
over_filled r f Headless zero s h = no_cons h
over_filled r f OnHtml zero s h = no_cons h
over_filled r f OnHead zero s h = no_cons h.1
over_filled r f base (suc k) [] h = absurd h
over_filled r f base (suc k) (n ∷ s) h = no_cons refl

base_kept : (r : ℕ) (base : Base) (ts us : List Tag) → Keeps ts us → (s : List ℕ) → BaseIs r (class_at ts) base s → BaseIs r (class_at us) base s
base_kept r Headless ts us keeps s h = h
base_kept r OnHtml ts us keeps s h = h
base_kept r OnHead ts us keeps s (n, e, head) = (n, e, class_kept is_head refl ts us keeps n head)

over_kept : (r : ℕ) (base : Base) (ts us : List Tag) → Keeps ts us → (k : ℕ) (s : List ℕ) → Over (class_at ts) (BaseIs r (class_at ts) base) k s →
    Over (class_at us) (BaseIs r (class_at us) base) k s
over_kept r base ts us keeps zero s h = base_kept r base ts us keeps s h
over_kept r base ts us keeps (suc k) [] h = h
over_kept r base ts us keeps (suc k) (n ∷ s) h = (class_kept is_plain refl ts us keeps n h.0, over_kept r base ts us keeps k s h.1)

pub early_stays : (r : ℕ) (base : Base) (k : ℕ) → Stays r (base_parts base) (EarlyAt r base k)
early_stays r base k = record {
  doc = λ t e. record { top = e.nodes.top; open_ = early_elements r base k t e };
  nodes = λ t nodes step e. record {
    nodes = step.nodes e.nodes;
    stack = over_kept r base (tags t.nodes) (tags nodes) step.keeps k t.stack e.stack;
    plainly = plainly_kept t nodes t.stack step.keeps e.plainly;
  };
}

-- an element in which nothing is foster-parented, and that isn't `html`
abbrev pub is_lowly : Cls → Bool
is_lowly c = is_plain c || is_head c

lowly_tabled : (c : Cls) → is_lowly c ≡ true → is_tabled c ≡ false
lowly_tabled Rattle.standard_order.proofs.NodeTags.PlainC h = refl
lowly_tabled HeadC h = refl
lowly_tabled _ h = never h

lowly_element : (c : Cls) → is_lowly c ≡ true → is_element c ≡ true
lowly_element Rattle.standard_order.proofs.NodeTags.PlainC h = refl
lowly_element HeadC h = refl
lowly_element _ h = never h

lowly_root : (c : Cls) → is_lowly c ≡ true → is_root c ≡ false
lowly_root Rattle.standard_order.proofs.NodeTags.PlainC h = refl
lowly_root HeadC h = refl
lowly_root _ h = never h

top_lowly : (r : ℕ) (f : ℕ → Cls) (k : ℕ) (s : List ℕ) → Over f (BaseIs r f OnHead) k s → is_lowly (f (top s)) ≡ true
top_lowly r f zero s (h, e, head) = ap (λ q. is_lowly (f (top q))) e ∙ ap is_lowly (head_class (f h) head)
top_lowly r f (suc k) [] h = absurd h
top_lowly r f (suc k) (n ∷ s) h = by (f n) h.0
  where
    by : (c : Cls) → is_plain c ≡ true → is_lowly c ≡ true
    by Rattle.standard_order.proofs.NodeTags.PlainC p = refl
    by _ p = never p

early_place : (r k : ℕ) (t : GrowingTree) → EarlyAt r OnHead k t → Off r (place t)
early_place r k t e =
    let lowly : is_lowly (class_at (tags t.nodes) (current t)) ≡ true = top_lowly r (class_at (tags t.nodes)) k t.stack e.stack in
    place_away r Headed t (current t) e.nodes (early_elements r OnHead k t e) (over_filled r (class_at (tags t.nodes)) OnHead k t.stack e.stack)
    (lowly_tabled _ lowly) (lowly_element _ lowly) (lowly_root _ lowly)

-- an ordinary element in the head
pub early_pushed : (r k : ℕ) (name : List ℕ) (attrs : List NodeAttr) (t : GrowingTree) → is_plain (name_class name) ≡ true → EarlyAt r OnHead k t →
    EarlyAt r OnHead (suc k) (inserted Html name attrs t)
early_pushed r k name attrs t plain e =
    subst (λ (made : GrowingTree). EarlyAt r OnHead (suc k) (pushed (fresh t) (put (fresh t) (place t) made))) (sym (created_only Html name attrs t)) (record {
      nodes = step.nodes e.nodes;
      stack = (
        subst (λ ts. is_plain (class_at ts (fresh t)) ≡ true) (sym (tags_put (fresh t) (place t) (created_element Html name attrs t).nodes))
            (fresh_passes is_plain refl Html name attrs (λ contents. plain) t),
        over_kept r OnHead (tags t.nodes) (tags (put_at (fresh t) (place t) (created_element Html name attrs t).nodes)) step.keeps k t.stack e.stack,
      );
      plainly = plainly_kept t (put_at (fresh t) (place t) (created_element Html name attrs t).nodes) (fresh t ∷ t.stack) step.keeps e.plainly;
    })
  where
    step : Step r Headed t.nodes (put_at (fresh t) (place t) (created_element Html name attrs t).nodes)
    step = step_element r Headed (place t) Html name attrs t (early_place r k t e) (λ contents. plain_single _ plain)

over_dropped : (f : ℕ → Cls) (P : List ℕ → Type 0) (k : ℕ) (s : List ℕ) → Over f P (suc k) s → Over f P k (drop 1 s)
over_dropped f P k [] h = absurd h
over_dropped f P k (n ∷ s) h = h.1

pub early_popped : (r : ℕ) (base : Base) (k : ℕ) (t : GrowingTree) → EarlyAt r base (suc k) t → EarlyAt r base k (with_stack t (drop 1 t.stack))
early_popped r base k t e = record {
  nodes = e.nodes;
  stack = over_dropped (class_at (tags t.nodes)) (BaseIs r (class_at (tags t.nodes)) base) k t.stack e.stack;
  plainly = record { listed = e.plainly.listed; form = e.plainly.form; page = e.plainly.page; found = e.plainly.found };
}

pub head_popped : (r : ℕ) (t : GrowingTree) → EarlyAt r OnHead 0 t → EarlyAt r OnHtml 0 (with_stack t (drop 1 t.stack))
head_popped r t e = record {
  nodes = e.nodes;
  stack = ap (drop 1) e.stack.1;
  plainly = record { listed = e.plainly.listed; form = e.plainly.form; page = e.plainly.page; found = e.plainly.found };
}

pub early_head : (r : ℕ) (name : List ℕ) (attrs : List NodeAttr) (t : GrowingTree) → name_class name ≡ HeadC → EarlyAt r Headless 0 t →
    EarlyAt r OnHead 0 (inserted Html name attrs t)
early_head r name attrs t is e = by (head_begun r name attrs t is (record { nodes = e.nodes; stack_is = e.stack; plainly = e.plainly }))
  where
    by : Open r Headed (fresh t ∷ r ∷ []) (inserted Html name attrs t) × (is_head (class_at (tags (inserted Html name attrs t).nodes) (fresh t)) ≡ true) →
        EarlyAt r OnHead 0 (inserted Html name attrs t)
    by (o, new) = record { nodes = o.nodes; stack = (fresh t, o.stack_is, new); plainly = o.plainly }

pub early_open : (r : ℕ) (t : GrowingTree) → EarlyAt r OnHtml 0 t → Open r Headed (r ∷ []) t
early_open r t e = record { nodes = e.nodes; stack_is = e.stack; plainly = e.plainly }

pub early_body : (r : ℕ) (name : List ℕ) (attrs : List NodeAttr) (t : GrowingTree) → name_class name ≡ BodyC → EarlyAt r OnHtml 0 t →
    In r in_body (inserted Html name attrs t)
early_body r name attrs t is e = in_body_begun r name attrs t is (early_open r t e)

pub early_template : (r : ℕ) (name : List ℕ) (attrs : List NodeAttr) (t : GrowingTree) → name_class name ≡ TemplateC → EarlyAt r OnHead 0 t →
    In r in_template (inserted Html name attrs t)
early_template r name attrs t is e =
    in_template_begun r e.stack.0 name attrs t is e.stack.2 (record { nodes = e.nodes; stack_is = e.stack.1; plainly = e.plainly })

-- ---- framesets

abbrev pub is_flat : Cls → Bool
is_flat c = is_element c && not (is_tabled c)

abbrev pub Flat : List Tag → List ℕ → Type 0
Flat ts ns = list_all (λ n. is_flat (class_at ts n)) ns ≡ true

-- a frameset is in `html`, and no part of a table is open
pub record FramedAt (r : ℕ) (t : GrowingTree) : Type 0 where
  pub nodes : Nodes r Framed t.nodes
  pub flat : Flat (tags t.nodes) t.stack
  pub plainly : Plainly t

flat_element : (c : Cls) → is_flat c ≡ true → is_element c ≡ true
flat_element c h = (both (is_element c) (not (is_tabled c)) h).0

flat_tabled : (c : Cls) → is_flat c ≡ true → is_tabled c ≡ false
flat_tabled c h = by (is_tabled c) (both (is_element c) (not (is_tabled c)) h).1
  where
    by : (x : Bool) → not x ≡ true → x ≡ false
    by true k = never k
    by false k = refl

plain_flat : (c : Cls) → is_plain c ≡ true → is_flat c ≡ true
plain_flat Rattle.standard_order.proofs.NodeTags.PlainC h = refl
plain_flat _ h = never h

flat_elements : (ts : List Tag) (s : List ℕ) → Flat ts s → Elements ts s
flat_elements ts s h = all_weaker (λ n. is_flat (class_at ts n)) (λ n. is_element (class_at ts n)) (λ n k. flat_element (class_at ts n) k) s h

pub framed_stays : (r : ℕ) → Stays r Framed (FramedAt r)
framed_stays r = record {
  doc = λ t h. record { top = h.nodes.top; open_ = flat_elements (tags t.nodes) t.stack h.flat };
  nodes = λ t nodes step h. record {
    nodes = step.nodes h.nodes;
    flat = all_weaker (λ n. is_flat (class_at (tags t.nodes) n)) (λ n. is_flat (class_at (tags nodes) n))
        (λ n k. class_kept is_flat refl (tags t.nodes) (tags nodes) step.keeps n k) t.stack h.flat;
    plainly = plainly_kept t nodes t.stack step.keeps h.plainly;
  };
}

pub framed_stack : (r : ℕ) (t : GrowingTree) (s : List ℕ) → Flat (tags t.nodes) s → FramedAt r t → FramedAt r (with_stack t s)
framed_stack r t s flat h = record { nodes = h.nodes; flat = flat; plainly = record { listed = h.plainly.listed; form = h.plainly.form; page = h.plainly.page; found = h.plainly.found } }

pub all_beyond : (P test : ℕ → Bool) (s : List ℕ) → list_all P s ≡ true → list_all P (beyond test s) ≡ true
all_beyond P test [] h = h
all_beyond P test (n ∷ ns) h = by (test n) (all_beyond P test ns (both (P n) (list_all P ns) h).1)
  where
    by : (x : Bool) → list_all P (beyond test ns) ≡ true → list_all P (elim x as (λ _. List ℕ) [ true ↦ beyond test ns | false ↦ n ∷ ns ]) ≡ true
    by true k = k
    by false k = h

pub all_past : (P test : ℕ → Bool) (s : List ℕ) → list_all P s ≡ true → list_all P (past test s) ≡ true
all_past P test [] h = h
all_past P test (n ∷ ns) h = by (test n) (both (P n) (list_all P ns) h).1 (all_past P test ns (both (P n) (list_all P ns) h).1)
  where
    by : (x : Bool) → list_all P ns ≡ true → list_all P (past test ns) ≡ true → list_all P (elim x as (λ _. List ℕ) [ true ↦ ns | false ↦ past test ns ]) ≡ true
    by true k l = k
    by false k l = l

pub all_dropped : (P : ℕ → Bool) (s : List ℕ) → list_all P s ≡ true → list_all P (drop 1 s) ≡ true
all_dropped P [] h = h
all_dropped P (n ∷ ns) h = (both (P n) (list_all P ns) h).1

-- an element behind the children of any element
nodes_framed : (r q : ℕ) (space : Space) (name : List ℕ) (attrs : List NodeAttr) (t : GrowingTree) → (q ≡ 0 → ⊥) →
    ((contents : Option ℕ) → is_single (kind_class (ElementNode space name attrs contents)) ≡ false) → Nodes r Framed t.nodes →
    Step r Framed t.nodes (put_at (fresh t) (EndOf q) (created_element space name attrs t).nodes)
nodes_framed r q space name attrs t off odd h = record {
  keeps = (Rattle.standard_order.proofs.NodeTops.same_element_at (EndOf q) space name attrs t off).keeps;
  nodes = λ k. by (nat_eq q r) refl k;
}
  where
    away : nat_eq q r ≡ false → q ≡ r → ⊥
    away e same = never (sym (subst (λ i. nat_eq q i ≡ false) (sym same) e) ∙ same_again q)

    by : (x : Bool) → nat_eq q r ≡ x → Nodes r Framed t.nodes → Nodes r Framed (put_at (fresh t) (EndOf q) (created_element space name attrs t).nodes)
    by true e k = subst (λ i. Nodes r Framed (put_at (fresh t) (EndOf i) (created_element space name attrs t).nodes)) (sym (same_number q r e))
        (nodes_end r Framed Framed is_element space name attrs t refl (λ contents. element_class space name attrs contents) (λ contents. single_root _ (odd contents))
        (adds_any is_element) (λ none. tt) k)
    by false e k = (step_element r Framed (EndOf q) space name attrs t (off, away e) odd).nodes k

top_flat : (ts : List Tag) (s : List ℕ) → Filled s → Flat ts s → is_flat (class_at ts (top s)) ≡ true
top_flat ts [] filled h = absurd (filled refl)
top_flat ts (n ∷ ns) filled h = (both (is_flat (class_at ts n)) (list_all (λ m. is_flat (class_at ts m)) ns) h).0

framed_step : (r : ℕ) (space : Space) (name : List ℕ) (attrs : List NodeAttr) (t : GrowingTree) → Filled t.stack →
    ((contents : Option ℕ) → is_single (kind_class (ElementNode space name attrs contents)) ≡ false) → FramedAt r t →
    Step r Framed t.nodes (put_at (fresh t) (place t) (created_element space name attrs t).nodes)
framed_step r space name attrs t filled odd h =
    subst (λ spot. Step r Framed t.nodes (put_at (fresh t) spot (created_element space name attrs t).nodes)) (sym (place_at t (current t) flat))
    (nodes_framed r (unwrap_or (contents_in (kind_of t (current t))) (current t)) space name attrs t
    (subst (λ spot. target spot ≡ 0 → ⊥) (place_at t (current t) flat) (place_off Rooted t (current t) ((framed_stays r).doc t h) filled (flat_element _ one))) odd h.nodes)
  where
    one : is_flat (class_at (tags t.nodes) (top t.stack)) ≡ true
    one = top_flat (tags t.nodes) t.stack filled h.flat

    flat : is_tabled (class_at (tags t.nodes) (current t)) ≡ false
    flat = flat_tabled _ one

pub framed_pushed : (r : ℕ) (space : Space) (name : List ℕ) (attrs : List NodeAttr) (t : GrowingTree) → Filled t.stack →
    ((contents : Option ℕ) → is_single (kind_class (ElementNode space name attrs contents)) ≡ false) →
    ((contents : Option ℕ) → is_flat (kind_class (ElementNode space name attrs contents)) ≡ true) → FramedAt r t → FramedAt r (inserted space name attrs t)
framed_pushed r space name attrs t filled odd flat h =
    subst (λ (made : GrowingTree). FramedAt r (pushed (fresh t) (put (fresh t) (place t) made))) (sym (created_only space name attrs t)) (record {
      nodes = now.nodes;
      flat = ap (λ x. x && list_all (λ n. is_flat (class_at (tags nodes) n)) t.stack) new ∙ now.flat;
      plainly = record { listed = now.plainly.listed; form = now.plainly.form; page = now.plainly.page; found = now.plainly.found };
    })
  where
    nodes : List Node
    nodes = put_at (fresh t) (place t) (created_element space name attrs t).nodes

    now : FramedAt r (record t { nodes = put_at (fresh t) (place t) (created_element space name attrs t).nodes })
    now = (framed_stays r).nodes t (put_at (fresh t) (place t) (created_element space name attrs t).nodes) (framed_step r space name attrs t filled odd h) h

    new : is_flat (class_at (tags (put_at (fresh t) (place t) (created_element space name attrs t).nodes)) (fresh t)) ≡ true
    new = subst (λ ts. is_flat (class_at ts (fresh t)) ≡ true) (sym (tags_put (fresh t) (place t) (created_element space name attrs t).nodes))
        (fresh_passes is_flat refl space name attrs flat t)

-- elements that are opened again
framed_reopened : (r : ℕ) (ns : List ℕ) (t : GrowingTree) → Filled t.stack → AllHeld (labels t.nodes) ns → PlainAll (tags t.nodes) ns → FramedAt r t →
    FramedAt r (reopened ns t)
framed_reopened r [] t filled h p i = i
framed_reopened r (n ∷ ns) t filled h p i =
    framed_reopened r ns (record after { listed = Formatting (current after) ∷ after.listed }) (λ e. no_cons refl e)
    (held_grown t.nodes after.nodes (makes_inserted (place t) Html name attrs t).grows ns h.1)
    (all_plain_kept (tags t.nodes) (tags after.nodes) (framed_keeps r name attrs t filled plain i) ns p.1)
    (record { nodes = now.nodes; flat = now.flat; plainly = record { listed = (new_plain, now.plainly.listed); form = now.plainly.form; page = now.plainly.page; found = now.plainly.found } })
  where
    name : List ℕ
    name = local_of t n

    attrs : List NodeAttr
    attrs = attrs_of t n

    plain : is_plain (name_class (local_of t n)) ≡ true
    plain = copy_plain t n h.0 p.0

    after : GrowingTree
    after = inserted Html (local_of t n) (attrs_of t n) t

    now : FramedAt r (inserted Html (local_of t n) (attrs_of t n) t)
    now = framed_pushed r Html (local_of t n) (attrs_of t n) t filled (λ contents. plain_single _ (copy_plain t n h.0 p.0)) (λ contents. plain_flat _ (copy_plain t n h.0 p.0)) i

    framed_keeps : (r : ℕ) (name : List ℕ) (attrs : List NodeAttr) (t : GrowingTree) → Filled t.stack → is_plain (name_class name) ≡ true → FramedAt r t →
        Keeps (tags t.nodes) (tags (inserted Html name attrs t).nodes)
    framed_keeps r name attrs t filled plain i = (framed_step r Html name attrs t filled (λ contents. plain_single _ plain) i).keeps

    new_plain : is_plain (class_at (tags (inserted Html (local_of t n) (attrs_of t n) t).nodes) (fresh t)) ≡ true
    new_plain = subst (λ ts. is_plain (class_at ts (fresh t)) ≡ true) (sym (tags_put (fresh t) (place t) (created_element Html (local_of t n) (attrs_of t n) t).nodes))
        (fresh_passes is_plain refl Html (local_of t n) (attrs_of t n) (λ contents. copy_plain t n h.0 p.0) t)

pub framed_reconstructed : (r : ℕ) (t : GrowingTree) → Filled t.stack → AllListed (labels t.nodes) t.listed → FramedAt r t → FramedAt r (reconstructed t)
framed_reconstructed r t filled h i =
    framed_reopened r (reverse (closed_entries t.stack t.listed)) (record t { listed = drop (length (closed_entries t.stack t.listed)) t.listed }) filled
    (held_reversed (labels t.nodes) (closed_entries t.stack t.listed) (closed_held (labels t.nodes) t.stack t.listed h))
    (plain_turned (tags t.nodes) (closed_entries t.stack t.listed) [] (closed_plain (tags t.nodes) t.stack t.listed i.plainly.listed) tt)
    (record {
      nodes = i.nodes;
      flat = i.flat;
      plainly = record {
        listed = plain_dropped (tags t.nodes) (length (closed_entries t.stack t.listed)) t.listed i.plainly.listed;
        form = i.plainly.form;
        page = i.plainly.page;
        found = i.plainly.found;
      };
    })

-- a frameset is put into `html`
pub framed_begun : (r : ℕ) (parts : Parts) (name : List ℕ) (attrs : List NodeAttr) (t : GrowingTree) → name_class name ≡ FramesetC → Adds parts is_frameset Framed →
    Open r parts (r ∷ []) t → FramedAt r (inserted Html name attrs t)
framed_begun r parts name attrs t is adds h = by (frameset_begun r parts name attrs t is adds h)
  where
    flat : (c : Cls) → is_frameset c ≡ true → is_flat c ≡ true
    flat FramesetC k = refl
    flat _ k = never k

    by : Open r Framed (fresh t ∷ r ∷ []) (inserted Html name attrs t) × (is_frameset (class_at (tags (inserted Html name attrs t).nodes) (fresh t)) ≡ true) →
        FramedAt r (inserted Html name attrs t)
    by (o, new) = record {
      nodes = o.nodes;
      flat = subst (Flat (tags (inserted Html name attrs t).nodes)) (sym o.stack_is)
          (ap (λ x. x && (is_flat (class_at (tags (inserted Html name attrs t).nodes) r) && true)) (flat _ new) ∙ ap (λ c. is_flat c && true) o.nodes.frame.root);
      plainly = o.plainly;
    }
