-- What the shape of a page depends on of each node: which kind of node it is, and where the contents of a template are.
use Rattle.std.specs.Prelude.{◌≡◌, ◌&&◌, refl, ℕ, zero, suc, Bool, true, false, List, [], ◌∷◌, ◌++◌, Option, None, Some, codes, length}
use mathlib.Core.Path.{◌∙◌, sym, ap, subst}
use Rattle.standard_trees.specs.TreeStore.{Before, CommentNode, ContentsNode, DoctypeNode, DocumentNode, ElementNode, EndOf, Html, Kind}
use Rattle.standard_trees.specs.TreeStore.{MathMl, Node, NodeAttr, Place, Svg, TextNode, changed_at, contents_in, node_at, placed_before}
use Rattle.standard_trees.specs.TreeStore.{put_at, removed, text_in}
use Rattle.standard_trees.specs.GrowingTree.{is_among, with_attrs}
use Rattle.standard_order.proofs.StandingStacks.{both, never}

-- no node; the Document, a doctype, a comment, a text, the contents of a template; an element `html`, `head`, `body`, `frameset`,
-- `template`, `table`, or a part of a table; any other element
pub data Cls : Type 0 where
  NoC DocC DoctypeC CommentC TextC ContentsC : Cls
  PlainC HtmlC HeadC BodyC FramesetC TemplateC TableC GroupC RowC CellC CaptionC : Cls

pub data Entry : Type 0 where
  class_of : List (List ℕ) → Cls → Entry

abbrev pub other_classes : List Entry
other_classes =
    class_of (codes "head" ∷ []) HeadC ∷ class_of (codes "body" ∷ []) BodyC ∷
    class_of (codes "frameset" ∷ []) FramesetC ∷ class_of (codes "template" ∷ []) TemplateC ∷ class_of (codes "table" ∷ []) TableC ∷
    class_of (codes "tbody" ∷ codes "tfoot" ∷ codes "thead" ∷ []) GroupC ∷ class_of (codes "tr" ∷ []) RowC ∷
    class_of (codes "td" ∷ codes "th" ∷ []) CellC ∷ class_of (codes "caption" ∷ codes "colgroup" ∷ []) CaptionC ∷ []

abbrev pub classes : List Entry
classes = class_of (codes "html" ∷ []) HtmlC ∷ other_classes

abbrev pub class_in : List Entry → List ℕ → Cls
class_in [] name = PlainC
class_in (class_of names one ∷ more) name = elim (is_among name names) [ true ↦ one | false ↦ class_in more name ]

-- of an HTML element
abbrev pub name_class : List ℕ → Cls
name_class name = class_in classes name

abbrev pub kind_class : Kind → Cls
kind_class DocumentNode = DocC
kind_class ContentsNode = ContentsC
kind_class (DoctypeNode d) = DoctypeC
kind_class (TextNode text) = TextC
kind_class (CommentNode text) = CommentC
kind_class (ElementNode Html name attrs contents) = name_class name
kind_class (ElementNode Svg name attrs contents) = PlainC
kind_class (ElementNode MathMl name attrs contents) = PlainC

pub record Tag : Type 0 where
  pub cls : Cls
  pub held : Option ℕ  -- the node of the contents of a template

abbrev pub tag_of : Kind → Tag
tag_of kind = record { cls = kind_class kind; held = contents_in kind }

abbrev pub tags : List Node → List Tag
tags [] = []
tags (node ∷ nodes) = tag_of node.kind ∷ tags nodes

abbrev pub tag_at : List Tag → ℕ → Tag
tag_at [] n = record { cls = NoC; held = None }
tag_at (t ∷ ts) zero = t
tag_at (t ∷ ts) (suc n) = tag_at ts n

abbrev pub class_at : List Tag → ℕ → Cls
class_at ts n = (tag_at ts n).cls

abbrev pub is_there : Cls → Bool
is_there NoC = false
is_there _ = true

abbrev pub is_element : Cls → Bool
is_element NoC = false
is_element DocC = false
is_element DoctypeC = false
is_element CommentC = false
is_element TextC = false
is_element ContentsC = false
is_element _ = true

-- ---- nodes keep their tags

pub tags_more : (nodes more : List Node) → tags (nodes ++ more) ≡ tags nodes ++ tags more
tags_more [] more = refl
tags_more (node ∷ nodes) more = ap (λ ts. tag_of node.kind ∷ ts) (tags_more nodes more)

pub tags_removed : (n : ℕ) (nodes : List Node) → tags (removed n nodes) ≡ tags nodes
tags_removed n [] = refl
tags_removed n (node ∷ nodes) = ap (λ ts. tag_of node.kind ∷ ts) (tags_removed n nodes)

pub tags_changed : (f : Node → Node) → ((node : Node) → tag_of (f node).kind ≡ tag_of node.kind) → (nodes : List Node) (n : ℕ) →
    tags (changed_at f nodes n) ≡ tags nodes
tags_changed f same [] n = refl
tags_changed f same (node ∷ nodes) zero = ap (λ t. t ∷ tags nodes) (same node)
tags_changed f same (node ∷ nodes) (suc n) = ap (λ ts. tag_of node.kind ∷ ts) (tags_changed f same nodes n)

pub tags_put : (n : ℕ) (spot : Place) (nodes : List Node) → tags (put_at n spot nodes) ≡ tags nodes
tags_put n (EndOf p) nodes = tags_changed (λ node. record node { children = node.children ++ n ∷ [] }) (λ node. refl) (removed n nodes)
    p ∙ tags_removed n nodes
tags_put n (Before p m) nodes = tags_changed (λ node. record node { children = placed_before n m node.children }) (λ node. refl)
    (removed n nodes) p ∙ tags_removed n nodes

pub tags_text : (text new : List ℕ) (nodes : List Node) (n : ℕ) → text_in (node_at nodes n).kind ≡ Some text →
    tags (changed_at (λ node. record node { kind = TextNode new }) nodes n) ≡ tags nodes
tags_text text new [] n e = refl
tags_text text new (node ∷ nodes) zero e = ap (λ t. t ∷ tags nodes) (by node.kind e)
  where
    by : (kind : Kind) → text_in kind ≡ Some text → tag_of (TextNode new) ≡ tag_of kind
    by (TextNode old) h = refl
    by (CommentNode old) h = cc
    by (DoctypeNode d) h = cc
    by (ElementNode space name attrs contents) h = cc
    by DocumentNode h = cc
    by ContentsNode h = cc
tags_text text new (node ∷ nodes) (suc n) e = ap (λ ts. tag_of node.kind ∷ ts) (tags_text text new nodes n e)

pub tags_attrs : (new : List NodeAttr) (nodes : List Node) (n : ℕ) →
    tags (changed_at (λ node. record node { kind = with_attrs new node.kind }) nodes n) ≡ tags nodes
tags_attrs new nodes n = tags_changed (λ node. record node { kind = with_attrs new node.kind }) (λ node. by node.kind) nodes n
  where
    by : (kind : Kind) → tag_of (with_attrs new kind) ≡ tag_of kind
    by (TextNode old) = refl
    by (CommentNode old) = refl
    by (DoctypeNode d) = refl
    by (ElementNode Html name attrs contents) = refl
    by (ElementNode Svg name attrs contents) = refl
    by (ElementNode MathMl name attrs contents) = refl
    by DocumentNode = refl
    by ContentsNode = refl

-- ---- stores that grow

abbrev pub Keeps : List Tag → List Tag → Type 0
Keeps ts us = (n : ℕ) → is_there (class_at ts n) ≡ true → tag_at us n ≡ tag_at ts n

pub keeps_same : (ts us : List Tag) → us ≡ ts → Keeps ts us
keeps_same ts us e n there = ap (λ vs. tag_at vs n) e

pub keeps_both : (ts us vs : List Tag) → Keeps ts us → Keeps us vs → Keeps ts vs
keeps_both ts us vs one two n there = two n (subst (λ t. is_there t.cls ≡ true) (sym (one n there)) there) ∙ one n there

pub keeps_more : (ts more : List Tag) → Keeps ts (ts ++ more)
keeps_more [] more n there = cc
keeps_more (t ∷ ts) more zero there = refl
keeps_more (t ∷ ts) more (suc n) there = keeps_more ts more n there

pub there : (test : Cls → Bool) → test NoC ≡ false → (c : Cls) → test c ≡ true → is_there c ≡ true
there test off NoC h = never (sym off ∙ h)
there test off _ h = refl

pub class_kept : (test : Cls → Bool) → test NoC ≡ false → (ts us : List Tag) → Keeps ts us → (n : ℕ) → test (class_at ts n) ≡ true →
    test (class_at us n) ≡ true
class_kept test off ts us keeps n h =
    subst (λ t. test t.cls ≡ true) (sym (keeps n (there test off (class_at ts n) h))) h

pub last_tag : (ts : List Tag) (t : Tag) (nodes : List Node) → ts ≡ tags nodes → tag_at (ts ++ t ∷ []) (length nodes) ≡ t
last_tag [] t [] e = refl
last_tag (u ∷ us) t (node ∷ nodes) e = last_tag us t nodes (ap rest e)
  where
    rest : List Tag → List Tag
    rest [] = []
    rest (x ∷ xs) = xs
last_tag [] t (node ∷ nodes) e = cc
last_tag (u ∷ us) t [] e = cc

-- there is no node behind the last
pub none_past : (nodes : List Node) → is_there (class_at (tags nodes) (length nodes)) ≡ false
none_past [] = refl
none_past (node ∷ nodes) = none_past nodes

pub tag_there : (nodes : List Node) (n : ℕ) → is_there (class_at (tags nodes) n) ≡ true → tag_at (tags nodes) n ≡ tag_of (node_at nodes n).kind
tag_there [] n h = cc
tag_there (node ∷ nodes) zero h = refl
tag_there (node ∷ nodes) (suc n) h = tag_there nodes n h

abbrev pub all_pass : (Cls → Bool) → List Entry → Bool
all_pass test [] = test PlainC
all_pass test (class_of names one ∷ more) = test one && all_pass test more

pub class_passes : (test : Cls → Bool) (name : List ℕ) (es : List Entry) → all_pass test es ≡ true → test (class_in es name) ≡ true
class_passes test name [] h = h
class_passes test name (class_of names one ∷ more) h =
    by (is_among name names) (both (test one) (all_pass test more) h).0 (class_passes test name more (both (test one) (all_pass test more) h).1)
  where
    by : (x : Bool) → test one ≡ true → test (class_in more name) ≡ true →
        test (elim x as (λ _. Cls) [ true ↦ one | false ↦ class_in more name ]) ≡ true
    by true a b = a
    by false a b = b

pub kind_there : (kind : Kind) → is_there (kind_class kind) ≡ true
kind_there DocumentNode = refl
kind_there ContentsNode = refl
kind_there (DoctypeNode d) = refl
kind_there (TextNode text) = refl
kind_there (CommentNode text) = refl
kind_there (ElementNode Html name attrs contents) = class_passes is_there name classes refl
kind_there (ElementNode Svg name attrs contents) = refl
kind_there (ElementNode MathMl name attrs contents) = refl
