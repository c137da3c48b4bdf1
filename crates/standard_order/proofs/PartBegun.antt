-- A head, a body or a frameset that is put into `html`, and what is opened in the head.
use Rattle.std.specs.Prelude.{◌≡◌, ◌&&◌, refl, ℕ, Bool, true, false, List, [], ◌∷◌, ◌++◌, Option, None, Some, unwrap_or}
use mathlib.Core.Path.{◌∙◌, sym, ap, subst}
use Rattle.standard_trees.specs.NameLists.{fostering_names}
use Rattle.standard_trees.specs.TreeStore.{ElementNode, EndOf, Html, Node, NodeAttr, Place, Space, contents_in, put_at}
use Rattle.standard_trees.specs.GrowingTree.{GrowingTree, created_element, foster_place, fresh, in_contents, inserted, is_one, kind_of, place, place_in, pushed, put, top}
use Rattle.standard_order.proofs.StandingStacks.{never}
use Rattle.standard_order.proofs.NodeTags.{BodyC, Cls, ContentsC, FramesetC, HeadC, HtmlC, Keeps, NoC, TemplateC, class_at, class_kept, is_element, is_there}
use Rattle.standard_order.proofs.NodeTags.{kind_class, name_class, none_past, tag_there, tags, tags_put, there}
use Rattle.standard_order.proofs.NodeKids.{target}
use Rattle.standard_order.proofs.NodeTops.{Rooted, is_root, same_element, same_element_at}
use Rattle.standard_order.proofs.TreeTops.{Elements, Filled, created_only, element_off, fresh_element, fresh_passes, held_is, place_off}
use Rattle.standard_order.proofs.PartKids.{Bald, Bodied, Emptied, Framed, Headed, Parts, fits, framed_end, is_body, is_frameset, is_head, kids_made}
use Rattle.standard_order.proofs.Chains.{Site, chain, context, is_inner, is_tabled, is_template, of, templates_in}
use Rattle.standard_order.proofs.PartTrees.{In, Nodes, Off, PlainForm, PlainFound, PlainListed, Step, bare_kept, cls, form_kept, found_kept, listed_kept, parts_for, step_element}
use Rattle.standard_order.proofs.PartTrees.{Bodies, bodies_element, bodies_same, first_body, is_single, unique_element, unique_same}
use Rattle.standard_order.proofs.PartPops.{one_any}

-- ---- places

not_fostering : (t : GrowingTree) (n : ℕ) → is_tabled (class_at (tags t.nodes) n) ≡ false → is_one t fostering_names n ≡ false
not_fostering t n off = by (is_one t fostering_names n) refl
  where
    by : (x : Bool) → is_one t fostering_names n ≡ x → is_one t fostering_names n ≡ false
    by true e = never (sym off ∙ one_any is_tabled fostering_names refl (λ name. refl) (λ name. refl) refl t.nodes n e)
    by false e = e

plain_place : (x y : Bool) (a b : Place) → y ≡ false → elim (x && y) as (λ _. Place) [ true ↦ a | false ↦ b ] ≡ b
plain_place true true a b e = never (sym e)
plain_place true false a b e = refl
plain_place false y a b e = refl

pub place_at : (t : GrowingTree) (n : ℕ) → is_tabled (class_at (tags t.nodes) n) ≡ false → place_in t n ≡ in_contents t (EndOf n)
place_at t n off = ap (in_contents t) (plain_place t.fostering (is_one t fostering_names n) (foster_place t t.stack) (EndOf n) (not_fostering t n off))

-- in `html` itself
pub place_root : (r : ℕ) (parts : Parts) (t : GrowingTree) → Nodes r parts t.nodes → place_in t r ≡ EndOf r
place_root r parts t h = place_at t r (ap is_tabled h.frame.root) ∙ ap (λ o. EndOf (unwrap_or o r)) none
  where
    none : contents_in (kind_of t r) ≡ None
    none = sym (ap (λ u. u.held) (tag_there t.nodes r (ap is_there h.frame.root))) ∙ h.bare

-- in another element
pub place_away : (r : ℕ) (parts : Parts) (t : GrowingTree) (n : ℕ) → Nodes r parts t.nodes → Elements (tags t.nodes) t.stack → Filled t.stack →
    is_tabled (class_at (tags t.nodes) n) ≡ false → is_element (class_at (tags t.nodes) n) ≡ true → is_root (class_at (tags t.nodes) n) ≡ false →
    Off r (place_in t n)
place_away r parts t n h open_ filled off element odd = (
  place_off Rooted t n (record { top = h.top; open_ = open_ }) filled element,
  subst (λ spot. target spot ≡ r → ⊥) (sym (place_at t n off)) (by (contents_in (kind_of t n)) refl),
)
  where
    html : (m : ℕ) → m ≡ r → class_at (tags t.nodes) m ≡ HtmlC
    html m e = ap (class_at (tags t.nodes)) e ∙ h.frame.root

    clash : (c : Cls) → c ≡ HtmlC → c ≡ ContentsC → ⊥
    clash c f g = never (ap is_root (sym g ∙ f))

    by : (o : Option ℕ) → contents_in (kind_of t n) ≡ o → unwrap_or o n ≡ r → ⊥
    by None e same = never (sym odd ∙ ap is_root (html n same))
    by (Some k) e same = clash (class_at (tags t.nodes) k) (html k same) (h.top.contents n k (held_is t.nodes n k e))

-- ---- another part

-- one element behind the others makes other parts of them
abbrev pub Adds : Parts → (Cls → Bool) → Parts → Type 0
Adds parts test next = (cs : List Cls) (c : Cls) → test c ≡ true → fits parts cs ≡ true → fits next (cs ++ c ∷ []) ≡ true

pub adds_head : Adds Bald is_head Headed
adds_head [] c t h = t
adds_head (d ∷ ds) c t h = never h

pub adds_body : Adds Headed is_body Bodied
adds_body [] c t h = never h
adds_body (d ∷ []) c t h = ap (λ x. x && is_body c) h ∙ t
adds_body (d ∷ e ∷ es) c t h = never h

pub adds_frameset : Adds Headed is_frameset Framed
adds_frameset [] c t h = never h
adds_frameset (d ∷ []) c t h = ap (λ x. x && is_frameset c) h ∙ t
adds_frameset (d ∷ e ∷ es) c t h = never h

pub adds_frameset_emptied : Adds Emptied is_frameset Framed
adds_frameset_emptied [] c t h = never h
adds_frameset_emptied (d ∷ []) c t h = ap (λ x. x && is_frameset c) h ∙ t
adds_frameset_emptied (d ∷ e ∷ es) c t h = never h

pub adds_any : (test : Cls → Bool) → Adds Framed test Framed
adds_any test [] c t h = never h
adds_any test (d ∷ []) c t h = never h
adds_any test (d ∷ e ∷ es) c t h = h

root_off : (r : ℕ) (parts : Parts) (nodes : List Node) → Nodes r parts nodes → r ≡ 0 → ⊥
root_off r parts nodes h e = element_off Rooted nodes r h.top (ap is_element h.frame.root) e

pub nodes_end : (r : ℕ) (parts next : Parts) (test : Cls → Bool) (space : Space) (name : List ℕ) (attrs : List NodeAttr) (t : GrowingTree) → test NoC ≡ false →
    ((contents : Option ℕ) → test (kind_class (ElementNode space name attrs contents)) ≡ true) →
    ((contents : Option ℕ) → is_root (kind_class (ElementNode space name attrs contents)) ≡ false) → Adds parts test next →
    (Bodies parts (tags t.nodes) → Bodies next (tags (created_element space name attrs t).nodes)) → Nodes r parts t.nodes →
    Nodes r next (put_at (fresh t) (EndOf r) (created_element space name attrs t).nodes)
nodes_end r parts next test space name attrs t off is odd adds bodies h = record {
  top = same.top Rooted h.top;
  frame = framed_end r parts next (fresh t) t.nodes mid (none_past t.nodes) element (there is_element refl _ element)
      (λ cs k. adds cs (class_at (tags mid) (fresh t)) (fresh_passes test off space name attrs is t) k)
      (same_element space name attrs t).keeps (kids_made space name attrs t r (ap is_there h.frame.root)) h.frame;
  unique = unique_same r (tags mid) _ (tags_put (fresh t) (EndOf r) mid) (unique_element r space name attrs t odd h.unique);
  bodies = bodies_same next (tags mid) _ (tags_put (fresh t) (EndOf r) mid) (bodies h.bodies);
  bare = bare_kept r parts t.nodes _ same.keeps h;
}
  where
    mid : List Node
    mid = (created_element space name attrs t).nodes

    element : is_element (class_at (tags (created_element space name attrs t).nodes) (fresh t)) ≡ true
    element = fresh_element space name attrs t

    same : Rattle.standard_order.proofs.NodeTops.Same t.nodes (put_at (fresh t) (EndOf r) (created_element space name attrs t).nodes)
    same = same_element_at (EndOf r) space name attrs t (root_off r parts t.nodes h)

-- ---- the first elements

-- what the lists and the pointers name are ordinary elements
pub record Plainly (t : GrowingTree) : Type 0 where
  pub listed : PlainListed (tags t.nodes) t.listed
  pub form : PlainForm (tags t.nodes) t.form
  pub page : t.context ≡ None
  pub found : PlainFound (tags t.nodes) t.found

pub plainly_kept : (t : GrowingTree) (nodes : List Node) (s : List ℕ) → Keeps (tags t.nodes) (tags nodes) → Plainly t → Plainly (record t { nodes = nodes; stack = s })
plainly_kept t nodes s keeps h = record {
  listed = listed_kept (tags t.nodes) (tags nodes) keeps t.listed h.listed;
  form = form_kept (tags t.nodes) (tags nodes) keeps t.form h.form;
  page = h.page;
  found = found_kept (tags t.nodes) (tags nodes) keeps t.found h.found;
}

-- only these are open
pub record Open (r : ℕ) (parts : Parts) (stack : List ℕ) (t : GrowingTree) : Type 0 where
  pub nodes : Nodes r parts t.nodes
  pub stack_is : t.stack ≡ stack
  pub plainly : Plainly t

-- an element is pushed, and is put into `html`
pub open_part : (r : ℕ) (parts next : Parts) (test : Cls → Bool) (name : List ℕ) (attrs : List NodeAttr) (t : GrowingTree) → test NoC ≡ false →
    test (name_class name) ≡ true → is_root (name_class name) ≡ false → Adds parts test next →
    (Bodies parts (tags t.nodes) → Bodies next (tags (created_element Html name attrs t).nodes)) → Open r parts (r ∷ []) t →
    Open r next (fresh t ∷ r ∷ []) (inserted Html name attrs t) × (test (class_at (tags (inserted Html name attrs t).nodes) (fresh t)) ≡ true)
open_part r parts next test name attrs t off is odd adds bodies h =
    subst (λ (made : GrowingTree). Open r next (fresh t ∷ r ∷ []) (pushed (fresh t) (put (fresh t) (place t) made)) ×
    (test (class_at (tags (put (fresh t) (place t) made).nodes) (fresh t)) ≡ true)) (sym (created_only Html name attrs t))
    (subst (λ spot. Open r next (fresh t ∷ r ∷ []) (pushed (fresh t) (record t { nodes = put_at (fresh t) spot (created_element Html name attrs t).nodes })) ×
    (test (class_at (tags (put_at (fresh t) spot (created_element Html name attrs t).nodes)) (fresh t)) ≡ true)) (sym spot_is) (
      record {
        nodes = nodes_end r parts next test Html name attrs t off (λ contents. is) (λ contents. odd) adds bodies h.nodes;
        stack_is = ap (λ s. fresh t ∷ s) h.stack_is;
        plainly = plainly_kept t (put_at (fresh t) (EndOf r) (created_element Html name attrs t).nodes) (fresh t ∷ t.stack)
            (same_element_at (EndOf r) Html name attrs t (root_off r parts t.nodes h.nodes)).keeps h.plainly;
      },
      subst (λ ts. test (class_at ts (fresh t)) ≡ true) (sym (tags_put (fresh t) (EndOf r) (created_element Html name attrs t).nodes))
          (fresh_passes test off Html name attrs (λ contents. is) t),
    ))
  where
    spot_is : place t ≡ EndOf r
    spot_is = ap (λ s. place_in t (top s)) h.stack_is ∙ place_root r parts t h.nodes

body_is : (c : Cls) → is_body c ≡ true → c ≡ BodyC
body_is BodyC h = refl
body_is _ h = never h

head_is : (c : Cls) → is_head c ≡ true → c ≡ HeadC
head_is HeadC h = refl
head_is _ h = never h

template_is : (c : Cls) → is_template c ≡ true → c ≡ TemplateC
template_is TemplateC h = refl
template_is _ h = never h

-- from the classes of the open elements
pub in_classes : (r : ℕ) (c : Site) (cs : List Cls) (t : GrowingTree) → cls t ≡ cs → Nodes r (parts_for cs) t.nodes → Elements (tags t.nodes) t.stack →
    chain cs ≡ true → context cs ≡ c.inner → templates_in cs ≡ c.templates → is_inner c.inner ≡ true → Plainly t → In r c t
in_classes r c cs t e nodes open_ chained within few inner plainly = record {
  nodes = subst (λ ds. Nodes r (parts_for ds) t.nodes) (sym e) nodes;
  open_ = open_;
  chained = ap chain e ∙ chained;
  within = ap context e ∙ within;
  few = ap templates_in e ∙ few;
  inner = inner;
  listed = plainly.listed;
  form = plainly.form;
  page = plainly.page;
  found = plainly.found;
}

abbrev pub in_body : Site
in_body = record { inner = BodyC; templates = 0 }

abbrev pub in_template : Site
in_template = record { inner = TemplateC; templates = 1 }

-- a body
pub in_body_begun : (r : ℕ) (name : List ℕ) (attrs : List NodeAttr) (t : GrowingTree) → name_class name ≡ BodyC → Open r Headed (r ∷ []) t →
    In r in_body (inserted Html name attrs t)
in_body_begun r name attrs t is h = by (open_part r Headed Bodied is_body name attrs t refl (ap is_body is) (ap is_root is) adds_body
    (λ none. first_body Html name attrs t none) h)
  where
    by : Open r Bodied (fresh t ∷ r ∷ []) (inserted Html name attrs t) × (is_body (class_at (tags (inserted Html name attrs t).nodes) (fresh t)) ≡ true) →
        In r in_body (inserted Html name attrs t)
    by (o, new) = in_classes r in_body (BodyC ∷ HtmlC ∷ []) (inserted Html name attrs t)
        (ap (of f) o.stack_is ∙ ap (λ c. c ∷ f r ∷ []) (body_is (f (fresh t)) new) ∙ ap (λ c. BodyC ∷ c ∷ []) o.nodes.frame.root)
        o.nodes (subst (Elements (tags (inserted Html name attrs t).nodes)) (sym o.stack_is)
        (ap (λ c. is_element c && (is_element (f r) && true)) (body_is (f (fresh t)) new) ∙ ap (λ c. is_element c && true) o.nodes.frame.root))
        refl refl refl refl o.plainly
      where
        f : ℕ → Cls
        f = class_at (tags (inserted Html name attrs t).nodes)

-- a head
pub head_begun : (r : ℕ) (name : List ℕ) (attrs : List NodeAttr) (t : GrowingTree) → name_class name ≡ HeadC → Open r Bald (r ∷ []) t →
    Open r Headed (fresh t ∷ r ∷ []) (inserted Html name attrs t) × (is_head (class_at (tags (inserted Html name attrs t).nodes) (fresh t)) ≡ true)
head_begun r name attrs t is h = open_part r Bald Headed is_head name attrs t refl (ap is_head is) (ap is_root is) adds_head
    (λ none. bodies_element Headed Html name attrs t (λ contents. ap is_body is) none) h

-- a frameset
pub frameset_begun : (r : ℕ) (parts : Parts) (name : List ℕ) (attrs : List NodeAttr) (t : GrowingTree) → name_class name ≡ FramesetC → Adds parts is_frameset Framed →
    Open r parts (r ∷ []) t →
    Open r Framed (fresh t ∷ r ∷ []) (inserted Html name attrs t) × (is_frameset (class_at (tags (inserted Html name attrs t).nodes) (fresh t)) ≡ true)
frameset_begun r parts name attrs t is adds h =
    open_part r parts Framed is_frameset name attrs t refl (ap is_frameset is) (ap is_root is) adds (λ none. tt) h

-- ---- in the head

-- an element is pushed in the head
pub open_in_head : (r h : ℕ) (test : Cls → Bool) (name : List ℕ) (attrs : List NodeAttr) (t : GrowingTree) → test NoC ≡ false → test (name_class name) ≡ true →
    is_single (name_class name) ≡ false → is_head (class_at (tags t.nodes) h) ≡ true → Open r Headed (h ∷ r ∷ []) t →
    Open r Headed (fresh t ∷ h ∷ r ∷ []) (inserted Html name attrs t) × (test (class_at (tags (inserted Html name attrs t).nodes) (fresh t)) ≡ true)
    × (is_head (class_at (tags (inserted Html name attrs t).nodes) h) ≡ true)
open_in_head r h test name attrs t off is odd head o =
    subst (λ (made : GrowingTree). Open r Headed (fresh t ∷ h ∷ r ∷ []) (pushed (fresh t) (put (fresh t) (place t) made)) ×
    (test (class_at (tags (put (fresh t) (place t) made).nodes) (fresh t)) ≡ true) × (is_head (class_at (tags (put (fresh t) (place t) made).nodes) h) ≡ true))
    (sym (created_only Html name attrs t)) (
      record {
        nodes = step.nodes o.nodes;
        stack_is = ap (λ s. fresh t ∷ s) o.stack_is;
        plainly = plainly_kept t (put_at (fresh t) (place t) (created_element Html name attrs t).nodes) (fresh t ∷ t.stack) step.keeps o.plainly;
      },
      subst (λ ts. test (class_at ts (fresh t)) ≡ true) (sym (tags_put (fresh t) (place t) (created_element Html name attrs t).nodes))
          (fresh_passes test off Html name attrs (λ contents. is) t),
      class_kept is_head refl (tags t.nodes) _ step.keeps h head,
    )
  where
    head_class : class_at (tags t.nodes) h ≡ HeadC
    head_class = head_is _ head

    elements : Elements (tags t.nodes) t.stack
    elements = subst (Elements (tags t.nodes)) (sym o.stack_is)
        (ap (λ c. is_element c && (is_element (class_at (tags t.nodes) r) && true)) head_class ∙ ap (λ c. is_element c && true) o.nodes.frame.root)

    filled : Filled t.stack
    filled e = some (sym o.stack_is ∙ e)
      where
        some : h ∷ r ∷ [] ≡ [] → ⊥
        some k = cc

    away : Off r (place t)
    away = subst (λ n. Off r (place_in t n)) (sym (ap top o.stack_is))
        (place_away r Headed t h o.nodes elements filled (ap is_tabled head_class) (ap is_element head_class) (ap is_root head_class))

    step : Step r Headed t.nodes (put_at (fresh t) (place t) (created_element Html name attrs t).nodes)
    step = step_element r Headed (place t) Html name attrs t away (λ contents. odd)

-- a template
pub in_template_begun : (r h : ℕ) (name : List ℕ) (attrs : List NodeAttr) (t : GrowingTree) → name_class name ≡ TemplateC → is_head (class_at (tags t.nodes) h) ≡ true →
    Open r Headed (h ∷ r ∷ []) t → In r in_template (inserted Html name attrs t)
in_template_begun r h name attrs t is head o = by (open_in_head r h is_template name attrs t refl (ap is_template is) (ap is_single is) head o)
  where
    by : Open r Headed (fresh t ∷ h ∷ r ∷ []) (inserted Html name attrs t) × (is_template (class_at (tags (inserted Html name attrs t).nodes) (fresh t)) ≡ true)
        × (is_head (class_at (tags (inserted Html name attrs t).nodes) h) ≡ true) → In r in_template (inserted Html name attrs t)
    by (o, new, still) = in_classes r in_template (TemplateC ∷ HeadC ∷ HtmlC ∷ []) (inserted Html name attrs t)
        (ap (of f) o.stack_is ∙ ap (λ c. c ∷ f h ∷ f r ∷ []) (template_is (f (fresh t)) new) ∙ ap (λ c. TemplateC ∷ c ∷ f r ∷ []) (head_is (f h) still)
        ∙ ap (λ c. TemplateC ∷ HeadC ∷ c ∷ []) o.nodes.frame.root)
        o.nodes (subst (Elements (tags (inserted Html name attrs t).nodes)) (sym o.stack_is)
        (ap (λ c. is_element c && (is_element (f h) && (is_element (f r) && true))) (template_is (f (fresh t)) new)
        ∙ ap (λ c. is_element c && (is_element (f r) && true)) (head_is (f h) still) ∙ ap (λ c. is_element c && true) o.nodes.frame.root))
        refl refl refl refl o.plainly
      where
        f : ℕ → Cls
        f = class_at (tags (inserted Html name attrs t).nodes)
