-- In the modes of the body: elements in which another mode is told, as they are opened and popped.
use Rattle.std.specs.Prelude.{◌≡◌, ◌&&◌, ◌||◌, refl, ℕ, Bool, true, false, not, List, [], ◌∷◌, ◌++◌, codes, drop}
use Rattle.std.specs.List.{list_all}
use mathlib.Core.Path.{◌∙◌, sym, ap, subst}
use Rattle.standard_trees.specs.TreeStore.{Html, Node, NodeAttr, put_at}
use Rattle.standard_trees.specs.GrowingTree.{GrowingTree, beyond, created_element, fresh, inserted, is_among, is_one, past, place}
use Rattle.standard_trees.specs.GrowingTree.{popped_up_to, pushed, put, with_stack}
use Rattle.standard_order.proofs.StandingStacks.{both, never}
use Rattle.standard_order.proofs.NodeTags.{BodyC, CaptionC, CellC, Cls, GroupC, PlainC, RowC, TableC, TemplateC, Tag, class_at, classes, is_element, name_class, tags, tags_put}
use Rattle.standard_order.proofs.TreeTops.{Elements, created_only, elements_beyond, fresh_passes}
use Rattle.standard_order.proofs.PartKids.{is_body}
use Rattle.standard_order.proofs.Chains.{Rest, Site, above, chain, chain_cons, context, first, has_body, is_deep, is_inner, is_plain, of, on}
use Rattle.standard_order.proofs.Chains.{counted_on, rest_both, rest_same, rest_tail, site_of, templates_in}
use Rattle.standard_order.proofs.PartTrees.{In, cls, in_nodes, in_rest, is_single, parts_for, step_element}
use Rattle.standard_order.proofs.PartPlaces.{class_is_one, current_place, deep_element, names_have}
use Rattle.standard_order.proofs.PartPops.{one_any}

-- ---- another innermost element

pub in_turned : (r : ℕ) (c d : Site) (t : GrowingTree) (s : List ℕ) → chain (of (class_at (tags t.nodes)) s) ≡ true →
    context (of (class_at (tags t.nodes)) s) ≡ d.inner → is_inner d.inner ≡ true → has_body (of (class_at (tags t.nodes)) s) ≡ has_body (cls t) →
    templates_in (of (class_at (tags t.nodes)) s) ≡ d.templates →
    Elements (tags t.nodes) s → In r c t → In r d (with_stack t s)
in_turned r c d t s chained within inner body few elements i = record {
  nodes = subst (λ x. Rattle.standard_order.proofs.PartTrees.Nodes r (elim x as (λ _. Rattle.standard_order.proofs.PartKids.Parts) [
    | true ↦ Rattle.standard_order.proofs.PartKids.Bodied
    | false ↦ Rattle.standard_order.proofs.PartKids.Headed
  ]) t.nodes) (sym body) i.nodes;
  open_ = elements;
  chained = chained;
  within = within;
  few = few;
  inner = inner;
  listed = i.listed;
  form = i.form;
  page = i.page;
  found = i.found;
}

-- elements in which another mode of the body is told, but for `body`
abbrev pub is_opened : Cls → Bool
is_opened BodyC = false
is_opened c = is_inner c

pub opened_inner : (d : Cls) → is_opened d ≡ true → is_inner d ≡ true
opened_inner BodyC h = never h
opened_inner PlainC h = never h
opened_inner TemplateC h = refl
opened_inner TableC h = refl
opened_inner GroupC h = refl
opened_inner RowC h = refl
opened_inner CellC h = refl
opened_inner CaptionC h = refl
opened_inner _ h = never h

pub inner_odd : (d : Cls) → is_inner d ≡ true → is_plain d ≡ false
inner_odd PlainC h = never h
inner_odd _ h = refl

opened_body : (d : Cls) → is_opened d ≡ true → is_body d ≡ false
opened_body BodyC h = never h
opened_body _ h = refl

opened_single : (d : Cls) → is_opened d ≡ true → is_single d ≡ false
opened_single BodyC h = never h
opened_single Rattle.standard_order.proofs.NodeTags.HtmlC h = never h
opened_single _ h = refl

pub inner_element : (d : Cls) → is_inner d ≡ true → is_element d ≡ true
inner_element d h = deep_element d (ap (λ x. x || is_inner d) (inner_odd d h) ∙ h)

-- two classes are equal, and are of inner elements
abbrev pub same_inner : Cls → Cls → Bool
same_inner TemplateC TemplateC = true
same_inner TableC TableC = true
same_inner GroupC GroupC = true
same_inner RowC RowC = true
same_inner CellC CellC = true
same_inner CaptionC CaptionC = true
same_inner BodyC BodyC = true
same_inner _ _ = false

pub same_none : (d : Cls) → same_inner d Rattle.standard_order.proofs.NodeTags.NoC ≡ false
same_none TemplateC = refl
same_none TableC = refl
same_none GroupC = refl
same_none RowC = refl
same_none CellC = refl
same_none CaptionC = refl
same_none BodyC = refl
same_none _ = refl

pub same_self : (d : Cls) → is_inner d ≡ true → same_inner d d ≡ true
same_self TemplateC h = refl
same_self TableC h = refl
same_self GroupC h = refl
same_self RowC h = refl
same_self CellC h = refl
same_self CaptionC h = refl
same_self BodyC h = refl
same_self _ h = never h

pub same_is : (d x : Cls) → same_inner d x ≡ true → x ≡ d
same_is TemplateC TemplateC h = refl
same_is TableC TableC h = refl
same_is GroupC GroupC h = refl
same_is RowC RowC h = refl
same_is CellC CellC h = refl
same_is CaptionC CaptionC h = refl
same_is BodyC BodyC h = refl
same_is _ _ h = never h

-- such an element is pushed
pub in_pushed_inner : (r : ℕ) (c : Site) (d : Cls) (t : GrowingTree) (n : ℕ) → class_at (tags t.nodes) n ≡ d → is_opened d ≡ true →
    on d (first (cls t)) ≡ true → In r c t → In r (above d c) (pushed n t)
in_pushed_inner r c d t n e o stands i =
    in_turned r c (above d c) t (n ∷ t.stack)
    (ap (λ x. chain (x ∷ cls t)) e ∙ chain_cons d (cls t) stands i.chained)
    (ap (λ x. elim (is_plain x) as (λ _. Cls) [ true ↦ context (cls t) | false ↦ x ]) e ∙ ap (λ x. elim x as (λ _. Cls) [ true ↦ context (cls t) | false ↦ d ])
    (inner_odd d (opened_inner d o)))
    (opened_inner d o)
    (ap (λ x. is_body x || has_body (cls t)) e ∙ ap (λ x. x || has_body (cls t)) (opened_body d o))
    (ap (λ x. counted_on x (templates_in (cls t))) e ∙ ap (counted_on d) i.few)
    (ap (λ x. is_element x && list_all (λ j. is_element (class_at (tags t.nodes) j)) t.stack) e
    ∙ ap (λ x. x && list_all (λ j. is_element (class_at (tags t.nodes) j)) t.stack) (inner_element d (opened_inner d o)) ∙ i.open_) i

pub in_opened : (r : ℕ) (c : Site) (d : Cls) (name : List ℕ) (attrs : List NodeAttr) (t : GrowingTree) → name_class name ≡ d → is_opened d ≡ true →
    on d (first (cls t)) ≡ true → In r c t → In r (above d c) (inserted Html name attrs t)
in_opened r c d name attrs t e o stands i =
    subst (λ (made : GrowingTree). In r (above d c) (pushed (fresh t) (put (fresh t) (place t) made))) (sym (created_only Html name attrs t))
    (in_pushed_inner r c d (record t { nodes = nodes }) (fresh t) new o (subst (λ cs. on d (first cs) ≡ true) (sym same) stands)
    (in_nodes r c t nodes step i))
  where
    nodes : List Node
    nodes = put_at (fresh t) (place t) (created_element Html name attrs t).nodes

    step : Rattle.standard_order.proofs.PartTrees.Step r (parts_for (cls t)) t.nodes (put_at (fresh t) (place t) (created_element Html name attrs t).nodes)
    step = step_element r (parts_for (cls t)) (place t) Html name attrs t (current_place r c t i) (λ contents. ap is_single e ∙ opened_single d o)

    same : of (class_at (tags nodes)) t.stack ≡ cls t
    same = Rattle.standard_order.proofs.PartKids.classes_kept (tags t.nodes) (tags nodes) step.keeps t.stack
        (Rattle.standard_order.proofs.PartTrees.elements_there (tags t.nodes) t.stack i.open_)

    new : class_at (tags nodes) (fresh t) ≡ d
    new = same_is d _ (subst (λ ts. same_inner d (class_at ts (fresh t)) ≡ true) (sym (tags_put (fresh t) (place t) (created_element Html name attrs t).nodes))
        (fresh_passes (same_inner d) (same_none d) Html name attrs (λ contents. ap (same_inner d) e ∙ same_self d (opened_inner d o)) t))

-- ---- elements that are popped

-- up to one that doesn't pass, and that one, too
pub past_beyond : (test : ℕ → Bool) (s : List ℕ) → past test s ≡ drop 1 (beyond (λ n. not (test n)) s)
past_beyond test [] = refl
past_beyond test (n ∷ ns) = by (test n) (past_beyond test ns)
  where
    by : (x : Bool) → past test ns ≡ drop 1 (beyond (λ m. not (test m)) ns) →
        elim x as (λ _. List ℕ) [ true ↦ ns | false ↦ past test ns ] ≡
        drop 1 (elim (not x) as (λ _. List ℕ) [ true ↦ beyond (λ m. not (test m)) ns | false ↦ n ∷ ns ])
    by true rest = refl
    by false rest = rest

-- names of elements that aren't ordinary
pub record OddNames (names : List (List ℕ)) : Type 0 where
  pub all : list_all (λ one. not (is_plain (name_class one))) names ≡ true
  pub svg : (name : List ℕ) → is_among (codes "svg " ++ name) names ≡ false
  pub math : (name : List ℕ) → is_among (codes "math " ++ name) names ≡ false
  pub none : is_among [] names ≡ false

pub odd_named : (names : List (List ℕ)) → OddNames names → (t : GrowingTree) (n : ℕ) → is_plain (class_at (tags t.nodes) n) ≡ true → is_one t names n ≡ false
odd_named names odd t n p = by (is_one t names n) refl
  where
    by : (x : Bool) → is_one t names n ≡ x → is_one t names n ≡ false
    by true e = never (sym (ap not p) ∙ one_any (λ c. not (is_plain c)) names odd.all odd.svg odd.math odd.none t.nodes n e)
    by false e = e

-- what is left, where the innermost element is one that stays
pub record Up (f : ℕ → Cls) (c : Cls) (s q : List ℕ) : Type 0 where
  pub rest : Rest (of f s) (of f q)
  pub now : first (of f q) ≡ c

pub up_to : (t : GrowingTree) (c : Cls) (names : List (List ℕ)) → OddNames names → is_plain c ≡ false →
    ((n : ℕ) → is_element (class_at (tags t.nodes) n) ≡ true → class_at (tags t.nodes) n ≡ c → is_one t names n ≡ true) → (s : List ℕ) →
    chain (of (class_at (tags t.nodes)) s) ≡ true → Elements (tags t.nodes) s → context (of (class_at (tags t.nodes)) s) ≡ c →
    Up (class_at (tags t.nodes)) c s (beyond (λ n. not (is_one t names n)) s)
up_to t c names odd inner has [] h e w = never h
up_to t c names odd inner has (n ∷ ns) h e w = by (is_plain (class_at (tags t.nodes) n)) refl w (λ k l. up_to t c names odd inner has ns k elements.1 l)
  where
    f : ℕ → Cls
    f = class_at (tags t.nodes)

    elements : (is_element (class_at (tags t.nodes) n) ≡ true) × Elements (tags t.nodes) ns
    elements = both (is_element (class_at (tags t.nodes) n)) (list_all (λ i. is_element (class_at (tags t.nodes) i)) ns) e

    stays : is_one t names n ≡ true → f n ≡ c → Up f c (n ∷ ns) (beyond (λ m. not (is_one t names m)) (n ∷ ns))
    stays one k = subst (λ x. Up f c (n ∷ ns) (elim (not x) as (λ _. List ℕ) [ true ↦ beyond (λ m. not (is_one t names m)) ns | false ↦ n ∷ ns ]))
        (sym one) (record { rest = rest_same (of f (n ∷ ns)) h; now = k })

    goes_ : is_one t names n ≡ false → Up f c (n ∷ ns) (beyond (λ m. not (is_one t names m)) ns) →
        Up f c (n ∷ ns) (beyond (λ m. not (is_one t names m)) (n ∷ ns))
    goes_ one up = subst (λ x. Up f c (n ∷ ns) (elim (not x) as (λ _. List ℕ) [ true ↦ beyond (λ m. not (is_one t names m)) ns | false ↦ n ∷ ns ]))
        (sym one) up

    by : (x : Bool) → is_plain (f n) ≡ x → elim x as (λ _. Cls) [ true ↦ context (of f ns) | false ↦ f n ] ≡ c →
        (chain (of f ns) ≡ true → context (of f ns) ≡ c → Up f c ns (beyond (λ m. not (is_one t names m)) ns)) →
        Up f c (n ∷ ns) (beyond (λ m. not (is_one t names m)) (n ∷ ns))
    by true p k go =
        let one : Rest (f n ∷ of f ns) (of f ns) = rest_tail (f n) (of f ns) p h in
        let up : Up f c ns (beyond (λ m. not (is_one t names m)) ns) = go one.chained k in
        goes_ (odd_named names odd t n p) (record { rest = rest_both (f n ∷ of f ns) (of f ns) _ one up.rest; now = up.now })
    by false p k go = stays (has n elements.0 k) k

-- the names are those of all elements of the class
pub class_has : (test : Cls → Bool) (names : List (List ℕ)) → names_have test names classes ≡ true → test Rattle.standard_order.proofs.NodeTags.NoC ≡ false →
    (t : GrowingTree) (c : Cls) → test c ≡ true → (n : ℕ) → is_element (class_at (tags t.nodes) n) ≡ true → class_at (tags t.nodes) n ≡ c → is_one t names n ≡ true
class_has test names all off t c h n e same = class_is_one test names all off t n e (ap test same ∙ h)

pub record InAt (r : ℕ) (c : Site) (t : GrowingTree) : Type 0 where
  pub now : In r c t
  pub top_ : first (cls t) ≡ c.inner

-- "clear the stack back to a table context" and the like
pub in_up_to : (r : ℕ) (c : Site) (t : GrowingTree) (names : List (List ℕ)) → OddNames names →
    ((n : ℕ) → is_element (class_at (tags t.nodes) n) ≡ true → class_at (tags t.nodes) n ≡ c.inner → is_one t names n ≡ true) → In r c t →
    InAt r c (popped_up_to names t)
in_up_to r c t names odd has i =
    let up : Up (class_at (tags t.nodes)) c.inner t.stack (beyond (λ n. not (is_one t names n)) t.stack) =
    up_to t c.inner names odd (inner_odd c.inner i.inner) has t.stack i.chained i.open_ i.within in
    record {
      now = in_rest r c t (beyond (λ n. not (is_one t names n)) t.stack) up.rest
          (elements_beyond (tags t.nodes) (λ n. not (is_one t names n)) t.stack i.open_) i;
      top_ = up.now;
    }

-- below these is another such element
pub deep_inner : (cs : List Cls) → chain cs ≡ true → is_deep (first cs) ≡ true → is_inner (context cs) ≡ true
deep_inner [] h d = never h
deep_inner (c ∷ cs) h d = by cs (is_plain c) refl h d (λ k l. deep_inner cs k l)
  where
    by : (ds : List Cls) (x : Bool) → is_plain c ≡ x → chain (c ∷ ds) ≡ true → x || is_inner c ≡ true →
        (chain ds ≡ true → is_deep (first ds) ≡ true → is_inner (context ds) ≡ true) →
        is_inner (elim x as (λ _. Cls) [ true ↦ context ds | false ↦ c ]) ≡ true
    by ds false p k l go = l
    by [] true p k l go = never (sym (Rattle.standard_order.proofs.PartTrees.plain_root c p) ∙ k)
    by (e ∷ es) true p k l go =
        go (both (on c e) (chain (e ∷ es)) k).1 (below c e p (both (on c e) (chain (e ∷ es)) k).0)
      where
        below : (c e : Cls) → is_plain c ≡ true → on c e ≡ true → is_deep e ≡ true
        below PlainC e q m = m
        below _ e q m = never q

abbrev pub tail : List Cls → List Cls
tail [] = []
tail (c ∷ cs) = cs

pub in_popped_inner : (r : ℕ) (c : Site) (t : GrowingTree) → InAt r c t → is_opened c.inner ≡ true → is_deep (first (tail (cls t))) ≡ true →
    In r (site_of (tail (cls t))) (with_stack t (drop 1 t.stack))
in_popped_inner r c t at o deep = by t.stack at.now.chained at.now.open_ at.top_ deep (λ s k j b e. in_turned r c (site_of (of (class_at (tags t.nodes)) s)) t s k refl j b refl e at.now)
  where
    f : ℕ → Cls
    f = class_at (tags t.nodes)

    by : (s : List ℕ) → chain (of f s) ≡ true → Elements (tags t.nodes) s → first (of f s) ≡ c.inner → is_deep (first (tail (of f s))) ≡ true →
        ((q : List ℕ) → chain (of f q) ≡ true → is_inner (context (of f q)) ≡ true → has_body (of f q) ≡ has_body (of f s) →
        Elements (tags t.nodes) q → In r (site_of (of f q)) (with_stack t q)) →
        In r (site_of (tail (of f s))) (with_stack t (drop 1 s))
    by [] h e k d go = never h
    by (n ∷ []) h e k d go = never d
    by (n ∷ m ∷ ms) h e k d go =
        let links : (on (f n) (f m) ≡ true) × (chain (of f (m ∷ ms)) ≡ true) = both (on (f n) (f m)) (chain (of f (m ∷ ms))) h in
        go (m ∷ ms) links.1 (deep_inner (of f (m ∷ ms)) links.1 d)
        (sym (ap (λ x. is_body x || has_body (of f (m ∷ ms))) k ∙ ap (λ x. x || has_body (of f (m ∷ ms))) (opened_body c.inner o)))
        (both (is_element (f n)) (list_all (λ j. is_element (f j)) (m ∷ ms)) e).1
