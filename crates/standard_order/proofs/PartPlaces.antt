-- In the modes of the body nothing is put into `html`: where "the appropriate place for inserting a node" is, and what is inserted there.
use Rattle.std.specs.Prelude.{◌≡◌, ◌&&◌, ◌||◌, refl, ℕ, zero, suc, Bool, true, false, not, List, [], ◌∷◌, ◌++◌, Option, None, Some, codes}
use Rattle.std.specs.List.{list_all, list_any}
use Rattle.std.proofs.lemmas.Option.{same_Some}
use mathlib.Core.Path.{◌∙◌, sym, ap, subst}
use Rattle.standard_trees.specs.NameLists.{fostering_names}
use Rattle.standard_trees.specs.TreeStore.{Before, CommentNode, ContentsNode, DoctypeNode, DocumentNode, ElementNode, EndOf, Html, Kind, MathMl, Node, NodeAttr}
use Rattle.standard_trees.specs.TreeStore.{Place, Space, Svg, TextNode, is_member, key_in, parent_from, parent_of, put_at}
use Rattle.standard_trees.specs.GrowingTree.{GrowingTree, created_element, current, foster_place, fresh, inserted, is_among}
use Rattle.standard_trees.specs.GrowingTree.{is_one, kind_of, place, place_in, pushed, put, top}
use Rattle.standard_order.proofs.StandingStacks.{both, never}
use Rattle.standard_order.proofs.GoodTrees.{AllHeld, AllListed, closed_held, held, held_grown, held_reversed, makes_inserted}
use Rattle.standard_order.proofs.NodeTags.{Cls, Entry as ClassEntry, HtmlC, NoC, PlainC, Tag, class_at, class_in, class_kept, class_of, classes, is_element, is_there}
use Rattle.standard_order.proofs.NodeTags.{kind_class, name_class, tag_at, tag_of, tag_there, tags, tags_put, there}
use Rattle.standard_order.proofs.NodeKids.{counted_member, kids, target}
use Rattle.standard_order.proofs.NodeTops.{Rooted, is_root}
use Rattle.standard_order.proofs.TreeTops.{Elements, Filled, created_only, fresh_passes, place_off}
use Rattle.standard_order.proofs.PartKids.{all_parts, is_part, parts_in}
use Rattle.standard_order.proofs.Chains.{Site, chain, first, first_deep, is_deep, is_host, is_inner, is_plain, is_table, is_tabled, is_template, of, on}
use Rattle.standard_order.proofs.Chains.{tabled_host}
use Rattle.standard_order.proofs.PartTrees.{In, Off, cls, deep_off, doc_in, in_contents_html, in_nodes, in_pushed, named_class, parts_for, plain_single}
use Rattle.standard_order.proofs.PartTrees.{plainly_for, step_element}

-- ---- names and classes

-- an element of these names is of such a class
pub one_class : (test : Cls → Bool) (names : List (List ℕ)) → list_all (λ one. test (name_class one)) names ≡ true →
    ((name : List ℕ) → is_among (codes "svg " ++ name) names ≡ false) → ((name : List ℕ) → is_among (codes "math " ++ name) names ≡ false) →
    is_among [] names ≡ false → (kind : Kind) → is_among (key_in kind) names ≡ true → test (kind_class kind) ≡ true
one_class test names all svg math none (ElementNode Html name attrs contents) h = named_class test name names all h
one_class test names all svg math none (ElementNode Svg name attrs contents) h = never (sym (svg name) ∙ h)
one_class test names all svg math none (ElementNode MathMl name attrs contents) h = never (sym (math name) ∙ h)
one_class test names all svg math none (TextNode text) h = never (sym none ∙ h)
one_class test names all svg math none (CommentNode text) h = never (sym none ∙ h)
one_class test names all svg math none (DoctypeNode d) h = never (sym none ∙ h)
one_class test names all svg math none DocumentNode h = never (sym none ∙ h)
one_class test names all svg math none ContentsNode h = never (sym none ∙ h)

pub one_at : (test : Cls → Bool) (names : List (List ℕ)) → list_all (λ one. test (name_class one)) names ≡ true →
    ((name : List ℕ) → is_among (codes "svg " ++ name) names ≡ false) → ((name : List ℕ) → is_among (codes "math " ++ name) names ≡ false) →
    is_among [] names ≡ false → (t : GrowingTree) (n : ℕ) → is_element (class_at (tags t.nodes) n) ≡ true → is_one t names n ≡ true →
    test (class_at (tags t.nodes) n) ≡ true
one_at test names all svg math none t n e h =
    subst (λ u. test u.cls ≡ true) (sym (tag_there t.nodes n (there is_element refl (class_at (tags t.nodes) n) e)))
    (one_class test names all svg math none (kind_of t n) h)

-- the names of such a class are these
abbrev pub names_have : (Cls → Bool) → List (List ℕ) → List ClassEntry → Bool
names_have test names [] = not (test PlainC)
names_have test names (class_of some one ∷ more) = (not (test one) || list_all (λ name. is_among name names) some) && names_have test names more

pub class_among : (test : Cls → Bool) (names : List (List ℕ)) (es : List ClassEntry) → names_have test names es ≡ true → (name : List ℕ) →
    test (class_in es name) ≡ true → is_among name names ≡ true
class_among test names [] all name h = never (sym (ap not h) ∙ all)
class_among test names (class_of some one ∷ more) all name h =
    by (is_among name some) refl h (λ k. class_among test names more (both _ (names_have test names more) all).1 name k)
  where
    has : test one ≡ true → list_all (λ n. is_among n names) some ≡ true
    has t = sym (ap (λ x. not x || list_all (λ n. is_among n names) some) t) ∙ (both (not (test one) || list_all (λ n. is_among n names) some) (names_have test names more) all).0

    by : (x : Bool) → is_among name some ≡ x → test (elim x as (λ _. Cls) [ true ↦ one | false ↦ class_in more name ]) ≡ true →
        (test (class_in more name) ≡ true → is_among name names ≡ true) → is_among name names ≡ true
    by true e k go = Rattle.standard_order.proofs.GoodTrees.among_more name some names (has k) e
    by false e k go = go k

pub kind_among : (test : Cls → Bool) (names : List (List ℕ)) → names_have test names classes ≡ true → test NoC ≡ false → (kind : Kind) →
    test (kind_class kind) ≡ true → is_element (kind_class kind) ≡ true → is_among (key_in kind) names ≡ true
kind_among test names all off (ElementNode Html name attrs contents) h e = class_among test names classes all name h
kind_among test names all off (ElementNode Svg name attrs contents) h e = plain names all h
  where
    plain : (names : List (List ℕ)) → names_have test names classes ≡ true → test PlainC ≡ true → is_among (codes "svg " ++ name) names ≡ true
    plain names all h = never (sym (ap not h) ∙ last classes all)
      where
        last : (es : List ClassEntry) → names_have test names es ≡ true → not (test PlainC) ≡ true
        last [] a = a
        last (class_of some one ∷ more) a = last more (both (not (test one) || list_all (λ n. is_among n names) some) (names_have test names more) a).1
kind_among test names all off (ElementNode MathMl name attrs contents) h e = plain names all h
  where
    plain : (names : List (List ℕ)) → names_have test names classes ≡ true → test PlainC ≡ true → is_among (codes "math " ++ name) names ≡ true
    plain names all h = never (sym (ap not h) ∙ last classes all)
      where
        last : (es : List ClassEntry) → names_have test names es ≡ true → not (test PlainC) ≡ true
        last [] a = a
        last (class_of some one ∷ more) a = last more (both (not (test one) || list_all (λ n. is_among n names) some) (names_have test names more) a).1
kind_among test names all off (TextNode text) h e = never e
kind_among test names all off (CommentNode text) h e = never e
kind_among test names all off (DoctypeNode d) h e = never e
kind_among test names all off DocumentNode h e = never e
kind_among test names all off ContentsNode h e = never e

pub class_is_one : (test : Cls → Bool) (names : List (List ℕ)) → names_have test names classes ≡ true → test NoC ≡ false → (t : GrowingTree) (n : ℕ) →
    is_element (class_at (tags t.nodes) n) ≡ true → test (class_at (tags t.nodes) n) ≡ true → is_one t names n ≡ true
class_is_one test names all off t n e h =
    let same : tag_at (tags t.nodes) n ≡ tag_of (kind_of t n) = tag_there t.nodes n (there is_element refl (class_at (tags t.nodes) n) e) in
    kind_among test names all off (kind_of t n) (subst (λ u. test u.cls ≡ true) same h) (subst (λ u. is_element u.cls ≡ true) same e)

-- ---- the parent of a table

abbrev pub later : ℕ → ℕ → ℕ
later zero j = j
later (suc i) j = suc (later i j)

parent_first : (i n : ℕ) (nodes : List Node) (p : ℕ) → parent_from i n nodes ≡ Some p → (j : ℕ) × (later i j ≡ p) × (is_member n (kids nodes j) ≡ true)
parent_first i n [] p e = none e
  where
    none : {P : Type 0} → None ≡ Some p → P
    none h = cc
parent_first i n (node ∷ nodes) p e = by (is_member n node.children) refl e (λ k. parent_first (suc i) n nodes p k)
  where
    zero_later : (k : ℕ) → later k 0 ≡ k
    zero_later zero = refl
    zero_later (suc k) = ap suc (zero_later k)

    suc_later : (k j : ℕ) → later k (suc j) ≡ suc (later k j)
    suc_later zero j = refl
    suc_later (suc k) j = ap suc (suc_later k j)

    by : (x : Bool) → is_member n node.children ≡ x → elim x as (λ _. Option ℕ) [ true ↦ Some i | false ↦ parent_from (suc i) n nodes ] ≡ Some p →
        (parent_from (suc i) n nodes ≡ Some p → (j : ℕ) × (later (suc i) j ≡ p) × (is_member n (kids nodes j) ≡ true)) →
        (j : ℕ) × (later i j ≡ p) × (is_member n (kids (node ∷ nodes) j) ≡ true)
    by true f k go = (0, zero_later i ∙ same_Some i p k, f)
    by false f k go = let rest : (j : ℕ) × (later (suc i) j ≡ p) × (is_member n (kids nodes j) ≡ true) = go k in
        (suc rest.0, suc_later i rest.0 ∙ rest.1, rest.2)

pub parent_is : (n : ℕ) (nodes : List Node) (p : ℕ) → parent_of nodes n ≡ Some p → is_member n (kids nodes p) ≡ true
parent_is n nodes p e =
    let found : (j : ℕ) × (later 0 j ≡ p) × (is_member n (kids nodes j) ≡ true) = parent_first 0 n nodes p e in
    subst (λ i. is_member n (kids nodes i) ≡ true) found.1 found.2

table_part : (c : Cls) → is_table c ≡ true → is_part c ≡ true → ⊥
table_part c t p = by c t p
  where
    by : (c : Cls) → is_table c ≡ true → is_part c ≡ true → ⊥
    by Rattle.standard_order.proofs.NodeTags.TableC t p = never p
    by _ t p = never t

-- ---- foster parenting

above_html : (r : ℕ) (c : Site) (t : GrowingTree) (n : ℕ) (d : Cls) → In r c t → on (class_at (tags t.nodes) n) d ≡ true → n ≡ r → ⊥
above_html r c t n d i h e = clash (class_at (tags t.nodes) r) i.nodes.frame.root (subst (λ m. on (class_at (tags t.nodes) m) d ≡ true) e h)
  where
    clash : (x : Cls) → x ≡ HtmlC → on x d ≡ true → ⊥
    clash x f g = never (subst (λ y. on y d ≡ true) f g)

pub host_or_root : (c : Cls) → is_root c ≡ true → is_host c || false ≡ true → ⊥
host_or_root HtmlC a b = never b
host_or_root _ a b = never a

table_deep : (c d : Cls) → is_table c ≡ true → on c d ≡ true → is_deep d ≡ true
table_deep Rattle.standard_order.proofs.NodeTags.TableC d t h = h
table_deep _ d t h = never t

pub foster_html : (r : ℕ) (c : Site) (t : GrowingTree) → In r c t → (s : List ℕ) → Elements (tags t.nodes) s → chain (of (class_at (tags t.nodes)) s) ≡ true →
    list_any is_host (of (class_at (tags t.nodes)) s) ≡ true → target (foster_place t s) ≡ r → ⊥
foster_html r c t i [] e h host same = never h
foster_html r c t i (n ∷ []) e h host same = host_or_root (class_at (tags t.nodes) n) h host
foster_html r c t i (n ∷ m ∷ ns) e h host same =
    by (is_one t (codes "template" ∷ []) n) (is_one t (codes "table" ∷ []) n) (parent_of t.nodes n) refl refl refl
    (λ more. foster_html r c t i (m ∷ ns) elements.1 links.1 more) same
  where
    f : ℕ → Cls
    f = class_at (tags t.nodes)

    elements : (is_element (class_at (tags t.nodes) n) ≡ true) × Elements (tags t.nodes) (m ∷ ns)
    elements = both (is_element (class_at (tags t.nodes) n)) (list_all (λ j. is_element (class_at (tags t.nodes) j)) (m ∷ ns)) e

    links : (on (class_at (tags t.nodes) n) (class_at (tags t.nodes) m) ≡ true) × (chain (of (class_at (tags t.nodes)) (m ∷ ns)) ≡ true)
    links = both (on (class_at (tags t.nodes) n) (class_at (tags t.nodes) m)) (chain (of (class_at (tags t.nodes)) (m ∷ ns))) h

    table : is_one t (codes "table" ∷ []) n ≡ true → is_table (class_at (tags t.nodes) n) ≡ true
    table one = one_at is_table (codes "table" ∷ []) refl (λ name. refl) (λ name. refl) refl t n elements.0 one

    no_host : is_one t (codes "template" ∷ []) n ≡ false → is_one t (codes "table" ∷ []) n ≡ false → list_any is_host (of (class_at (tags t.nodes)) (m ∷ ns)) ≡ true
    no_host a b = cut (is_table (class_at (tags t.nodes) n)) (is_template (class_at (tags t.nodes) n)) refl refl host
      where
        cut : (x y : Bool) → is_table (class_at (tags t.nodes) n) ≡ x → is_template (class_at (tags t.nodes) n) ≡ y →
            (x || y) || list_any is_host (of (class_at (tags t.nodes)) (m ∷ ns)) ≡ true → list_any is_host (of (class_at (tags t.nodes)) (m ∷ ns)) ≡ true
        cut true y g k l = never (sym b ∙ class_is_one is_table (codes "table" ∷ []) refl refl t n elements.0 g)
        cut false true g k l = never (sym a ∙ class_is_one is_template (codes "template" ∷ []) refl refl t n elements.0 k)
        cut false false g k l = l

    parent : is_one t (codes "table" ∷ []) n ≡ true → (p : ℕ) → parent_of t.nodes n ≡ Some p → p ≡ r → ⊥
    parent one p g same_root =
        table_part (class_at (tags t.nodes) n) (table one)
        (counted_member is_element (tags t.nodes) (λ j. is_part (class_at (tags t.nodes) j)) n (kids t.nodes r)
        (subst (λ j. is_member n (kids t.nodes j) ≡ true) same_root (parent_is n t.nodes p g)) elements.0
        (all_parts (parts_for (cls t)) (tags t.nodes) (parts_in t.nodes r) (plainly_for (cls t)) i.nodes.frame.form))

    by : (x y : Bool) (o : Option ℕ) → is_one t (codes "template" ∷ []) n ≡ x → is_one t (codes "table" ∷ []) n ≡ y → parent_of t.nodes n ≡ o →
        (list_any is_host (of (class_at (tags t.nodes)) (m ∷ ns)) ≡ true → target (foster_place t (m ∷ ns)) ≡ r → ⊥) →
        target (elim x as (λ _. Place) [
          | true ↦ EndOf n
          | false ↦ elim y as (λ _. Place) [
            | true ↦ elim o as (λ _. Place) [ Some p ↦ Before p n | None ↦ EndOf m ]
            | false ↦ foster_place t (m ∷ ns)
          ]
        ]) ≡ r → ⊥
    by true y o a b g go z = above_html r c t n (class_at (tags t.nodes) m) i links.0 z
    by false true (Some p) a b g go z = parent b p g z
    by false true None a b g go z = deep_off r c t m i (table_deep (class_at (tags t.nodes) n) (class_at (tags t.nodes) m) (table b) links.0) z
    by false false o a b g go z = go (no_host a b) z

-- ---- the appropriate place

pub place_html : (r : ℕ) (c : Site) (t : GrowingTree) (x : ℕ) → In r c t → is_deep (class_at (tags t.nodes) x) ≡ true →
    (is_one t fostering_names x ≡ true → list_any is_host (cls t) ≡ true) → target (place_in t x) ≡ r → ⊥
place_html r c t x i deep host =
    in_contents_html r c t i (elim (t.fostering && is_one t fostering_names x) as (λ _. Place) [ true ↦ foster_place t t.stack | false ↦ EndOf x ])
    (by t.fostering (is_one t fostering_names x) refl)
  where
    by : (y z : Bool) → is_one t fostering_names x ≡ z → target (elim (y && z) as (λ _. Place) [ true ↦ foster_place t t.stack | false ↦ EndOf x ]) ≡ r → ⊥
    by true true e = foster_html r c t i t.stack i.open_ i.chained (host e)
    by true false e = deep_off r c t x i deep
    by false z e = deep_off r c t x i deep

pub deep_element : (c : Cls) → is_deep c ≡ true → is_element c ≡ true
deep_element c h = by c h
  where
    by : (c : Cls) → is_deep c ≡ true → is_element c ≡ true
    by NoC k = never k
    by Rattle.standard_order.proofs.NodeTags.DocC k = never k
    by Rattle.standard_order.proofs.NodeTags.DoctypeC k = never k
    by Rattle.standard_order.proofs.NodeTags.CommentC k = never k
    by Rattle.standard_order.proofs.NodeTags.TextC k = never k
    by Rattle.standard_order.proofs.NodeTags.ContentsC k = never k
    by _ k = refl

pub stack_filled : (r : ℕ) (c : Site) (t : GrowingTree) → In r c t → Filled t.stack
stack_filled r c t i e = never (subst (λ s. chain (of (class_at (tags t.nodes)) s) ≡ true) e i.chained)

pub first_of : (f : ℕ → Cls) (s : List ℕ) → Filled s → f (top s) ≡ first (of f s)
first_of f [] filled = absurd (filled refl)
first_of f (n ∷ ns) filled = refl

pub current_deep : (r : ℕ) (c : Site) (t : GrowingTree) → In r c t → is_deep (class_at (tags t.nodes) (current t)) ≡ true
current_deep r c t i =
    subst (λ d. is_deep d ≡ true) (sym (first_of (class_at (tags t.nodes)) t.stack (stack_filled r c t i)))
    (first_deep (cls t) (subst (λ d. is_inner d ≡ true) (sym i.within) i.inner))

current_host : (r : ℕ) (c : Site) (t : GrowingTree) → In r c t → is_one t fostering_names (current t) ≡ true → list_any is_host (cls t) ≡ true
current_host r c t i one = by t.stack i.open_ i.chained one
  where
    by : (s : List ℕ) → Elements (tags t.nodes) s → chain (of (class_at (tags t.nodes)) s) ≡ true → is_one t fostering_names (top s) ≡ true →
        list_any is_host (of (class_at (tags t.nodes)) s) ≡ true
    by [] e h o = never h
    by (n ∷ ns) e h o =
        tabled_host (class_at (tags t.nodes) n) (of (class_at (tags t.nodes)) ns)
        (one_at is_tabled fostering_names refl (λ name. refl) (λ name. refl) refl t n (both (is_element (class_at (tags t.nodes) n)) _ e).0 o) h

pub current_place : (r : ℕ) (c : Site) (t : GrowingTree) → In r c t → Off r (place t)
current_place r c t i = (
  place_off Rooted t (current t) (doc_in r c t i) (stack_filled r c t i) (deep_element _ (current_deep r c t i)),
  place_html r c t (current t) i (current_deep r c t i) (current_host r c t i),
)

-- ---- ordinary elements that are inserted

pub in_inserted : (r : ℕ) (c : Site) (space : Space) (name : List ℕ) (attrs : List NodeAttr) (t : GrowingTree) →
    ((contents : Option ℕ) → is_plain (kind_class (ElementNode space name attrs contents)) ≡ true) → In r c t → In r c (inserted space name attrs t)
in_inserted r c space name attrs t plain i =
    subst (λ (made : GrowingTree). In r c (pushed (fresh t) (put (fresh t) (place t) made))) (sym (created_only space name attrs t))
    (in_pushed r c (record t { nodes = nodes }) (fresh t) new (in_nodes r c t nodes
    (step_element r (parts_for (cls t)) (place t) space name attrs t (current_place r c t i) (λ contents. plain_single _ (plain contents))) i))
  where
    nodes : List Node
    nodes = put_at (fresh t) (place t) (created_element space name attrs t).nodes

    new : is_plain (class_at (tags nodes) (fresh t)) ≡ true
    new = subst (λ ts. is_plain (class_at ts (fresh t)) ≡ true) (sym (tags_put (fresh t) (place t) (created_element space name attrs t).nodes))
        (fresh_passes is_plain refl space name attrs plain t)
