-- In the modes of the body: any other end tag, items of lists, foreign elements that are popped, and the whole adoption agency algorithm.
use Rattle.std.specs.Prelude.{◌≡◌, ◌&&◌, ◌||◌, ◌⊎◌, refl, ℕ, zero, suc, Bool, true, false, not, List, [], ◌∷◌, Option, None, Some, bytes_eq, drop, nat_eq}
use Rattle.std.proofs.Common.{inl, inr}
use Rattle.std.specs.List.{list_all, list_any}
use Rattle.std.proofs.lemmas.Option.{same_Some}
use Rattle.std.proofs.lemmas.Slice.Eq.{bytes_eq-Decides}
use mathlib.Core.Path.{◌∙◌, sym, ap, subst}
use Rattle.standard_trees.specs.NameLists.{crossed_by_items, implied, special}
use Rattle.standard_trees.specs.RuleWords.{Scope}
use Rattle.standard_trees.specs.TreeStore.{ContentsNode, CommentNode, DoctypeNode, DocumentNode, ElementNode, Html, Kind, MathMl, Node, Svg, TextNode, is_html, is_member, key_in}
use Rattle.standard_trees.specs.TreeStore.{node_at, space_in}
use Rattle.standard_trees.specs.GrowingTree.{GrowingTree, beyond, current, ends_scope, implied_of, in_scope, is_foreign, is_one, key, kind_of, lower, own_before_html, past}
use Rattle.standard_trees.specs.GrowingTree.{popped_until, top, with_stack}
use Rattle.standard_trees.specs.Formatting.{Climb, adopt, adopted_by, adopted_for, adopted_once, adoption, any_other_end, before_in, behind_in, climb, closed_item}
use Rattle.standard_trees.specs.Formatting.{closed_other, ends_other, is_listed, last_listed, last_special, local_of, open_item, unlisted}
use Rattle.standard_order.proofs.Labels.{Is, grows_at, labels}
use Rattle.standard_order.proofs.StandingStacks.{Inside, both, loose, never, same_number}
use Rattle.standard_order.proofs.GoodTrees.{AllLoose, Good, held}
use Rattle.standard_order.proofs.GoodEnds.{Climbed, adopted_good, block_loose, climbed, last_held, same_again}
use Rattle.standard_order.proofs.NodeTags.{Cls, Tag, class_at, class_kept, is_element, kind_class, name_class, tag_at, tag_of, tag_there, tags, there}
use Rattle.standard_order.proofs.TreeTops.{Elements, elements_past}
use Rattle.standard_order.proofs.AdoptionTops.{is_not, none_before}
use Rattle.standard_order.proofs.Chains.{AllPlain, Rest, Site, chain, context, is_plain, of, plain_before, rest_both, rest_tail}
use Rattle.standard_order.proofs.PartTrees.{In, in_rest}
use Rattle.standard_order.proofs.PartPlaces.{class_is_one, current_deep, deep_element}
use Rattle.standard_order.proofs.PartOps.{in_unlisted}
use Rattle.standard_order.proofs.PartPops.{OnlyPlain, PlainNames, implied_plain, in_beyond, only_named}
use Rattle.standard_order.proofs.PartAdoption.{OtherName, PartClimbs, between_plain, in_adopted, in_adopted_plainly, last_plain, part_climbs, scope_only}

-- ---- names

-- elements in which no ordinary thing happens
abbrev pub is_odd : Cls → Bool
is_odd c = is_element c && not (is_plain c)

odd_or_plain : (c : Cls) → is_element c ≡ true → (is_odd c ≡ true → ⊥) → is_plain c ≡ true
odd_or_plain c e h = by (is_plain c) refl
  where
    by : (x : Bool) → is_plain c ≡ x → is_plain c ≡ true
    by true k = k
    by false k = absurd (h (ap (λ y. y && not (is_plain c)) e ∙ ap not k))

-- an open element that isn't special is an ordinary one
unspecial : (t : GrowingTree) (n : ℕ) → is_element (class_at (tags t.nodes) n) ≡ true → is_one t special n ≡ false → is_plain (class_at (tags t.nodes) n) ≡ true
unspecial t n e h = odd_or_plain (class_at (tags t.nodes) n) e (λ o. never (sym h ∙ class_is_one is_odd special refl refl t n e o))

-- the class of an element of that name
kind_named : (name : List ℕ) (kind : Kind) → is_element (kind_class kind) ≡ true → is_plain (kind_class kind) ≡ false → bytes_eq (key_in kind) name || false ≡ true →
    name_class name ≡ kind_class kind
kind_named name (ElementNode Html local attrs contents) e p h = by (bytes_eq local name) refl h
  where
    by : (x : Bool) → bytes_eq local name ≡ x → x || false ≡ true → name_class name ≡ name_class local
    by true k l = ap name_class (sym ((bytes_eq-Decides local name).0 k))
    by false k l = never l
kind_named name (ElementNode Svg local attrs contents) e p h = never (sym p)
kind_named name (ElementNode MathMl local attrs contents) e p h = never (sym p)
kind_named name (TextNode text) e p h = never e
kind_named name (CommentNode text) e p h = never e
kind_named name (DoctypeNode d) e p h = never e
kind_named name DocumentNode e p h = never e
kind_named name ContentsNode e p h = never e

class_named : (name : List ℕ) (t : GrowingTree) (n : ℕ) → is_element (class_at (tags t.nodes) n) ≡ true → is_plain (class_at (tags t.nodes) n) ≡ false →
    is_one t (name ∷ []) n ≡ true → name_class name ≡ class_at (tags t.nodes) n
class_named name t n e p h =
    let same : tag_at (tags t.nodes) n ≡ tag_of (kind_of t n) = tag_there t.nodes n (there is_element refl (class_at (tags t.nodes) n) e) in
    kind_named name (kind_of t n) (subst (λ u. is_element u.cls ≡ true) same e) (subst (λ u. is_plain u.cls ≡ false) same p) h ∙ sym (ap (λ u. u.cls) same)

-- ---- one ordinary element after another

first_element_of : (ts : List Tag) (n : ℕ) (ns : List ℕ) → Elements ts (n ∷ ns) → (is_element (class_at ts n) ≡ true) × Elements ts ns
first_element_of ts n ns h = both (is_element (class_at ts n)) (list_all (λ i. is_element (class_at ts i)) ns) h

-- past an ordinary element, and past what follows it
rest_over : (f : ℕ → Cls) (test : ℕ → Bool) (n : ℕ) (ns : List ℕ) → is_plain (f n) ≡ true → chain (f n ∷ of f ns) ≡ true →
    (test n ≡ false → Rest (f n ∷ of f ns) (of f ns) → Rest (of f ns) (of f (past test ns))) → Rest (f n ∷ of f ns) (of f (past test (n ∷ ns)))
rest_over f test n ns p h more = by (test n) refl
  where
    one : Rest (f n ∷ of f ns) (of f ns)
    one = rest_tail (f n) (of f ns) p h

    by : (x : Bool) → test n ≡ x → Rest (f n ∷ of f ns) (of f (elim x as (λ _. List ℕ) [ true ↦ ns | false ↦ past test ns ]))
    by true e = one
    by false e = rest_both (f n ∷ of f ns) (of f ns) (of f (past test ns)) one (more e one)

-- ---- any other end tag

none_some : {P : Type 0} {x : ℕ} → None ≡ Some x → P
none_some e = cc

other_rest : (c : Cls) (name : List ℕ) (t : GrowingTree) (n : ℕ) (s : List ℕ) → OtherName name c → context (of (class_at (tags t.nodes)) s) ≡ c →
    chain (of (class_at (tags t.nodes)) s) ≡ true → Elements (tags t.nodes) s → ends_other t name s ≡ Some n →
    Rest (of (class_at (tags t.nodes)) s) (of (class_at (tags t.nodes)) (past (nat_eq n) s))
other_rest c name t n [] other within h e found = none_some found
other_rest c name t n (m ∷ ms) other within h e found =
    by (is_one t (name ∷ []) m) (is_one t special m) refl refl found (λ w k f. other_rest c name t n ms other w k elements.1 f)
  where
    f : ℕ → Cls
    f = class_at (tags t.nodes)

    elements : (is_element (class_at (tags t.nodes) m) ≡ true) × Elements (tags t.nodes) ms
    elements = first_element_of (tags t.nodes) m ms e

    wanted : is_one t (name ∷ []) m ≡ true → is_plain (class_at (tags t.nodes) m) ≡ true
    wanted one = cut (is_plain (class_at (tags t.nodes) m)) refl within
      where
        cut : (x : Bool) → is_plain (class_at (tags t.nodes) m) ≡ x →
            elim x as (λ _. Cls) [ true ↦ context (of (class_at (tags t.nodes)) ms) | false ↦ class_at (tags t.nodes) m ] ≡ c →
            is_plain (class_at (tags t.nodes) m) ≡ true
        cut true k w = k
        cut false k w = absurd (other (class_at (tags t.nodes) m) (class_named name t m elements.0 k one) k w)

    by : (x y : Bool) → is_one t (name ∷ []) m ≡ x → is_one t special m ≡ y →
        elim x as (λ _. Option ℕ) [ true ↦ Some m | false ↦ elim y as (λ _. Option ℕ) [ true ↦ None | false ↦ ends_other t name ms ] ] ≡ Some n →
        (context (of (class_at (tags t.nodes)) ms) ≡ c → chain (of (class_at (tags t.nodes)) ms) ≡ true → ends_other t name ms ≡ Some n →
        Rest (of (class_at (tags t.nodes)) ms) (of (class_at (tags t.nodes)) (past (nat_eq n) ms))) →
        Rest (of (class_at (tags t.nodes)) (m ∷ ms)) (of (class_at (tags t.nodes)) (past (nat_eq n) (m ∷ ms)))
    by true y one k g go = rest_over (class_at (tags t.nodes)) (nat_eq n) m ms (wanted one) h
        (λ off rest. never (sym off ∙ subst (λ i. nat_eq n i ≡ true) (sym (same_Some m n g)) (same_again n)))
    by false true one k g go = none_some g
    by false false one k g go = rest_over (class_at (tags t.nodes)) (nat_eq n) m ms (unspecial t m elements.0 k) h
        (λ off rest. go (rest.within ∙ within) rest.chained g)

-- elements that are implied are popped first
other_beyond : (name : List ℕ) (t : GrowingTree) (n : ℕ) (s : List ℕ) → ends_other t name s ≡ Some n →
    ends_other t name (beyond (λ m. is_one t implied m && not (is_one t (name ∷ []) m)) s) ≡ Some n
other_beyond name t n [] h = h
other_beyond name t n (m ∷ ms) h = by (is_one t implied m && not (is_one t (name ∷ []) m)) refl (λ k. other_beyond name t n ms k)
  where
    under : is_one t (name ∷ []) m ≡ false → (y : Bool) →
        elim (is_one t (name ∷ []) m) as (λ _. Option ℕ) [ true ↦ Some m | false ↦ elim y as (λ _. Option ℕ) [ true ↦ None | false ↦ ends_other t name ms ] ] ≡ Some n →
        ends_other t name ms ≡ Some n
    under off true g = none_some (sym (ap (λ x. elim x as (λ _. Option ℕ) [ true ↦ Some m | false ↦ None ]) off) ∙ g)
    under off false g = sym (ap (λ x. elim x as (λ _. Option ℕ) [ true ↦ Some m | false ↦ ends_other t name ms ]) off) ∙ g

    by : (x : Bool) → is_one t implied m && not (is_one t (name ∷ []) m) ≡ x →
        (ends_other t name ms ≡ Some n → ends_other t name (beyond (λ j. is_one t implied j && not (is_one t (name ∷ []) j)) ms) ≡ Some n) →
        ends_other t name (elim x as (λ _. List ℕ) [ true ↦ beyond (λ j. is_one t implied j && not (is_one t (name ∷ []) j)) ms | false ↦ m ∷ ms ]) ≡ Some n
    by true e go = go (under (is_not (is_one t (name ∷ []) m) (both (is_one t implied m) (not (is_one t (name ∷ []) m)) e).1) (is_one t special m) h)
    by false e go = h

pub in_other_end : (r : ℕ) (c : Site) (name : List ℕ) (t : GrowingTree) → OtherName name c.inner → In r c t → In r c (any_other_end name t)
in_other_end r c name t other i = by (ends_other t name t.stack) refl
  where
    test : ℕ → Bool
    test m = is_one t implied m && not (is_one t (name ∷ []) m)

    after : In r c (with_stack t (beyond (λ m. is_one t implied m && not (is_one t (name ∷ []) m)) t.stack))
    after = in_beyond r c t (λ m. is_one t implied m && not (is_one t (name ∷ []) m))
        (λ m h. only_named implied implied_plain t m (both (is_one t implied m) (not (is_one t (name ∷ []) m)) h).0) i

    by : (o : Option ℕ) → ends_other t name t.stack ≡ o → In r c (closed_other o name t)
    by None e = i
    by (Some n) e =
        let less : List ℕ = beyond (λ m. is_one t implied m && not (is_one t (name ∷ []) m)) t.stack in
        in_rest r c (with_stack t less) (past (nat_eq n) less)
        (other_rest c.inner name t n less other after.within after.chained after.open_ (other_beyond name t n t.stack e))
        (elements_past (tags t.nodes) (nat_eq n) less after.open_) after

-- ---- items of lists

key_again : (t : GrowingTree) (n : ℕ) → is_one t (key t n ∷ []) n ≡ true
key_again t n = ap (λ x. x || false) ((bytes_eq-Decides (key t n) (key t n)).1 refl)

item_rest : (names : List (List ℕ)) (t : GrowingTree) (n : ℕ) (s : List ℕ) → OnlyPlain t (is_one t names) → chain (of (class_at (tags t.nodes)) s) ≡ true →
    Elements (tags t.nodes) s → open_item t names s ≡ Some n →
    Rest (of (class_at (tags t.nodes)) s) (of (class_at (tags t.nodes)) (past (is_one t (key t n ∷ [])) s))
item_rest names t n [] plain h e found = none_some found
item_rest names t n (m ∷ ms) plain h e found =
    by (is_one t names m) (is_one t special m && not (is_one t crossed_by_items m)) refl refl found (λ k f. item_rest names t n ms plain k elements.1 f)
  where
    elements : (is_element (class_at (tags t.nodes) m) ≡ true) × Elements (tags t.nodes) ms
    elements = first_element_of (tags t.nodes) m ms e

    crossed : PlainNames crossed_by_items
    crossed = record { all = refl; svg = λ name. refl; math = λ name. refl; none = refl }

    above : (x y : Bool) → is_one t special m ≡ x → is_one t crossed_by_items m ≡ y → x && not y ≡ false → is_plain (class_at (tags t.nodes) m) ≡ true
    above false y a b k = unspecial t m elements.0 a
    above true true a b k = only_named crossed_by_items crossed t m b
    above true false a b k = never (sym k)

    by : (x y : Bool) → is_one t names m ≡ x → is_one t special m && not (is_one t crossed_by_items m) ≡ y →
        elim x as (λ _. Option ℕ) [ true ↦ Some m | false ↦ elim y as (λ _. Option ℕ) [ true ↦ None | false ↦ open_item t names ms ] ] ≡ Some n →
        (chain (of (class_at (tags t.nodes)) ms) ≡ true → open_item t names ms ≡ Some n →
        Rest (of (class_at (tags t.nodes)) ms) (of (class_at (tags t.nodes)) (past (is_one t (key t n ∷ [])) ms))) →
        Rest (of (class_at (tags t.nodes)) (m ∷ ms)) (of (class_at (tags t.nodes)) (past (is_one t (key t n ∷ [])) (m ∷ ms)))
    by true y one k g go = rest_over (class_at (tags t.nodes)) (is_one t (key t n ∷ [])) m ms (plain m one) h
        (λ off rest. never (sym off ∙ subst (λ i. is_one t (key t n ∷ []) i ≡ true) (sym (same_Some m n g)) (key_again t n)))
    by false true one k g go = none_some g
    by false false one k g go =
        rest_over (class_at (tags t.nodes)) (is_one t (key t n ∷ [])) m ms (above (is_one t special m) (is_one t crossed_by_items m) refl refl k) h
        (λ off rest. go rest.chained g)

item_beyond : (names : List (List ℕ)) (t : GrowingTree) (n : ℕ) (s : List ℕ) → open_item t names s ≡ Some n →
    open_item t names (beyond (λ m. is_one t implied m && not (is_one t (key t n ∷ []) m)) s) ≡ Some n
item_beyond names t n [] h = h
item_beyond names t n (m ∷ ms) h = by (is_one t implied m && not (is_one t (key t n ∷ []) m)) refl (λ k. item_beyond names t n ms k)
  where
    under : is_one t (key t n ∷ []) m ≡ false → (x y : Bool) →
        elim x as (λ _. Option ℕ) [ true ↦ Some m | false ↦ elim y as (λ _. Option ℕ) [ true ↦ None | false ↦ open_item t names ms ] ] ≡ Some n →
        open_item t names ms ≡ Some n
    under off true y g = never (sym off ∙ subst (λ i. is_one t (key t n ∷ []) i ≡ true) (sym (same_Some m n g)) (key_again t n))
    under off false true g = none_some g
    under off false false g = g

    by : (x : Bool) → is_one t implied m && not (is_one t (key t n ∷ []) m) ≡ x →
        (open_item t names ms ≡ Some n → open_item t names (beyond (λ j. is_one t implied j && not (is_one t (key t n ∷ []) j)) ms) ≡ Some n) →
        open_item t names (elim x as (λ _. List ℕ) [ true ↦ beyond (λ j. is_one t implied j && not (is_one t (key t n ∷ []) j)) ms | false ↦ m ∷ ms ]) ≡ Some n
    by true e go = go (under (is_not (is_one t (key t n ∷ []) m) (both (is_one t implied m) (not (is_one t (key t n ∷ []) m)) e).1) (is_one t names m)
        (is_one t special m && not (is_one t crossed_by_items m)) h)
    by false e go = h

pub in_closed_items : (r : ℕ) (c : Site) (names : List (List ℕ)) (t : GrowingTree) → OnlyPlain t (is_one t names) → In r c t →
    In r c (closed_item (open_item t names t.stack) t)
in_closed_items r c names t plain i = by (open_item t names t.stack) refl
  where
    by : (o : Option ℕ) → open_item t names t.stack ≡ o → In r c (closed_item o t)
    by None e = i
    by (Some n) e =
        let less : List ℕ = beyond (λ m. is_one t implied m && not (is_one t (key t n ∷ []) m)) t.stack in
        let after : In r c (with_stack t less) = in_beyond r c t (λ m. is_one t implied m && not (is_one t (key t n ∷ []) m))
        (λ m h. only_named implied implied_plain t m (both (is_one t implied m) (not (is_one t (key t n ∷ []) m)) h).0) i in
        in_rest r c (with_stack t less) (past (is_one t (key t n ∷ [])) less)
        (item_rest names t n less plain after.chained after.open_ (item_beyond names t n t.stack e))
        (elements_past (tags t.nodes) (is_one t (key t n ∷ [])) less after.open_) after

-- ---- foreign elements

kind_foreign : (kind : Kind) → is_html (space_in kind) ≡ false → is_plain (kind_class kind) ≡ true
kind_foreign (ElementNode Html name attrs contents) h = never (sym h)
kind_foreign (ElementNode Svg name attrs contents) h = refl
kind_foreign (ElementNode MathMl name attrs contents) h = refl
kind_foreign (TextNode text) h = never (sym h)
kind_foreign (CommentNode text) h = never (sym h)
kind_foreign (DoctypeNode d) h = never (sym h)
kind_foreign DocumentNode h = never (sym h)
kind_foreign ContentsNode h = never (sym h)

-- an element outside the HTML namespace is an ordinary one
class_foreign : (nodes : List Node) (n : ℕ) → is_html (space_in (node_at nodes n).kind) ≡ false → is_plain (class_at (tags nodes) n) ≡ true
class_foreign [] n h = never (sym h)
class_foreign (node ∷ nodes) zero h = kind_foreign node.kind h
class_foreign (node ∷ nodes) (suc n) h = class_foreign nodes n h

pub in_foreign_popped : (r : ℕ) (c : Site) (t : GrowingTree) → In r c t → In r c (with_stack t (beyond (is_foreign t) t.stack))
in_foreign_popped r c t i = in_beyond r c t (is_foreign t) (λ n h. class_foreign t.nodes n (is_not (is_html (space_in (kind_of t n))) (outside n h))) i
  where
    cut : (x y z : Bool) → x && not y && not z ≡ true → x ≡ true
    cut true y z h = refl
    cut false y z h = never h

    outside : (n : ℕ) → is_foreign t n ≡ true → not (is_html (space_in (kind_of t n))) ≡ true
    outside n h = cut (not (is_html (space_in (kind_of t n)))) (is_one t Rattle.standard_trees.specs.NameLists.text_points n)
        (Rattle.standard_trees.specs.GrowingTree.is_html_point (kind_of t n)) h

own_rest : (name : List ℕ) (t : GrowingTree) (s : List ℕ) → chain (of (class_at (tags t.nodes)) s) ≡ true → own_before_html t name s ≡ true →
    Rest (of (class_at (tags t.nodes)) s) (of (class_at (tags t.nodes)) (past (λ n. bytes_eq (lower (local_of t n)) name) s))
own_rest name t [] h found = never found
own_rest name t (n ∷ ns) h found = by (is_html (space_in (kind_of t n))) refl found (λ k f. own_rest name t ns k f)
  where
    by : (x : Bool) → is_html (space_in (kind_of t n)) ≡ x →
        elim x as (λ _. Bool) [ true ↦ false | false ↦ bytes_eq (lower (local_of t n)) name || own_before_html t name ns ] ≡ true →
        (chain (of (class_at (tags t.nodes)) ns) ≡ true → own_before_html t name ns ≡ true →
        Rest (of (class_at (tags t.nodes)) ns) (of (class_at (tags t.nodes)) (past (λ m. bytes_eq (lower (local_of t m)) name) ns))) →
        Rest (of (class_at (tags t.nodes)) (n ∷ ns)) (of (class_at (tags t.nodes)) (past (λ m. bytes_eq (lower (local_of t m)) name) (n ∷ ns)))
    by true e g go = never g
    by false e g go = rest_over (class_at (tags t.nodes)) (λ m. bytes_eq (lower (local_of t m)) name) n ns (class_foreign t.nodes n e) h
        (λ off rest. go rest.chained (sym (ap (λ x. x || own_before_html t name ns) off) ∙ g))

pub in_own_popped : (r : ℕ) (c : Site) (name : List ℕ) (t : GrowingTree) → own_before_html t name t.stack ≡ true → In r c t →
    In r c (with_stack t (past (λ n. bytes_eq (lower (local_of t n)) name) t.stack))
in_own_popped r c name t found i =
    in_rest r c t (past (λ n. bytes_eq (lower (local_of t n)) name) t.stack) (own_rest name t t.stack i.chained found)
    (elements_past (tags t.nodes) (λ n. bytes_eq (lower (local_of t n)) name) t.stack i.open_) i

-- ---- the adoption agency algorithm

pub plain_other : (name : List ℕ) (c : Cls) → is_plain (name_class name) ≡ true → OtherName name c
plain_other name c p d e off same = never (sym off ∙ subst (λ x. is_plain x ≡ true) e p)

special_there : (t : GrowingTree) (seen : Option ℕ) (s : List ℕ) (block : ℕ) → last_special t seen s ≡ Some block →
    (seen ≡ Some block) ⊎ (list_any (nat_eq block) s ≡ true)
special_there t seen [] block e = inl e
special_there t seen (n ∷ ns) block e = by (is_one t special n) (special_there t (elim (is_one t special n) as (λ _. Option ℕ) [ true ↦ Some n | false ↦ seen ]) ns block e)
  where
    later : list_any (nat_eq block) ns ≡ true → list_any (nat_eq block) (n ∷ ns) ≡ true
    later h = cut (nat_eq block n)
      where
        cut : (x : Bool) → x || list_any (nat_eq block) ns ≡ true
        cut true = refl
        cut false = h

    by : (x : Bool) → (elim x as (λ _. Option ℕ) [ true ↦ Some n | false ↦ seen ] ≡ Some block) ⊎ (list_any (nat_eq block) ns ≡ true) →
        (seen ≡ Some block) ⊎ (list_any (nat_eq block) (n ∷ ns) ≡ true)
    by x (inr h) = inr (later h)
    by true (inl h) = inr (ap (λ x. x || list_any (nat_eq block) ns) (subst (λ i. nat_eq block i ≡ true) (sym (same_Some n block h)) (same_again block)))
    by false (inl h) = inl h

member_plain : (f : ℕ → Cls) (block : ℕ) (s : List ℕ) → AllPlain f s → list_any (nat_eq block) s ≡ true → is_plain (f block) ≡ true
member_plain f block [] all h = never h
member_plain f block (n ∷ ns) all h = by (nat_eq block n) refl h (λ g. member_plain f block ns two.1 g)
  where
    two : (is_plain (f n) ≡ true) × AllPlain f ns
    two = both (is_plain (f n)) (list_all (λ i. is_plain (f i)) ns) all

    by : (x : Bool) → nat_eq block n ≡ x → x || list_any (nat_eq block) ns ≡ true → (list_any (nat_eq block) ns ≡ true → is_plain (f block) ≡ true) →
        is_plain (f block) ≡ true
    by true e g go = subst (λ i. is_plain (f i) ≡ true) (sym (same_number block n e)) two.0
    by false e g go = go g

in_adopt : (r : ℕ) (c : Site) (claim : Bool) (times : ℕ) (name : List ℕ) (t : GrowingTree) → is_plain (name_class name) ≡ true → Good Inside claim t →
    In r c t → In r c (adopt times name t)
in_adopt r c claim zero name t plain good i = i
in_adopt r c claim (suc times) name t plain good i = by (last_listed t (name ∷ []) t.listed) refl (λ u g j. in_adopt r c claim times name u plain g j)
  where
    by : (o : Option ℕ) → last_listed t (name ∷ []) t.listed ≡ o → ((u : GrowingTree) → Good Inside claim u → In r c u → In r c (adopt times name u)) →
        In r c (adopted_for o name (adopt times name) t)
    by None e again = in_other_end r c name t (plain_other name c.inner plain) i
    by (Some formatting) e again = by_place (is_member formatting t.stack) (in_scope (nat_eq formatting) (ends_scope Scope t) t.stack) refl refl
      where
        f_held : Is held (labels t.nodes) formatting
        f_held = last_held (labels t.nodes) t (name ∷ []) t.listed good.2.entries formatting e

        f_plain : is_plain (class_at (tags t.nodes) formatting) ≡ true
        f_plain = last_plain (tags t.nodes) t (name ∷ []) t.listed i.listed formatting e

        once : (b : Option ℕ) → last_special t None (before_in formatting t.stack) ≡ b → is_member formatting t.stack ≡ true →
            in_scope (nat_eq formatting) (ends_scope Scope t) t.stack ≡ true → In r c (adopted_once formatting b (adopt times name) t)
        once None f open_ scope = in_adopted_plainly r c t formatting f_plain scope i
        once (Some block) f open_ scope =
            let nodes : List ℕ = before_in formatting (behind_in block t.stack) in
            let two : Is loose (labels t.nodes) block × AllLoose (labels t.nodes) nodes = block_loose claim t formatting block good scope f in
            let end : Climb = climb nodes 1 block None t in
            let done : Climbed claim t end = climbed claim nodes 1 block None t two.1 good in
            let above : AllPlain (class_at (tags t.nodes)) (before_in formatting t.stack) =
            plain_before (class_at (tags t.nodes)) formatting (ends_scope Scope t) (scope_only r c t formatting f_plain i) t.stack i.chained scope in
            let b_plain : is_plain (class_at (tags t.nodes) block) ≡ true =
            member_plain (class_at (tags t.nodes)) block (before_in formatting t.stack) above there_is in
            let found : PartClimbs r c formatting t end =
            part_climbs r c claim formatting nodes 1 block None t two.1 (between_plain (class_at (tags t.nodes)) formatting block t.stack above there_is)
            (none_before formatting (behind_in block t.stack)) good i b_plain open_ in
            again (adopted_by formatting block end)
            (adopted_good claim formatting block end (grows_at held t.nodes _ done.grows formatting f_held) (grows_at loose t.nodes _ done.grows block two.0) done.good).0
            (in_adopted r c formatting block end (grows_at held t.nodes _ done.grows formatting f_held)
            (class_kept is_plain refl (tags t.nodes) (tags end.tree.nodes) found.keeps formatting f_plain)
            (class_kept is_plain refl (tags t.nodes) (tags end.tree.nodes) found.keeps block b_plain) found.now found.last found.open_)
          where
            there_is : list_any (nat_eq block) (before_in formatting t.stack) ≡ true
            there_is = which (special_there t None (before_in formatting t.stack) block f)
              where
                which : (None ≡ Some block) ⊎ (list_any (nat_eq block) (before_in formatting t.stack) ≡ true) → list_any (nat_eq block) (before_in formatting t.stack) ≡ true
                which (inl h) = none_some h
                which (inr h) = h

        by_place : (x y : Bool) → is_member formatting t.stack ≡ x → in_scope (nat_eq formatting) (ends_scope Scope t) t.stack ≡ y →
            In r c (elim x as (λ _. GrowingTree) [
              | false ↦ unlisted formatting t
              | true ↦ elim y as (λ _. GrowingTree) [
                | false ↦ t
                | true ↦ adopted_once formatting (last_special t None (before_in formatting t.stack)) (adopt times name) t
              ]
            ])
        by_place false y o f = in_unlisted r c formatting t i
        by_place true false o f = i
        by_place true true o f = once (last_special t None (before_in formatting t.stack)) refl o f

pub in_popped : (r : ℕ) (c : Site) (t : GrowingTree) → is_plain (class_at (tags t.nodes) (current t)) ≡ true → In r c t → In r c (with_stack t (drop 1 t.stack))
in_popped r c t p i = by t.stack i.chained i.open_ p
    (λ s rest elements. in_rest r c t s rest elements i)
  where
    by : (s : List ℕ) → chain (of (class_at (tags t.nodes)) s) ≡ true → Elements (tags t.nodes) s → is_plain (class_at (tags t.nodes) (top s)) ≡ true →
        ((q : List ℕ) → Rest (of (class_at (tags t.nodes)) s) (of (class_at (tags t.nodes)) q) → Elements (tags t.nodes) q → In r c (with_stack t q)) →
        In r c (with_stack t (drop 1 s))
    by [] h e k go = never h
    by (n ∷ ns) h e k go = go ns (rest_tail (class_at (tags t.nodes) n) (of (class_at (tags t.nodes)) ns) k h) (first_element_of (tags t.nodes) n ns e).1

-- an element of that name
named_plain : (name : List ℕ) (t : GrowingTree) (n : ℕ) → is_plain (name_class name) ≡ true → is_element (class_at (tags t.nodes) n) ≡ true →
    is_one t (name ∷ []) n ≡ true → is_plain (class_at (tags t.nodes) n) ≡ true
named_plain name t n p e one = by (is_plain (class_at (tags t.nodes) n)) refl
  where
    by : (x : Bool) → is_plain (class_at (tags t.nodes) n) ≡ x → is_plain (class_at (tags t.nodes) n) ≡ true
    by true k = k
    by false k = never (sym k ∙ subst (λ d. is_plain d ≡ true) (class_named name t n e k one) p)

pub in_adoption : (r : ℕ) (c : Site) (claim : Bool) (name : List ℕ) (t : GrowingTree) → is_plain (name_class name) ≡ true → Good Inside claim t → In r c t →
    In r c (adoption name t)
in_adoption r c claim name t plain good i = by (is_one t (name ∷ []) (current t)) (not (is_listed t (current t))) refl
  where
    element : is_element (class_at (tags t.nodes) (current t)) ≡ true
    element = deep_element _ (current_deep r c t i)

    by : (x y : Bool) → is_one t (name ∷ []) (current t) ≡ x →
        In r c (elim (x && y) as (λ _. GrowingTree) [ true ↦ with_stack t (drop 1 t.stack) | false ↦ adopt 8 name t ])
    by true true e = in_popped r c t (named_plain name t (current t) plain element e) i
    by true false e = in_adopt r c claim 8 name t plain good i
    by false y e = in_adopt r c claim 8 name t plain good i
