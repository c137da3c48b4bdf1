-- End tags of other elements, items of lists and the adoption agency algorithm keep how the stack of open elements ends.
use Rattle.std.specs.Prelude.{◌≡◌, ◌||◌, ◌⊎◌, refl, ℕ, zero, suc, Bool, true, false, not, ◌&&◌, List, [], ◌∷◌, ◌++◌, Option, None, Some}
use Rattle.std.specs.Prelude.{bytes_eq, codes, cond, drop, map, nat_eq, nat_lt}
use Rattle.std.proofs.Common.{inl, inr}
use Rattle.std.specs.List.{list_all, list_any}
use Rattle.std.proofs.lemmas.Bool.Decides.{Decides-eqb}
use Rattle.std.proofs.lemmas.Option.{same_Some}
use Rattle.std.proofs.lemmas.Slice.Eq.{bytes_eq-Decides}
use mathlib.Core.Path.{◌∙◌, sym, ap, subst}
use Rattle.standard_trees.specs.NameLists.{crossed_by_items, implied, scope, special}
use Rattle.standard_trees.specs.RuleWords.{Scope}
use Rattle.standard_trees.specs.TreeStore.{without, EndOf, Html, Node, changed_at, is_member, node_at}
use Rattle.standard_trees.specs.GrowingTree.{Entry, Formatting, GrowingTree, Marker, current, ends_scope, fresh, in_scope, is_among, is_one}
use Rattle.standard_trees.specs.GrowingTree.{key, kind_of, past, place_in, put, top, unstacked, with_stack}
use Rattle.standard_trees.specs.Formatting.{adopt, adopted_by, adopted_for, adopted_once, adoption, any_other_end, at_bookmark, attrs_of}
use Rattle.standard_trees.specs.Formatting.{before_in, behind_in, bookmarked, cleared, climb, climb_with, Climb}
use Rattle.standard_trees.specs.Formatting.{closed_item, closed_other, copied, ends_other, enlisted, is_entry, is_listed, last_listed}
use Rattle.standard_trees.specs.Formatting.{last_special, local_of, marked, open_item, replaced}
use Rattle.standard_trees.specs.Formatting.{replaced_entry, replaced_node, unlisted, without_third, wrapped, are_alike}
use Rattle.standard_order.proofs.Labels.{Grows, Is, Label, Makes, grows_at, grows_both, grows_put, grows_same, is_at, kind_at, label_of}
use Rattle.standard_order.proofs.Labels.{labels, labels_changed, makes_element}
use Rattle.standard_order.proofs.StandingStacks.{without_has, without_stands, Has, Inside, Only, Sort, Stands, allowed}
use Rattle.standard_order.proofs.StandingStacks.{any_valid, below_has, below_stands, both, cell, cells, fixed, framing, head, html, loose}
use Rattle.standard_order.proofs.StandingStacks.{loose_plain}
use Rattle.standard_order.proofs.StandingStacks.{never, only_apart, opposite, plain_popped, replaced_has}
use Rattle.standard_order.proofs.StandingStacks.{replaced_stands, same_number, stands_grown, template, valid, fewer}
use Rattle.standard_order.proofs.GoodTrees.{good_nodes, AllListed, AllLoose, Good, apart, cell_is_one, cells_end}
use Rattle.standard_order.proofs.GoodTrees.{copy_held, good_implied_past, good_listed, good_past, good_unlisted}
use Rattle.standard_order.proofs.GoodTrees.{good_unstacked}
use Rattle.standard_order.proofs.GoodTrees.{held, held_loose, label_for, loose_grown, loose_no_cell, pointers_grown}
use Rattle.standard_order.proofs.StandingStacks.{IsHead, named_apart, has_grown}
use Rattle.standard_order.proofs.GoodTrees.{among_more, Pointers}
use Rattle.standard_order.proofs.Labels.{at_both, at_kind}
use Rattle.standard_trees.specs.TreeStore.{put_at}

pub same_again : (n : ℕ) → nat_eq n n ≡ true
same_again n = (Decides-eqb n n).1 refl

-- ---- any other end tag

-- that element comes before every special one
pub ends_scoped : (t : GrowingTree) (name : List ℕ) (n : ℕ) (s : List ℕ) → ends_other t name s ≡ Some n →
    (in_scope (nat_eq n) (is_one t special) s ≡ true) × (is_one t (name ∷ []) n ≡ true)
ends_scoped t name n [] e = cc
ends_scoped t name n (m ∷ ms) e = by (is_one t (name ∷ []) m) (is_one t special m) refl refl e (λ more. ends_scoped t name n ms more)
  where
    by : (x y : Bool) → is_one t (name ∷ []) m ≡ x → is_one t special m ≡ y →
        elim x as (λ _. Option ℕ) [
          | true ↦ Some m
          | false ↦ elim y as (λ _. Option ℕ) [ true ↦ None | false ↦ ends_other t name ms ]
        ] ≡ Some n →
        (ends_other t name ms ≡ Some n → (in_scope (nat_eq n) (is_one t special) ms ≡ true) × (is_one t (name ∷ []) n ≡ true)) →
        (nat_eq n m || (not (is_one t special m) && in_scope (nat_eq n) (is_one t special) ms) ≡ true) × (is_one t (name ∷ []) n ≡ true)
    by true y f g k go =
        let same : m ≡ n = same_Some m n k in (
          subst (λ i. nat_eq n i || (not (is_one t special m) && in_scope (nat_eq n) (is_one t special) ms) ≡ true) (sym same)
              (ap (λ x. x || (not (is_one t special m) && in_scope (nat_eq n) (is_one t special) ms)) (same_again n)),
          subst (λ i. is_one t (name ∷ []) i ≡ true) same f,
        )
    by false true f g k go = cc
    by false false f g k go = (either (nat_eq n m) (ap (λ x. not x && in_scope (nat_eq n) (is_one t special) ms) g ∙ (go k).0), (go k).1)
      where
        either : (x : Bool) {y : Bool} → y ≡ true → x || y ≡ true
        either true h = refl
        either false h = h

pub one_apart : (t : GrowingTree) (name : List ℕ) (others : List (List ℕ)) → not (is_among name others) ≡ true →
    apart (name ∷ []) others ≡ true
one_apart t name others h = ap (λ x. x && true) h

-- the numbers that are this one
pub only_this : (ls : List Label) (n : ℕ) → Is loose ls n → Only loose ls (nat_eq n)
only_this ls n l m there h = subst (λ i. Is loose ls i) (same_number n m h) l

-- an element of the stack that is in scope is there
pub scope_there : (k : Sort) (ls : List Label) (n : ℕ) (ends : ℕ → Bool) (s : List ℕ) → Stands k ls s → in_scope (nat_eq n) ends s ≡ true →
    Is (λ l. true) ls n
scope_there k ls n ends [] st h = absurd st
scope_there k ls n ends (m ∷ ms) st h = by (nat_eq n m) (ends m) refl h st (λ more rest. scope_there k ls n ends ms rest more)
  where
    none_below : (q : List ℕ) → q ≡ [] → in_scope (nat_eq n) ends q ≡ true → ⊥
    none_below [] e g = cc
    none_below (x ∷ xs) e g = cc

    in_head : (q : List ℕ) → in_scope (nat_eq n) ends q ≡ true → IsHead ls q → Is (λ l. true) ls n
    in_head [] g hd = absurd hd
    in_head (x ∷ []) g hd = absurd hd.1
    in_head (x ∷ y ∷ z ∷ zs) g hd = absurd hd.1
    in_head (x ∷ y ∷ []) g hd = two (nat_eq n x) (nat_eq n y) refl refl (ends x) (ends y) g
      where
        two : (a b : Bool) → nat_eq n x ≡ a → nat_eq n y ≡ b → (c d : Bool) → a || (not c && (b || (not d && false))) ≡ true →
            Is (λ l. true) ls n
        two true b e f c d w = subst (λ i. Is (λ l. true) ls i) (sym (same_number n x e)) (any_valid head ls x hd.0)
        two false true e f c d w = subst (λ i. Is (λ l. true) ls i) (sym (same_number n y f)) (any_valid html ls y hd.1)
        two false false e f true d w = cc
        two false false e f false true w = cc
        two false false e f false false w = cc

    by : (x z : Bool) → nat_eq n m ≡ x → x || (not z && in_scope (nat_eq n) ends ms) ≡ true → Stands k ls (m ∷ ms) →
        (in_scope (nat_eq n) ends ms ≡ true → Stands k ls ms → Is (λ l. true) ls n) → Is (λ l. true) ls n
    by true z e g stands go = subst (λ i. Is (λ l. true) ls i) (sym (same_number n m e)) (valid k ls m ms stands)
    by false true e g stands go = cc
    by false false e g (inl at_html) go = absurd (none_below ms at_html.1 g)
    by false false e g (inr (inl at_head)) go = in_head ms g at_head.2
    by false false e g (inr (inr above)) go = go g above.1

pub good_any_other_end : (k : Sort) (claim : Bool) (name : List ℕ) (t : GrowingTree) → not (is_among name fixed) ≡ true → Good k claim t →
    Good k claim (any_other_end name t)
good_any_other_end k claim name t ok good = by (ends_other t name t.stack) refl
  where
    by : (o : Option ℕ) → ends_other t name t.stack ≡ o → Good k claim (closed_other o name t)
    by None e = good
    by (Some n) e =
        let found : (in_scope (nat_eq n) (is_one t special) t.stack ≡ true) × (is_one t (name ∷ []) n ≡ true) =
        ends_scoped t name n t.stack e in
        let l : Is loose (labels t.nodes) n = only_apart (name ∷ []) fixed (one_apart t name fixed ok) t n (scope_there k (labels t.nodes) n
        (is_one t special) t.stack good.0 found.0) found.1 in
        good_implied_past k claim t implied (name ∷ []) (nat_eq n) (is_one t special) refl (only_this (labels t.nodes) n l)
        (λ c m. cell_is_one t special refl m)
        (λ m h w. opposite (is_one t (name ∷ []) m) (both (is_one t implied m) (not (is_one t (name ∷ []) m)) h).1
        (subst (λ i. is_one t (name ∷ []) i ≡ true) (same_number n m w) found.1)) found.0 good

-- ---- items of lists

abbrev pub stops_items : GrowingTree → ℕ → Bool
stops_items t n = is_one t special n && not (is_one t crossed_by_items n)

item_scoped : (t : GrowingTree) (names : List (List ℕ)) (n : ℕ) (s : List ℕ) → open_item t names s ≡ Some n →
    (in_scope (is_one t (key t n ∷ [])) (stops_items t) s ≡ true) × (is_one t names n ≡ true)
item_scoped t names n [] e = cc
item_scoped t names n (m ∷ ms) e = by (is_one t names m) (stops_items t m) refl refl e (λ more. item_scoped t names n ms more)
  where
    either : (x : Bool) {y : Bool} → y ≡ true → x || y ≡ true
    either true h = refl
    either false h = h

    by : (x y : Bool) → is_one t names m ≡ x → stops_items t m ≡ y →
        elim x as (λ _. Option ℕ) [
          | true ↦ Some m
          | false ↦ elim y as (λ _. Option ℕ) [ true ↦ None | false ↦ open_item t names ms ]
        ] ≡ Some n →
        (open_item t names ms ≡ Some n → (in_scope (is_one t (key t n ∷ [])) (stops_items t) ms ≡ true) × (is_one t names n ≡ true)) →
        (is_one t (key t n ∷ []) m || (not (stops_items t m) && in_scope (is_one t (key t n ∷ [])) (stops_items t) ms) ≡ true) ×
        (is_one t names n ≡ true)
    by true y f g k go =
        let same : m ≡ n = same_Some m n k in (
          subst (λ i. is_one t (key t n ∷ []) i || (not (stops_items t m) && in_scope (is_one t (key t n ∷ [])) (stops_items t) ms) ≡ true)
              (sym same)
              (ap (λ x. (x || false) || (not (stops_items t m) && in_scope (is_one t (key t n ∷ [])) (stops_items t) ms))
              ((bytes_eq-Decides (key t n) (key t n)).1 refl)),
          subst (λ i. is_one t names i ≡ true) same f,
        )
    by false true f g k go = cc
    by false false f g k go = (
      either (is_one t (key t n ∷ []) m) (ap (λ x. not x && in_scope (is_one t (key t n ∷ [])) (stops_items t) ms)
          g ∙ (go k).0),
      (go k).1,
    )

pub good_closed_item : (k : Sort) (claim : Bool) (names : List (List ℕ)) (t : GrowingTree) → apart names fixed ≡ true → Good k claim t →
    Good k claim (closed_item (open_item t names t.stack) t)
good_closed_item k claim names t ok good = by (open_item t names t.stack) refl
  where
    by : (o : Option ℕ) → open_item t names t.stack ≡ o → Good k claim (closed_item o t)
    by None e = good
    by (Some n) e =
        let found : (in_scope (is_one t (key t n ∷ [])) (stops_items t) t.stack ≡ true) × (is_one t names n ≡ true) =
        item_scoped t names n t.stack e in
        let name_ok : not (is_among (key t n) fixed) ≡ true = named_apart names fixed ok (label_of (kind_of t n)) found.1 in
        good_implied_past k claim t implied (key t n ∷ []) (is_one t (key t n ∷ [])) (stops_items t) refl (only_apart (key t n ∷ []) fixed
        (one_apart t (key t n) fixed name_ok) t)
        (λ c m is. stops m is) (λ m h w. opposite (is_one t (key t n ∷ []) m) (both (is_one t implied m) (not (is_one t (key t n ∷ []) m))
        h).1 w) found.0 good
      where
        both_so : (x y : Bool) → x ≡ true → not y ≡ true → x && not y ≡ true
        both_so true y h k = k
        both_so false y h k = cc

        stops : (m : ℕ) → Is cell (labels t.nodes) m → stops_items t m ≡ true
        stops m is = both_so (is_one t special m) (is_one t crossed_by_items m) (cell_is_one t special refl m is)
            (named_apart cells crossed_by_items refl (label_of (kind_of t m)) (kind_at cell t.nodes m is))

-- ---- the list of active formatting elements

pub third_listed : (ls : List Label) (t : GrowingTree) (n count : ℕ) (es : List Entry) → AllListed ls es →
    AllListed ls (without_third t n count es)
third_listed ls t n count [] h = tt
third_listed ls t n count (Marker ∷ es) h = h
third_listed ls t n count (Formatting m ∷ es) h = by (are_alike t n m) (nat_eq count 2) (third_listed ls t n (suc count) es h.1)
    (third_listed ls t n count es h.1)
  where
    by : (x y : Bool) → AllListed ls (without_third t n (suc count) es) → AllListed ls (without_third t n count es) →
        AllListed ls (elim x as (λ _. List Entry) [
          | true ↦ elim y as (λ _. List Entry) [ true ↦ es | false ↦ Formatting m ∷ without_third t n (suc count) es ]
          | false ↦ Formatting m ∷ without_third t n count es
        ])
    by true true a b = h.1
    by true false a b = (h.0, a)
    by false y a b = (h.0, b)

pub good_enlisted : (k : Sort) (claim : Bool) (t : GrowingTree) → Is held (labels t.nodes) (current t) → Good k claim t →
    Good k claim (enlisted t)
good_enlisted k claim t h good =
    good_listed k claim t (Formatting (current t) ∷ without_third t (current t) 0 t.listed) (
      h,
      third_listed (labels t.nodes) t
          (current t) 0 t.listed good.2.entries,
    ) good

pub cleared_listed : (ls : List Label) (es : List Entry) → AllListed ls es → AllListed ls (cleared es)
cleared_listed ls [] h = tt
cleared_listed ls (Marker ∷ es) h = h
cleared_listed ls (Formatting n ∷ es) h = cleared_listed ls es h.1

pub good_cleared : (k : Sort) (claim : Bool) (t : GrowingTree) → Good k claim t → Good k claim (record t { listed = cleared t.listed })
good_cleared k claim t good = good_listed k claim t (cleared t.listed) (cleared_listed (labels t.nodes) t.listed good.2.entries) good

pub last_held : (ls : List Label) (t : GrowingTree) (names : List (List ℕ)) (es : List Entry) → AllListed ls es → (n : ℕ) →
    last_listed t names es ≡ Some n → Is held ls n
last_held ls t names [] h n e = cc
last_held ls t names (Marker ∷ es) h n e = cc
last_held ls t names (Formatting m ∷ es) h n e = by (is_one t names m) e (λ more. last_held ls t names es h.1 n more)
  where
    by : (x : Bool) → elim x as (λ _. Option ℕ) [ true ↦ Some m | false ↦ last_listed t names es ] ≡ Some n →
        (last_listed t names es ≡ Some n → Is held ls n) → Is held ls n
    by true k go = subst (λ i. Is held ls i) (same_Some m n k) h.0
    by false k go = go k

pub entry_held : (ls : List Label) (n : ℕ) (es : List Entry) → AllListed ls es → list_any (is_entry n) es ≡ true → Is held ls n
entry_held ls n [] h e = cc
entry_held ls n (Marker ∷ es) h e = entry_held ls n es h e
entry_held ls n (Formatting m ∷ es) h e = by (nat_eq m n) refl e (λ more. entry_held ls n es h.1 more)
  where
    by : (x : Bool) → nat_eq m n ≡ x → x || list_any (is_entry n) es ≡ true → (list_any (is_entry n) es ≡ true → Is held ls n) →
        Is held ls n
    by true f k go = subst (λ i. Is held ls i) (same_number m n f) h.0
    by false f k go = go k

-- ---- the adoption agency algorithm

-- an element that is allowed and ends no scope is loose
loose_from : (l : Label) → allowed Inside l ≡ true → not (is_among l.name scope) ≡ true → loose l ≡ true
loose_from l a b = and_not l.name (codes "td" ∷ codes "th" ∷ []) framing (fewer l.name (codes "td" ∷ codes "th" ∷ []) scope refl b)
    (and_not l.name (codes "html" ∷ codes "head" ∷ codes "template" ∷ []) (codes "frameset" ∷ [])
    (and_not l.name (codes "html" ∷ codes "head" ∷ []) (codes "template" ∷ []) (fewer l.name (codes "html" ∷ codes "head" ∷ [])
    (codes "html" ∷ codes "head" ∷ codes "frameset" ∷ []) refl a)
    (fewer l.name (codes "template" ∷ []) scope refl b)) (fewer l.name (codes "frameset" ∷ [])
    (codes "html" ∷ codes "head" ∷ codes "frameset" ∷ []) refl a))
  where
    and_not : (name : List ℕ) (some more : List (List ℕ)) → not (is_among name some) ≡ true → not (is_among name more) ≡ true →
        not (is_among name (some ++ more)) ≡ true
    and_not name [] more h k = k
    and_not name (one ∷ some) more h k = by (bytes_eq name one) h (λ rest. and_not name some more rest k)
      where
        by : (x : Bool) → not (x || is_among name some) ≡ true → (not (is_among name some) ≡ true →
            not (is_among name (some ++ more)) ≡ true) → not (x || is_among name (some ++ more)) ≡ true
        by true e go = cc
        by false e go = go e

-- the elements above one in scope are loose
before_loose : (ls : List Label) (t : GrowingTree) (n : ℕ) → ls ≡ labels t.nodes → (s : List ℕ) → Stands Inside ls s →
    in_scope (nat_eq n) (ends_scope Scope t) s ≡ true → AllLoose ls (before_in n s)
before_loose ls t n same [] st h = tt
before_loose ls t n same (m ∷ ms) st h = by (nat_eq m n) (nat_eq n m) (ends_scope Scope t m) refl refl refl h st
    (λ more rest. before_loose ls t n same ms rest more)
  where
    turned : nat_eq n m ≡ true → nat_eq m n ≡ true
    turned e = (Decides-eqb m n).1 (sym (same_number n m e))

    no_name : (test : Label → Bool) (names : List (List ℕ)) → ((l : Label) → test l ≡ true → is_among l.name names ≡ true) →
        list_all (λ one. is_among one scope) names ≡ true → Is test ls m → ends_scope Scope t m ≡ false → ⊥
    no_name test names named_so all is e =
        never (sym e ∙ among_more (key t m) names scope all (named_so (label_of (kind_of t m))
        (kind_at test t.nodes m (subst (λ l. Is test l m) same is))))

    by : (x y z : Bool) → nat_eq m n ≡ x → nat_eq n m ≡ y → ends_scope Scope t m ≡ z →
        y || (not z && in_scope (nat_eq n) (ends_scope Scope t) ms) ≡ true → Stands Inside ls (m ∷ ms) →
        (in_scope (nat_eq n) (ends_scope Scope t) ms ≡ true → Stands Inside ls ms → AllLoose ls (before_in n ms)) →
        AllLoose ls (elim x as (λ _. List ℕ) [ true ↦ [] | false ↦ m ∷ before_in n ms ])
    by true y z e f g k stands go = tt
    by false true z e f g k stands go = never (sym e ∙ turned f)
    by false false true e f g k stands go = cc
    by false false false e f g k (inl at_html) go = absurd (no_name html (codes "html" ∷ []) (λ l i. i) refl at_html.0 g)
    by false false false e f g k (inr (inl at_head)) go = absurd (no_name template (codes "template" ∷ []) (λ l i. i) refl at_head.1 g)
    by false false false e f g k (inr (inr above)) go =
        (at_both (allowed Inside) (λ l. not (is_among l.name scope)) loose loose_from ls m above.0 outside, go k above.1)
      where
        outside : Is (λ l. not (is_among l.name scope)) ls m
        outside = subst (λ l. Is (λ l. not (is_among l.name scope)) l m) (sym same)
            (at_kind (allowed Inside) (λ l. not (is_among l.name scope)) t.nodes m (subst (λ l. Is (allowed Inside) l m) same above.0)
            (ap not g))

listed_replaced : (ls : List Label) (old new : ℕ) → Is held ls new → (es : List Entry) → AllListed ls es →
    AllListed ls (map (replaced_entry old new) es)
listed_replaced ls old new q [] h = tt
listed_replaced ls old new q (Marker ∷ es) h = listed_replaced ls old new q es h
listed_replaced ls old new q (Formatting n ∷ es) h = by (nat_eq n old) (listed_replaced ls old new q es h.1)
  where
    by : (x : Bool) → AllListed ls (map (replaced_entry old new) es) → AllListed ls (cond x (Formatting new) (Formatting n) ∷ map
        (replaced_entry old new) es)
    by true k = (q, k)
    by false k = (h.0, k)

listed_bookmarked : (ls : List Label) (new mark : ℕ) → Is held ls new → (es : List Entry) → AllListed ls es →
    AllListed ls (bookmarked new mark es)
listed_bookmarked ls new mark q [] h = tt
listed_bookmarked ls new mark q (Marker ∷ es) h = listed_bookmarked ls new mark q es h
listed_bookmarked ls new mark q (Formatting n ∷ es) h = by (nat_eq n mark) (listed_bookmarked ls new mark q es h.1)
  where
    by : (x : Bool) → AllListed ls (bookmarked new mark es) →
        AllListed ls (elim x as (λ _. List Entry) [
          | true ↦ Formatting new ∷ Formatting n ∷ es
          | false ↦ Formatting n ∷ bookmarked new mark
              es
        ])
    by true k = (q, (h.0, h.1))
    by false k = (h.0, k)

-- the part of the stack between two elements
loose_between : (ls : List Label) (block n : ℕ) (s : List ℕ) → AllLoose ls (before_in n s) → AllLoose ls (before_in n (behind_in block s)) ⊎
    (AllLoose ls (before_in n s) × (list_any (nat_eq block) (before_in n s) ≡ false))
loose_between ls block n [] h = inr (h, refl)
loose_between ls block n (m ∷ ms) h = by (nat_eq m n) (nat_eq block m) refl h (λ more. loose_between ls block n ms more)
  where
    by : (x y : Bool) → nat_eq block m ≡ y → AllLoose ls (elim x as (λ _. List ℕ) [ true ↦ [] | false ↦ m ∷ before_in n ms ]) →
        (AllLoose ls (before_in n ms) → AllLoose ls (before_in n (behind_in block ms)) ⊎ (AllLoose ls (before_in n ms) ×
        (list_any (nat_eq block) (before_in n ms) ≡ false))) →
        AllLoose ls (before_in n (elim y as (λ _. List ℕ) [ true ↦ ms | false ↦ behind_in block ms ])) ⊎
        (AllLoose ls (elim x as (λ _. List ℕ) [ true ↦ [] | false ↦ m ∷ before_in n ms ]) ×
        (list_any (nat_eq block) (elim x as (λ _. List ℕ) [ true ↦ [] | false ↦ m ∷ before_in n ms ]) ≡ false))
    by true y e k go = inr (tt, refl)
    by false true e k go = inl k.1
    by false false e k go = later (go k.1)
      where
        later : AllLoose ls (before_in n (behind_in block ms)) ⊎ (AllLoose ls (before_in n ms) ×
            (list_any (nat_eq block) (before_in n ms) ≡ false)) →
            AllLoose ls (before_in n (behind_in block ms)) ⊎ (AllLoose ls (m ∷ before_in n ms) ×
            (list_any (nat_eq block) (m ∷ before_in n ms) ≡ false))
        later (inl a) = inl a
        later (inr a) = inr (k, ap (λ x. x || list_any (nat_eq block) (before_in n ms)) e ∙ a.1)

-- the furthest block is one of the elements
last_special_in : (t : GrowingTree) (ls : List Label) (seen : Option ℕ) (all s : List ℕ) (block : ℕ) →
    ((m : ℕ) → seen ≡ Some m → list_any (nat_eq m) all ≡ true) →
    ((m : ℕ) → list_any (nat_eq m) s ≡ true → list_any (nat_eq m) all ≡ true) → last_special t seen s ≡ Some block →
    list_any (nat_eq block) all ≡ true
last_special_in t ls seen all [] block old new e = old block e
last_special_in t ls seen all (n ∷ ns) block old new e =
    last_special_in t ls (elim (is_one t special n) as (λ _. Option ℕ) [ true ↦ Some n | false ↦ seen ]) all ns block
    (by (is_one t special n)) (λ m h. new m (later (nat_eq m n) h)) e
  where
    later : (x : Bool) {y : Bool} → y ≡ true → x || y ≡ true
    later true h = refl
    later false h = h

    by : (x : Bool) → (m : ℕ) → elim x as (λ _. Option ℕ) [ true ↦ Some n | false ↦ seen ] ≡ Some m → list_any (nat_eq m) all ≡ true
    by true m h = new m (ap (λ x. x || list_any (nat_eq m) ns) (subst (λ i. nat_eq m i ≡ true) (sym (same_Some n m h)) (same_again m)))
    by false m h = old m h

loose_member : (ls : List Label) (n : ℕ) (s : List ℕ) → AllLoose ls s → list_any (nat_eq n) s ≡ true → Is loose ls n
loose_member ls n [] h e = cc
loose_member ls n (m ∷ ms) h e = by (nat_eq n m) refl e (λ more. loose_member ls n ms h.1 more)
  where
    by : (x : Bool) → nat_eq n m ≡ x → x || list_any (nat_eq n) ms ≡ true → (list_any (nat_eq n) ms ≡ true → Is loose ls n) → Is loose ls n
    by true f k go = subst (λ i. Is loose ls i) (sym (same_number n m f)) h.0
    by false f k go = go k

-- ---- the inner loop

pub record Climbed (claim : Bool) (old : GrowingTree) (c : Climb) : Type 0 where
  pub good : Good Inside claim c.tree
  pub grows : Grows old.nodes c.tree.nodes

-- a copy of an entry's element takes its place
pub copy_placed : (claim : Bool) (t : GrowingTree) (node last : ℕ) → Is held (labels t.nodes) node → Is loose (labels t.nodes) node →
    Good Inside claim t →
    Good Inside claim (put last (EndOf (fresh t)) (replaced node (fresh t) (copied node t))) × Grows t.nodes
    (put last (EndOf (fresh t)) (replaced node (fresh t) (copied node t))).nodes
copy_placed claim t node last h l good = (
  subst (λ (u : GrowingTree). Good Inside claim (put last (EndOf (fresh t)) (replaced node (fresh t) u))) (sym makes.only) whole,
  grows_both t.nodes (copied node t).nodes (put_at_last (copied node t).nodes) makes.grows (grows_put last (EndOf (fresh t))
      (copied node t).nodes),
)
  where
    makes : Makes (label_for Html (local_of t node)) t (copied node t)
    makes = makes_element Html (local_of t node) (attrs_of t node) t

    put_at_last : List Node → List Node
    put_at_last nodes = put_at last (EndOf (fresh t)) nodes

    nodes : List Node
    nodes = (copied node t).nodes

    new_held : Is held (labels nodes) (fresh t)
    new_held = makes.made held (copy_held t node h)

    first : Good Inside claim (record t {
      nodes = nodes;
      stack = map (replaced_node node (fresh t)) t.stack;
      listed = map (replaced_entry node (fresh t)) t.listed;
    })
    first = (
      replaced_stands Inside (labels nodes) node (fresh t) (loose_plain (labels nodes) node (grows_at loose t.nodes nodes makes.grows node
          l))
          (loose_plain (labels nodes) (fresh t) (held_loose (labels nodes) (fresh t) new_held)) t.stack
          (stands_grown Inside t.nodes nodes makes.grows t.stack good.0),
      λ c. replaced_has cell (labels nodes) node (fresh t) (loose_no_cell (labels nodes) node (grows_at loose t.nodes nodes makes.grows node
          l)) t.stack
          (has_grown cell t.nodes nodes makes.grows t.stack (good.1 c)),
      record {
        entries = listed_replaced (labels nodes) node (fresh t) new_held t.listed p.entries;
        form_is = p.form_is;
        found_is = p.found_is;
        head_is = p.head_is;
      },
    )
      where
        p : Pointers (labels nodes) t.listed t.form t.found t.head t.context
        p = pointers_grown t.nodes nodes makes.grows t.listed t.form t.found t.head t.context good.2

    whole : Good Inside claim (put last (EndOf (fresh t)) (replaced node (fresh t) (record t { nodes = nodes })))
    whole = good_nodes Inside claim (replaced node (fresh t) (record t { nodes = nodes }))
        (put last (EndOf (fresh t)) (replaced node (fresh t) (record t { nodes = nodes })))
        (record { grows = grows_put last (EndOf (fresh t)) nodes; only = refl }) first

pub climbed : (claim : Bool) (nodes : List ℕ) (count last : ℕ) (mark : Option ℕ) (t : GrowingTree) → AllLoose (labels t.nodes) nodes →
    Good Inside claim t → Climbed claim t (climb nodes count last mark t)
climbed claim [] count last mark t loose_all good = record { good = good; grows = grows_same t.nodes t.nodes refl }
climbed claim (node ∷ nodes) count last mark t loose_all good =
    by_count (nat_lt 3 count) (λ u l m g n h. with_node u l m g n h (λ v b k a w. climbed claim nodes (suc count) b k v a w))
  where
    abbrev_goal : GrowingTree → Type 0
    abbrev_goal u = Climbed claim u (climb_with (climb nodes (suc count)) node last mark u)

    with_node : (u : GrowingTree) → AllLoose (labels u.nodes) nodes → Is loose (labels u.nodes) node → Good Inside claim u → (x : Bool) →
        is_listed u node ≡ x →
        ((v : GrowingTree) (b : ℕ) (k : Option ℕ) → AllLoose (labels v.nodes) nodes → Good Inside claim v →
        Climbed claim v (climb nodes (suc count) b k v)) →
        Climbed claim u (elim x as (λ _. Climb) [
          | true ↦ climb nodes (suc count) (fresh u) (marked mark (fresh u))
              (put last (EndOf (fresh u)) (replaced node (fresh u) (copied node u)))
          | false ↦ climb nodes (suc count) last mark (unstacked node u)
        ])
    with_node u all l g true e more =
        let placed : Good Inside claim (put last (EndOf (fresh u)) (replaced node (fresh u) (copied node u))) × Grows u.nodes
        (put last (EndOf (fresh u)) (replaced node (fresh u) (copied node u))).nodes =
        copy_placed claim u node last (entry_held (labels u.nodes) node u.listed g.2.entries e) l g in
        let rest : Climbed claim (put last (EndOf (fresh u)) (replaced node (fresh u) (copied node u))) (climb nodes (suc count) (fresh u)
        (marked mark (fresh u)) (put last (EndOf (fresh u)) (replaced node (fresh u) (copied node u)))) =
        more (put last (EndOf (fresh u)) (replaced node (fresh u) (copied node u))) (fresh u) (marked mark (fresh u))
        (loose_grown u.nodes (put last (EndOf (fresh u)) (replaced node (fresh u) (copied node u))).nodes placed.1 nodes all) placed.0 in
        record {
          good = rest.good;
          grows = grows_both u.nodes (put last (EndOf (fresh u)) (replaced node (fresh u) (copied node u))).nodes _
              placed.1 rest.grows;
        }
    with_node u all l g false e more =
        let rest : Climbed claim (unstacked node u) (climb nodes (suc count) last mark (unstacked node u)) =
        more (unstacked node u) last mark all (good_unstacked Inside claim u node l g) in
        record { good = rest.good; grows = rest.grows }

    by_count : (y : Bool) → ((u : GrowingTree) → AllLoose (labels u.nodes) nodes → Is loose (labels u.nodes) node → Good Inside claim u →
        (x : Bool) → is_listed u node ≡ x →
        Climbed claim u (elim x as (λ _. Climb) [
          | true ↦ climb nodes (suc count) (fresh u) (marked mark (fresh u))
              (put last (EndOf (fresh u)) (replaced node (fresh u) (copied node u)))
          | false ↦ climb nodes (suc count) last mark (unstacked node u)
        ])) → Climbed claim t (climb_with (climb nodes (suc count)) node last mark
        (elim y as (λ _. GrowingTree) [ true ↦ unlisted node t | false ↦ t ]))
    by_count true go =
        let rest : Climbed claim (unlisted node t) (climb_with (climb nodes (suc count)) node last mark (unlisted node t)) =
        go (unlisted node t) loose_all.1 loose_all.0 (good_unlisted Inside claim t node good) (is_listed (unlisted node t) node) refl in
        record { good = rest.good; grows = rest.grows }
    by_count false go = go t loose_all.1 loose_all.0 good (is_listed t node) refl

-- ---- the current node is popped

pub good_popped : (k : Sort) (claim : Bool) (t : GrowingTree) → Is loose (labels t.nodes) (current t) → Good k claim t →
    Good k claim (with_stack t (drop 1 t.stack))
good_popped k claim t l good = by t.stack l good.0 good.1
  where
    by : (s : List ℕ) → Is loose (labels t.nodes) (top s) → Stands k (labels t.nodes) s → (claim ≡ true → Has cell (labels t.nodes) s) →
        Good k claim (with_stack t (drop 1 s))
    by [] m stands celled = absurd stands
    by (n ∷ ns) m stands celled = (
      plain_popped k (labels t.nodes) n ns (loose_plain (labels t.nodes) n m) stands,
      λ c. rest (is_at cell (labels t.nodes) n) refl (celled c),
      good.2,
    )
      where
        rest : (x : Bool) → is_at cell (labels t.nodes) n ≡ x → x || list_any (is_at cell (labels t.nodes)) ns ≡ true →
            Has cell (labels t.nodes) ns
        rest true e h = absurd (loose_no_cell (labels t.nodes) n m e)
        rest false e h = h

-- ---- the outer loop

bookmark_good : (claim : Bool) (mark : Option ℕ) (old new : ℕ) (t : GrowingTree) → Is held (labels t.nodes) new → Good Inside claim t →
    Good Inside claim (at_bookmark mark old new t)
bookmark_good claim None old new t q good = good_listed Inside claim t (map (replaced_entry old new) t.listed)
    (listed_replaced (labels t.nodes) old new q t.listed good.2.entries) good
bookmark_good claim (Some mark) old new t q good =
    let first : Good Inside claim (unlisted old t) = good_unlisted Inside claim t old good in
    good_listed Inside claim (unlisted old t) (bookmarked new mark (unlisted old t).listed) (listed_bookmarked (labels t.nodes) new mark q
    (unlisted old t).listed first.2.entries) first

pub bookmark_nodes : (mark : Option ℕ) (old new : ℕ) (t : GrowingTree) → (at_bookmark mark old new t).nodes ≡ t.nodes
bookmark_nodes None old new t = refl
bookmark_nodes (Some mark) old new t = refl

pub adopted_good : (claim : Bool) (formatting block : ℕ) (c : Climb) → Is held (labels c.tree.nodes) formatting →
    Is loose (labels c.tree.nodes) block → Good Inside claim c.tree →
    Good Inside claim (adopted_by formatting block c) × Grows c.tree.nodes (adopted_by formatting block c).nodes
adopted_good claim formatting block c f_held b_loose good = (
  (
    below_stands Inside (labels after.nodes) new block (loose_plain (labels after.nodes) block (at loose block b_loose))
        (loose_plain (labels after.nodes) new new_loose) (without formatting after.stack)
        (without_stands Inside (labels after.nodes) formatting (loose_plain (labels after.nodes) formatting f_loose) after.stack
        after_good.0),
    λ k. below_has cell (labels after.nodes) new block (without formatting after.stack)
        (without_has cell (labels after.nodes) formatting (loose_no_cell (labels after.nodes) formatting f_loose) after.stack
        (after_good.1 k)),
    after_good.2,
  ),
  grown_after,
)
  where
    placed : GrowingTree
    placed = put c.last (place_in c.tree (top (behind_in formatting c.tree.stack))) c.tree

    new : ℕ
    new = fresh placed

    placed_good : Good Inside claim placed
    placed_good = good_nodes Inside claim c.tree placed
        (record { grows = grows_put c.last (place_in c.tree (top (behind_in formatting c.tree.stack))) c.tree.nodes; only = refl }) good

    placed_grows : Grows c.tree.nodes placed.nodes
    placed_grows = grows_put c.last (place_in c.tree (top (behind_in formatting c.tree.stack))) c.tree.nodes

    copy : GrowingTree
    copy = copied formatting placed

    makes : Makes (label_for Html (local_of placed formatting)) placed copy
    makes = makes_element Html (local_of placed formatting) (attrs_of placed formatting) placed

    copy_good : Good Inside claim copy
    copy_good = good_nodes Inside claim placed copy (record { grows = makes.grows; only = makes.only }) placed_good

    new_made : Is held (labels copy.nodes) new
    new_made = makes.made held (copy_held placed formatting (grows_at held c.tree.nodes placed.nodes placed_grows formatting f_held))

    moved : GrowingTree
    moved = wrapped block new copy

    moved_same : labels moved.nodes ≡ labels copy.nodes
    moved_same =
        labels_changed (λ node. record node { children = new ∷ [] }) (λ node. refl)
        (changed_at (λ node. record node { children = (node_at copy.nodes block).children }) copy.nodes new) block
        ∙ labels_changed (λ node. record node { children = (node_at copy.nodes block).children }) (λ node. refl) copy.nodes new

    moved_good : Good Inside claim moved
    moved_good = good_nodes Inside claim copy moved (record { grows = grows_same copy.nodes moved.nodes moved_same; only = refl }) copy_good

    after : GrowingTree
    after = at_bookmark c.mark formatting new moved

    after_good : Good Inside claim after
    after_good = bookmark_good claim c.mark formatting new moved (subst (λ ls. Is held ls new) (sym moved_same) new_made) moved_good

    after_same : labels after.nodes ≡ labels copy.nodes
    after_same = ap labels (bookmark_nodes c.mark formatting new moved) ∙ moved_same

    grown_after : Grows c.tree.nodes after.nodes
    grown_after = grows_both c.tree.nodes placed.nodes after.nodes placed_grows (grows_both placed.nodes copy.nodes after.nodes makes.grows
        (grows_same copy.nodes after.nodes after_same))

    at : (test : Label → Bool) (n : ℕ) → Is test (labels c.tree.nodes) n → Is test (labels after.nodes) n
    at test n h = grows_at test c.tree.nodes after.nodes grown_after n h

    f_loose : Is loose (labels after.nodes) formatting
    f_loose = held_loose (labels after.nodes) formatting (at held formatting f_held)

    new_loose : Is loose (labels after.nodes) new
    new_loose = held_loose (labels after.nodes) new (subst (λ ls. Is held ls new) (sym after_same) new_made)

-- the furthest block is loose, and so are the elements between it and the formatting element
pub block_loose : (claim : Bool) (t : GrowingTree) (formatting block : ℕ) → Good Inside claim t → in_scope (nat_eq formatting)
    (ends_scope Scope t) t.stack ≡ true →
    last_special t None (before_in formatting t.stack) ≡ Some block → Is loose (labels t.nodes) block × AllLoose (labels t.nodes)
    (before_in formatting (behind_in block t.stack))
block_loose claim t formatting block good scope e = (
  loose_member (labels t.nodes) block (before_in formatting t.stack) all there,
  by (loose_between (labels t.nodes) block formatting t.stack all),
)
  where
    all : AllLoose (labels t.nodes) (before_in formatting t.stack)
    all = before_loose (labels t.nodes) t formatting refl t.stack good.0 scope

    there : list_any (nat_eq block) (before_in formatting t.stack) ≡ true
    there = last_special_in t (labels t.nodes) None (before_in formatting t.stack) (before_in formatting t.stack) block (λ m h. none m h)
        (λ m h. h) e
      where
        none : (m : ℕ) → None ≡ Some m → list_any (nat_eq m) (before_in formatting t.stack) ≡ true
        none m h = cc

    by : AllLoose (labels t.nodes) (before_in formatting (behind_in block t.stack)) ⊎
        (AllLoose (labels t.nodes) (before_in formatting t.stack) × (list_any (nat_eq block) (before_in formatting t.stack) ≡ false)) →
        AllLoose (labels t.nodes) (before_in formatting (behind_in block t.stack))
    by (inl a) = a
    by (inr a) = never (sym a.1 ∙ there)

good_adopt : (claim : Bool) (times : ℕ) (name : List ℕ) (t : GrowingTree) → not (is_among name fixed) ≡ true → Good Inside claim t →
    Good Inside claim (adopt times name t)
good_adopt claim zero name t ok good = good
good_adopt claim (suc times) name t ok good = by (last_listed t (name ∷ []) t.listed) refl (λ u g. good_adopt claim times name u ok g)
  where
    by : (o : Option ℕ) → last_listed t (name ∷ []) t.listed ≡ o → ((u : GrowingTree) → Good Inside claim u →
        Good Inside claim (adopt times name u)) →
        Good Inside claim (adopted_for o name (adopt times name) t)
    by None e again = good_any_other_end Inside claim name t ok good
    by (Some formatting) e again = by_place (is_member formatting t.stack) (in_scope (nat_eq formatting) (ends_scope Scope t) t.stack) refl
      where
        f_held : Is held (labels t.nodes) formatting
        f_held = last_held (labels t.nodes) t (name ∷ []) t.listed good.2.entries formatting e

        f_loose : Is loose (labels t.nodes) formatting
        f_loose = held_loose (labels t.nodes) formatting f_held

        once : (b : Option ℕ) → last_special t None (before_in formatting t.stack) ≡ b → in_scope (nat_eq formatting) (ends_scope Scope t)
            t.stack ≡ true → Good Inside claim (adopted_once formatting b (adopt times name) t)
        once None f scope =
            good_unlisted Inside claim (with_stack t (past (nat_eq formatting) t.stack)) formatting
            (good_past Inside claim t (nat_eq formatting) (ends_scope Scope t) (only_this (labels t.nodes) formatting f_loose)
            (λ c n. cells_end Scope refl t n) scope good)
        once (Some block) f scope =
            let two : Is loose (labels t.nodes) block × AllLoose (labels t.nodes) (before_in formatting (behind_in block t.stack)) =
            block_loose claim t formatting block good scope f in
            let c : Climbed claim t (climb (before_in formatting (behind_in block t.stack)) 1 block None t) =
            climbed claim (before_in formatting (behind_in block t.stack)) 1 block None t two.1 good in
            again (adopted_by formatting block (climb (before_in formatting (behind_in block t.stack)) 1 block None t))
            (adopted_good claim formatting block (climb (before_in formatting (behind_in block t.stack)) 1 block None t)
            (grows_at held t.nodes _ c.grows formatting f_held) (grows_at loose t.nodes _ c.grows block two.0) c.good).0

        by_place : (x y : Bool) → in_scope (nat_eq formatting) (ends_scope Scope t) t.stack ≡ y →
            Good Inside claim (elim x as (λ _. GrowingTree) [
              | false ↦ unlisted formatting t
              | true ↦ elim y as (λ _. GrowingTree) [
                | false ↦ t
                | true ↦ adopted_once formatting
                    (last_special t None (before_in formatting t.stack)) (adopt times name) t
              ]
            ])
        by_place false y f = good_unlisted Inside claim t formatting good
        by_place true false f = good
        by_place true true f = once (last_special t None (before_in formatting t.stack)) refl f

pub good_adoption : (claim : Bool) (name : List ℕ) (t : GrowingTree) → not (is_among name fixed) ≡ true → Good Inside claim t →
    Good Inside claim (adoption name t)
good_adoption claim name t ok good = by (is_one t (name ∷ []) (current t) && not (is_listed t (current t))) refl
  where
    by : (x : Bool) → is_one t (name ∷ []) (current t) && not (is_listed t (current t)) ≡ x →
        Good Inside claim (elim x as (λ _. GrowingTree) [ true ↦ with_stack t (drop 1 t.stack) | false ↦ adopt 8 name t ])
    by true e = good_popped Inside claim t (top_loose t.stack refl) good
      where
        top_loose : (s : List ℕ) → t.stack ≡ s → Is loose (labels t.nodes) (top s)
        top_loose [] f = absurd (subst (λ q. Stands Inside (labels t.nodes) q) f good.0)
        top_loose (n ∷ ns) f = only_apart (name ∷ []) fixed (one_apart t name fixed ok) t n (valid Inside (labels t.nodes) n ns
            (subst (λ q. Stands Inside (labels t.nodes) q) f good.0))
            (subst (λ q. is_one t (name ∷ []) (top q) ≡ true) f (both (is_one t (name ∷ []) (current t)) (not (is_listed t (current t)))
            e).0)
    by false e = good_adopt claim 8 name t ok good
