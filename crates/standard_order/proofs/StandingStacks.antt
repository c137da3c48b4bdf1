-- How stacks of open elements end, and that searches and changes above that end leave it.
use Rattle.std.specs.Prelude.{◌≡◌, ◌||◌, ◌⊎◌, refl, ℕ, Bool, true, false, not, ◌&&◌, List, [], ◌∷◌, bytes_eq, codes, cond, map, nat_eq}
use Rattle.std.proofs.Common.{inl, inr}
use Rattle.std.specs.List.{list_all, list_any}
use Rattle.std.proofs.lemmas.Bool.Decides.{Decides-eqb}
use Rattle.std.proofs.lemmas.Slice.Eq.{bytes_eq-Decides}
use mathlib.Core.Path.{◌∙◌, sym, ap, subst}
use Rattle.standard_trees.specs.TreeStore.{Node, without}
use Rattle.standard_trees.specs.GrowingTree.{GrowingTree, beyond, in_scope, is_among, is_one, past}
use Rattle.standard_trees.specs.Formatting.{replaced_node, stacked_below}
use Rattle.standard_order.proofs.Labels.{Grows, Is, Label, at_kind, grows_at, is_at, labels, named, never_at, other_than, weaker_at}

-- ---- Booleans

pub both : (x y : Bool) → x && y ≡ true → (x ≡ true) × (y ≡ true)
both true y h = (refl, h)
both false y h = cc

pub never : {A : Type 0} → false ≡ true → A
never h = cc

pub opposite : (x : Bool) → not x ≡ true → x ≡ true → ⊥
opposite true h k = cc
opposite false h k = cc

pub same_number : (n m : ℕ) → nat_eq n m ≡ true → n ≡ m
same_number n m h = (Decides-eqb n m).0 h

-- ---- names

-- elements that hold a page together
abbrev pub framing : List (List ℕ)
framing = codes "html" ∷ codes "head" ∷ codes "template" ∷ codes "frameset" ∷ []

-- and cells
abbrev pub cells : List (List ℕ)
cells = codes "td" ∷ codes "th" ∷ []

abbrev pub fixed : List (List ℕ)
fixed = codes "td" ∷ codes "th" ∷ framing

abbrev pub plain : Label → Bool
plain l = other_than framing l

abbrev pub loose : Label → Bool
loose l = other_than fixed l

among_apart : (name : List ℕ) (some others : List (List ℕ)) → list_all (λ one. not (is_among one others)) some ≡ true →
    is_among name some ≡ true → not (is_among name others) ≡ true
among_apart name [] others all h = cc
among_apart name (one ∷ some) others all h =
    by (bytes_eq name one) refl h (among_apart name some others (both (not (is_among one others))
    (list_all (λ one. not (is_among one others)) some) all).1)
  where
    by : (x : Bool) → bytes_eq name one ≡ x → x || is_among name some ≡ true →
        (is_among name some ≡ true → not (is_among name others) ≡ true) → not (is_among name others) ≡ true
    by true e k more = ap (λ (n : List ℕ). not (is_among n others)) ((bytes_eq-Decides name one).0 e)
        ∙ (both (not (is_among one others)) (list_all (λ one. not (is_among one others)) some) all).0
    by false e k more = more k

pub named_apart : (some others : List (List ℕ)) → list_all (λ one. not (is_among one others)) some ≡ true → (l : Label) →
    named some l ≡ true → other_than others l ≡ true
named_apart some others all l h = among_apart l.name some others all h

-- ---- the end of a stack

-- how the elements end: with `html` alone below elements without a template; the same, with framesets; or also with `head` in `html`,
-- just below a template
pub data Sort : Type 0 where
  Closed Framed Inside : Sort

abbrev pub allowed : Sort → Label → Bool
allowed Closed l = other_than framing l
allowed Framed l = other_than (codes "html" ∷ codes "head" ∷ codes "template" ∷ []) l
allowed Inside l = other_than (codes "html" ∷ codes "head" ∷ codes "frameset" ∷ []) l

abbrev pub on_head : Sort → Bool
on_head Closed = false
on_head Framed = false
on_head Inside = true

abbrev pub html : Label → Bool
html l = named (codes "html" ∷ []) l

abbrev pub head : Label → Bool
head l = named (codes "head" ∷ []) l

abbrev pub template : Label → Bool
template l = named (codes "template" ∷ []) l

abbrev pub cell : Label → Bool
cell l = named cells l

abbrev pub IsRoot : List Label → List ℕ → Type 0
IsRoot ls [] = ⊥
IsRoot ls (r ∷ []) = Is html ls r
IsRoot ls (n ∷ m ∷ ns) = ⊥

abbrev pub IsHead : List Label → List ℕ → Type 0
IsHead ls [] = ⊥
IsHead ls (h ∷ ns) = Is head ls h × IsRoot ls ns

abbrev pub Stands : Sort → List Label → List ℕ → Type 0
Stands k ls [] = ⊥
Stands k ls (n ∷ ns) =
    (Is html ls n × (ns ≡ [])) ⊎ (((on_head k ≡ true) × Is template ls n × IsHead ls ns) ⊎ (Is (allowed k) ls n × Stands k ls ns))

-- ---- labels of these kinds

x_not : (x y z w : Bool) → not (x || y) ≡ true → x ≡ true → ⊥
x_not true y z w h k = cc
x_not false y z w h k = cc

not_first : (name one : List ℕ) (more : List (List ℕ)) → not (is_among name (one ∷ more)) ≡ true → is_among name (one ∷ []) ≡ true → ⊥
not_first name one more h k = by (bytes_eq name one) h k
  where
    by : (x : Bool) → not (x || is_among name more) ≡ true → x || false ≡ true → ⊥
    by true e f = cc
    by false e f = cc

not_rest : (name one : List ℕ) (more : List (List ℕ)) → not (is_among name (one ∷ more)) ≡ true → not (is_among name more) ≡ true
not_rest name one more h = by (bytes_eq name one) h
  where
    by : (x : Bool) → not (x || is_among name more) ≡ true → not (is_among name more) ≡ true
    by true e = cc
    by false e = e

or_more : (name one : List ℕ) (more : List (List ℕ)) → not (is_among name (one ∷ [])) ≡ true → not (is_among name more) ≡ true →
    not (is_among name (one ∷ more)) ≡ true
or_more name one more h k = by (bytes_eq name one) h
  where
    by : (x : Bool) → not (x || false) ≡ true → not (x || is_among name more) ≡ true
    by true e = cc
    by false e = k

one_of : (name one : List ℕ) (some : List (List ℕ)) → is_among one some ≡ true → not (is_among name some) ≡ true →
    not (is_among name (one ∷ [])) ≡ true
one_of name one some in_some h = by (bytes_eq name one) refl
  where
    by : (x : Bool) → bytes_eq name one ≡ x → not (x || false) ≡ true
    by true e = absurd (opposite (is_among name some) h (ap (λ (n : List ℕ). is_among n some) ((bytes_eq-Decides name one).0 e) ∙ in_some))
    by false e = refl

pub fewer : (name : List ℕ) (few some : List (List ℕ)) → list_all (λ one. is_among one some) few ≡ true → not (is_among name some) ≡ true →
    not (is_among name few) ≡ true
fewer name [] some all h = refl
fewer name (one ∷ few) some all h =
    let parts : (is_among one some ≡ true) × (list_all (λ other. is_among other some) few ≡ true) =
    both (is_among one some) (list_all (λ other. is_among other some) few) all in
    or_more name one few (one_of name one some parts.0 h) (fewer name few some parts.1 h)

pub plain_allowed : (k : Sort) (ls : List Label) (n : ℕ) → Is plain ls n → Is (allowed k) ls n
plain_allowed Closed ls n h = h
plain_allowed Framed ls n h = weaker_at plain (allowed Framed) (λ l k. fewer l.name (codes "html" ∷ codes "head" ∷ codes "template" ∷ [])
    framing refl k) ls n h
plain_allowed Inside ls n h = weaker_at plain (allowed Inside) (λ l k. fewer l.name (codes "html" ∷ codes "head" ∷ codes "frameset" ∷ [])
    framing refl k) ls n h

pub loose_plain : (ls : List Label) (n : ℕ) → Is loose ls n → Is plain ls n
loose_plain ls n h = weaker_at loose plain (λ l k. fewer l.name framing fixed refl k) ls n h

pub plain_not : (one : List ℕ) → is_among one framing ≡ true → (ls : List Label) (n : ℕ) → Is plain ls n → Is (named (one ∷ [])) ls n → ⊥
plain_not one in_framing ls n h k = never_at plain (named (one ∷ [])) (λ l e f. opposite (is_among l.name (one ∷ []))
    (one_of l.name one framing in_framing e) f) ls n h k

pub allowed_not : (k : Sort) (one : List ℕ) → is_among one (codes "html" ∷ codes "head" ∷ []) ≡ true → (ls : List Label) (n : ℕ) →
    Is (allowed k) ls n → Is (named (one ∷ [])) ls n → ⊥
allowed_not k one early ls n h i = never_at (allowed k) (named (one ∷ [])) (λ l e f. opposite (is_among l.name (one ∷ []))
    (one_of l.name one (codes "html" ∷ codes "head" ∷ []) early (only k l e)) f) ls n h i
  where
    only : (k : Sort) (l : Label) → allowed k l ≡ true → not (is_among l.name (codes "html" ∷ codes "head" ∷ [])) ≡ true
    only Closed l e = fewer l.name (codes "html" ∷ codes "head" ∷ []) framing refl e
    only Framed l e = fewer l.name (codes "html" ∷ codes "head" ∷ []) (codes "html" ∷ codes "head" ∷ codes "template" ∷ []) refl e
    only Inside l e = fewer l.name (codes "html" ∷ codes "head" ∷ []) (codes "html" ∷ codes "head" ∷ codes "frameset" ∷ []) refl e

-- ---- elements above the end

pub plain_popped : (k : Sort) (ls : List Label) (n : ℕ) (ns : List ℕ) → Is plain ls n → Stands k ls (n ∷ ns) → Stands k ls ns
plain_popped k ls n ns p (inl at_html) = absurd (plain_not (codes "html") refl ls n p at_html.0)
plain_popped k ls n ns p (inr (inl at_head)) = absurd (plain_not (codes "template") refl ls n p at_head.1)
plain_popped k ls n ns p (inr (inr above)) = above.1

pub pushed_on : (k : Sort) (ls : List Label) (n : ℕ) (ns : List ℕ) → Is (allowed k) ls n → Stands k ls ns → Stands k ls (n ∷ ns)
pushed_on k ls n ns a s = inr (inr (a, s))

pub any_valid : (test : Label → Bool) (ls : List Label) (n : ℕ) → Is test ls n → Is (λ l. true) ls n
any_valid test ls n h = weaker_at test (λ l. true) (λ l k. refl) ls n h

pub valid : (k : Sort) (ls : List Label) (n : ℕ) (ns : List ℕ) → Stands k ls (n ∷ ns) → Is (λ l. true) ls n
valid k ls n ns (inl at_html) = any_valid html ls n at_html.0
valid k ls n ns (inr (inl at_head)) = any_valid template ls n at_head.1
valid k ls n ns (inr (inr above)) = any_valid (allowed k) ls n above.0

-- a test that only such elements pass
abbrev pub Only : (Label → Bool) → List Label → (ℕ → Bool) → Type 0
Only kind ls test = (n : ℕ) → Is (λ l. true) ls n → test n ≡ true → Is kind ls n

pub only_named : (names : List (List ℕ)) (t : GrowingTree) → Only (named names) (labels t.nodes) (is_one t names)
only_named names t n there h = at_kind (λ l. true) (named names) t.nodes n there h

pub only_apart : (some others : List (List ℕ)) → list_all (λ one. not (is_among one others)) some ≡ true → (t : GrowingTree) →
    Only (other_than others) (labels t.nodes) (is_one t some)
only_apart some others apart t n there h =
    weaker_at (named some) (other_than others) (named_apart some others apart) (labels t.nodes) n (only_named some t n there h)

pub beyond_stands : (k : Sort) (ls : List Label) (test : ℕ → Bool) → Only plain ls test → (s : List ℕ) → Stands k ls s →
    Stands k ls (beyond test s)
beyond_stands k ls test only [] s = s
beyond_stands k ls test only (n ∷ ns) s = by (test n) refl (λ h. beyond_stands k ls test only ns
    (plain_popped k ls n ns (only n (valid k ls n ns s) h) s))
  where
    by : (x : Bool) → test n ≡ x → (test n ≡ true → Stands k ls (beyond test ns)) →
        Stands k ls (elim x [ true ↦ beyond test ns | false ↦ n ∷ ns ])
    by true e go = go e
    by false e go = s

none_in_head : (ls : List Label) (test : ℕ → Bool) → Only plain ls test → (s : List ℕ) → IsHead ls s → list_any test s ≡ true → ⊥
none_in_head ls test only [] s h = s
none_in_head ls test only (n ∷ []) s h = s.1
none_in_head ls test only (n ∷ m ∷ k ∷ ns) s h = s.1
none_in_head ls test only (n ∷ m ∷ []) s h = by (test n) (test m) refl refl h
  where
    by : (x y : Bool) → test n ≡ x → test m ≡ y → x || (y || false) ≡ true → ⊥
    by true y e f k = plain_not (codes "head") refl ls n (only n (any_valid head ls n s.0) e) s.0
    by false true e f k = plain_not (codes "html") refl ls m (only m (any_valid html ls m s.1) f) s.1
    by false false e f k = cc

pub past_stands : (k : Sort) (ls : List Label) (test : ℕ → Bool) → Only plain ls test → (s : List ℕ) → list_any test s ≡ true →
    Stands k ls s → Stands k ls (past test s)
past_stands k ls test only [] any s = s
past_stands k ls test only (n ∷ ns) any s = by (test n) refl any s (λ more. past_stands k ls test only ns more)
  where
    by : (x : Bool) → test n ≡ x → x || list_any test ns ≡ true → Stands k ls (n ∷ ns) → (list_any test ns ≡ true → Stands k ls ns →
        Stands k ls (past test ns)) →
        Stands k ls (elim x [ true ↦ ns | false ↦ past test ns ])
    by true e more st go = plain_popped k ls n ns (only n (valid k ls n ns st) e) st
    by false e more (inl at_html) go = never (sym (ap (list_any test) at_html.1) ∙ more)
    by false e more (inr (inl at_head)) go = absurd (none_in_head ls test only ns at_head.2 more)
    by false e more (inr (inr above)) go = go more above.1

-- an element taken out, wherever it is
head_without : (ls : List Label) (m : ℕ) → Is plain ls m → (s : List ℕ) → IsHead ls s → without m s ≡ s
head_without ls m p [] h = absurd h
head_without ls m p (n ∷ []) h = absurd h.1
head_without ls m p (n ∷ r ∷ k ∷ ns) h = absurd h.1
head_without ls m p (n ∷ r ∷ []) h = by (nat_eq n m) (nat_eq r m) refl refl
  where
    by : (x y : Bool) → nat_eq n m ≡ x → nat_eq r m ≡ y →
        cond (not x) (n ∷ cond (not y) (r ∷ []) []) (cond (not y) (r ∷ []) []) ≡ n ∷ r ∷ []
    by true y e f = absurd (plain_not (codes "head") refl ls m p (subst (λ i. Is head ls i) (same_number n m e) h.0))
    by false true e f = absurd (plain_not (codes "html") refl ls m p (subst (λ i. Is html ls i) (same_number r m f) h.1))
    by false false e f = refl

pub without_stands : (k : Sort) (ls : List Label) (m : ℕ) → Is plain ls m → (s : List ℕ) → Stands k ls s → Stands k ls (without m s)
without_stands k ls m p [] s = s
without_stands k ls m p (n ∷ ns) s = by (nat_eq n m) refl s (λ more. without_stands k ls m p ns more)
  where
    by : (x : Bool) → nat_eq n m ≡ x → Stands k ls (n ∷ ns) → (Stands k ls ns → Stands k ls (without m ns)) →
        Stands k ls (cond (not x) (n ∷ without m ns) (without m ns))
    by true e st go = go (plain_popped k ls n ns (subst (λ i. Is plain ls i) (sym (same_number n m e)) p) st)
    by false e (inl at_html) go = inl (at_html.0, ap (without m) at_html.1)
    by false e (inr (inl at_head)) go = inr (inl (
      at_head.0,
      at_head.1,
      subst (λ i. IsHead ls i) (sym (head_without ls m p ns at_head.2))
          at_head.2,
    ))
    by false e (inr (inr above)) go = inr (inr (above.0, go above.1))

-- an element that takes the place of another
head_replaced : (ls : List Label) (old new : ℕ) → Is plain ls old → (s : List ℕ) → IsHead ls s → map (replaced_node old new) s ≡ s
head_replaced ls old new p [] h = absurd h
head_replaced ls old new p (n ∷ []) h = absurd h.1
head_replaced ls old new p (n ∷ r ∷ k ∷ ns) h = absurd h.1
head_replaced ls old new p (n ∷ r ∷ []) h = by (nat_eq n old) (nat_eq r old) refl refl
  where
    by : (x y : Bool) → nat_eq n old ≡ x → nat_eq r old ≡ y →
        cond x new n ∷ (cond y new r ∷ []) ≡ n ∷ r ∷ []
    by true y e f = absurd (plain_not (codes "head") refl ls old p (subst (λ i. Is head ls i) (same_number n old e) h.0))
    by false true e f = absurd (plain_not (codes "html") refl ls old p (subst (λ i. Is html ls i) (same_number r old f) h.1))
    by false false e f = refl

pub replaced_stands : (k : Sort) (ls : List Label) (old new : ℕ) → Is plain ls old → Is plain ls new → (s : List ℕ) → Stands k ls s →
    Stands k ls (map (replaced_node old new) s)
replaced_stands k ls old new p q [] s = s
replaced_stands k ls old new p q (n ∷ ns) s = by (nat_eq n old) refl s (λ more. replaced_stands k ls old new p q ns more)
  where
    by : (x : Bool) → nat_eq n old ≡ x → Stands k ls (n ∷ ns) → (Stands k ls ns → Stands k ls (map (replaced_node old new) ns)) →
        Stands k ls (cond x new n ∷ map (replaced_node old new) ns)
    by true e st go = inr (inr (
      plain_allowed k ls new q,
      go (plain_popped k ls n ns (subst (λ i. Is plain ls i) (sym (same_number n old e)) p) st),
    ))
    by false e (inl at_html) go = inl (at_html.0, ap (map (replaced_node old new)) at_html.1)
    by false e (inr (inl at_head)) go = inr (inl (
      at_head.0,
      at_head.1,
      subst (λ i. IsHead ls i) (sym (head_replaced ls old new p ns at_head.2)) at_head.2,
    ))
    by false e (inr (inr above)) go = inr (inr (above.0, go above.1))

-- an element put just above another
head_below : (ls : List Label) (new block : ℕ) → Is plain ls block → (s : List ℕ) → IsHead ls s → stacked_below new block s ≡ s
head_below ls new block p [] h = absurd h
head_below ls new block p (n ∷ []) h = absurd h.1
head_below ls new block p (n ∷ r ∷ k ∷ ns) h = absurd h.1
head_below ls new block p (n ∷ r ∷ []) h = by (nat_eq n block) (nat_eq r block) refl refl
  where
    by : (x y : Bool) → nat_eq n block ≡ x → nat_eq r block ≡ y →
        elim x as (λ _. List ℕ) [
          | true ↦ new ∷ n ∷ r ∷ []
          | false ↦ n ∷ elim y as (λ _. List ℕ) [ true ↦ new ∷ r ∷ [] | false ↦ r ∷ [] ]
        ] ≡ n ∷ r ∷ []
    by true y e f = absurd (plain_not (codes "head") refl ls block p (subst (λ i. Is head ls i) (same_number n block e) h.0))
    by false true e f = absurd (plain_not (codes "html") refl ls block p (subst (λ i. Is html ls i) (same_number r block f) h.1))
    by false false e f = refl

pub below_stands : (k : Sort) (ls : List Label) (new block : ℕ) → Is plain ls block → Is plain ls new → (s : List ℕ) → Stands k ls s →
    Stands k ls (stacked_below new block s)
below_stands k ls new block p q [] s = s
below_stands k ls new block p q (n ∷ ns) s = by (nat_eq n block) refl s (λ more. below_stands k ls new block p q ns more)
  where
    by : (x : Bool) → nat_eq n block ≡ x → Stands k ls (n ∷ ns) → (Stands k ls ns → Stands k ls (stacked_below new block ns)) →
        Stands k ls (elim x as (λ _. List ℕ) [ true ↦ new ∷ n ∷ ns | false ↦ n ∷ stacked_below new block ns ])
    by true e st go = inr (inr (plain_allowed k ls new q, st))
    by false e (inl at_html) go = inl (at_html.0, ap (stacked_below new block) at_html.1)
    by false e (inr (inl at_head)) go = inr (inl (
      at_head.0,
      at_head.1,
      subst (λ i. IsHead ls i) (sym (head_below ls new block p ns at_head.2)) at_head.2,
    ))
    by false e (inr (inr above)) go = inr (inr (above.0, go above.1))

-- in a store that grew
pub head_grown : (old new : List Node) → Grows old new → (s : List ℕ) → IsHead (labels old) s → IsHead (labels new) s
head_grown old new grows [] h = h
head_grown old new grows (n ∷ []) h = absurd h.1
head_grown old new grows (n ∷ r ∷ k ∷ ns) h = absurd h.1
head_grown old new grows (n ∷ r ∷ []) h = (grows_at head old new grows n h.0, grows_at html old new grows r h.1)

pub stands_grown : (k : Sort) (old new : List Node) → Grows old new → (s : List ℕ) → Stands k (labels old) s → Stands k (labels new) s
stands_grown k old new grows [] s = s
stands_grown k old new grows (n ∷ ns) (inl at_html) = inl (grows_at html old new grows n at_html.0, at_html.1)
stands_grown k old new grows (n ∷ ns) (inr (inl at_head)) = inr (inl (
  at_head.0,
  grows_at template old new grows n at_head.1,
  head_grown old new grows ns at_head.2,
))
stands_grown k old new grows (n ∷ ns) (inr (inr above)) =
    inr (inr (grows_at (allowed k) old new grows n above.0, stands_grown k old new grows ns above.1))

-- ---- a cell among them

abbrev pub Has : (Label → Bool) → List Label → List ℕ → Type 0
Has kind ls s = list_any (is_at kind ls) s ≡ true

pub beyond_has : (kind : Label → Bool) (ls : List Label) (test : ℕ → Bool) → ((n : ℕ) → Is kind ls n → test n ≡ true → ⊥) → (s : List ℕ) →
    Has kind ls s → Has kind ls (beyond test s)
beyond_has kind ls test apart [] h = h
beyond_has kind ls test apart (n ∷ ns) h = by (test n) (is_at kind ls n) refl refl h (λ more. beyond_has kind ls test apart ns more)
  where
    by : (x y : Bool) → test n ≡ x → is_at kind ls n ≡ y → y || list_any (is_at kind ls) ns ≡ true →
        (Has kind ls ns → Has kind ls (beyond test ns)) →
        Has kind ls (elim x as (λ _. List ℕ) [ true ↦ beyond test ns | false ↦ n ∷ ns ])
    by true true e f k go = absurd (apart n f e)
    by true false e f k go = go k
    by false y e f k go = ap (λ x. x || list_any (is_at kind ls) ns) f ∙ k

-- the wanted element comes before those that end the scope
pub past_has : (kind : Label → Bool) (ls : List Label) (wanted ends : ℕ → Bool) → ((n : ℕ) → Is kind ls n → ends n ≡ true) →
    ((n : ℕ) → Is kind ls n → wanted n ≡ true → ⊥) → (s : List ℕ) → in_scope wanted ends s ≡ true → Has kind ls s →
    Has kind ls (past wanted s)
past_has kind ls wanted ends ending apart [] scope h = h
past_has kind ls wanted ends ending apart (n ∷ ns) scope h =
    by (wanted n) (is_at kind ls n) (ends n) refl refl refl scope h (λ more rest. past_has kind ls wanted ends ending apart ns more rest)
  where
    by : (x y z : Bool) → wanted n ≡ x → is_at kind ls n ≡ y → ends n ≡ z → x || (not z && in_scope wanted ends ns) ≡ true →
        y || list_any (is_at kind ls) ns ≡ true →
        (in_scope wanted ends ns ≡ true → Has kind ls ns → Has kind ls (past wanted ns)) →
        Has kind ls (elim x as (λ _. List ℕ) [ true ↦ ns | false ↦ past wanted ns ])
    by true true z e f g k h go = absurd (apart n f e)
    by true false z e f g k h go = h
    by false true true e f g k h go = cc
    by false true false e f g k h go = never (sym g ∙ ending n f)
    by false false true e f g k h go = cc
    by false false false e f g k h go = go k h

pub without_has : (kind : Label → Bool) (ls : List Label) (m : ℕ) → (Is kind ls m → ⊥) → (s : List ℕ) → Has kind ls s →
    Has kind ls (without m s)
without_has kind ls m apart [] h = h
without_has kind ls m apart (n ∷ ns) h = by (nat_eq n m) (is_at kind ls n) refl refl h (λ more. without_has kind ls m apart ns more)
  where
    by : (x y : Bool) → nat_eq n m ≡ x → is_at kind ls n ≡ y → y || list_any (is_at kind ls) ns ≡ true →
        (Has kind ls ns → Has kind ls (without m ns)) →
        Has kind ls (cond (not x) (n ∷ without m ns) (without m ns))
    by true true e f k go = absurd (apart (subst (λ i. Is kind ls i) (same_number n m e) f))
    by true false e f k go = go k
    by false true e f k go = ap (λ x. x || list_any (is_at kind ls) (without m ns)) f
    by false false e f k go = ap (λ x. x || list_any (is_at kind ls) (without m ns)) f ∙ go k

pub replaced_has : (kind : Label → Bool) (ls : List Label) (old new : ℕ) → (Is kind ls old → ⊥) → (s : List ℕ) → Has kind ls s →
    Has kind ls (map (replaced_node old new) s)
replaced_has kind ls old new apart [] h = h
replaced_has kind ls old new apart (n ∷ ns) h = by (nat_eq n old) (is_at kind ls n) refl refl h
    (λ more. replaced_has kind ls old new apart ns more)
  where
    rest : List ℕ
    rest = map (replaced_node old new) ns

    later : (y : Bool) → Has kind ls rest → y || list_any (is_at kind ls) rest ≡ true
    later true k = refl
    later false k = k

    by : (x y : Bool) → nat_eq n old ≡ x → is_at kind ls n ≡ y → y || list_any (is_at kind ls) ns ≡ true →
        (Has kind ls ns → Has kind ls rest) →
        Has kind ls (cond x new n ∷ rest)
    by true true e f k go = absurd (apart (subst (λ i. Is kind ls i) (same_number n old e) f))
    by true false e f k go = later (is_at kind ls new) (go k)
    by false true e f k go = ap (λ x. x || list_any (is_at kind ls) rest) f
    by false false e f k go = ap (λ x. x || list_any (is_at kind ls) rest) f ∙ go k

pub below_has : (kind : Label → Bool) (ls : List Label) (new block : ℕ) (s : List ℕ) → Has kind ls s →
    Has kind ls (stacked_below new block s)
below_has kind ls new block [] h = h
below_has kind ls new block (n ∷ ns) h = by (nat_eq n block) (is_at kind ls n) refl h (λ more. below_has kind ls new block ns more)
  where
    later : (y : Bool) → Has kind ls (n ∷ ns) → y || list_any (is_at kind ls) (n ∷ ns) ≡ true
    later true k = refl
    later false k = k

    by : (x y : Bool) → is_at kind ls n ≡ y → y || list_any (is_at kind ls) ns ≡ true →
        (Has kind ls ns → Has kind ls (stacked_below new block ns)) →
        Has kind ls (elim x as (λ _. List ℕ) [ true ↦ new ∷ n ∷ ns | false ↦ n ∷ stacked_below new block ns ])
    by true y f k go = later (is_at kind ls new) (ap (λ x. x || list_any (is_at kind ls) ns) f ∙ k)
    by false true f k go = ap (λ x. x || list_any (is_at kind ls) (stacked_below new block ns)) f
    by false false f k go = ap (λ x. x || list_any (is_at kind ls) (stacked_below new block ns)) f ∙ go k

pub has_grown : (kind : Label → Bool) (old new : List Node) → Grows old new → (s : List ℕ) → Has kind (labels old) s →
    Has kind (labels new) s
has_grown kind old new grows [] h = h
has_grown kind old new grows (n ∷ ns) h = by (is_at kind (labels old) n) refl h (λ more. has_grown kind old new grows ns more)
  where
    later : (y : Bool) → Has kind (labels new) ns → y || list_any (is_at kind (labels new)) ns ≡ true
    later true k = refl
    later false k = k

    by : (y : Bool) → is_at kind (labels old) n ≡ y → y || list_any (is_at kind (labels old)) ns ≡ true →
        (Has kind (labels old) ns → Has kind (labels new) ns) → Has kind (labels new) (n ∷ ns)
    by true f k go = ap (λ x. x || list_any (is_at kind (labels new)) ns) (grows_at kind old new grows n f)
    by false f k go = later (is_at kind (labels new) n) (go k)
