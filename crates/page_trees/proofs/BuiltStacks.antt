-- What is done to the stack of open elements is a step of the definition.
use Rattle.std.proofs.Common.{◌≡◌, ◌+◌, ◌-◌, ◌⊎◌, ◌==◌, inl, inr, ℕ, suc, zero, cond, Bool, true, false, ◌&&◌, not, List, [], ◌∷◌, ◌++◌, map, reverse, length, drop, refl, sym, ap, subst, ◌∙◌, arith, true≢false, codes, if◌then◌else◌, take}
use Rattle.std.specs.Prelude.{IfNone, None, Option, Some, slice_get}
use Rattle.std.specs.Option.{option_map_or, option_or, option_to_list, unwrap_or}
use Rattle.std.proofs.lemmas.Bool.Decides.{eqb_tells}
use Rattle.std.proofs.lemmas.List.{append-nil, length_push, reverse-append}
use Rattle.std.proofs.lemmas.Option.{none-some, same_Some}
use Rattle.dom_links.specs.Forest.{Forest}
use Rattle.standard_trees.specs.GrowingTree.{GrowingTree, adjusted_current, beyond, current, implied_of, is_single, kind_of, past, popped_until, top, with_stack}
use Rattle.standard_trees.specs.GrowingTree.{has_in_scope, is_one as is_one_of}
use Rattle.standard_trees.specs.Formatting.{without_p}
use Rattle.standard_trees.specs.NameLists.{implied}
use Rattle.standard_trees.specs.RuleWords.{ButtonScope, ScopeKind}
use Rattle.standard_trees.specs.TreeStore.{DocumentNode, Kind, Node, node_at}
use Rattle.page_trees.specs.NameNumbers.{AreNumbered}
use Rattle.page_trees.specs.Names.{text_of}
use Rattle.page_trees.specs.Popping.{before_last}
use Rattle.page_trees.specs.Scopes.{has_name, is_name}
use Rattle.page_trees.specs.SameNodes.{AreNodes}
use Rattle.page_trees.specs.Stands.{AllStand, Builds, IsContext, IsCurrent, IsOfKind, IsStackOf, StandsFor, closed_in, popped, popped_if}
use Rattle.page_trees.specs.TreeState.{TreeState, adjusted_at}
use Rattle.page_trees.specs.declared.name.Name.{Name}
use Rattle.page_trees.specs.declared.stack.Open.{Open}
use Rattle.page_trees.proofs.NumberedNames.{front_numbered}
use Rattle.page_trees.proofs.PoppingLemmas.{before_last_push}
use Rattle.page_trees.proofs.ScopeLemmas.{by_ends, slice_get_end}
use Rattle.page_trees.proofs.StandingNames.{current_named, named_agrees}

-- ---- the state with another stack

-- a view with other elements is the old value with other elements
pub restacked : (s old : TreeState) (xs ys : List Open) → s ≡ old → xs ≡ ys → record s { stack = xs } ≡ record old { stack = ys }
restacked s old xs ys e f = ap (λ (o : TreeState). record o { stack = xs }) e ∙ ap (λ (os : List Open). record old { stack = os }) f

pub built_on : (s : TreeState) (t : GrowingTree) (kept : List Open) (ns : List ℕ) → Builds s t → IsStackOf (with_stack t ns) kept →
    AreNumbered s.numbers t.nodes kept → Builds (record s { stack = kept }) (with_stack t ns)
built_on s t kept ns b is numbered = record {
  nodes = b.nodes;
  stack = is;
  numbered = numbered;
  listed = b.listed;
  head = b.head;
  head_named = b.head_named;
  form = b.form;
  form_named = b.form_named;
  context = b.context;
  late = b.late;
  lone = b.lone;
}

-- the same of a state that is known to be that one
pub built_as : (s new : TreeState) (t : GrowingTree) (kept : List Open) (ns : List ℕ) → new ≡ record s { stack = kept } → Builds s t →
    IsStackOf (with_stack t ns) kept → AreNumbered s.numbers t.nodes kept → Builds new (with_stack t ns)
built_as s new t kept ns e b is numbered = subst (λ (o : TreeState). Builds o (with_stack t ns)) (sym e) (built_on s t kept ns b is numbered)

-- one change of the stack after another is one change
pub restacked_again : (old between new : TreeState) (kept : List Open) → between ≡ record old { stack = between.stack } →
    new ≡ record between { stack = new.stack } → new.stack ≡ kept → new ≡ record old { stack = kept }
restacked_again old between new kept e f g =
    f ∙ ap (λ (s : TreeState). record s { stack = new.stack }) e ∙ ap (λ (os : List Open). record old { stack = os }) g

-- the stack is cut
pub built_front : (s new : TreeState) (t : GrowingTree) (n : ℕ) (ns : List ℕ) → new ≡ record s { stack = take n s.stack } → Builds s t →
    IsStackOf (with_stack t ns) (take n s.stack) → Builds new (with_stack t ns)
built_front s new t n ns e b is =
    built_as s new t (take n s.stack) ns e b is (front_numbered s.numbers t.nodes s.stack n b.numbered)

-- the lemma above, for a view of the state
pub built_cut : (view s new : TreeState) (t : GrowingTree) (n : ℕ) (ns : List ℕ) → view ≡ s → new ≡ record s { stack = take n s.stack } → Builds s t →
    (IsStackOf t view.stack → IsStackOf (with_stack t ns) (take n view.stack)) → Builds new (with_stack t ns)
built_cut view s new t n ns v e b step =
    built_front s new t n ns e b
    (subst (λ (o : TreeState). IsStackOf (with_stack t ns) (take n o.stack)) v (step (subst (λ (o : TreeState). IsStackOf t o.stack) (sym v) b.stack)))

-- ---- the current node is popped

pub popped_one : (t : GrowingTree) (old new : List Open) (r : Option Open) → old ≡ new ++ option_to_list r → IfNone r (old ≡ []) →
    IsStackOf t old → IsStackOf (with_stack t (drop 1 t.stack)) new
popped_one t old new None e none s =
    let empty : new ≡ [] = sym (append-nil new) ∙ sym e ∙ none in
    let ids : t.stack ≡ [] = s.ids ∙ ap (λ (os : List Open). map (λ o. o.id) (reverse os)) none in
    record {
      ids = ap (drop 1) ids ∙ ap (λ (os : List Open). map (λ o. o.id) (reverse os)) (sym empty);
      nodes = subst (λ (os : List Open). AllStand t.nodes (reverse os)) (sym empty) tt;
    }
popped_one t old new (Some o) e none s =
    let turned : reverse old ≡ o ∷ reverse new = ap (λ (os : List Open). reverse os) e ∙ reverse-append new (o ∷ []) in
    record {
      ids = ap (drop 1) (s.ids ∙ ap (λ (os : List Open). map (λ o. o.id) os) turned);
      nodes = (subst (AllStand t.nodes) turned s.nodes).1;
    }

-- ---- elements are popped until one that passes a test has been popped

abbrev after_first : (Open → Bool) → List Open → List Open
after_first p [] = []
after_first p (o ∷ os) = if p o then os else after_first p os

turned_before : (p : Open → Bool) (ys : List Open) (y : Open) (b : Bool) → reverse (before_last p ys) ≡ after_first p (reverse ys) →
    reverse (if b then ys else before_last p ys) ≡ (if b then reverse ys else after_first p (reverse ys))
turned_before p ys y true e = refl
turned_before p ys y false e = e

outwards_before : (p : Open → Bool) (all : List Open) → reverse (before_last p all) ≡ after_first p (reverse all)
outwards_before p = by_ends (λ xs. reverse (before_last p xs) ≡ after_first p (reverse xs)) refl (λ ys y e.
    ap (λ (os : List Open). reverse os) (before_last_push p ys y) ∙ turned_before p ys y (p y) e ∙ ap (after_first p) (sym (reverse-append ys (y ∷ []))))

past_is : (nodes : List Node) (p : Open → Bool) (q : ℕ → Bool) → ((o : Open) → StandsFor nodes o → p o ≡ q o.id) →
    (os : List Open) → AllStand nodes os → past q (map (λ o. o.id) os) ≡ map (λ o. o.id) (after_first p os)
past_is nodes p q same [] s = refl
past_is nodes p q same (o ∷ os) s = by_test (p o) (q o.id) (same o s.0) (past_is nodes p q same os s.1)
  where
    by_test : (b c : Bool) → b ≡ c → past q (map (λ o. o.id) os) ≡ map (λ o. o.id) (after_first p os) →
        (elim c [ true ↦ map (λ o. o.id) os | false ↦ past q (map (λ o. o.id) os) ]) ≡ map (λ o. o.id) (if b then os else after_first p os)
    by_test true c e others = ap (λ d. elim d [ true ↦ map (λ o. o.id) os | false ↦ past q (map (λ o. o.id) os) ]) (sym e)
    by_test false c e others = ap (λ d. elim d [ true ↦ map (λ o. o.id) os | false ↦ past q (map (λ o. o.id) os) ]) (sym e) ∙ others

still_after : (nodes : List Node) (p : Open → Bool) (os : List Open) → AllStand nodes os → AllStand nodes (after_first p os)
still_after nodes p [] s = s
still_after nodes p (o ∷ os) s = by_test (p o) s.1 (still_after nodes p os s.1)
  where
    by_test : (b : Bool) → AllStand nodes os → AllStand nodes (after_first p os) → AllStand nodes (if b then os else after_first p os)
    by_test true all others = all
    by_test false all others = others

pub popped_through : (t : GrowingTree) (p : Open → Bool) (q : ℕ → Bool) → ((o : Open) → StandsFor t.nodes o → p o ≡ q o.id) →
    (all : List Open) → IsStackOf t all → IsStackOf (with_stack t (past q t.stack)) (before_last p all)
popped_through t p q same all s = record {
  ids = ap (past q) s.ids ∙ past_is t.nodes p q same (reverse all) s.nodes ∙ ap (λ (os : List Open). map (λ o. o.id) os) (sym (outwards_before p all));
  nodes = subst (AllStand t.nodes) (sym (outwards_before p all)) (still_after t.nodes p (reverse all) s.nodes);
}

-- ---- an HTML element with a name

pub has_name_agrees : (name : Name) → is_name name Name.Other ≡ false → (t : GrowingTree) (o : Open) → StandsFor t.nodes o →
    has_name name o ≡ is_one_of t (text_of name ∷ []) o.id
has_name_agrees name known t o s = ap (λ b. not b && has_name name o) (sym known) ∙ named_agrees name known t o s

pub popped_to : (name : Name) → is_name name Name.Other ≡ false → (t : GrowingTree) (all kept : List Open) → kept ≡ before_last (has_name name) all →
    IsStackOf t all → IsStackOf (popped_until (text_of name ∷ []) t) kept
popped_to name known t all kept e s =
    subst (IsStackOf (popped_until (text_of name ∷ []) t)) (sym e)
    (popped_through t (has_name name) (is_one_of t (text_of name ∷ [])) (has_name_agrees name known t) all s)

-- ---- implied end tags before an element is closed

-- elements that fail the test and are popped anyway may be popped before
pub past_beyond : (q p : ℕ → Bool) → ((n : ℕ) → q n ≡ true → p n ≡ false) → (ns : List ℕ) → past p (beyond q ns) ≡ past p ns
past_beyond q p apart [] = refl
past_beyond q p apart (n ∷ ns) = by_test (q n) refl (past_beyond q p apart ns)
  where
    by_test : (b : Bool) → q n ≡ b → past p (beyond q ns) ≡ past p ns →
        past p (elim b [ true ↦ beyond q ns | false ↦ n ∷ ns ]) ≡ (elim (p n) [ true ↦ ns | false ↦ past p ns ])
    by_test true e others = others ∙ ap (λ d. elim d [ true ↦ ns | false ↦ past p ns ]) (sym (apart n e))
    by_test false e others = refl

but_false : (a b : Bool) → (a && not b) ≡ true → b ≡ false
but_false true true e = sym e
but_false true false e = refl
but_false false true e = absurd (true≢false (sym e))
but_false false false e = refl

-- to generate implied end tags, except for elements with these names, and then to pop until one with these names has been popped, is to
-- pop until then
pub implied_first : (names implied : List (List ℕ)) (t : GrowingTree) → popped_until names (implied_of implied names t) ≡ popped_until names t
implied_first names implied t =
    ap (with_stack t) (past_beyond (λ n. is_one_of t implied n && not (is_one_of t names n)) (is_one_of t names)
    (λ n e. but_false (is_one_of t implied n) (is_one_of t names n) e) t.stack)

-- ---- the current node

-- a stack with two elements or more
record HasTwo (os : List Open) : Type 0 where
  front : List Open
  below : Open
  above : Open
  split : os ≡ (front ++ below ∷ []) ++ above ∷ []

record HasOne (os : List Open) : Type 0 where
  lone : Open
  split : os ≡ lone ∷ []

abbrev Ended : List Open → Type 0
Ended os = (os ≡ []) ⊎ (HasOne os ⊎ HasTwo os)

one_more : (os : List Open) (o : Open) → Ended os → Ended (os ++ o ∷ [])
one_more os o (inl none) = inr (inl (record { lone = o; split = ap (λ (ps : List Open). ps ++ o ∷ []) none }))
one_more os o (inr (inl one)) =
    inr (inr (record { front = []; below = one.lone; above = o; split = ap (λ (ps : List Open). ps ++ o ∷ []) one.split }))
one_more os o (inr (inr two)) = inr (inr (record {
  front = two.front ++ two.below ∷ [];
  below = two.above;
  above = o;
  split = ap (λ (ps : List Open). ps ++ o ∷ []) two.split;
}))

ended : (os : List Open) → Ended os
ended = by_ends Ended (inl refl) one_more

turned : (os : List Open) (p o : Open) → reverse ((os ++ p ∷ []) ++ o ∷ []) ≡ o ∷ p ∷ reverse os
turned os p o = reverse-append (os ++ p ∷ []) (o ∷ []) ∙ ap (λ (ps : List Open). o ∷ ps) (reverse-append os (p ∷ []))

last_is : (os : List Open) (o : Open) → slice_get (os ++ o ∷ []) (length (os ++ o ∷ []) - 1) ≡ Some o
last_is os o =
    let long : length (os ++ o ∷ []) - 1 ≡ length os = omega (arith, length_push os o) in
    ap (slice_get (os ++ o ∷ [])) long ∙ slice_get_end os o

-- the stack with its current node
pub record IsTop (t : GrowingTree) (o : Open) (others : List ℕ) : Type 0 where
  pub stack : t.stack ≡ o.id ∷ others
  pub kind : IsOfKind o (kind_of t o.id)

topped : (t : GrowingTree) (os : List Open) (o : Open) (others : List Open) → reverse os ≡ o ∷ others → IsStackOf t os → IsTop t o (map (λ p. p.id) others)
topped t os o others e s = record {
  stack = s.ids ∙ ap (λ (ps : List Open). map (λ p. p.id) ps) e;
  kind = (subst (AllStand t.nodes) e s.nodes).0;
}

at_top : (t : GrowingTree) (o : Open) (others : List ℕ) → IsTop t o others → IsOfKind o (kind_of t (current t))
at_top t o others is = subst (λ ns. IsOfKind o (kind_of t (top ns))) (sym is.stack) is.kind

nothing_open : (nodes : List Node) (forest : Forest) → AreNodes nodes forest → (t : GrowingTree) → t.nodes ≡ nodes → t.stack ≡ [] → kind_of t (current t) ≡ DocumentNode
nothing_open nodes forest are t e none =
    ap (λ ns. kind_of t (top ns)) none ∙ ap (λ (ns : List Node). (node_at ns 0).kind) e ∙ are.root

pub current_node : (s : TreeState) (t : GrowingTree) → Builds s t → IsCurrent (slice_get s.stack (length s.stack - 1)) (kind_of t (current t))
current_node s t b = elim (ended s.stack) [
  | inl none ↦ subst (λ (os : List Open). IsCurrent (slice_get os (length os - 1)) (kind_of t (current t))) (sym none)
      (nothing_open t.nodes _ b.nodes t refl (b.stack.ids ∙ ap (λ (os : List Open). map (λ o. o.id) (reverse os)) none))
  | inr some ↦ elim some [
    | inl one ↦ subst (λ (os : List Open). IsCurrent (slice_get os (length os - 1)) (kind_of t (current t))) (sym one.split)
        (at_top t one.lone [] (topped t s.stack one.lone [] (ap (λ (os : List Open). reverse os) one.split) b.stack))
    | inr two ↦ subst (λ r. IsCurrent r (kind_of t (current t)))
        (sym (ap (λ (os : List Open). slice_get os (length os - 1)) two.split ∙ last_is (two.front ++ two.below ∷ []) two.above))
        (at_top t two.above _ (topped t s.stack two.above (two.below ∷ reverse two.front)
        (ap (λ (os : List Open). reverse os) two.split ∙ turned two.front two.below two.above) b.stack))
  ]
]

no_last : (os : List Open) (o : Open) → None ≡ slice_get (os ++ o ∷ []) (length (os ++ o ∷ []) - 1) → ⊥
no_last os o e = none-some _ (e ∙ last_is os o)

-- the id of the current node
pub current_id : (s : TreeState) (t : GrowingTree) (o : Open) → Builds s t → Some o ≡ slice_get s.stack (length s.stack - 1) → current t ≡ o.id
current_id s t o b e = elim (ended s.stack) [
  | inl none ↦ absurd (none-some o (sym (e ∙ ap (λ (os : List Open). slice_get os (length os - 1)) none)))
  | inr some ↦ elim some [
    | inl one ↦
        let is : o ≡ one.lone = same_Some o one.lone (e ∙ ap (λ (os : List Open). slice_get os (length os - 1)) one.split) in
        ap top (topped t s.stack one.lone [] (ap (λ (os : List Open). reverse os) one.split) b.stack).stack ∙ ap (λ (p : Open). p.id) (sym is)
    | inr two ↦
        let is : o ≡ two.above = same_Some o two.above
        (e ∙ ap (λ (os : List Open). slice_get os (length os - 1)) two.split ∙ last_is (two.front ++ two.below ∷ []) two.above) in
        ap top (topped t s.stack two.above (two.below ∷ reverse two.front)
        (ap (λ (os : List Open). reverse os) two.split ∙ turned two.front two.below two.above) b.stack).stack ∙ ap (λ (p : Open). p.id) (sym is)
  ]
]

pub nothing_current : (s : TreeState) (t : GrowingTree) → Builds s t → None ≡ slice_get s.stack (length s.stack - 1) → t.stack ≡ []
nothing_current s t b e = elim (ended s.stack) [
  | inl none ↦ b.stack.ids ∙ ap (λ (os : List Open). map (λ o. o.id) (reverse os)) none
  | inr some ↦ elim some [
    | inl one ↦ absurd (none-some _ (e ∙ ap (λ (os : List Open). slice_get os (length os - 1)) one.split))
    | inr two ↦ absurd (no_last (two.front ++ two.below ∷ []) two.above (e ∙ ap (λ (os : List Open). slice_get os (length os - 1)) two.split))
  ]
]

-- the test of the current node by a name
pub current_tells : (view old : TreeState) (t : GrowingTree) (name : Name) → is_name name Name.Other ≡ false → view ≡ old → Builds old t → (b : Bool) →
    b ≡ option_map_or (has_name name) (slice_get view.stack (length view.stack - 1)) false → b ≡ is_one_of t (text_of name ∷ []) (current t)
current_tells view old t name known e built b f =
    f ∙ current_named name known _ _ (current_node view t (subst (λ (o : TreeState). Builds o t) (sym e) built))

pub is_popped : (names : List (List ℕ)) (t : GrowingTree) (b : Bool) → b ≡ true → b ≡ is_one_of t names (current t) → popped_if names t ≡ popped t
is_popped names t b f e = ap (λ c. elim c [ true ↦ popped t | false ↦ t ]) (sym e ∙ f)

pub not_popped : (names : List (List ℕ)) (t : GrowingTree) (b : Bool) → b ≡ false → b ≡ is_one_of t names (current t) → popped_if names t ≡ t
not_popped names t b f e = ap (λ c. elim c [ true ↦ popped t | false ↦ t ]) (sym e ∙ f)

-- ---- the adjusted current node

or_context : (c : Option Open) (k : Option Kind) (o : Open) (kind : Kind) → IsContext c k → IsOfKind o kind →
    IsCurrent (option_or c (Some o)) (unwrap_or k kind)
or_context None None o kind is top = top
or_context (Some c) (Some k) o kind is top = is
or_context None (Some k) o kind is top = absurd is
or_context (Some c) None o kind is top = absurd is

single_is : (t : GrowingTree) (n : ℕ) → t.stack ≡ n ∷ [] → unwrap_or t.context (kind_of t (current t)) ≡ adjusted_current t
single_is t n e = ap (λ ns. cond (is_single ns) (unwrap_or t.context (kind_of t (current t))) (kind_of t (current t))) (sym e)

several_is : (t : GrowingTree) (n m : ℕ) (ns : List ℕ) → t.stack ≡ n ∷ m ∷ ns → kind_of t (current t) ≡ adjusted_current t
several_is t n m ns e = ap (λ ks. cond (is_single ks) (unwrap_or t.context (kind_of t (current t))) (kind_of t (current t))) (sym e)

pub not_zero : (n m : ℕ) → n ≡ m + 1 → (n == 0) ≡ false
not_zero n m e = elim (eqb_tells n 0) [ inl none ↦ absurd (omega (arith, e, none.1)) | inr other ↦ other.0 ]

pub one_less : (n m : ℕ) → n ≡ m → (n ≡ 0 → ⊥) → m ≡ (n - 1) + 1
one_less zero m e some = absurd (some refl)
one_less (suc k) m e some = omega (arith, e)

pub adjusted_none : (s : TreeState) (t : GrowingTree) → Builds s t → s.stack ≡ [] → adjusted_current t ≡ DocumentNode
adjusted_none s t b none =
    let empty : t.stack ≡ [] = b.stack.ids ∙ ap (λ (os : List Open). map (λ o. o.id) (reverse os)) none in
    ap (λ ns. cond (is_single ns) (unwrap_or t.context (kind_of t (current t))) (kind_of t (current t))) empty
    ∙ nothing_open t.nodes _ b.nodes t refl empty

pub adjusted_node : (s : TreeState) (t : GrowingTree) (n : ℕ) → Builds s t → length s.stack ≡ n + 1 → IsCurrent (adjusted_at s n) (adjusted_current t)
adjusted_node s t n b long = elim (ended s.stack) [
  | inl none ↦ absurd (omega (arith, long, ap (λ (os : List Open). length os) none))
  | inr some ↦ elim some [
    | inl one ↦
        let only = topped t s.stack one.lone [] (ap (λ (os : List Open). reverse os) one.split) b.stack in
        let first : n ≡ 0 = omega (arith, long, ap (λ (os : List Open). length os) one.split) in
        subst (λ k. IsCurrent (adjusted_at s k) (adjusted_current t)) (sym first)
        (subst (λ (os : List Open). IsCurrent (option_or s.context (slice_get os 0)) (adjusted_current t)) (sym one.split)
        (subst (λ kind. IsCurrent (option_or s.context (Some one.lone)) kind) (single_is t one.lone.id only.stack)
        (or_context s.context t.context one.lone (kind_of t (current t)) b.context (at_top t one.lone [] only))))
    | inr two ↦
        let above = topped t s.stack two.above (two.below ∷ reverse two.front)
        (ap (λ (os : List Open). reverse os) two.split ∙ turned two.front two.below two.above) b.stack in
        let count : length s.stack ≡ length (two.front ++ two.below ∷ []) + 1 =
        ap (λ (os : List Open). length os) two.split ∙ length_push (two.front ++ two.below ∷ []) two.above in
        let place : n ≡ length (two.front ++ two.below ∷ []) = omega (arith, long, count) in
        let here : slice_get s.stack n ≡ Some two.above =
        ap (λ k. slice_get s.stack k) place ∙ ap (λ (os : List Open). slice_get os (length (two.front ++ two.below ∷ []))) two.split
        ∙ slice_get_end (two.front ++ two.below ∷ []) two.above in
        let later : (n == 0) ≡ false = not_zero n (length two.front) (place ∙ length_push two.front two.below) in
        subst (λ r. IsCurrent r (adjusted_current t))
        (sym (ap (λ c. if c then option_or s.context (slice_get s.stack 0) else slice_get s.stack n) later ∙ here))
        (subst (λ kind. IsOfKind two.above kind) (several_is t two.above.id two.below.id _ above.stack) (at_top t two.above _ above))
  ]
]

-- ---- an element in a scope is closed

pub built_stack : (view old : TreeState) (t : GrowingTree) → view ≡ old → Builds old t → IsStackOf t view.stack
built_stack view old t e b = subst (λ (s : TreeState). IsStackOf t s.stack) (sym e) b.stack

pub not_closed : (kind : ScopeKind) (names : List (List ℕ)) (t : GrowingTree) (b : Bool) → b ≡ false → b ≡ has_in_scope kind names t → closed_in kind names t ≡ t
not_closed kind names t b f e = ap (λ c. elim c [ true ↦ popped_until names t | false ↦ t ]) (sym e ∙ f)

pub closed : (kind : ScopeKind) (names : List (List ℕ)) (t : GrowingTree) (b : Bool) → b ≡ true → b ≡ has_in_scope kind names t →
    closed_in kind names t ≡ popped_until names t
closed kind names t b f e = ap (λ c. elim c [ true ↦ popped_until names t | false ↦ t ]) (sym e ∙ f)

-- "if the stack of open elements has a p element in button scope, then close a p element"
pub paragraph_closed : (t : GrowingTree) → closed_in ButtonScope (codes "p" ∷ []) t ≡ without_p t
paragraph_closed t = ap (λ u. elim (has_in_scope ButtonScope (codes "p" ∷ []) t) [ true ↦ u | false ↦ t ]) (sym (implied_first (codes "p" ∷ []) implied t))
