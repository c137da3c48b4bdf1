-- The adoption agency algorithm, where it ends without a furthest block.
use Rattle.std.proofs.Common.{◌≡◌, ℕ, ◌≤◌, ◌+◌, ◌&&◌, ◌||◌, not, nat_eq, eqb, Bool, true, false, List, [], ◌∷◌, ◌++◌, drop, map, take, reverse, refl, sym, ap, ◌∙◌, length, Option, Some, None, subst, suc, zero, arith, inl, inr, true≢false, if◌then◌else◌}
use Rattle.std.specs.List.{list_any}
use Rattle.std.proofs.lemmas.List.{length_push, reverse-append, take-append-le, drop-append-le, take_all, drop_all}
use denote.Enum.Declared.{tag_of}
use Rattle.std.proofs.lemmas.Bool.{cases_Bool, eq-eqb, eqb-true, ne_eqb}
use Rattle.standard_trees.specs.Building.{is_present}
use Rattle.standard_trees.specs.Formatting.{before_in, last_special}
use Rattle.standard_trees.specs.GrowingTree.{GrowingTree, ends_scope as ends_scope_of, in_scope, past, with_stack}
use Rattle.standard_trees.specs.GrowingTree.{is_one as is_one_of}
use Rattle.standard_trees.specs.NameLists.{special}
use Rattle.standard_trees.specs.RuleWords.{Scope as DefaultScope}
use Rattle.standard_trees.specs.TreeStore.{Node, is_member}
use Rattle.page_trees.specs.Names.{html_rows, rare_rows, text_of}
use Rattle.page_trees.specs.Popping.{before_last, first_from, up_to_last}
use Rattle.page_trees.specs.Reopening.{index_at, is_this}
use Rattle.page_trees.specs.Scopes.{is_name, is_named, last_place, scope_names}
use Rattle.page_trees.specs.Sets.{ends_scope, is_in_html, is_one, is_one_in, is_special_element}
use Rattle.page_trees.specs.Stands.{AllStand, Builds, EntryStands, IsStackOf, StandsFor, formatting_names}
use Rattle.page_trees.specs.contracts.name.Name.{the_type}
use Rattle.page_trees.specs.TreeState.{TreeState}
use Rattle.page_trees.specs.declared.formatting.Entry.{Entry}
use Rattle.page_trees.specs.declared.name.Name.{Name}
use Rattle.page_trees.specs.declared.sets.Scope.{Scope}
use Rattle.page_trees.specs.declared.stack.ElementNamespace.{ElementNamespace}
use Rattle.page_trees.specs.declared.stack.Open.{Open}
use Rattle.page_trees.proofs.BuiltStacks.{built_front, popped_through}
use Rattle.page_trees.proofs.CopiedElements.{formatting_html}
use Rattle.page_trees.proofs.NamesAgree.{for_all}
use Rattle.page_trees.proofs.PoppingLemmas.{any_push, before_last_push}
use Rattle.page_trees.proofs.ScopeLemmas.{by_ends, last_place_le, last_place_push, scope_search}
use Rattle.page_trees.proofs.StandingNames.{are_known, named_agrees, one_agrees}

-- ---- an element is open

known_if : (a b : Bool) → (not a || not b) ≡ true → a ≡ true → b ≡ false
known_if true true h e = absurd (true≢false (sym h))
known_if true false h e = refl
known_if false b h e = absurd (true≢false (sym e))

formatting_known : (o : Open) → is_one formatting_names o ≡ true → is_name o.name Name.Other ≡ false
unfolding html_rows rare_rows
formatting_known o is =
    known_if (is_one_in formatting_names ElementNamespace.Html o.name) (is_name o.name Name.Other)
    (for_all (λ n. not (is_one_in formatting_names ElementNamespace.Html n) || not (is_name n Name.Other)) refl o.name)
    (ap (λ (ns : ElementNamespace). is_one_in formatting_names ns o.name) (sym (formatting_html o is)) ∙ is)

is_name_self : (name : Name) → is_name name name ≡ true
is_name_self name = eq-eqb (tag_of the_type name) (tag_of the_type name) refl

self_named : (o : Open) → is_one formatting_names o ≡ true → is_named o.name o ≡ true
self_named o is =
    ap (λ (ns : ElementNamespace). not (is_name o.name Name.Other) && (is_in_html ns && is_name o.name o.name)) (formatting_html o is)
    ∙ ap (λ b. not b && is_name o.name o.name) (formatting_known o is) ∙ is_name_self o.name

-- two open elements with one id have one name
one_name : (t : GrowingTree) (o x : Open) → is_one formatting_names o ≡ true → StandsFor t.nodes o → StandsFor t.nodes x → x.id ≡ o.id → is_named o.name x ≡ true
one_name t o x is so sx e =
    let known = formatting_known o is in
    named_agrees o.name known t x sx ∙ ap (is_one_of t (text_of o.name ∷ [])) e ∙ sym (named_agrees o.name known t o so) ∙ self_named o is

pub both_true : (a b : Bool) → (b ≡ true → a ≡ true) → (a && b) ≡ b
both_true true b f = refl
both_true false true f = absurd (true≢false (sym (f refl)))
both_true false false f = refl

pub turned_test : (n m : ℕ) → eqb m n ≡ nat_eq n m
turned_test n m = elim (cases_Bool (nat_eq n m)) [
  | inl t ↦ eq-eqb m n (sym (eqb-true n m t)) ∙ sym t
  | inr f ↦ ne_eqb m n (λ e. absurd (true≢false (sym (eq-eqb n m (sym e)) ∙ f))) ∙ sym f
]

open_is : (t : GrowingTree) (o : Open) → is_one formatting_names o ≡ true → StandsFor t.nodes o → (os : List Open) → AllStand t.nodes os →
    list_any (is_this o.name o.id) os ≡ is_member o.id (map (λ p. p.id) os)
open_is t o is so [] all = refl
open_is t o is so (x ∷ os) all =
    ap (λ b. b || list_any (is_this o.name o.id) os) (both_true (is_named o.name x) (eqb x.id o.id) (λ e. one_name t o x is so all.0 (eqb-true x.id o.id e)) ∙ turned_test o.id x.id)
    ∙ ap (λ b. nat_eq o.id x.id || b) (open_is t o is so os all.1)

or_turned : (a b : Bool) → (a || b) ≡ (b || a)
or_turned true true = refl
or_turned true false = refl
or_turned false true = refl
or_turned false false = refl

pub any_turned : (p : Open → Bool) (xs : List Open) → list_any p (reverse xs) ≡ list_any p xs
any_turned p = by_ends (λ xs. list_any p (reverse xs) ≡ list_any p xs) refl (λ ys y same.
    ap (list_any p) (reverse-append ys (y ∷ [])) ∙ ap (λ b. p y || b) same ∙ or_turned (p y) (list_any p ys) ∙ sym (any_push p ys y))

pub searched : (wanted ends : Open → Bool) (w e : ℕ → Bool) (t : GrowingTree) → ((o : Open) → StandsFor t.nodes o → wanted o ≡ w o.id) →
    ((o : Open) → StandsFor t.nodes o → ends o ≡ e o.id) → (os : List Open) → AllStand t.nodes os →
    in_scope wanted ends os ≡ in_scope w e (map (λ o. o.id) os)
searched wanted ends w e t same_wanted same_ends [] s = refl
searched wanted ends w e t same_wanted same_ends (o ∷ os) s =
    ap (λ b. b || (not (ends o) && in_scope wanted ends os)) (same_wanted o s.0)
    ∙ ap (λ b. w o.id || (not b && in_scope wanted ends os)) (same_ends o s.0)
    ∙ ap (λ b. w o.id || (not (e o.id) && b)) (searched wanted ends w e t same_wanted same_ends os s.1)

-- ---- where the formatting element is on the stack

pub none_placed : {X : Type 0} (p : X → Bool) (xs : List X) → last_place p xs ≡ 0 → list_any p xs ≡ false
none_placed p [] e = refl
none_placed p (x ∷ xs) e = by (list_any p (x ∷ xs)) e
  where
    by : (b : Bool) → length (if b then x ∷ up_to_last p xs else []) ≡ 0 → b ≡ false
    by true e = absurd (omega (arith, e))
    by false e = refl

some_placed : {X : Type 0} (p : X → Bool) (xs : List X) (n : ℕ) → last_place p xs ≡ n + 1 → list_any p xs ≡ true
some_placed p [] n e = absurd (omega (arith, e))
some_placed p (x ∷ xs) n e = by (list_any p (x ∷ xs)) e
  where
    by : (b : Bool) → length (if b then x ∷ up_to_last p xs else []) ≡ n + 1 → b ≡ true
    by true e = refl
    by false e = absurd (omega (arith, e))

pub index_none : (n : ℕ) → None ≡ index_at n → n ≡ 0
index_none zero e = refl
index_none (suc n) e = cc

pub index_some : (n p : ℕ) → Some p ≡ index_at n → n ≡ p + 1
index_some zero p e = cc
index_some (suc n) p e = (let same : p ≡ n = cc in omega (arith, same))

-- the formatting element is this one of the stack
pub this_is : (t : GrowingTree) (x : Open) → EntryStands t.nodes (Entry.Element x) → (o : Open) → StandsFor t.nodes o → is_this x.name x.id o ≡ nat_eq x.id o.id
this_is t x stands o so =
    both_true _ _ (λ e. one_name t x o stands.1 stands.0 so (eqb-true o.id x.id e)) ∙ turned_test x.id o.id

member_is : (s : TreeState) (t : GrowingTree) (x : Open) → Builds s t → EntryStands t.nodes (Entry.Element x) → list_any (is_this x.name x.id) s.stack ≡ is_member x.id t.stack
member_is s t x b stands =
    sym (any_turned (is_this x.name x.id) s.stack) ∙ open_is t x stands.1 stands.0 (reverse s.stack) b.stack.nodes ∙ ap (is_member x.id) (sym b.stack.ids)

pub not_open : (s : TreeState) (t : GrowingTree) (x : Open) → Builds s t → EntryStands t.nodes (Entry.Element x) → None ≡ index_at (last_place (is_this x.name x.id) s.stack) → is_member x.id t.stack ≡ false
not_open s t x b stands e = sym (member_is s t x b stands) ∙ none_placed (is_this x.name x.id) s.stack (index_none _ e)

pub is_open : (s : TreeState) (t : GrowingTree) (x : Open) (p : ℕ) → Builds s t → EntryStands t.nodes (Entry.Element x) → last_place (is_this x.name x.id) s.stack ≡ p + 1 → is_member x.id t.stack ≡ true
is_open s t x p b stands e = sym (member_is s t x b stands) ∙ some_placed (is_this x.name x.id) s.stack p e

-- ---- whether it is in scope

pub scope_known : are_known (scope_names Scope.Default) ≡ true
unfolding html_rows rare_rows
scope_known = refl

scope_is : (s : TreeState) (t : GrowingTree) (x : Open) → Builds s t → EntryStands t.nodes (Entry.Element x) →
    in_scope (is_this x.name x.id) ends_scope (reverse s.stack) ≡ in_scope (nat_eq x.id) (ends_scope_of DefaultScope t) t.stack
scope_is s t x b stands =
    searched (is_this x.name x.id) ends_scope (nat_eq x.id) (ends_scope_of DefaultScope t) t (this_is t x stands)
    (λ o so. one_agrees (scope_names Scope.Default) scope_known t o so) (reverse s.stack) b.stack.nodes
    ∙ ap (in_scope (nat_eq x.id) (ends_scope_of DefaultScope t)) (sym b.stack.ids)

pub scoped : (s : TreeState) (t : GrowingTree) (x : Open) (p : ℕ) → Builds s t → EntryStands t.nodes (Entry.Element x) → last_place (is_this x.name x.id) s.stack ≡ p + 1 →
    last_place ends_scope s.stack ≤ p + 1 → in_scope (nat_eq x.id) (ends_scope_of DefaultScope t) t.stack ≡ true
scoped s t x p b stands e le =
    sym (scope_is s t x b stands) ∙ (scope_search (is_this x.name x.id) ends_scope s.stack).found (omega (arith, e)) (omega (arith, e, le))

pub not_scoped : (s : TreeState) (t : GrowingTree) (x : Open) (p : ℕ) → Builds s t → EntryStands t.nodes (Entry.Element x) → last_place (is_this x.name x.id) s.stack ≡ p + 1 →
    (last_place ends_scope s.stack ≤ p + 1 → ⊥) → in_scope (nat_eq x.id) (ends_scope_of DefaultScope t) t.stack ≡ false
not_scoped s t x p b stands e lacks =
    sym (scope_is s t x b stands) ∙ (scope_search (is_this x.name x.id) ends_scope s.stack).missed (λ lt le. lacks (omega (arith, e, le)))

-- ---- whether there is a furthest block

pub special_known : are_known special ≡ true
unfolding html_rows rare_rows
special_known = refl

-- the elements that were opened after the first that passes, the current node first
abbrev opened_after : (Open → Bool) → List Open → List Open
opened_after p [] = []
opened_after p (o ∷ os) = if p o then [] else o ∷ opened_after p os

still_opened : (nodes : List Node) (p : Open → Bool) (os : List Open) → AllStand nodes os → AllStand nodes (opened_after p os)
still_opened nodes p [] all = tt
still_opened nodes p (o ∷ os) all = by (p o) (still_opened nodes p os all.1)
  where
    by : (b : Bool) → AllStand nodes (opened_after p os) → AllStand nodes (if b then [] else o ∷ opened_after p os)
    by true more = tt
    by false more = (all.0, more)

before_is : (nodes : List Node) (p : Open → Bool) (f : ℕ) → ((o : Open) → StandsFor nodes o → p o ≡ nat_eq o.id f) → (os : List Open) → AllStand nodes os →
    before_in f (map (λ o. o.id) os) ≡ map (λ o. o.id) (opened_after p os)
before_is nodes p f same [] all = refl
before_is nodes p f same (o ∷ os) all = by (p o) (nat_eq o.id f) (same o all.0) (before_is nodes p f same os all.1)
  where
    by : (b c : Bool) → b ≡ c → before_in f (map (λ o. o.id) os) ≡ map (λ o. o.id) (opened_after p os) →
        (let ns : List ℕ = elim c [ true ↦ [] | false ↦ o.id ∷ before_in f (map (λ o. o.id) os) ] in ns) ≡ map (λ o. o.id) (if b then [] else o ∷ opened_after p os)
    by true true e more = refl
    by false false e more = ap (λ (ns : List ℕ). o.id ∷ ns) more
    by true false e more = absurd (true≢false e)
    by false true e more = absurd (true≢false (sym e))

after_is : (p : Open → Bool) (xs : List Open) → opened_after p (reverse xs) ≡ reverse (drop (last_place p xs) xs)
after_is p = by_ends (λ xs. opened_after p (reverse xs) ≡ reverse (drop (last_place p xs) xs)) refl (λ ys y more.
    ap (opened_after p) (reverse-append ys (y ∷ [])) ∙ by ys y (p y) more ∙ ap (λ n. reverse (drop n (ys ++ y ∷ []))) (sym (last_place_push p ys y)))
  where
    by : (ys : List Open) (y : Open) (b : Bool) → opened_after p (reverse ys) ≡ reverse (drop (last_place p ys) ys) →
        (if b then [] else y ∷ opened_after p (reverse ys)) ≡ reverse (drop (if b then length ys + 1 else last_place p ys) (ys ++ y ∷ []))
    by ys y true more =
        let long = length_push ys y in
        ap (λ (os : List Open). reverse os) (sym (drop_all (length ys + 1) (ys ++ y ∷ []) (omega (arith, long))))
    by ys y false more =
        let le = last_place_le p ys in
        ap (λ (os : List Open). y ∷ os) more ∙ sym (ap (λ (os : List Open). reverse os) (drop-append-le (last_place p ys) ys (y ∷ []) le) ∙ reverse-append (drop (last_place p ys) ys) (y ∷ []))

last_is : (t : GrowingTree) (seen : Option ℕ) (ns : List ℕ) → is_present (last_special t seen ns) ≡ (is_present seen || list_any (is_one_of t special) ns)
last_is t None [] = refl
last_is t (Some m) [] = refl
last_is t seen (n ∷ ns) = by (is_one_of t special n) (last_is t (Some n) ns) (last_is t seen ns)
  where
    or_else : (a b : Bool) → (true || a) ≡ (b || (true || a))
    or_else a true = refl
    or_else a false = refl

    by : (b : Bool) → is_present (last_special t (Some n) ns) ≡ (true || list_any (is_one_of t special) ns) → is_present (last_special t seen ns) ≡ (is_present seen || list_any (is_one_of t special) ns) →
        is_present (last_special t (elim b [ true ↦ Some n | false ↦ seen ]) ns) ≡ (is_present seen || (b || list_any (is_one_of t special) ns))
    by true here later = here ∙ or_else (list_any (is_one_of t special) ns) (is_present seen)
    by false here later = later

pub specials_are : (t : GrowingTree) (os : List Open) → AllStand t.nodes os → list_any (is_one_of t special) (map (λ o. o.id) os) ≡ list_any is_special_element os
specials_are t [] all = refl
specials_are t (o ∷ os) all =
    ap (λ b. b || list_any (is_one_of t special) (map (λ o. o.id) os)) (sym (one_agrees special special_known t o all.0)) ∙ ap (λ b. is_special_element o || b) (specials_are t os all.1)

blocks : (s : TreeState) (t : GrowingTree) (x : Open) (p : ℕ) → Builds s t → EntryStands t.nodes (Entry.Element x) → last_place (is_this x.name x.id) s.stack ≡ p + 1 →
    is_present (last_special t None (before_in x.id t.stack)) ≡ list_any is_special_element (drop (p + 1) s.stack)
blocks s t x p b stands e =
    let this : Open → Bool = is_this x.name x.id in
    let front : before_in x.id t.stack ≡ map (λ o. o.id) (opened_after this (reverse s.stack)) =
    ap (before_in x.id) b.stack.ids ∙ before_is t.nodes this x.id (λ o so. this_is t x stands o so ∙ sym (turned_test x.id o.id)) (reverse s.stack) b.stack.nodes in
    last_is t None (before_in x.id t.stack) ∙ ap (list_any (is_one_of t special)) front
    ∙ specials_are t (opened_after this (reverse s.stack)) (still_opened t.nodes this (reverse s.stack) b.stack.nodes)
    ∙ ap (list_any is_special_element) (after_is this s.stack) ∙ any_turned is_special_element (drop (last_place this s.stack) s.stack)
    ∙ ap (λ n. list_any is_special_element (drop n s.stack)) e

none_first : (p : Open → Bool) (n : ℕ) (xs : List Open) → None ≡ first_from p n xs → list_any p xs ≡ false
none_first p n [] e = refl
none_first p n (x ∷ xs) e = by (p x) (none_first p (n + 1) xs) e
  where
    by : (b : Bool) → (None ≡ first_from p (n + 1) xs → list_any p xs ≡ false) → None ≡ (if b then Some n else first_from p (n + 1) xs) → (b || list_any p xs) ≡ false
    by true more e = cc
    by false more e = more e

absent : (o : Option ℕ) → is_present o ≡ false → o ≡ None
absent None e = refl
absent (Some n) e = absurd (true≢false e)

pub no_block : (s : TreeState) (t : GrowingTree) (x : Open) (p : ℕ) → Builds s t → EntryStands t.nodes (Entry.Element x) → last_place (is_this x.name x.id) s.stack ≡ p + 1 →
    None ≡ first_from is_special_element (p + 1) (drop (p + 1) s.stack) → last_special t None (before_in x.id t.stack) ≡ None
no_block s t x p b stands e none = absent _ (blocks s t x p b stands e ∙ none_first is_special_element (p + 1) (drop (p + 1) s.stack) none)

-- ---- all up to the formatting element are popped

cut_is : (p : Open → Bool) (n : ℕ) (xs : List Open) → last_place p xs ≡ n + 1 → take n xs ≡ before_last p xs
cut_is p n = by_ends (λ xs. last_place p xs ≡ n + 1 → take n xs ≡ before_last p xs) (λ e. absurd (omega (arith, e)))
    (λ ys y more e. by ys y (p y) more (sym (last_place_push p ys y) ∙ e) ∙ sym (before_last_push p ys y))
  where
    by : (ys : List Open) (y : Open) (b : Bool) → (last_place p ys ≡ n + 1 → take n ys ≡ before_last p ys) → (if b then length ys + 1 else last_place p ys) ≡ n + 1 →
        take n (ys ++ y ∷ []) ≡ (if b then ys else before_last p ys)
    by ys y true more e = take-append-le n ys (y ∷ []) (omega (arith, e)) ∙ take_all n ys (omega (arith, e))
    by ys y false more e = (let le = last_place_le p ys in take-append-le n ys (y ∷ []) (omega (arith, e, le)) ∙ more e)

pub cut_built : (s : TreeState) (t : GrowingTree) (x : Open) (p : ℕ) → Builds s t → EntryStands t.nodes (Entry.Element x) → last_place (is_this x.name x.id) s.stack ≡ p + 1 →
    Builds (record s { stack = take p s.stack }) (with_stack t (past (nat_eq x.id) t.stack))
cut_built s t x p b stands e =
    built_front s _ t p (past (nat_eq x.id) t.stack) refl b
    (subst (IsStackOf (with_stack t (past (nat_eq x.id) t.stack))) (sym (cut_is (is_this x.name x.id) p s.stack e))
    (popped_through t (is_this x.name x.id) (nat_eq x.id) (this_is t x stands) s.stack b.stack))
