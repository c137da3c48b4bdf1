-- Which elements are open: by name, and the outermost one.
use Rattle.std.proofs.Common.{◌≡◌, ℕ, ◌||◌, Bool, true, false, List, [], ◌∷◌, ◌++◌, map, reverse, refl, sym, ap, subst, ◌∙◌, codes, Some, true≢false}
use Rattle.std.specs.Prelude.{nat_lt}
use Rattle.std.specs.List.{list_any}
use Rattle.std.specs.Str.{bytes_eq}
use Rattle.std.proofs.lemmas.Bool.{ltb-false, ltb-true}
use Rattle.std.proofs.lemmas.List.{map-append, reverse-append}
use Rattle.std.proofs.lemmas.List.Folds.{list_any-append}
use Rattle.standard_trees.specs.GrowingTree.{GrowingTree, is_one as is_one_of, topmost}
use Rattle.standard_trees.specs.GrowingTree.{is_named as is_of_kind}
use Rattle.standard_trees.specs.TreeStore.{Node, key_in, node_at}
use Rattle.page_trees.specs.LateMerges.{IsBelowHtml, MayMerge, id_at, is_open}
use Rattle.page_trees.specs.Names.{text_of}
use Rattle.page_trees.specs.Scopes.{is_name, is_named, last_place}
use Rattle.page_trees.specs.Stands.{AllStand, Builds, IsStackOf, StandsFor}
use Rattle.page_trees.specs.TreeState.{TreeState}
use Rattle.page_trees.specs.declared.name.Name.{Name}
use Rattle.page_trees.specs.declared.stack.Open.{Open}
use Rattle.page_trees.proofs.ScopeLemmas.{by_ends}
use Rattle.page_trees.proofs.StackSearches.{any_passes, none_passes}
use Rattle.page_trees.proofs.StandingNames.{named_agrees}

-- ---- by name

or_turned : (b c : Bool) → (b || c) ≡ (c || (b || false))
or_turned true true = refl
or_turned true false = refl
or_turned false true = refl
or_turned false false = refl

any_turned : (p : Open → Bool) (all : List Open) → list_any p (reverse all) ≡ list_any p all
any_turned p = by_ends (λ xs. list_any p (reverse xs) ≡ list_any p xs) refl (λ ys y e.
    ap (list_any p) (reverse-append ys (y ∷ [])) ∙ ap (λ b. p y || b) e ∙ or_turned (p y) (list_any p ys) ∙ sym (list_any-append p ys (y ∷ [])))

any_stands : (nodes : List Node) (p : Open → Bool) (q : ℕ → Bool) → ((o : Open) → StandsFor nodes o → p o ≡ q o.id) → (os : List Open) → AllStand nodes os →
    list_any p os ≡ list_any q (map (λ o. o.id) os)
any_stands nodes p q same [] s = refl
any_stands nodes p q same (o ∷ os) s = ap (λ b. b || list_any p os) (same o s.0) ∙ ap (λ b. q o.id || b) (any_stands nodes p q same os s.1)

open_agrees : (name : Name) → is_name name Name.Other ≡ false → (t : GrowingTree) (all : List Open) → IsStackOf t all → list_any (is_named name) all ≡ is_open (text_of name) t
open_agrees name known t all s =
    sym (any_turned (is_named name) all)
    ∙ any_stands t.nodes (is_named name) (is_one_of t (text_of name ∷ [])) (λ o stands. named_agrees name known t o stands) (reverse all) s.nodes
    ∙ ap (list_any (is_one_of t (text_of name ∷ []))) (sym s.ids)

any_found : {X : Type 0} (p : X → Bool) (xs : List X) → nat_lt 0 (last_place p xs) ≡ list_any p xs
any_found p xs = by (nat_lt 0 (last_place p xs)) refl
  where
    by : (b : Bool) → nat_lt 0 (last_place p xs) ≡ b → b ≡ list_any p xs
    by true e = sym (any_passes p xs (ltb-true 0 (last_place p xs) e))
    by false e = sym (none_passes p xs (ltb-false 0 (last_place p xs) e))

-- a search that finds the element tells that it is open
pub is_found : (name : Name) → is_name name Name.Other ≡ false → (t : GrowingTree) (all : List Open) → IsStackOf t all → (r : Bool) (top : ℕ) → r ≡ nat_lt 0 top →
    top ≡ last_place (is_named name) all → r ≡ is_open (text_of name) t
is_found name known t all s r top e at = e ∙ ap (nat_lt 0) at ∙ any_found (is_named name) all ∙ open_agrees name known t all s

-- ---- the outermost element

topmost_end : (ns : List ℕ) (n : ℕ) → topmost (ns ++ n ∷ []) ≡ n
topmost_end [] n = refl
topmost_end (m ∷ []) n = refl
topmost_end (m ∷ k ∷ ns) n = topmost_end (k ∷ ns) n

pub outermost : (t : GrowingTree) (o : Open) (os : List Open) → t.stack ≡ map (λ (x : Open). x.id) (reverse (o ∷ os)) → topmost t.stack ≡ o.id
outermost t o os ids =
    ap topmost (ids ∙ ap (map (λ (x : Open). x.id)) (reverse-append (o ∷ []) os) ∙ map-append (λ (x : Open). x.id) (reverse os) (o ∷ []))
    ∙ topmost_end (map (λ (x : Open). x.id) (reverse os)) o.id

-- where nothing is open, `html` is not
pub nothing_below : (s : TreeState) (t : GrowingTree) → Builds s t → t.stack ≡ [] → IsBelowHtml t → ⊥
nothing_below s t b none html =
    true≢false (sym html ∙ ap (λ (ns : List ℕ). is_one_of t (codes "html" ∷ []) (topmost ns)) none ∙ ap (is_of_kind (codes "html" ∷ [])) b.nodes.root)

pub first_is_html : (s : TreeState) (t : GrowingTree) → Builds s t → IsBelowHtml t → id_at s.stack 0 ≡ Some (topmost t.stack)
first_is_html s t b html = by s.stack b.stack.ids
  where
    by : (os : List Open) → t.stack ≡ map (λ (x : Open). x.id) (reverse os) → id_at os 0 ≡ Some (topmost t.stack)
    by [] ids = absurd (nothing_below s t b ids html)
    by (o ∷ os) ids = ap Some (sym (outermost t o os ids))

one_of_two : (x y : Bool) → (x || false) ≡ true → (x || (y || false)) ≡ true
one_of_two true y h = refl
one_of_two false y h = absurd (true≢false (sym h))

-- attributes may be merged into it
pub html_may_merge : (s : TreeState) (t : GrowingTree) → Builds s t → IsBelowHtml t → MayMerge t (id_at s.stack 0)
html_may_merge s t b html =
    let key : List ℕ = key_in (node_at t.nodes (topmost t.stack)).kind in
    subst (MayMerge t) (sym (first_is_html s t b html)) (one_of_two (bytes_eq key (codes "html")) (bytes_eq key (codes "body")) html)
