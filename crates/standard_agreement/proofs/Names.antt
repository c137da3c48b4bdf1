-- The names of elements of which plain trees are made, and what is computed for each of them.
use Rattle.std.specs.Prelude.{◌≡◌, refl, ℕ, Bool, true, false, not, ◌&&◌, ◌||◌, List, [], ◌∷◌, bytes_eq, codes}
use Rattle.std.specs.List.{flat_map, list_all}
use Rattle.std.proofs.lemmas.Bool.{true≢false}
use Rattle.std.proofs.lemmas.Slice.Eq.{bytes_eq-Decides}
use mathlib.Core.Path.{◌∙◌, sym, ap}
use Rattle.standard_rules.specs.ElementNames.{implied_names, scope_names, special_names}
use Rattle.standard_rules.specs.PlainTrees.{classes, names_of}
use Rattle.standard_rules.specs.TreeTokens.{is_among}
use Rattle.standard_trees.specs.GrowingTree.{is_template}
use Rattle.standard_trees.specs.NameLists.{implied, scope, special}
use Rattle.standard_trees.specs.TreeStore.{Html}

abbrev pub known : List (List ℕ)
known = codes "html" ∷ codes "head" ∷ codes "body" ∷ flat_map names_of classes

abbrev pub IsKnown : List ℕ → Type 0
IsKnown name = is_among name known ≡ true

both_of : (a b : Bool) → a && b ≡ true → (a ≡ true) × (b ≡ true)
both_of true true h = (refl, refl)
both_of true false h = cc
both_of false b h = cc

-- what is so of each of these names
pub for_each : (test : List ℕ → Bool) (names : List (List ℕ)) → list_all test names ≡ true → (name : List ℕ) → is_among name names ≡ true → test name ≡ true
for_each test [] all name h = absurd (true≢false (sym h))
for_each test (one ∷ names) all name h =
    by_test (bytes_eq name one) refl h (both_of (test one) (list_all test names) all).0 (for_each test names (both_of (test one) (list_all test names) all).1 name)
  where
    by_test : (x : Bool) → bytes_eq name one ≡ x → x || is_among name names ≡ true → test one ≡ true → (is_among name names ≡ true → test name ≡ true) → test name ≡ true
    by_test true e k here more = ap test ((bytes_eq-Decides name one).0 e) ∙ here
    by_test false e k here more = more k

abbrev pub same : Bool → Bool → Bool
same true b = b
same false b = not b

pub same_is : (a b : Bool) → same a b ≡ true → a ≡ b
same_is true true h = refl
same_is true false h = cc
same_is false true h = cc
same_is false false h = refl

pub every : (test : List ℕ → Bool) → ((name : List ℕ) → test name ≡ true) → (names : List (List ℕ)) → list_all test names ≡ true
every test each [] = refl
every test each (name ∷ names) = ap (λ x. x && list_all test names) (each name) ∙ every test each names

-- two lists that hold the same ones of the known names
abbrev pub alike : List (List ℕ) → List (List ℕ) → Bool
alike names others = list_all (λ name. same (is_among name names) (is_among name others)) known

pub alike_is : (names others : List (List ℕ)) → alike names others ≡ true → (name : List ℕ) → IsKnown name → is_among name names ≡ is_among name others
alike_is names others h name is =
    same_is (is_among name names) (is_among name others) (for_each (λ one. same (is_among one names) (is_among one others)) known h name is)

pub same_implied : alike implied implied_names ≡ true
same_implied = refl

pub same_special : alike special special_names ≡ true
same_special = refl

pub same_scope : alike scope scope_names ≡ true
same_scope = refl

pub no_template : (name : List ℕ) → IsKnown name → is_template Html name ≡ false
no_template name is = not_true (bytes_eq name (codes "template")) (for_each (λ one. not (bytes_eq one (codes "template"))) known refl name is)
  where
    not_true : (x : Bool) → not x ≡ true → x ≡ false
    not_true true h = cc
    not_true false h = refl
