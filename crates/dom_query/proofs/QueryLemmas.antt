-- Numbers that are selected, and what holds of references to them.
use Rattle.std.proofs.Common.{◌≡◌, ℕ, List, [], ◌∷◌, ◌++◌, inl, inr, refl, sym, ◌∙◌, ap, subst, reverse, take, IfOk, Result, Ok, Err}
use Rattle.std.specs.Global.{Vec}
use Rattle.std.specs.List.{flat_map}
use Rattle.std.proofs.lemmas.List.{map-append, reverse-append}
use Rattle.std.specs.Borrow.{Bor}
use Rattle.dom_nodes.specs.declared.fault.OutOfMemory.{OutOfMemory}
use Rattle.dom_links.specs.Forest.{Forest}
use Rattle.dom_links.specs.Lists.{without}
use Rattle.dom_trees.specs.declared.node_ref.NodeRef.{NodeRef}
use Rattle.dom_trees.specs.Views.{refs_to}
use Rattle.dom_selectors.specs.Syntax.{SelectorList}
use Rattle.dom_select.specs.Meaning.{MatchesNode}
use Rattle.dom_select.specs.Selected.{FiltersTo, Selected, first_occurrences}
use Rattle.dom_selection.specs.Selecting.{Adds, AreFound, Keeps, Selects}
use Rattle.dom_selection.specs.Selections.{Lists, first_alone, gathered, ids_of}
use Rattle.dom_selection.proofs.SelectionLemmas.{ids_of-refs_to}
use Rattle.dom_query.specs.Queries.{Added, traversed}

pub filtered-once : (P : ℕ → Type 0) (ns a b : List ℕ) → FiltersTo P ns a → FiltersTo P ns b → a ≡ b
filtered-once P [] a b p q = p ∙ sym q
filtered-once P (n ∷ ns) a b (inl (holds, rest, is, p)) (inl (_, more, so, q)) = is ∙ ap (λ ms. n ∷ ms) (filtered-once P ns rest more p q) ∙ sym so
filtered-once P (n ∷ ns) a b (inl (holds, rest, is, p)) (inr (out, q)) = absurd (out holds)
filtered-once P (n ∷ ns) a b (inr (out, p)) (inl (holds, more, so, q)) = absurd (out holds)
filtered-once P (n ∷ ns) a b (inr (_, p)) (inr (_, q)) = filtered-once P ns a b p q

-- what is found for references is found for their numbers
found-numbers : (P : Forest → List ℕ → List ℕ → Type 0) (tree : Bor Forest) (n : ℕ) (ns : List ℕ) (found : List NodeRef) → AreFound P (refs_to tree (n ∷ ns)) found → P tree.now (n ∷ ns) (ids_of found)
found-numbers P tree n ns found (ids, evidence, is) =
    subst (λ ms. P tree.now ms (ids_of found)) (ids_of-refs_to tree (n ∷ ns))
    (subst (P tree.now (ids_of (refs_to tree (n ∷ ns)))) (sym (ap ids_of is ∙ ids_of-refs_to tree ids)) evidence)

selected-none : (forest : Forest) (selector : SelectorList) → Selected forest [] selector []
unfolding Selected
selected-none forest selector = refl

pub selects-numbers : (selector : SelectorList) (tree : Bor Forest) (ns : List ℕ) (found : List NodeRef) → Selects selector (refs_to tree ns) found → Selected tree.now ns selector (ids_of found)
selects-numbers selector tree [] found is = subst (Selected tree.now [] selector) (sym (ap ids_of is)) (selected-none tree.now selector)
selects-numbers selector tree (n ∷ ns) found is = found-numbers (λ forest ms ids. Selected forest ms selector ids) tree n ns found is

pub keeps-numbers : (selector : SelectorList) (tree : Bor Forest) (ns : List ℕ) (found : List NodeRef) → Keeps selector (refs_to tree ns) found → FiltersTo (MatchesNode selector tree.now) ns (ids_of found)
keeps-numbers selector tree [] found is = ap ids_of is
keeps-numbers selector tree (n ∷ ns) found is = found-numbers (λ forest ms ids. FiltersTo (MatchesNode selector forest) ms ids) tree n ns found is

pub adds-numbers : (selector : SelectorList) (tree : Bor Forest) (ns : List ℕ) (found : List NodeRef) → Adds selector (refs_to tree ns) found → Added tree.now ns selector (ids_of found)
adds-numbers selector tree [] found is = ap ids_of is
adds-numbers selector tree (n ∷ ns) found is = found-numbers (λ forest ms ids. (more : List ℕ) × Selected forest (0 ∷ []) selector more × (ids ≡ ms ++ without ms more)) tree n ns found is

-- where steps lead
pub traversed-numbers : (step : Forest → ℕ → List ℕ) (tree : Bor Forest) (ns : List ℕ) → ids_of (gathered step (refs_to tree ns)) ≡ traversed step tree.now ns
traversed-numbers step tree [] = refl
traversed-numbers step tree (n ∷ ns) =
    ids_of-refs_to tree _ ∙ ap (λ ms. first_occurrences [] (flat_map (step tree.now) ms)) (ids_of-refs_to tree (n ∷ ns))

first-number : (nodes : List NodeRef) → ids_of (first_alone nodes) ≡ take 1 (ids_of nodes)
first-number [] = refl
first-number (node ∷ nodes) = refl

pub first-numbers : (tree : Bor Forest) (ns : List ℕ) → ids_of (first_alone (refs_to tree ns)) ≡ take 1 ns
first-numbers tree ns = first-number (refs_to tree ns) ∙ ap (take 1) (ids_of-refs_to tree ns)

reversed-ids : (nodes : List NodeRef) → ids_of (reverse nodes) ≡ reverse (ids_of nodes)
reversed-ids [] = refl
reversed-ids (node ∷ nodes) =
    ap ids_of (reverse-append (node ∷ []) nodes) ∙ map-append (λ (n : NodeRef). n.id) (reverse nodes) (node ∷ [])
    ∙ ap (λ ns. ns ++ node.id ∷ []) (reversed-ids nodes) ∙ sym (reverse-append (node.id ∷ []) (ids_of nodes))

pub last-numbers : (tree : Bor Forest) (ns : List ℕ) → ids_of (first_alone (reverse (refs_to tree ns))) ≡ take 1 (reverse ns)
last-numbers tree ns = first-number (reverse (refs_to tree ns)) ∙ ap (take 1) (reversed-ids (refs_to tree ns) ∙ ap reverse (ids_of-refs_to tree ns))

-- what holds of numbers holds of a vector of them
pub numbers-of : {E : Type 0} (P : List ℕ → Type 0) (r : Result (Vec ℕ) E) (ids : List ℕ) → IfOk r (λ found. found.items ≡ ids) → P ids → IfOk r (λ found. P found.items)
numbers-of P (Ok found) ids is evidence = subst P (sym is) evidence
numbers-of P (Err e) ids is evidence = tt

pub traversed-from : (step : Forest → ℕ → List ℕ) (tree : Bor Forest) (ns : List ℕ) (from : List NodeRef) (r : Result (List NodeRef) OutOfMemory) → from ≡ refs_to tree ns → Lists r (gathered step from)
    → IfOk r (λ found. ids_of found ≡ traversed step tree.now ns)
traversed-from step tree ns from (Ok found) is evidence = ap ids_of evidence ∙ ap (λ nodes. ids_of (gathered step nodes)) is ∙ traversed-numbers step tree ns
traversed-from step tree ns from (Err e) is evidence = tt
