-- Nodes that are met one after the other.
use Rattle.std.proofs.Common.{ℕ, ◌≡◌, ◌||◌, ◌==◌, true, false, Bool, List, [], ◌∷◌, ◌++◌, refl, ap, sym, ◌∙◌, cond, subst, append_assoc, not, append-nil}
use Rattle.std.specs.Borrow.{Bor}
use Rattle.std.specs.List.{flat_map, filter}
use Rattle.dom_links.specs.Forest.{Forest}
use Rattle.dom_links.specs.Lists.{is_member}
use Rattle.dom_trees.specs.declared.node_ref.NodeRef.{NodeRef}
use Rattle.dom_trees.specs.Views.{refs_to}
use Rattle.dom_selection.specs.declared.selection.gathering.Gathered.{Gathered}
use Rattle.dom_selection.specs.Gathering.{HasGathered, Gathers}
use Rattle.dom_selection.specs.Seen.{HaveSame, with_unseen}
use Rattle.dom_select.specs.Selected.{first_occurrences}
use Rattle.dom_selection.specs.Selections.{ids_of, tree_of, gathered}
use Rattle.dom_links.specs.ListMoves.{element_at}
use Rattle.std.proofs.Common.{Some, None, get_or, drop, length, ◌<◌, ◌≤◌, ◌+◌, suc, drop-cons, add-one}
use Rattle.std.proofs.lemmas.List.{drop_all}
use Rattle.std.proofs.lemmas.Option.{none-some, same_Some}

pub with_unseen-append : (met xs ys : List ℕ) → with_unseen met (xs ++ ys) ≡ with_unseen (with_unseen met xs) ys
with_unseen-append met [] ys = refl
with_unseen-append met (n ∷ xs) ys = with_unseen-append (cond (is_member n met) met (met ++ n ∷ [])) xs ys

pub gathers_nothing : (g : Gathered) → Gathers g g []
gathers_nothing g = record { tree = refl; met = λ before has. has }

pub gathers_then : (a b c : Gathered) (xs ys : List ℕ) → Gathers a b xs → Gathers b c ys → Gathers a c (xs ++ ys)
gathers_then a b c xs ys m n = record {
  tree = n.tree ∙ m.tree;
  met = λ before has. subst (HasGathered c) (sym (with_unseen-append before xs ys)) (n.met (with_unseen before xs) (m.met before has));
}

-- what stands in a list and one more
pub stands-append : (n m : ℕ) (ns : List ℕ) → is_member n (ns ++ m ∷ []) ≡ ((m == n) || is_member n ns)
stands-append n m [] = refl
stands-append n m (k ∷ ks) = ap (λ b. (k == n) || b) (stands-append n m ks) ∙ or_swap (k == n) (m == n) (is_member n ks)
  where
    or_swap : (a b c : Bool) → (a || (b || c)) ≡ (b || (a || c))
    or_swap true true c = refl
    or_swap true false c = refl
    or_swap false true c = refl
    or_swap false false c = refl

-- what is met with others before it depends on which those are alone
pub first_occurrences-same : (a b ns : List ℕ) → HaveSame a b → first_occurrences a ns ≡ first_occurrences b ns
first_occurrences-same a b [] same = refl
first_occurrences-same a b (n ∷ ns) same =
    ap (λ t. cond t (first_occurrences a ns) (n ∷ first_occurrences (n ∷ a) ns)) (sym (same n))
    ∙ ap (λ ms. cond (is_member n b) ms (n ∷ first_occurrences (n ∷ a) ns)) (first_occurrences-same a b ns same)
    ∙ ap (λ ms. cond (is_member n b) (first_occurrences b ns) (n ∷ ms)) (first_occurrences-same (n ∷ a) (n ∷ b) ns (λ m. ap (λ t. (n == m) || t) (same m)))

-- those met are each number where it stands first
pub with_unseen-first : (met ns : List ℕ) → with_unseen met ns ≡ met ++ first_occurrences met ns
with_unseen-first met [] = sym (append-nil met)
with_unseen-first met (n ∷ ns) =
    elim (is_member n met) as (λ t. with_unseen (cond t met (met ++ n ∷ [])) ns ≡ met ++ cond t (first_occurrences met ns) (n ∷ first_occurrences (n ∷ met) ns)) [
      | true ↦ with_unseen-first met ns
      | false ↦ with_unseen-first (met ++ n ∷ []) ns ∙ append_assoc met (n ∷ []) (first_occurrences (met ++ n ∷ []) ns)
          ∙ ap (λ ms. met ++ n ∷ ms) (first_occurrences-same (met ++ n ∷ []) (n ∷ met) ns (λ m. sym (stands-append m n met)))
    ]

-- the references to nodes and to one more
pub refs-append : (tree : Bor Forest) (ids : List ℕ) (id : ℕ) → refs_to tree (ids ++ id ∷ []) ≡ refs_to tree ids ++ record { id = id; tree = tree } ∷ []
refs-append tree [] id = refl
refs-append tree (n ∷ ns) id = ap (λ refs. record { id = n; tree = tree } ∷ refs) (refs-append tree ns id)

-- a node that wasn't seen is met
pub gathers_new : (old new : Gathered) (id : ℕ) (node : NodeRef) → new.tree ≡ old.tree → is_member id old.seen ≡ false → HaveSame (id ∷ old.seen) new.seen
    → node ≡ record { id = id; tree = old.tree } → new.nodes.items ≡ old.nodes.items ++ node ∷ [] → Gathers old new (id ∷ [])
gathers_new old new id node same unseen seen is pushed = record {
  tree = same;
  met = λ before has.
      subst (λ t. HasGathered new (cond t before (before ++ id ∷ []))) (sym (sym (has.seen id) ∙ unseen)) (record {
        nodes = pushed ∙ ap (λ refs. refs ++ node ∷ []) has.nodes ∙ ap (λ ref. refs_to old.tree before ++ ref ∷ []) is ∙ sym (refs-append old.tree before id) ∙ ap (λ tree. refs_to tree (before ++ id ∷ [])) (sym same);
        seen = λ n. seen n ∙ ap (λ t. (id == n) || t) (has.seen n) ∙ sym (stands-append n id before);
      });
}

-- some were met, and these are left
abbrev pub GoesOn : Gathered → Gathered → List ℕ → List ℕ → Type 0
GoesOn start now all left = (xs : List ℕ) × Gathers start now xs × (all ≡ xs ++ left)

pub goes_start : (g : Gathered) (all : List ℕ) → GoesOn g g all all
goes_start g all = ([], gathers_nothing g, refl)

pub goes_step : (start now next : Gathered) (all xs left : List ℕ) → GoesOn start now all (xs ++ left) → Gathers now next xs → GoesOn start next all left
goes_step start now next all xs left (met, gathers, is) m = (met ++ xs, gathers_then start now next met xs gathers m, is ∙ sym (append_assoc met xs left))

pub goes_end : (start now : Gathered) (all : List ℕ) → GoesOn start now all [] → Gathers start now all
goes_end start now all (met, gathers, is) = subst (Gathers start now) (sym (is ∙ append-nil met)) gathers

pub filter-one : (p : ℕ → Bool) (x : ℕ) (xs : List ℕ) → filter p (x ∷ xs) ≡ filter p (x ∷ []) ++ filter p xs
filter-one p x xs = elim (p x) as (λ t. cond t (x ∷ filter p xs) (filter p xs) ≡ cond t (x ∷ []) [] ++ filter p xs) [
  | true ↦ refl
  | false ↦ refl
]

not_true : (b t : Bool) → t ≡ not b → t ≡ true → b ≡ false
not_true true t e f = sym (sym e ∙ f)
not_true false t e f = refl

pub unseen : (id : ℕ) (seen : List ℕ) (t : Bool) → t ≡ not (is_member id seen) → t ≡ true → is_member id seen ≡ false
unseen id seen t e f = not_true (is_member id seen) t e f

-- one more node is asked whether it is an element
pub goes_on_elements : (start now next : Gathered) (all it rest : List ℕ) (n : ℕ) → GoesOn start now all (filter (element_at start.tree.now) it) → it ≡ n ∷ rest
    → Gathers now next (filter (element_at now.tree.now) (n ∷ [])) → GoesOn start next all (filter (element_at start.tree.now) rest)
goes_on_elements start now next all it rest n on is m =
    let split = ap (filter (element_at start.tree.now)) is ∙ filter-one (element_at start.tree.now) n rest in
    let more : Gathers now next (filter (element_at start.tree.now) (n ∷ [])) = subst (λ tree. Gathers now next (filter (element_at tree.now) (n ∷ []))) on.1.tree m in
    goes_step start now next all _ _ (subst (GoesOn start now all) split on) more

-- one more node leads on
pub goes_on_from : (start now next : Gathered) (step : Forest → ℕ → List ℕ) (all : List ℕ) (it rest : List NodeRef) (node : NodeRef) → GoesOn start now all (flat_map (step start.tree.now) (ids_of it)) → it ≡ node ∷ rest
    → Gathers now next (step now.tree.now node.id) → GoesOn start next all (flat_map (step start.tree.now) (ids_of rest))
goes_on_from start now next step all it rest node on is m =
    let more : Gathers now next (step start.tree.now node.id) = subst (λ tree. Gathers now next (step tree.now node.id)) on.1.tree m in
    goes_step start now next all (step start.tree.now node.id) _ (subst (λ nodes. GoesOn start now all (flat_map (step start.tree.now) (ids_of nodes))) is on) more

-- all that was met, each once
pub all_met : (start now : Gathered) (all : List ℕ) → HasGathered start [] → GoesOn start now all [] → now.nodes.items ≡ refs_to start.tree (first_occurrences [] all)
all_met start now all none on =
    let end = goes_end start now all on in
    (end.met [] none).nodes ∙ ap (refs_to now.tree) (with_unseen-first [] all) ∙ ap (λ tree. refs_to tree (first_occurrences [] all)) end.tree

pub gathered_in : (nodes found : List NodeRef) (step : Forest → ℕ → List ℕ) (tree : Bor Forest) → tree_of nodes ≡ Some tree
    → found ≡ refs_to tree (first_occurrences [] (flat_map (step tree.now) (ids_of nodes))) → found ≡ gathered step nodes
gathered_in [] found step tree e is = absurd (none-some tree e)
gathered_in (node ∷ nodes) found step tree e is =
    is ∙ ap (λ (t : Bor Forest). refs_to t (first_occurrences [] (flat_map (step t.now) (ids_of (node ∷ nodes))))) (sym (same_Some node.tree tree e))

pub gathered_none : (nodes : List NodeRef) (step : Forest → ℕ → List ℕ) → tree_of nodes ≡ None → [] ≡ gathered step nodes
gathered_none [] step e = refl
gathered_none (node ∷ nodes) step e = absurd (none-some node.tree (sym e))

-- what is left begins with the node at that place
pub left_from : (nodes : List NodeRef) (i : ℕ) (node : NodeRef) → i < length nodes → node ≡ get_or nodes i node → drop i nodes ≡ node ∷ drop (i + 1) nodes
left_from nodes i node within is = rw add-one (drop-cons nodes i node within ∙ ap (λ x. x ∷ drop (suc i) nodes) (sym is))

-- at the end the nodes are where the step leads from all
pub met_all : (start now : Gathered) (step : Forest → ℕ → List ℕ) (nodes : List NodeRef) (i : ℕ) → HasGathered start [] → length nodes ≤ i
    → GoesOn start now (flat_map (step start.tree.now) (ids_of nodes)) (flat_map (step start.tree.now) (ids_of (drop i nodes)))
    → now.nodes.items ≡ refs_to start.tree (first_occurrences [] (flat_map (step start.tree.now) (ids_of nodes)))
met_all start now step nodes i none past on =
    all_met start now (flat_map (step start.tree.now) (ids_of nodes)) none
    (subst (λ ns. GoesOn start now (flat_map (step start.tree.now) (ids_of nodes)) (flat_map (step start.tree.now) (ids_of ns))) (drop_all i nodes past) on)
