-- Nodes that are selected or kept one after the other.
use Rattle.std.proofs.Common.{ℕ, ◌≡◌, true, false, Bool, List, [], ◌∷◌, ◌++◌, Some, None, refl, ap, sym, ◌∙◌, cond, subst, append_assoc, append-nil, inl, inr}
use Rattle.std.proofs.lemmas.Option.{none-some, same_Some}
use Rattle.std.specs.Prelude.{MatchBool}
use Rattle.std.specs.Borrow.{Bor}
use Rattle.dom_links.specs.Forest.{Forest}
use Rattle.dom_trees.specs.declared.node_ref.NodeRef.{NodeRef}
use Rattle.dom_trees.specs.Views.{refs_to}
use Rattle.dom_selectors.specs.Syntax.{SelectorList}
use Rattle.dom_select.specs.Descendants.{GivesMatch, IsFirstMatch, IsMatch, Matches, ToCome}
use Rattle.dom_select.specs.Meaning.{MatchesNode}
use Rattle.dom_index.specs.Index.{Finds}
use Rattle.dom_links.specs.Lists.{without}
use Rattle.dom_select.specs.Selected.{FiltersTo, Selected, walks_below}
use Rattle.dom_selection.specs.Selecting.{Adds, Keeps, Selects, SelectsFirst, WillSelect}
use Rattle.dom_selection.specs.Selections.{HasOneTree, added, ids_of, refs_in, tree_of}
use Rattle.dom_selection.proofs.GatherLemmas.{refs-append}
use Rattle.dom_selection.proofs.SelectionLemmas.{ids_of-refs_to, one_tree_of}
use Rattle.dom_selection.proofs.SetLemmas.{refs-joined}

-- the selector means the node of that number in the tree of the first
abbrev pub MatchesNodeIn : SelectorList → List NodeRef → ℕ → Type 0
MatchesNodeIn selector [] n = ⊥
MatchesNodeIn selector (node ∷ nodes) n = MatchesNode selector node.tree.now n

-- some were kept, and these are left to be asked
abbrev pub KeptSoFar : SelectorList → List NodeRef → List NodeRef → List NodeRef → Type 0
KeptSoFar selector all kept left =
    (ids : List ℕ) × (kept ≡ refs_in all ids) × ((rest : List ℕ) → FiltersTo (MatchesNodeIn selector all) (ids_of left) rest → FiltersTo (MatchesNodeIn selector all) (ids_of all) (ids ++ rest))

refs_in-none : (nodes : List NodeRef) → [] ≡ refs_in nodes []
refs_in-none [] = refl
refs_in-none (node ∷ nodes) = refl

pub kept_none : (selector : SelectorList) (all left : List NodeRef) → left ≡ all → KeptSoFar selector all [] left
kept_none selector all left e = ([], refs_in-none all, λ rest h. subst (λ ns. FiltersTo (MatchesNodeIn selector all) (ids_of ns) rest) e h)

refs_in-more : (all : List NodeRef) (tree : Bor Forest) (ids : List ℕ) (n : ℕ) (node : NodeRef) → tree_of all ≡ Some tree → node ≡ record { id = n; tree = tree } → refs_in all ids ++ node ∷ [] ≡ refs_in all (ids ++ n ∷ [])
refs_in-more [] tree ids n node first is = absurd (none-some tree first)
refs_in-more (one ∷ all) tree ids n node first is =
    ap (λ x. refs_to one.tree ids ++ x ∷ []) (is ∙ ap (λ (t : Bor Forest). record { id = n; tree = t }) (sym (same_Some one.tree tree first))) ∙ sym (refs-append one.tree ids n)

means_in : (selector : SelectorList) (all : List NodeRef) (tree : Bor Forest) (n : ℕ) → tree_of all ≡ Some tree → MatchesNodeIn selector all n ≡ MatchesNode selector tree.now n
means_in selector [] tree n first = absurd (none-some tree first)
means_in selector (one ∷ all) tree n first = ap (λ (t : Bor Forest). MatchesNode selector t.now n) (same_Some one.tree tree first)

-- one more is asked
pub keep_one : (selector : SelectorList) (all kept rest left : List NodeRef) (tree : Bor Forest) (n : ℕ) (node : NodeRef) (passes : Bool) → tree_of all ≡ Some tree
    → node ≡ record { id = n; tree = tree } → ids_of left ≡ n ∷ ids_of rest → MatchBool passes (MatchesNode selector tree.now n) (MatchesNode selector tree.now n → ⊥)
    → KeptSoFar selector all kept left → KeptSoFar selector all (kept ++ cond passes (node ∷ []) []) rest
keep_one selector all kept rest left tree n node true first is split means (ids, refs, on) = (
  ids ++ n ∷ [],
  ap (λ ns. ns ++ node ∷ []) refs ∙ refs_in-more all tree ids n node first is,
  λ more h.
      subst (FiltersTo (MatchesNodeIn selector all) (ids_of all)) (sym (append_assoc ids (n ∷ []) more))
      (on (n ∷ more) (subst (λ ns. FiltersTo (MatchesNodeIn selector all) ns (n ∷ more)) (sym split) (inl (subst (λ (X : Type 0). X) (sym (means_in selector all tree n first)) means, more, refl, h)))),
)
keep_one selector all kept rest left tree n node false first is split out (ids, refs, on) = (
  ids,
  append-nil kept ∙ refs,
  λ more h.
      on more (subst (λ ns. FiltersTo (MatchesNodeIn selector all) ns more) (sym split) (inr ((λ m. out (subst (λ (X : Type 0). X) (means_in selector all tree n first) m)), h))),
)

-- all were asked
pub keeps_all : (selector : SelectorList) (all kept : List NodeRef) (tree : Bor Forest) → tree_of all ≡ Some tree → KeptSoFar selector all kept [] → Keeps selector all kept
keeps_all selector [] kept tree first so_far = absurd (none-some tree first)
keeps_all selector (one ∷ all) kept tree first (ids, refs, on) =
    (ids, subst (FiltersTo (MatchesNodeIn selector (one ∷ all)) (ids_of (one ∷ all))) (append-nil ids) (on [] refl), refs)

pub kept_tree : (selector : SelectorList) (all kept left : List NodeRef) → KeptSoFar selector all kept left → HasOneTree kept
kept_tree selector [] kept left (ids, refs, on) = subst HasOneTree (sym refs) tt
kept_tree selector (one ∷ all) kept left (ids, refs, on) = one_tree_of kept one.tree ids refs

-- what is found in the tree of the nodes is what is selected below them
pub found_selects : (selector : SelectorList) (nodes : List NodeRef) (tree : Bor Forest) (found : List NodeRef) → tree_of nodes ≡ Some tree → Finds tree (ids_of nodes) selector found → Selects selector nodes found
found_selects selector [] tree found first finds = absurd (none-some tree first)
found_selects selector (one ∷ nodes) tree found first (ids, selected, is) =
    let here = same_Some one.tree tree first in (
      ids,
      subst (λ (t : Bor Forest). Selected t.now (ids_of (one ∷ nodes)) selector ids) (sym here) selected,
      is ∙ ap (λ (t : Bor Forest). refs_to t ids) (sym here),
    )

-- what a walk below the nodes will give is what is selected below them
pub will_select : (selector : SelectorList) (nodes lent : List NodeRef) (tree : Bor Forest) (walk : Matches) → tree_of nodes ≡ Some tree → lent ≡ nodes → walk.tree ≡ tree
    → ((ids : List ℕ) → ToCome walk ids → Selected tree.now (ids_of lent) selector ids) → WillSelect selector nodes walk
will_select selector nodes lent tree walk first same at selected ids to_come =
    subst (λ (t : Bor Forest). Selects selector nodes (refs_to t ids)) (sym at)
    (found_selects selector nodes tree (refs_to tree ids) first (ids, subst (λ ns. Selected tree.now (ids_of ns) selector ids) same (selected ids to_come), refl))

pub no_nodes : (nodes : List NodeRef) → tree_of nodes ≡ None → nodes ≡ []
no_nodes [] none = refl
no_nodes (node ∷ nodes) none = absurd (none-some node.tree (sym none))

pub found_tree : (tree : Bor Forest) (roots : List ℕ) (selector : SelectorList) (found : List NodeRef) → Finds tree roots selector found → HasOneTree found
found_tree tree roots selector found (ids, selected, is) = one_tree_of found tree ids is

-- nothing is to come
pub first_none : (selector : SelectorList) (nodes : List NodeRef) (tree : Bor Forest) (ids : List ℕ) (walk later : Matches) → tree_of nodes ≡ Some tree → ids ≡ ids_of nodes → walk.left ≡ walks_below tree.now ids → walk.tree ≡ tree → walk.selector ≡ selector
    → GivesMatch walk None later → SelectsFirst selector nodes []
first_none selector [] tree ids walk later first here left same asked given = absurd (none-some tree first)
first_none selector (one ∷ nodes) tree ids walk later first here left same asked given =
    let at : walk.tree ≡ one.tree = same ∙ sym (same_Some one.tree tree first) in
    let all : walk.left ≡ walks_below one.tree.now (ids_of (one ∷ nodes)) = left ∙ ap (λ (t : Bor Forest). walks_below t.now ids) (sym (same_Some one.tree tree first)) ∙ ap (walks_below one.tree.now) here in
    ([], subst (λ ns. FiltersTo (IsMatch selector one.tree.now) ns []) all (subst (λ (t : Bor Forest). FiltersTo (IsMatch selector t.now) walk.left []) at (subst (λ l. FiltersTo (IsMatch l walk.tree.now) walk.left []) asked given.first.0)), refl)

-- the first that is to come
pub first_some : (selector : SelectorList) (nodes : List NodeRef) (tree : Bor Forest) (ids : List ℕ) (walk later : Matches) (node : NodeRef) → tree_of nodes ≡ Some tree → ids ≡ ids_of nodes → walk.left ≡ walks_below tree.now ids → walk.tree ≡ tree → walk.selector ≡ selector
    → GivesMatch walk (Some node) later → SelectsFirst selector nodes (node ∷ [])
first_some selector [] tree ids walk later node first here left same asked given = absurd (none-some tree first)
first_some selector (one ∷ nodes) tree ids walk later node first here left same asked given =
    let met : IsFirstMatch walk node later = given.first in
    let at : walk.tree ≡ one.tree = same ∙ sym (same_Some one.tree tree first) in
    let all : walk.left ≡ walks_below one.tree.now (ids_of (one ∷ nodes)) = left ∙ ap (λ (t : Bor Forest). walks_below t.now ids) (sym (same_Some one.tree tree first)) ∙ ap (walks_below one.tree.now) here in
    let Is : SelectorList → Bor Forest → ℕ → Type 0 = λ l t. IsMatch l t.now in (
      node.id ∷ [],
      (
        refl,
        subst (λ (t : Bor Forest). Is selector t node.id) at (subst (λ l. Is l walk.tree node.id) asked met.meant),
        met.passed,
        later.left,
        sym all ∙ met.stands,
        subst (λ (t : Bor Forest). FiltersTo (Is selector t) met.passed []) at (subst (λ l. FiltersTo (Is l walk.tree) met.passed []) asked met.none_before),
      ),
      ap (λ (t : Bor Forest). record { id = node.id; tree = t } ∷ []) (met.tree ∙ at),
    )

-- what is added are those that the root's tree selects
pub adds : (selector : SelectorList) (nodes more all : List NodeRef) (tree : Bor Forest) → tree_of nodes ≡ Some tree → Selects selector (record { id = 0; tree = tree } ∷ []) more → all ≡ added nodes more → HasOneTree nodes
    → Adds selector nodes all
adds selector [] more all tree first selected is one = absurd (none-some tree first)
adds selector (node ∷ nodes) more all tree first (ids, selected, refs) is one =
    let here = same_Some node.tree tree first in
    let ns = ids_of (node ∷ nodes) in (
      ns ++ without ns ids,
      (ids, subst (λ (t : Bor Forest). Selected t.now (0 ∷ []) selector ids) (sym here) selected, refl),
      is ∙ ap (λ ms. (node ∷ nodes) ++ refs_to node.tree (without ns ms)) (ap ids_of refs ∙ ids_of-refs_to tree ids)
          ∙ ap (λ refs. refs ++ refs_to node.tree (without ns ids)) one ∙ refs-joined node.tree ns (without ns ids),
    )
