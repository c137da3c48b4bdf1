-- Lists of nodes as sets.
use Rattle.std.proofs.Common.{ℕ, ◌≡◌, ◌≢◌, ◌≤◌, ◌==◌, ◌||◌, true, false, Bool, List, [], ◌∷◌, ◌++◌, Some, refl, ap, sym, ◌∙◌, cond, append_assoc, append-nil, not, filter, drop, length}
use Rattle.std.proofs.lemmas.List.{drop_all}
use Rattle.std.proofs.lemmas.Option.{none-some, same_Some}
use Rattle.std.specs.List.{list_any}
use Rattle.std.specs.Borrow.{Bor}
use Rattle.dom_links.specs.Forest.{Forest}
use Rattle.dom_links.specs.Lists.{is_member, without}
use Rattle.dom_trees.specs.declared.node_ref.NodeRef.{NodeRef}
use Rattle.dom_trees.specs.Views.{refs_to}
use Rattle.dom_selection.specs.Seen.{HaveSame}
use Rattle.dom_selection.specs.Selections.{HasOneTree, added, common, has_number, ids_of, refs_in, tree_of}
use Rattle.dom_selection.proofs.SelectionLemmas.{one_tree_of}

abbrev pub is_among : List NodeRef → NodeRef → Bool
is_among others node = is_member node.id (ids_of others)

-- one more node is kept or not
pub keep_step : (p : NodeRef → Bool) (kept : List NodeRef) (node : NodeRef) (rest whole : List NodeRef) (passes : Bool) → passes ≡ p node
    → kept ++ filter p (node ∷ rest) ≡ whole → (kept ++ cond passes (node ∷ []) []) ++ filter p rest ≡ whole
keep_step p kept node rest whole passes is e = ap (λ t. (kept ++ cond t (node ∷ []) []) ++ filter p rest) is ∙ step (p node) ∙ e
  where
    step : (t : Bool) → (kept ++ cond t (node ∷ []) []) ++ filter p rest ≡ kept ++ cond t (node ∷ filter p rest) (filter p rest)
    step true = append_assoc kept (node ∷ []) (filter p rest)
    step false = ap (λ ns. ns ++ filter p rest) (append-nil kept)

-- at the end all are asked
pub kept_all : (p : NodeRef → Bool) (kept nodes whole : List NodeRef) (i : ℕ) → length nodes ≤ i → kept ++ filter p (drop i nodes) ≡ whole → kept ≡ whole
kept_all p kept nodes whole i past e = sym (append-nil kept) ∙ ap (λ ns. kept ++ filter p ns) (sym (drop_all i nodes past)) ∙ e

filter-refs_to : (p : NodeRef → Bool) (tree : Bor Forest) (ids : List ℕ) → filter p (refs_to tree ids) ≡ refs_to tree (filter (λ n. p (record { id = n; tree = tree })) ids)
filter-refs_to p tree [] = refl
filter-refs_to p tree (n ∷ ns) =
    elim (p (record { id = n; tree = tree })) as (λ t. cond t (record { id = n; tree = tree } ∷ filter p (refs_to tree ns)) (filter p (refs_to tree ns))
    ≡ refs_to tree (cond t (n ∷ filter (λ n. p (record { id = n; tree = tree })) ns) (filter (λ n. p (record { id = n; tree = tree })) ns))) [
      | true ↦ ap (λ refs. record { id = n; tree = tree } ∷ refs) (filter-refs_to p tree ns)
      | false ↦ filter-refs_to p tree ns
    ]

-- some of the nodes of one tree are of one tree
pub one_tree-filter : (p : NodeRef → Bool) (nodes : List NodeRef) → HasOneTree nodes → HasOneTree (filter p nodes)
one_tree-filter p [] one = tt
one_tree-filter p (node ∷ nodes) one = one_tree_of _ node.tree _ (ap (filter p) one ∙ filter-refs_to p node.tree (ids_of (node ∷ nodes)))

pub common_of : (nodes others : List NodeRef) → others ≢ [] → filter (is_among others) nodes ≡ common nodes others
common_of nodes [] some = absurd (some refl)
common_of nodes (other ∷ others) some = refl

pub add_step : (nodes all : List NodeRef) (tree : Bor Forest) (node : NodeRef) (id : ℕ) (rest : List ℕ) (whole : List NodeRef) (passes : Bool) → tree_of nodes ≡ Some tree
    → node ≡ record { id = id; tree = tree } → passes ≡ not (is_member id (ids_of nodes))
    → all ++ refs_in nodes (without (ids_of nodes) (id ∷ rest)) ≡ whole → (all ++ cond passes (node ∷ []) []) ++ refs_in nodes (without (ids_of nodes) rest) ≡ whole
add_step nodes all tree node id rest whole passes first is new e = ap (λ t. (all ++ cond t (node ∷ []) []) ++ refs_in nodes left) new ∙ step (is_member id (ids_of nodes)) ∙ e
  where
    left : List ℕ
    left = without (ids_of nodes) rest

    one : (ns : List NodeRef) (ms : List ℕ) → tree_of ns ≡ Some tree → node ∷ refs_in ns ms ≡ refs_in ns (id ∷ ms)
    one [] ms f = absurd (none-some tree f)
    one (n ∷ ns) ms f = ap (λ x. x ∷ refs_to n.tree ms) (is ∙ ap (λ (t : Bor Forest). record { id = id; tree = t }) (sym (same_Some n.tree tree f)))

    step : (t : Bool) → (all ++ cond (not t) (node ∷ []) []) ++ refs_in nodes left ≡ all ++ refs_in nodes (cond t left (id ∷ left))
    step true = ap (λ ns. ns ++ refs_in nodes left) (append-nil all)
    step false = append_assoc all (node ∷ []) (refs_in nodes left) ∙ ap (λ ns. all ++ ns) (one nodes left first)

refs_in-none : (nodes : List NodeRef) → refs_in nodes [] ≡ []
refs_in-none [] = refl
refs_in-none (node ∷ nodes) = refl

pub added_all : (nodes all others whole : List NodeRef) (i : ℕ) → length others ≤ i → all ++ refs_in nodes (without (ids_of nodes) (ids_of (drop i others))) ≡ whole → all ≡ whole
added_all nodes all others whole i past e =
    sym (append-nil all) ∙ ap (λ ns. all ++ ns) (sym (refs_in-none nodes)) ∙ ap (λ ns. all ++ refs_in nodes (without (ids_of nodes) (ids_of ns))) (sym (drop_all i others past)) ∙ e

pub added_of : (nodes others : List NodeRef) (tree : Bor Forest) → tree_of nodes ≡ Some tree → nodes ++ refs_in nodes (without (ids_of nodes) (ids_of others)) ≡ added nodes others
added_of [] others tree e = absurd (none-some tree e)
added_of (node ∷ nodes) others tree e = refl

pub refs-joined : (tree : Bor Forest) (ns ms : List ℕ) → refs_to tree ns ++ refs_to tree ms ≡ refs_to tree (ns ++ ms)
refs-joined tree [] ms = refl
refs-joined tree (n ∷ ns) ms = ap (λ refs. record { id = n; tree = tree } ∷ refs) (refs-joined tree ns ms)

pub one_tree-added : (nodes others : List NodeRef) → HasOneTree nodes → HasOneTree (nodes ++ refs_in nodes (without (ids_of nodes) (ids_of others)))
one_tree-added [] others one = tt
one_tree-added (node ∷ nodes) others one =
    let more = without (ids_of (node ∷ nodes)) (ids_of others) in
    one_tree_of _ node.tree (ids_of (node ∷ nodes) ++ more) (ap (λ ns. ns ++ refs_to node.tree more) one ∙ refs-joined node.tree (ids_of (node ∷ nodes)) more)

-- the same is asked of each
pub any_same : (others seen : List ℕ) (nodes : List NodeRef) → HaveSame others seen → list_any (λ (node : NodeRef). is_member node.id seen) nodes ≡ list_any (λ (node : NodeRef). is_member node.id others) nodes
any_same others seen [] same = refl
any_same others seen (node ∷ nodes) same =
    ap (λ t. t || list_any (λ (n : NodeRef). is_member n.id seen) nodes) (same node.id) ∙ ap (λ t. is_member node.id others || t) (any_same others seen nodes same)

-- a number is that of one of the nodes
pub any_id : (n : ℕ) (nodes : List NodeRef) → list_any (has_number n) nodes ≡ is_member n (ids_of nodes)
any_id n [] = refl
any_id n (node ∷ nodes) = ap (λ t. (node.id == n) || t) (any_id n nodes)
