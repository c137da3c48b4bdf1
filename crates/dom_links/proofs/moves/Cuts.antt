-- Nodes are detached: what each list then is. What an arena's links name is known.
use Rattle.std.proofs.Common.{ℕ, ◌≡◌, ◌<◌, ◌≤◌, true, false, List, [], ◌∷◌, Option, Some, None, refl, sym, subst, ap, ◌∙◌, arith, cond, inl, inr, length}
use Rattle.std.specs.Prelude.{◌==◌, ◌||◌}
use Rattle.std.specs.Option.{IfSome}
use Rattle.std.proofs.lemmas.List.{length-map, get_or_past}
use Rattle.std.proofs.lemmas.Bool.{true≢false, eq-eqb, ne_eqb, eqb-true, cases_lt}
use Rattle.dom_nodes.specs.declared.node_data.TreeNode.{TreeNode}
use Rattle.dom_links.specs.Lists.{is_member, after, before, without}
use Rattle.dom_links.specs.Forest.{Forest, AreLinks, IsArenaOf, children_of, run_of, parent, siblings}
use Rattle.dom_links.specs.Moves.{detach}
use Rattle.dom_links.proofs.forest.Neighbours.{before-stands, after-stands}
use Rattle.dom_links.proofs.forest.Places.{siblings_child, Beside, beside, children_mapped, get_or-map_all, get_or-map_past, owner-without}

pub children-detach : (moved : List ℕ) (forest : Forest) (p : ℕ) → children_of (detach moved forest) p ≡ without moved (children_of forest p)
children-detach moved forest p = children_mapped (without moved) forest.children p refl

pub parent-detach : (moved : List ℕ) (forest : Forest) (n : ℕ) → parent (detach moved forest) n ≡ cond (is_member n moved) None (parent forest n)
parent-detach moved forest n = owner-without 0 moved forest.children n

pub run-detach : (moved : List ℕ) (forest : Forest) (n : ℕ) → n < length forest.runs →
    run_of (detach moved forest) n ≡ cond (is_member n moved) moved (without moved (run_of forest n))
run-detach moved forest n h = get_or-map_all (λ k run. cond (is_member k moved) moved (without moved run)) forest.runs n h

pub run-cut_past : (moved : List ℕ) (forest : Forest) (n : ℕ) → length forest.runs ≤ n → run_of (detach moved forest) n ≡ []
run-cut_past moved forest n h = get_or-map_past (λ k run. cond (is_member k moved) moved (without moved run)) forest.runs n h

pub one-stands : (x n : ℕ) → is_member n (x ∷ []) ≡ (x == n)
one-stands x n = elim (x == n) as (λ t. (t || false) ≡ t) [ true ↦ refl | false ↦ refl ]

pub one_here : (x : ℕ) → is_member x (x ∷ []) ≡ true
one_here x = one-stands x x ∙ eq-eqb x x refl

pub no_other : (t x : ℕ) → (x ≡ t → ⊥) → is_member t (x ∷ []) ≡ false
no_other t x ne = one-stands x t ∙ ne_eqb x t ne

pub only : (x n : ℕ) → is_member n (x ∷ []) ≡ true → x ≡ n
only x n s = eqb-true x n (sym (one-stands x n) ∙ s)

pub one_known : (forest : Forest) (x : ℕ) → x < length forest.content → (n : ℕ) → is_member n (x ∷ []) ≡ true → n < length forest.content
one_known forest x known n s = subst (λ (k : ℕ). k < length forest.content) (only x n s) known

pub length-contents : (forest : Forest) (nodes : List TreeNode) → AreLinks forest nodes → length nodes ≡ length forest.content
length-contents forest nodes links = sym (length-map nodes (λ node. node.content)) ∙ ap length links.contents

-- The links of an arena name nodes of the arena

pub if_some : (o : Option ℕ) (P : ℕ → Type 0) → ((m : ℕ) → o ≡ Some m → P m) → IfSome o P
if_some None P each = tt
if_some (Some m) P each = each m refl

pub parent_known : (forest : Forest) (nodes : List TreeNode) (n : ℕ) (o : Option ℕ) → IsArenaOf forest nodes → n < length nodes → o ≡ parent forest n → IfSome o (λ m. m < length nodes)
parent_known forest nodes n o arena h e =
    let long : length nodes ≡ length forest.content = length-contents forest nodes arena.links in
    let known : n < length forest.content = omega arith in
    if_some o (λ m. m < length nodes) (λ p some. elim (cases_lt p (length forest.children)) [
      | inl here ↦ omega (arith, arena.once.children_each)
      | inr past ↦ absurd (true≢false (sym (arena.once.placed n known) ∙ ap (is_member n) (siblings_child forest n p (sym e ∙ some) ∙ get_or_past forest.children p [] past)))
    ])

pub prev_known : (forest : Forest) (nodes : List TreeNode) (n : ℕ) (o : Option ℕ) → IsArenaOf forest nodes → n < length nodes → o ≡ before (siblings forest n) n → IfSome o (λ m. m < length nodes)
prev_known forest nodes n o arena h e =
    let long : length nodes ≡ length forest.content = length-contents forest nodes arena.links in
    if_some o (λ m. m < length nodes) (λ m some. let there : m < length forest.content = Beside.known (beside forest n m arena.once (before-stands (siblings forest n) n m (sym e ∙ some))) in omega arith)

pub next_known : (forest : Forest) (nodes : List TreeNode) (n : ℕ) (o : Option ℕ) → IsArenaOf forest nodes → n < length nodes → o ≡ after (siblings forest n) n → IfSome o (λ m. m < length nodes)
next_known forest nodes n o arena h e =
    let long : length nodes ≡ length forest.content = length-contents forest nodes arena.links in
    if_some o (λ m. m < length nodes) (λ m some. let there : m < length forest.content = Beside.known (beside forest n m arena.once (after-stands (siblings forest n) n m (sym e ∙ some))) in omega arith)
