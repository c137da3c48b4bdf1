-- Following an arena's links gives back the forest whose links it has.
use Rattle.std.proofs.Common.{ℕ, zero, suc, ◌≡◌, ◌<◌, ◌≤◌, ◌+◌, true, false, List, [], ◌∷◌, ◌++◌, Option, Some, None, refl, sym, ap, ◌∙◌, subst, arith, inl, inr, length, get_or, reverse, append_assoc, eqb}
use Rattle.std.specs.Prelude.{◌==◌}
use Rattle.std.specs.List.{list_any, IsDistinct as IsApart, AllByRecursion}
use Rattle.std.proofs.lemmas.List.{same_lists, get_or_default, reverse-reverse, length-reverse, length-append}
use Rattle.std.proofs.lemmas.Bool.{cases_Bool, true≢false, eq-eqb, ne_eqb, eqb-true, eqb-false, or_parts}
use Rattle.std.proofs.lemmas.Map.Steps.{length-le_from_distinct_below}
use Rattle.dom_nodes.specs.declared.node_data.TreeNode.{TreeNode}
use Rattle.dom_links.specs.Lists.{is_member, IsDistinct, first, after, before, map_from}
use Rattle.dom_links.specs.Forest.{Forest, IsArenaOf, children_of, parent, siblings, parent_link, prev_link, next_link, chain, children_in, row_in, run_under, forest_of}
use Rattle.dom_links.proofs.forest.Neighbours.{is_member-append, after_here, before_here, around, distinct_parts, reverse_around, distinct-reverse, is_member-reverse}
use Rattle.dom_links.proofs.forest.Places.{cases_Option, siblings_child, siblings_once, Beside, beside}
use Rattle.dom_links.proofs.moves.Cuts.{length-contents}

pub chain_empty : (link : ℕ → Option ℕ) (most : ℕ) → chain link most None ≡ []
chain_empty link zero = refl
chain_empty link (suc most) = refl

-- Numbers below n, of which none stands twice, are at most n

eqb_comm : (m n : ℕ) → (m == n) ≡ (n == m)
eqb_comm m n = elim (cases_Bool (m == n)) [
  | inl t ↦ t ∙ sym (eq-eqb n m (sym (eqb-true m n t)))
  | inr f ↦ f ∙ sym (ne_eqb n m (λ e. eqb-false m n f (sym e)))
]

any_stands : (n : ℕ) (ns : List ℕ) → list_any (eqb n) ns ≡ is_member n ns
any_stands n [] = refl
any_stands n (m ∷ ms) = rw (any_stands n ms, eqb_comm n m) refl

apart_from : (n : ℕ) (ns : List ℕ) → is_member n ns ≡ false → AllByRecursion (λ m. eqb n m ≡ false) ns
apart_from n [] h = tt
apart_from n (m ∷ ms) h =
    let two = or_parts (m == n) (is_member n ms) h in
    (eqb_comm n m ∙ two.0, apart_from n ms two.1)

apart : (ns : List ℕ) → IsDistinct ns → IsApart eqb ns
unfolding IsApart
apart [] d = tt
apart (n ∷ ns) d = (apart_from n ns d.0, apart ns d.1)

pub length_below : (ns : List ℕ) (n : ℕ) → IsDistinct ns → ((m : ℕ) → is_member m ns ≡ true → m < n) → length ns ≤ n
length_below ns n d below = length-le_from_distinct_below ns n (apart ns d) (λ q h. below q (sym (any_stands q ns) ∙ h))

-- a chain of links that go from each number of a list to the next goes through the rest of the list
pub chain_rest : (link : ℕ → Option ℕ) (front back : List ℕ) (most : ℕ) → IsDistinct (front ++ back) →
    ((n : ℕ) → is_member n (front ++ back) ≡ true → link n ≡ after (front ++ back) n) → length back ≤ most → chain link most (first back) ≡ back
chain_rest link front [] zero d linked h = refl
chain_rest link front [] (suc most) d linked h = refl
chain_rest link front (n ∷ back) zero d linked h = absurd (omega arith)
chain_rest link front (n ∷ back) (suc most) d linked h =
    let parts = distinct_parts front (n ∷ back) d in
    let here : (n == n) ≡ true = eq-eqb n n refl in
    let stands : is_member n (n ∷ back) ≡ true = rw here refl in
    let not_front : is_member n front ≡ false = elim (cases_Bool (is_member n front)) [ inl t ↦ absurd (true≢false (sym stands ∙ parts.2 n t)) | inr f ↦ f ] in
    let inside : is_member n (front ++ n ∷ back) ≡ true = is_member-append front (n ∷ back) n ∙ rw (not_front, here) refl in
    let next : link n ≡ first back = linked n inside ∙ after_here front back n not_front in
    let regroup : (front ++ n ∷ []) ++ back ≡ front ++ n ∷ back = append_assoc front (n ∷ []) back in
    rw next (ap (λ ns. n ∷ ns) (chain_rest link (front ++ n ∷ []) back most (rw regroup d) (rw regroup linked) (omega arith)))

pub chain_all : (link : ℕ → Option ℕ) (ns : List ℕ) (most : ℕ) → IsDistinct ns →
    ((n : ℕ) → is_member n ns ≡ true → link n ≡ after ns n) → ((n : ℕ) → is_member n ns ≡ true → n < most) → chain link most (first ns) ≡ ns
chain_all link ns most d linked below = chain_rest link [] ns most d linked (length_below ns most d below)

pub children_in-arena : (forest : Forest) (nodes : List TreeNode) (p : ℕ) → IsArenaOf forest nodes → p < length nodes → children_in nodes p ≡ children_of forest p
children_in-arena forest nodes p arena h =
    let long : length nodes ≡ length forest.content = length-contents forest nodes arena.links in
    rw (arena.links.firsts p h)
    (chain_all (next_link nodes) (children_of forest p) (length nodes) (arena.once.children_once p)
    (λ n s. let facts = arena.once.in_children p n s in
    let known : n < length forest.content = facts.0 in
    arena.links.nexts n (omega arith) ∙ ap (λ ns. after ns n) (siblings_child forest n p facts.1))
    (λ n s. let known : n < length forest.content = (arena.once.in_children p n s).0 in omega arith))

pub row_in-arena : (forest : Forest) (nodes : List TreeNode) (n : ℕ) → IsArenaOf forest nodes → n < length nodes → row_in nodes n ≡ siblings forest n
row_in-arena forest nodes n arena h =
    let long : length nodes ≡ length forest.content = length-contents forest nodes arena.links in
    let known : n < length forest.content = omega arith in
    let ns = siblings forest n in
    let once : IsDistinct ns = siblings_once forest n arena.once in
    let parts = around n ns once (arena.once.placed n known) in
    let below : (m : ℕ) → is_member m ns ≡ true → m < length nodes = λ m s. (let there : m < length forest.content = Beside.known (beside forest n m arena.once s) in omega arith) in
    let nexts : (m : ℕ) → is_member m ns ≡ true → next_link nodes m ≡ after ns m = λ m s. arena.links.nexts m (below m s) ∙ ap (λ ks. after ks m) (Beside.same_siblings (beside forest n m arena.once s)) in
    let prevs : (m : ℕ) → is_member m ns ≡ true → prev_link nodes m ≡ before ns m = λ m s. arena.links.prevs m (below m s) ∙ ap (λ ks. before ks m) (Beside.same_siblings (beside forest n m arena.once s)) in
    let short : length ns ≤ length nodes = length_below ns (length nodes) once below in
    let two : length ns ≡ length (parts.front ++ n ∷ parts.back) = ap length parts.is in
    let forward : chain (next_link nodes) (length nodes) (Some n) ≡ n ∷ parts.back =
    chain_rest (next_link nodes) parts.front (n ∷ parts.back) (length nodes) (subst IsDistinct parts.is once) (rw parts.is at nexts)
    (omega (arith, length-append parts.front (n ∷ parts.back))) in
    let around_back : reverse ns ≡ (reverse parts.back ++ n ∷ []) ++ reverse parts.front = ap reverse parts.is ∙ reverse_around parts.front parts.back n ∙ sym (append_assoc (reverse parts.back) (n ∷ []) (reverse parts.front)) in
    let prev : prev_link nodes n ≡ first (reverse parts.front) = prevs n (arena.once.placed n known) ∙ ap (λ ks. before ks n) parts.is ∙ before_here parts.front parts.back n parts.not_back in
    let turned : (m : ℕ) → is_member m (reverse ns) ≡ true → prev_link nodes m ≡ after (reverse ns) m = λ m s. prevs m (sym (is_member-reverse ns m) ∙ s) in
    let backward : chain (prev_link nodes) (length nodes) (prev_link nodes n) ≡ reverse parts.front =
    rw prev (chain_rest (prev_link nodes) (reverse parts.back ++ n ∷ []) (reverse parts.front) (length nodes)
    (subst IsDistinct around_back (distinct-reverse ns once)) (rw around_back at turned)
    (omega (arith, length-append parts.front (n ∷ parts.back), length-reverse parts.front))) in
    rw (backward, forward, reverse-reverse parts.front) (sym parts.is)

pub numbered : {X : Type 0} (i : ℕ) (f : ℕ → X → List ℕ) (xs : List X) (n : ℕ) → n < length xs → (g : ℕ → List ℕ) → ((k : ℕ) (x : X) → f k x ≡ g k) → get_or (map_from i f xs) n [] ≡ g (i + n)
numbered i f [] n h g e = absurd (omega arith)
numbered i f (x ∷ xs) zero h g e = e i x ∙ ap g (omega arith)
numbered i f (x ∷ xs) (suc n) h g e = numbered (i + 1) f xs n (omega arith) g e ∙ ap g (omega arith)

pub length-numbered : {X : Type 0} (i : ℕ) (f : ℕ → X → List ℕ) (xs : List X) → length (map_from i f xs) ≡ length xs
length-numbered i f [] = refl
length-numbered i f (x ∷ xs) = ap suc (length-numbered (i + 1) f xs)

numbered_is : (f : ℕ → TreeNode → List ℕ) (nodes : List TreeNode) (g : ℕ → List ℕ) (lists : List (List ℕ)) → ((k : ℕ) (node : TreeNode) → f k node ≡ g k) →
    length nodes ≡ length lists → ((n : ℕ) → n < length nodes → g n ≡ get_or lists n []) → map_from 0 f nodes ≡ lists
numbered_is f nodes g lists e long each =
    let long' = length-numbered 0 f nodes in
    same_lists (map_from 0 f nodes) lists (long' ∙ long)
    (λ k d h. (let here : k < length nodes = omega (arith, long') in let z : 0 + k ≡ k = omega arith in
    get_or_default (map_from 0 f nodes) k d [] h ∙ numbered 0 f nodes k here g e ∙ ap g z ∙ each k here ∙ get_or_default lists k [] d (omega arith)))

-- an arena has the links of one forest only, and following its links finds that one
pub forest_of-arena : (forest : Forest) (nodes : List TreeNode) → IsArenaOf forest nodes → forest_of nodes ≡ forest
unfolding forest_of
forest_of-arena forest nodes arena =
    let long : length nodes ≡ length forest.content = length-contents forest nodes arena.links in
    let children : map_from 0 (λ n node. children_in nodes n) nodes ≡ forest.children =
    numbered_is (λ n node. children_in nodes n) nodes (λ n. children_in nodes n) forest.children (λ k node. refl) (long ∙ sym arena.once.children_each)
    (λ n h. children_in-arena forest nodes n arena h) in
    let runs : map_from 0 (λ n node. run_under (parent_link nodes n) (row_in nodes n)) nodes ≡ forest.runs =
    numbered_is (λ n node. run_under (parent_link nodes n) (row_in nodes n)) nodes (λ n. run_under (parent_link nodes n) (row_in nodes n)) forest.runs (λ k node. refl) (long ∙ sym arena.once.runs_each)
    (λ n h. rw (arena.links.parents n h, row_in-arena forest nodes n arena h)
    (elim (cases_Option (parent forest n)) [
      | inl none ↦ rw none refl
      | inr (p, some) ↦ rw some (sym (arena.once.no_run p n some))
    ])) in
    rw (arena.links.contents, children, runs) refl
