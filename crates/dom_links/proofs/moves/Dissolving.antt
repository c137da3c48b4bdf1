-- A node is replaced by its children.
use Rattle.std.proofs.Common.{ℕ, ◌≡◌, ◌<◌, true, false, List, [], ◌∷◌, ◌++◌, Some, refl, sym, ap, ◌∙◌, subst, arith, inl, inr, length, append-nil}
use Rattle.std.specs.Prelude.{◌==◌, if◌then◌else◌}
use Rattle.std.proofs.lemmas.Bool.{cases_Bool, cases_lt, eqb-true, eq-eqb, ne_eqb, or_parts, true≢false}
use Rattle.std.proofs.lemmas.List.{get_or_past}
use Rattle.dom_nodes.specs.declared.node_data.TreeNode.{TreeNode}
use Rattle.dom_links.specs.Lists.{is_member, IsDistinct, without, put_before}
use Rattle.dom_links.specs.Forest.{Forest, IsArenaOf, children_of, forest_of, parent}
use Rattle.dom_links.specs.ListMoves.{AllowedList, MovedList}
use Rattle.dom_links.specs.Moves.{before_node, children_with, detach, moved_to}
use Rattle.dom_links.specs.Sound.{IsForest, IsSoundArena, Removed, one_step, then_step, stays}
use Rattle.dom_links.specs.Stripped.{dissolved}
use Rattle.dom_links.specs.Trees.{Trees, NoTrees, Tree, trees, walk, descendants_in_order}
use Rattle.dom_links.proofs.moves.BlockKept.{children_are, children_move, forest-moved_list}
use Rattle.dom_links.proofs.moves.BlockLists.{without_none}
use Rattle.dom_links.proofs.moves.Cuts.{children-detach, length-contents, one-stands}
use Rattle.dom_links.proofs.forest.Depth.{trees-none, trees-some, step_inside, later_stands, here_stands}
use Rattle.dom_links.proofs.moves.Kept.{forest-detach}
use Rattle.dom_links.proofs.forest.Neighbours.{without-append, without_one-none}
use Rattle.dom_links.proofs.forest.Places.{get_or-map_all, length-map_from}
use Rattle.dom_links.proofs.walks.Suffixes.{walk-append}
use Rattle.dom_links.proofs.moves.TwoSteps.{wrapper_apart}

-- the list with others in the place of p
pub spliced : ℕ → List ℕ → List ℕ → List ℕ
spliced p cs [] = []
spliced p cs (n ∷ ns) = if n == p then cs ++ spliced p cs ns else n ∷ spliced p cs ns

spliced_none : (p : ℕ) (cs ns : List ℕ) → is_member p ns ≡ false → spliced p cs ns ≡ ns
unfolding spliced
spliced_none p cs [] out = refl
spliced_none p cs (n ∷ ns) out = let two = or_parts (n == p) (is_member p ns) out in rw two.0 (ap (λ ms. n ∷ ms) (spliced_none p cs ns two.1))

-- put before p, which is then taken out
put_and_out : (p : ℕ) (cs ns : List ℕ) → IsDistinct ns → is_member p cs ≡ false → without (p ∷ []) (put_before p cs ns) ≡ spliced p cs ns
unfolding spliced
put_and_out p cs [] once out = refl
put_and_out p cs (n ∷ ns) once out = elim (cases_Bool (n == p)) [
  | inl t ↦ (let is : n ≡ p = eqb-true n p t in
      let behind : is_member p ns ≡ false = ap (λ k. is_member k ns) (sym is) ∙ once.0 in
      let here : is_member n (p ∷ []) ≡ true = one-stands p n ∙ eq-eqb p n (sym is) in
      let left : without (p ∷ []) (n ∷ ns) ≡ ns = rw here (without_one-none ns p behind) in
      rw t (without-append (p ∷ []) cs (n ∷ ns) ∙ ap (λ ms. ms ++ without (p ∷ []) (n ∷ ns)) (without_one-none cs p out) ∙ ap (λ ms. cs ++ ms) (left ∙ sym (spliced_none p cs ns behind))))
  | inr f ↦ (let off : is_member n (p ∷ []) ≡ false = one-stands p n ∙ ne_eqb p n (λ e. true≢false (sym (eq-eqb n p (sym e)) ∙ f)) in
      rw (f, off) (ap (λ ms. n ∷ ms) (put_and_out p cs ns once.1 out)))
]

children_put : (forest : Forest) (p q : ℕ) (cs : List ℕ) → children_of (moved_to cs (before_node p) forest) q ≡ put_before p cs (without cs (children_of forest q))
children_put forest p q cs = elim (cases_lt q (length (detach cs forest).children)) [
  | inl h ↦ get_or-map_all (children_with (before_node p) cs) (detach cs forest).children q h ∙ ap (put_before p cs) (children-detach cs forest q)
  | inr past ↦ (let none : children_of (detach cs forest) q ≡ [] = get_or_past (detach cs forest).children q [] past in
      let long = length-map_from 0 (children_with (before_node p) cs) (detach cs forest).children in
      get_or_past ((moved_to cs (before_node p) forest).children) q [] (omega (arith, long)) ∙ sym (ap (put_before p cs) (sym (children-detach cs forest q) ∙ none)))
]

-- where p is replaced by its children, the children of each other node have them in its place
pub children_dissolved : (forest : Forest) (p q : ℕ) → IsForest forest → (q ≡ p → ⊥) → children_of (dissolved p forest) q ≡ spliced p (children_of forest p) (children_of forest q)
children_dissolved forest p q good ne =
    let cs = children_of forest p in
    let apart : without cs (children_of forest q) ≡ children_of forest q = without_none cs (children_of forest q) (λ n s. elim (cases_Bool (is_member n cs)) [
      | inr f ↦ f
      | inl t ↦ (let one = (good.once.in_children p n t).1 in let other = (good.once.in_children q n s).1 in let same : q ≡ p = cc in absurd (ne same))
    ]) in
    children-detach (p ∷ []) (moved_to cs (before_node p) forest) q ∙ ap (without (p ∷ [])) (children_put forest p q cs ∙ ap (put_before p cs) apart)
    ∙ put_and_out p cs (children_of forest q) (good.once.children_once q) (wrapper_apart forest p good)

-- children may be put before a node that has a parent
pub children_beside : (forest : Forest) (p q : ℕ) → IsForest forest → parent forest p ≡ Some q → AllowedList forest (before_node p) (children_of forest p)
children_beside forest p q good up =
    let known = step_inside forest q p good (inl up) in
    record {
      target_known = known;
      open_here = elim (cases_Bool (stays forest p)) [
        | inr f ↦ rw f refl
        | inl t ↦ (let none = (good.alone p known t).0 in cc)
      ];
      may = λ k s. (let above = (good.once.in_children p k s).1 in
          record {
            moves = children_move forest p good k s;
            apart = λ e. good.acyclic p (one_step p p (inl (ap (parent forest) (sym e) ∙ above)));
            free = λ way. good.acyclic k (then_step k p k way (inl above));
          });
    }

pub forest-dissolved : (forest : Forest) (p q : ℕ) → IsForest forest → parent forest p ≡ Some q → IsForest (dissolved p forest)
forest-dissolved forest p q good up =
    let moved = forest-moved_list forest (before_node p) (children_of forest p) good (children_are forest p good.once) (children_beside forest p q good up) in
    forest-detach (moved_to (children_of forest p) (before_node p) forest) p moved (step_inside forest q p good (inl up))

-- the walk of a node and of others
pub walk-cons : (forest : Forest) (n : ℕ) (ns : List ℕ) → IsForest forest → n < length forest.content → walk (trees forest (n ∷ ns)) ≡ n ∷ (descendants_in_order forest n ++ walk (trees forest ns))
walk-cons forest n ns good known =
    let one = trees-some forest n [] good (λ m s. elim (cases_Bool (n == m)) [
      | inl t ↦ subst (λ (k : ℕ). k < length forest.content) (eqb-true n m t) known
      | inr f ↦ (let no = rw f at s in cc)
    ]) in
    let none : walk (trees forest []) ≡ [] = ap walk (trees-none forest) in
    walk-append forest (n ∷ []) ns ∙ ap (λ ms. ms ++ walk (trees forest ns)) (ap walk one ∙ ap (λ ms. n ∷ (descendants_in_order forest n ++ ms)) none)
    ∙ ap (λ ms. n ∷ ms ++ walk (trees forest ns)) (append-nil (descendants_in_order forest n))

module _ (forest : Forest) (p q : ℕ) (good : IsForest forest) (up : parent forest p ≡ Some q) where
  abbrev cs : List ℕ
  cs = children_of forest p

  abbrev after : Forest
  after = dissolved p forest

  walks : (t : Trees) (ns : List ℕ) → t ≡ trees forest ns → ((n : ℕ) → is_member n ns ≡ true → n < length forest.content) → walk (trees after (spliced p cs ns)) ≡ without (p ∷ []) (walk (trees forest ns))
  unfolding spliced
  walks t [] e known = ap walk (trees-none after) ∙ sym (ap (λ ts. without (p ∷ []) (walk ts)) (trees-none forest))
  walks NoTrees (n ∷ ns) e known = (let no = e ∙ trees-some forest n ns good known in cc)
  walks (Tree r c k l) (n ∷ ns) e known =
      let same = e ∙ trees-some forest n ns good known in
      let kids : k ≡ trees forest (children_of forest n) = cc in
      let rest : l ≡ trees forest ns = cc in
      let below = walks k (children_of forest n) kids (λ m s. step_inside forest n m good (inl (good.once.in_children n m s).1)) in
      let others = walks l ns rest (λ m s. known m (later_stands n m ns s)) in
      let inner = descendants_in_order forest n in
      let outer = walk (trees forest ns) in
      let here : walk (trees forest (n ∷ ns)) ≡ n ∷ (inner ++ outer) = ap walk (trees-some forest n ns good known) in
      elim (cases_Bool (n == p)) [
        | inl t ↦ (let is : n ≡ p = eqb-true n p t in
            let gone : is_member n (p ∷ []) ≡ true = one-stands p n ∙ eq-eqb p n (sym is) in
            let left : without (p ∷ []) (walk (trees forest (n ∷ ns))) ≡ without (p ∷ []) inner ++ without (p ∷ []) outer = ap (without (p ∷ [])) here ∙ rw gone (without-append (p ∷ []) inner outer) in
            let whole : spliced p cs (children_of forest n) ≡ cs = ap (λ m. spliced p cs (children_of forest m)) is ∙ spliced_none p cs cs (wrapper_apart forest p good) in
            let front : walk (trees after cs) ≡ without (p ∷ []) inner = ap (λ ms. walk (trees after ms)) (sym whole) ∙ below in
            rw t (walk-append after cs (spliced p cs ns) ∙ ap (λ ms. ms ++ walk (trees after (spliced p cs ns))) front ∙ ap (λ ms. without (p ∷ []) inner ++ ms) others ∙ sym left))
        | inr f ↦ (let ne : n ≡ p → ⊥ = λ is. true≢false (sym (eq-eqb n p is) ∙ f) in
            let stays_in : is_member n (p ∷ []) ≡ false = one-stands p n ∙ ne_eqb p n (λ is. ne (sym is)) in
            let left : without (p ∷ []) (walk (trees forest (n ∷ ns))) ≡ n ∷ (without (p ∷ []) inner ++ without (p ∷ []) outer) = ap (without (p ∷ [])) here ∙ rw stays_in (ap (λ ms. n ∷ ms) (without-append (p ∷ []) inner outer)) in
            let front : descendants_in_order after n ≡ without (p ∷ []) inner = ap (λ ms. walk (trees after ms)) (children_dissolved forest p n good ne) ∙ below in
            rw f (walk-cons after n (spliced p cs ns) (forest-dissolved forest p q good up) (known n (here_stands n ns))
            ∙ ap (λ ms. n ∷ (ms ++ walk (trees after (spliced p cs ns)))) front ∙ ap (λ ms. n ∷ (without (p ∷ []) inner ++ ms)) others ∙ sym left))
      ]

  pub walk_dissolved : (x : ℕ) → (x ≡ p → ⊥) → descendants_in_order after x ≡ without (p ∷ []) (descendants_in_order forest x)
  walk_dissolved x ne =
      ap (λ ms. walk (trees after ms)) (children_dissolved forest p x good ne)
      ∙ walks (trees forest (children_of forest x)) (children_of forest x) refl (λ m s. step_inside forest x m good (inl (good.once.in_children x m s).1))

-- the same of the nodes of an arena

pub known_in : (nodes : List TreeNode) (p q : ℕ) → IsSoundArena nodes → parent (forest_of nodes) p ≡ Some q → p < length nodes
known_in nodes p q sound up =
    let long = length-contents (forest_of nodes) nodes sound.arena.links in
    let inside = step_inside (forest_of nodes) q p sound.forest (inl up) in
    omega arith

-- an arena of as many nodes, linked as a forest's
pub still_sound : (old new : List TreeNode) → IsSoundArena old → IsArenaOf (forest_of new) new → IsForest (forest_of new) → length (forest_of new).content ≡ length (forest_of old).content → IsSoundArena new
still_sound old new sound linked good same =
    let long = length-contents (forest_of old) old sound.arena.links in
    let now = length-contents (forest_of new) new linked.links in
    record { arena = linked; forest = good; numbered = omega (arith, long, now, same, sound.numbered) }

pub record Dissolves (old new : List TreeNode) (p : ℕ) : Type 0 where
  pub made : forest_of new ≡ dissolved p (forest_of old)
  pub sound : IsSoundArena new

pub dissolves : (old middle new : List TreeNode) (p q : ℕ) → IsSoundArena old → parent (forest_of old) p ≡ Some q → MovedList old middle (before_node p) (children_of (forest_of old) p) → Removed middle new p → Dissolves old new p
dissolves old middle new p q sound up moved removed =
    let made : forest_of new ≡ dissolved p (forest_of old) = removed.made ∙ ap (detach (p ∷ [])) moved.made in
    let good = removed.kept tt (moved.kept (children_beside (forest_of old) p q sound.forest up) sound.forest) in
    record { made = made; sound = still_sound old new sound removed.linked good (ap (λ (forest : Forest). length forest.content) made) }

pub moved_known : (old middle : List TreeNode) (p q : ℕ) → IsSoundArena old → parent (forest_of old) p ≡ Some q → MovedList old middle (before_node p) (children_of (forest_of old) p) → p < length middle
moved_known old middle p q sound up moved =
    let long = length-contents (forest_of old) old sound.arena.links in
    let now = length-contents (forest_of middle) middle moved.linked.links in
    let same = ap (λ (forest : Forest). length forest.content) moved.made in
    let inside = step_inside (forest_of old) q p sound.forest (inl up) in
    omega (arith, long, now, same, inside)
