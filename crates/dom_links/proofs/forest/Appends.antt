-- A node is made as the last child of another, or as the only one.
use Rattle.std.proofs.Common.{ℕ, zero, suc, ◌≡◌, ◌<◌, false, List, [], ◌∷◌, Some, None, refl, sym, ap, ◌∙◌, subst, arith, cond, inl, inr, length, map}
use Rattle.std.specs.Prelude.{◌==◌}
use Rattle.std.proofs.lemmas.Bool.{cases_Bool, eqb-true, ne_eqb, true≢false}
use Rattle.std.proofs.lemmas.List.{same_lists, get_or_default, length-map, length_push}
use Rattle.dom_nodes.specs.declared.node_data.NodeData.{NodeData}
use Rattle.dom_nodes.specs.Kinds.{contents_named}
use Rattle.dom_links.specs.Lists.{is_member, without, map_from}
use Rattle.dom_links.specs.Forest.{Forest, StandsOnce, IsArenaOf, children_of, run_of, parent, forest_of}
use Rattle.dom_links.specs.Moves.{detach}
use Rattle.dom_links.specs.Sound.{IsHostAncestor, IsParentOrHost, one_step, then_step, AtOrBelow, IsForest, MayPlace, contents_at}
use Rattle.dom_links.specs.Growth.{with_node, lone, MayAppend}
use Rattle.dom_links.proofs.forest.Neighbours.{without_one-none}
use Rattle.dom_links.proofs.forest.Places.{children_mapped, get_or-map_all, length-map_from}
use Rattle.dom_links.proofs.moves.Cuts.{one-stands}
use Rattle.dom_links.proofs.moves.Owners.{in_own_run}
use Rattle.dom_links.proofs.moves.Owners.{Alone}
use Rattle.dom_links.proofs.moves.Acyclicity.{further}
use Rattle.dom_links.proofs.forest.Climbs.{contents_at-known}
use Rattle.dom_links.proofs.forest.Grown.{slice_get-there, new_parentless, run-new, parent-more, contents-more, step-more, ways-more}
use Rattle.dom_links.proofs.forest.Depth.{parent_inside}

-- detaching a node that stands alone changes nothing
pub detach-alone : (forest : Forest) (x : ℕ) → StandsOnce forest → Alone forest x → detach (x ∷ []) forest ≡ forest
detach-alone forest x once lone =
    let no_child : (p : ℕ) → is_member x (children_of forest p) ≡ false = λ p. elim (cases_Bool (is_member x (children_of forest p))) [
      | inr f ↦ f
      | inl s ↦ (let up = (once.in_children p x s).1 in let none = lone.no_parent in cc)
    ] in
    let long : length (map (without (x ∷ [])) forest.children) ≡ length forest.children = length-map forest.children (without (x ∷ [])) in
    let children : map (without (x ∷ [])) forest.children ≡ forest.children = same_lists (map (without (x ∷ [])) forest.children) forest.children long
    (λ p d h. get_or_default (map (without (x ∷ [])) forest.children) p d [] h ∙ children_mapped (without (x ∷ [])) forest.children p refl
    ∙ without_one-none (children_of forest p) x (no_child p) ∙ get_or_default forest.children p [] d (omega (arith, long))) in
    let f : ℕ → List ℕ → List ℕ = λ n run. cond (is_member n (x ∷ [])) (x ∷ []) (without (x ∷ []) run) in
    let wide : length (map_from 0 f forest.runs) ≡ length forest.runs = length-map_from 0 f forest.runs in
    let runs : map_from 0 f forest.runs ≡ forest.runs = same_lists (map_from 0 f forest.runs) forest.runs wide
    (λ n d h. let here : n < length forest.runs = omega (arith, wide) in
    get_or_default (map_from 0 f forest.runs) n d [] h ∙ get_or-map_all f forest.runs n here ∙ run_kept n here
    ∙ get_or_default forest.runs n [] d here) in
    rw (children, runs) refl
  where
    run_kept : (n : ℕ) → n < length forest.runs → cond (is_member n (x ∷ [])) (x ∷ []) (without (x ∷ []) (run_of forest n)) ≡ run_of forest n
    run_kept n here = elim (cases_Bool (x == n)) [
      | inl t ↦ rw (one-stands x n, t) (sym lone.alone ∙ ap (run_of forest) (eqb-true x n t))
      | inr g ↦ rw (one-stands x n, g) (without_one-none (run_of forest n) x (elim (cases_Bool (is_member x (run_of forest n))) [
        | inr k ↦ k
        | inl s ↦ (let known : n < length forest.content = omega (arith, once.runs_each) in
            let whole : run_of forest n ≡ x ∷ [] = sym (once.in_run n x s).2 ∙ lone.alone in
            absurd (true≢false (sym (in_own_run forest n x once known s) ∙ ap (is_member n) whole ∙ one-stands x n ∙ g)))
      ]))
    ]

pub new_alone : (content : NodeData) (forest : Forest) → StandsOnce forest → Alone (with_node content forest) (length forest.content)
new_alone content forest once =
    let long = length_push forest.content content in
    record {
      known = omega arith;
      no_parent = parent-more content forest (length forest.content) ∙ new_parentless forest (length forest.content) once (omega arith);
      alone = run-new content forest (length forest.content) once refl;
    }

-- from the new node only its contents are reached, and what they reach
from_new : (content : NodeData) (forest : Forest) (t : ℕ) → IsForest forest → MayAppend forest t content → (m n : ℕ) → IsHostAncestor (with_node content forest) m n → m ≡ length forest.content →
    (c : ℕ) × (contents_named content ≡ Some c) × AtOrBelow forest c n
from_new content forest t good may _ _ (one_step m n (inl p)) new =
    let above : parent forest n ≡ Some m = sym (parent-more content forest n) ∙ p in
    let known = parent_inside forest n m good above in
    absurd (omega (arith, new))
from_new content forest t good may _ _ (one_step m n (inr held)) new = elim (contents-more content forest m n held) [
  | inl old ↦ (let known = contents_at-known forest m n old in absurd (omega (arith, new)))
  | inr named ↦ (n, named.1, inl refl)
]
from_new content forest t good may _ _ (then_step m k n way step) new =
    let so_far = from_new content forest t good may m k way new in
    let known : k < length forest.content = (ways-more content forest good may.free m k way).0 in
    elim (step-more content forest good may.free k n step).1 [
      | inl old ↦ (so_far.0, so_far.1, inr (further forest so_far.0 k n so_far.2 old))
      | inr is ↦ absurd (omega (arith, is))
    ]

-- the new node may be placed at the end of the children of t
pub may_place_new : (content : NodeData) (forest : Forest) (t : ℕ) → IsForest forest → MayAppend forest t content → MayPlace (with_node content forest) t (length forest.content)
may_place_new content forest t good may =
    let some = good.rooted in
    let known = may.target_known in
    let not_root : (length forest.content == 0) ≡ false = ne_eqb (length forest.content) 0 (λ e. absurd (omega arith)) in
    record {
      moves = rw (not_root, slice_get-there forest.content content (length forest.content) refl) may.no_top;
      apart = λ e. absurd (omega arith);
      free = λ way. (let found = from_new content forest t good may (length forest.content) t way refl in may.apart found.0 found.1 found.2);
    }

-- the forest of one node

pub empty_arena : IsArenaOf (forest_of []) []
unfolding forest_of
empty_arena = record {
  once = record {
    children_each = refl;
    runs_each = refl;
    placed = λ n h. absurd (omega arith);
    in_children = λ p n s. cc;
    in_run = λ m n s. cc;
    children_once = λ p. tt;
    run_once = λ n. tt;
    no_run = λ p n s. refl;
  };
  links = record {
    contents = refl;
    ids = λ n h. absurd (omega arith);
    parents = λ n h. absurd (omega arith);
    prevs = λ n h. absurd (omega arith);
    nexts = λ n h. absurd (omega arith);
    firsts = λ n h. absurd (omega arith);
    lasts = λ n h. absurd (omega arith);
  };
}

pub empty_forest : forest_of [] ≡ record { content = []; children = []; runs = [] }
unfolding forest_of
empty_forest = refl

pub lone_forest : (content : NodeData) → contents_named content ≡ None → StandsOnce (lone content) → IsForest (lone content)
lone_forest content none once = record {
  once = once;
  rooted = omega arith;
  alone = λ n h s. (let e : n ≡ 0 = omega (arith, h) in subst (λ (k : ℕ). (parent (lone content) k ≡ None) × (run_of (lone content) k ≡ k ∷ [])) (sym e) (refl, refl));
  parents_allow = λ p n some. cc;
  contents_known = λ n c e. absurd (no_contents n c e);
  contents_once = λ m n c e e'. absurd (no_contents m c e);
  acyclic = λ n way. no_way n n way;
}
  where
    no_contents : (n c : ℕ) → contents_at (lone content) n ≡ Some c → ⊥
    no_contents zero c e = cc
    no_contents (suc n) c e = cc

    no_step : (m n : ℕ) → IsParentOrHost (lone content) m n → ⊥
    no_step m n (inl up) = cc
    no_step m n (inr held) = no_contents m n held

    no_way : (m n : ℕ) → IsHostAncestor (lone content) m n → ⊥
    no_way _ _ (one_step m n step) = no_step m n step
    no_way _ _ (then_step m k n way step) = no_step k n step
