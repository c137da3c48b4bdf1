-- Copies may go to a place among the nodes that stood there before: no way leads from them to those.
use Rattle.std.proofs.Common.{ℕ, zero, suc, ◌≡◌, ◌<◌, ◌≤◌, ◌+◌, true, false, List, [], ◌∷◌, ◌++◌, Option, Some, None, refl, sym, ap, ◌∙◌, subst, arith, inl, inr, length}
use Rattle.std.specs.Prelude.{◌==◌, ◌||◌, not, slice_get}
use Rattle.std.specs.Option.{option_and_then, option_map, option_map_or}
use Rattle.std.proofs.lemmas.Bool.{cases_Bool, cases_lt, eq-eqb, eqb-true, ne_eqb, true≢false}
use Rattle.std.proofs.lemmas.List.{length_push}
use Rattle.std.proofs.lemmas.Option.{slice_get_past}
use Rattle.dom_nodes.specs.declared.node_data.NodeData.{NodeData}
use Rattle.dom_nodes.specs.declared.node_data.TreeNode.{TreeNode}
use Rattle.dom_nodes.specs.Kinds.{contents_named, is_top, children_allowed}
use Rattle.dom_links.specs.Copies.{Extends, MayCopy, copied, copied_data, copy_numbers, data_at, root_numbers, node_count, with_copies, with_node_below}
use Rattle.dom_links.specs.CopiedTrees.{HoldCopies}
use Rattle.dom_links.specs.Forest.{Forest, StandsOnce, forest_of, parent}
use Rattle.dom_links.specs.Insertions.{Place, after_it, around_it, at_end, at_front, before_it, gap_at, instead_of_children, instead_of_node}
use Rattle.dom_links.specs.ListMoves.{AllowedList, AreNodes}
use Rattle.dom_links.specs.Lists.{IsDistinct, is_member}
use Rattle.dom_links.specs.Moves.{InsertionPoint, after_node, before_node, end_of, front_of}
use Rattle.dom_links.specs.Sound.{IsForest, IsSoundArena, IsHostAncestor, IsParentOrHost, contents_at, is_open, one_step, stays, target, then_step}
use Rattle.dom_links.specs.Trees.{NoTrees, Tree, Trees, trees, trees_to}
use Rattle.dom_links.proofs.copies.Copied.{all_copies_keep, parent_kept, node_count-below}
use Rattle.dom_links.proofs.copies.CopiedForests.{all_may, content-below, names-copied, test_at, top-copied}
use Rattle.dom_links.proofs.copies.CopiedTrees.{are_copies}
use Rattle.dom_links.proofs.forest.Depth.{parent_inside}
use Rattle.dom_links.proofs.forest.Grown.{slice_get-before, slice_get-there}
use Rattle.dom_links.proofs.forest.Places.{cases_Option}

-- ---- the numbers of copies

roots_inside : (k : ℕ) (ts : Trees) (m : ℕ) → is_member m (root_numbers k ts) ≡ true → (k ≤ m) × (m < k + node_count ts)
roots_inside k NoTrees m s = cc
roots_inside k (Tree n contents children later) m s = elim (cases_Bool (k == m)) [
  | inl t ↦ (let is : k ≡ m = eqb-true k m t in (omega (arith, is), omega (arith, is)))
  | inr f ↦ (let rest = roots_inside (k + node_count (Tree n contents children NoTrees)) later m (rw f at s) in
      let low = rest.0 in
      let high = rest.1 in
      (omega (arith, low), omega (arith, high)))
]

roots_once : (k : ℕ) (ts : Trees) → IsDistinct (root_numbers k ts)
roots_once k NoTrees = tt
roots_once k (Tree n contents children later) = (
  elim (cases_Bool (is_member k (root_numbers (k + node_count (Tree n contents children NoTrees)) later))) [
    | inr f ↦ f
    | inl t ↦ (let low = (roots_inside (k + node_count (Tree n contents children NoTrees)) later k t).0 in absurd (omega (arith, low)))
  ],
  roots_once (k + node_count (Tree n contents children NoTrees)) later,
)

-- ---- ways from new nodes

-- the contents that new nodes name are new
abbrev HoldNew : ℕ → Forest → Type 0
HoldNew base forest = (k c : ℕ) → base ≤ k → contents_at forest k ≡ Some c → base ≤ c

named_next : (k c : ℕ) (content : NodeData) → contents_named (copied_data k content) ≡ Some c → c ≡ k + 1
named_next k c content e = elim (cases_Option (contents_named content)) [
  | inl none ↦ (let no = sym (names-copied k content ∙ ap (option_map (λ _. k + 1)) none) ∙ e in cc)
  | inr (d, some) ↦ (let yes : Some (k + 1) ≡ Some c = sym (names-copied k content ∙ ap (option_map (λ _. k + 1)) some) ∙ e in cc)
]

new-below : (base : ℕ) (p : Option ℕ) (content : NodeData) (forest : Forest) → base ≤ length forest.content → HoldNew base forest → HoldNew base (with_node_below p (copied_data (length forest.content) content) forest)
new-below base p content forest few new k c far e =
    let data' = copied_data (length forest.content) content in
    let e' : option_and_then contents_named (slice_get (forest.content ++ data' ∷ []) k) ≡ Some c = ap (λ xs. option_and_then contents_named (slice_get xs k)) (sym (content-below p data' forest)) ∙ e in
    let long = length_push forest.content data' in
    elim (cases_lt k (length forest.content)) [
      | inl here ↦ new k c far (ap (option_and_then contents_named) (sym (slice_get-before forest.content data' k here)) ∙ e')
      | inr past ↦ (elim (cases_Bool (k == length forest.content)) [
        | inl t ↦ (let is : k ≡ length forest.content = eqb-true k (length forest.content) t in
            let named : contents_named data' ≡ Some c = ap (option_and_then contents_named) (sym (slice_get-there forest.content data' k is)) ∙ e' in
            let next = named_next (length forest.content) c content named in
            omega (arith, next))
        | inr f ↦ (let ne : k ≡ length forest.content → ⊥ = λ is. true≢false (sym (eq-eqb k (length forest.content) is) ∙ f) in
            let none = ap (option_and_then contents_named) (sym (slice_get_past (forest.content ++ data' ∷ []) k (omega (arith, ne, long)))) ∙ e' in
            cc)
      ])
    ]

new-copies : (source : Forest) (base : ℕ) (p : Option ℕ) (ts : Trees) (forest : Forest) → base ≤ length forest.content → HoldNew base forest → HoldNew base (with_copies source p ts forest)
new-copies source base p ts forest few new = (all_copies_keep source (λ f. (base ≤ length f.content) × HoldNew base f)
    (λ q content f kept. (omega (arith, kept.0, node_count-below q (copied_data (length f.content) content) f), new-below base q content f kept.0 kept.1))
    p ts forest (few, new)).1

none_past : (forest : Forest) → HoldNew (length forest.content) forest
none_past forest k c far e = let none = ap (option_and_then contents_named) (sym (slice_get_past forest.content k far)) ∙ e in cc

step_on : (old new : Forest) → IsForest old → StandsOnce new → Extends old new → HoldNew (length old.content) new → (m n : ℕ) → IsParentOrHost new m n → length old.content ≤ m → length old.content ≤ n
step_on old new good once kept held m n (inr c) far = held m n far c
step_on old new good once kept held m n (inl up) far = elim (cases_lt n (length old.content)) [
  | inr past ↦ past
  | inl here ↦ (let above : parent old n ≡ Some m = sym (parent_kept old new n good once kept here) ∙ up in
      let inside = parent_inside old n m good above in
      absurd (omega (arith, inside)))
]

way_on : (old new : Forest) → IsForest old → StandsOnce new → Extends old new → HoldNew (length old.content) new → (m n : ℕ) → IsHostAncestor new m n → length old.content ≤ m → length old.content ≤ n
way_on old new good once kept held _ _ (one_step m n step) far = step_on old new good once kept held m n step far
way_on old new good once kept held _ _ (then_step m k n way step) far = step_on old new good once kept held k n step (way_on old new good once kept held m k way far)

-- ---- copies are no documents or fragments

abbrev RootsMove : Forest → Trees → Type 0
RootsMove source NoTrees = Unit {0}
RootsMove source (Tree n contents children later) = (is_top (data_at source n) ≡ false) × RootsMove source later

roots_move : (source : Forest) (most : ℕ) (ns : List ℕ) → MayCopy source ns → RootsMove source (trees_to source most ns)
roots_move source most [] may = tt
roots_move source zero (n ∷ ns) may = tt
roots_move source (suc most) (n ∷ ns) may = (sym (test_at is_top source n may.0.known) ∙ may.0.no_top, roots_move source (suc most) ns may.1)

trees_move : (source : Forest) (ns : List ℕ) → MayCopy source ns → RootsMove source (trees source ns)
unfolding trees
trees_move source ns may = roots_move source (length source.content) ns may

copies_move : (source forest : Forest) (k : ℕ) (ts : Trees) (m : ℕ) → HoldCopies source ts k forest → RootsMove source ts → 0 < k → is_member m (root_numbers k ts) ≡ true → stays forest m ≡ false
copies_move source forest k NoTrees m held moves some s = cc
copies_move source forest k (Tree n contents children later) m held moves some s = elim (cases_Bool (k == m)) [
  | inl t ↦ (let is : k ≡ m = eqb-true k m t in
      let off : (k == 0) ≡ false = ne_eqb k 0 (λ e. absurd (omega (arith, e))) in
      let here : option_map_or is_top (slice_get forest.content k) false ≡ false = ap (λ o. option_map_or is_top o false) held.1 ∙ top-copied k (data_at source n) ∙ moves.0 in
      subst (λ (j : ℕ). stays forest j ≡ false) is (rw off here))
  | inr f ↦ copies_move source forest (k + node_count (Tree n contents children NoTrees)) later m held.4 moves.1 (omega arith) (rw f at s)
]

-- ---- the whole

-- what stands open stays so
still_open : (old new : Forest) (gap : InsertionPoint) → Extends old new → target gap < length old.content → is_open gap old ≡ true → is_open gap new ≡ true
still_open old new (end_of t) kept known h = ap (λ o. option_map_or children_allowed o false) (kept.contents t known) ∙ h
still_open old new (front_of t) kept known h = ap (λ o. option_map_or children_allowed o false) (kept.contents t known) ∙ h
still_open old new (before_node t) kept known h = ap (λ o. not ((t == 0) || option_map_or is_top o false)) (kept.contents t known) ∙ h
still_open old new (after_node t) kept known h = ap (λ o. not ((t == 0) || option_map_or is_top o false)) (kept.contents t known) ∙ h

-- copies, at a gap among the nodes that stood there before
pub record AreFresh (source : Forest) (ns : List ℕ) (forest : Forest) (gap : InsertionPoint) : Type 0 where
  pub are : AreNodes (copied source ns forest) (copy_numbers source ns forest)
  pub allowed : AllowedList (copied source ns forest) gap (copy_numbers source ns forest)

pub are_fresh : (source : Forest) (ns : List ℕ) (forest : Forest) (gap : InsertionPoint) → IsForest source → IsForest forest → MayCopy source ns → target gap < length forest.content → is_open gap forest ≡ true → AreFresh source ns forest gap
are_fresh source ns forest gap good fine may known open_here =
    let whole = copied source ns forest in
    let base = length forest.content in
    let copies = are_copies source ns forest good fine (all_may source ns may) in
    let many = copies.many in
    let held = new-copies source base None (trees source ns) forest (omega arith) (none_past forest) in
    let some = fine.rooted in
    record {
      are = record {
        once = roots_once base (trees source ns);
        known = λ n s. (let high = (roots_inside base (trees source ns) n s).1 in omega (arith, high, many));
      };
      allowed = record {
        target_known = omega (arith, known, many);
        open_here = still_open forest whole gap copies.kept known open_here;
        may = λ n s. (let low = (roots_inside base (trees source ns) n s).0 in
            record {
              moves = copies_move source whole base (trees source ns) n copies.same_data (trees_move source ns may) some s;
              apart = λ e. absurd (omega (arith, e, low, known));
              free = λ way. (let far = way_on forest whole fine copies.fine.once copies.kept held n (target gap) way low in absurd (omega (arith, far, known)));
            });
      };
    }

target_at : (place : Place) (x : ℕ) → target (gap_at place x) ≡ x
target_at at_end x = refl
target_at at_front x = refl
target_at before_it x = refl
target_at after_it x = refl
target_at instead_of_children x = refl
target_at instead_of_node x = refl
target_at around_it x = refl

-- the same of the nodes of an arena
pub fresh_here : (source : Forest) (ns : List ℕ) (old middle : List TreeNode) (place : Place) (x : ℕ) (made : List ℕ) → IsForest source → IsSoundArena old → MayCopy source ns → x < length (forest_of old).content → is_open (gap_at place x) (forest_of old) ≡ true →
    forest_of middle ≡ copied source ns (forest_of old) → made ≡ copy_numbers source ns (forest_of old) → AreNodes (forest_of middle) made × AllowedList (forest_of middle) (gap_at place x) made
fresh_here source ns old middle place x made good sound may known open_here is numbers =
    let forest = forest_of old in
    let at_gap : target (gap_at place x) < length forest.content = subst (λ (t : ℕ). t < length forest.content) (sym (target_at place x)) known in
    let fresh = are_fresh source ns forest (gap_at place x) good sound.forest may at_gap open_here in
    rw (is, numbers) (fresh.are, fresh.allowed)
