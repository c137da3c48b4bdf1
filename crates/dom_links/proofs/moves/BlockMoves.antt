-- The steps of the moves of a node and its later siblings, each over plain variables.
use Rattle.std.proofs.Common.{ℕ, ◌≡◌, ◌<◌, true, false, List, [], ◌∷◌, ◌++◌, Option, Some, None, refl, sym, ap, ◌∙◌, subst, arith, cond, length}
use Rattle.std.specs.Prelude.{◌==◌}
use Rattle.std.specs.Option.{IfSome}
use Rattle.std.proofs.lemmas.Bool.{eq-eqb, eqb-true, or_parts}
use Rattle.dom_nodes.specs.declared.node_data.TreeNode.{TreeNode}
use Rattle.dom_links.specs.declared.gap.MovedNodes.{MovedNodes}
use Rattle.dom_links.specs.declared.gap.MovedNodes.TheVariants.{Node, WithLater, WholeList}
use Rattle.dom_links.specs.Lists.{is_member, first, last, after, before, names}
use Rattle.dom_links.specs.Forest.{Forest, StandsOnce, IsArenaOf, forest_of, children_of, parent, run_of, siblings, next_link}
use Rattle.dom_links.specs.Moves.{InsertionPoint, end_of, front_of, before_node, after_node, put, detach, owner_at, before_gap, after_gap, StartsRun}
use Rattle.dom_links.specs.Sound.{MayPlace, Moved, target}
use Rattle.dom_links.specs.Walk.{rest_after}
use Rattle.dom_links.specs.Writes.{Joined}
use Rattle.dom_links.specs.ListMoves.{with_later, moved_nodes, moving_id, Moves, MovedList}
use Rattle.dom_links.specs.ListWrites.{NextsKnown, ParentsSet, RunAttached, next_chain}
use Rattle.dom_links.proofs.forest.Neighbours.{around, before_here, after_here, last-append, first-stands, first_rest}
use Rattle.dom_links.proofs.forest.Places.{siblings_child, siblings_once, Beside, beside}
use Rattle.dom_links.proofs.moves.Cuts.{length-contents, one-stands, parent_known, prev_known, next_known}
use Rattle.dom_links.proofs.moves.Attach.{first_known, last_known}
use Rattle.dom_links.proofs.forest.Chains.{forest_of-arena}
use Rattle.dom_links.proofs.moves.BlockCuts.{AreNodes, one_node, IsTail, TailFacts, tail_facts, arena-cut_list}
use Rattle.dom_links.proofs.moves.BlockFills.{AreAlone, arena-put}
use Rattle.dom_links.proofs.moves.BlockGaps.{put-end_of, put-front_of, put-before, put-after}
use Rattle.dom_links.proofs.moves.BlockKept.{alone-cut_list, list_moved}

pub rest_here : (front back : List ℕ) (x : ℕ) → is_member x front ≡ false → rest_after (front ++ x ∷ back) x ≡ back
rest_here [] back x h = rw (eq-eqb x x refl) refl
rest_here (n ∷ front) back x h =
    let two = or_parts (n == x) (is_member x front) h in
    let off : (n == x) ≡ false = two.0 in
    rw off (rest_here front back x two.1)

-- a node and its later siblings are the end of their list
pub record Tailed (forest : Forest) (x : ℕ) : Type 0 where
  pub front : List ℕ
  pub tail : IsTail forest x front (with_later forest x)
  pub left_is : before (siblings forest x) x ≡ last front

pub tailed : (forest : Forest) (x : ℕ) → StandsOnce forest → x < length forest.content → Tailed forest x
tailed forest x once h =
    let parts = around x (siblings forest x) (siblings_once forest x once) (once.placed x h) in
    let rest : rest_after (siblings forest x) x ≡ parts.back = ap (λ ns. rest_after ns x) parts.is ∙ rest_here parts.front parts.back x parts.not_front in
    record {
      front = parts.front;
      tail = record { known = h; row = parts.is ∙ ap (λ ns. parts.front ++ x ∷ ns) (sym rest); starts = refl };
      left_is = ap (λ ns. before ns x) parts.is ∙ before_here parts.front parts.back x parts.not_back;
    }

pub later_are : (forest : Forest) (x : ℕ) → StandsOnce forest → x < length forest.content → AreNodes forest (with_later forest x)
later_are forest x once h =
    let it = tailed forest x once h in
    TailFacts.are (tail_facts forest x it.front (with_later forest x) once it.tail)

pub nexts_known : (forest : Forest) (nodes : List TreeNode) → IsArenaOf forest nodes → NextsKnown nodes
nexts_known forest nodes arena n h = next_known forest nodes n (next_link nodes n) arena h (arena.links.nexts n h)

pub nexts_known_opened : (forest : Forest) (old shortened opened : List TreeNode) (x : ℕ) (owner left : Option ℕ) → IsArenaOf forest old → Joined old shortened owner left None → Joined shortened opened None None (Some x) → NextsKnown opened
nexts_known_opened forest old shortened opened x owner left arena join open' n h =
    let same : length opened ≡ length old = open'.same_length ∙ join.same_length in
    subst (λ (k : ℕ). IfSome (next_link opened n) (λ m. m < k)) (sym same)
    (subst (λ o. IfSome o (λ m. m < length old)) (sym (open'.nexts n ∙ join.nexts n))
    (elim (names left n) as (λ t. IfSome (cond t None (next_link old n)) (λ m. m < length old)) [ true ↦ tt | false ↦ nexts_known forest old arena n (omega arith) ]))

pub cut_freed : (forest : Forest) (old shortened opened new : List TreeNode) (x : ℕ) (owner left : Option ℕ) → IsArenaOf forest old → x < length old → owner ≡ parent forest x → left ≡ before (siblings forest x) x →
    Joined old shortened owner left None → Joined shortened opened None None (Some x) → ParentsSet opened new (next_chain opened x) None → IsArenaOf (detach (with_later forest x) forest) new
cut_freed forest old shortened opened new x owner left arena h o l join open' set =
    let long : length old ≡ length forest.content = length-contents forest old arena.links in
    let it = tailed forest x arena.once (omega arith) in
    arena-cut_list forest old new x it.front (with_later forest x) arena it.tail
    (record { shortened = shortened; opened = opened; shortens = rw (o, l, it.left_is) at join; opens = open'; frees = set })

pub known_inside : (forest : Forest) (nodes : List TreeNode) (x : ℕ) → IsArenaOf forest nodes → x < length nodes → x < length forest.content
known_inside forest nodes x arena h =
    let long = length-contents forest nodes arena.links in
    omega arith

-- a run is put at a gap

pub run_alone : (forest : Forest) (x : ℕ) → StandsOnce forest → StartsRun forest x → AreAlone forest (run_of forest x)
run_alone forest x once run = record {
  are = record { once = once.run_once x; known = λ n s. (once.in_run x n s).0 };
  no_parent = λ n s. (once.in_run x n s).1;
  alone = λ n s. (once.in_run x n s).2;
}

pub run_put : (forest : Forest) (old new : List TreeNode) (gap : InsertionPoint) (x : ℕ) (owner left right : Option ℕ) → IsArenaOf forest old → StartsRun forest x → target gap < length old →
    is_member (target gap) (run_of forest x) ≡ false → owner ≡ owner_at gap forest → left ≡ before_gap gap forest → right ≡ after_gap gap forest → RunAttached old new x owner left right →
    IsArenaOf (put gap (run_of forest x) forest) new
run_put forest old new (end_of t) x owner left right arena run h out o l r attached =
    let moved = run_of forest x in
    let long : length old ≡ length forest.content = length-contents forest old arena.links in
    arena-put forest (put (end_of t) moved forest) old new moved x (Some t) left right (children_of forest t) [] arena
    (put-end_of forest moved t arena.once (run_alone forest x arena.once run) (omega arith)) run.starts l r (rw o at attached)
run_put forest old new (front_of t) x owner left right arena run h out o l r attached =
    let moved = run_of forest x in
    let long : length old ≡ length forest.content = length-contents forest old arena.links in
    arena-put forest (put (front_of t) moved forest) old new moved x (Some t) left right [] (children_of forest t) arena
    (put-front_of forest moved t arena.once (run_alone forest x arena.once run) (omega arith)) run.starts l r (rw o at attached)
run_put forest old new (before_node t) x owner left right arena run h out o l r attached =
    let moved = run_of forest x in
    let long : length old ≡ length forest.content = length-contents forest old arena.links in
    let known : t < length forest.content = omega arith in
    let parts = around t (siblings forest t) (siblings_once forest t arena.once) (arena.once.placed t known) in
    arena-put forest (put (before_node t) moved forest) old new moved x (parent forest t) left right parts.front (t ∷ parts.back) arena
    (put-before forest moved t arena.once (run_alone forest x arena.once run) out known parts) run.starts
    (l ∙ ap (λ ns. before ns t) parts.is ∙ before_here parts.front parts.back t parts.not_back) r (rw o at attached)
run_put forest old new (after_node t) x owner left right arena run h out o l r attached =
    let moved = run_of forest x in
    let long : length old ≡ length forest.content = length-contents forest old arena.links in
    let known : t < length forest.content = omega arith in
    let parts = around t (siblings forest t) (siblings_once forest t arena.once) (arena.once.placed t known) in
    arena-put forest (put (after_node t) moved forest) old new moved x (parent forest t) left right (parts.front ++ t ∷ []) parts.back arena
    (put-after forest moved t arena.once (run_alone forest x arena.once run) out known parts) run.starts
    (l ∙ sym (last-append parts.front (t ∷ []))) (r ∙ ap (λ ns. after ns t) parts.is ∙ after_here parts.front parts.back t parts.not_front) (rw o at attached)

pub start_known : (forest : Forest) (nodes : List TreeNode) (x : ℕ) → IsArenaOf forest nodes → StartsRun forest x → x < length nodes
start_known forest nodes x arena run =
    let long = length-contents forest nodes arena.links in
    let inside = (arena.once.in_run x x (first-stands (run_of forest x) x run.starts)).0 in
    omega (arith, inside)

-- what a gap names is in the forest

pub owner_known : (forest : Forest) (nodes : List TreeNode) (gap : InsertionPoint) (o : Option ℕ) → IsArenaOf forest nodes → target gap < length nodes → o ≡ owner_at gap forest → IfSome o (λ m. m < length nodes)
owner_known forest nodes (end_of t) o arena h e = rw e h
owner_known forest nodes (front_of t) o arena h e = rw e h
owner_known forest nodes (before_node t) o arena h e = parent_known forest nodes t o arena h e
owner_known forest nodes (after_node t) o arena h e = parent_known forest nodes t o arena h e

pub left_known : (forest : Forest) (nodes : List TreeNode) (gap : InsertionPoint) (o : Option ℕ) → IsArenaOf forest nodes → target gap < length nodes → o ≡ before_gap gap forest → IfSome o (λ m. m < length nodes)
left_known forest nodes (end_of t) o arena h e = last_known forest nodes t o arena e
left_known forest nodes (front_of t) o arena h e = rw e tt
left_known forest nodes (before_node t) o arena h e = prev_known forest nodes t o arena h e
left_known forest nodes (after_node t) o arena h e = rw e h

pub right_known : (forest : Forest) (nodes : List TreeNode) (gap : InsertionPoint) (o : Option ℕ) → IsArenaOf forest nodes → target gap < length nodes → o ≡ after_gap gap forest → IfSome o (λ m. m < length nodes)
right_known forest nodes (end_of t) o arena h e = rw e tt
right_known forest nodes (front_of t) o arena h e = first_known forest nodes t o arena e
right_known forest nodes (before_node t) o arena h e = rw e h
right_known forest nodes (after_node t) o arena h e = next_known forest nodes t o arena h e

-- the nodes that are moved are detached, and put at a gap

pub moved_are : (forest : Forest) (moving : MovedNodes) → StandsOnce forest → moving_id moving < length forest.content → AreNodes forest (moved_nodes forest moving)
moved_are forest (Node x) once h = one_node forest x h
moved_are forest (WithLater x) once h = later_are forest x once h
moved_are forest (WholeList x) once h = record { once = siblings_once forest x once; known = λ n s. Beside.known (beside forest x n once s) }

-- what is known of the run
pub record IsRun (old middle : List TreeNode) (moved : List ℕ) (x : ℕ) : Type 0 where
  pub is : forest_of middle ≡ detach moved (forest_of old)
  pub linked : IsArenaOf (forest_of middle) middle
  pub run : StartsRun (forest_of middle) x
  pub all : run_of (forest_of middle) x ≡ moved

pub is_run : (old middle : List TreeNode) (moved : List ℕ) (x : ℕ) → IsArenaOf (forest_of old) old → AreNodes (forest_of old) moved → IsArenaOf (detach moved (forest_of old)) middle → first moved ≡ Some x → IsRun old middle moved x
is_run old middle moved x arena are arena' starts =
    let lone = alone-cut_list (forest_of old) moved arena.once are in
    let is : forest_of middle ≡ detach moved (forest_of old) = forest_of-arena (detach moved (forest_of old)) middle arena' in
    let inside : is_member x moved ≡ true = first-stands moved x starts in
    record {
      is = is;
      linked = subst (λ (f : Forest). IsArenaOf f middle) (sym is) arena';
      run = subst (λ (f : Forest). StartsRun f x) (sym is) (record { no_parent = lone.no_parent x inside; starts = ap first (lone.alone x inside) ∙ starts });
      all = ap (λ (f : Forest). run_of f x) is ∙ lone.alone x inside;
    }

pub run_moved : (old middle new : List TreeNode) (gap : InsertionPoint) (moved : List ℕ) (x : ℕ) → IsArenaOf (forest_of old) old → AreNodes (forest_of old) moved → IsRun old middle moved x →
    IsArenaOf (put gap (run_of (forest_of middle) x) (forest_of middle)) new → MovedList old new gap moved
run_moved old middle new gap moved x arena are out put_there =
    list_moved old new gap moved are (subst (λ (f : Forest). IsArenaOf f new) (ap (λ ns. put gap ns (forest_of middle)) out.all ∙ ap (put gap moved) out.is) put_there)

abbrev pub CutOut : List TreeNode → List TreeNode → MovedNodes → ℕ → Type 0
CutOut old middle moving x = IsRun old middle (moved_nodes (forest_of old) moving) x

all_known : (old : List TreeNode) (moving : MovedNodes) → IsArenaOf (forest_of old) old → moving_id moving < length old → AreNodes (forest_of old) (moved_nodes (forest_of old) moving)
all_known old moving arena h = moved_are (forest_of old) moving arena.once (known_inside (forest_of old) old (moving_id moving) arena h)

pub is_cut_out : (old middle : List TreeNode) (moving : MovedNodes) (x : ℕ) → IsArenaOf (forest_of old) old → moving_id moving < length old →
    IsArenaOf (detach (moved_nodes (forest_of old) moving) (forest_of old)) middle → first (moved_nodes (forest_of old) moving) ≡ Some x → CutOut old middle moving x
is_cut_out old middle moving x arena h = is_run old middle (moved_nodes (forest_of old) moving) x arena (all_known old moving arena h)

pub moves : (old middle new : List TreeNode) (gap : InsertionPoint) (moving : MovedNodes) (x : ℕ) → IsArenaOf (forest_of old) old → moving_id moving < length old → CutOut old middle moving x →
    IsArenaOf (put gap (run_of (forest_of middle) x) (forest_of middle)) new → Moves old new gap moving
moves old middle new gap moving x arena h = run_moved old middle new gap (moved_nodes (forest_of old) moving) x arena (all_known old moving arena h)

-- the move of one node
pub moved_one : (old new : List TreeNode) (gap : InsertionPoint) (x : ℕ) → Moves old new gap (Node x) → Moved old new gap x
moved_one old new gap x moved = record {
  made = moved.made;
  linked = moved.linked;
  kept = λ allowed good. moved.kept (record {
    target_known = allowed.target_known;
    open_here = allowed.open_here;
    may = λ n s. subst (MayPlace (forest_of old) (target gap)) (eqb-true x n (sym (one-stands x n) ∙ s)) allowed.may;
  }) good;
}

-- the whole list of a node, from its first one on
pub all_siblings : (forest : Forest) (n x : ℕ) → StandsOnce forest → first (siblings forest n) ≡ Some x → Beside forest n x → with_later forest x ≡ siblings forest n
all_siblings forest n x once starts there = ap (λ ns. x ∷ rest_after ns x) there.same_siblings ∙ sym (first_rest (siblings forest n) x starts)

pub all_children : (forest : Forest) (p x : ℕ) → StandsOnce forest → first (children_of forest p) ≡ Some x → parent forest x ≡ Some p → with_later forest x ≡ children_of forest p
all_children forest p x once starts above = ap (λ ns. x ∷ rest_after ns x) (siblings_child forest x p above) ∙ sym (first_rest (children_of forest p) x starts)
