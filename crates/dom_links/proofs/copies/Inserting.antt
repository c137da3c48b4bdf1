-- New nodes go to a place.
use Rattle.std.proofs.Common.{ℕ, ◌≡◌, true, false, List, [], ◌∷◌, Some, None, refl, sym, ap, ◌∙◌, subst, arith, length}
use Rattle.std.proofs.lemmas.Bool.{true≢false}
use Rattle.dom_nodes.specs.declared.node_data.TreeNode.{TreeNode}
use Rattle.dom_links.specs.Forest.{Forest, IsArenaOf, children_of, forest_of}
use Rattle.dom_links.specs.Insertions.{Placed, around_it, instead_of_children, instead_of_node, wrapped_by}
use Rattle.dom_links.specs.ListMoves.{AllowedList, AreNodes, ChildrenRemoved, MayWrap, MovedList, Wrapped, element_at, wrapped}
use Rattle.dom_links.specs.Lists.{first, is_member}
use Rattle.dom_links.specs.Moves.{InsertionPoint, after_node, before_node, detach, end_of, front_of, moved_to}
use Rattle.dom_links.specs.Sound.{IsForest, MayPlace, Removed, is_open, target}
use Rattle.dom_links.proofs.moves.BlockKept.{cut_parents, forest-cut_list, ways_none}
use Rattle.dom_links.proofs.forest.Chains.{forest_of-arena}
use Rattle.dom_links.proofs.moves.Cuts.{length-contents}
use Rattle.dom_links.proofs.moves.BlockMoves.{IsRun}
use Rattle.dom_links.proofs.forest.Neighbours.{first-stands}
use Rattle.dom_links.proofs.texts.SettingTexts.{bears_there}

-- ---- where other nodes are detached, nodes may be put as before

still_may : (forest : Forest) (cs : List ℕ) (t n : ℕ) → MayPlace forest t n → MayPlace (detach cs forest) t n
still_may forest cs t n may = record {
  moves = may.moves;
  apart = may.apart;
  free = λ way. may.free (ways_none forest (detach cs forest) cs None (cut_parents forest cs) refl n t way);
}

still_open : (forest : Forest) (cs : List ℕ) (gap : InsertionPoint) → is_open gap forest ≡ true → is_open gap (detach cs forest) ≡ true
still_open forest cs (end_of t) h = h
still_open forest cs (front_of t) h = h
still_open forest cs (before_node t) h = h
still_open forest cs (after_node t) h = h

still_allowed : (forest : Forest) (gap : InsertionPoint) (cs moved : List ℕ) → AllowedList forest gap moved → AllowedList (detach cs forest) gap moved
still_allowed forest gap cs moved allowed = record {
  target_known = allowed.target_known;
  open_here = still_open forest cs gap allowed.open_here;
  may = λ n s. still_may forest cs (target gap) n (allowed.may n s);
}

-- ---- the arms

-- an edit that keeps how many nodes there are
pub as_many : (old new : List TreeNode) (after : Forest) → IsArenaOf (forest_of old) old → IsArenaOf (forest_of new) new → forest_of new ≡ after → length after.content ≡ length (forest_of old).content → length new ≡ length old
as_many old new after arena arena' made same =
    let one = length-contents (forest_of old) old arena.links in
    let two = length-contents (forest_of new) new arena'.links in
    let three = ap (λ (f : Forest). length f.content) made in
    omega (arith, one, two, three, same)

pub nodes_still : (old new : List TreeNode) (after : Forest) (moved : List ℕ) → AreNodes (forest_of old) moved → forest_of new ≡ after → length after.content ≡ length (forest_of old).content → AreNodes (forest_of new) moved
nodes_still old new after moved are made same = record {
  once = are.once;
  known = λ n s. (let known = are.known n s in let e = ap (λ (f : Forest). length f.content) made in omega (arith, known, e, same));
}

pub in_place_of_children : (old middle new : List TreeNode) (x : ℕ) (moved : List ℕ) → ChildrenRemoved old middle x → MovedList middle new (end_of x) moved → Placed old new instead_of_children x moved
in_place_of_children old middle new x moved removed there = record {
  made = there.made ∙ ap (moved_to moved (end_of x)) removed.made;
  linked = there.linked;
  kept = λ allowed good. there.kept (subst (λ (f : Forest). AllowedList f (end_of x) moved) (sym removed.made) (still_allowed (forest_of old) (end_of x) (children_of (forest_of old) x) moved allowed)) (removed.kept tt good);
}

pub in_place_of_node : (old middle new : List TreeNode) (x : ℕ) (moved : List ℕ) → MovedList old middle (before_node x) moved → Removed middle new x → Placed old new instead_of_node x moved
in_place_of_node old middle new x moved there removed = record {
  made = removed.made ∙ ap (detach (x ∷ [])) there.made;
  linked = removed.linked;
  kept = λ allowed good. removed.kept tt (there.kept allowed good);
}

-- the nodes are a run of their own
run_alone : (old middle : List TreeNode) (x : ℕ) (moved : List ℕ) → AreNodes (forest_of old) moved → forest_of middle ≡ detach moved (forest_of old) → AllowedList (forest_of old) (before_node x) moved → IsForest (forest_of old) → IsForest (forest_of middle)
run_alone old middle x moved are is allowed good =
    subst IsForest (sym is) (forest-cut_list (forest_of old) moved good are (λ n s. MayPlace.moves (allowed.may n s)))

pub round_none : (old middle : List TreeNode) (x : ℕ) (moved : List ℕ) → AreNodes (forest_of old) moved → IsArenaOf (detach moved (forest_of old)) middle → first moved ≡ None → Placed old middle around_it x moved
round_none old middle x moved are arena none =
    let is = forest_of-arena (detach moved (forest_of old)) middle arena in
    record {
      made = is ∙ sym (ap (λ o. wrapped_by o x (detach moved (forest_of old))) none);
      linked = subst (λ (f : Forest). IsArenaOf f middle) (sym is) arena;
      kept = λ allowed good. run_alone old middle x moved are is allowed good;
    }

pub round_other : (old middle : List TreeNode) (x w : ℕ) (moved : List ℕ) → AreNodes (forest_of old) moved → IsRun old middle moved w → first moved ≡ Some w → element_at (forest_of middle) w ≡ false → Placed old middle around_it x moved
round_other old middle x w moved are run starts other =
    let other' : element_at (detach moved (forest_of old)) w ≡ false = ap (λ f. element_at f w) (sym run.is) ∙ other in
    record {
      made = run.is ∙ sym (ap (λ o. wrapped_by o x (detach moved (forest_of old))) starts ∙ rw other' refl);
      linked = run.linked;
      kept = λ allowed good. run_alone old middle x moved are run.is allowed good;
    }

-- the first of them may be put round x
may_wrap : (forest : Forest) (x w : ℕ) (moved : List ℕ) → AreNodes forest moved → first moved ≡ Some w → element_at (detach moved forest) w ≡ true → AllowedList forest (before_node x) moved → MayWrap (detach moved forest) x w
may_wrap forest x w moved are starts element allowed =
    let inside = first-stands moved w starts in
    record {
      beside = record {
        target_known = allowed.target_known;
        known = are.known w inside;
        open_here = allowed.open_here;
        may = still_may forest moved x w (allowed.may w inside);
      };
      parents_allow = bears_there forest.content w element;
    }

pub round_first : (old middle new : List TreeNode) (x w : ℕ) (moved : List ℕ) → AreNodes (forest_of old) moved → IsRun old middle moved w → first moved ≡ Some w → element_at (forest_of middle) w ≡ true → Wrapped middle new x w → Placed old new around_it x moved
round_first old middle new x w moved are run starts element wraps =
    let element' : element_at (detach moved (forest_of old)) w ≡ true = ap (λ f. element_at f w) (sym run.is) ∙ element in
    record {
      made = wraps.made ∙ ap (λ f. wrapped x w f) run.is ∙ sym (ap (λ o. wrapped_by o x (detach moved (forest_of old))) starts ∙ rw element' refl);
      linked = wraps.linked;
      kept = λ allowed good.
          wraps.kept (subst (λ (f : Forest). MayWrap f x w) (sym run.is) (may_wrap (forest_of old) x w moved are starts element' allowed)) (run_alone old middle x moved are run.is allowed good);
    }

pub first_apart : (x w : ℕ) (moved : List ℕ) → first moved ≡ Some w → is_member x moved ≡ false → w ≡ x → ⊥
first_apart x w moved starts out same = true≢false (sym (first-stands moved w starts) ∙ ap (λ k. is_member k moved) same ∙ out)
