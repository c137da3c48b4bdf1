-- What a traversal has written, node by node.
use Rattle.std.proofs.Common.{◌≡◌, ◌≢◌, ◌<◌, ◌≤◌, ◌⊎◌, ℕ, zero, suc, ◌+◌, ◌-◌, List, [], ◌∷◌, ◌++◌, Bool, true, false, true≢false, Option, None, Some, is_some, slice_get, inl, inr, refl, sym, ap, ◌∙◌, subst, length, set, get_or, map, arith, append_assoc, append-nil, length-append, cond, drop}
use Rattle.std.specs.Prelude.{◌==◌, ◌||◌, ◌&&◌}
use Rattle.std.specs.Option.{is_none}
use Rattle.std.proofs.lemmas.Bool.{eq-eqb, eqb-true, or_cases, or_right}
use Rattle.std.proofs.lemmas.Grind.{same_number_lists}
use Rattle.std.proofs.lemmas.List.{get_or-map, get_or-set_other, get_or-set_same, length-map, length-set, same_lists}
use Rattle.std.proofs.lemmas.Option.{same_Some, slice_get_within}
use Rattle.dom_nodes.specs.declared.node_data.NodeData.{NodeData}
use Rattle.dom_links.specs.Forest.{Forest, children_of, parent, siblings}
use Rattle.dom_links.specs.Laws.{AreLines, AreTrees}
use Rattle.dom_links.specs.Lists.{IsDistinct, after, first, is_member}
use Rattle.dom_links.specs.Sound.{IsForest}
use Rattle.dom_links.specs.Trees.{ancestors, trees, upward, walk, descendants_in_order}
use Rattle.dom_links.specs.Walk.{IsWithin, later, row_on}
use Rattle.dom_links.proofs.forest.Depth.{parent_inside}
use Rattle.dom_index.specs.TypeBytes.{AreTypeBytes, byte_at, is_type_byte}
use Rattle.dom_index.specs.declared.preorder.Traversal.{Traversal}
use Rattle.dom_index.specs.Orders.{AreSubtreeEnds, ArePlaces, AreSpans, HasVisitedTo, IsOrder, IsTraversed, number_at}
use Rattle.dom_index.specs.Preorder.{above_it, preorder, preorder_to, run_on, run_past, starts_run, walk_from}
use Rattle.dom_index.proofs.OrderLemmas.{are_spans, from_is}
use Rattle.dom_index.proofs.PlaceLemmas.{distinct_places, found_at, front_stays, in_place, placed_more, same_or_not}

-- a node and its ancestors, if there is one
abbrev pub path_from : Forest → Option ℕ → List ℕ
path_from forest None = []
path_from forest (Some n) = n ∷ ancestors forest n

module _ (forest : Forest) (good : IsForest forest) (lines : AreLines forest) (laws : AreTrees forest) where
  -- what a run still gives from a node on: the node, what is below it, and what is past it and its ancestors
  pub run_cut : (n : ℕ) → n < length forest.content → run_on forest (Some n) ≡ n ∷ (descendants_in_order forest n ++ run_past forest (n ∷ ancestors forest n))
  run_cut n known =
      ap (λ ns. ns ++ run_past forest (ancestors forest n)) (from_is forest good lines laws n known) ∙ ap (λ ns. n ∷ ns) (append_assoc (descendants_in_order forest n) (walk (trees forest (later forest false n))) (run_past forest (ancestors forest n)))

  -- down to the first child
  pub down : (n : ℕ) (child : Option ℕ) → n < length forest.content → child ≡ first (children_of forest n) → is_some child ≡ true →
      (IsWithin forest child) × (above_it forest child ≡ n ∷ ancestors forest n) × (run_on forest (Some n) ≡ n ∷ run_on forest child)
  down n None known e some = absurd (true≢false (sym some))
  down n (Some f) known e some =
      let row : children_of forest n ≡ row_on forest false (Some f) = lines.below false n ∙ ap (row_on forest false) (sym e) in
      let there : is_member f (children_of forest n) ≡ true = ap (is_member f) row ∙ ap (λ b. b || is_member f (later forest false f)) (eq-eqb f f refl) in
      let up : ancestors forest f ≡ n ∷ ancestors forest n = lines.up f n (good.once.in_children n f there).1 in
      let below : descendants_in_order forest n ≡ walk_from forest f = ap (λ ns. walk (trees forest ns)) row in
      ((good.once.in_children n f there).0, up, run_cut n known ∙ (ap (λ ns. n ∷ (ns ++ run_past forest (n ∷ ancestors forest n))) below ∙ ap (λ ps. n ∷ (walk_from forest f ++ run_past forest ps)) (sym up)))

  -- nothing is below a node without a first child
  pub at_leaf : (n : ℕ) (child : Option ℕ) → n < length forest.content → child ≡ first (children_of forest n) → is_some child ≡ false → run_on forest (Some n) ≡ n ∷ run_past forest (n ∷ ancestors forest n)
  at_leaf n (Some f) known e none = absurd (true≢false none)
  at_leaf n None known e none =
      let row : children_of forest n ≡ [] = lines.below false n ∙ ap (row_on forest false) (sym e) in
      let empty : descendants_in_order forest n ≡ [] = ap (λ ns. walk (trees forest ns)) row ∙ ap walk laws.no_trees in
      run_cut n known ∙ ap (λ ns. n ∷ (ns ++ run_past forest (n ∷ ancestors forest n))) empty

  -- on to the sibling behind
  pub aside : (n : ℕ) (next : Option ℕ) → next ≡ after (siblings forest n) n → is_some next ≡ true →
      (IsWithin forest next) × (above_it forest next ≡ ancestors forest n) × (run_past forest (n ∷ ancestors forest n) ≡ run_on forest next)
  aside n None e some = absurd (true≢false (sym some))
  aside n (Some s) e some =
      let row : later forest false n ≡ row_on forest false (Some s) = lines.beside false n ∙ ap (row_on forest false) (sym e) in
      let same : ancestors forest s ≡ ancestors forest n = ap (upward forest) (lines.together false n s (sym e)) in (
        subst (IsWithin forest) (sym e) (lines.beside_known false n),
        same,
        ap (λ ns. walk (trees forest ns) ++ run_past forest (ancestors forest n)) row ∙ ap (λ ps. walk_from forest s ++ run_past forest ps) (sym same),
      )

  -- nothing is past a node without a sibling behind it
  pub past_last : (n : ℕ) (next : Option ℕ) → next ≡ after (siblings forest n) n → is_some next ≡ false → run_past forest (n ∷ ancestors forest n) ≡ run_past forest (ancestors forest n)
  past_last n (Some s) e none = absurd (true≢false none)
  past_last n None e none =
      let row : later forest false n ≡ [] = lines.beside false n ∙ ap (row_on forest false) (sym e) in
      let empty : walk (trees forest (later forest false n)) ≡ [] = ap (λ ns. walk (trees forest ns)) row ∙ ap walk laws.no_trees in
      ap (λ ns. ns ++ run_past forest (ancestors forest n)) empty

  -- up to the parent
  pub up_path : (n : ℕ) (up : Option ℕ) → up ≡ parent forest n → path_from forest up ≡ ancestors forest n
  up_path n None e = sym (lines.top n (sym e))
  up_path n (Some p) e = sym (lines.up n p (sym e))

  pub up_within : (n : ℕ) (up : Option ℕ) → up ≡ parent forest n → IsWithin forest up
  up_within n None e = tt
  up_within n (Some p) e = parent_inside forest n p good (sym e)

-- subtree ends
module _ (forest : Forest) (once : IsDistinct (preorder forest)) (long : length (preorder forest) ≡ length forest.content) (visited : ℕ) (subtree_ends : List ℕ) (n : ℕ) where
  -- a node is visited
  pub met_now : (ahead : ℕ) → (wide : run_on forest (Some n) ≡ n ∷ (descendants_in_order forest n ++ run_past forest (n ∷ ancestors forest n))) → number_at (preorder forest) visited ≡ n →
      AreSubtreeEnds forest (ancestors forest n) visited (length (run_on forest (Some n))) subtree_ends → suc ahead ≡ length (run_on forest (Some n)) → AreSubtreeEnds forest (n ∷ ancestors forest n) (visited + 1) ahead subtree_ends
  met_now ahead wide here ended counts = record {
    long = ended.long;
    begun = λ m s. elim (or_cases (n == m) (is_member m (ancestors forest n)) s) [
      | inl same ↦ subst Begun (eqb-true n m same) (visited, omega arith, here, (let w = ap length wide ∙ ap suc (length-append (descendants_in_order forest n) (run_past forest (n ∷ ancestors forest n))) in omega arith))
      | inr above ↦ (let b = ended.begun m above in let less = b.1 in let e = b.3 in (b.0, omega arith, b.2, omega arith))
    ];
    answer = λ i below none. ended.answer i (nearer i below none) (no_other (n == number_at (preorder forest) i) _ none);
  }
    where
      Begun : ℕ → Type 0
      Begun m = (i : ℕ) × (i < visited + 1) × (number_at (preorder forest) i ≡ m) × (i + 1 + length (descendants_in_order forest m) + length (run_past forest (m ∷ ancestors forest m)) ≡ visited + 1 + ahead)

      no_other : (a b : Bool) → (a || b) ≡ false → b ≡ false
      no_other true b e = absurd (true≢false e)
      no_other false b e = e

      nearer : (i : ℕ) → i < visited + 1 → is_member (number_at (preorder forest) i) (n ∷ ancestors forest n) ≡ false → i < visited
      nearer i below none = elim (same_or_not i visited) [
        | inr other ↦ omega arith
        | inl same ↦ (let is : n ≡ number_at (preorder forest) i = sym here ∙ ap (number_at (preorder forest)) (sym same) in
            let so : is_member (number_at (preorder forest) i) (n ∷ ancestors forest n) ≡ true = ap (λ b. b || is_member (number_at (preorder forest) i) (ancestors forest n)) (eq-eqb n (number_at (preorder forest) i) is) in
            absurd (true≢false (sym so ∙ none)))
      ]

  -- all is visited that is at or below a node
  pub ended_now : (last : ℕ) → last + 1 ≡ visited → visited ≤ length forest.content → n < length forest.content → AreSubtreeEnds forest (n ∷ ancestors forest n) visited (length (run_past forest (n ∷ ancestors forest n))) subtree_ends →
      AreSubtreeEnds forest (ancestors forest n) visited (length (run_past forest (n ∷ ancestors forest n))) (set subtree_ends n last)
  ended_now last e few known ended = record {
    long = length-set subtree_ends n last ∙ ended.long;
    begun = λ m s. ended.begun m (or_right (n == m) (is_member m (ancestors forest n)) s);
    answer = λ i below none. elim (same_or_not (number_at (preorder forest) i) n) [
      | inl same ↦ (let b = ended.begun n (ap (λ t. t || is_member n (ancestors forest n)) (eq-eqb n n refl)) in
          let less = b.1 in
          let counts = b.3 in
          let here : i ≡ b.0 = distinct_places (preorder forest) i b.0 once (omega arith) (omega arith) (same ∙ sym b.2) in
          let is : last ≡ i + length (descendants_in_order forest n) = omega arith in
          ap (number_at (set subtree_ends n last)) same ∙ (get_or-set_same subtree_ends n last 0 (let l = ended.long in omega arith) ∙ (is ∙ ap (λ m. i + length (descendants_in_order forest m)) (sym same))))
      | inr other ↦ get_or-set_other subtree_ends n (number_at (preorder forest) i) last 0 other ∙ ended.answer i below (not_it (n == number_at (preorder forest) i) _ (λ t. other (sym (eqb-true n (number_at (preorder forest) i) t))) none)
    ];
  }
    where
      not_it : (a b : Bool) → (a ≡ true → ⊥) → b ≡ false → (a || b) ≡ false
      not_it true b none e = absurd (none refl)
      not_it false b none e = e

pub ended_same : (forest : Forest) (path other : List ℕ) (visited ahead more : ℕ) (subtree_ends : List ℕ) → path ≡ other → ahead ≡ more → AreSubtreeEnds forest path visited ahead subtree_ends → AreSubtreeEnds forest other visited more subtree_ends
ended_same forest path other visited ahead more subtree_ends e f ended = subst (λ p. AreSubtreeEnds forest p visited more subtree_ends) e (subst (λ a. AreSubtreeEnds forest path visited a subtree_ends) f ended)

-- one more value is written at the next place
set_next : {A : Type 0} (d : A) (f : ℕ → A) (xs : List A) (n : ℕ) (v : A) → n < length xs → ((i : ℕ) → i < n → get_or xs i d ≡ f i) → v ≡ f n → (i : ℕ) → i < n + 1 → get_or (set xs n v) i d ≡ f i
set_next d f xs n v inside answer is i below = elim (same_or_not i n) [
  | inl same ↦ ap (λ k. get_or (set xs n v) k d) same ∙ (get_or-set_same xs n v d inside ∙ (is ∙ ap f (sym same)))
  | inr other ↦ get_or-set_other xs n i v d other ∙ answer i (omega arith)
]

-- one more node is written down
module _ (forest : Forest) (once : IsDistinct (preorder forest)) (long : length (preorder forest) ≡ length forest.content) (old new : Traversal) (n : ℕ) (known : n < length forest.content) (room : old.visited < length forest.content) (here : number_at (preorder forest) old.visited ≡ n) (traversed : IsTraversed forest old) where
  named_now : (byte : ℕ) (node : NodeData) → slice_get forest.content n ≡ Some node → is_type_byte node byte ≡ true → (i : ℕ) (other : NodeData) → i < old.visited + 1 → slice_get forest.content (number_at (preorder forest) i) ≡ Some other → (i ≡ old.visited) ⊎ (i ≢ old.visited) →
      is_type_byte other (byte_at (set old.type_bytes.items n byte) (number_at (preorder forest) i)) ≡ true
  named_now byte node found answer i other below is (inl same) =
      let at : number_at (preorder forest) i ≡ n = ap (number_at (preorder forest)) same ∙ here in
      let written : byte_at (set old.type_bytes.items n byte) (number_at (preorder forest) i) ≡ byte = ap (byte_at (set old.type_bytes.items n byte)) at ∙ get_or-set_same old.type_bytes.items n byte 0 (let l = traversed.type_bytes_long in omega arith) in
      let one : node ≡ other = same_Some node other (sym found ∙ (ap (slice_get forest.content) (sym at) ∙ is)) in
      ap (is_type_byte other) written ∙ (ap (λ x. is_type_byte x byte) (sym one) ∙ answer)
  named_now byte node found answer i other below is (inr apart) =
      let elsewhere : number_at (preorder forest) i ≢ n = λ e. apart (distinct_places (preorder forest) i old.visited once (omega arith) (omega arith) (e ∙ sym here)) in
      ap (is_type_byte other) (get_or-set_other old.type_bytes.items n (number_at (preorder forest) i) byte 0 elsewhere) ∙ traversed.named i other (omega arith) is

  unmet_now : (byte m : ℕ) → m < length forest.content → byte_at (set old.type_bytes.items n byte) m ≢ 253 → (i : ℕ) × (i < old.visited + 1) × (number_at (preorder forest) i ≡ m)
  unmet_now byte m inside other = elim (same_or_not m n) [
    | inl same ↦ (old.visited, omega arith, here ∙ sym same)
    | inr apart ↦ (let p = traversed.unvisited m inside (λ e. other (get_or-set_other old.type_bytes.items n m byte 0 apart ∙ e)) in let less = p.1 in (p.0, omega arith, p.2))
  ]

  pub traversed_more : (byte : ℕ) (node : NodeData) → slice_get forest.content n ≡ Some node → is_type_byte node byte ≡ true → new.visited ≡ old.visited + 1 → new.order.items ≡ set old.order.items old.visited n → new.above.items ≡ set old.above.items old.visited (parent forest n) → new.places.items ≡ set old.places.items n old.visited → new.type_bytes.items ≡ set old.type_bytes.items n byte → IsTraversed forest new
  traversed_more byte node found answer visited order above places type_bytes = record {
    order_long = ap length order ∙ (length-set old.order.items old.visited n ∙ traversed.order_long);
    above_long = ap length above ∙ (length-set old.above.items old.visited (parent forest n) ∙ traversed.above_long);
    places_long = ap length places ∙ (length-set old.places.items n old.visited ∙ traversed.places_long);
    type_bytes_long = ap length type_bytes ∙ (length-set old.type_bytes.items n byte ∙ traversed.type_bytes_long);
    order = λ i below. ap (λ xs. number_at xs i) order ∙ set_next 0 (number_at (preorder forest)) old.order.items old.visited n (let l = traversed.order_long in omega arith) traversed.order (sym here) i (omega arith);
    above = λ i below. ap (λ xs. get_or xs i None) above ∙ set_next None (λ j. parent forest (number_at (preorder forest) j)) old.above.items old.visited (parent forest n) (let l = traversed.above_long in omega arith) traversed.above (ap (parent forest) (sym here)) i (omega arith);
    placed = λ i below. ap (λ xs. number_at xs (number_at (preorder forest) i)) places ∙ placed_more (preorder forest) old.places.items old.visited n once (omega arith) (sym here) (let l = traversed.places_long in omega arith) traversed.placed i (omega arith);
    named = λ i other below is. ap (λ xs. is_type_byte other (byte_at xs (number_at (preorder forest) i))) type_bytes ∙ named_now byte node found answer i other (omega arith) is (same_or_not i old.visited);
    unvisited = λ m inside apart. (let p = unmet_now byte m inside (λ e. apart (ap (λ xs. byte_at xs m) type_bytes ∙ e)) in let less = p.1 in (p.0, omega arith, p.2));
  }

-- where a list is cut
pub drop_cut : (xs : List ℕ) (i x : ℕ) (ys : List ℕ) → drop i xs ≡ x ∷ ys → (i < length xs) × (number_at xs i ≡ x) × (drop (suc i) xs ≡ ys)
drop_cut [] zero x ys e = cc
drop_cut [] (suc i) x ys e = cc
drop_cut (y ∷ xs) zero x ys e = let one : y ≡ x = cc in let rest : xs ≡ ys = cc in (omega arith, one, rest)
drop_cut (y ∷ xs) (suc i) x ys e = let p = drop_cut xs i x ys e in let less = p.0 in (omega arith, p.1, p.2)

drop_front : (xs ys : List ℕ) → drop (length xs) (xs ++ ys) ≡ ys
drop_front [] ys = refl
drop_front (x ∷ xs) ys = drop_front xs ys

-- the order up to a number goes on to the order up to a greater one
order_grows : (forest : Forest) (n k m : ℕ) → m ≡ k + n → (rest : List ℕ) × (preorder_to forest m ≡ preorder_to forest n ++ rest)
order_grows forest n zero m e =
    let same : m ≡ n = omega arith in
    ([], ap (preorder_to forest) same ∙ sym (append-nil (preorder_to forest n)))
order_grows forest n (suc k) m e =
    let p : ℕ = k + n in
    let before = order_grows forest n k p refl in
    let next : m ≡ suc p = omega arith in
    let run : List ℕ = cond (starts_run forest p) (walk_from forest p) [] in
    (before.0 ++ run, ap (preorder_to forest) next ∙ (ap (λ ns. ns ++ run) before.1 ∙ append_assoc (preorder_to forest n) before.0 run))

-- a node that starts no run adds nothing to the order
none_started : (forest : Forest) (n : ℕ) → starts_run forest n ≡ false → preorder_to forest (n + 1) ≡ preorder_to forest n
none_started forest n none =
    let next : n + 1 ≡ suc n = omega arith in
    ap (preorder_to forest) next ∙ (ap (λ b. preorder_to forest n ++ cond b (walk_from forest n) []) none ∙ append-nil (preorder_to forest n))

pub none_more : (forest : Forest) (n : ℕ) (traversal : Traversal) → starts_run forest n ≡ false → HasVisitedTo forest n traversal → HasVisitedTo forest (n + 1) traversal
none_more forest n traversal none before = record {
  visited = before.visited ∙ ap length (sym (none_started forest n none));
  traversed = before.traversed;
  ended = before.ended;
}

one_started : (forest : Forest) (n : ℕ) → starts_run forest n ≡ true → preorder_to forest (n + 1) ≡ preorder_to forest n ++ walk_from forest n
one_started forest n starts =
    let next : n + 1 ≡ suc n = omega arith in
    ap (preorder_to forest) next ∙ ap (λ b. preorder_to forest n ++ cond b (walk_from forest n) []) starts

-- a node that was visited before stands in the walk of an earlier run
pub met_before : (forest : Forest) (n i : ℕ) → n < length forest.content → i < length (preorder_to forest n) → number_at (preorder forest) i ≡ n → is_member n (preorder_to forest n) ≡ true
met_before forest n i known below is =
    let grown = order_grows forest n (length forest.content - n) (length forest.content) (omega arith) in
    let at : number_at (preorder_to forest n) i ≡ n = sym (ap (λ ns. number_at ns i) grown.1 ∙ front_stays 0 (preorder_to forest n) grown.0 i below) ∙ is in
    subst (λ m. is_member m (preorder_to forest n) ≡ true) at (in_place (preorder_to forest n) i below)

no_parent : (o : Option ℕ) (b : Bool) → (is_none o && b) ≡ true → o ≡ None
no_parent None b e = refl
no_parent (Some p) b e = absurd (true≢false (sym e))

-- the first node of a run, where the order goes on
pub record Begins (forest : Forest) (n : ℕ) : Type 0 where
  pub top : ancestors forest n ≡ []
  pub rest : List ℕ
  pub cut : drop (length (preorder_to forest n)) (preorder forest) ≡ run_on forest (Some n) ++ rest
  pub counted : length (preorder_to forest n) + length (run_on forest (Some n)) ≡ length (preorder_to forest (n + 1))

pub run_begins : (forest : Forest) (n : ℕ) → AreLines forest → n < length forest.content → starts_run forest n ≡ true → Begins forest n
run_begins forest n lines known starts =
    let top = lines.top n (no_parent (parent forest n) _ starts) in
    let run : run_on forest (Some n) ≡ walk_from forest n = ap (λ ps. walk_from forest n ++ run_past forest ps) top ∙ append-nil (walk_from forest n) in
    let more : preorder_to forest (n + 1) ≡ preorder_to forest n ++ run_on forest (Some n) = one_started forest n starts ∙ ap (λ ns. preorder_to forest n ++ ns) (sym run) in
    let grown = order_grows forest (n + 1) (length forest.content - (n + 1)) (length forest.content) (omega arith) in
    record {
      top = top;
      rest = grown.0;
      cut = ap (drop (length (preorder_to forest n))) (grown.1 ∙ (ap (λ ns. ns ++ grown.0) more ∙ append_assoc (preorder_to forest n) (run_on forest (Some n)) grown.0)) ∙ drop_front (preorder_to forest n) (run_on forest (Some n) ++ grown.0);
      counted = sym (ap length more ∙ length-append (preorder_to forest n) (run_on forest (Some n)));
    }

-- the next node of a walk that is under way, and what is left after it
pub goes_on : (forest : Forest) (visited n : ℕ) (o : Option ℕ) (rest ns : List ℕ) → o ≡ Some n → run_on forest (Some n) ≡ n ∷ ns → drop visited (preorder forest) ≡ run_on forest o ++ rest →
    (visited < length (preorder forest)) × (number_at (preorder forest) visited ≡ n) × (drop (suc visited) (preorder forest) ≡ ns ++ rest)
goes_on forest visited n o rest ns is steps left = drop_cut (preorder forest) visited n (ns ++ rest) (left ∙ (ap (λ p. run_on forest p ++ rest) is ∙ ap (λ ms. ms ++ rest) steps))

-- where no node's walk is under way, it doesn't matter how many are ahead
pub ended_afresh : (forest : Forest) (path : List ℕ) (visited ahead more : ℕ) (subtree_ends : List ℕ) → path ≡ [] → AreSubtreeEnds forest [] visited ahead subtree_ends → AreSubtreeEnds forest path visited more subtree_ends
ended_afresh forest path visited ahead more subtree_ends e ended = subst (λ p. AreSubtreeEnds forest p visited more subtree_ends) (sym e) (record { long = ended.long; begun = λ n s. absurd (true≢false (sym s)); answer = ended.answer })

same_default : {A : Type 0} (xs : List A) (k : ℕ) (d e : A) → k < length xs → get_or xs k d ≡ get_or xs k e
same_default [] k d e below = absurd (omega arith)
same_default (x ∷ xs) zero d e below = refl
same_default (x ∷ xs) (suc k) d e below = same_default xs k d e (omega arith)

-- where all nodes are visited
module _ (forest : Forest) (traversal : Traversal) (traversed : IsTraversed forest traversal) (visited : traversal.visited ≡ length forest.content) (long : length (preorder forest) ≡ length forest.content) where
  pub whole_order : traversal.order.items ≡ preorder forest
  whole_order = same_number_lists traversal.order.items (preorder forest) (traversed.order_long ∙ sym long) (λ k below. traversed.order k (let l = traversed.order_long in omega arith))

  pub whole_above : traversal.above.items ≡ map (parent forest) traversal.order.items
  whole_above = same_lists traversal.above.items (map (parent forest) traversal.order.items) (traversed.above_long ∙ sym (length-map traversal.order.items (parent forest) ∙ traversed.order_long)) (λ k d below.
      let l = traversed.above_long in
      let m = traversed.order_long in
      let inside : k < length traversal.order.items = omega arith in
      let answer : get_or traversal.above.items k None ≡ parent forest (number_at (preorder forest) k) = traversed.above k (omega arith) in
      same_default traversal.above.items k d None below ∙ (answer ∙ (ap (λ ns. parent forest (number_at ns k)) (sym whole_order) ∙ sym (get_or-map (parent forest) traversal.order.items k 0 d inside))))

  pub whole_places : ArePlaces forest (preorder forest) traversal.places.items
  whole_places = (traversed.places_long, λ i known. traversed.placed i (omega arith))

  pub whole_names : ((n : ℕ) → n < length forest.content → is_member n (preorder forest) ≡ true) → AreTypeBytes forest traversal.type_bytes.items
  whole_names all = record {
    long = traversed.type_bytes_long;
    each = λ n node is.
        let p = found_at n (preorder forest) (all n (slice_get_within forest.content n node is)) in
        let less = p.1 in
        subst (λ m. is_type_byte node (byte_at traversal.type_bytes.items m) ≡ true) p.2 (traversed.named p.0 node (omega arith) (ap (slice_get forest.content) p.2 ∙ is));
  }

  pub whole_spans : IsForest forest → AreLines forest → AreTrees forest → IsOrder forest (preorder forest) traversal.places.items → AreSubtreeEnds forest [] traversal.visited 0 traversal.subtree_ends.items → AreSpans forest (preorder forest) traversal.places.items traversal.subtree_ends.items
  whole_spans good lines laws order ended = are_spans forest good lines laws traversal.places.items order traversal.subtree_ends.items ended.long (λ n known.
      let inside = order.inside n known in
      let answer = ended.answer (number_at traversal.places.items n) (omega arith) refl in
      subst (λ m. number_at traversal.subtree_ends.items m ≡ number_at traversal.places.items n + length (descendants_in_order forest m)) (order.ordered n known) answer)
