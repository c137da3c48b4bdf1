-- The steps of a traversal that follows a path without signs.
use Rattle.std.proofs.Common.{◌≡◌, ◌<◌, ◌+◌, ℕ, zero, suc, List, [], ◌∷◌, ◌++◌, length, replicate, Bool, true, false, Option, Some, None, refl, sym, ap, ◌∙◌, subst, true≢false, arith, append_assoc, append-nil, length-append}
use Rattle.std.specs.Prelude.{◌&&◌, ◌||◌, slice_get}
use Rattle.std.proofs.lemmas.Option.{same_Some}
use Rattle.dom_nodes.specs.Kinds.{is_element}
use Rattle.dom_nodes.specs.declared.node_data.NodeData.{NodeData}
use Rattle.dom_links.specs.Forest.{Forest, children_of, siblings}
use Rattle.dom_links.specs.Laws.{AreLines, AreTrees}
use Rattle.dom_links.specs.Lists.{after, first}
use Rattle.dom_links.specs.Trees.{trees, walk}
use Rattle.dom_links.specs.Walk.{IsWithin, later, row_on}
use Rattle.dom_selectors.specs.declared.syntax.Combinator.{Combinator}
use Rattle.dom_selectors.specs.declared.syntax.Combinator.TheVariants.{Descendant, Child, Adjacent, Sibling}
use Rattle.dom_selectors.specs.MiniSyntax.{Mini, combinator_of}
use Rattle.dom_selectors.specs.MiniTruth.{node_passes}
use Rattle.dom_mini.specs.Descents.{AreWaiting, IsDescent, IsPassed, flags_after, goes_down, still_found, still_visited, waiting}
use Rattle.dom_select.specs.Has.{is_deep}
use Rattle.dom_mini.specs.PathFlags.{data_at, flag_below, flag_beside, flags_below, flags_beside, is_any, is_led, led_from, led_in, row_of}
use Rattle.dom_select.specs.Selected.{one_if}
use Rattle.dom_mini.proofs.SearchLemmas.{none_in, off_below}

-- one step's flag

both_true : (x y : Bool) → (x && y) ≡ true → (x ≡ true) × (y ≡ true)
both_true true y e = (refl, e)
both_true false y e = absurd (true≢false (sym e))

deep_below : (k : Combinator) (element here on : Bool) → is_deep k ≡ true → flag_below k element here on ≡ (here || on)
deep_below Descendant element here on deep = refl
deep_below Child element here on deep = absurd (true≢false (sym deep))
deep_below Adjacent element here on deep = absurd (true≢false (sym deep))
deep_below Sibling element here on deep = absurd (true≢false (sym deep))

deep_beside : (k : Combinator) (element here on : Bool) → is_deep k ≡ true → flag_beside k element here on ≡ on
deep_beside Descendant element here on deep = refl
deep_beside Child element here on deep = absurd (true≢false (sym deep))
deep_beside Adjacent element here on deep = absurd (true≢false (sym deep))
deep_beside Sibling element here on deep = absurd (true≢false (sym deep))

or_true : (here : Bool) → (here || true) ≡ true
or_true true = refl
or_true false = refl

or_false : (here : Bool) → (here || false) ≡ here
or_false true = refl
or_false false = refl

on_below : (k : Combinator) (element here : Bool) → is_deep k ≡ true → flag_below k element here true ≡ true
on_below k element here deep = deep_below k element here true deep ∙ or_true here

here_below : (k : Combinator) (element here : Bool) → is_deep k ≡ true → flag_below k element here false ≡ here
here_below k element here deep = deep_below k element here false deep ∙ or_false here

-- flags of which none is set

abbrev pub off : List Mini → List Bool
off minis = replicate (length minis) false

off_flags : (minis : List Mini) (node : NodeData) → flags_below minis node false (off minis) ≡ off minis
off_flags [] node = refl
off_flags (mini ∷ minis) node =
    ap (λ b. b ∷ flags_below minis node false (off minis)) (off_below (combinator_of mini) (is_element node)) ∙ ap (λ fs. false ∷ fs) (off_flags minis node)

off_led : (minis : List Mini) (node : NodeData) → is_led minis node false (off minis) ≡ false
off_led [] node = refl
off_led (mini ∷ minis) node = off_led minis node

module _ (node : NodeData) where
  -- the step isn't passed
  pub stays : (minis : List Mini) (here : Bool) (k : ℕ) (mini : Mini) → goes_down minis ≡ true → slice_get minis k ≡ Some mini → node_passes mini node ≡ false →
      flags_below minis node here (flags_after minis k) ≡ flags_after minis k
  stays [] here k mini deep is fails = refl
  stays (m ∷ minis) here zero mini deep is fails =
      let d = both_true (is_deep (combinator_of m)) (goes_down minis) deep in
      let off_here : node_passes m node ≡ false = ap (λ x. node_passes x node) (same_Some m mini is) ∙ fails in
      ap (λ b. b ∷ flags_below minis node (node_passes m node) (off minis)) (on_below (combinator_of m) (is_element node) here d.0)
      ∙ ap (λ b. true ∷ flags_below minis node b (off minis)) off_here ∙ ap (λ fs. true ∷ fs) (off_flags minis node)
  stays (m ∷ minis) here (suc k) mini deep is fails =
      let d = both_true (is_deep (combinator_of m)) (goes_down minis) deep in
      ap (λ b. b ∷ flags_below minis node (node_passes m node) (flags_after minis k)) (on_below (combinator_of m) (is_element node) here d.0)
      ∙ ap (λ fs. true ∷ fs) (stays minis (node_passes m node) k mini d.1 is fails)

  -- it is the last
  pub at_last : (minis : List Mini) (here : Bool) (k : ℕ) → goes_down minis ≡ true → suc k ≡ length minis → flags_below minis node here (flags_after minis k) ≡ flags_after minis k
  at_last [] here k deep last = refl
  at_last (m ∷ []) here zero deep last = ap (λ b. b ∷ []) (on_below (combinator_of m) (is_element node) here (both_true (is_deep (combinator_of m)) true deep).0)
  at_last (m ∷ o ∷ minis) here zero deep last = absurd (omega (arith, last))
  at_last (m ∷ minis) here (suc k) deep last =
      let d = both_true (is_deep (combinator_of m)) (goes_down minis) deep in
      ap (λ b. b ∷ flags_below minis node (node_passes m node) (flags_after minis k)) (on_below (combinator_of m) (is_element node) here d.0)
      ∙ ap (λ fs. true ∷ fs) (at_last minis (node_passes m node) k d.1 (omega (arith, last)))

  -- it is passed
  pub goes : (minis : List Mini) (here : Bool) (k : ℕ) (mini : Mini) → goes_down minis ≡ true → slice_get minis k ≡ Some mini → node_passes mini node ≡ true → suc k < length minis →
      flags_below minis node here (flags_after minis k) ≡ flags_after minis (suc k)
  goes [] here k mini deep is passes more = refl
  goes (m ∷ []) here zero mini deep is passes more = absurd (omega (arith, more))
  goes (m ∷ o ∷ minis) here zero mini deep is passes more =
      let d = both_true (is_deep (combinator_of m)) (goes_down (o ∷ minis)) deep in
      let e = both_true (is_deep (combinator_of o)) (goes_down minis) d.1 in
      let on_here : node_passes m node ≡ true = ap (λ x. node_passes x node) (same_Some m mini is) ∙ passes in
      ap (λ b. b ∷ flags_below (o ∷ minis) node (node_passes m node) (off (o ∷ minis))) (on_below (combinator_of m) (is_element node) here d.0)
      ∙ ap (λ b. true ∷ flags_below (o ∷ minis) node b (off (o ∷ minis))) on_here
      ∙ ap (λ b. true ∷ b ∷ flags_below minis node false (off minis)) (here_below (combinator_of o) (is_element node) true e.0)
      ∙ ap (λ fs. true ∷ true ∷ fs) (off_flags minis node)
  goes (m ∷ minis) here (suc k) mini deep is passes more =
      let d = both_true (is_deep (combinator_of m)) (goes_down minis) deep in
      ap (λ b. b ∷ flags_below minis node (node_passes m node) (flags_after minis k)) (on_below (combinator_of m) (is_element node) here d.0)
      ∙ ap (λ fs. true ∷ fs) (goes minis (node_passes m node) k mini d.1 is passes (omega (arith, more)))

  pub goes_on : (minis : List Mini) (k : ℕ) (mini : Mini) → goes_down minis ≡ true → slice_get minis k ≡ Some mini → node_passes mini node ≡ true → k + 1 < length minis →
      flags_below minis node false (flags_after minis k) ≡ flags_after minis (k + 1)
  goes_on minis k mini deep is passes more = let one : suc k ≡ k + 1 = omega arith in goes minis false k mini deep is passes (omega (arith, more)) ∙ ap (flags_after minis) one

  -- siblings have the same flags
  pub beside : (minis : List Mini) (here : Bool) (flags : List Bool) → goes_down minis ≡ true → length flags ≡ length minis → flags_beside minis node here flags ≡ flags
  beside [] here [] deep long = refl
  beside [] here (on ∷ flags) deep long = absurd (omega (arith, long))
  beside (m ∷ minis) here [] deep long = absurd (omega (arith, long))
  beside (m ∷ minis) here (on ∷ flags) deep long =
      let d = both_true (is_deep (combinator_of m)) (goes_down minis) deep in
      ap (λ b. b ∷ flags_beside minis node (on && node_passes m node) flags) (deep_beside (combinator_of m) (is_element node) here on d.0)
      ∙ ap (λ fs. on ∷ fs) (beside minis (on && node_passes m node) flags d.1 (omega (arith, long)))

  -- whether the path leads to the node

  pub not_led : (minis : List Mini) (here : Bool) (k : ℕ) (mini : Mini) → slice_get minis k ≡ Some mini → node_passes mini node ≡ false → is_led minis node here (flags_after minis k) ≡ false
  not_led [] here k mini is fails = cc
  not_led (m ∷ minis) here zero mini is fails =
      ap (λ b. is_led minis node b (off minis)) (ap (λ x. node_passes x node) (same_Some m mini is) ∙ fails) ∙ off_led minis node
  not_led (m ∷ minis) here (suc k) mini is fails = not_led minis (node_passes m node) k mini is fails

  pub led_later : (minis : List Mini) (here : Bool) (k : ℕ) → suc k < length minis → is_led minis node here (flags_after minis k) ≡ false
  led_later [] here k more = absurd (omega (arith, more))
  led_later (m ∷ []) here zero more = absurd (omega (arith, more))
  led_later (m ∷ o ∷ minis) here zero more = off_led minis node
  led_later (m ∷ minis) here (suc k) more = led_later minis (node_passes m node) k (omega (arith, more))

  pub led_last : (minis : List Mini) (here : Bool) (k : ℕ) (mini : Mini) → slice_get minis k ≡ Some mini → node_passes mini node ≡ true → suc k ≡ length minis → is_led minis node here (flags_after minis k) ≡ true
  led_last [] here k mini is passes last = absurd (omega (arith, last))
  led_last (m ∷ []) here zero mini is passes last = ap (λ x. node_passes x node) (same_Some m mini is) ∙ passes
  led_last (m ∷ o ∷ minis) here zero mini is passes last = absurd (omega (arith, last))
  led_last (m ∷ minis) here (suc k) mini is passes last = led_last minis (node_passes m node) k mini is passes (omega (arith, last))

off_any : (minis : List Mini) → is_any (off minis) ≡ false
off_any [] = refl
off_any (m ∷ minis) = off_any minis

off_long : (minis : List Mini) → length (off minis) ≡ length minis
off_long [] = refl
off_long (m ∷ minis) = ap (λ n. suc n) (off_long minis)

start_led : (node : NodeData) (minis : List Mini) → 0 < length minis → is_led minis node true (off minis) ≡ false
start_led node [] some = absurd (omega (arith, some))
start_led node (m ∷ minis) some = off_led minis node

start_below : (node : NodeData) (minis : List Mini) → goes_down minis ≡ true → 0 < length minis → flags_below minis node true (off minis) ≡ flags_after minis 0
start_below node [] deep some = refl
start_below node (m ∷ minis) deep some =
    ap (λ b. b ∷ flags_below minis node false (off minis)) (here_below (combinator_of m) (is_element node) true (both_true (is_deep (combinator_of m)) (goes_down minis) deep).0)
    ∙ ap (λ fs. true ∷ fs) (off_flags minis node)

pub flags_long : (minis : List Mini) (k : ℕ) → length (flags_after minis k) ≡ length minis
flags_long [] k = refl
flags_long (m ∷ minis) zero = ap (λ n. suc n) (off_long minis)
flags_long (m ∷ minis) (suc k) = ap (λ n. suc n) (flags_long minis k)

-- the nodes to be visited once a node's next sibling and its first child wait
abbrev pub behind : Forest → List (ℕ × ℕ) → ℕ → ℕ → ℕ → List (ℕ × ℕ)
behind forest ws n k b = (ws ++ waiting (after (siblings forest n) n) k) ++ waiting (first (children_of forest n)) b

module _ (forest : Forest) (minis : List Mini) where
  abbrev pub steps : ℕ
  steps = length minis

  -- from a node on, and its later siblings
  abbrev pub from_next : ℕ → Option ℕ → List ℕ
  from_next k next = led_in forest minis (flags_after minis k) (trees forest (row_on forest false next))

  abbrev pub visits_from : Option ℕ → ℕ
  visits_from next = length (walk (trees forest (row_on forest false next)))

  none_from : AreTrees forest → (k : ℕ) → from_next k None ≡ []
  none_from whole k = ap (led_in forest minis (flags_after minis k)) whole.no_trees

  pub found_put : AreTrees forest → (ws : List (ℕ × ℕ)) (next : Option ℕ) (k : ℕ) → still_found forest minis (ws ++ waiting next k) ≡ from_next k next ++ still_found forest minis ws
  found_put whole [] None k = sym (ap (λ ns. ns ++ []) (none_from whole k))
  found_put whole [] (Some n) k = sym (append-nil (from_next k (Some n)))
  found_put whole (w ∷ ws) next k =
      ap (λ ns. ns ++ led_in forest minis (flags_after minis w.1) (row_of forest w.0)) (found_put whole ws next k)
      ∙ append_assoc (from_next k next) (still_found forest minis ws) (led_in forest minis (flags_after minis w.1) (row_of forest w.0))

  visits_none : AreTrees forest → visits_from None ≡ 0
  visits_none whole = ap (λ t. length (walk t)) whole.no_trees

  pub visits_put : AreTrees forest → (ws : List (ℕ × ℕ)) (next : Option ℕ) (k : ℕ) → still_visited forest (ws ++ waiting next k) ≡ visits_from next + still_visited forest ws
  visits_put whole [] None k = let none = visits_none whole in omega (arith, none)
  visits_put whole [] (Some n) k = refl
  visits_put whole (w ∷ ws) next k = let rest = visits_put whole ws next k in omega (arith, rest)

  pub known_put : (ws : List (ℕ × ℕ)) (next : Option ℕ) (k : ℕ) → AreWaiting forest steps ws → IsWithin forest next → k < steps → AreWaiting forest steps (ws ++ waiting next k)
  known_put [] None k known within few = tt
  known_put [] (Some n) k known within few = ((within, few), tt)
  known_put (w ∷ ws) next k known within few = (known.0, known_put ws next k known.1 within few)

  pub known_split : (ws : List (ℕ × ℕ)) (n k : ℕ) → AreWaiting forest steps (ws ++ waiting (Some n) k) → AreWaiting forest steps ws × (n < length forest.content) × (k < steps)
  known_split [] n k known = (tt, known.0.0, known.0.1)
  known_split (w ∷ ws) n k known = let rest = known_split ws n k known.1 in ((known.0, rest.0), rest.1, rest.2)

  pub known_at : (ws : List (ℕ × ℕ)) (next : Option ℕ) (n k : ℕ) → next ≡ Some n → AreWaiting forest steps (ws ++ waiting next k) → AreWaiting forest steps ws × (n < length forest.content) × (k < steps)
  known_at ws next n k is known = known_split ws n k (subst (λ o. AreWaiting forest steps (ws ++ waiting o k)) is known)

  joined : (found one below beside rest : List ℕ) → (found ++ one) ++ (below ++ (beside ++ rest)) ≡ found ++ ((one ++ (below ++ beside)) ++ rest)
  joined found one below beside rest =
      append_assoc found one (below ++ (beside ++ rest))
      ∙ ap (λ ns. found ++ ns) (ap (λ ns. one ++ ns) (sym (append_assoc below beside rest)) ∙ sym (append_assoc one (below ++ beside) rest))

  module _ (whole : AreTrees forest) (lines : AreLines forest) (deep : goes_down minis ≡ true) where
    beside_is : (n k : ℕ) → flags_beside minis (data_at forest n) false (flags_after minis k) ≡ flags_after minis k
    beside_is n k = beside (data_at forest n) minis false (flags_after minis k) deep (flags_long minis k)

    -- what is found at a node and from it on
    pub found_at : (n k b : ℕ) → n < length forest.content → flags_below minis (data_at forest n) false (flags_after minis k) ≡ flags_after minis b →
        led_in forest minis (flags_after minis k) (row_of forest n)
        ≡ one_if (is_led minis (data_at forest n) false (flags_after minis k)) n ++ (from_next b (first (children_of forest n)) ++ from_next k (after (siblings forest n) n))
    found_at n k b known below =
        let node = data_at forest n in
        let flags = flags_after minis k in
        let one = one_if (is_led minis node false flags) n in
        let children = trees forest (children_of forest n) in
        let more = trees forest (later forest false n) in
        ap (led_in forest minis flags) (lines.row_trees n known)
        ∙ ap (λ fs. one ++ (led_in forest minis fs children ++ led_in forest minis (flags_beside minis node false flags) more)) below
        ∙ ap (λ fs. one ++ (led_in forest minis (flags_after minis b) children ++ led_in forest minis fs more)) (beside_is n k)
        ∙ ap (λ ns. one ++ (led_in forest minis (flags_after minis b) (trees forest ns) ++ led_in forest minis flags more)) (lines.below false n)
        ∙ ap (λ ns. one ++ (from_next b (first (children_of forest n)) ++ led_in forest minis flags (trees forest ns))) (lines.beside false n)

    pub found_behind : (ws : List (ℕ × ℕ)) (n k b : ℕ) → still_found forest minis (behind forest ws n k b) ≡ from_next b (first (children_of forest n)) ++ (from_next k (after (siblings forest n) n) ++ still_found forest minis ws)
    found_behind ws n k b =
        found_put whole (ws ++ waiting (after (siblings forest n) n) k) (first (children_of forest n)) b
        ∙ ap (λ ns. from_next b (first (children_of forest n)) ++ ns) (found_put whole ws (after (siblings forest n) n) k)

    -- a node was visited
    pub visited : (found ws_found all : List ℕ) (ws ws_1 : List (ℕ × ℕ)) (n k b : ℕ) → IsDescent forest minis all found (ws ++ waiting (Some n) k) → IsPassed minis (data_at forest n) k b →
        ws_found ≡ found ++ one_if (is_led minis (data_at forest n) false (flags_after minis k)) n → ws_1 ≡ behind forest ws n k b → IsDescent forest minis all ws_found ws_1
    visited found ws_found all ws ws_1 n k b is passed new waits =
        let known = known_split ws n k is.known in
        let one = one_if (is_led minis (data_at forest n) false (flags_after minis k)) n in
        let inner = from_next b (first (children_of forest n)) in
        let more = from_next k (after (siblings forest n) n) in
        record {
          known = subst (AreWaiting forest steps) (sym waits)
              (known_put (ws ++ waiting (after (siblings forest n) n) k) (first (children_of forest n)) b
              (known_put ws (after (siblings forest n) n) k known.0 (lines.beside_known false n) known.2) (lines.below_known false n) passed.few);
          whole =
              ap (λ ns. ns ++ still_found forest minis ws_1) new ∙ ap (λ us. (found ++ one) ++ still_found forest minis us) waits
              ∙ ap (λ ns. (found ++ one) ++ ns) (found_behind ws n k b)
              ∙ joined found one inner more (still_found forest minis ws)
              ∙ ap (λ ns. found ++ (ns ++ still_found forest minis ws)) (sym (found_at n k b known.1 passed.flags))
              ∙ ap (λ ns. found ++ ns) (sym (found_put whole ws (Some n) k))
              ∙ is.whole;
        }

    pub fewer : (ws ws_1 : List (ℕ × ℕ)) (n k b : ℕ) → n < length forest.content → ws_1 ≡ behind forest ws n k b → still_visited forest ws_1 < still_visited forest (ws ++ waiting (Some n) k)
    fewer ws ws_1 n k b known waits =
        let row = ap (λ t. length (walk t)) (lines.row_trees n known) in
        let both = length-append (walk (trees forest (children_of forest n))) (walk (trees forest (later forest false n))) in
        let inner = ap (λ ns. length (walk (trees forest ns))) (lines.below false n) in
        let more = ap (λ ns. length (walk (trees forest ns))) (lines.beside false n) in
        let new = ap (still_visited forest) waits in
        let child = visits_put whole (ws ++ waiting (after (siblings forest n) n) k) (first (children_of forest n)) b in
        let sibling = visits_put whole ws (after (siblings forest n) n) k in
        let old = visits_put whole ws (Some n) k in
        omega (arith, row, both, inner, more, new, child, sibling, old)

    -- at the start no step is passed, and the path leads to no node beside it
    pub from_start : (x : ℕ) → 0 < steps → led_from forest minis true (replicate steps false) x ≡ still_found forest minis (waiting (first (children_of forest x)) 0)
    from_start x some =
        let node = data_at forest x in
        let children = trees forest (children_of forest x) in
        let more = trees forest (later forest false x) in
        let rest = led_in forest minis (flags_beside minis node true (off minis)) more in
        ap (λ b. one_if b x ++ (led_in forest minis (flags_below minis node true (off minis)) children ++ rest)) (start_led node minis some)
        ∙ ap (λ fs. led_in forest minis fs children ++ rest) (start_below node minis deep some)
        ∙ ap (λ fs. led_in forest minis (flags_after minis 0) children ++ led_in forest minis fs more) (beside node minis true (off minis) deep (off_long minis))
        ∙ ap (λ ns. led_in forest minis (flags_after minis 0) children ++ ns) (none_in forest minis (off minis) more (off_any minis))
        ∙ append-nil (led_in forest minis (flags_after minis 0) children)
        ∙ ap (λ ns. led_in forest minis (flags_after minis 0) (trees forest ns)) (lines.below false x)
        ∙ sym (append-nil (from_next 0 (first (children_of forest x))))
        ∙ sym (found_put whole [] (first (children_of forest x)) 0)

    -- the traversal begins at the first child
    pub begun : (x : ℕ) (found : List ℕ) (ws : List (ℕ × ℕ)) (next : Option ℕ) → found ≡ [] → ws ≡ [] → next ≡ first (children_of forest x) → 0 < steps →
        IsDescent forest minis (still_found forest minis (waiting (first (children_of forest x)) 0)) found (ws ++ waiting next 0)
    begun x found ws next none alone at some =
        let child = first (children_of forest x) in
        let all = still_found forest minis (waiting child 0) in
        subst (λ o. IsDescent forest minis all found (ws ++ waiting o 0)) (sym at)
        (subst (λ us. IsDescent forest minis all found (us ++ waiting child 0)) (sym alone)
        (subst (λ ns. IsDescent forest minis all ns (waiting child 0)) (sym none)
        (record { known = known_put [] child 0 tt (lines.below_known false x) some; whole = refl })))

    -- it ends where no node is to be visited
    pub ended : (all found : List ℕ) (ws : List (ℕ × ℕ)) (next : Option ℕ) (k : ℕ) → next ≡ None → ws ≡ [] → IsDescent forest minis all found (ws ++ waiting next k) → found ≡ all
    ended all found ws next k none alone is =
        sym (append-nil found) ∙ ap (λ us. found ++ still_found forest minis us) (sym (ap (λ us. us ++ waiting next k) alone ∙ ap (λ o. waiting o k) none)) ∙ is.whole

pub none_more : (found : List ℕ) (n : ℕ) (b : Bool) → b ≡ false → found ≡ found ++ one_if b n
none_more found n b e = sym (append-nil found) ∙ ap (λ c. found ++ one_if c n) (sym e)

pub one_more : (found : List ℕ) (n : ℕ) (b : Bool) → b ≡ true → found ++ n ∷ [] ≡ found ++ one_if b n
one_more found n b e = ap (λ c. found ++ one_if c n) (sym e)

-- what waits behind a node is what waits behind its links
pub step_of : (forest : Forest) (ws ws_1 : List (ℕ × ℕ)) (n k b k_1 : ℕ) (sibling child next predicted : Option ℕ) → predicted ≡ next → sibling ≡ after (siblings forest n) n → child ≡ first (children_of forest n) →
    ws_1 ++ waiting next k_1 ≡ (ws ++ waiting sibling k) ++ waiting child b → ws_1 ++ waiting predicted k_1 ≡ behind forest ws n k b
step_of forest ws ws_1 n k b k_1 sibling child next predicted same beside below waits =
    ap (λ o. ws_1 ++ waiting o k_1) same ∙ waits ∙ ap (λ o. (ws ++ waiting o k) ++ waiting child b) beside
    ∙ ap (λ o. (ws ++ waiting (after (siblings forest n) n) k) ++ waiting o b) below
