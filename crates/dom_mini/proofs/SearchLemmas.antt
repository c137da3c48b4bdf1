-- The steps of a traversal that follows a path.
use Rattle.std.proofs.Common.{◌≡◌, ◌⊎◌, ◌<◌, ◌≤◌, ◌+◌, ◌-◌, ℕ, zero, suc, List, [], ◌∷◌, ◌++◌, length, take, drop, set, Bool, true, false, Option, Some, None, inl, inr, refl, sym, ap, ◌∙◌, subst, true≢false, arith, append_assoc, append-nil, length-append}
use Rattle.std.specs.Option.{is_some}
use Rattle.std.specs.Prelude.{◌&&◌, ◌||◌, MatchOption, slice_get, slice_index_or}
use Rattle.std.proofs.lemmas.List.{length-drop}
use Rattle.std.proofs.lemmas.Option.{same_Some}
use Rattle.dom_nodes.specs.Kinds.{is_element}
use Rattle.dom_nodes.specs.declared.node_data.NodeData.{NodeData}
use Rattle.dom_nodes.specs.declared.node_data.NodeData.TheVariants.{Document}
use Rattle.dom_links.specs.Copying.{AreNodesOf}
use Rattle.dom_links.specs.Forest.{Forest, children_of, siblings}
use Rattle.dom_links.specs.Laws.{AreLines, AreTrees}
use Rattle.dom_links.specs.Lists.{after, first}
use Rattle.dom_links.specs.Trees.{Trees, NoTrees, Tree, trees, walk}
use Rattle.dom_links.specs.Walk.{IsWithin, later, row_on}
use Rattle.dom_selectors.specs.declared.syntax.Combinator.{Combinator}
use Rattle.dom_selectors.specs.declared.syntax.Combinator.TheVariants.{Descendant, Child, Adjacent, Sibling}
use Rattle.dom_selectors.specs.MiniSyntax.{Mini, combinator_of}
use Rattle.dom_selectors.specs.MiniTruth.{node_passes}
use Rattle.dom_mini.specs.declared.mini_selector.search.PathSearch.{PathSearch}
use Rattle.dom_mini.specs.PathFlags.{HaveFlags, IsPutBehind, IsSearch, IsVisit, IsVisited, IsWaiting, data_at, flag_below, flag_beside, flags_at, flags_before, flags_below, flags_beside, found_by, is_any, is_led, last_flags, led_from, led_in, row_of, to_find, to_visit}
use Rattle.dom_select.specs.Selected.{one_if}

-- lists

module _ {A : Type 0} where
  pub take_front : (xs ys : List A) (n : ℕ) → length xs ≡ n → take n (xs ++ ys) ≡ xs
  take_front [] ys zero e = refl
  take_front [] ys (suc n) e = absurd (omega (arith, e))
  take_front (x ∷ xs) ys zero e = absurd (omega (arith, e))
  take_front (x ∷ xs) ys (suc n) e = ap (λ zs. x ∷ zs) (take_front xs ys n (omega (arith, e)))

  pub drop_front : (xs ys : List A) (n : ℕ) → length xs ≡ n → drop n (xs ++ ys) ≡ ys
  drop_front [] ys zero e = refl
  drop_front [] ys (suc n) e = absurd (omega (arith, e))
  drop_front (x ∷ xs) ys zero e = absurd (omega (arith, e))
  drop_front (x ∷ xs) ys (suc n) e = drop_front xs ys n (omega (arith, e))

  pub take_within : (xs ys : List A) (n : ℕ) → n ≤ length xs → take n (xs ++ ys) ≡ take n xs
  take_within xs ys zero h = refl
  take_within [] ys (suc n) h = absurd (omega (arith, h))
  take_within (x ∷ xs) ys (suc n) h = ap (λ zs. x ∷ zs) (take_within xs ys n (omega (arith, h)))

  pub drop_within : (xs ys : List A) (n : ℕ) → n ≤ length xs → drop n (xs ++ ys) ≡ drop n xs ++ ys
  drop_within xs ys zero h = refl
  drop_within [] ys (suc n) h = absurd (omega (arith, h))
  drop_within (x ∷ xs) ys (suc n) h = drop_within xs ys n (omega (arith, h))

  pub take_whole : (xs : List A) (n : ℕ) → length xs ≡ n → take n xs ≡ xs
  take_whole xs n e = ap (take n) (sym (append-nil xs)) ∙ take_front xs [] n e

  pub drop_whole : (xs : List A) (n : ℕ) → length xs ≡ n → drop n xs ≡ []
  drop_whole xs n e = ap (drop n) (sym (append-nil xs)) ∙ drop_front xs [] n e

  -- all from a place on was written again
  pub rest_put : (xs ys : List A) (n : ℕ) → take n xs ++ (ys ++ drop (length xs - n) (drop n xs)) ≡ take n xs ++ ys
  rest_put xs ys n = ap (λ zs. take n xs ++ (ys ++ zs)) (drop_whole (drop n xs) (length xs - n) (length-drop n xs)) ∙ ap (λ zs. take n xs ++ zs) (append-nil ys)

  pub length_of_take : (xs : List A) (n : ℕ) → n ≤ length xs → length (take n xs) ≡ n
  length_of_take xs zero h = refl
  length_of_take [] (suc n) h = absurd (omega (arith, h))
  length_of_take (x ∷ xs) (suc n) h = ap (λ k. suc k) (length_of_take xs n (omega (arith, h)))

  pub whole_of_none : (xs : List A) (n : ℕ) → n ≤ length xs → drop n xs ≡ [] → length xs ≡ n
  whole_of_none [] zero h e = refl
  whole_of_none [] (suc n) h e = absurd (omega (arith, h))
  whole_of_none (x ∷ xs) zero h e = absurd (omega (arith, ap length e))
  whole_of_none (x ∷ xs) (suc n) h e = ap (λ k. suc k) (whole_of_none xs n (omega (arith, h)) e)

  pub cut : (xs : List A) (n : ℕ) → xs ≡ take n xs ++ drop n xs
  cut xs zero = refl
  cut [] (suc n) = refl
  cut (x ∷ xs) (suc n) = ap (λ zs. x ∷ zs) (cut xs n)

  pub set_taken : (xs : List A) (i : ℕ) (v : A) → i < length xs → take (suc i) (set xs i v) ≡ take i xs ++ v ∷ []
  set_taken [] i v h = absurd (omega (arith, h))
  set_taken (x ∷ xs) zero v h = refl
  set_taken (x ∷ xs) (suc i) v h = ap (λ zs. x ∷ zs) (set_taken xs i v (omega (arith, h)))

  pub set_dropped : (xs : List A) (i : ℕ) (v : A) → drop (suc i) (set xs i v) ≡ drop (suc i) xs
  set_dropped [] i v = refl
  set_dropped (x ∷ xs) zero v = refl
  set_dropped (x ∷ xs) (suc i) v = set_dropped xs i v

-- what is known of an option that is none, and of one that is some

pub of_none : {A : Type 0} (o : Option A) (P : Type 0) (Q : A → Type 0) → is_some o ≡ false → MatchOption o P Q → P
of_none None P Q e h = h
of_none (Some v) P Q e h = absurd (true≢false e)

pub of_some : {A : Type 0} (o : Option A) (P : Type 0) (Q : A → Type 0) → is_some o ≡ true → MatchOption o P Q → (v : A) × Q v
of_some None P Q e h = absurd (true≢false (sym e))
of_some (Some v) P Q e h = (v, h)

-- where no flag is set, nothing is found

pub off_below : (k : Combinator) (element : Bool) → flag_below k element false false ≡ false
off_below Descendant element = refl
off_below Child element = refl
off_below Adjacent element = refl
off_below Sibling element = refl

off_beside : (k : Combinator) (element : Bool) → flag_beside k element false false ≡ false
off_beside Descendant element = refl
off_beside Child element = refl
off_beside Adjacent true = refl
off_beside Adjacent false = refl
off_beside Sibling element = refl

none_led : (minis : List Mini) (node : NodeData) (flags : List Bool) → is_any flags ≡ false → is_led minis node false flags ≡ false
none_led [] node flags e = refl
none_led (mini ∷ minis) node [] e = refl
none_led (mini ∷ minis) node (true ∷ flags) e = absurd (true≢false e)
none_led (mini ∷ minis) node (false ∷ flags) e = none_led minis node flags e

none_at : (flag : Combinator → Bool → Bool → Bool → Bool) → ((k : Combinator) (element : Bool) → flag k element false false ≡ false) →
    (minis : List Mini) (node : NodeData) (flags : List Bool) → is_any flags ≡ false → is_any (flags_at flag minis node false flags) ≡ false
none_at flag off [] node flags e = refl
none_at flag off (mini ∷ minis) node [] e = refl
none_at flag off (mini ∷ minis) node (true ∷ flags) e = absurd (true≢false e)
none_at flag off (mini ∷ minis) node (false ∷ flags) e = ap (λ b. b || is_any (flags_at flag minis node false flags)) (off (combinator_of mini) (is_element node)) ∙ none_at flag off minis node flags e

pub none_in : (forest : Forest) (minis : List Mini) (flags : List Bool) (t : Trees) → is_any flags ≡ false → led_in forest minis flags t ≡ []
none_in forest minis flags NoTrees e = refl
none_in forest minis flags (Tree n contents children later) e =
    let node = data_at forest n in
    ap (λ b. one_if b n ++ (led_in forest minis (flags_below minis node false flags) children ++ led_in forest minis (flags_beside minis node false flags) later)) (none_led minis node flags e)
    ∙ ap (λ ns. ns ++ led_in forest minis (flags_beside minis node false flags) later) (none_in forest minis (flags_below minis node false flags) children (none_at flag_below off_below minis node flags e))
    ∙ none_in forest minis (flags_beside minis node false flags) later (none_at flag_beside off_beside minis node flags e)

as_many_at : (flag : Combinator → Bool → Bool → Bool → Bool) (minis : List Mini) (node : NodeData) (here : Bool) (flags : List Bool) → length flags ≡ length minis →
    length (flags_at flag minis node here flags) ≡ length minis
as_many_at flag [] node here flags e = refl
as_many_at flag (mini ∷ minis) node here [] e = absurd (omega (arith, e))
as_many_at flag (mini ∷ minis) node here (on ∷ flags) e = ap (λ k. suc k) (as_many_at flag minis node (on && node_passes mini node) flags (omega (arith, e)))

pub as_many_beside : (minis : List Mini) (node : NodeData) (here : Bool) (flags : List Bool) → length flags ≡ length minis → length (flags_beside minis node here flags) ≡ length minis
as_many_beside = as_many_at flag_beside

pub as_many_below : (minis : List Mini) (node : NodeData) (here : Bool) (flags : List Bool) → length flags ≡ length minis → length (flags_below minis node here flags) ≡ length minis
as_many_below = as_many_at flag_below

pub data_is : (nodes : List NodeData) (n : ℕ) (node : NodeData) → slice_get nodes n ≡ Some node → slice_index_or nodes n Document ≡ node
data_is [] n node e = cc
data_is (m ∷ nodes) zero node e = same_Some m node e
data_is (m ∷ nodes) (suc n) node e = data_is nodes n node e

pub as_many_last : (minis : List Mini) (flags : List Bool) → length minis ≤ length flags → length (last_flags minis flags) ≡ length minis
as_many_last minis flags room = let last = length-drop (length flags - length minis) flags in omega (arith, last, room)

pub as_many_kept : (minis : List Mini) (node : NodeData) (here : Bool) (flags : List Bool) → length minis ≤ length flags →
    length (flags_before minis flags ++ flags_beside minis node here (last_flags minis flags)) ≡ length flags
as_many_kept minis node here flags room =
    let top = length flags - length minis in
    let front = length_of_take flags top (omega arith) in
    let beside = as_many_beside minis node here (last_flags minis flags) (as_many_last minis flags room) in
    let both = length-append (flags_before minis flags) (flags_beside minis node here (last_flags minis flags)) in
    omega (arith, front, beside, both, room)

pub empty_list : {A : Type 0} (xs : List A) → length xs ≡ 0 → xs ≡ []
empty_list [] e = refl
empty_list (x ∷ xs) e = absurd (omega (arith, e))

-- the flags of the last node to be visited

module _ (forest : Forest) (minis : List Mini) where
  abbrev steps : ℕ
  steps = length minis

  pub record Put (ids : List ℕ) (n : ℕ) (front one : List Bool) : Type 0 where
    pub flags : HaveFlags steps (ids ++ n ∷ []) (front ++ one)
    pub found : to_find forest minis (ids ++ n ∷ []) (front ++ one) ≡ led_in forest minis one (row_of forest n) ++ to_find forest minis ids front

  pub put : (ids : List ℕ) (n : ℕ) (front one : List Bool) → HaveFlags steps ids front → length one ≡ steps → Put ids n front one
  put [] n front one none long =
      subst (λ f. Put [] n f one) (sym none) (record {
        flags = (omega (arith, long), drop_whole one steps long);
        found = ap (λ fs. led_in forest minis fs (row_of forest n)) (take_whole one steps long) ∙ sym (append-nil (led_in forest minis one (row_of forest n)));
      })
  put (m ∷ ids) n front one have long =
      let rest = put ids n (drop steps front) one have.1 long in
      let dropped = drop_within front one steps have.0 in
      record {
        flags = (longer, subst (HaveFlags steps (ids ++ n ∷ [])) (sym dropped) rest.flags);
        found =
            ap (λ fs. to_find forest minis (ids ++ n ∷ []) fs ++ led_in forest minis (take steps (front ++ one)) (row_of forest m)) dropped
            ∙ ap (λ fs. to_find forest minis (ids ++ n ∷ []) (drop steps front ++ one) ++ led_in forest minis fs (row_of forest m)) (take_within front one steps have.0)
            ∙ ap (λ ns. ns ++ led_in forest minis (take steps front) (row_of forest m)) rest.found
            ∙ append_assoc (led_in forest minis one (row_of forest n)) (to_find forest minis ids (drop steps front)) (led_in forest minis (take steps front) (row_of forest m));
      }
    where
      longer : steps ≤ length (front ++ one)
      longer = let l = length-append front one in let h = have.0 in omega arith

  pub record Split (ids : List ℕ) (n : ℕ) (flags : List Bool) : Type 0 where
    pub front : List Bool
    pub one : List Bool
    pub is : flags ≡ front ++ one
    pub long : length one ≡ steps
    pub rest : HaveFlags steps ids front

  pub split : (ids : List ℕ) (n : ℕ) (flags : List Bool) → HaveFlags steps (ids ++ n ∷ []) flags → Split ids n flags
  split [] n flags have = record { front = []; one = flags; is = refl; long = whole_of_none flags steps have.0 have.1; rest = refl }
  split (m ∷ ids) n flags have =
      let s = split ids n (drop steps flags) have.1 in
      let taken = length_of_take flags steps have.0 in
      record {
        front = take steps flags ++ s.front;
        one = s.one;
        is = cut flags steps ∙ ap (λ fs. take steps flags ++ fs) s.is ∙ sym (append_assoc (take steps flags) s.front s.one);
        long = s.long;
        rest = ((let l = length-append (take steps flags) s.front in omega (arith, l, taken)), subst (HaveFlags steps ids) (sym (drop_front (take steps flags) s.front steps taken)) s.rest);
      }

  -- the last flags are those of the last node
  pub record Popped (ids : List ℕ) (n : ℕ) (flags : List Bool) : Type 0 where
    pub room : steps ≤ length flags
    pub long : length (last_flags minis flags) ≡ steps
    pub rest : HaveFlags steps ids (flags_before minis flags)
    pub found : to_find forest minis (ids ++ n ∷ []) flags ≡ led_in forest minis (last_flags minis flags) (row_of forest n) ++ to_find forest minis ids (flags_before minis flags)

  pub popped : (ids : List ℕ) (n : ℕ) (flags : List Bool) → HaveFlags steps (ids ++ n ∷ []) flags → Popped ids n flags
  popped ids n flags have =
      let s = split ids n flags have in
      let top : length (s.front ++ s.one) - steps ≡ length s.front = (let l = length-append s.front s.one in let e = s.long in omega arith) in
      let before : flags_before minis (s.front ++ s.one) ≡ s.front = take_front s.front s.one (length (s.front ++ s.one) - steps) (sym top) in
      let last : last_flags minis (s.front ++ s.one) ≡ s.one = drop_front s.front s.one (length (s.front ++ s.one) - steps) (sym top) in
      subst (Popped ids n) (sym s.is) (record {
        room = (let l = length-append s.front s.one in let e = s.long in omega arith);
        long = ap length last ∙ s.long;
        rest = subst (HaveFlags steps ids) (sym before) s.rest;
        found = (put ids n s.front s.one s.rest s.long).found ∙ ap (λ fs. led_in forest minis fs (row_of forest n) ++ to_find forest minis ids s.front) (sym last)
            ∙ ap (λ fs. led_in forest minis (last_flags minis (s.front ++ s.one)) (row_of forest n) ++ to_find forest minis ids fs) (sym before);
      })

  pub known_put : (ids : List ℕ) (n : ℕ) → AreNodesOf forest ids → n < length forest.content → AreNodesOf forest (ids ++ n ∷ [])
  known_put [] n known below = (below, tt)
  known_put (m ∷ ids) n known below = (known.0, known_put ids n known.1 below)

  pub known_split : (ids : List ℕ) (n : ℕ) → AreNodesOf forest (ids ++ n ∷ []) → AreNodesOf forest ids × (n < length forest.content)
  known_split [] n known = (tt, known.0)
  known_split (m ∷ ids) n known = let rest = known_split ids n known.1 in ((known.0, rest.0), rest.1)

  pub visits_put : (ids : List ℕ) (n : ℕ) → to_visit forest (ids ++ n ∷ []) ≡ length (walk (row_of forest n)) + to_visit forest ids
  visits_put [] n = refl
  visits_put (m ∷ ids) n = let rest = visits_put ids n in omega (arith, rest)

  -- a node was put behind the nodes to be visited, or there is nothing to be found from it on
  pub record Waited (next : Option ℕ) (front flags : List Bool) (pending new_pending : List ℕ) (new_flags : List Bool) : Type 0 where
    pub known : AreNodesOf forest new_pending
    pub have : HaveFlags steps new_pending new_flags
    pub found : to_find forest minis new_pending new_flags ≡ led_in forest minis flags (trees forest (row_on forest false next)) ++ to_find forest minis pending front
    pub fewer : to_visit forest new_pending ≤ length (walk (trees forest (row_on forest false next))) + to_visit forest pending

  none_waits : AreTrees forest → (next : Option ℕ) (flags : List Bool) → (next ≡ None) ⊎ (is_any flags ≡ false) → led_in forest minis flags (trees forest (row_on forest false next)) ≡ []
  none_waits whole next flags (inl none) = ap (λ o. led_in forest minis flags (trees forest (row_on forest false o))) none ∙ ap (led_in forest minis flags) whole.no_trees
  none_waits whole next flags (inr off) = none_in forest minis flags (trees forest (row_on forest false next)) off

  pub waited : AreTrees forest → (next : Option ℕ) (front flags : List Bool) (pending new_pending : List ℕ) (new_flags : List Bool) → IsPutBehind next front flags pending new_pending new_flags →
      AreNodesOf forest pending → HaveFlags steps pending front → length flags ≡ steps → IsWithin forest next → Waited next front flags pending new_pending new_flags
  waited whole next front flags pending new_pending new_flags (inl p) known have long within =
      let n = p.0 in
      let below : n < length forest.content = subst (IsWithin forest) p.1 within in
      let there = put pending n front flags have long in
      subst (λ o. Waited o front flags pending new_pending new_flags) (sym p.1)
      (subst (λ ns. Waited (Some n) front flags pending ns new_flags) (sym p.2)
      (subst (λ fs. Waited (Some n) front flags pending (pending ++ n ∷ []) fs) (sym p.3) (record {
        known = known_put pending n known below;
        have = there.flags;
        found = there.found;
        fewer = (let v = visits_put pending n in omega (arith, v));
      })))
  waited whole next front flags pending new_pending new_flags (inr p) known have long within =
      subst (λ ns. Waited next front flags pending ns new_flags) (sym p.1)
      (subst (λ fs. Waited next front flags pending pending fs) (sym p.2) (record {
        known = known;
        have = have;
        found = ap (λ ns. ns ++ to_find forest minis pending front) (sym (none_waits whole next flags p.0));
        fewer = omega arith;
      }))

  -- a node was visited: its next sibling and its first child wait

  joined : (found one below beside rest : List ℕ) → (found ++ one) ++ (below ++ (beside ++ rest)) ≡ found ++ ((one ++ (below ++ beside)) ++ rest)
  joined found one below beside rest =
      append_assoc found one (below ++ (beside ++ rest))
      ∙ ap (λ ns. found ++ ns) (ap (λ ns. one ++ ns) (sym (append_assoc below beside rest)) ∙ sym (append_assoc one (below ++ beside) rest))

  pub visited : AreLines forest → (n : ℕ) (here : Bool) (flags front flags_1 flags_2 : List Bool) (found found_1 pending pending_1 pending_2 : List ℕ) →
      found_1 ≡ found ++ one_if (is_led minis (data_at forest n) here flags) n →
      Waited (after (siblings forest n) n) front (flags_beside minis (data_at forest n) here flags) pending pending_1 flags_1 →
      Waited (first (children_of forest n)) flags_1 (flags_below minis (data_at forest n) here flags) pending_1 pending_2 flags_2 →
      found_1 ++ to_find forest minis pending_2 flags_2 ≡ found ++ (led_from forest minis here flags n ++ to_find forest minis pending front)
  visited lines n here flags front flags_1 flags_2 found found_1 pending pending_1 pending_2 new beside below =
      let node = data_at forest n in
      let inner = led_in forest minis (flags_below minis node here flags) in
      let more = led_in forest minis (flags_beside minis node here flags) in
      let one = one_if (is_led minis node here flags) n in
      let behind : to_find forest minis pending_2 flags_2 ≡ inner (trees forest (children_of forest n)) ++ (more (trees forest (later forest false n)) ++ to_find forest minis pending front) =
      below.found ∙ ap (λ ns. inner (trees forest ns) ++ to_find forest minis pending_1 flags_1) (sym (lines.below false n))
      ∙ ap (λ ns. inner (trees forest (children_of forest n)) ++ ns) (beside.found ∙ ap (λ ns. more (trees forest ns) ++ to_find forest minis pending front) (sym (lines.beside false n))) in
      ap (λ ns. ns ++ to_find forest minis pending_2 flags_2) new ∙ ap (λ ns. (found ++ one) ++ ns) behind
      ∙ joined found one (inner (trees forest (children_of forest n))) (more (trees forest (later forest false n))) (to_find forest minis pending front)

  pub visits_fewer : AreLines forest → (n : ℕ) (front flags flags_1 flags_2 other : List Bool) (pending pending_1 pending_2 : List ℕ) → n < length forest.content →
      Waited (after (siblings forest n) n) front flags pending pending_1 flags_1 → Waited (first (children_of forest n)) flags_1 other pending_1 pending_2 flags_2 →
      to_visit forest pending_2 < length (walk (row_of forest n)) + to_visit forest pending
  visits_fewer lines n front flags flags_1 flags_2 other pending pending_1 pending_2 known beside below =
      let row = ap (λ t. length (walk t)) (lines.row_trees n known) in
      let both = length-append (walk (trees forest (children_of forest n))) (walk (trees forest (later forest false n))) in
      let inner = ap (λ ns. length (walk (trees forest ns))) (lines.below false n) in
      let more = ap (λ ns. length (walk (trees forest ns))) (lines.beside false n) in
      let b = below.fewer in
      let s = beside.fewer in
      omega (arith, row, both, inner, more, b, s)

  -- visited from another node, it gives what it and its later siblings give
  pub from_another : AreLines forest → (n : ℕ) (flags : List Bool) → n < length forest.content → led_from forest minis false flags n ≡ led_in forest minis flags (row_of forest n)
  from_another lines n flags known = ap (led_in forest minis flags) (sym (lines.row_trees n known))

  -- the node was visited
  pub was_visited : AreTrees forest → AreLines forest → (n : ℕ) (here : Bool) → n < length forest.content → (old s1 s2 s3 : PathSearch) (top : ℕ) → top ≡ length old.flags.items - steps → IsVisit forest minis old →
      s1.pending.items ≡ old.pending.items →
      s1.flags.items ≡ flags_before minis old.flags.items ++ flags_beside minis (data_at forest n) here (last_flags minis old.flags.items) →
      s1.below.items ≡ flags_below minis (data_at forest n) here (last_flags minis old.flags.items) →
      s1.found.items ≡ old.found.items ++ one_if (is_led minis (data_at forest n) here (last_flags minis old.flags.items)) n →
      IsWaiting (after (siblings forest n) n) (take top s1.flags.items) (drop top s1.flags.items) s1 s2 →
      IsWaiting (first (children_of forest n)) s2.flags.items s2.below.items s2 s3 → IsVisited forest minis n here old s3
  was_visited whole lines n here known old s1 s2 s3 top at visit pending flags below found beside inner =
      let node = data_at forest n in
      let next = after (siblings forest n) n in
      let child = first (children_of forest n) in
      let last = last_flags minis old.flags.items in
      let front = flags_before minis old.flags.items in
      let next_flags = flags_beside minis node here last in
      let child_flags = flags_below minis node here last in
      let taken = length_of_take old.flags.items (length old.flags.items - steps) (omega arith) in
      let long = as_many_last minis old.flags.items visit.room in
      let at_top : length front ≡ top = taken ∙ sym at in
      let first_is : take top s1.flags.items ≡ front = ap (take top) flags ∙ take_front front next_flags top at_top in
      let last_is : drop top s1.flags.items ≡ next_flags = ap (drop top) flags ∙ drop_front front next_flags top at_top in
      let put_1 : IsPutBehind next front next_flags old.pending.items s2.pending.items s2.flags.items =
      subst (λ fs. IsPutBehind next fs next_flags old.pending.items s2.pending.items s2.flags.items) first_is
      (subst (λ fs. IsPutBehind next (take top s1.flags.items) fs old.pending.items s2.pending.items s2.flags.items) last_is
      (subst (λ ns. IsPutBehind next (take top s1.flags.items) (drop top s1.flags.items) ns s2.pending.items s2.flags.items) pending beside.put)) in
      let w1 = waited whole next front next_flags old.pending.items s2.pending.items s2.flags.items put_1 visit.known visit.flags (as_many_beside minis node here last long) (lines.beside_known false n) in
      let below_is : s2.below.items ≡ child_flags = beside.below ∙ below in
      let put_2 : IsPutBehind child s2.flags.items child_flags s2.pending.items s3.pending.items s3.flags.items =
      subst (λ fs. IsPutBehind child s2.flags.items fs s2.pending.items s3.pending.items s3.flags.items) below_is inner.put in
      let w2 = waited whole child s2.flags.items child_flags s2.pending.items s3.pending.items s3.flags.items put_2 w1.known w1.have (as_many_below minis node here last long) (lines.below_known false n) in
      record {
        search = record { known = w2.known; flags = w2.have; below = ap length (inner.below ∙ below_is) ∙ as_many_below minis node here last long };
        found = visited lines n here last front s2.flags.items s3.flags.items old.found.items s3.found.items old.pending.items s2.pending.items s3.pending.items (inner.found ∙ beside.found ∙ found) w1 w2;
        fewer = visits_fewer lines n front next_flags s2.flags.items s3.flags.items child_flags old.pending.items s2.pending.items s3.pending.items known w1 w2;
      }

  -- the last node to be visited was taken off
  pub taken_off : (old : PathSearch) (rest : List ℕ) (n : ℕ) → IsSearch forest minis old → old.pending.items ≡ rest ++ n ∷ [] → Popped rest n old.flags.items × AreNodesOf forest rest × (n < length forest.content)
  taken_off old rest n is off =
      let known = known_split rest n (subst (AreNodesOf forest) off is.known) in
      (popped rest n old.flags.items (subst (λ ns. HaveFlags steps ns old.flags.items) off is.flags), known.0, known.1)

  pub all_found : AreLines forest → (old left new : PathSearch) (n : ℕ) → IsSearch forest minis old → old.pending.items ≡ left.pending.items ++ n ∷ [] →
      left.flags.items ≡ old.flags.items → left.found.items ≡ old.found.items → IsVisited forest minis n false left new → found_by forest minis new ≡ found_by forest minis old
  all_found lines old left new n is off same_flags same_found visit =
      let off_it = taken_off old left.pending.items n is off in
      let rest = left.pending.items in
      visit.found
      ∙ ap (λ fs. left.found.items ++ (led_from forest minis false (last_flags minis fs) n ++ to_find forest minis rest (flags_before minis fs))) same_flags
      ∙ ap (λ ns. ns ++ (led_from forest minis false (last_flags minis old.flags.items) n ++ to_find forest minis rest (flags_before minis old.flags.items))) same_found
      ∙ ap (λ ns. old.found.items ++ (ns ++ to_find forest minis rest (flags_before minis old.flags.items))) (from_another lines n (last_flags minis old.flags.items) off_it.2)
      ∙ ap (λ ns. old.found.items ++ ns) (sym off_it.0.found ∙ ap (λ ns. to_find forest minis ns old.flags.items) (sym off))

  pub still_fewer : (old left new : PathSearch) (n : ℕ) → old.pending.items ≡ left.pending.items ++ n ∷ [] → IsVisited forest minis n false left new →
      to_visit forest new.pending.items < to_visit forest old.pending.items
  still_fewer old left new n off visit =
      let all = ap (to_visit forest) off ∙ visits_put left.pending.items n in
      let f = visit.fewer in
      omega (arith, all, f)
