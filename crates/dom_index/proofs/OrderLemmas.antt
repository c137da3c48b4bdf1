-- The order of a forest's nodes: each node stands in it once, behind its parent and behind the sibling before it.
use Rattle.std.proofs.Common.{◌≡◌, ◌<◌, ◌≤◌, ◌+◌, ◌⊎◌, ℕ, zero, suc, List, [], ◌∷◌, ◌++◌, Bool, true, false, cond, true≢false, Option, Some, None, inl, inr, refl, sym, ap, ◌∙◌, subst, length, arith, append_assoc, append-nil, length-append, take, drop, ◌-◌}
use Rattle.std.proofs.Math.Seq.{take-append_seam}
use Rattle.std.proofs.lemmas.List.{get_or-take, get_or-drop}
use Rattle.std.specs.Prelude.{◌==◌, ◌||◌, ◌&&◌}
use Rattle.std.specs.Option.{is_none}
use Rattle.std.proofs.lemmas.Bool.{cases_Bool, cases_lt, eq-eqb, eqb-true, or_cases, or_right}
use Rattle.dom_links.specs.Forest.{Forest, children_of, parent, run_of, siblings}
use Rattle.dom_links.specs.Laws.{AreLines, AreTrees}
use Rattle.dom_links.specs.Lists.{is_member, IsDistinct, after, before, first}
use Rattle.dom_links.specs.Sound.{IsForest}
use Rattle.dom_links.specs.Trees.{ancestors, trees, walk, descendants_in_order}
use Rattle.dom_links.specs.Walk.{IsWithin, later, rest_after, row_on}
use Rattle.dom_links.proofs.walks.Apart.{Under, compared, parted, walk_apart, walk_under, under_inside}
use Rattle.dom_links.proofs.forest.Depth.{parent_inside}
use Rattle.dom_links.proofs.forest.Neighbours.{before_here, distinct-append, is_member-append}
use Rattle.dom_links.proofs.forest.Places.{cases_Option, siblings_child, siblings_run}
use Rattle.dom_links.proofs.walks.SiblingWalks.{beside_itself, is_first}
use Rattle.dom_links.proofs.forest.Places.{Beside, siblings_once}
use Rattle.dom_links.proofs.walks.SiblingWalks.{Along, along}
use Rattle.dom_links.proofs.checks.Sounds.{after_before}
use Rattle.std.specs.Prelude.{slice_range}
use Rattle.dom_index.specs.Orders.{AreSpans, IsOrder, number_at}
use Rattle.dom_index.proofs.PlaceLemmas.{IsBehind, all_counted, number_after, behind_in, found_at, in_place}
use Rattle.dom_index.specs.Preorder.{preorder, preorder_to, starts_run, walk_from}

module _ (forest : Forest) (good : IsForest forest) (lines : AreLines forest) (laws : AreTrees forest) where
  pub from_is : (n : ℕ) → n < length forest.content → walk_from forest n ≡ n ∷ (descendants_in_order forest n ++ walk (trees forest (later forest false n)))
  from_is n known = ap walk (lines.row_trees n known)

  -- x, what is below it, and what is at and below its later siblings, in one piece
  pub record Cut (x : ℕ) (ns : List ℕ) : Type 0 where
    front : List ℕ
    back : List ℕ
    is : ns ≡ front ++ (walk_from forest x ++ back)

  lifted : (x : ℕ) (pre post ns : List ℕ) → Cut x ns → Cut x (pre ++ (ns ++ post))
  lifted x pre post ns c = record {
    front = pre ++ c.front;
    back = c.back ++ post;
    is = ap (λ ms. pre ++ (ms ++ post)) c.is
        ∙ (ap (λ ms. pre ++ ms) (append_assoc c.front (walk_from forest x ++ c.back) post ∙ ap (λ ms. c.front ++ ms) (append_assoc (walk_from forest x) c.back post))
        ∙ sym (append_assoc pre c.front (walk_from forest x ++ (c.back ++ post))));
  }

  abbrev pub row : Option ℕ → List ℕ
  row o = walk (trees forest (row_on forest false o))

  in_none : (x : ℕ) → is_member x (row None) ≡ true → ⊥
  in_none x s = true≢false (sym s ∙ ap (λ t. is_member x (walk t)) laws.no_trees)

  children_row : (n : ℕ) → descendants_in_order forest n ≡ row (first (children_of forest n))
  children_row n = ap (λ ns. walk (trees forest ns)) (lines.below false n)

  later_row : (n : ℕ) → walk (trees forest (later forest false n)) ≡ row (after (siblings forest n) n)
  later_row n = ap (λ ns. walk (trees forest ns)) (lines.beside false n)

  pub cut_in : (most : ℕ) (o : Option ℕ) (x : ℕ) → length (row o) ≤ most → IsWithin forest o → is_member x (row o) ≡ true → Cut x (row o)
  cut_in most None x few known s = absurd (in_none x s)
  cut_in zero (Some n) x few known s = let long = ap length (from_is n known) in absurd (omega arith)
  cut_in (suc most) (Some n) x few known s =
      let is = from_is n known in
      let rest = walk (trees forest (later forest false n)) in
      let long = ap length is ∙ ap suc (length-append (descendants_in_order forest n) rest) in
      elim (or_cases (n == x) (is_member x (descendants_in_order forest n ++ rest)) (sym (ap (is_member x) is) ∙ s)) [
        | inl here ↦ (let e = eqb-true n x here in record { front = []; back = []; is = ap (walk_from forest) e ∙ sym (append-nil (walk_from forest x)) })
        | inr there ↦ elim (or_cases (is_member x (descendants_in_order forest n)) (is_member x rest) (sym (is_member-append (descendants_in_order forest n) rest x) ∙ there)) [
          | inl below ↦ (let children = children_row n in
              let same = ap length children in
              let c = cut_in most (first (children_of forest n)) x (omega arith) (lines.below_known false n) (sym (ap (is_member x) children) ∙ below) in
              subst (Cut x) (sym is) (lifted x (n ∷ []) rest (descendants_in_order forest n) (subst (Cut x) (sym children) c)))
          | inr beside ↦ (let next = later_row n in
              let same = ap length next in
              let c = cut_in most (after (siblings forest n) n) x (omega arith) (lines.beside_known false n) (sym (ap (is_member x) next) ∙ beside) in
              let lift = lifted x (n ∷ descendants_in_order forest n) [] rest (subst (Cut x) (sym next) c) in
              subst (Cut x) (ap (λ ms. n ∷ (descendants_in_order forest n ++ ms)) (append-nil rest) ∙ sym is) lift)
        ]
      ]

  roots_in : (ns : List ℕ) (x : ℕ) → ((m : ℕ) → is_member m ns ≡ true → m < length forest.content) → is_member x ns ≡ true → is_member x (walk (trees forest ns)) ≡ true
  roots_in [] x known s = absurd (true≢false (sym s))
  roots_in (n ∷ ns) x known s =
      let is : walk (trees forest (n ∷ ns)) ≡ n ∷ (descendants_in_order forest n ++ walk (trees forest ns)) = ap walk (laws.a_tree n ns known) in
      ap (is_member x) is ∙ (elim (or_cases (n == x) (is_member x ns) s) [
        | inl here ↦ ap (λ b. b || is_member x (descendants_in_order forest n ++ walk (trees forest ns))) here
        | inr there ↦ or_right (n == x) _ (is_member-append (descendants_in_order forest n) (walk (trees forest ns)) x
            ∙ or_right (is_member x (descendants_in_order forest n)) _ (roots_in ns x (λ m t. known m (or_right (n == m) (is_member m ns) t)) there))
      ])

  -- a child is below its parent
  child_below : (x p : ℕ) → x < length forest.content → parent forest x ≡ Some p → is_member x (descendants_in_order forest p) ≡ true
  child_below x p known up =
      roots_in (children_of forest p) x (λ m s. (good.once.in_children p m s).0) (sym (ap (is_member x) (siblings_child forest x p up)) ∙ good.once.placed x known)

  -- the first node of a run has the run's walk
  pub record Starts (n : ℕ) : Type 0 where
    top : parent forest n ≡ None
    run : n ∷ later forest false n ≡ run_of forest n

  none_is : (o : Option ℕ) → is_none o ≡ true → o ≡ None
  none_is None e = refl
  none_is (Some n) e = absurd (true≢false (sym e))

  both_so : (a b : Bool) → (a && b) ≡ true → (a ≡ true) × (b ≡ true)
  both_so true b e = (refl, e)
  both_so false b e = absurd (true≢false (sym e))

  first_rest : (ns : List ℕ) (n : ℕ) → first ns ≡ Some n → n ∷ rest_after ns n ≡ ns
  first_rest [] n e = cc
  first_rest (m ∷ ms) n e = let same : m ≡ n = cc in subst (λ k. k ∷ rest_after (m ∷ ms) k ≡ m ∷ ms) same (ap (λ b. m ∷ cond b ms (rest_after ms m)) (eq-eqb m m refl))

  starts : (n : ℕ) → n < length forest.content → starts_run forest n ≡ true → Starts n
  starts n known s =
      let both = both_so (is_none (parent forest n)) (is_none (before (siblings forest n) n)) s in
      let top = none_is (parent forest n) both.0 in
      let none = none_is (before (siblings forest n) n) both.1 in
      record {
        top = top;
        run = first_rest (siblings forest n) n (is_first forest n n (before (siblings forest n) n) good.once (beside_itself forest n known) refl none) ∙ siblings_run forest n top;
      }

  run_walk : (n : ℕ) → Starts n → walk_from forest n ≡ walk (trees forest (run_of forest n))
  run_walk n st = ap (λ ns. walk (trees forest ns)) st.run

  tops : (n m : ℕ) → is_member m (run_of forest n) ≡ true → parent forest m ≡ None
  tops n m s = (good.once.in_run n m s).1

  run_once : (n : ℕ) → Starts n → IsDistinct (walk_from forest n)
  unfolding trees
  run_once n st = subst IsDistinct (sym (run_walk n st)) (walk_apart forest (length forest.content) (run_of forest n) None good (good.once.run_once n) (tops n))

  run_under : (n x : ℕ) → Starts n → is_member x (walk_from forest n) ≡ true → (a : ℕ) × (is_member a (run_of forest n) ≡ true) × Under forest a x
  unfolding trees
  run_under n x st s = walk_under forest (length forest.content) (run_of forest n) x good (sym (ap (is_member x) (run_walk n st)) ∙ s)

  top_same : (a b : ℕ) → Under forest a b → parent forest b ≡ None → a ≡ b
  top_same a b way top = elim (parted forest a b way) [
    | inl e ↦ e
    | inr more ↦ (let two = sym more.1 ∙ top in cc)
  ]

  -- the walks of two runs have no node in common
  runs_apart : (n m x : ℕ) → Starts n → Starts m → is_member x (walk_from forest n) ≡ true → is_member x (walk_from forest m) ≡ true → n ≡ m
  runs_apart n m x one other s t =
      let a = run_under n x one s in
      let b = run_under m x other t in
      let same : a.0 ≡ b.0 = elim (compared forest b.0 a.0 x a.2 b.2) [
        | inl way ↦ top_same a.0 b.0 way (tops m b.0 b.1)
        | inr way ↦ sym (top_same b.0 a.0 way (tops n a.0 a.1))
      ] in
      let rows : run_of forest n ≡ run_of forest m = sym (good.once.in_run n a.0 a.1).2 ∙ (ap (run_of forest) same ∙ (good.once.in_run m b.0 b.1).2) in
      let whole : n ∷ later forest false n ≡ m ∷ later forest false m = one.run ∙ (rows ∙ sym other.run) in
      cc

  -- a node stands in the walk of some run
  pub record InRun (x : ℕ) : Type 0 where
    from : ℕ
    known : from < length forest.content
    starts_it : starts_run forest from ≡ true
    stands : is_member x (walk_from forest from) ≡ true

  first_starts : (r : ℕ) (ms : List ℕ) → parent forest r ≡ None → run_of forest r ≡ r ∷ ms → starts_run forest r ≡ true
  first_starts r ms top run =
      let row_is : siblings forest r ≡ r ∷ ms = siblings_run forest r top ∙ run in
      let once : IsDistinct (r ∷ ms) = subst IsDistinct run (good.once.run_once r) in
      let none : before (siblings forest r) r ≡ None = ap (λ ns. before ns r) row_is ∙ before_here [] ms r once.0 in
      ap (λ o. is_none o && is_none (before (siblings forest r) r)) top ∙ ap is_none none

  top_in_run : (x : ℕ) → x < length forest.content → parent forest x ≡ None → InRun x
  top_in_run x known top = go (run_of forest x) refl
    where
      go : (ns : List ℕ) → run_of forest x ≡ ns → InRun x
      go [] e = absurd (true≢false (sym (sym (ap (is_member x) (siblings_run forest x top ∙ e)) ∙ good.once.placed x known)))
      go (r ∷ ms) e =
          let first_in : is_member r (run_of forest x) ≡ true = ap (is_member r) e ∙ ap (λ b. b || is_member r ms) (eq-eqb r r refl) in
          let facts = good.once.in_run x r first_in in
          let run : run_of forest r ≡ r ∷ ms = facts.2 ∙ e in
          let starts_r = first_starts r ms facts.1 run in
          let same : walk_from forest r ≡ walk (trees forest (run_of forest r)) = run_walk r (starts r facts.0 starts_r) in
          let there : is_member x (run_of forest r) ≡ true = ap (is_member x) (facts.2 ∙ sym (siblings_run forest x top)) ∙ good.once.placed x known in
          record {
            from = r;
            known = facts.0;
            starts_it = starts_r;
            stands = ap (is_member x) same ∙ roots_in (run_of forest r) x (λ m s. (good.once.in_run r m s).0) there;
          }

  in_cut : (x y : ℕ) (ns : List ℕ) → Cut x ns → is_member y (walk_from forest x) ≡ true → is_member y ns ≡ true
  in_cut x y ns c s =
      ap (is_member y) c.is ∙ (is_member-append c.front (walk_from forest x ++ c.back) y ∙ or_right (is_member y c.front) _
      (is_member-append (walk_from forest x) c.back y ∙ ap (λ b. b || is_member y c.back) s))

  below_from : (x y : ℕ) → x < length forest.content → is_member y (descendants_in_order forest x) ≡ true → is_member y (walk_from forest x) ≡ true
  below_from x y known s =
      ap (is_member y) (from_is x known) ∙ or_right (x == y) _ (is_member-append (descendants_in_order forest x) (walk (trees forest (later forest false x))) y ∙ ap (λ b. b || is_member y (walk (trees forest (later forest false x)))) s)

  pub all_in_runs : (most : ℕ) (x : ℕ) → x < length forest.content → length (ancestors forest x) ≤ most → InRun x
  all_in_runs zero x known few = elim (cases_Option (parent forest x)) [
    | inl top ↦ top_in_run x known top
    | inr some ↦ (let longer = ap length (lines.up x some.0 some.1) in absurd (omega arith))
  ]
  all_in_runs (suc most) x known few = elim (cases_Option (parent forest x)) [
    | inl top ↦ top_in_run x known top
    | inr some ↦ (let longer = ap length (lines.up x some.0 some.1) in
        let p = some.0 in
        let p_known = parent_inside forest x p good some.1 in
        let h = all_in_runs most p p_known (omega arith) in
        let cut = cut_in (length (walk_from forest h.from)) (Some h.from) p (omega arith) h.known h.stands in
        record {
          from = h.from;
          known = h.known;
          starts_it = h.starts_it;
          stands = in_cut p x (walk_from forest h.from) cut (below_from p x p_known (child_below x p known some.1));
        })
  ]

  in_preorder : (c x : ℕ) → c ≤ length forest.content → is_member x (preorder_to forest c) ≡ true → (n : ℕ) × (n < c) × (starts_run forest n ≡ true) × (is_member x (walk_from forest n) ≡ true)
  in_preorder zero x le s = absurd (true≢false (sym s))
  in_preorder (suc c) x le s = go (starts_run forest c) refl (or_cases (is_member x (preorder_to forest c)) _ (sym (is_member-append (preorder_to forest c) (cond (starts_run forest c) (walk_from forest c) []) x) ∙ s)) (λ t. in_preorder c x (omega arith) t)
    where
      go : (b : Bool) → starts_run forest c ≡ b → (is_member x (preorder_to forest c) ≡ true) ⊎ (is_member x (cond (starts_run forest c) (walk_from forest c) []) ≡ true) →
          (is_member x (preorder_to forest c) ≡ true → (n : ℕ) × (n < c) × (starts_run forest n ≡ true) × (is_member x (walk_from forest n) ≡ true)) →
          (n : ℕ) × (n < suc c) × (starts_run forest n ≡ true) × (is_member x (walk_from forest n) ≡ true)
      go b e (inl t) next = let h = next t in (h.0, (let less = h.1 in omega arith), h.2, h.3)
      go true e (inr t) next = (c, omega arith, e, rw e at t)
      go false e (inr t) next = let none : false ≡ true = rw e at t in absurd (true≢false (sym none))

  pub preorder_once : (c : ℕ) → c ≤ length forest.content → IsDistinct (preorder_to forest c)
  preorder_once zero le = tt
  preorder_once (suc c) le =
      let known : c < length forest.content = omega arith in
      distinct-append (preorder_to forest c) (cond (starts_run forest c) (walk_from forest c) []) (preorder_once c (omega arith)) (one (starts_run forest c) refl known) (λ x s. apart x known (starts_run forest c) refl (in_preorder c x (omega arith) s))
    where
      one : (b : Bool) → starts_run forest c ≡ b → c < length forest.content → IsDistinct (cond b (walk_from forest c) [])
      one true e known = run_once c (starts c known e)
      one false e known = tt

      apart : (x : ℕ) → c < length forest.content → (b : Bool) → starts_run forest c ≡ b → (n : ℕ) × (n < c) × (starts_run forest n ≡ true) × (is_member x (walk_from forest n) ≡ true) → is_member x (cond b (walk_from forest c) []) ≡ false
      apart x known false e h = refl
      apart x known true e h = elim (cases_Bool (is_member x (walk_from forest c))) [
        | inr f ↦ f
        | inl t ↦ (let less = h.1 in let same : h.0 ≡ c = runs_apart h.0 c x (starts h.0 (omega arith) h.2) (starts c known e) h.3 t in absurd (omega arith))
      ]

  pub preorder_inside : (c x : ℕ) → c ≤ length forest.content → is_member x (preorder_to forest c) ≡ true → x < length forest.content
  preorder_inside c x le s =
      let h = in_preorder c x le s in
      let less = h.1 in
      let known : h.0 < length forest.content = omega arith in
      let a = run_under h.0 x (starts h.0 known h.2) h.3 in
      under_inside forest a.0 x good (good.once.in_run h.0 a.0 a.1).0 a.2

  -- a node in the walks of earlier runs starts none
  pub met_starts_none : (n : ℕ) → n < length forest.content → is_member n (preorder_to forest n) ≡ true → starts_run forest n ≡ false
  met_starts_none n known s = elim (cases_Bool (starts_run forest n)) [
    | inl t ↦ (let h = in_preorder n n (omega arith) s in
        let less = h.1 in
        let here : is_member n (walk_from forest n) ≡ true = ap (is_member n) (from_is n known) ∙ ap (λ b. b || is_member n (descendants_in_order forest n ++ walk (trees forest (later forest false n)))) (eq-eqb n n refl) in
        let same : h.0 ≡ n = runs_apart h.0 n n (starts h.0 (omega arith) h.2) (starts n known t) h.3 here in
        absurd (omega arith))
    | inr f ↦ f
  ]

  run_in_preorder : (c n x : ℕ) → n < c → starts_run forest n ≡ true → is_member x (walk_from forest n) ≡ true → is_member x (preorder_to forest c) ≡ true
  run_in_preorder zero n x less st s = absurd (omega arith)
  run_in_preorder (suc c) n x less st s = is_member-append (preorder_to forest c) (cond (starts_run forest c) (walk_from forest c) []) x ∙ (elim (cases_lt n c) [
    | inl farther ↦ ap (λ b. b || is_member x (cond (starts_run forest c) (walk_from forest c) [])) (run_in_preorder c n x farther st s)
    | inr not_farther ↦ (let same : n ≡ c = omega arith in
        let there : is_member x (cond (starts_run forest c) (walk_from forest c) []) ≡ true = rw (ap (starts_run forest) (sym same) ∙ st) (ap (λ m. is_member x (walk_from forest m)) (sym same) ∙ s) in
        or_right (is_member x (preorder_to forest c)) _ there)
  ])

  pub cut_preorder : (c x : ℕ) → c ≤ length forest.content → is_member x (preorder_to forest c) ≡ true → Cut x (preorder_to forest c)
  cut_preorder zero x le s = absurd (true≢false (sym s))
  cut_preorder (suc c) x le s = go (starts_run forest c) refl (or_cases (is_member x (preorder_to forest c)) _ (sym (is_member-append (preorder_to forest c) (cond (starts_run forest c) (walk_from forest c) []) x) ∙ s)) (λ t. cut_preorder c x (omega arith) t)
    where
      go : (b : Bool) → starts_run forest c ≡ b → (is_member x (preorder_to forest c) ≡ true) ⊎ (is_member x (cond (starts_run forest c) (walk_from forest c) []) ≡ true) →
          (is_member x (preorder_to forest c) ≡ true → Cut x (preorder_to forest c)) → Cut x (preorder_to forest (suc c))
      go b e (inl t) next = lifted x [] (cond (starts_run forest c) (walk_from forest c) []) (preorder_to forest c) (next t)
      go true e (inr t) next =
          let there : is_member x (walk_from forest c) ≡ true = rw e at t in
          let cut = cut_in (length (walk_from forest c)) (Some c) x (omega arith) (omega arith) there in
          let more = lifted x (preorder_to forest c) [] (walk_from forest c) cut in
          subst (λ ns. Cut x (preorder_to forest c ++ ns)) (append-nil (walk_from forest c) ∙ sym (ap (λ b. cond b (walk_from forest c) []) e)) more
      go false e (inr t) next = let none : false ≡ true = rw e at t in absurd (true≢false (sym none))

  pub preorder_all : (x : ℕ) → x < length forest.content → is_member x (preorder forest) ≡ true
  preorder_all x known =
      let h = all_in_runs (length (ancestors forest x)) x known (omega arith) in
      run_in_preorder (length forest.content) h.from x h.known h.starts_it h.stands

  -- who follows x in its walk stands behind it
  behind_it : (x y : ℕ) → x < length forest.content → is_member y (descendants_in_order forest x ++ walk (trees forest (later forest false x))) ≡ true → IsBehind (preorder forest) x y
  behind_it x y known s =
      let rest = descendants_in_order forest x ++ walk (trees forest (later forest false x)) in
      let c = cut_preorder (length forest.content) x (omega arith) (preorder_all x known) in
      behind_in (preorder forest) c.front (rest ++ c.back) x y (c.is ∙ ap (λ ns. c.front ++ (ns ++ c.back)) (from_is x known)) (is_member-append rest c.back y ∙ ap (λ b. b || is_member y c.back) s)

  child_behind : (n p : ℕ) → n < length forest.content → parent forest n ≡ Some p → IsBehind (preorder forest) p n
  child_behind n p known up =
      behind_it p n (parent_inside forest n p good up) (is_member-append (descendants_in_order forest p) (walk (trees forest (later forest false p))) n ∙ ap (λ b. b || is_member n (walk (trees forest (later forest false p)))) (child_below n p known up))

  sibling_behind : (n m : ℕ) → n < length forest.content → before (siblings forest n) n ≡ Some m → (m < length forest.content) × IsBehind (preorder forest) m n
  sibling_behind n m known link =
      let way = along forest true n n m (before (siblings forest n) n) good.once (beside_itself forest n known) refl link in
      let there = Along.there way in
      let m_known = Beside.known there in
      let next : after (siblings forest m) m ≡ Some n = ap (λ ns. after ns m) (Beside.same_siblings there) ∙ after_before (siblings forest n) n m (siblings_once forest n good.once) (good.once.placed n known) link in
      let later_is : walk (trees forest (later forest false m)) ≡ walk_from forest n = later_row m ∙ ap row next in
      let here : is_member n (walk_from forest n) ≡ true = ap (is_member n) (from_is n known) ∙ ap (λ b. b || is_member n (descendants_in_order forest n ++ walk (trees forest (later forest false n)))) (eq-eqb n n refl) in
      (m_known, behind_it m n m_known (is_member-append (descendants_in_order forest m) (walk (trees forest (later forest false m))) n ∙ or_right (is_member n (descendants_in_order forest m)) _ (ap (is_member n) later_is ∙ here)))

  -- the order, with the places that were written
  module _ (places : List ℕ) (placed : (i : ℕ) → i < length forest.content → number_at places (number_at (preorder forest) i) ≡ i) (long : length places ≡ length forest.content) where
    pub preorder_long : length (preorder forest) ≡ length forest.content
    preorder_long = all_counted (preorder forest) (length forest.content) (preorder_once (length forest.content) (omega arith)) (λ n s. preorder_inside (length forest.content) n (omega arith) s) (λ n known. preorder_all n known)

    place_decided : (n : ℕ) → n < length forest.content → (number_at places n < length forest.content) × (number_at (preorder forest) (number_at places n) ≡ n)
    place_decided n known =
        let p = found_at n (preorder forest) (preorder_all n known) in
        let less = p.1 in
        let all = preorder_long in
        let inside : p.0 < length forest.content = omega arith in
        let is : number_at places n ≡ p.0 = ap (number_at places) (sym p.2) ∙ placed p.0 inside in
        (omega arith, ap (number_at (preorder forest)) is ∙ p.2)

    behind_places : (n m : ℕ) → IsBehind (preorder forest) m n → number_at places m < number_at places n
    behind_places n m b =
        let all = preorder_long in
        let less = b.less in
        let known = b.known in
        let one : number_at places m ≡ b.first = ap (number_at places) (sym b.one) ∙ placed b.first (omega arith) in
        let other : number_at places n ≡ b.second = ap (number_at places) (sym b.other) ∙ placed b.second (omega arith) in
        omega arith

    pub is_order : IsOrder forest (preorder forest) places
    is_order = record {
      long = preorder_long;
      places_long = long;
      known = λ i known. preorder_inside (length forest.content) (number_at (preorder forest) i) (omega arith) (in_place (preorder forest) i (let all = preorder_long in omega arith));
      placed = placed;
      inside = λ n known. (place_decided n known).0;
      ordered = λ n known. (place_decided n known).1;
      behind_parent = λ n m known link. (parent_inside forest n m good link, behind_places n m (child_behind n m known link));
      behind_sibling = λ n m known link. let h = sibling_behind n m known link in (h.0, behind_places n m h.1);
    }

cut_range : (front walk back : List ℕ) (n : ℕ) → take (length walk) (drop (suc (length front)) (front ++ n ∷ (walk ++ back))) ≡ walk
cut_range [] walk back n = take-append_seam walk back
cut_range (x ∷ front) walk back n = cut_range front walk back n

module _ (forest : Forest) (good : IsForest forest) (lines : AreLines forest) (laws : AreTrees forest) where
  module _ (places : List ℕ) (order : IsOrder forest (preorder forest) places) where
    -- where the order is cut, the front is as long as the place says
    place_is : (x : ℕ) (front back : List ℕ) → x < length forest.content → preorder forest ≡ front ++ x ∷ back → number_at places x ≡ length front
    place_is x front back known e =
        let long : length (preorder forest) ≡ length front + suc (length back) = ap length e ∙ length-append front (x ∷ back) in
        let all = order.long in
        let inside : length front + zero < length forest.content = omega arith in
        let here : number_at (preorder forest) (length front + zero) ≡ x = ap (λ ns. number_at ns (length front + zero)) e ∙ number_after front (x ∷ back) zero in
        let at : number_at places x ≡ length front + zero = ap (number_at places) (sym here) ∙ order.placed (length front + zero) inside in
        omega arith

    pub record Spanned (x : ℕ) : Type 0 where
      front : List ℕ
      back : List ℕ
      is : preorder forest ≡ front ++ x ∷ (descendants_in_order forest x ++ back)
      at : number_at places x ≡ length front

    spanned : (x : ℕ) → x < length forest.content → Spanned x
    spanned x known =
        let c = cut_preorder forest good lines laws (length forest.content) x (omega arith) (preorder_all forest good lines laws x known) in
        let rest = walk (trees forest (later forest false x)) in
        let is : preorder forest ≡ c.front ++ x ∷ (descendants_in_order forest x ++ (rest ++ c.back)) =
        c.is ∙ (ap (λ ns. c.front ++ (ns ++ c.back)) (from_is forest good lines laws x known) ∙ ap (λ ns. c.front ++ x ∷ ns) (append_assoc (descendants_in_order forest x) rest c.back)) in
        record { front = c.front; back = rest ++ c.back; is = is; at = place_is x c.front (descendants_in_order forest x ++ (rest ++ c.back)) known is }

    span_fits : (n : ℕ) → n < length forest.content → number_at places n + length (descendants_in_order forest n) < length forest.content
    span_fits n known =
        let s = spanned n known in
        let long = ap length s.is ∙ (length-append s.front (n ∷ (descendants_in_order forest n ++ s.back)) ∙ ap (λ m. length s.front + suc m) (length-append (descendants_in_order forest n) s.back)) in
        let all = order.long in
        let at = s.at in
        omega arith

    span_below : (n last : ℕ) → n < length forest.content → last ≡ number_at places n + length (descendants_in_order forest n) → slice_range (preorder forest) (number_at places n + 1) (last + 1) ≡ descendants_in_order forest n
    span_below n last known e =
        let s = spanned n known in
        let at = s.at in
        let wide : (last + 1) - (number_at places n + 1) ≡ length (descendants_in_order forest n) = omega arith in
        let from : number_at places n + 1 ≡ suc (length s.front) = omega arith in
        ap (λ a. take a (drop (number_at places n + 1) (preorder forest))) wide ∙ (ap (λ b. take (length (descendants_in_order forest n)) (drop b (preorder forest))) from
        ∙ (ap (λ ns. take (length (descendants_in_order forest n)) (drop (suc (length s.front)) ns)) s.is ∙ cut_range s.front (descendants_in_order forest n) s.back n))

    pub are_spans : (subtree_ends : List ℕ) → length subtree_ends ≡ length forest.content → ((n : ℕ) → n < length forest.content → number_at subtree_ends n ≡ number_at places n + length (descendants_in_order forest n)) → AreSpans forest (preorder forest) places subtree_ends
    are_spans subtree_ends long answer = record {
      long = long;
      last = answer;
      fits = λ n known. let fits = span_fits n known in let e = answer n known in omega arith;
      below = λ n known. span_below n (number_at subtree_ends n) known (answer n known);
    }

-- who is below a node, by the places
module _ (forest : Forest) (order places subtree_ends : List ℕ) (good : IsOrder forest order places) (spans : AreSpans forest order places subtree_ends) (x y : ℕ) (x_known : x < length forest.content) where
  at_span : (i : ℕ) → i < length (descendants_in_order forest x) → number_at (descendants_in_order forest x) i ≡ number_at order (number_at places x + 1 + i)
  at_span i inside =
      let last = spans.last x x_known in
      ap (λ ns. number_at ns i) (sym (spans.below x x_known)) ∙ (get_or-take ((number_at subtree_ends x + 1) - (number_at places x + 1)) (drop (number_at places x + 1) order) i 0 (omega arith)
      ∙ get_or-drop (number_at places x + 1) order i 0)

  pub below_within : is_member y (descendants_in_order forest x) ≡ true → (y < length forest.content) × (number_at places x < number_at places y) × (number_at places y ≤ number_at subtree_ends x)
  below_within s =
      let p = found_at y (descendants_in_order forest x) s in
      let inside = p.1 in
      let last = spans.last x x_known in
      let fits = spans.fits x x_known in
      let at = number_at places x + 1 + p.0 in
      let known : at < length forest.content = omega arith in
      let is : number_at order at ≡ y = sym (at_span p.0 inside) ∙ p.2 in
      let place : number_at places y ≡ at = ap (number_at places) (sym is) ∙ good.placed at known in
      (subst (λ (j : ℕ). j < length forest.content) is (good.known at known), omega arith, omega arith)

  pub within_below : y < length forest.content → number_at places x < number_at places y → number_at places y ≤ number_at subtree_ends x → is_member y (descendants_in_order forest x) ≡ true
  within_below y_known after upto =
      let last = spans.last x x_known in
      let i = number_at places y - (number_at places x + 1) in
      let inside : i < length (descendants_in_order forest x) = omega arith in
      let back : number_at places x + 1 + i ≡ number_at places y = omega arith in
      let is : number_at (descendants_in_order forest x) i ≡ y = at_span i inside ∙ (ap (number_at order) back ∙ good.ordered y y_known) in
      subst (λ j. is_member j (descendants_in_order forest x) ≡ true) is (in_place (descendants_in_order forest x) i inside)
