-- Each move of a cleaning is allowed, and all of them together make the clean.
use Rattle.std.proofs.Common.{ℕ, ◌≡◌, ◌≢◌, ◌<◌, zero, suc, Bool, true, false, List, [], ◌∷◌, ◌++◌, Option, Some, None, refl, sym, ap, ◌∙◌, subst, inl, inr, length, arith}
use Rattle.std.specs.Prelude.{◌==◌, ◌||◌, ◌&&◌, is_some, slice_get, slice_index_or}
use Rattle.std.specs.Option.{option_map, option_map_or, option_and_then}
use Rattle.std.proofs.lemmas.Bool.{cases_Bool, cases_lt, eqb-true, eq-eqb, eqb-false, ne_eqb, or_parts, true≢false, or_right}
use Rattle.std.proofs.lemmas.Option.{slice_get_past}
use Rattle.dom_nodes.specs.declared.node_data.NodeData.{NodeData}
use Rattle.dom_nodes.specs.declared.node_data.NodeData.TheVariants.{Document, Fragment, Doctype, Text, Comment, Element, ProcessingInstruction}
use Rattle.dom_nodes.specs.Kinds.{contents_named, is_fragment, is_top, children_allowed}
use Rattle.dom_nodes.specs.Changes.{only_names, with_attrs}
use Rattle.dom_links.specs.Contents.{AreChanges, changed_at, with_content}
use Rattle.dom_links.specs.Forest.{Forest, children_of, children_or, parent, run_of}
use Rattle.dom_links.specs.Laws.{AreLines, AreTrees}
use Rattle.dom_links.specs.Lists.{is_member, IsDistinct}
use Rattle.dom_links.specs.Sound.{IsForest, IsHostAncestor, children_allowed_at, contents_at, one_step, stays, then_step}
use Rattle.dom_links.specs.Trees.{trees, descendants_in_order}
use Rattle.dom_sanitize.specs.Clean.{Clean, Cleaned, Lists, kept}
use Rattle.dom_sanitize.specs.Plan.{EachStep, IsKnown, MayPut, MayPutAll, MayPutAt, all_done, clear_one, cut_one, homed, ids, planned, put_one, staying}
use Rattle.dom_sanitize.specs.declared.plan.Step.{Step}
use Rattle.dom_links.proofs.moves.Cuts.{one-stands}
use Rattle.dom_sanitize.proofs.NumberLists.{out_of-without, out_of_both, out_of_less, turned}
use Rattle.dom_sanitize.proofs.PlanLemmas.{absent-planned, alike-self, not_staying, root_planned}
use Rattle.dom_sanitize.proofs.Planned.{HomeBears, HomeIn, HomesBefore, each-in, each-more, homes_bear, homes_before, homes_planned, not_planned, planned_once, step_walked}
use Rattle.dom_sanitize.proofs.MovedNodes.{Movable, children-all_cut, children-all_put, content-all_cut, content-all_put, list_past, long-all_cut, no_parent, out_of-homed}
use Rattle.dom_sanitize.proofs.RunLists.{run-beside_cut, run-beside_put, run-of_cut, run-of_put, runs-all_cut, runs-all_put, runs-cleared}
use Rattle.dom_sanitize.proofs.Cleaning.{IsMade, clean_made, left_children, new_children}

top_fragment : (d : NodeData) → is_fragment d ≡ true → is_top d ≡ true
top_fragment Document e = refl
top_fragment Fragment e = refl
top_fragment (Doctype name public_id system_id) e = absurd (true≢false (sym e))
top_fragment (Text contents) e = absurd (true≢false (sym e))
top_fragment (Comment contents) e = absurd (true≢false (sym e))
top_fragment (Element element) e = absurd (true≢false (sym e))
top_fragment (ProcessingInstruction target contents) e = absurd (true≢false (sym e))

tops : (o : Option NodeData) → option_map_or is_fragment o false ≡ true → option_map_or is_top o false ≡ true
tops None e = absurd (true≢false (sym e))
tops (Some d) e = top_fragment d e

-- nothing reaches a node that has no parent and is no contents
no_way : (forest : Forest) (m p : ℕ) → parent forest p ≡ None → ((k : ℕ) → contents_at forest k ≡ Some p → ⊥) → IsHostAncestor forest m p → ⊥
no_way forest m p none free (one_step _ _ (inl e)) = let bad = sym none ∙ e in cc
no_way forest m p none free (one_step _ _ (inr e)) = free m e
no_way forest m p none free (then_step _ k _ way (inl e)) = let bad = sym none ∙ e in cc
no_way forest m p none free (then_step _ k _ way (inr e)) = free k e

may_put : (forest : Forest) (home : Option ℕ) (n : ℕ) → ((p : ℕ) → home ≡ Some p → MayPutAt forest n p) → MayPut forest (record { id = n; home = home })
may_put forest None n each = tt
may_put forest (Some p) n each = each p refl

children-one : (names : List (List ℕ)) (home : Option ℕ) (x : ℕ) (forest : Forest) (n : ℕ) → children_of (clear_one names (record { id = x; home = home }) forest) n ≡ children_of forest n
children-one names None x forest n = refl
children-one names (Some p) x forest n = refl

children-cleared : (names : List (List ℕ)) (ss : List Step) (forest : Forest) (n : ℕ) → children_of (all_done (clear_one names) ss forest) n ≡ children_of forest n
children-cleared names [] forest n = refl
children-cleared names (s ∷ ss) forest n = children-one names s.home s.id (all_done (clear_one names) ss forest) n ∙ children-cleared names ss forest n

changed-here : (x : ℕ) (change : NodeData → NodeData) (cs : List NodeData) → slice_get (changed_at x change cs) x ≡ option_map change (slice_get cs x)
changed-here x change [] = refl
changed-here zero change (c ∷ cs) = refl
changed-here (suc x) change (c ∷ cs) = changed-here x change cs

one-left : (names : List (List ℕ)) (home : Option ℕ) (x n : ℕ) (forest : Forest) → AreChanges forest → ((x == n) && is_some home) ≡ false → slice_get (clear_one names (record { id = x; home = home }) forest).content n ≡ slice_get forest.content n
one-left names None x n forest changes off = refl
one-left names (Some p) x n forest changes off = changes.elsewhere x n (with_attrs (only_names names)) (λ e. true≢false (sym (ap (λ t. t && true) (eq-eqb x n e)) ∙ off))

one-cleared : (names : List (List ℕ)) (home : Option ℕ) (x n : ℕ) (forest : Forest) → ((x == n) && is_some home) ≡ true → slice_get (clear_one names (record { id = x; home = home }) forest).content n ≡ option_map (with_attrs (only_names names)) (slice_get forest.content n)
one-cleared names None x n forest on = absurd (true≢false (sym on ∙ never (x == n)))
  where
    never : (t : Bool) → (t && false) ≡ false
    never true = refl
    never false = refl
one-cleared names (Some p) x n forest on = elim (cases_Bool (x == n)) [
  | inl t ↦ subst (λ (i : ℕ). slice_get (with_content x (with_attrs (only_names names)) forest).content i ≡ option_map (with_attrs (only_names names)) (slice_get forest.content i)) (eqb-true x n t) (changed-here x (with_attrs (only_names names)) forest.content)
  | inr f ↦ absurd (true≢false (sym on ∙ rw f refl))
]

content-left : (names : List (List ℕ)) → ((forest : Forest) → AreChanges forest) → (n : ℕ) (ss : List Step) (forest : Forest) → staying n ss ≡ false → slice_get (all_done (clear_one names) ss forest).content n ≡ slice_get forest.content n
content-left names changes n [] forest off = refl
content-left names changes n (s ∷ ss) forest off =
    let two = or_parts ((s.id == n) && is_some s.home) (staying n ss) off in
    one-left names s.home s.id n (all_done (clear_one names) ss forest) (changes (all_done (clear_one names) ss forest)) two.0 ∙ content-left names changes n ss forest two.1

content-cleared : (names : List (List ℕ)) → ((forest : Forest) → AreChanges forest) → (n : ℕ) (ss : List Step) (forest : Forest) → IsDistinct (ids ss) → staying n ss ≡ true → slice_get (all_done (clear_one names) ss forest).content n ≡ option_map (with_attrs (only_names names)) (slice_get forest.content n)
content-cleared names changes n [] forest once on = absurd (true≢false (sym on))
content-cleared names changes n (s ∷ ss) forest once on =
    let rest = all_done (clear_one names) ss forest in
    elim (cases_Bool ((s.id == n) && is_some s.home)) [
      | inl t ↦ (let is : s.id ≡ n = first_one (is_some s.home) s.id n t in
          let out : is_member n (ids ss) ≡ false = subst (λ (i : ℕ). is_member i (ids ss) ≡ false) is once.0 in
          one-cleared names s.home s.id n rest t ∙ ap (option_map (with_attrs (only_names names))) (content-left names changes n ss forest (not_staying n ss out)))
      | inr f ↦ one-left names s.home s.id n rest (changes rest) f ∙ content-cleared names changes n ss forest once.1 (rw f at on)
    ]
  where
    first_one : (b : Bool) (x n : ℕ) → ((x == n) && b) ≡ true → x ≡ n
    first_one b x n t = elim (cases_Bool (x == n)) [ inl u ↦ eqb-true x n u | inr f ↦ absurd (true≢false (sym t ∙ rw f refl)) ]

-- all that is asked of a step
record Fits (old : Forest) (all : List Step) (s : Step) : Type 0 where
  has_step : is_member s.id (ids all) ≡ true
  home_in : HomeIn 0 (ids all) s
  bears_it : HomeBears old s

module _ (allow : Lists) (old : Forest) (good : IsForest old) (are : AreTrees old) (lines : AreLines old) where
  abbrev all : List Step
  all = planned allow old 0 (trees old (children_of old 0))

  abbrev start : Forest
  start = all_done cut_one all old

  no_parent_root : parent old 0 ≡ None
  no_parent_root = (good.alone 0 good.rooted refl).0

  root_out : is_member 0 (descendants_in_order old 0) ≡ false
  root_out = lines.below_above 0 0 ∙ ap (is_member 0) (lines.top 0 no_parent_root)

  -- who stands below the root isn't bound to its place
  moves_below : (n : ℕ) → is_member n (descendants_in_order old 0) ≡ true → stays old n ≡ false
  moves_below n s = elim (cases_Bool (stays old n)) [
    | inr f ↦ f
    | inl t ↦ (let none = (good.alone n (are.walk_inside 0 n s) t).0 in
        absurd (true≢false (sym s ∙ lines.below_above 0 n ∙ ap (is_member 0) (lines.top n none))))
  ]

  bears_known : (p : ℕ) → children_allowed_at old p ≡ true → p < length old.content
  bears_known p b = elim (cases_lt p (length old.content)) [
    | inl h ↦ h
    | inr past ↦ absurd (true≢false (sym b ∙ ap (λ o. option_map_or children_allowed o false) (slice_get_past old.content p past)))
  ]

  inside : (m : ℕ) → is_member m (children_of old 0) ≡ true → m < length old.content
  inside m s = (good.once.in_children 0 m s).0

  walked : (n : ℕ) → is_member n (ids all) ≡ true → is_member n (descendants_in_order old 0) ≡ true
  walked n s = step_walked allow old (trees old (children_of old 0)) 0 n s

  once : IsDistinct (ids all)
  once = planned_once allow old (trees old (children_of old 0)) 0 (are.walk_once 0)

  homes : EachStep (HomeIn 0 (ids all)) all
  homes = homes_planned allow old (trees old (children_of old 0)) 0

  bearing : EachStep (HomeBears old) all
  bearing = homes_bear allow old (trees old (children_of old 0)) (children_of old 0) 0 good are inside refl (λ n s. good.parents_allow 0 n (good.once.in_children 0 n s).1)

  pub all_known : EachStep (IsKnown old) all
  all_known = each-more (λ s. is_member s.id (ids all) ≡ true) (IsKnown old) all (λ s h. are.walk_inside 0 s.id (walked s.id h)) (each-in all)

  fit : (ss : List Step) → EachStep (λ s. is_member s.id (ids all) ≡ true) ss → EachStep (HomeIn 0 (ids all)) ss → EachStep (HomeBears old) ss → EachStep (Fits old all) ss
  fit [] one two three = tt
  fit (s ∷ ss) one two three = (record { has_step = one.0; home_in = two.0; bears_it = three.0 }, fit ss one.1 two.1 three.1)

  movable : (s : Step) → Fits old all s → Movable start s
  movable s h = record {
    free = λ n. ap (is_member s.id) (children-all_cut all old n) ∙ out_of-without (ids all) (children_of old n) s.id h.has_step;
    home_inside = λ p e. omega (arith, bears_known p (h.bears_it p e), good.once.children_each, long-all_cut all old);
  }

  -- the root, or who has a step, is no child once all were detached
  no_child : (p n : ℕ) → ((0 == p) || is_member p (ids all)) ≡ true → is_member p (children_of start n) ≡ false
  no_child p n s = ap (is_member p) (children-all_cut all old n) ∙ (elim (cases_Bool (is_member p (ids all))) [
    | inl t ↦ out_of-without (ids all) (children_of old n) p t
    | inr f ↦ out_of_less (ids all) (children_of old n) p (elim (cases_Bool (is_member p (children_of old n))) [
      | inr g ↦ g
      | inl t ↦ (let is : 0 ≡ p = eqb-true 0 p (is_left (0 == p) (is_member p (ids all)) f s) in
          let up : parent old 0 ≡ Some n = ap (parent old) is ∙ (good.once.in_children n p t).1 in
          absurd (let bad = sym no_parent_root ∙ up in cc))
    ])
  ])
    where
      is_left : (a b : Bool) → b ≡ false → (a || b) ≡ true → a ≡ true
      is_left true b f h = refl
      is_left false b f h = absurd (true≢false (sym h ∙ f))

  no_contents : (p k : ℕ) → ((0 == p) || is_member p (ids all)) ≡ true → contents_at old k ≡ Some p → ⊥
  no_contents p k s e =
      let facts = good.contents_known k p e in
      elim (cases_Bool (is_member p (ids all))) [
        | inl t ↦ true≢false (sym (or_right (p == 0) _ (tops (slice_get old.content p) facts.1)) ∙ moves_below p (walked p t))
        | inr f ↦ facts.0 (sym (eqb-true 0 p (left_one (0 == p) (is_member p (ids all)) f s)))
      ]
    where
      left_one : (a b : Bool) → b ≡ false → (a || b) ≡ true → a ≡ true
      left_one true b f h = refl
      left_one false b f h = absurd (true≢false (sym h ∙ f))

  may_all : (ss : List Step) → IsDistinct (ids ss) → HomesBefore ss → EachStep (Fits old all) ss → MayPutAll start ss
  may_all [] one before each = tt
  may_all (s ∷ ss) one before each =
      let forest = all_done put_one ss start in
      let same : forest.content ≡ old.content = content-all_put ss start ∙ content-all_cut all old in
      let lists : (n : ℕ) → children_of forest n ≡ homed n ss ++ children_of start n = λ n. children-all_put ss start n one.1 (each-more (Fits old all) (Movable start) ss movable each.1) in (
        may_put forest s.home s.id (λ p e.
            let out = before.0 p e in
            let two = or_parts (s.id == p) (is_member p (ids ss)) out in
            let lone : parent forest p ≡ None = no_parent forest p (λ n. ap (is_member p) (lists n) ∙ out_of_both (homed n ss) (children_of start n) p (out_of-homed n p ss two.1) (no_child p n (each.0.home_in p e))) in
            record {
              known = subst (λ (c : List NodeData). s.id < length c) (sym same) (are.walk_inside 0 s.id (walked s.id each.0.has_step));
              home_known = subst (λ (c : List NodeData). p < length c) (sym same) (bears_known p (each.0.bears_it p e));
              bearing = ap (λ (c : List NodeData). option_map_or children_allowed (slice_get c p) false) same ∙ each.0.bears_it p e;
              moves = ap (λ (c : List NodeData). (s.id == 0) || option_map_or is_top (slice_get c s.id) false) same ∙ moves_below s.id (walked s.id each.0.has_step);
              apart = λ w. elim w [
                | inl is ↦ eqb-false s.id p two.0 is
                | inr way ↦ no_way forest s.id p lone (λ k c. no_contents p k (each.0.home_in p e) (ap (λ (d : List NodeData). option_and_then contents_named (slice_get d k)) (sym same) ∙ c)) way
              ];
            }),
        may_all ss one.1 before.1 each.1,
      )

  fits : EachStep (Fits old all) all
  fits = fit all (each-in all) homes bearing

  pub all_may : MayPutAll start all
  all_may = may_all all once (homes_before allow old (trees old (children_of old 0)) 0 (are.walk_once 0) root_out) fits

  pub put_known : EachStep (IsKnown (all_done put_one all start)) all
  put_known = each-more (IsKnown old) (IsKnown (all_done put_one all start)) all (λ s h. subst (λ (c : List NodeData). s.id < length c) (sym (content-all_put all start ∙ content-all_cut all old)) h) all_known

  abbrev new : Forest
  new = all_done (clear_one allow.attrs) all (all_done put_one all start)

  pub made : ((forest : Forest) → AreChanges forest) → IsMade allow old new all
  made changes = record {
    children = λ n. children-cleared allow.attrs all (all_done put_one all start) n ∙ children-all_put all start n once (each-more (Fits old all) (Movable start) all movable fits)
        ∙ ap (λ ns. homed n all ++ ns) (children-all_cut all old n);
    cleared = λ n s. content-cleared allow.attrs changes n all (all_done put_one all start) once s ∙ ap (λ (c : List NodeData). option_map (kept allow) (slice_get c n)) (content-all_put all start ∙ content-all_cut all old);
    same = λ n s. content-left allow.attrs changes n all (all_done put_one all start) s ∙ ap (λ (c : List NodeData). slice_get c n) (content-all_put all start ∙ content-all_cut all old);
  }

  -- a child of a node that isn't below the root, nor the root, isn't below it either
  child_elsewhere : (n m : ℕ) → n ≢ 0 → is_member n (descendants_in_order old 0) ≡ false → is_member m (children_of old n) ≡ true → is_member m (descendants_in_order old 0) ≡ false
  child_elsewhere n m ne out s =
      let up = lines.up m n (good.once.in_children n m s).1 in
      lines.below_above 0 m ∙ ap (is_member 0) up ∙ rw (ne_eqb n 0 ne) (sym (lines.below_above 0 n) ∙ out)

  -- who stands below the root has a parent, and so stands in no run
  has_parent : (n : ℕ) → is_member n (descendants_in_order old 0) ≡ true → parent old n ≡ None → ⊥
  has_parent n s none = true≢false (sym s ∙ lines.below_above 0 n ∙ ap (is_member 0) (lines.top n none))

  no_run : (o : Option ℕ) (n : ℕ) → parent old n ≡ o → is_member n (descendants_in_order old 0) ≡ true → run_of old n ≡ []
  no_run None n e s = absurd (has_parent n s e)
  no_run (Some p) n e s = good.once.no_run p n e

  out_of_runs : (m n : ℕ) → is_member m (ids all) ≡ true → is_member m (run_of old n) ≡ false
  out_of_runs m n s = elim (cases_Bool (is_member m (run_of old n))) [
    | inr f ↦ f
    | inl t ↦ absurd (has_parent m (walked m s) (good.once.in_run n m t).1)
  ]

  -- the runs of the new forest
  new_run : (n : ℕ) → run_of new n ≡ run_of (all_done put_one all start) n
  new_run n = ap (λ runs. slice_index_or runs n []) (runs-cleared allow.attrs all (all_done put_one all start))

  long_runs : length new.runs ≡ length old.runs
  long_runs = ap length (runs-cleared allow.attrs all (all_done put_one all start)) ∙ runs-all_put all start ∙ runs-all_cut all old

  in_start : (n : ℕ) → n < length old.runs → n < length start.runs
  in_start n h = omega (arith, h, runs-all_cut all old)

  run_left : (n : ℕ) → n < length old.runs → is_member n (ids all) ≡ false → run_of new n ≡ run_of old n
  run_left n h out =
      let uncut : run_of start n ≡ run_of old n = run-beside_cut n all old h out (λ m t. out_of_runs m n t) in
      new_run n ∙ run-beside_put n all start (in_start n h) (not_staying n all out) (λ m t ne. ap (is_member m) uncut ∙ out_of_runs m n t) ∙ uncut

  run_alone : (n : ℕ) → n < length old.runs → is_member n (ids all) ≡ true → staying n all ≡ false → run_of new n ≡ n ∷ []
  run_alone n h s off =
      let was_cut : run_of start n ≡ n ∷ [] = run-of_cut n all old h s in
      new_run n ∙ run-beside_put n all start (in_start n h) off (λ m t ne. ap (is_member m) was_cut ∙ one-stands n m ∙ turned m n ne) ∙ was_cut

  runs_beside : (n : ℕ) → is_member n (descendants_in_order old 0) ≡ false → run_of new n ≡ run_of old n
  runs_beside n out = elim (cases_lt n (length old.runs)) [
    | inl h ↦ run_left n h (not_planned allow old (trees old (children_of old 0)) 0 n out)
    | inr past ↦ list_past new.runs n (omega (arith, long_runs, past)) ∙ sym (list_past old.runs n past)
  ]

  runs_alone : IsForest new → (n : ℕ) → is_member n (descendants_in_order old 0) ≡ true → parent new n ≡ None → run_of new n ≡ n ∷ []
  runs_alone is_forest n s none =
      let here = are.walk_inside 0 n s in
      let h : n < length old.runs = omega (arith, here, good.once.runs_each) in
      let standing : is_member n (run_of new n) ≡ true = ap (λ o. is_member n (children_or new o (run_of new n))) (sym none) ∙ is_forest.once.placed n (omega (arith, h, long_runs, is_forest.once.runs_each)) in
      elim (cases_Bool (is_member n (ids all))) [
        | inl t ↦ elim (cases_Bool (staying n all)) [
          | inl on ↦ absurd (true≢false (sym standing ∙ ap (is_member n) (new_run n ∙ run-of_put n all start (in_start n h) on)))
          | inr off ↦ run_alone n h t off
        ]
        | inr f ↦ absurd (true≢false (sym standing ∙ ap (is_member n) (run_left n h f ∙ no_run (parent old n) n refl s)))
      ]

  pub cleaned : ((forest : Forest) → AreChanges forest) → IsForest new → Cleaned allow old new
  cleaned changes is_forest =
      let is = made changes in
      let t = trees old (children_of old 0) in
      let kids : children_of new 0 ≡ homed 0 all = new_children allow old new all good are is 0 (homed 0 all) (λ m s. root_planned allow old t (children_of old 0) 0 m are inside refl s) refl in
      record {
        below = subst (Clean allow old new (children_of old 0)) (sym kids) (clean_made allow old new all good are is t (children_of old 0) 0 inside refl (are.walk_once 0) root_out (λ n s. alike-self n all));
        root = is.same 0 (not_staying 0 all (not_planned allow old t 0 0 root_out));
        elsewhere = λ n ne out. record {
          content = is.same n (not_staying n all (not_planned allow old t 0 n out));
          children = left_children allow old new all good are is n (λ m s. not_planned allow old t 0 m (child_elsewhere n m ne out s))
              (absent-planned allow old t 0 n (ne_eqb 0 n (λ e. ne (sym e))) out).not_home;
        };
        beside = runs_beside;
        alone = runs_alone is_forest;
      }

  -- the calls of the body, one after the other
  pub may_cut : (steps : List Step) → steps ≡ all → EachStep (IsKnown old) steps
  may_cut steps is = subst (EachStep (IsKnown old)) (sym is) all_known

  are_cut : (cut_steps : List Step) (detach : Forest) → cut_steps ≡ all → detach ≡ all_done cut_one cut_steps old → detach ≡ start
  are_cut cut_steps detach cut_is cut_made = cut_made ∙ ap (λ ss. all_done cut_one ss old) cut_is

  are_put : (cut_steps put_steps : List Step) (detach back : Forest) → cut_steps ≡ all → put_steps ≡ all → detach ≡ all_done cut_one cut_steps old → back ≡ all_done put_one put_steps detach → back ≡ all_done put_one all start
  are_put cut_steps put_steps detach back cut_is put_is cut_made put_made = put_made ∙ ap (λ ss. all_done put_one ss detach) put_is ∙ ap (all_done put_one all) (are_cut cut_steps detach cut_is cut_made)

  pub may_put_back : (cut_steps put_steps : List Step) (detach : Forest) → cut_steps ≡ all → put_steps ≡ all → detach ≡ all_done cut_one cut_steps old → MayPutAll detach put_steps
  may_put_back cut_steps put_steps detach cut_is put_is cut_made =
      subst (λ ss. MayPutAll detach ss) (sym put_is) (subst (λ f. MayPutAll f all) (sym (are_cut cut_steps detach cut_is cut_made)) all_may)

  pub may_clear : (cut_steps put_steps clear_steps : List Step) (detach back : Forest) → cut_steps ≡ all → put_steps ≡ all → clear_steps ≡ all → detach ≡ all_done cut_one cut_steps old → back ≡ all_done put_one put_steps detach → EachStep (IsKnown back) clear_steps
  may_clear cut_steps put_steps clear_steps detach back cut_is put_is clear_is cut_made put_made =
      subst (λ ss. EachStep (IsKnown back) ss) (sym clear_is)
      (subst (λ f. EachStep (IsKnown f) all) (sym (are_put cut_steps put_steps detach back cut_is put_is cut_made put_made)) put_known)

  pub is_cleaned : ((forest : Forest) → AreChanges forest) → (cut_steps put_steps clear_steps : List Step) (detach back cleared : Forest) → cut_steps ≡ all → put_steps ≡ all → clear_steps ≡ all → detach ≡ all_done cut_one cut_steps old → back ≡ all_done put_one put_steps detach →
      cleared ≡ all_done (clear_one allow.attrs) clear_steps back → IsForest cleared → Cleaned allow old cleared
  is_cleaned changes cut_steps put_steps clear_steps detach back last cut_is put_is clear_is cut_made put_made clear_made is_forest =
      let is : last ≡ new = clear_made ∙ ap (λ ss. all_done (clear_one allow.attrs) ss back) clear_is
      ∙ ap (all_done (clear_one allow.attrs) all) (are_put cut_steps put_steps detach back cut_is put_is cut_made put_made) in
      subst (Cleaned allow old) (sym is) (cleaned changes (subst IsForest is is_forest))
