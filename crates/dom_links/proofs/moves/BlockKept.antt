-- A move of a list that is allowed leaves a forest.
use Rattle.std.proofs.Common.{ℕ, ◌≡◌, ◌<◌, true, false, List, [], ◌∷◌, ◌++◌, Option, Some, None, refl, sym, ap, ◌∙◌, subst, arith, inl, inr, ◌⊎◌, cond, length, append_assoc}
use Rattle.std.specs.Prelude.{◌==◌}
use Rattle.std.proofs.lemmas.Bool.{cases_Bool, cond-false, cond-true, true≢false, not-true, eqb-true}
use Rattle.dom_nodes.specs.declared.node_data.TreeNode.{TreeNode}
use Rattle.dom_links.specs.Lists.{is_member}
use Rattle.dom_links.specs.Forest.{Forest, StandsOnce, IsArenaOf, forest_of, parent, siblings, run_of, children_of}
use Rattle.dom_links.specs.Moves.{InsertionPoint, end_of, front_of, before_node, after_node, put, detach, moved_to}
use Rattle.dom_links.specs.Sound.{IsParentOrHost, IsHostAncestor, one_step, then_step, AtOrBelow, contents_at, stays, children_allowed_at, is_open, target, IsForest, MayPlace}
use Rattle.dom_links.specs.ListMoves.{EachOf, SomeOf, AllowedList, MovedList, ChildrenRemoved}
use Rattle.dom_links.proofs.forest.Neighbours.{around}
use Rattle.dom_links.proofs.forest.Places.{cases_Option, siblings_run, siblings_once}
use Rattle.dom_links.proofs.moves.Cuts.{parent-detach, run-detach, one-stands}
use Rattle.dom_links.proofs.forest.Chains.{forest_of-arena}
use Rattle.dom_links.proofs.moves.Acyclicity.{further, joined}
use Rattle.dom_links.proofs.moves.BlockCuts.{AreNodes, once-cut_list}
use Rattle.dom_links.proofs.moves.BlockFills.{AreAlone, FilledList, parent-put_in, parent-put_out, once-put}
use Rattle.dom_links.proofs.moves.BlockGaps.{put-end_of, put-front_of, put-before, put-after}

-- the forest after has the same contents, and the same parents but for the moved nodes, whose parent is then owner
pub record ReparentedList (before after : Forest) (moved : List ℕ) (owner : Option ℕ) : Type 0 where
  pub parents : (n : ℕ) → parent after n ≡ cond (is_member n moved) owner (parent before n)
  pub contents : (n : ℕ) → contents_at after n ≡ contents_at before n

-- a step after the move is one before it, or goes from the new owner to a moved node
step_back : (before after : Forest) (moved : List ℕ) (owner : Option ℕ) → ReparentedList before after moved owner → (m n : ℕ) → IsParentOrHost after m n → IsParentOrHost before m n ⊎ ((owner ≡ Some m) × (is_member n moved ≡ true))
step_back before after moved owner same m n (inr c) = inl (inr (sym (same.contents m) ∙ c))
step_back before after moved owner same m n (inl p) = elim (cases_Bool (is_member n moved)) [
  | inl t ↦ inr (sym (cond-true (is_member n moved) owner (parent before n) t) ∙ sym (same.parents n) ∙ p, t)
  | inr f ↦ inl (inl (sym (cond-false (is_member n moved) owner (parent before n) f) ∙ sym (same.parents n) ∙ p))
]

-- a way after the move is one before it, or goes to the owner, over a new step, and on from a moved node
ways : (before after : Forest) (moved : List ℕ) (o : ℕ) (owner : Option ℕ) → ReparentedList before after moved owner → owner ≡ Some o → (m n : ℕ) → IsHostAncestor after m n →
    IsHostAncestor before m n ⊎ (AtOrBelow before m o × SomeOf moved (λ x. AtOrBelow before x n))
ways before after moved o owner same is _ _ (one_step m n step) = elim (step_back before after moved owner same m n step) [
  | inl old ↦ inl (one_step m n old)
  | inr new ↦ (let e : m ≡ o = cc in inr (inl e, (n, new.1, inl refl)))
]
ways before after moved o owner same is _ _ (then_step m k n way step) = elim (ways before after moved o owner same is m k way) [
  | inl old ↦ (elim (step_back before after moved owner same k n step) [
    | inl plain ↦ inl (then_step m k n old plain)
    | inr new ↦ (let e : k ≡ o = cc in inr (inr (subst (IsHostAncestor before m) e old), (n, new.1, inl refl)))
  ])
  | inr both ↦ (elim (step_back before after moved owner same k n step) [
    | inl plain ↦ inr (both.0, (both.1.0, both.1.1, inr (further before both.1.0 k n both.1.2 plain)))
    | inr new ↦ inr (both.0, (n, new.1, inl refl))
  ])
]

pub ways_none : (before after : Forest) (moved : List ℕ) (owner : Option ℕ) → ReparentedList before after moved owner → owner ≡ None → (m n : ℕ) → IsHostAncestor after m n → IsHostAncestor before m n
ways_none before after moved owner same is _ _ (one_step m n step) = elim (step_back before after moved owner same m n step) [
  | inl old ↦ one_step m n old
  | inr new ↦ (let no = new.0 in cc)
]
ways_none before after moved owner same is _ _ (then_step m k n way step) = elim (step_back before after moved owner same k n step) [
  | inl old ↦ then_step m k n (ways_none before after moved owner same is m k way) old
  | inr new ↦ (let no = new.0 in cc)
]

no_circle_list : (before after : Forest) (moved : List ℕ) (owner : Option ℕ) → ReparentedList before after moved owner → ((n : ℕ) → IsHostAncestor before n n → ⊥) →
    ((o : ℕ) → owner ≡ Some o → EachOf moved (λ x. AtOrBelow before x o → ⊥)) → (n : ℕ) → IsHostAncestor after n n → ⊥
no_circle_list before after moved owner same none apart n way = elim (cases_Option owner) [
  | inl is ↦ none n (ways_none before after moved owner same is n n way)
  | inr (o, is) ↦ (elim (ways before after moved o owner same is n n way) [
    | inl old ↦ none n old
    | inr both ↦ apart o is both.1.0 both.1.1 (joined before both.1.0 n o both.1.2 both.0)
  ])
]

-- the list that a gap lies in, for a forest in which the nodes are a run of their own
pub record FillingList (forest : Forest) (gap : InsertionPoint) (moved : List ℕ) : Type 0 where
  pub owner : Option ℕ
  pub front : List ℕ
  pub back : List ℕ
  pub fill : FilledList forest (put gap moved forest) moved owner front back
  pub above : (o : ℕ) → owner ≡ Some o → ((o ≡ target gap) × (children_allowed_at forest o ≡ true)) ⊎ (parent forest (target gap) ≡ Some o)
  pub beside_target : owner ≡ None → (is_member (target gap) (front ++ back) ≡ true) × (stays forest (target gap) ≡ false)

filling_list : (forest : Forest) (gap : InsertionPoint) (moved : List ℕ) → StandsOnce forest → AreAlone forest moved → is_member (target gap) moved ≡ false → target gap < length forest.content → is_open gap forest ≡ true → FillingList forest gap moved
filling_list forest (end_of t) moved once lone out h open' = record {
  owner = Some t;
  front = children_of forest t;
  back = [];
  fill = put-end_of forest moved t once lone h;
  above = λ o some. (let e : o ≡ t = cc in inl (e, subst (λ (k : ℕ). children_allowed_at forest k ≡ true) (sym e) open'));
  beside_target = λ none. cc;
}
filling_list forest (front_of t) moved once lone out h open' = record {
  owner = Some t;
  front = [];
  back = children_of forest t;
  fill = put-front_of forest moved t once lone h;
  above = λ o some. (let e : o ≡ t = cc in inl (e, subst (λ (k : ℕ). children_allowed_at forest k ≡ true) (sym e) open'));
  beside_target = λ none. cc;
}
filling_list forest (before_node t) moved once lone out h open' =
    let parts = around t (siblings forest t) (siblings_once forest t once) (once.placed t h) in
    record {
      owner = parent forest t;
      front = parts.front;
      back = t ∷ parts.back;
      fill = put-before forest moved t once lone out h parts;
      above = λ o some. inr some;
      beside_target = λ none. (ap (is_member t) (sym parts.is) ∙ once.placed t h, not-true (stays forest t) open');
    }
filling_list forest (after_node t) moved once lone out h open' =
    let parts = around t (siblings forest t) (siblings_once forest t once) (once.placed t h) in
    record {
      owner = parent forest t;
      front = parts.front ++ t ∷ [];
      back = parts.back;
      fill = put-after forest moved t once lone out h parts;
      above = λ o some. inr some;
      beside_target = λ none. (ap (is_member t) (append_assoc parts.front (t ∷ []) parts.back ∙ sym parts.is) ∙ once.placed t h, not-true (stays forest t) open');
    }

pub alone-cut_list : (forest : Forest) (moved : List ℕ) → StandsOnce forest → AreNodes forest moved → AreAlone (detach moved forest) moved
alone-cut_list forest moved once are = record {
  are = record { once = are.once; known = are.known };
  no_parent = λ n s. rw (parent-detach moved forest n, s) refl;
  alone = λ n s. (let known : n < length forest.content = are.known n s in run-detach moved forest n (omega (arith, once.runs_each)) ∙ rw s refl);
}

-- the parents after a move
reparented_list : (forest : Forest) (gap : InsertionPoint) (moved : List ℕ) → StandsOnce forest → AreNodes forest moved → (f : FillingList (detach moved forest) gap moved) → ReparentedList forest (moved_to moved gap forest) moved f.owner
reparented_list forest gap moved once are f = record {
  parents = λ n. elim (cases_Bool (is_member n moved)) [
    | inl t ↦ rw t (parent-put_in (detach moved forest) (moved_to moved gap forest) moved f.owner f.front f.back n (once-cut_list forest moved once are) f.fill t)
    | inr g ↦ rw g (parent-put_out (detach moved forest) (moved_to moved gap forest) moved f.owner f.front f.back n f.fill g ∙ parent-detach moved forest n ∙ rw g refl)
  ];
  contents = λ n. refl;
}

-- the root, documents and fragments still stand alone
alone-moved_list : (forest : Forest) (gap : InsertionPoint) (moved : List ℕ) (n : ℕ) → IsForest forest → AreNodes forest moved → EachOf moved (λ x. stays forest x ≡ false) → n < length forest.content → stays forest n ≡ true →
    (f : FillingList (detach moved forest) gap moved) → (parent (moved_to moved gap forest) n ≡ None) × (run_of (moved_to moved gap forest) n ≡ n ∷ [])
alone-moved_list forest gap moved n good are moves hn s f =
    let was = good.alone n hn s in
    let g : is_member n moved ≡ false = elim (cases_Bool (is_member n moved)) [
      | inr g ↦ g
      | inl t ↦ absurd (true≢false (sym s ∙ moves n t))
    ] in
    let parent_now : parent (detach moved forest) n ≡ None = parent-detach moved forest n ∙ rw g was.0 in
    let run_now : run_of (detach moved forest) n ≡ n ∷ [] = run-detach moved forest n (omega (arith, good.once.runs_each)) ∙ rw (g, was.1) (rw g refl) in
    let outside : is_member n (f.front ++ f.back) ≡ false = elim (cases_Bool (is_member n (f.front ++ f.back))) [
      | inr k ↦ k
      | inl u ↦ (let row = f.fill.row_is n u in
          let beside_it = f.beside_target (sym row.1 ∙ parent_now) in
          let only : f.front ++ f.back ≡ n ∷ [] = sym row.2 ∙ siblings_run (detach moved forest) n parent_now ∙ run_now in
          let same : (n == target gap) ≡ true = sym (one-stands n (target gap)) ∙ ap (is_member (target gap)) (sym only) ∙ beside_it.0 in
          absurd (true≢false (sym s ∙ ap (stays forest) (eqb-true n (target gap) same) ∙ beside_it.1)))
    ] in
    ((reparented_list forest gap moved good.once are f).parents n ∙ rw g was.0, f.fill.runs n hn ∙ rw (g, outside) run_now)

-- A move of a list that is allowed keeps a forest
pub forest-moved_list : (forest : Forest) (gap : InsertionPoint) (moved : List ℕ) → IsForest forest → AreNodes forest moved → AllowedList forest gap moved → IsForest (moved_to moved gap forest)
forest-moved_list forest gap moved good are allowed =
    let t = target gap in
    let out : is_member t moved ≡ false = elim (cases_Bool (is_member t moved)) [
      | inr f ↦ f
      | inl s ↦ absurd (MayPlace.apart (allowed.may t s) refl)
    ] in
    let once' = once-cut_list forest moved good.once are in
    let f = filling_list (detach moved forest) gap moved once' (alone-cut_list forest moved good.once are) out allowed.target_known (still_open gap allowed.open_here) in
    let same = reparented_list forest gap moved good.once are f in
    let target_parent : parent (detach moved forest) t ≡ parent forest t = parent-detach moved forest t ∙ rw out refl in
    record {
      once = once-put (detach moved forest) (moved_to moved gap forest) moved f.owner f.front f.back once' f.fill;
      rooted = good.rooted;
      alone = λ n hn s. alone-moved_list forest gap moved n good are (λ x u. MayPlace.moves (allowed.may x u)) hn s f;
      parents_allow = λ p n some. elim (cases_Bool (is_member n moved)) [
        | inl u ↦ (let is : f.owner ≡ Some p = sym (cond-true (is_member n moved) f.owner (parent forest n) u) ∙ sym (same.parents n) ∙ some in
            elim (f.above p is) [ inl both ↦ both.1 | inr over ↦ good.parents_allow p t (sym target_parent ∙ over) ])
        | inr g ↦ good.parents_allow p n (sym (cond-false (is_member n moved) f.owner (parent forest n) g) ∙ sym (same.parents n) ∙ some)
      ];
      contents_known = good.contents_known;
      contents_once = good.contents_once;
      acyclic = no_circle_list forest (moved_to moved gap forest) moved f.owner same good.acyclic (λ o is x s below.
          (let may = allowed.may x s in
          elim (f.above o is) [
            | inl both ↦ (elim below [ inl e ↦ MayPlace.apart may (e ∙ both.0) | inr way ↦ MayPlace.free may (subst (IsHostAncestor forest x) both.0 way) ])
            | inr over ↦ MayPlace.free may (further forest x o t below (inl (sym target_parent ∙ over)))
          ]));
    }
  where
    still_open : (gap : InsertionPoint) → is_open gap forest ≡ true → is_open gap (detach moved forest) ≡ true
    still_open (end_of t) h = h
    still_open (front_of t) h = h
    still_open (before_node t) h = h
    still_open (after_node t) h = h

pub list_moved : (old new : List TreeNode) (gap : InsertionPoint) (moved : List ℕ) → AreNodes (forest_of old) moved → IsArenaOf (moved_to moved gap (forest_of old)) new → MovedList old new gap moved
list_moved old new gap moved are arena =
    let is : forest_of new ≡ moved_to moved gap (forest_of old) = forest_of-arena (moved_to moved gap (forest_of old)) new arena in
    record {
      made = is;
      linked = subst (λ (forest : Forest). IsArenaOf forest new) (sym is) arena;
      kept = λ allowed good. subst IsForest (sym is) (forest-moved_list (forest_of old) gap moved good are allowed);
    }

-- detaching nodes keeps a forest, where one that stays where it is is detached alone

pub cut_parents : (forest : Forest) (moved : List ℕ) → ReparentedList forest (detach moved forest) moved None
cut_parents forest moved = record { parents = λ n. parent-detach moved forest n; contents = λ n. refl }

pub forest-cut_out : (forest : Forest) (moved : List ℕ) → IsForest forest → AreNodes forest moved → EachOf moved (λ n. stays forest n ≡ true → moved ≡ n ∷ []) → IsForest (detach moved forest)
forest-cut_out forest moved good are lone = record {
  once = once-cut_list forest moved good.once are;
  rooted = good.rooted;
  alone = λ n hn s. (let was = good.alone n hn s in
      elim (cases_Bool (is_member n moved)) [
        | inl t ↦ (parent-detach moved forest n ∙ rw t refl, run-detach moved forest n (omega (arith, good.once.runs_each)) ∙ rw t (lone n t s))
        | inr g ↦ (parent-detach moved forest n ∙ rw g was.0, run-detach moved forest n (omega (arith, good.once.runs_each)) ∙ rw (g, was.1) (rw g refl))
      ]);
  parents_allow = λ p n some. elim (cases_Bool (is_member n moved)) [
    | inl t ↦ (let none = sym (cond-true (is_member n moved) None (parent forest n) t) ∙ sym (parent-detach moved forest n) ∙ some in cc)
    | inr g ↦ good.parents_allow p n (sym (cond-false (is_member n moved) None (parent forest n) g) ∙ sym (parent-detach moved forest n) ∙ some)
  ];
  contents_known = good.contents_known;
  contents_once = good.contents_once;
  acyclic = no_circle_list forest (detach moved forest) moved None (cut_parents forest moved) good.acyclic (λ o is x s below. cc);
}

pub forest-cut_list : (forest : Forest) (moved : List ℕ) → IsForest forest → AreNodes forest moved → EachOf moved (λ x. stays forest x ≡ false) → IsForest (detach moved forest)
forest-cut_list forest moved good are moves = forest-cut_out forest moved good are (λ n s t. absurd (true≢false (sym t ∙ moves n s)))

-- children don't stay where they are
pub children_move : (forest : Forest) (x : ℕ) → IsForest forest → EachOf (children_of forest x) (λ n. stays forest n ≡ false)
children_move forest x good n s = elim (cases_Bool (stays forest n)) [
  | inr f ↦ f
  | inl t ↦ (let facts = good.once.in_children x n s in
      let none = (good.alone n facts.0 t).0 in
      let some = facts.1 in
      cc)
]

pub children_are : (forest : Forest) (x : ℕ) → StandsOnce forest → AreNodes forest (children_of forest x)
children_are forest x once = record { once = once.children_once x; known = λ n s. (once.in_children x n s).0 }

pub children_removed : (old new : List TreeNode) (x : ℕ) → IsArenaOf (forest_of old) old → IsArenaOf (detach (children_of (forest_of old) x) (forest_of old)) new → ChildrenRemoved old new x
children_removed old new x before arena =
    let is : forest_of new ≡ detach (children_of (forest_of old) x) (forest_of old) = forest_of-arena (detach (children_of (forest_of old) x) (forest_of old)) new arena in
    record {
      made = is;
      linked = subst (λ (forest : Forest). IsArenaOf forest new) (sym is) arena;
      kept = λ _ good. subst IsForest (sym is) (forest-cut_list (forest_of old) (children_of (forest_of old) x) good (children_are (forest_of old) x good.once) (children_move (forest_of old) x good));
    }
