-- Nodes that are a run of their own are put between two parts of a list: where the numbers then stand, and which links they then have.
use Rattle.std.proofs.Common.{ℕ, Bool, ◌≡◌, ◌<◌, ◌≤◌, ◌+◌, true, false, List, [], ◌++◌, Option, Some, None, refl, sym, ap, ◌∙◌, subst, arith, cond, inl, inr, length}
use Rattle.std.specs.Prelude.{◌==◌, ◌||◌, ◌&&◌}
use Rattle.std.specs.Option.{is_none}
use Rattle.std.proofs.lemmas.List.{get_or_past}
use Rattle.std.proofs.lemmas.Bool.{cases_Bool, true≢false, ne_eqb, cases_lt, or_parts}
use Rattle.dom_nodes.specs.declared.node_data.TreeNode.{TreeNode}
use Rattle.dom_links.specs.Lists.{is_member, IsDistinct, first, last, after, before, names}
use Rattle.dom_links.specs.Forest.{Forest, StandsOnce, AreLinks, IsArenaOf, children_of, run_of, parent, siblings, run_under, next_link, chain}
use Rattle.dom_links.specs.ListWrites.{RunAttached, next_chain}
use Rattle.dom_links.proofs.forest.Neighbours.{distinct_parts, names-true, names-same, not_named, first-stands, last-stands}
use Rattle.dom_links.proofs.forest.Places.{cases_Option, siblings_child, siblings_run}
use Rattle.dom_links.proofs.moves.Cuts.{length-contents}
use Rattle.dom_links.proofs.moves.Owners.{owner_same, owner_none, owner_found, no_child, in_own_run}
use Rattle.dom_links.proofs.forest.Chains.{chain_all}
use Rattle.dom_links.proofs.moves.BlockLists.{Apart, is_member-block, distinct-block, not_front, not_back, after-inside, after-outside, before-inside, before-outside, first-block, last-block}
use Rattle.dom_links.proofs.moves.BlockCuts.{AreNodes}

-- the nodes are a run of their own
pub record AreAlone (forest : Forest) (moved : List ℕ) : Type 0 where
  pub are : AreNodes forest moved
  pub no_parent : (n : ℕ) → is_member n moved ≡ true → parent forest n ≡ None
  pub alone : (n : ℕ) → is_member n moved ≡ true → run_of forest n ≡ moved

pub record FilledList (forest filled : Forest) (moved : List ℕ) (owner : Option ℕ) (front back : List ℕ) : Type 0 where
  pub content : filled.content ≡ forest.content
  pub children_long : length filled.children ≡ length forest.children
  pub runs_long : length filled.runs ≡ length forest.runs
  pub lone : AreAlone forest moved
  pub owner_known : (p : ℕ) → owner ≡ Some p → p < length forest.content
  pub not_inside : Apart moved (front ++ back)
  pub row_once : IsDistinct (front ++ back)
  pub row_is : (m : ℕ) → is_member m (front ++ back) ≡ true → (m < length forest.content) × (parent forest m ≡ owner) × (siblings forest m ≡ front ++ back)
  pub owned : (p : ℕ) → owner ≡ Some p → children_of forest p ≡ front ++ back
  pub children : (p : ℕ) → children_of filled p ≡ cond (names owner p) (front ++ (moved ++ back)) (children_of forest p)
  pub runs : (m : ℕ) → m < length forest.content → run_of filled m ≡ cond (is_member m moved || is_member m (front ++ back)) (run_under owner (front ++ (moved ++ back))) (run_of forest m)

pub parent-put_out : (forest filled : Forest) (moved : List ℕ) (owner : Option ℕ) (front back : List ℕ) (n : ℕ) → FilledList forest filled moved owner front back → is_member n moved ≡ false →
    parent filled n ≡ parent forest n
parent-put_out forest filled moved owner front back n fill e =
    owner_same 0 filled.children forest.children n fill.children_long (λ q. ap (is_member n) (fill.children q) ∙
    (elim (cases_Bool (names owner q)) [
      | inl t ↦ rw (t, is_member-block front moved back n, e) (sym (ap (is_member n) (fill.owned q (names-true owner q t))))
      | inr f ↦ rw f refl
    ]))

pub parent-put_in : (forest filled : Forest) (moved : List ℕ) (owner : Option ℕ) (front back : List ℕ) (n : ℕ) → StandsOnce forest → FilledList forest filled moved owner front back → is_member n moved ≡ true → parent filled n ≡ owner
parent-put_in forest filled moved owner front back n once fill s =
    let none_before = fill.lone.no_parent n s in
    elim (cases_Option owner) [
      | inl none ↦ owner_none 0 filled.children n (λ q. ap (is_member n) (fill.children q) ∙ rw none (no_child forest n q once none_before)) ∙ sym none
      | inr (p, some) ↦ (let z : 0 + p ≡ p = omega arith in
          owner_found 0 filled.children p n
          (ap (is_member n) (fill.children p) ∙ rw (some, names-same p, is_member-block front moved back n, s) refl)
          (λ q ne. ap (is_member n) (fill.children q) ∙ (let other : names owner q ≡ false = ap (λ o. names o q) some ∙ ne_eqb p q (λ e. ne (sym e)) in rw other (no_child forest n q once none_before)))
          ∙ ap Some z ∙ sym some)
    ]

children-owner : (forest filled : Forest) (moved : List ℕ) (owner : Option ℕ) (front back : List ℕ) (p : ℕ) → FilledList forest filled moved owner front back → owner ≡ Some p → children_of filled p ≡ front ++ (moved ++ back)
children-owner forest filled moved owner front back p fill some = let named : names owner p ≡ true = ap (λ o. names o p) some ∙ names-same p in fill.children p ∙ rw named refl

pub siblings-put_in : (forest filled : Forest) (moved : List ℕ) (owner : Option ℕ) (front back : List ℕ) (n : ℕ) → StandsOnce forest → FilledList forest filled moved owner front back → is_member n moved ≡ true →
    siblings filled n ≡ front ++ (moved ++ back)
siblings-put_in forest filled moved owner front back n once fill s =
    let its = parent-put_in forest filled moved owner front back n once fill s in
    elim (cases_Option owner) [
      | inl none ↦ siblings_run filled n (its ∙ none) ∙ fill.runs n (fill.lone.are.known n s) ∙ rw (s, none) refl
      | inr (p, some) ↦ siblings_child filled n p (its ∙ some) ∙ children-owner forest filled moved owner front back p fill some
    ]

pub siblings-put_out : (forest filled : Forest) (moved : List ℕ) (owner : Option ℕ) (front back : List ℕ) (n : ℕ) → StandsOnce forest → FilledList forest filled moved owner front back → n < length forest.content → is_member n moved ≡ false →
    siblings filled n ≡ cond (is_member n (front ++ back)) (front ++ (moved ++ back)) (siblings forest n)
siblings-put_out forest filled moved owner front back n once fill h e =
    let its = parent-put_out forest filled moved owner front back n fill e in
    elim (cases_Bool (is_member n (front ++ back))) [
      | inl t ↦ (let above = (fill.row_is n t).1 in
          elim (cases_Option owner) [
            | inl none ↦ siblings_run filled n (its ∙ above ∙ none) ∙ fill.runs n h ∙ rw (e, t, none) refl
            | inr (p, some) ↦ siblings_child filled n p (its ∙ above ∙ some) ∙ children-owner forest filled moved owner front back p fill some ∙ rw t refl
          ])
      | inr f ↦ elim (cases_Option (parent forest n)) [
        | inl none ↦ siblings_run filled n (its ∙ none) ∙ fill.runs n h ∙ rw (e, f) (sym (siblings_run forest n none))
        | inr (p, some) ↦ siblings_child filled n p (its ∙ some) ∙ fill.children p ∙
            (elim (cases_Bool (names owner p)) [
              | inl t ↦ absurd (true≢false (sym (once.placed n h) ∙ ap (is_member n) (siblings_child forest n p some ∙ fill.owned p (names-true owner p t)) ∙ f))
              | inr g ↦ rw (f, g) (sym (siblings_child forest n p some))
            ])
      ]
    ]

-- the moved nodes' list before
siblings-lone : (forest : Forest) (moved : List ℕ) (n : ℕ) → AreAlone forest moved → is_member n moved ≡ true → siblings forest n ≡ moved
siblings-lone forest moved n lone s = siblings_run forest n (lone.no_parent n s) ∙ lone.alone n s

-- who is beside n after a step, of who was
step-put : (step : List ℕ → ℕ → Option ℕ) (now : Option ℕ → Option ℕ) (forest filled : Forest) (moved : List ℕ) (owner : Option ℕ) (front back : List ℕ) (n : ℕ) →
    StandsOnce forest → FilledList forest filled moved owner front back → n < length forest.content → (is_member n moved ≡ true → step (front ++ (moved ++ back)) n ≡ now (step moved n)) →
    (is_member n moved ≡ false → step (front ++ (moved ++ back)) n ≡ now (step (front ++ back) n)) → (is_member n moved ≡ false → is_member n (front ++ back) ≡ false → (o : Option ℕ) → now o ≡ o) →
    step (siblings filled n) n ≡ now (step (siblings forest n) n)
step-put step now forest filled moved owner front back n once fill h inside beside_them far = elim (cases_Bool (is_member n moved)) [
  | inl t ↦ rw (siblings-put_in forest filled moved owner front back n once fill t, siblings-lone forest moved n fill.lone t) (inside t)
  | inr out ↦ rw (siblings-put_out forest filled moved owner front back n once fill h out)
      (elim (cases_Bool (is_member n (front ++ back))) [
        | inl t ↦ rw (t, (fill.row_is n t).2) (beside_them out)
        | inr g ↦ rw g (sym (far out g (step (siblings forest n) n)))
      ])
]

after-put : (forest filled : Forest) (moved : List ℕ) (owner : Option ℕ) (front back : List ℕ) (x y n : ℕ) → StandsOnce forest → FilledList forest filled moved owner front back → first moved ≡ Some x → last moved ≡ Some y → n < length forest.content →
    after (siblings filled n) n ≡ cond (y == n) (first back) (cond (names (last front) n) (Some x) (after (siblings forest n) n))
after-put forest filled moved owner front back x y n once fill starts ends h =
    let ahead = not_named (last front) front n (last-stands front) in
    let other : is_member n moved ≡ false → (y == n) ≡ false = not_named (Some y) moved n (λ m e. last-stands moved m (ends ∙ e)) in
    step-put after (λ o. cond (y == n) (first back) (cond (names (last front) n) (Some x) o)) forest filled moved owner front back n once fill h
    (λ t. let off = not_front front back n (fill.not_inside n t) in rw (ahead off) (after-inside front moved back n fill.lone.are.once off t ∙ ap (λ o. cond (names o n) (first back) (after moved n)) ends))
    (λ out. rw (other out) (after-outside front moved back x n (distinct_parts front back fill.row_once).0 starts out)) (λ out g o. rw (other out, ahead (not_front front back n g)) refl)

before-put : (forest filled : Forest) (moved : List ℕ) (owner : Option ℕ) (front back : List ℕ) (x y n : ℕ) → StandsOnce forest → FilledList forest filled moved owner front back → first moved ≡ Some x → last moved ≡ Some y → n < length forest.content →
    before (siblings filled n) n ≡ cond (names (first back) n) (Some y) (cond (x == n) (last front) (before (siblings forest n) n))
before-put forest filled moved owner front back x y n once fill starts ends h =
    let behind = not_named (first back) back n (first-stands back) in
    let other : is_member n moved ≡ false → (x == n) ≡ false = not_named (Some x) moved n (λ m e. first-stands moved m (starts ∙ e)) in
    step-put before (λ o. cond (names (first back) n) (Some y) (cond (x == n) (last front) o)) forest filled moved owner front back n once fill h
    (λ t. let off = not_back front back n (fill.not_inside n t) in rw (behind off) (before-inside front moved back n fill.lone.are.once off t ∙ ap (λ o. cond (names o n) (last front) (before moved n)) starts))
    (λ out. rw (other out) (before-outside front moved back y n (distinct_parts front back fill.row_once).1 ends out)) (λ out g o. rw (other out, behind (not_back front back n g)) refl)

-- an end of a list of children, which one of the moved nodes takes where the list has none on that side
end-put : (end : List ℕ → Option ℕ) (free : Bool) (it : Option ℕ) (forest filled : Forest) (moved : List ℕ) (owner : Option ℕ) (front back : List ℕ) (p : ℕ) → FilledList forest filled moved owner front back →
    end (front ++ (moved ++ back)) ≡ cond free it (end (front ++ back)) → end (children_of filled p) ≡ cond (free && names owner p) it (end (children_of forest p))
end-put end free it forest filled moved owner front back p fill taken = ap end (fill.children p) ∙
    (elim (cases_Bool (names owner p)) [
      | inl t ↦ rw (t, fill.owned p (names-true owner p t)) (taken ∙ (elim free as (λ u. cond u it (end (front ++ back)) ≡ cond (u && true) it (end (front ++ back))) [ true ↦ refl | false ↦ refl ]))
      | inr f ↦ rw f (elim free as (λ u. end (children_of forest p) ≡ cond (u && false) it (end (children_of forest p))) [ true ↦ refl | false ↦ refl ])
    ])

-- by next links the first of the nodes leads to all of them
pub next_chain-run : (forest : Forest) (nodes : List TreeNode) (moved : List ℕ) (x : ℕ) → AreLinks forest nodes → AreAlone forest moved → first moved ≡ Some x → next_chain nodes x ≡ moved
next_chain-run forest nodes moved x links lone starts =
    let long : length nodes ≡ length forest.content = length-contents forest nodes links in
    ap (λ o. chain (next_link nodes) (length nodes) o) (sym starts) ∙
    chain_all (next_link nodes) moved (length nodes) lone.are.once
    (λ n s. (let known : n < length forest.content = lone.are.known n s in links.nexts n (omega arith) ∙ ap (λ ns. after ns n) (siblings-lone forest moved n lone s)))
    (λ n s. (let known : n < length forest.content = lone.are.known n s in omega arith))

-- The writes of a put make the links of the forest with the nodes in their place
pub links-put : (forest filled : Forest) (old new : List TreeNode) (moved : List ℕ) (x : ℕ) (owner left right : Option ℕ) (front back : List ℕ) →
    StandsOnce forest → AreLinks forest old → FilledList forest filled moved owner front back → first moved ≡ Some x → left ≡ last front → right ≡ first back →
    RunAttached old new x owner left right → AreLinks filled new
links-put forest filled old new moved x owner left right front back once links fill starts l r run =
    let set = run.parents_set in
    let join = run.on_left in
    let join' = run.on_right in
    let y = run.end in
    let all = next_chain-run forest old moved x links fill.lone starts in
    let ends : last moved ≡ Some y = ap last (sym all) ∙ run.ends in
    let long : length old ≡ length forest.content = length-contents forest old links in
    let same : length new ≡ length old = join'.same_length ∙ join.same_length ∙ set.same_length in
    record {
      contents = join'.contents ∙ join.contents ∙ set.contents ∙ links.contents ∙ sym fill.content;
      ids = λ n h. rw (join'.ids, join.ids, set.ids) (links.ids n (omega arith));
      parents = λ n h. rw (join'.parents n, join.parents n, set.parents n, all, links.parents n (omega arith))
          (elim (cases_Bool (is_member n moved)) [
            | inl t ↦ rw t (sym (parent-put_in forest filled moved owner front back n once fill t))
            | inr f ↦ rw f (sym (parent-put_out forest filled moved owner front back n fill f))
          ]);
      prevs = λ n h. rw (join'.prevs n, join.prevs n, set.prevs n, links.prevs n (omega arith), before-put forest filled moved owner front back x y n once fill starts ends (omega arith), l, r) refl;
      nexts = λ n h. rw (join'.nexts n, join.nexts n, set.nexts n, links.nexts n (omega arith), after-put forest filled moved owner front back x y n once fill starts ends (omega arith), l, r) refl;
      firsts = λ n h. rw (join'.firsts n, join.firsts n, set.firsts n, links.firsts n (omega arith), end-put first (is_none (last front)) (Some x) forest filled moved owner front back n fill (first-block front moved back x starts), l) refl;
      lasts = λ n h. rw (join'.lasts n, join.lasts n, set.lasts n, links.lasts n (omega arith), end-put last (is_none (first back)) (Some y) forest filled moved owner front back n fill (last-block front moved back y ends), r) refl;
    }

in_children-put : (forest filled : Forest) (moved : List ℕ) (owner : Option ℕ) (front back : List ℕ) → StandsOnce forest → FilledList forest filled moved owner front back →
    (p n : ℕ) → is_member n (children_of filled p) ≡ true → (n < length forest.content) × (parent filled n ≡ Some p)
in_children-put forest filled moved owner front back once fill p n h = elim (cases_Bool (names owner p)) [
  | inl t ↦ (let some : owner ≡ Some p = names-true owner p t in
      let inside : (is_member n moved || is_member n (front ++ back)) ≡ true = sym (is_member-block front moved back n) ∙ ap (is_member n) (sym (children-owner forest filled moved owner front back p fill some)) ∙ h in
      elim (cases_Bool (is_member n moved)) [
        | inl u ↦ (fill.lone.are.known n u, parent-put_in forest filled moved owner front back n once fill u ∙ some)
        | inr f ↦ (let there : is_member n (front ++ back) ≡ true = (rw f at inside) in
            let facts = fill.row_is n there in
            (facts.0, parent-put_out forest filled moved owner front back n fill f ∙ facts.1 ∙ some))
      ])
  | inr g ↦ (let before' : is_member n (children_of forest p) ≡ true = sym (ap (is_member n) (fill.children p ∙ rw g refl)) ∙ h in
      let facts = once.in_children p n before' in
      let out : is_member n moved ≡ false = elim (cases_Bool (is_member n moved)) [
        | inr f ↦ f
        | inl t ↦ absurd (true≢false (sym before' ∙ no_child forest n p once (fill.lone.no_parent n t)))
      ] in
      (facts.0, parent-put_out forest filled moved owner front back n fill out ∙ facts.1))
]

run_past : (forest filled : Forest) (moved : List ℕ) (owner : Option ℕ) (front back : List ℕ) → StandsOnce forest → FilledList forest filled moved owner front back → (m : ℕ) → length forest.content ≤ m → run_of filled m ≡ []
run_past forest filled moved owner front back once fill m h = get_or_past filled.runs m [] (omega (arith, once.runs_each, fill.runs_long))

in_run-put : (forest filled : Forest) (moved : List ℕ) (owner : Option ℕ) (front back : List ℕ) → StandsOnce forest → FilledList forest filled moved owner front back →
    (m n : ℕ) → is_member n (run_of filled m) ≡ true → (n < length forest.content) × (parent filled n ≡ None) × (run_of filled n ≡ run_of filled m)
in_run-put forest filled moved owner front back once fill m n h = elim (cases_lt m (length forest.content)) [
  | inr past ↦ absurd (true≢false (sym h ∙ ap (is_member n) (run_past forest filled moved owner front back once fill m past)))
  | inl here ↦ elim (cases_Bool (is_member m moved || is_member m (front ++ back))) [
    | inl t ↦ (let its : run_of filled m ≡ run_under owner (front ++ (moved ++ back)) = fill.runs m here ∙ rw t refl in
        elim (cases_Option owner) [
          | inr (p, some) ↦ absurd (true≢false (sym h ∙ ap (is_member n) (its ∙ ap (λ o. run_under o (front ++ (moved ++ back))) some)))
          | inl none ↦ (let whole : run_of filled m ≡ front ++ (moved ++ back) = its ∙ ap (λ o. run_under o (front ++ (moved ++ back))) none in
              let inside : (is_member n moved || is_member n (front ++ back)) ≡ true = sym (is_member-block front moved back n) ∙ ap (is_member n) (sym whole) ∙ h in
              let known : n < length forest.content = elim (cases_Bool (is_member n moved)) [
                | inl u ↦ fill.lone.are.known n u
                | inr f ↦ (fill.row_is n (rw f at inside)).0
              ] in
              let above : parent filled n ≡ None = elim (cases_Bool (is_member n moved)) [
                | inl u ↦ parent-put_in forest filled moved owner front back n once fill u ∙ none
                | inr f ↦ parent-put_out forest filled moved owner front back n fill f ∙ (fill.row_is n (rw f at inside)).1 ∙ none
              ] in
              (known, above, fill.runs n known ∙ rw (inside, none) (sym whole)))
        ])
    | inr g ↦ (let its : run_of filled m ≡ run_of forest m = fill.runs m here ∙ rw g refl in
        let before' : is_member n (run_of forest m) ≡ true = ap (is_member n) (sym its) ∙ h in
        let facts = once.in_run m n before' in
        let apart = or_parts (is_member m moved) (is_member m (front ++ back)) g in
        let out : is_member n moved ≡ false = elim (cases_Bool (is_member n moved)) [
          | inr f ↦ f
          | inl u ↦ (let same : run_of forest m ≡ moved = sym facts.2 ∙ fill.lone.alone n u in
              absurd (true≢false (sym (in_own_run forest m n once here before') ∙ ap (is_member m) same ∙ apart.0)))
        ] in
        let outside : is_member n (front ++ back) ≡ false = elim (cases_Bool (is_member n (front ++ back))) [
          | inr f ↦ f
          | inl u ↦ (let row = fill.row_is n u in
              let same : run_of forest m ≡ front ++ back = sym facts.2 ∙ sym (siblings_run forest n facts.1) ∙ row.2 in
              absurd (true≢false (sym (in_own_run forest m n once here before') ∙ ap (is_member m) same ∙ apart.1)))
        ] in
        (facts.0, parent-put_out forest filled moved owner front back n fill out ∙ facts.1, fill.runs n facts.0 ∙ rw (out, outside, its) facts.2))
  ]
]

no_run-put : (forest filled : Forest) (moved : List ℕ) (owner : Option ℕ) (front back : List ℕ) → StandsOnce forest → FilledList forest filled moved owner front back →
    (p n : ℕ) → n < length forest.content → parent filled n ≡ Some p → run_of filled n ≡ []
no_run-put forest filled moved owner front back once fill p n here h = elim (cases_Bool (is_member n moved)) [
  | inl t ↦ (let some : owner ≡ Some p = sym (parent-put_in forest filled moved owner front back n once fill t) ∙ h in
      fill.runs n here ∙ rw (t, some) refl)
  | inr f ↦ (let old : parent forest n ≡ Some p = sym (parent-put_out forest filled moved owner front back n fill f) ∙ h in
      elim (cases_Bool (is_member n (front ++ back))) [
        | inl u ↦ (let some : owner ≡ Some p = sym (fill.row_is n u).1 ∙ old in fill.runs n here ∙ rw (f, u, some) refl)
        | inr g ↦ fill.runs n here ∙ rw (f, g) (once.no_run p n old)
      ])
]

-- each number still stands exactly once
pub once-put : (forest filled : Forest) (moved : List ℕ) (owner : Option ℕ) (front back : List ℕ) → StandsOnce forest → FilledList forest filled moved owner front back → StandsOnce filled
once-put forest filled moved owner front back once fill =
    let row = distinct-block front moved back fill.row_once fill.lone.are.once fill.not_inside in
    let long : length filled.content ≡ length forest.content = ap length fill.content in
    record {
      children_each = fill.children_long ∙ once.children_each ∙ sym long;
      runs_each = fill.runs_long ∙ once.runs_each ∙ sym long;
      placed = λ n h. elim (cases_Bool (is_member n moved)) [
        | inl t ↦ rw (siblings-put_in forest filled moved owner front back n once fill t) (is_member-block front moved back n ∙ rw t refl)
        | inr f ↦ rw (siblings-put_out forest filled moved owner front back n once fill (omega arith) f)
            (elim (cases_Bool (is_member n (front ++ back))) [
              | inl u ↦ rw (u, is_member-block front moved back n, f) u
              | inr g ↦ rw g (once.placed n (omega arith))
            ])
      ];
      in_children = λ p n h. rw fill.content (in_children-put forest filled moved owner front back once fill p n h);
      in_run = λ m n h. rw fill.content (in_run-put forest filled moved owner front back once fill m n h);
      children_once = λ p. subst IsDistinct (sym (fill.children p)) (elim (names owner p) as (λ t. IsDistinct (cond t (front ++ (moved ++ back)) (children_of forest p))) [ true ↦ row | false ↦ once.children_once p ]);
      run_once = λ n. elim (cases_lt n (length forest.content)) [
        | inr past ↦ subst IsDistinct (sym (run_past forest filled moved owner front back once fill n past)) tt
        | inl here ↦ subst IsDistinct (sym (fill.runs n here)) (elim (is_member n moved || is_member n (front ++ back)) as (λ t. IsDistinct (cond t (run_under owner (front ++ (moved ++ back))) (run_of forest n))) [
          | true ↦ (elim owner as (λ o. IsDistinct (run_under o (front ++ (moved ++ back)))) [ None ↦ row | Some p ↦ tt ])
          | false ↦ once.run_once n
        ])
      ];
      no_run = λ p n h. elim (cases_lt n (length forest.content)) [
        | inr past ↦ run_past forest filled moved owner front back once fill n past
        | inl here ↦ no_run-put forest filled moved owner front back once fill p n here h
      ];
    }

pub arena-put : (forest filled : Forest) (old new : List TreeNode) (moved : List ℕ) (x : ℕ) (owner left right : Option ℕ) (front back : List ℕ) → IsArenaOf forest old →
    FilledList forest filled moved owner front back → first moved ≡ Some x → left ≡ last front → right ≡ first back → RunAttached old new x owner left right → IsArenaOf filled new
arena-put forest filled old new moved x owner left right front back arena fill starts l r run = record {
  once = once-put forest filled moved owner front back arena.once fill;
  links = links-put forest filled old new moved x owner left right front back arena.once arena.links fill starts l r run;
}
