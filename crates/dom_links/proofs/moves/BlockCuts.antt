-- A list of nodes is detached: where the numbers then stand, and which links they then have.
use Rattle.std.proofs.Common.{ℕ, ◌≡◌, ◌<◌, true, false, List, [], ◌∷◌, ◌++◌, Option, Some, None, refl, sym, ap, ◌∙◌, subst, arith, cond, inl, inr, length}
use Rattle.std.specs.Prelude.{◌==◌, ◌||◌, ◌&&◌, not}
use Rattle.std.specs.Option.{is_none}
use Rattle.std.proofs.lemmas.List.{length-map}
use Rattle.std.proofs.lemmas.Bool.{cases_Bool, true≢false, and_parts, not-true, cases_lt, cond-false}
use Rattle.dom_nodes.specs.declared.node_data.TreeNode.{TreeNode}
use Rattle.dom_links.specs.Lists.{is_member, IsDistinct, first, last, after, before, without, names}
use Rattle.dom_links.specs.Forest.{Forest, StandsOnce, AreLinks, IsArenaOf, children_of, run_of, parent, siblings, next_link, chain}
use Rattle.dom_links.specs.Moves.{detach}
use Rattle.dom_links.specs.Writes.{Joined}
pub use Rattle.dom_links.specs.ListMoves.{AreNodes}
use Rattle.dom_links.specs.ListWrites.{ParentsSet, next_chain}
use Rattle.dom_links.proofs.forest.Neighbours.{is_member-append, is_member-without, distinct-without, distinct_parts, names-true, names-same, not_named, first-stands, last-stands}
use Rattle.dom_links.proofs.forest.Places.{cases_Option, siblings_child, siblings_run, siblings_once, Beside, beside, length-map_from}
use Rattle.dom_links.proofs.moves.Cuts.{children-detach, parent-detach, run-detach, run-cut_past, length-contents, one_known}
use Rattle.dom_links.proofs.forest.Chains.{chain_all}
use Rattle.dom_links.proofs.moves.BlockLists.{Apart, apart_back, without_none, without_end, after-cut_end, after-end, before-cut_end, before-end, first-cut_end}

-- the list that a node stands in, once the nodes are detached
pub siblings-cut_out : (forest : Forest) (moved : List ℕ) (n : ℕ) → StandsOnce forest → n < length forest.content → is_member n moved ≡ false →
    siblings (detach moved forest) n ≡ without moved (siblings forest n)
siblings-cut_out forest moved n once h e =
    let same : parent (detach moved forest) n ≡ parent forest n = rw (parent-detach moved forest n, e) refl in
    let here : n < length forest.runs = omega (arith, once.runs_each) in
    elim (cases_Option (parent forest n)) [
      | inl none ↦ siblings_run (detach moved forest) n (same ∙ none) ∙ run-detach moved forest n here ∙ rw e (ap (without moved) (sym (siblings_run forest n none)))
      | inr (p, some) ↦ siblings_child (detach moved forest) n p (same ∙ some) ∙ children-detach moved forest p ∙ ap (without moved) (sym (siblings_child forest n p some))
    ]

pub siblings-cut_in : (forest : Forest) (moved : List ℕ) (n : ℕ) → StandsOnce forest → n < length forest.content → is_member n moved ≡ true → siblings (detach moved forest) n ≡ moved
siblings-cut_in forest moved n once h e =
    let none : parent (detach moved forest) n ≡ None = rw (parent-detach moved forest n, e) refl in
    let here : n < length forest.runs = omega (arith, once.runs_each) in
    siblings_run (detach moved forest) n none ∙ run-detach moved forest n here ∙ rw e refl

in_run-detach : (forest : Forest) (moved : List ℕ) → StandsOnce forest → AreNodes forest moved → (m n : ℕ) → is_member n (run_of (detach moved forest) m) ≡ true →
    (n < length forest.content) × (parent (detach moved forest) n ≡ None) × (run_of (detach moved forest) n ≡ run_of (detach moved forest) m)
in_run-detach forest moved once are m n h = elim (cases_lt m (length forest.runs)) [
  | inl here ↦ (let run' = run-detach moved forest m here in
      elim (cases_Bool (is_member m moved)) [
        | inl t ↦ (let it : run_of (detach moved forest) m ≡ moved = rw (run', t) refl in
            let inside : is_member n moved ≡ true = ap (is_member n) (sym it) ∙ h in
            let known : n < length forest.content = are.known n inside in
            (known, rw (parent-detach moved forest n, inside) refl, rw (it, run-detach moved forest n (omega (arith, once.runs_each)), inside) refl))
        | inr f ↦ (let it : run_of (detach moved forest) m ≡ without moved (run_of forest m) = rw (run', f) refl in
            let kept : (is_member n (run_of forest m) && not (is_member n moved)) ≡ true = sym (is_member-without moved (run_of forest m) n) ∙ ap (is_member n) (sym it) ∙ h in
            let both = and_parts (is_member n (run_of forest m)) (not (is_member n moved)) kept in
            let outside : is_member n moved ≡ false = not-true (is_member n moved) both.1 in
            let facts = once.in_run m n both.0 in
            let known : n < length forest.content = facts.0 in
            (known, rw (parent-detach moved forest n, outside) facts.1, rw (it, run-detach moved forest n (omega (arith, once.runs_each)), outside, facts.2) refl))
      ])
  | inr past ↦ absurd (true≢false (sym h ∙ ap (is_member n) (run-cut_past moved forest m past)))
]

no_run-detach : (forest : Forest) (moved : List ℕ) → StandsOnce forest → (p n : ℕ) → parent (detach moved forest) n ≡ Some p → run_of (detach moved forest) n ≡ []
no_run-detach forest moved once p n h = elim (cases_lt n (length forest.runs)) [
  | inl here ↦ (elim (cases_Bool (is_member n moved)) [
    | inl t ↦ (let none : parent (detach moved forest) n ≡ None = rw (parent-detach moved forest n, t) refl in cc)
    | inr f ↦ (let some : parent forest n ≡ Some p = sym (parent-detach moved forest n ∙ cond-false (is_member n moved) None (parent forest n) f) ∙ h in
        rw (run-detach moved forest n here, f, once.no_run p n some) refl)
  ])
  | inr past ↦ run-cut_past moved forest n past
]

-- each number still stands exactly once
pub once-cut_list : (forest : Forest) (moved : List ℕ) → StandsOnce forest → AreNodes forest moved → StandsOnce (detach moved forest)
once-cut_list forest moved once are =
    let after_it = detach moved forest in
    let long : length after_it.runs ≡ length forest.runs = length-map_from 0 (λ k run. cond (is_member k moved) moved (without moved run)) forest.runs in
    record {
      children_each = length-map forest.children (without moved) ∙ once.children_each;
      runs_each = long ∙ once.runs_each;
      placed = λ n h. elim (cases_Bool (is_member n moved)) [
        | inl t ↦ rw (siblings-cut_in forest moved n once h t) t
        | inr f ↦ rw (siblings-cut_out forest moved n once h f, is_member-without moved (siblings forest n) n, once.placed n h, f) refl
      ];
      in_children = λ p n h.
          let kept : (is_member n (children_of forest p) && not (is_member n moved)) ≡ true = sym (is_member-without moved (children_of forest p) n) ∙ ap (is_member n) (sym (children-detach moved forest p)) ∙ h in
          let both = and_parts (is_member n (children_of forest p)) (not (is_member n moved)) kept in
          let other : is_member n moved ≡ false = not-true (is_member n moved) both.1 in
          let facts = once.in_children p n both.0 in
          (facts.0, rw (parent-detach moved forest n, other) facts.1);
      in_run = λ m n h. in_run-detach forest moved once are m n h;
      children_once = λ p. rw (children-detach moved forest p) (distinct-without moved (children_of forest p) (once.children_once p));
      run_once = λ n. elim (cases_lt n (length forest.runs)) [
        | inl here ↦ rw (run-detach moved forest n here)
            (elim (is_member n moved) as (λ t. IsDistinct (cond t moved (without moved (run_of forest n)))) [
              | true ↦ are.once
              | false ↦ distinct-without moved (run_of forest n) (once.run_once n)
            ])
        | inr past ↦ rw (run-cut_past moved forest n past) tt
      ];
      no_run = λ p n h. no_run-detach forest moved once p n h;
    }

-- a node is a list of nodes
pub one_node : (forest : Forest) (x : ℕ) → x < length forest.content → AreNodes forest (x ∷ [])
one_node forest x known = record { once = (refl, tt); known = one_known forest x known }

pub once-detach : (forest : Forest) (x : ℕ) → StandsOnce forest → x < length forest.content → StandsOnce (detach (x ∷ []) forest)
once-detach forest x once known = once-cut_list forest (x ∷ []) once (one_node forest x known)

-- x and the nodes after it in its list
pub record IsTail (forest : Forest) (x : ℕ) (front moved : List ℕ) : Type 0 where
  pub known : x < length forest.content
  pub row : siblings forest x ≡ front ++ moved
  pub starts : first moved ≡ Some x

-- what is known of them
pub record TailFacts (forest : Forest) (x : ℕ) (front moved : List ℕ) : Type 0 where
  pub are : AreNodes forest moved
  pub front_once : IsDistinct front
  pub apart : Apart front moved
  pub inside : (n : ℕ) → is_member n moved ≡ true → Beside forest x n
  pub ahead : (n : ℕ) → is_member n front ≡ true → Beside forest x n

pub tail_facts : (forest : Forest) (x : ℕ) (front moved : List ℕ) → StandsOnce forest → IsTail forest x front moved → TailFacts forest x front moved
tail_facts forest x front moved once tail =
    let parts = distinct_parts front moved (subst IsDistinct tail.row (siblings_once forest x once)) in
    let in_row : (n : ℕ) → (is_member n front || is_member n moved) ≡ true → Beside forest x n = λ n s. beside forest x n once (ap (is_member n) tail.row ∙ is_member-append front moved n ∙ s) in
    let inside : (n : ℕ) → is_member n moved ≡ true → Beside forest x n = λ n s. in_row n (rw s (elim (is_member n front) as (λ t. (t || true) ≡ true) [ true ↦ refl | false ↦ refl ])) in
    record {
      are = record { once = parts.1; known = λ n s. Beside.known (inside n s) };
      front_once = parts.0;
      apart = parts.2;
      inside = inside;
      ahead = λ n s. in_row n (rw s refl);
    }

-- a list that has no node in the front has none of the moved ones
no_moved : (forest : Forest) (x n : ℕ) (front moved : List ℕ) → StandsOnce forest → IsTail forest x front moved → n < length forest.content → is_member n moved ≡ false → is_member n front ≡ false →
    Apart (siblings forest n) moved
no_moved forest x n front moved once tail h out ahead =
    let facts = tail_facts forest x front moved once tail in
    apart_back moved (siblings forest n) (λ m s. elim (cases_Bool (is_member m (siblings forest n))) [
      | inr f ↦ f
      | inl t ↦ (let same : siblings forest n ≡ front ++ moved = sym (Beside.same_siblings (beside forest n m once t)) ∙ Beside.same_siblings (facts.inside m s) ∙ tail.row in
          absurd (true≢false (sym (once.placed n h) ∙ ap (is_member n) same ∙ is_member-append front moved n ∙ rw (ahead, out) refl)))
    ])

-- the list of a node in the front
front_row : (forest : Forest) (x n : ℕ) (front moved : List ℕ) → StandsOnce forest → IsTail forest x front moved → is_member n front ≡ true → siblings forest n ≡ front ++ moved
front_row forest x n front moved once tail s = Beside.same_siblings (TailFacts.ahead (tail_facts forest x front moved once tail) n s) ∙ tail.row

inside_row : (forest : Forest) (x n : ℕ) (front moved : List ℕ) → StandsOnce forest → IsTail forest x front moved → is_member n moved ≡ true → siblings forest n ≡ front ++ moved
inside_row forest x n front moved once tail s = Beside.same_siblings (TailFacts.inside (tail_facts forest x front moved once tail) n s) ∙ tail.row

-- only the one before x gets another follower
pub after-cut_list : (forest : Forest) (x n : ℕ) (front moved : List ℕ) → StandsOnce forest → IsTail forest x front moved → n < length forest.content →
    after (siblings (detach moved forest) n) n ≡ cond (names (last front) n) None (after (siblings forest n) n)
after-cut_list forest x n front moved once tail h =
    let facts = tail_facts forest x front moved once tail in
    let not_last = not_named (last front) front n (last-stands front) in
    elim (cases_Bool (is_member n moved)) [
      | inl t ↦ (let off : is_member n front ≡ false = apart_back front moved facts.apart n t in
          rw (siblings-cut_in forest moved n once h t, inside_row forest x n front moved once tail t, not_last off) (sym (after-end front moved n off)))
      | inr out ↦ elim (cases_Bool (is_member n front)) [
        | inl s ↦ rw (siblings-cut_out forest moved n once h out, front_row forest x n front moved once tail s, without_end moved front facts.apart)
            (after-cut_end front moved x n facts.front_once tail.starts out)
        | inr off ↦ rw (siblings-cut_out forest moved n once h out, without_none moved (siblings forest n) (no_moved forest x n front moved once tail h out off), not_last off) refl
      ]
    ]

-- only x gets another one before it
pub before-cut_list : (forest : Forest) (x n : ℕ) (front moved : List ℕ) → StandsOnce forest → IsTail forest x front moved → n < length forest.content →
    before (siblings (detach moved forest) n) n ≡ cond (x == n) None (before (siblings forest n) n)
before-cut_list forest x n front moved once tail h =
    let facts = tail_facts forest x front moved once tail in
    elim (cases_Bool (is_member n moved)) [
      | inl t ↦ rw (siblings-cut_in forest moved n once h t, inside_row forest x n front moved once tail t)
          (before-end front moved x n facts.are.once tail.starts t)
      | inr out ↦ (let other : (x == n) ≡ false = not_named (Some x) moved n (λ m e. first-stands moved m (tail.starts ∙ e)) out in
          elim (cases_Bool (is_member n front)) [
            | inl s ↦ rw (siblings-cut_out forest moved n once h out, front_row forest x n front moved once tail s, without_end moved front facts.apart, other)
                (sym (before-cut_end front moved n out))
            | inr off ↦ rw (siblings-cut_out forest moved n once h out, without_none moved (siblings forest n) (no_moved forest x n front moved once tail h out off), other) refl
          ])
    ]

-- the children of a node once the moved ones are detached
children-cut_list : (forest : Forest) (x p : ℕ) (front moved : List ℕ) → StandsOnce forest → IsTail forest x front moved →
    children_of (detach moved forest) p ≡ cond (names (parent forest x) p) front (children_of forest p)
children-cut_list forest x p front moved once tail =
    let facts = tail_facts forest x front moved once tail in
    elim (cases_Bool (names (parent forest x) p)) [
      | inl t ↦ rw (t, children-detach moved forest p) (ap (without moved) (sym (siblings_child forest x p (names-true (parent forest x) p t)) ∙ tail.row) ∙ without_end moved front facts.apart)
      | inr f ↦ rw (f, children-detach moved forest p) (without_none moved (children_of forest p) (λ n s. elim (cases_Bool (is_member n moved)) [
        | inr g ↦ g
        | inl t ↦ (let some : parent forest x ≡ Some p = sym (Beside.same_parent (facts.inside n t)) ∙ (once.in_children p n s).1 in
            absurd (true≢false (sym (ap (λ o. names o p) some ∙ names-same p) ∙ f)))
      ]))
    ]

pub first-cut_list : (forest : Forest) (x p : ℕ) (front moved : List ℕ) → StandsOnce forest → IsTail forest x front moved →
    first (children_of (detach moved forest) p) ≡ cond (is_none (last front) && names (parent forest x) p) None (first (children_of forest p))
first-cut_list forest x p front moved once tail = ap first (children-cut_list forest x p front moved once tail) ∙
    (elim (cases_Bool (names (parent forest x) p)) [
      | inl t ↦ rw (t, sym (siblings_child forest x p (names-true (parent forest x) p t)) ∙ tail.row)
          (first-cut_end front moved ∙ (elim (is_none (last front)) as (λ u. cond u None (first (front ++ moved)) ≡ cond (u && true) None (first (front ++ moved))) [ true ↦ refl | false ↦ refl ]))
      | inr f ↦ rw f (elim (is_none (last front)) as (λ u. first (children_of forest p) ≡ cond (u && false) None (first (children_of forest p))) [ true ↦ refl | false ↦ refl ])
    ])

pub last-cut_list : (forest : Forest) (x p : ℕ) (front moved : List ℕ) → StandsOnce forest → IsTail forest x front moved →
    last (children_of (detach moved forest) p) ≡ cond (names (parent forest x) p) (last front) (last (children_of forest p))
last-cut_list forest x p front moved once tail = ap last (children-cut_list forest x p front moved once tail) ∙
    (elim (names (parent forest x) p) as (λ t. last (cond t front (children_of forest p)) ≡ cond t (last front) (last (children_of forest p))) [ true ↦ refl | false ↦ refl ])

-- the writes of a detachment: the one before x is the last of its list, nothing stands before x, and the moved ones name no parent
pub record Freed (old new : List TreeNode) (x : ℕ) (owner left : Option ℕ) : Type 0 where
  pub shortened : List TreeNode
  pub opened : List TreeNode
  pub shortens : Joined old shortened owner left None
  pub opens : Joined shortened opened None None (Some x)
  pub frees : ParentsSet opened new (next_chain opened x) None

-- by next links x leads to all the nodes that are moved
pub next_chain-tail : (forest : Forest) (old shortened opened : List TreeNode) (x : ℕ) (front moved : List ℕ) → StandsOnce forest → AreLinks forest old → IsTail forest x front moved →
    Joined old shortened (parent forest x) (last front) None → Joined shortened opened None None (Some x) → next_chain opened x ≡ moved
next_chain-tail forest old shortened opened x front moved once links tail join open' =
    let facts = tail_facts forest x front moved once tail in
    let long : length old ≡ length forest.content = length-contents forest old links in
    let same : length opened ≡ length old = open'.same_length ∙ join.same_length in
    ap (chain (next_link opened) (length opened)) (sym tail.starts) ∙
    chain_all (next_link opened) moved (length opened) facts.are.once
    (λ n s. (let known : n < length forest.content = facts.are.known n s in
    let off : is_member n front ≡ false = apart_back front moved facts.apart n s in
    let other = not_named (last front) front n (last-stands front) off in
    open'.nexts n ∙ join.nexts n ∙ rw (other, links.nexts n (omega arith), inside_row forest x n front moved once tail s) (after-end front moved n off)))
    (λ n s. (let known : n < length forest.content = facts.are.known n s in omega arith))

pub links-cut_list : (forest : Forest) (old new : List TreeNode) (x : ℕ) (front moved : List ℕ) → StandsOnce forest → AreLinks forest old → IsTail forest x front moved →
    Freed old new x (parent forest x) (last front) → AreLinks (detach moved forest) new
links-cut_list forest old new x front moved once links tail freed =
    let join = freed.shortens in
    let open' = freed.opens in
    let set = freed.frees in
    let long : length old ≡ length forest.content = length-contents forest old links in
    let same : length new ≡ length old = set.same_length ∙ open'.same_length ∙ join.same_length in
    let all = next_chain-tail forest old freed.shortened freed.opened x front moved once links tail join open' in
    record {
      contents = set.contents ∙ open'.contents ∙ join.contents ∙ links.contents;
      ids = λ n h. rw (set.ids, open'.ids, join.ids) (links.ids n (omega arith));
      parents = λ n h. rw (set.parents n, all, open'.parents n, join.parents n, parent-detach moved forest n, links.parents n (omega arith)) refl;
      prevs = λ n h. rw (set.prevs n, open'.prevs n, join.prevs n, links.prevs n (omega arith)) (sym (before-cut_list forest x n front moved once tail (omega arith)));
      nexts = λ n h. rw (set.nexts n, open'.nexts n, join.nexts n, links.nexts n (omega arith)) (sym (after-cut_list forest x n front moved once tail (omega arith)));
      firsts = λ p h. rw (set.firsts p, open'.firsts p, join.firsts p, links.firsts p (omega arith)) (sym (first-cut_list forest x p front moved once tail));
      lasts = λ p h. rw (set.lasts p, open'.lasts p, join.lasts p, links.lasts p (omega arith)) (sym (last-cut_list forest x p front moved once tail));
    }

pub arena-cut_list : (forest : Forest) (old new : List TreeNode) (x : ℕ) (front moved : List ℕ) → IsArenaOf forest old → IsTail forest x front moved →
    Freed old new x (parent forest x) (last front) → IsArenaOf (detach moved forest) new
arena-cut_list forest old new x front moved arena tail freed = record {
  once = once-cut_list forest moved arena.once (TailFacts.are (tail_facts forest x front moved arena.once tail));
  links = links-cut_list forest old new x front moved arena.once arena.links tail freed;
}
