-- The sums of the nodes of a page.
use Rattle.std.proofs.Common.{ℕ, suc, append_assoc, ◌≡◌, ◌<◌, ◌⊎◌, Bool, true, false, true≢false, List, [], ◌∷◌, ◌++◌, Some, inl, inr, refl, sym, ap, ◌∙◌, subst, arith, length, set, get_or}
use Rattle.std.specs.Prelude.{◌==◌, ◌&&◌, ◌||◌, not, if◌then◌else◌}
use Rattle.std.specs.List.{list_any, push}
use Rattle.std.proofs.lemmas.Bool.{cases_Bool, cases_eq, eq-eqb, eqb-true, or_right}
use Rattle.std.proofs.lemmas.List.{get_or-set_other, get_or-set_same, length-set}
use Rattle.dom_links.specs.Forest.{Forest, children_of, parent}
use Rattle.dom_links.specs.Laws.{AreLines}
use Rattle.dom_links.specs.Lists.{is_member, IsDistinct}
use Rattle.dom_links.specs.Sound.{IsForest}
use Rattle.dom_links.specs.Trees.{ancestors, descendants_in_order}
use Rattle.dom_links.specs.Walk.{rest_after}
use Rattle.dom_links.proofs.forest.Depth.{here_stands}
use Rattle.dom_links.proofs.forest.Neighbours.{is_member-append}
use Rattle.dom_links.proofs.walks.Apart.{walk-inside, walk-once}
use Rattle.dom_article.specs.Best.{facts_at, no_sums, sums_at}
use Rattle.dom_article.specs.Blocks.{all_of, begun, ended}
use Rattle.dom_article.specs.Nodes.{AreSummed, begun_inline, block_sums, by_kind, finished, inline_sums, is_block, linked, node_sums, shown_sums, with_child, with_children, with_hidden, with_inline_child, with_inline_children, with_shown}
use Rattle.dom_article.specs.Sums.{with_inline}
use Rattle.dom_article.specs.Texts.{page_nodes}
use Rattle.dom_article.specs.declared.blocks.Block.{Block}
use Rattle.dom_article.specs.declared.page.Facts.{Facts}
use Rattle.dom_article.specs.declared.page.Page.{Page}
use Rattle.dom_article.specs.declared.rounds.Rules.{Rules}
use Rattle.dom_article.specs.declared.sums.Sums.{Sums}
use Rattle.dom_article.proofs.OrderLemmas.{after_parent}

pub later_stands : (n m : ℕ) (ns : List ℕ) → is_member m ns ≡ true → is_member m (n ∷ ns) ≡ true
later_stands n m ns s = elim (cases_Bool (n == m)) [ inl t ↦ rw t refl | inr f ↦ rw f s ]

-- ---- sums depend on those of the children alone

same_inline : (gone : ℕ → Bool) (one other : ℕ → Sums) (ns : List ℕ) (node : Sums) → ((m : ℕ) → is_member m ns ≡ true → one m ≡ other m) →
    with_inline_children gone one node ns ≡ with_inline_children gone other node ns
same_inline gone one other [] node same = refl
same_inline gone one other (n ∷ ns) node same =
    ap (λ (s : Sums). with_inline_children gone one (if gone n then node else with_inline node s) ns) (same n (here_stands n ns))
    ∙ same_inline gone one other ns (with_inline_child gone other node n) (λ m s. same m (later_stands n m ns s))

same_block : (facts : List Facts) (gone : ℕ → Bool) (one other : ℕ → Sums) (ns : List ℕ) (block : Block) → ((m : ℕ) → is_member m ns ≡ true → one m ≡ other m) →
    with_children facts gone one block ns ≡ with_children facts gone other block ns
same_block facts gone one other [] block same = refl
same_block facts gone one other (n ∷ ns) block same =
    ap (λ (s : Sums). with_children facts gone one (if gone n then with_hidden (facts_at facts n) block else with_shown (facts_at facts n) s block) ns) (same n (here_stands n ns))
    ∙ same_block facts gone one other ns (with_child facts gone other block n) (λ m s. same m (later_stands n m ns s))

same_any : (gone : ℕ → Bool) (one other : ℕ → Sums) (ns : List ℕ) → ((m : ℕ) → is_member m ns ≡ true → one m ≡ other m) →
    list_any (is_block gone one) ns ≡ list_any (is_block gone other) ns
same_any gone one other [] same = refl
same_any gone one other (n ∷ ns) same =
    ap (λ (s : Sums). (not (gone n) && not s.is_inline) || list_any (is_block gone one) ns) (same n (here_stands n ns))
    ∙ ap (λ (b : Bool). is_block gone other n || b) (same_any gone one other ns (λ m s. same m (later_stands n m ns s)))

same_sums : (page : Page) (rules : Rules) (gone : ℕ → Bool) (one other : ℕ → Sums) (n : ℕ) →
    ((m : ℕ) → is_member m (children_of page.tree.now n) ≡ true → one m ≡ other m) → node_sums page rules gone one n ≡ node_sums page rules gone other n
same_sums page rules gone one other n same =
    let ns = children_of page.tree.now n in
    let facts : Facts = facts_at page.facts.items n in
    let blocks : block_sums page rules gone one n ns ≡ block_sums page rules gone other n ns =
    ap (λ (b : Block). finished rules facts n (all_of (ended b))) (same_block page.facts.items gone one other ns (begun (not facts.kind.is_heading) rules.cleans) same) in
    let inlines : inline_sums facts gone one ns ≡ inline_sums facts gone other ns = ap (linked facts) (same_inline gone one other ns (begun_inline facts) same) in
    ap (λ (s : Sums). if gone n then no_sums else s)
    (ap (λ (b : Bool). by_kind facts b (block_sums page rules gone one n ns) (inline_sums facts gone one ns)) (same_any gone one other ns same)
    ∙ (ap (λ (s : Sums). by_kind facts (list_any (is_block gone other) ns) s (inline_sums facts gone one ns)) blocks
    ∙ ap (λ (s : Sums). by_kind facts (list_any (is_block gone other) ns) (block_sums page rules gone other n ns) s) inlines))

-- ---- one node more

-- Nodes that were added up, with all of their children.
pub record Summed (page : Page) (rules : Rules) (gone : ℕ → Bool) (sums : List Sums) (done : List ℕ) : Type 0 where
  pub long : length sums ≡ length page.tree.now.content
  pub closed : (n m : ℕ) → is_member n done ≡ true → is_member m (children_of page.tree.now n) ≡ true → is_member m done ≡ true
  pub summed : AreSummed page rules gone sums done

pub none_summed : (page : Page) (rules : Rules) (gone : ℕ → Bool) (sums : List Sums) → length sums ≡ length page.tree.now.content → Summed page rules gone sums []
none_summed page rules gone sums long = record {
  long = long;
  closed = λ n m s _. absurd (true≢false (sym s));
  summed = λ n s. absurd (true≢false (sym s));
}

other_than : (n m : ℕ) (done : List ℕ) → is_member n done ≡ false → is_member m done ≡ true → m ≡ n → ⊥
other_than n m done new s same = true≢false (sym (subst (λ (k : ℕ). is_member k done ≡ true) same s) ∙ new)

-- A node is added up whose children were, and that wasn't added up.
pub summed_more : (page : Page) (rules : Rules) (gone : ℕ → Bool) (sums : List Sums) (done : List ℕ) (n : ℕ) → Summed page rules gone sums done →
    n < length page.tree.now.content → is_member n done ≡ false → ((m : ℕ) → is_member m (children_of page.tree.now n) ≡ true → is_member m done ≡ true) →
    Summed page rules gone (set sums n (node_sums page rules gone (sums_at sums) n)) (n ∷ done)
summed_more page rules gone sums done n old known new below = record {
  long = length-set sums n here ∙ old.long;
  closed = λ k m s child. elim (cases_Bool (n == k)) [
    | inl t ↦ later_stands n m done (below m (subst (λ (j : ℕ). is_member m (children_of page.tree.now j) ≡ true) (sym (eqb-true n k t)) child))
    | inr f ↦ later_stands n m done (old.closed k m (rw f at s) child)
  ];
  summed = λ k s. elim (cases_Bool (n == k)) [
    | inl t ↦ subst (λ (j : ℕ). sums_at more j ≡ node_sums page rules gone (sums_at more) j) (eqb-true n k t)
        (get_or-set_same sums n here no_sums inside ∙ same_sums page rules gone (sums_at sums) (sums_at more) n (λ m child. sym (kept m (below m child))))
    | inr f ↦ (let was : is_member k done ≡ true = rw f at s in
        kept k was ∙ (old.summed k was ∙ same_sums page rules gone (sums_at sums) (sums_at more) k (λ m child. sym (kept m (old.closed k m was child)))))
  ];
}
  where
    here : Sums
    here = node_sums page rules gone (sums_at sums) n

    more : List Sums
    more = set sums n here

    inside : n < length sums
    inside = let e = old.long in omega arith

    kept : (m : ℕ) → is_member m done ≡ true → sums_at more m ≡ sums_at sums m
    kept m s = get_or-set_other sums n m here no_sums (other_than n m done new s)

-- ---- the order of a page

pub not_before : (xs ys : List ℕ) (n : ℕ) → IsDistinct (xs ++ n ∷ ys) → is_member n xs ≡ false
not_before [] ys n once = refl
not_before (x ∷ xs) ys n once = elim (cases_Bool (x == n)) [
  | inl t ↦ absurd (true≢false (sym (is_member-append xs (n ∷ ys) x ∙ or_right (is_member x xs) _ (ap (λ (b : Bool). b || is_member x ys) (eq-eqb n x (sym (eqb-true x n t))))) ∙ once.0))
  | inr f ↦ rw f (not_before xs ys n once.1)
]

pub not_behind : (xs ys : List ℕ) (n : ℕ) → IsDistinct (xs ++ n ∷ ys) → is_member n ys ≡ false
not_behind [] ys n once = once.0
not_behind (x ∷ xs) ys n once = not_behind xs ys n once.1

rest_is : (xs ys : List ℕ) (n : ℕ) → is_member n xs ≡ false → rest_after (xs ++ n ∷ ys) n ≡ ys
rest_is [] ys n new = rw (eq-eqb n n refl) refl
rest_is (x ∷ xs) ys n new = elim (cases_Bool (x == n)) [
  | inl t ↦ absurd (true≢false (sym (rw t refl) ∙ new))
  | inr f ↦ rw f (rest_is xs ys n (rw f at new))
]

-- The children of a node come behind it.
pub children_behind : (forest : Forest) (left done : List ℕ) (n : ℕ) → IsForest forest → AreLines forest → descendants_in_order forest 0 ≡ left ++ n ∷ done →
    (m : ℕ) → is_member m (children_of forest n) ≡ true → is_member m done ≡ true
children_behind forest left done n good lines split m child =
    let ns = descendants_in_order forest 0 in
    let up : parent forest m ≡ Some n = (good.once.in_children n m child).1 in
    let here : is_member n ns ≡ true = ap (is_member n) split ∙ (is_member-append left (n ∷ done) n ∙ or_right (is_member n left) _ (here_stands n done)) in
    let once : IsDistinct (left ++ n ∷ done) = subst IsDistinct split (walk-once forest 0 good) in
    let after : is_member m (rest_after ns n) ≡ true = after_parent forest 0 m n good lines up here in
    ap (is_member m) (sym (rest_is left done n (not_before left done n once)) ∙ ap (λ ks. rest_after ks n) (sym split)) ∙ after

-- The children of the root are in the order, and the root isn't.
pub children_of_root : (forest : Forest) → IsForest forest → AreLines forest → (m : ℕ) → is_member m (children_of forest 0) ≡ true → is_member m (descendants_in_order forest 0) ≡ true
children_of_root forest good lines m child =
    let up : parent forest m ≡ Some 0 = (good.once.in_children 0 m child).1 in
    lines.below_above 0 m ∙ (ap (is_member 0) (lines.up m 0 up) ∙ here_stands 0 (ancestors forest 0))

pub root_apart : (forest : Forest) → IsForest forest → AreLines forest → is_member 0 (descendants_in_order forest 0) ≡ false
root_apart forest good lines = lines.below_above 0 0 ∙ ap (is_member 0) (lines.top 0 ((good.alone 0 good.rooted refl).0))

-- The next node, from the last one to the first one.
pub summed_next : (page : Page) (rules : Rules) (gone : ℕ → Bool) (sums : List Sums) (left done : List ℕ) (n : ℕ) → IsForest page.tree.now → AreLines page.tree.now →
    descendants_in_order page.tree.now 0 ≡ left ++ n ∷ done → Summed page rules gone sums done →
    Summed page rules gone (set sums n (node_sums page rules gone (sums_at sums) n)) (n ∷ done)
summed_next page rules gone sums left done n good lines split old =
    let forest = page.tree.now in
    let once : IsDistinct (left ++ n ∷ done) = subst IsDistinct split (walk-once forest 0 good) in
    let here : is_member n (descendants_in_order forest 0) ≡ true = ap (is_member n) split ∙ (is_member-append left (n ∷ done) n ∙ or_right (is_member n left) _ (here_stands n done)) in
    summed_more page rules gone sums done n old (walk-inside forest 0 n good here) (not_behind left done n once) (children_behind forest left done n good lines split)

-- The root, after all others.
pub root_summed : (page : Page) (rules : Rules) (gone : ℕ → Bool) (sums : List Sums) → IsForest page.tree.now → AreLines page.tree.now →
    Summed page rules gone sums (descendants_in_order page.tree.now 0) →
    AreSummed page rules gone (set sums 0 (node_sums page rules gone (sums_at sums) 0)) (page_nodes page.tree.now)
root_summed page rules gone sums good lines old =
    let forest = page.tree.now in
    (summed_more page rules gone sums (descendants_in_order forest 0) 0 old good.rooted (root_apart forest good lines) (children_of_root forest good lines)).summed

-- What was added up, where these nodes of the order are left.
abbrev pub SummedBehind : Page → Rules → (gone : ℕ → Bool) → List Sums → (left : List ℕ) → Type 0
SummedBehind page rules gone sums left = (done : List ℕ) × (page.order.items ≡ left ++ done) × Summed page rules gone sums done

pub summed_on : (page : Page) (rules : Rules) (gone : ℕ → Bool) (sums : List Sums) (left rest : List ℕ) (n : ℕ) → IsForest page.tree.now → AreLines page.tree.now →
    page.order.items ≡ descendants_in_order page.tree.now 0 → left ≡ push rest n → SummedBehind page rules gone sums left →
    SummedBehind page rules gone (set sums n (node_sums page rules gone (sums_at sums) n)) rest
summed_on page rules gone sums left rest n good lines ordered step (done, split, old) =
    let is : page.order.items ≡ rest ++ n ∷ done = split ∙ (ap (λ ks. ks ++ done) step ∙ append_assoc rest (n ∷ []) done) in
    (n ∷ done, is, summed_next page rules gone sums rest done n good lines (sym ordered ∙ is) old)

empty : (ns : List ℕ) → length ns ≡ 0 → ns ≡ []
empty [] none = refl
empty (n ∷ ns) none = absurd (let e : suc (length ns) ≡ 0 = none in omega arith)

pub summed_all : (page : Page) (rules : Rules) (gone : ℕ → Bool) (sums : List Sums) (left : List ℕ) → IsForest page.tree.now → AreLines page.tree.now →
    page.order.items ≡ descendants_in_order page.tree.now 0 → length left ≡ 0 → SummedBehind page rules gone sums left →
    AreSummed page rules gone (set sums 0 (node_sums page rules gone (sums_at sums) 0)) (page_nodes page.tree.now)
summed_all page rules gone sums left good lines ordered none (done, split, old) =
    let is : done ≡ descendants_in_order page.tree.now 0 = sym (ap (λ ks. ks ++ done) (empty left none)) ∙ (sym split ∙ ordered) in
    root_summed page rules gone sums good lines (subst (Summed page rules gone sums) is old)
