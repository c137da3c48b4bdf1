-- The nodes of a page that are gone.
use Rattle.std.proofs.Common.{ℕ, suc, take-append-drop, ◌≡◌, ◌<◌, ◌⊎◌, ◌+◌, Bool, true, false, true≢false, List, [], ◌∷◌, ◌++◌, Option, Some, None, inl, inr, refl, sym, ap, ◌∙◌, subst, arith, length, set, get_or, take, drop, replicate, append_assoc}
use Rattle.std.specs.Prelude.{◌==◌, ◌||◌, not}
use Rattle.std.specs.Option.{option_map_or}
use Rattle.std.proofs.Math.Seq.{drop-cons}
use Rattle.std.proofs.lemmas.Bool.{cases_Bool, cases_eq, eq-eqb, eqb-true, or_right}
use Rattle.std.proofs.lemmas.List.{get_or-replicate, get_or-set_other, get_or-set_same, length-replicate, length-set, take_more}
use Rattle.dom_links.specs.Forest.{Forest, parent}
use Rattle.dom_links.specs.Laws.{AreLines}
use Rattle.dom_links.specs.Lists.{is_member, IsDistinct}
use Rattle.dom_links.specs.Sound.{IsForest}
use Rattle.dom_links.specs.Trees.{descendants_in_order}
use Rattle.dom_links.proofs.forest.Depth.{here_stands}
use Rattle.dom_links.proofs.forest.Neighbours.{is_member-append}
use Rattle.dom_links.proofs.forest.Places.{cases_Option}
use Rattle.dom_links.proofs.walks.Apart.{walk-inside, walk-once}
use Rattle.dom_article.specs.Badness.{is_gone_by}
use Rattle.dom_article.specs.Best.{facts_at, gone_at}
use Rattle.dom_article.specs.Nodes.{AreGone, has_gone_parent, is_gone_in, with_gone}
use Rattle.dom_article.specs.declared.page.Page.{Page}
use Rattle.dom_article.specs.declared.rounds.Rules.{Rules}
use Rattle.dom_article.proofs.BestLemmas.{first_or_later}
use Rattle.dom_article.proofs.OrderLemmas.{parent_visited}
use Rattle.dom_article.proofs.SumLemmas.{later_stands, not_before, root_apart}

-- The nodes looked at so far, with their parents; none of the others is gone.
pub record LookedAt (page : Page) (rules : Rules) (gone : List Bool) (done : List ℕ) : Type 0 where
  pub long : length gone ≡ length page.tree.now.content
  pub closed : (n p : ℕ) → is_member n done ≡ true → parent page.tree.now n ≡ Some p → is_member p (0 ∷ done) ≡ true
  pub each : (n : ℕ) → is_member n done ≡ true → gone_at gone n ≡ is_gone_in page rules gone n
  pub others : (n : ℕ) → n < length page.tree.now.content → is_member n done ≡ false → gone_at gone n ≡ false

pub none_looked_at : (page : Page) (rules : Rules) (count : ℕ) (gone : List Bool) → gone ≡ replicate count false → count ≡ length page.tree.now.content → LookedAt page rules gone []
none_looked_at page rules count gone is long = record {
  long = ap length is ∙ (length-replicate count false ∙ long);
  closed = λ n p s _. absurd (true≢false (sym s));
  each = λ n s. absurd (true≢false (sym s));
  others = λ n known _. ap (λ (ms : List Bool). gone_at ms n) is ∙ get_or-replicate count n false true (let e = long in omega arith);
}

pub in_joined : (done : List ℕ) (n m : ℕ) → is_member m (done ++ n ∷ []) ≡ true → (is_member m done ≡ true) ⊎ (n ≡ m)
in_joined done n m s = elim (cases_Bool (is_member m done)) [
  | inl t ↦ inl t
  | inr f ↦ (let both : (is_member m done || is_member m (n ∷ [])) ≡ true = sym (is_member-append done (n ∷ []) m) ∙ s in
      elim (first_or_later n m [] (rw f at both)) [ inl e ↦ inr e | inr empty ↦ absurd (true≢false (sym empty)) ])
]

joined_left : (done : List ℕ) (n m : ℕ) → is_member m done ≡ true → is_member m (done ++ n ∷ []) ≡ true
joined_left done n m s = is_member-append done (n ∷ []) m ∙ rw s refl

not_joined : (done : List ℕ) (n m : ℕ) → is_member m (done ++ n ∷ []) ≡ false → (is_member m done ≡ false) × (n ≡ m → ⊥)
not_joined done n m s = (
  elim (cases_Bool (is_member m done)) [ inl t ↦ absurd (true≢false (sym (joined_left done n m t) ∙ s)) | inr f ↦ f ],
  λ e. true≢false (sym (is_member-append done (n ∷ []) m ∙ or_right (is_member m done) _ (subst (λ (k : ℕ). is_member k (n ∷ []) ≡ true) e (here_stands n []))) ∙ s),
)

wider : (done : List ℕ) (n p : ℕ) → is_member p (0 ∷ done) ≡ true → is_member p (0 ∷ (done ++ n ∷ [])) ≡ true
wider done n p s = elim (first_or_later 0 p done s) [
  | inl e ↦ subst (λ (k : ℕ). is_member k (0 ∷ (done ++ n ∷ [])) ≡ true) e (here_stands 0 (done ++ n ∷ []))
  | inr old ↦ later_stands 0 p (done ++ n ∷ []) (joined_left done n p old)
]

-- The marks of all other nodes are kept.
kept : (page : Page) (rules : Rules) (gone : List Bool) (n m : ℕ) → (m ≡ n → ⊥) → gone_at (with_gone page rules n gone) m ≡ gone_at gone m
kept page rules gone n m other = elim (cases_Bool (is_gone_in page rules gone n)) [
  | inl t ↦ rw t (get_or-set_other gone n m true true other)
  | inr f ↦ rw f refl
]

-- Whether a node is gone depends on its parent alone.
same_in : (page : Page) (rules : Rules) (one other : List Bool) (n : ℕ) → ((p : ℕ) → parent page.tree.now n ≡ Some p → gone_at one p ≡ gone_at other p) →
    is_gone_in page rules one n ≡ is_gone_in page rules other n
same_in page rules one other n same = ap (λ (b : Bool). is_gone_by rules (facts_at page.facts.items n) || b) (elim (cases_Option (parent page.tree.now n)) [
  | inl none ↦ rw none refl
  | inr (p, up) ↦ rw up (same p up)
])

now_gone : (page : Page) (rules : Rules) (gone : List Bool) (n : ℕ) → n < length gone → gone_at gone n ≡ false → gone_at (with_gone page rules n gone) n ≡ is_gone_in page rules gone n
now_gone page rules gone n inside clear = elim (cases_Bool (is_gone_in page rules gone n)) [
  | inl t ↦ rw t (get_or-set_same gone n true true inside)
  | inr f ↦ rw f clear
]

as_long : (page : Page) (rules : Rules) (gone : List Bool) (n : ℕ) → length (with_gone page rules n gone) ≡ length gone
as_long page rules gone n = elim (cases_Bool (is_gone_in page rules gone n)) [ inl t ↦ rw t (length-set gone n true) | inr f ↦ rw f refl ]

-- One node more.
pub looks_at : (page : Page) (rules : Rules) (gone : List Bool) (done left : List ℕ) (n : ℕ) → IsForest page.tree.now → AreLines page.tree.now →
    descendants_in_order page.tree.now 0 ≡ done ++ n ∷ left → LookedAt page rules gone done → LookedAt page rules (with_gone page rules n gone) (done ++ n ∷ [])
looks_at page rules gone done left n good lines split old = record {
  long = as_long page rules gone n ∙ old.long;
  closed = λ m p s up. elim (in_joined done n m s) [
    | inl was ↦ wider done n p (old.closed m p was up)
    | inr e ↦ wider done n p (above p (subst (λ (k : ℕ). parent forest k ≡ Some p) (sym e) up))
  ];
  each = λ m s. elim (in_joined done n m s) [
    | inl was ↦ kept page rules gone n m (apart m was) ∙ (old.each m was ∙ same_in page rules gone more m (λ p up. sym (kept page rules gone n p (not_above p (old.closed m p was up)))))
    | inr e ↦ subst (λ (k : ℕ). gone_at more k ≡ is_gone_in page rules more k) e
        (now_gone page rules gone n inside (old.others n known new) ∙ same_in page rules gone more n (λ p up. sym (kept page rules gone n p (not_above p (above p up)))))
  ];
  others = λ m inside_it s. (let both = not_joined done n m s in kept page rules gone n m (λ e. both.1 (sym e)) ∙ old.others m inside_it both.0);
}
  where
    forest : Forest
    forest = page.tree.now

    more : List Bool
    more = with_gone page rules n gone

    once : IsDistinct (done ++ n ∷ left)
    once = subst IsDistinct split (walk-once forest 0 good)

    new : is_member n done ≡ false
    new = not_before done left n once

    here : is_member n (descendants_in_order forest 0) ≡ true
    here = ap (is_member n) split ∙ (is_member-append done (n ∷ left) n ∙ or_right (is_member n done) _ (here_stands n left))

    known : n < length forest.content
    known = walk-inside forest 0 n good here

    inside : n < length gone
    inside = let e = old.long in let k = known in omega arith

    above : (p : ℕ) → parent forest n ≡ Some p → is_member p (0 ∷ done) ≡ true
    above p up = parent_visited forest 0 n p done left good lines split up

    apart : (m : ℕ) → is_member m done ≡ true → m ≡ n → ⊥
    apart m s e = true≢false (sym (subst (λ (k : ℕ). is_member k done ≡ true) e s) ∙ new)

    not_above : (p : ℕ) → is_member p (0 ∷ done) ≡ true → p ≡ n → ⊥
    not_above p s e = elim (first_or_later 0 p done s) [
      | inl root ↦ true≢false (sym (subst (λ (k : ℕ). is_member k (descendants_in_order forest 0) ≡ true) (sym (root ∙ e)) here) ∙ root_apart forest good lines)
      | inr was ↦ apart p was e
    ]

-- All nodes.
pub all_looked_at : (page : Page) (rules : Rules) (gone : List Bool) → IsForest page.tree.now → AreLines page.tree.now → LookedAt page rules gone (descendants_in_order page.tree.now 0) → AreGone page rules gone
all_looked_at page rules gone good lines old = record {
  root = old.others 0 good.rooted (root_apart page.tree.now good lines);
  each = old.each;
}

-- The next node of the order.
pub looks_next : (page : Page) (rules : Rules) (gone : List Bool) (ns : List ℕ) (i n : ℕ) → IsForest page.tree.now → AreLines page.tree.now → ns ≡ descendants_in_order page.tree.now 0 →
    i < length ns → n ≡ get_or ns i n → LookedAt page rules gone (take i ns) → LookedAt page rules (with_gone page rules n gone) (take (i + 1) ns)
looks_next page rules gone ns i n good lines are inside is old =
    let tail : drop i ns ≡ n ∷ drop (suc i) ns = drop-cons ns i n inside ∙ ap (λ (k : ℕ). k ∷ drop (suc i) ns) (sym is) in
    let split : descendants_in_order page.tree.now 0 ≡ take i ns ++ n ∷ drop (suc i) ns = sym are ∙ (sym (take-append-drop i ns) ∙ ap (λ ks. take i ns ++ ks) tail) in
    let done : take (i + 1) ns ≡ take i ns ++ n ∷ [] = take_more ns i n inside ∙ ap (λ (k : ℕ). take i ns ++ k ∷ []) (sym is) in
    subst (LookedAt page rules (with_gone page rules n gone)) (sym done) (looks_at page rules gone (take i ns) (drop (suc i) ns) n good lines split old)
