-- Which nodes of a page hold the article.
use Rattle.std.proofs.Common.{ℕ, suc, append_assoc, ◌≡◌, ◌<◌, Bool, true, false, true≢false, List, [], ◌∷◌, ◌++◌, inl, inr, refl, sym, ap, ◌∙◌, subst, arith, length, set}
use Rattle.std.specs.Prelude.{◌==◌, ◌||◌}
use Rattle.std.specs.List.{list_any, push}
use Rattle.std.proofs.lemmas.Bool.{cases_Bool, eq-eqb, eqb-true, or_right}
use Rattle.std.proofs.lemmas.List.{get_or-set_other, get_or-set_same, length-set}
use Rattle.dom_links.specs.Forest.{Forest, children_of}
use Rattle.dom_links.specs.Laws.{AreLines}
use Rattle.dom_links.specs.Lists.{is_member, IsDistinct}
use Rattle.dom_links.specs.Sound.{IsForest}
use Rattle.dom_links.specs.Trees.{descendants_in_order}
use Rattle.dom_links.proofs.forest.Depth.{here_stands}
use Rattle.dom_links.proofs.forest.Neighbours.{is_member-append}
use Rattle.dom_links.proofs.walks.Apart.{walk-inside, walk-once}
use Rattle.dom_article.specs.Best.{facts_at}
use Rattle.dom_article.specs.Facts.{AreHeld, holds_in, is_head}
use Rattle.dom_article.specs.Known.{AreAlike, with_held, without_held}
use Rattle.dom_article.specs.Texts.{page_nodes}
use Rattle.dom_article.specs.declared.page.Facts.{Facts}
use Rattle.dom_article.proofs.SumLemmas.{children_behind, children_of_root, later_stands, not_behind, root_apart}

-- ---- a node depends on itself and its children alone

any_same : (one other : List Facts) (ns : List ℕ) → ((m : ℕ) → is_member m ns ≡ true → (facts_at one m).holds ≡ (facts_at other m).holds) →
    list_any (λ m. (facts_at one m).holds) ns ≡ list_any (λ m. (facts_at other m).holds) ns
any_same one other [] same = refl
any_same one other (n ∷ ns) same =
    ap (λ (b : Bool). b || list_any (λ m. (facts_at one m).holds) ns) (same n (here_stands n ns))
    ∙ ap (λ (b : Bool). (facts_at other n).holds || b) (any_same one other ns (λ m s. same m (later_stands n m ns s)))

same_holds : (forest : Forest) (one other : List Facts) (n : ℕ) → is_head (facts_at one n) ≡ is_head (facts_at other n) →
    ((m : ℕ) → is_member m (children_of forest n) ≡ true → (facts_at one m).holds ≡ (facts_at other m).holds) → holds_in forest one n ≡ holds_in forest other n
same_holds forest one other n head same =
    ap (λ (b : Bool). b || list_any (λ m. (facts_at one m).holds) (children_of forest n)) head
    ∙ ap (λ (b : Bool). is_head (facts_at other n) || b) (any_same one other (children_of forest n) same)

-- ---- one node more

-- Nodes of which it is known, with all of their children.
pub record Held (forest : Forest) (own facts : List Facts) (done : List ℕ) : Type 0 where
  pub long : length facts ≡ length forest.content
  pub closed : (n m : ℕ) → is_member n done ≡ true → is_member m (children_of forest n) ≡ true → is_member m done ≡ true
  pub held : AreHeld forest facts done
  pub alike : AreAlike own facts

pub none_held : (forest : Forest) (facts : List Facts) → length facts ≡ length forest.content → Held forest facts facts []
none_held forest facts long = record {
  long = long;
  closed = λ n m s _. absurd (true≢false (sym s));
  held = λ n s. absurd (true≢false (sym s));
  alike = record { long = refl; each = λ n. refl };
}

other_than : (n m : ℕ) (done : List ℕ) → is_member n done ≡ false → is_member m done ≡ true → m ≡ n → ⊥
other_than n m done new s same = true≢false (sym (subst (λ (k : ℕ). is_member k done ≡ true) same s) ∙ new)

pub held_more : (forest : Forest) (own facts : List Facts) (done : List ℕ) (n : ℕ) → Held forest own facts done → n < length forest.content →
    is_member n done ≡ false → ((m : ℕ) → is_member m (children_of forest n) ≡ true → is_member m done ≡ true) →
    Held forest own (with_held forest n facts) (n ∷ done)
held_more forest own facts done n old known new below = record {
  long = length-set facts n here ∙ old.long;
  closed = λ k m s child. elim (cases_Bool (n == k)) [
    | inl t ↦ later_stands n m done (below m (subst (λ (j : ℕ). is_member m (children_of forest j) ≡ true) (sym (eqb-true n k t)) child))
    | inr f ↦ later_stands n m done (old.closed k m (rw f at s) child)
  ];
  held = λ k s. elim (cases_Bool (n == k)) [
    | inl t ↦ subst (λ (j : ℕ). (facts_at more j).holds ≡ holds_in forest more j) (eqb-true n k t)
        (ap (λ (f : Facts). f.holds) at_here ∙ same_holds forest facts more n (sym (ap is_head at_here)) (λ m child. sym (ap (λ (f : Facts). f.holds) (kept m (below m child)))))
    | inr f ↦ (let was : is_member k done ≡ true = rw f at s in
        ap (λ (f : Facts). f.holds) (kept k was) ∙ (old.held k was
        ∙ same_holds forest facts more k (sym (ap is_head (kept k was))) (λ m child. sym (ap (λ (f : Facts). f.holds) (kept m (old.closed k m was child))))))
  ];
  alike = record {
    long = length-set facts n here ∙ old.alike.long;
    each = λ k. elim (cases_Bool (n == k)) [
      | inl t ↦ subst (λ (j : ℕ). without_held (facts_at more j) ≡ without_held (facts_at own j)) (eqb-true n k t) (ap without_held at_here ∙ old.alike.each n)
      | inr f ↦ ap without_held (get_or-set_other facts n k here _ (λ same. true≢false (sym (same_eqb n k same) ∙ f))) ∙ old.alike.each k
    ];
  };
}
  where
    here : Facts
    here = record (facts_at facts n) { holds = holds_in forest facts n }

    more : List Facts
    more = set facts n here

    inside : n < length facts
    inside = let e = old.long in omega arith

    at_here : facts_at more n ≡ here
    at_here = get_or-set_same facts n here _ inside

    kept : (m : ℕ) → is_member m done ≡ true → facts_at more m ≡ facts_at facts m
    kept m s = get_or-set_other facts n m here _ (other_than n m done new s)

    same_eqb : (a b : ℕ) → b ≡ a → (a == b) ≡ true
    same_eqb a b e = eq-eqb a b (sym e)

-- ---- the order of a page

-- Of the nodes of the order that aren't left it is known.
abbrev pub HeldBehind : Forest → (order : List ℕ) → (own facts : List Facts) → (left : List ℕ) → Type 0
HeldBehind forest order own facts left = (done : List ℕ) × (order ≡ left ++ done) × Held forest own facts done

pub none_behind : (forest : Forest) (order : List ℕ) (facts : List Facts) → length facts ≡ length forest.content → HeldBehind forest order facts facts order
none_behind forest order facts long = ([], sym (append_nil order), none_held forest facts long)
  where
    append_nil : (ns : List ℕ) → ns ++ [] ≡ ns
    append_nil [] = refl
    append_nil (n ∷ ns) = ap (λ ks. n ∷ ks) (append_nil ns)

pub held_on : (forest : Forest) (order : List ℕ) (own facts : List Facts) (left rest : List ℕ) (n : ℕ) → IsForest forest → AreLines forest →
    order ≡ descendants_in_order forest 0 → left ≡ push rest n → HeldBehind forest order own facts left →
    HeldBehind forest order own (with_held forest n facts) rest
held_on forest order own facts left rest n good lines ordered step (done, split, old) =
    let is : order ≡ rest ++ n ∷ done = split ∙ (ap (λ ks. ks ++ done) step ∙ append_assoc rest (n ∷ []) done) in
    let all : descendants_in_order forest 0 ≡ rest ++ n ∷ done = sym ordered ∙ is in
    let once : IsDistinct (rest ++ n ∷ done) = subst IsDistinct all (walk-once forest 0 good) in
    let here : is_member n (descendants_in_order forest 0) ≡ true = ap (is_member n) all ∙ (is_member-append rest (n ∷ done) n ∙ or_right (is_member n rest) _ (here_stands n done)) in
    (n ∷ done, is, held_more forest own facts done n old (walk-inside forest 0 n good here) (not_behind rest done n once) (children_behind forest rest done n good lines all))

empty : (ns : List ℕ) → length ns ≡ 0 → ns ≡ []
empty [] none = refl
empty (n ∷ ns) none = absurd (let e : suc (length ns) ≡ 0 = none in omega arith)

-- The root, after all others.
pub held_all : (forest : Forest) (order : List ℕ) (own facts : List Facts) (left : List ℕ) → IsForest forest → AreLines forest →
    order ≡ descendants_in_order forest 0 → length left ≡ 0 → HeldBehind forest order own facts left →
    Held forest own (with_held forest 0 facts) (page_nodes forest)
held_all forest order own facts left good lines ordered none (done, split, old) =
    let is : done ≡ descendants_in_order forest 0 = sym (ap (λ ks. ks ++ done) (empty left none)) ∙ (sym split ∙ ordered) in
    held_more forest own facts (descendants_in_order forest 0) 0 (subst (Held forest own facts) is old) good.rooted (root_apart forest good lines) (children_of_root forest good lines)
