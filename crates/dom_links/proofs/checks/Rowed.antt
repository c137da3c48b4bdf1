-- Lists of nodes that are made by following links that agree.
use Rattle.std.proofs.Common.{ℕ, zero, suc, ◌≡◌, ◌<◌, ◌≤◌, ◌+◌, true, false, List, [], ◌∷◌, ◌++◌, Option, Some, None, refl, sym, ap, ◌∙◌, subst, arith, cond, inl, inr, length, reverse, append_assoc}
use Rattle.std.specs.Prelude.{◌==◌, ◌||◌}
use Rattle.std.proofs.lemmas.Bool.{cases_Bool, eq-eqb, ne_eqb, eqb-true, eqb-false, true≢false}
use Rattle.std.proofs.lemmas.List.{reverse-reverse, length-reverse, length-append}
use Rattle.dom_links.specs.Lists.{is_member, IsDistinct, first, last, after, before, names}
use Rattle.dom_links.specs.Forest.{chain}
use Rattle.dom_links.specs.Validation.{Ends, last_one, link_then}
use Rattle.dom_links.proofs.forest.Neighbours.{after-stands, before-stands, before_here, before_with, first-stands, around, distinct-reverse, is_member-reverse, reverse_around}
use Rattle.dom_links.proofs.forest.Places.{cases_Option}
use Rattle.dom_links.proofs.forest.Chains.{chain_all, chain_rest, length_below}
use Rattle.dom_links.proofs.checks.Sounds.{is_first_one}

-- links to and fro among the first `count` numbers
pub record ToAndFro (prev next : ℕ → Option ℕ) (count : ℕ) : Type 0 where
  pub prev_next : (n m : ℕ) → prev n ≡ Some m → next m ≡ Some n
  pub next_prev : (n m : ℕ) → next n ≡ Some m → prev m ≡ Some n
  pub next_known : (n m : ℕ) → next n ≡ Some m → m < count

-- a list of numbers whose links are its neighbours
pub record IsRow (prev next : ℕ → Option ℕ) (count : ℕ) (ns : List ℕ) : Type 0 where
  pub once : IsDistinct ns
  pub below : (m : ℕ) → is_member m ns ≡ true → m < count
  pub prevs : (m : ℕ) → is_member m ns ≡ true → prev m ≡ before ns m
  pub nexts : (m : ℕ) → is_member m ns ≡ true → next m ≡ after ns m

-- The front of such a list, from the last one back
record IsFront (prev next : ℕ → Option ℕ) (count l : ℕ) (rest : List ℕ) : Type 0 where
  once : IsDistinct (l ∷ rest)
  below : (m : ℕ) → is_member m (l ∷ rest) ≡ true → m < count
  prevs : (m : ℕ) → is_member m (l ∷ rest) ≡ true → prev m ≡ after (l ∷ rest) m
  nexts : (m : ℕ) → is_member m (l ∷ rest) ≡ true → (l ≡ m → ⊥) → next m ≡ before (l ∷ rest) m

-- nobody in a list has its first one after him
not_after : (l n : ℕ) (rest : List ℕ) → IsDistinct (l ∷ rest) → after (l ∷ rest) n ≡ Some l → ⊥
not_after l n rest once e = elim (cases_Bool (l == n)) [
  | inl t ↦ true≢false (sym (first-stands rest l (rw t at e)) ∙ once.0)
  | inr f ↦ true≢false (sym (after-stands rest n l (rw f at e)) ∙ once.0)
]

longer : (prev next : ℕ → Option ℕ) (count l n : ℕ) (rest : List ℕ) → ToAndFro prev next count → IsFront prev next count l rest → next l ≡ Some n → IsFront prev next count n (l ∷ rest)
longer prev next count l n rest links front e =
    let back : prev n ≡ Some l = links.next_prev l n e in
    let new : is_member n (l ∷ rest) ≡ false = elim (cases_Bool (is_member n (l ∷ rest))) [
      | inr f ↦ f
      | inl t ↦ absurd (not_after l n rest front.once (sym (front.prevs n t) ∙ back))
    ] in
    let self : (n == n) ≡ true = eq-eqb n n refl in
    record {
      once = (new, front.once);
      below = λ m s. elim (cases_Bool (n == m)) [
        | inl t ↦ subst (λ (k : ℕ). k < count) (eqb-true n m t) (links.next_known l n e)
        | inr f ↦ front.below m (rw f at s)
      ];
      prevs = λ m s. elim (cases_Bool (n == m)) [
        | inl t ↦ (let same = eqb-true n m t in ap prev (sym same) ∙ back ∙ ap (λ u. cond u (Some l) (after (l ∷ rest) m)) (sym t))
        | inr f ↦ front.prevs m (rw f at s) ∙ ap (λ u. cond u (Some l) (after (l ∷ rest) m)) (sym f)
      ];
      nexts = λ m s ne. (let f : (n == m) ≡ false = ne_eqb n m ne in
          let there : is_member m (l ∷ rest) ≡ true = rw f at s in
          let with_n : before (n ∷ l ∷ rest) m ≡ cond (names (Some l) m) (Some n) (before (l ∷ rest) m) = before_with [] (l ∷ rest) n m front.once ne in
          elim (cases_Bool (l == m)) [
            | inl t ↦ ap next (sym (eqb-true l m t)) ∙ e ∙ ap (λ u. cond u (Some n) (before (l ∷ rest) m)) (sym t) ∙ sym with_n
            | inr g ↦ front.nexts m there (eqb-false l m g) ∙ ap (λ u. cond u (Some n) (before (l ∷ rest) m)) (sym g) ∙ sym with_n
          ]);
    }

whole : (prev next : ℕ → Option ℕ) (count l : ℕ) (rest : List ℕ) → IsFront prev next count l rest → next l ≡ None → IsRow prev next count (reverse (l ∷ rest))
whole prev next count l rest front none =
    let turned : (m : ℕ) → is_member m (reverse (l ∷ rest)) ≡ true → is_member m (l ∷ rest) ≡ true = λ m s. sym (is_member-reverse (l ∷ rest) m) ∙ s in
    record {
      once = distinct-reverse (l ∷ rest) front.once;
      below = λ m s. front.below m (turned m s);
      prevs = λ m s. front.prevs m (turned m s) ∙ ap (λ ks. after ks m) (sym (reverse-reverse (l ∷ rest)));
      nexts = λ m s. elim (cases_Bool (l == m)) [
        | inl t ↦ (let same = eqb-true l m t in ap next (sym same) ∙ none ∙ sym (before_here [] rest l front.once.0) ∙ ap (before (l ∷ rest)) same)
        | inr f ↦ front.nexts m (turned m s) (eqb-false l m f)
      ];
    }

-- the row that a front is the front of
completed : (prev next : ℕ → Option ℕ) (count most l : ℕ) (rest : List ℕ) → ToAndFro prev next count → IsFront prev next count l rest → count ≤ length rest + most →
    (ns : List ℕ) × IsRow prev next count ns × ((m : ℕ) → is_member m (l ∷ rest) ≡ true → is_member m ns ≡ true)
completed prev next count zero l rest links front enough =
    let few : length (l ∷ rest) ≤ count = length_below (l ∷ rest) count front.once front.below in
    absurd (omega arith)
completed prev next count (suc most) l rest links front enough = elim (cases_Option (next l)) [
  | inl none ↦ (reverse (l ∷ rest), whole prev next count l rest front none, λ m s. is_member-reverse (l ∷ rest) m ∙ s)
  | inr (n, some) ↦ (let on = completed prev next count most n (l ∷ rest) links (longer prev next count l n rest links front some) (omega arith) in
      (on.0, on.1, λ m s. on.2 m (elim (n == m) as (λ t. (t || is_member m (l ∷ rest)) ≡ true) [ true ↦ refl | false ↦ s ])))
]

one_front : (prev next : ℕ → Option ℕ) (count n : ℕ) → n < count → prev n ≡ None → IsFront prev next count n []
one_front prev next count n h none = record {
  once = (refl, tt);
  below = λ m s. subst (λ (k : ℕ). k < count) (only n m s) h;
  prevs = λ m s. (let same = only n m s in ap prev (sym same) ∙ none ∙ (elim (n == m) as (λ t. None ≡ cond t (first []) None) [ true ↦ refl | false ↦ refl ]));
  nexts = λ m s ne. absurd (ne (only n m s));
}
  where
    only : (n m : ℕ) → is_member m (n ∷ []) ≡ true → n ≡ m
    only n m s = elim (cases_Bool (n == m)) [ inl t ↦ eqb-true n m t | inr f ↦ (let no_one = rw f at s in cc) ]

-- the row that a number stands in
pub row_of : (prev next : ℕ → Option ℕ) (count n : ℕ) → ToAndFro prev next count → n < count → ((m k : ℕ) → prev m ≡ Some k → k < count) → Ends prev n → (ns : List ℕ) × IsRow prev next count ns × (is_member n ns ≡ true)
row_of prev next count _ links h known (last_one n none) =
    let row = completed prev next count count n [] links (one_front prev next count n h none) (omega arith) in
    (row.0, row.1, row.2 n (elim (cases_Bool (n == n)) [ inl t ↦ rw t refl | inr f ↦ absurd (eqb-false n n f refl) ]))
row_of prev next count _ links h known (link_then n m some ends) =
    let row = row_of prev next count m links (known n m some) known ends in
    (row.0, row.1, after-stands row.0 m n (sym (row.1.nexts m row.2) ∙ links.prev_next n m some))

-- who begins a row
pub head_of : (prev next : ℕ → Option ℕ) (count n : ℕ) (ns : List ℕ) → IsRow prev next count ns → is_member n ns ≡ true → (h : ℕ) × (first ns ≡ Some h) × (is_member h ns ≡ true) × (prev h ≡ None)
head_of prev next count n [] row s = cc
head_of prev next count n (h ∷ ns) row s =
    let here : is_member h (h ∷ ns) ≡ true = first-stands (h ∷ ns) h refl in
    (h, refl, here, row.prevs h here ∙ before_here [] ns h row.once.0)

-- and who ends it
pub tail_of : (prev next : ℕ → Option ℕ) (count n : ℕ) (ns : List ℕ) → IsRow prev next count ns → is_member n ns ≡ true → (e : ℕ) × (last ns ≡ Some e) × (is_member e ns ≡ true) × (next e ≡ None)
tail_of prev next count n ns row s =
    let turned = head_of next prev count n (reverse ns) (record {
      once = distinct-reverse ns row.once;
      below = λ m t. row.below m (sym (is_member-reverse ns m) ∙ t);
      prevs = λ m t. row.nexts m (sym (is_member-reverse ns m) ∙ t) ∙ ap (λ ks. after ks m) (sym (reverse-reverse ns));
      nexts = λ m t. row.prevs m (sym (is_member-reverse ns m) ∙ t);
    }) (is_member-reverse ns n ∙ s) in
    (turned.0, turned.1, sym (is_member-reverse ns turned.0) ∙ turned.2, turned.3)

-- what neighbours share, all of a row share
pub shared : (prev next parent : ℕ → Option ℕ) (count n h : ℕ) (ns : List ℕ) → IsRow prev next count ns → ((m k : ℕ) → prev m ≡ Some k → parent k ≡ parent m) → Ends prev n → is_member n ns ≡ true → first ns ≡ Some h → parent n ≡ parent h
shared prev next parent count _ h ns row same (last_one n none) s e =
    let is : first ns ≡ Some n = is_first_one ns n row.once s (sym (row.prevs n s) ∙ none) in
    let it : n ≡ h = (let two = sym is ∙ e in cc) in
    ap parent it
shared prev next parent count _ h ns row same (link_then n k some ends) s e =
    sym (same n k some) ∙ shared prev next parent count k h ns row same ends (before-stands ns n k (sym (row.prevs n s) ∙ some)) e

-- following the links from the first goes through the row
pub row_chain : (prev next : ℕ → Option ℕ) (count : ℕ) (ns : List ℕ) → IsRow prev next count ns → chain next count (first ns) ≡ ns
row_chain prev next count ns row = chain_all next ns count row.once row.nexts row.below

-- and so does following them from one of the row, both ways
pub row_around : (prev next : ℕ → Option ℕ) (count n : ℕ) (ns : List ℕ) → IsRow prev next count ns → is_member n ns ≡ true → reverse (chain prev count (prev n)) ++ chain next count (Some n) ≡ ns
row_around prev next count n ns row s =
    let parts = around n ns row.once s in
    let short : length ns ≤ count = length_below ns count row.once row.below in
    let two : length ns ≡ length (parts.front ++ n ∷ parts.back) = ap length parts.is in
    let nexts : (m : ℕ) → is_member m ns ≡ true → next m ≡ after ns m = row.nexts in
    let forward : chain next count (Some n) ≡ n ∷ parts.back =
    chain_rest next parts.front (n ∷ parts.back) count (subst IsDistinct parts.is row.once) (rw parts.is at nexts) (omega (arith, length-append parts.front (n ∷ parts.back))) in
    let around_back : reverse ns ≡ (reverse parts.back ++ n ∷ []) ++ reverse parts.front = ap reverse parts.is ∙ reverse_around parts.front parts.back n ∙ sym (append_assoc (reverse parts.back) (n ∷ []) (reverse parts.front)) in
    let before_it : prev n ≡ first (reverse parts.front) = row.prevs n s ∙ ap (λ ks. before ks n) parts.is ∙ before_here parts.front parts.back n parts.not_back in
    let turned : (m : ℕ) → is_member m (reverse ns) ≡ true → prev m ≡ after (reverse ns) m = λ m t. row.prevs m (sym (is_member-reverse ns m) ∙ t) in
    let backward : chain prev count (prev n) ≡ reverse parts.front =
    rw before_it (chain_rest prev (reverse parts.back ++ n ∷ []) (reverse parts.front) count (subst IsDistinct around_back (distinct-reverse ns row.once)) (rw around_back at turned)
    (omega (arith, length-append parts.front (n ∷ parts.back), length-reverse parts.front))) in
    rw (backward, forward, reverse-reverse parts.front) (sym parts.is)

pub lone_row : (prev next : ℕ → Option ℕ) (count n : ℕ) → n < count → prev n ≡ None → next n ≡ None → IsRow prev next count (n ∷ [])
lone_row prev next count n h before_it after_it = whole prev next count n [] (one_front prev next count n h before_it) after_it
