-- What is matched from a list, and the list of what first occurs in another.
use Rattle.std.proofs.Common.{ℕ, ◌≡◌, true, false, cond, List, [], ◌∷◌, refl, sym, ap, ◌∙◌, subst, inl, inr}
use Rattle.std.specs.Prelude.{◌==◌, ◌||◌}
use Rattle.std.specs.List.{flat_map}
use Rattle.std.proofs.lemmas.List.{append-nil}
use Rattle.std.proofs.lemmas.Bool.{eqb-true, eq-eqb, or_from, or_right, or_cases, true≢false, cases_Bool}
use Rattle.dom_links.specs.Forest.{Forest}
use Rattle.dom_links.specs.Lists.{is_member, IsDistinct}
use Rattle.dom_links.specs.Trees.{descendants_in_order}
use Rattle.dom_selectors.specs.Syntax.{SelectorList}
use Rattle.dom_select.specs.Meaning.{MatchesNode}
use Rattle.dom_select.specs.Selected.{Selected, FiltersTo, first_occurrences, walks_below}
use Rattle.dom_links.specs.ListMoves.{element_at}
use Rattle.dom_select.specs.Selected.{IsSelection}

module _ (P : ℕ → Type 0) where
  pub filters_once : (ns a b : List ℕ) → FiltersTo P ns a → FiltersTo P ns b → a ≡ b
  filters_once [] a b h k = h ∙ sym k
  filters_once (n ∷ ns) a b h k =
      elim h [
        | inl x ↦ elim k [
          | inl y ↦ x.2 ∙ ap (λ ms. n ∷ ms) (filters_once ns x.1 y.1 x.3 y.3) ∙ sym y.2
          | inr y ↦ absurd (y.0 x.0)
        ]
        | inr x ↦ elim k [
          | inl y ↦ absurd (x.0 y.0)
          | inr y ↦ filters_once ns a b x.1 y.1
        ]
      ]

  pub filters-among : (ns matched : List ℕ) → FiltersTo P ns matched → (n : ℕ) → is_member n matched ≡ true → (is_member n ns ≡ true) × P n
  filters-among [] matched h n s = absurd (true≢false (sym s ∙ ap (is_member n) h))
  filters-among (m ∷ ns) matched h n s =
      elim h [
        | inl x ↦ elim (or_cases (m == n) (is_member n x.1) (sym (ap (is_member n) x.2) ∙ s)) [
          | inl e ↦ (ap (λ b. b || is_member n ns) e, subst P (eqb-true m n e) x.0)
          | inr t ↦ let later = filters-among ns x.1 x.3 n t in (or_right (m == n) (is_member n ns) later.0, later.1)
        ]
        | inr x ↦ let later = filters-among ns matched x.1 n s in (or_right (m == n) (is_member n ns) later.0, later.1)
      ]

  pub filters-all : (ns matched : List ℕ) → FiltersTo P ns matched → (n : ℕ) → is_member n ns ≡ true → P n → is_member n matched ≡ true
  filters-all [] matched h n s here = absurd (true≢false (sym s))
  filters-all (m ∷ ns) matched h n s here =
      elim h [
        | inl x ↦ ap (is_member n) x.2 ∙ (elim (or_cases (m == n) (is_member n ns) s) [
          | inl e ↦ ap (λ b. b || is_member n x.1) e
          | inr t ↦ or_right (m == n) (is_member n x.1) (filters-all ns x.1 x.3 n t here)
        ])
        | inr x ↦ elim (or_cases (m == n) (is_member n ns) s) [
          | inl e ↦ absurd (x.0 (subst P (sym (eqb-true m n e)) here))
          | inr t ↦ filters-all ns matched x.1 n t here
        ]
      ]

  pub filters-distinct : (ns matched : List ℕ) → IsDistinct ns → FiltersTo P ns matched → IsDistinct matched
  filters-distinct [] matched d h = subst IsDistinct (sym h) tt
  filters-distinct (m ∷ ns) matched d h =
      elim h [
        | inl x ↦ let absent : is_member m x.1 ≡ false = elim (cases_Bool (is_member m x.1)) [
          | inl t ↦ absurd (true≢false (sym (filters-among ns x.1 x.3 m t).0 ∙ d.0))
          | inr f ↦ f
        ] in subst IsDistinct (sym x.2) (absent, filters-distinct ns x.1 d.1 x.3)
        | inr x ↦ filters-distinct ns matched d.1 x.1
      ]

pub first_occurrences-among : (before ns : List ℕ) (n : ℕ) → is_member n (first_occurrences before ns) ≡ true → is_member n ns ≡ true
first_occurrences-among before [] n s = s
first_occurrences-among before (m ∷ ns) n s =
    elim (cases_Bool (is_member m before)) [
      | inl t ↦ or_right (m == n) (is_member n ns) (first_occurrences-among before ns n (sym (ap (λ b. is_member n (cond b (first_occurrences before ns) (m ∷ first_occurrences (m ∷ before) ns))) t) ∙ s))
      | inr f ↦ elim (or_cases (m == n) (is_member n (first_occurrences (m ∷ before) ns)) (sym (ap (λ b. is_member n (cond b (first_occurrences before ns) (m ∷ first_occurrences (m ∷ before) ns))) f) ∙ s)) [
        | inl e ↦ ap (λ b. b || is_member n ns) e
        | inr u ↦ or_right (m == n) (is_member n ns) (first_occurrences-among (m ∷ before) ns n u)
      ]
    ]

pub first_occurrences-all : (before ns : List ℕ) (n : ℕ) → is_member n ns ≡ true → is_member n before ≡ false → is_member n (first_occurrences before ns) ≡ true
first_occurrences-all before [] n s new = s
first_occurrences-all before (m ∷ ns) n s new =
    elim (cases_Bool (is_member m before)) [
      | inl t ↦ ap (λ b. is_member n (cond b (first_occurrences before ns) (m ∷ first_occurrences (m ∷ before) ns))) t ∙ (elim (or_cases (m == n) (is_member n ns) s) [
        | inl e ↦ absurd (true≢false (sym t ∙ ap (λ k. is_member k before) (eqb-true m n e) ∙ new))
        | inr u ↦ first_occurrences-all before ns n u new
      ])
      | inr f ↦ ap (λ b. is_member n (cond b (first_occurrences before ns) (m ∷ first_occurrences (m ∷ before) ns))) f ∙ (elim (cases_Bool (m == n)) [
        | inl e ↦ ap (λ b. b || is_member n (first_occurrences (m ∷ before) ns)) e
        | inr d ↦ or_right (m == n) (is_member n (first_occurrences (m ∷ before) ns)) (first_occurrences-all (m ∷ before) ns n (sym (ap (λ b. b || is_member n ns) d) ∙ s) (or_from (m == n) (is_member n before) d new))
      ])
    ]

-- what was there before doesn't come again
pub first_occurrences-new : (before ns : List ℕ) (n : ℕ) → is_member n before ≡ true → is_member n (first_occurrences before ns) ≡ false
first_occurrences-new before [] n old = refl
first_occurrences-new before (m ∷ ns) n old =
    elim (cases_Bool (is_member m before)) [
      | inl t ↦ ap (λ b. is_member n (cond b (first_occurrences before ns) (m ∷ first_occurrences (m ∷ before) ns))) t ∙ first_occurrences-new before ns n old
      | inr f ↦ ap (λ b. is_member n (cond b (first_occurrences before ns) (m ∷ first_occurrences (m ∷ before) ns))) f ∙ (elim (cases_Bool (m == n)) [
        | inl e ↦ absurd (true≢false (sym old ∙ ap (λ k. is_member k before) (sym (eqb-true m n e)) ∙ f))
        | inr d ↦ or_from (m == n) (is_member n (first_occurrences (m ∷ before) ns)) d (first_occurrences-new (m ∷ before) ns n (or_right (m == n) (is_member n before) old))
      ])
    ]

same_number : (n : ℕ) → (n == n) ≡ true
same_number n = eq-eqb n n refl

pub first_occurrences-distinct : (before ns : List ℕ) → IsDistinct (first_occurrences before ns)
first_occurrences-distinct before [] = tt
first_occurrences-distinct before (m ∷ ns) =
    elim (is_member m before) as (λ b. IsDistinct (cond b (first_occurrences before ns) (m ∷ first_occurrences (m ∷ before) ns))) [
      | true ↦ first_occurrences-distinct before ns
      | false ↦ (first_occurrences-new (m ∷ before) ns m (ap (λ b. b || is_member m before) (same_number m)), first_occurrences-distinct (m ∷ before) ns)
    ]

-- a list without repetition is the list of what first occurs in it
pub first_occurrences-same : (before ns : List ℕ) → IsDistinct ns → ((n : ℕ) → is_member n ns ≡ true → is_member n before ≡ false) → first_occurrences before ns ≡ ns
first_occurrences-same before [] once new = refl
first_occurrences-same before (m ∷ ns) once new =
    let here = new m (ap (λ b. b || is_member m ns) (same_number m)) in
    let later : (n : ℕ) → is_member n ns ≡ true → is_member n (m ∷ before) ≡ false = λ n s. elim (cases_Bool (m == n)) [
      | inl e ↦ absurd (true≢false (sym s ∙ ap (λ k. is_member k ns) (sym (eqb-true m n e)) ∙ once.0))
      | inr d ↦ or_from (m == n) (is_member n before) d (new n (or_right (m == n) (is_member n ns) s))
    ] in
    ap (λ b. cond b (first_occurrences before ns) (m ∷ first_occurrences (m ∷ before) ns)) here ∙ ap (λ ms. m ∷ ms) (first_occurrences-same (m ∷ before) ns once.1 later)

pub selection_of : (forest : Forest) (roots : List ℕ) (selector : SelectorList) (matched : List ℕ) → Selected forest roots selector matched → IsSelection forest roots selector matched
unfolding Selected
selection_of forest roots selector matched h =
    let P : ℕ → Type 0 = λ n. (element_at forest n ≡ true) × MatchesNode selector forest n in
    let walks = walks_below forest roots in
    let found = flat_map (descendants_in_order forest) roots in
    let among : (n : ℕ) → is_member n matched ≡ true → (is_member n walks ≡ true) × P n = filters-among P walks matched h in
    record {
      below = λ n s. first_occurrences-among [] found n (among n s).0;
      elements = λ n s. (among n s).1.0;
      meant = λ n s. (among n s).1.1;
      all = λ n s element means. filters-all P walks matched h n (first_occurrences-all [] found n s refl) (element, means);
      once = filters-distinct P walks matched (first_occurrences-distinct [] found) h;
    }

-- the walk below one root has each node once
pub one_walk : (forest : Forest) (root : ℕ) → IsDistinct (descendants_in_order forest root) → descendants_in_order forest root ≡ walks_below forest (root ∷ [])
one_walk forest root once =
    let one : flat_map (descendants_in_order forest) (root ∷ []) ≡ descendants_in_order forest root = append-nil (descendants_in_order forest root) in
    sym (ap (first_occurrences []) one ∙ first_occurrences-same [] (descendants_in_order forest root) once (λ n s. refl))

-- what is matched from one root's walk is what is selected below it
pub selected_below : (forest : Forest) (root : ℕ) (selector : SelectorList) (matched : List ℕ) → IsDistinct (descendants_in_order forest root) →
    FiltersTo (λ n. (element_at forest n ≡ true) × MatchesNode selector forest n) (descendants_in_order forest root) matched → Selected forest (root ∷ []) selector matched
unfolding Selected
selected_below forest root selector matched once h =
    subst (λ ns. FiltersTo (λ n. (element_at forest n ≡ true) × MatchesNode selector forest n) ns matched) (one_walk forest root once) h

pub selected_once : (forest : Forest) (roots : List ℕ) (selector : SelectorList) (a b : List ℕ) → Selected forest roots selector a → Selected forest roots selector b → a ≡ b
unfolding Selected
selected_once forest roots selector a b h k =
    filters_once (λ n. (element_at forest n ≡ true) × MatchesNode selector forest n) (walks_below forest roots) a b h k
