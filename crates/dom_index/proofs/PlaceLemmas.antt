-- Numbers in a list, and their places.
use Rattle.std.proofs.Common.{◌≡◌, ◌≢◌, ◌<◌, ◌≤◌, ◌+◌, ◌⊎◌, ℕ, zero, suc, List, [], ◌∷◌, ◌++◌, true, true≢false, inl, inr, refl, sym, ap, ◌∙◌, subst, length, set, get_or, arith, length-append}
use Rattle.std.specs.Prelude.{◌==◌, ◌||◌}
use Rattle.std.proofs.lemmas.Bool.{cases_Bool, cases_lt, eq-eqb, eqb-true, or_cases, or_right}
use Rattle.std.proofs.lemmas.List.{get_or-set_same, get_or-set_other, get_or_read}
use Rattle.dom_links.specs.Forest.{Forest}
use Rattle.dom_links.specs.Lists.{is_member, IsDistinct}
use Rattle.dom_links.proofs.forest.Chains.{length_below}
use Rattle.dom_index.specs.Orders.{IsOrder, number_at}

-- a number is this one or another
pub same_or_not : (m n : ℕ) → (m ≡ n) ⊎ (m ≢ n)
same_or_not m n = elim (cases_lt m n) [
  | inl below ↦ inr (λ e. omega arith)
  | inr not_below ↦ elim (cases_lt n m) [
    | inl above ↦ inr (λ e. omega arith)
    | inr not_above ↦ inl (omega arith)
  ]
]

pub in_place : (xs : List ℕ) (i : ℕ) → i < length xs → is_member (number_at xs i) xs ≡ true
in_place [] i known = absurd (omega arith)
in_place (x ∷ xs) zero known = ap (λ b. b || is_member x xs) (eq-eqb x x refl)
in_place (x ∷ xs) (suc i) known = or_right (x == number_at xs i) (is_member (number_at xs i) xs) (in_place xs i (omega arith))

pub found_at : (n : ℕ) (xs : List ℕ) → is_member n xs ≡ true → (i : ℕ) × (i < length xs) × (number_at xs i ≡ n)
found_at n [] s = absurd (true≢false (sym s))
found_at n (x ∷ xs) s = elim (or_cases (x == n) (is_member n xs) s) [
  | inl here ↦ (zero, omega arith, eqb-true x n here)
  | inr there ↦ (let p = found_at n xs there in (suc p.0, (let less = p.1 in omega arith), p.2))
]

pub distinct_places : (xs : List ℕ) (i j : ℕ) → IsDistinct xs → i < length xs → j < length xs → number_at xs i ≡ number_at xs j → i ≡ j
distinct_places [] i j d a b e = absurd (omega arith)
distinct_places (x ∷ xs) zero zero d a b e = refl
distinct_places (x ∷ xs) zero (suc j) d a b e = absurd (true≢false (sym (in_place xs j (omega arith)) ∙ (ap (λ m. is_member m xs) (sym e) ∙ d.0)))
distinct_places (x ∷ xs) (suc i) zero d a b e = absurd (true≢false (sym (in_place xs i (omega arith)) ∙ (ap (λ m. is_member m xs) e ∙ d.0)))
distinct_places (x ∷ xs) (suc i) (suc j) d a b e = ap suc (distinct_places xs i j d.1 (omega arith) (omega arith) e)

pub distinct_from : (xs : List ℕ) → ((i j : ℕ) → i < length xs → j < length xs → number_at xs i ≡ number_at xs j → i ≡ j) → IsDistinct xs
distinct_from [] f = tt
distinct_from (x ∷ xs) f = (
  elim (cases_Bool (is_member x xs)) [
    | inl t ↦ (let p = found_at x xs t in let less = p.1 in let same : zero ≡ suc p.0 = f zero (suc p.0) (omega arith) (omega arith) (sym p.2) in absurd (omega arith))
    | inr f' ↦ f'
  ],
  distinct_from xs (λ i j a b e. let same : suc i ≡ suc j = f (suc i) (suc j) (omega arith) (omega arith) e in omega arith),
)

pub number_after : (front back : List ℕ) (j : ℕ) → number_at (front ++ back) (length front + j) ≡ number_at back j
number_after [] back j = ap (number_at back) (omega arith)
number_after (x ∷ front) back j =
    let e : length (x ∷ front) + j ≡ suc (length front + j) = omega arith in
    ap (number_at (x ∷ front ++ back)) e ∙ number_after front back j

-- a node that was read of the order is known, and stands at that position
pub read_of_order : (forest : Forest) (order places row : List ℕ) → IsOrder forest order places → row ≡ order → (i x n : ℕ) → i < length row → x ≡ get_or row i x → n ≡ x →
    (n ≡ number_at order i) × (n < length forest.content) × (number_at places n ≡ i)
read_of_order forest order places row good same i x n inside is named =
    let long = ap length same in
    let here : n ≡ number_at order i = named ∙ get_or_read row i x inside is 0 ∙ ap (λ o. number_at o i) same in
    let below : i < length forest.content = omega (arith, inside, long, good.long) in
    (here, subst (λ (j : ℕ). j < length forest.content) (sym here) (good.known i below), ap (number_at places) here ∙ good.placed i below)

-- m stands farther back than n
pub record IsBehind (xs : List ℕ) (n m : ℕ) : Type 0 where
  pub first : ℕ
  pub second : ℕ
  pub less : first < second
  pub known : second < length xs
  pub one : number_at xs first ≡ n
  pub other : number_at xs second ≡ m

pub behind_in : (xs front back : List ℕ) (n m : ℕ) → xs ≡ front ++ n ∷ back → is_member m back ≡ true → IsBehind xs n m
behind_in xs front back n m is s =
    let p = found_at m back s in
    let inside = p.1 in
    let long : length xs ≡ length front + suc (length back) = ap length is ∙ length-append front (n ∷ back) in
    record {
      first = length front + zero;
      second = length front + suc p.0;
      less = omega arith;
      known = omega arith;
      one = ap (λ ys. number_at ys (length front + zero)) is ∙ number_after front (n ∷ back) zero;
      other = ap (λ ys. number_at ys (length front + suc p.0)) is ∙ (number_after front (n ∷ back) (suc p.0) ∙ p.2);
    }

-- each number of the list is written at its place
pub placed_more : (order places : List ℕ) (i n : ℕ) → IsDistinct order → i < length order → n ≡ number_at order i → n < length places → ((j : ℕ) → j < i → number_at places (number_at order j) ≡ j) →
    (j : ℕ) → j < i + 1 → number_at (set places n i) (number_at order j) ≡ j
placed_more order places i n once known is inside answer j below = elim (same_or_not j i) [
  | inl e ↦ ap (λ k. number_at (set places n i) (number_at order k)) e ∙ (ap (number_at (set places n i)) (sym is) ∙ (get_or-set_same places n i 0 inside ∙ sym e))
  | inr other ↦ get_or-set_other places n (number_at order j) i 0 (λ e. other (distinct_places order j i once (omega arith) known (e ∙ is))) ∙ answer j (omega arith)
]

-- the places of the first numbers
module _ (order : List ℕ) (at : ℕ → ℕ) where
  abbrev places_to : ℕ → List ℕ
  places_to zero = []
  places_to (suc c) = at c ∷ places_to c

  places_long : (c : ℕ) → length (places_to c) ≡ c
  places_long zero = refl
  places_long (suc c) = let e = places_long c in omega arith

  places_decided : (c k : ℕ) → ((n : ℕ) → n < c → (at n < length order) × (number_at order (at n) ≡ n)) → is_member k (places_to c) ≡ true → (k < length order) × (number_at order k < c)
  places_decided zero k answer s = absurd (true≢false (sym s))
  places_decided (suc c) k answer s = elim (or_cases (at c == k) (is_member k (places_to c)) s) [
    | inl here ↦ (let e = eqb-true (at c) k here in
        let t = answer c (omega arith) in
        let is : number_at order k ≡ c = ap (number_at order) (sym e) ∙ t.1 in
        (subst (λ (j : ℕ). j < length order) e t.0, omega arith))
    | inr there ↦ (let t = places_decided c k (λ n less. answer n (omega arith)) there in (t.0, (let less = t.1 in omega arith)))
  ]

  places_once : (c : ℕ) → ((n : ℕ) → n < c → (at n < length order) × (number_at order (at n) ≡ n)) → IsDistinct (places_to c)
  places_once zero answer = tt
  places_once (suc c) answer = (
    elim (cases_Bool (is_member (at c) (places_to c))) [
      | inl t ↦ (let again = places_decided c (at c) (λ n less. answer n (omega arith)) t in let less = again.1 in let is = (answer c (omega arith)).1 in absurd (omega arith))
      | inr f ↦ f
    ],
    places_once c (λ n less. answer n (omega arith)),
  )

  pub counted_down : (c : ℕ) → ((n : ℕ) → n < c → (at n < length order) × (number_at order (at n) ≡ n)) → c ≤ length order
  counted_down c answer =
      let few = length_below (places_to c) (length order) (places_once c answer) (λ k s. (places_decided c k answer s).0) in
      let long = places_long c in omega arith

-- a list in which each number below `count` stands, and each once, has so many
pub all_counted : (order : List ℕ) (count : ℕ) → IsDistinct order → ((n : ℕ) → is_member n order ≡ true → n < count) → ((n : ℕ) → n < count → is_member n order ≡ true) → length order ≡ count
all_counted order count once inside all =
    let most : length order ≤ count = length_below order count once inside in
    let least : count ≤ length order = counted_down order at count (λ n known. answer n known) in
    omega arith
  where
    found : (n : ℕ) → (n < count) ⊎ (count ≤ n) → ℕ
    found n (inl known) = (found_at n order (all n known)).0
    found n (inr past) = 0

    at : ℕ → ℕ
    at n = found n (cases_lt n count)

    decided_at : (n : ℕ) → n < count → (s : (n < count) ⊎ (count ≤ n)) → (found n s < length order) × (number_at order (found n s) ≡ n)
    decided_at n known (inl inside_it) = let p = found_at n order (all n inside_it) in (p.1, p.2)
    decided_at n known (inr past) = absurd (omega arith)

    answer : (n : ℕ) → n < count → (at n < length order) × (number_at order (at n) ≡ n)
    answer n known = decided_at n known (cases_lt n count)

-- the front of a list stays where it is
pub front_stays : {A : Type 0} (d : A) (xs ys : List A) (m : ℕ) → m < length xs → get_or (xs ++ ys) m d ≡ get_or xs m d
front_stays d [] ys m known = absurd (omega arith)
front_stays d (x ∷ xs) ys zero known = refl
front_stays d (x ∷ xs) ys (suc m) known = front_stays d xs ys m (omega arith)
