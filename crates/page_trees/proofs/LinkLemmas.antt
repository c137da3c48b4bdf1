-- What an element that is added, taken off or moved does to the links of the search index.
use Rattle.std.proofs.Common.{ℕ, zero, suc, ◌≡◌, ◌-◌, ◌<◌, ◌≤◌, inl, inr, refl, sym, ap, ◌∙◌, subst, arith}
use Rattle.std.proofs.lemmas.Bool.{cases_eq, cases_lt}
use Rattle.page_trees.specs.Links.{IsLast, AreLinked}

pub shorter : (P : ℕ → Type 0) (n t : ℕ) → IsLast P (suc n) t → (P n → ⊥) → IsLast P n t
shorter P n t is isnt = record {
  within = elim (cases_eq t (suc n)) [ inl e ↦ absurd (isnt (is.here n e)) | inr ne ↦ omega (arith, is.within, ne) ];
  here = is.here;
  none = λ j le lt p. is.none j le (omega (arith, lt)) p;
}

pub longer : (P : ℕ → Type 0) (n t : ℕ) → IsLast P n t → (P n → ⊥) → IsLast P (suc n) t
longer P n t is isnt = record {
  within = omega (arith, is.within);
  here = is.here;
  none = λ j le lt p. elim (cases_eq j n) [ inl e ↦ isnt (subst P e p) | inr ne ↦ is.none j le (omega (arith, lt, ne)) p ];
}

pub newest : (P : ℕ → Type 0) (n : ℕ) → P n → IsLast P (suc n) (suc n)
newest P n p = record {
  within = omega arith;
  here = λ k e. let q : n ≡ k = omega (arith, e) in subst P q p;
  none = λ j le lt _. omega (arith, le, lt);
}

-- there is one last position
pub same_last : (P : ℕ → Type 0) (n t u : ℕ) → IsLast P n t → IsLast P n u → t ≡ u
same_last P n t u is it = elim (cases_lt t u) [
  | inl lt ↦ (let k : ℕ = u - 1 in let e : u ≡ suc k = omega (arith, lt) in absurd (is.none k (omega (arith, lt, e)) (omega (arith, e, it.within)) (it.here k e)))
  | inr le ↦ elim (cases_eq t u) [
    | inl e ↦ e
    | inr ne ↦ (let k : ℕ = t - 1 in let e : t ≡ suc k = omega (arith, le, ne) in absurd (it.none k (omega (arith, le, ne, e)) (omega (arith, e, is.within)) (is.here k e)))
  ]
]

pub of_same : (P Q : ℕ → Type 0) (n t : ℕ) → ((j : ℕ) → j < n → P j → Q j) → ((j : ℕ) → j < n → Q j → P j) → IsLast P n t → IsLast Q n t
of_same P Q n t to from is = record {
  within = is.within;
  here = λ k e. to k (omega (arith, e, is.within)) (is.here k e);
  none = λ j le lt q. is.none j le lt (from j lt q);
}

-- the keys from n on do not matter
pub linked_same : (K L : ℕ → ℕ) (n : ℕ) (S N T : ℕ → ℕ) → ((j : ℕ) → j < n → K j ≡ L j) → AreLinked K n S N T → AreLinked L n S N T
linked_same K L n S N T e old = record {
  before = λ k lt. of_same (λ j. K j ≡ K k) (λ j. L j ≡ L k) k (S k) (λ j l p. sym (e j (omega (arith, l, lt))) ∙ p ∙ e k lt) (λ j l p. e j (omega (arith, l, lt)) ∙ p ∙ sym (e k lt)) (old.before k lt);
  after = old.after;
  back = old.back;
  last = λ key. of_same (λ j. K j ≡ key) (λ j. L j ≡ key) n (T key) (λ j l p. sym (e j l) ∙ p) (λ j l p. e j l ∙ p) (old.last key);
}

-- ---- the last element is taken off

pub record IsCut (K : ℕ → ℕ) (n : ℕ) (S N T S' N' T' : ℕ → ℕ) : Type 0 where
  pub same : (k : ℕ) → k < n → S' k ≡ S k
  pub freed : (j : ℕ) → j < n → S n ≡ suc j → N' j ≡ 0
  pub kept : (j : ℕ) → j < n → (S n ≡ suc j → ⊥) → N' j ≡ N j
  pub top : T' (K n) ≡ S n
  pub tops : (key : ℕ) → (key ≡ K n → ⊥) → T' key ≡ T key

pub cut_linked : (K : ℕ → ℕ) (n : ℕ) (S N T S' N' T' : ℕ → ℕ) → AreLinked K (suc n) S N T → IsCut K n S N T S' N' T' → AreLinked K n S' N' T'
cut_linked K n S N T S' N' T' old w = record {
  before = λ k lt. subst (λ t. IsLast (λ j. K j ≡ K k) k t) (sym (w.same k lt)) (old.before k (omega (arith, lt)));
  after = λ j k lt e. elim (cases_eq (S n) (suc j)) [
    | inl f ↦ absurd (omega (arith, e, w.freed j lt f))
    | inr ne ↦ (let it : (k < suc n) × (S k ≡ suc j) = old.after j k (omega (arith, lt)) (sym (w.kept j lt ne) ∙ e) in
        elim (cases_eq k n) [ inl f ↦ absurd (ne (sym (ap S f) ∙ it.1)) | inr nk ↦ (let lk : k < n = omega (arith, it.0, nk) in (lk, w.same k lk ∙ it.1)) ])
  ];
  back = λ j k lt e.
      let f : S k ≡ suc j = sym (w.same k lt) ∙ e in
      let b : N j ≡ suc k = old.back j k (omega (arith, lt)) f in
      let lj : j < n = omega (arith, lt, f, (old.before k (omega (arith, lt))).within) in
      elim (cases_eq (S n) (suc j)) [ inl g ↦ absurd (omega (arith, lt, b, old.back j n (omega arith) g)) | inr ne ↦ w.kept j lj ne ∙ b ];
  last = λ key. elim (cases_eq key (K n)) [
    | inl e ↦ subst (λ x. IsLast (λ j. K j ≡ x) n (T' x)) (sym e) (subst (λ t. IsLast (λ j. K j ≡ K n) n t) (sym w.top) (old.before n (omega arith)))
    | inr ne ↦ subst (λ t. IsLast (λ j. K j ≡ key) n t) (sym (w.tops key ne)) (shorter (λ j. K j ≡ key) n (T key) (old.last key) (λ e. ne (sym e)))
  ];
}

-- ---- an element is added

pub record IsAdded (K : ℕ → ℕ) (n : ℕ) (S N T S' N' T' : ℕ → ℕ) : Type 0 where
  pub same : (k : ℕ) → k < n → S' k ≡ S k
  pub own : S' n ≡ T (K n)
  pub led : (j : ℕ) → j < n → T (K n) ≡ suc j → N' j ≡ suc n
  pub kept : (j : ℕ) → j < n → (T (K n) ≡ suc j → ⊥) → N' j ≡ N j
  pub end : N' n ≡ 0
  pub top : T' (K n) ≡ suc n
  pub tops : (key : ℕ) → (key ≡ K n → ⊥) → T' key ≡ T key

pub add_linked : (K : ℕ → ℕ) (n : ℕ) (S N T S' N' T' : ℕ → ℕ) → AreLinked K n S N T → IsAdded K n S N T S' N' T' → AreLinked K (suc n) S' N' T'
add_linked K n S N T S' N' T' old w = record {
  before = λ k lt. elim (cases_eq k n) [
    | inl e ↦ subst (λ x. IsLast (λ j. K j ≡ K x) x (S' x)) (sym e) (subst (λ t. IsLast (λ j. K j ≡ K n) n t) (sym w.own) (old.last (K n)))
    | inr ne ↦ (let lk : k < n = omega (arith, lt, ne) in subst (λ t. IsLast (λ j. K j ≡ K k) k t) (sym (w.same k lk)) (old.before k lk))
  ];
  after = λ j k lt e. elim (cases_eq j n) [
    | inl f ↦ absurd (omega (arith, sym (ap N' f) ∙ e, w.end))
    | inr ne ↦ (let lj : j < n = omega (arith, lt, ne) in elim (cases_eq (T (K n)) (suc j)) [
      | inl g ↦ (let kn : k ≡ n = omega (arith, e, w.led j lj g) in (omega (arith, kn), ap S' kn ∙ w.own ∙ g))
      | inr isnt ↦ (let it : (k < n) × (S k ≡ suc j) = old.after j k lj (sym (w.kept j lj isnt) ∙ e) in (omega (arith, it.0), w.same k it.0 ∙ it.1))
    ])
  ];
  back = λ j k lt e. elim (cases_eq k n) [
    | inl f ↦ (let g : T (K n) ≡ suc j = sym w.own ∙ sym (ap S' f) ∙ e in w.led j (omega (arith, g, (old.last (K n)).within)) g ∙ ap suc (sym f))
    | inr ne ↦ (let lk : k < n = omega (arith, lt, ne) in
        let g : S k ≡ suc j = sym (w.same k lk) ∙ e in
        let b : N j ≡ suc k = old.back j k lk g in
        let lj : j < n = omega (arith, lk, g, (old.before k lk).within) in
        w.kept j lj (λ h. (old.last (K n)).none k (omega (arith, h, g, (old.before k lk).within)) lk (sym ((old.before k lk).here j g) ∙ (old.last (K n)).here j h)) ∙ b)
  ];
  last = λ key. elim (cases_eq key (K n)) [
    | inl e ↦ subst (λ x. IsLast (λ j. K j ≡ x) (suc n) (T' x)) (sym e) (subst (λ t. IsLast (λ j. K j ≡ K n) (suc n) t) (sym w.top) (newest (λ j. K j ≡ K n) n refl))
    | inr ne ↦ subst (λ t. IsLast (λ j. K j ≡ key) (suc n) t) (sym (w.tops key ne)) (longer (λ j. K j ≡ key) n (T key) (old.last key) (λ e. ne (sym e)))
  ];
}

-- ---- an element changes places with the next one, which has another key

pub record IsExchanged (K K' : ℕ → ℕ) (p : ℕ) : Type 0 where
  pub lower : K' p ≡ K (suc p)
  pub upper : K' (suc p) ≡ K p
  pub rest : (j : ℕ) → (j ≡ p → ⊥) → (j ≡ suc p → ⊥) → K' j ≡ K j

-- the links A, whose inverse is B
pub record IsTurned (n p : ℕ) (A B A' : ℕ → ℕ) : Type 0 where
  pub lower : A' p ≡ A (suc p)
  pub upper : A' (suc p) ≡ A p
  pub up : (k : ℕ) → k < n → B p ≡ suc k → A' k ≡ suc (suc p)
  pub down : (k : ℕ) → k < n → B (suc p) ≡ suc k → A' k ≡ suc p
  pub rest : (k : ℕ) → k < n → (k ≡ p → ⊥) → (k ≡ suc p → ⊥) → (B p ≡ suc k → ⊥) → (B (suc p) ≡ suc k → ⊥) → A' k ≡ A k

pub record AreTurned (K : ℕ → ℕ) (p : ℕ) (N T T' : ℕ → ℕ) : Type 0 where
  pub lower : N p ≡ 0 → T' (K p) ≡ suc (suc p)
  pub upper : N (suc p) ≡ 0 → T' (K (suc p)) ≡ suc p
  pub rest : (key : ℕ) → (key ≡ K p → N p ≡ 0 → ⊥) → (key ≡ K (suc p) → N (suc p) ≡ 0 → ⊥) → T' key ≡ T key

module _ (K K' : ℕ → ℕ) (p : ℕ) (w : IsExchanged K K' p) (other : K p ≡ K (suc p) → ⊥) (key : ℕ) where
  is_below : (m t : ℕ) → m ≤ p → IsLast (λ j. K j ≡ key) m t → IsLast (λ j. K' j ≡ key) m t
  is_below m t le = of_same (λ j. K j ≡ key) (λ j. K' j ≡ key) m t (λ j lt e. w.rest j (omega (arith, lt, le)) (omega (arith, lt, le)) ∙ e) (λ j lt e. sym (w.rest j (omega (arith, lt, le)) (omega (arith, lt, le))) ∙ e)

  is_moved_up : (m t : ℕ) → suc p < m → t ≡ suc p → IsLast (λ j. K j ≡ key) m t → IsLast (λ j. K' j ≡ key) m (suc (suc p))
  is_moved_up m t lt e is = record {
    within = omega (arith, lt);
    here = λ k f. let q : suc p ≡ k = omega (arith, f) in subst (λ x. K' x ≡ key) q (w.upper ∙ is.here p e);
    none = λ j le l f. is.none j (omega (arith, e, le)) l (sym (w.rest j (omega (arith, le)) (omega (arith, le))) ∙ f);
  }

  is_moved_down : (m t : ℕ) → suc p < m → t ≡ suc (suc p) → IsLast (λ j. K j ≡ key) m t → IsLast (λ j. K' j ≡ key) m (suc p)
  is_moved_down m t lt e is = record {
    within = omega (arith, lt);
    here = λ k f. let q : p ≡ k = omega (arith, f) in subst (λ x. K' x ≡ key) q (w.lower ∙ is.here (suc p) e);
    none = λ j le l f. elim (cases_eq j (suc p)) [
      | inl g ↦ other (sym w.upper ∙ sym (ap K' g) ∙ f ∙ sym (is.here (suc p) e))
      | inr ne ↦ is.none j (omega (arith, e, le, ne)) l (sym (w.rest j (omega (arith, le)) ne) ∙ f)
    ];
  }

  is_left : (m t : ℕ) → suc p < m → (t ≡ suc p → ⊥) → (t ≡ suc (suc p) → ⊥) → IsLast (λ j. K j ≡ key) m t → IsLast (λ j. K' j ≡ key) m t
  is_left m t lt n0 n1 is = record {
    within = is.within;
    here = λ k e. w.rest k (λ q. n0 (e ∙ ap suc q)) (λ q. n1 (e ∙ ap suc q)) ∙ is.here k e;
    none = λ j le l f. elim (cases_eq j p) [
      | inl g ↦ is.none (suc p) (omega (arith, le, g)) lt (sym w.lower ∙ sym (ap K' g) ∙ f)
      | inr nj ↦ elim (cases_eq j (suc p)) [
        | inl g ↦ is.none p (omega (arith, le, g, n0)) (omega (arith, lt)) (sym w.upper ∙ sym (ap K' g) ∙ f)
        | inr ni ↦ is.none j le l (sym (w.rest j nj ni) ∙ f)
      ]
    ];
  }

-- an element with no next one is the last
no_later : (K : ℕ → ℕ) (n : ℕ) (S N T : ℕ → ℕ) → AreLinked K n S N T → (p : ℕ) → N p ≡ 0 → (f k : ℕ) → k ≤ f → p < k → k < n → K k ≡ K p → ⊥
no_later K n S N T old p z zero k le lt l e = omega (arith, le, lt)
no_later K n S N T old p z (suc f) k le lt l e = elim (cases_lt p (S k)) [
  | inr below ↦ (old.before k l).none p below lt (sym e)
  | inl above ↦ elim (cases_eq (S k) (suc p)) [
    | inl g ↦ omega (arith, z, old.back p k l g)
    | inr ne ↦ (let i : ℕ = S k - 1 in
        let is : S k ≡ suc i = omega (arith, above) in
        let w : S k ≤ k = (old.before k l).within in
        no_later K n S N T old p z f i (omega (arith, le, is, w)) (omega (arith, above, ne, is)) (omega (arith, is, w, l)) ((old.before k l).here i is ∙ e))
  ]
]

module _ (K K' : ℕ → ℕ) (n : ℕ) (S N T S' N' T' : ℕ → ℕ) (p : ℕ) (lp : suc p < n) (other : K p ≡ K (suc p) → ⊥) (old : AreLinked K n S N T)
    (w : IsExchanged K K' p) (s : IsTurned n p S N S') (x : IsTurned n p N S N') (t : AreTurned K p N T T') where
  low : p < n
  low = omega (arith, lp)

  key_at : (k m u : ℕ) → K' k ≡ K k → IsLast (λ j. K' j ≡ K k) m u → IsLast (λ j. K' j ≡ K' k) m u
  key_at k m u e = subst (λ y. IsLast (λ j. K' j ≡ y) m u) (sym e)

  before_above : (k : ℕ) → k < n → suc p < k → IsLast (λ j. K' j ≡ K' k) k (S' k)
  before_above k lk lt =
      key_at k k (S' k) (w.rest k (omega (arith, lt)) (omega (arith, lt))) (elim (cases_eq (S k) (suc p)) [
        | inl e ↦ subst (λ u. IsLast (λ j. K' j ≡ K k) k u) (sym (s.up k lk (old.back p k lk e))) (is_moved_up K K' p w other (K k) k (S k) lt e (old.before k lk))
        | inr n0 ↦ elim (cases_eq (S k) (suc (suc p))) [
          | inl e ↦ subst (λ u. IsLast (λ j. K' j ≡ K k) k u) (sym (s.down k lk (old.back (suc p) k lk e))) (is_moved_down K K' p w other (K k) k (S k) lt e (old.before k lk))
          | inr n1 ↦ subst (λ u. IsLast (λ j. K' j ≡ K k) k u) (sym (s.rest k lk (omega (arith, lt)) (omega (arith, lt)) (λ e. n0 (old.after p k low e).1) (λ e. n1 (old.after (suc p) k lp e).1)))
              (is_left K K' p w other (K k) k (S k) lt n0 n1 (old.before k lk))
        ]
      ])

  before_below : (k : ℕ) → k < p → IsLast (λ j. K' j ≡ K' k) k (S' k)
  before_below k lt =
      let lk : k < n = omega (arith, lt, lp) in
      let le : S k ≤ k = (old.before k lk).within in
      let e : S' k ≡ S k = s.rest k lk (omega (arith, lt)) (omega (arith, lt)) (λ f. omega (arith, lt, le, (old.after p k low f).1)) (λ f. omega (arith, lt, le, (old.after (suc p) k lp f).1)) in
      key_at k k (S' k) (w.rest k (omega (arith, lt)) (omega (arith, lt))) (subst (λ u. IsLast (λ j. K' j ≡ K k) k u) (sym e) (is_below K K' p w other (K k) k (S k) (omega (arith, lt)) (old.before k lk)))

  before_lower : IsLast (λ j. K' j ≡ K' p) p (S' p)
  before_lower =
      subst (λ y. IsLast (λ j. K' j ≡ y) p (S' p)) (sym w.lower) (subst (λ u. IsLast (λ j. K' j ≡ K (suc p)) p u) (sym s.lower)
      (is_below K K' p w other (K (suc p)) p (S (suc p)) (omega arith) (shorter (λ j. K j ≡ K (suc p)) p (S (suc p)) (old.before (suc p) lp) other)))

  before_upper : IsLast (λ j. K' j ≡ K' (suc p)) (suc p) (S' (suc p))
  before_upper =
      subst (λ y. IsLast (λ j. K' j ≡ y) (suc p) (S' (suc p))) (sym w.upper) (subst (λ u. IsLast (λ j. K' j ≡ K p) (suc p) u) (sym s.upper)
      (longer (λ j. K' j ≡ K p) p (S p) (is_below K K' p w other (K p) p (S p) (omega arith) (old.before p low)) (λ e. other (sym e ∙ w.lower))))

  turned_before : (k : ℕ) → k < n → IsLast (λ j. K' j ≡ K' k) k (S' k)
  turned_before k lk = elim (cases_eq k p) [
    | inl e ↦ subst (λ i. IsLast (λ j. K' j ≡ K' i) i (S' i)) (sym e) before_lower
    | inr n0 ↦ elim (cases_eq k (suc p)) [
      | inl e ↦ subst (λ i. IsLast (λ j. K' j ≡ K' i) i (S' i)) (sym e) before_upper
      | inr n1 ↦ elim (cases_lt k p) [
        | inl lt ↦ before_below k lt
        | inr le ↦ before_above k lk (omega (arith, le, n0, n1))
      ]
    ]
  ]

  turned_after : (j k : ℕ) → j < n → N' j ≡ suc k → (k < n) × (S' k ≡ suc j)
  turned_after j k lj e = elim (cases_eq j p) [
    | inl f ↦ (let it : (k < n) × (S k ≡ suc (suc p)) = old.after (suc p) k lp (sym x.lower ∙ sym (ap N' f) ∙ e) in
        (it.0, s.down k it.0 (sym x.lower ∙ sym (ap N' f) ∙ e) ∙ ap suc (sym f)))
    | inr n0 ↦ elim (cases_eq j (suc p)) [
      | inl f ↦ (let it : (k < n) × (S k ≡ suc p) = old.after p k low (sym x.upper ∙ sym (ap N' f) ∙ e) in
          (it.0, s.up k it.0 (sym x.upper ∙ sym (ap N' f) ∙ e) ∙ ap suc (sym f)))
      | inr n1 ↦ elim (cases_eq (S p) (suc j)) [
        | inl g ↦ (let q : k ≡ suc p = omega (arith, e, x.up j lj g) in (omega (arith, q, lp), ap S' q ∙ s.upper ∙ g))
        | inr m0 ↦ elim (cases_eq (S (suc p)) (suc j)) [
          | inl g ↦ (let q : k ≡ p = omega (arith, e, x.down j lj g) in (omega (arith, q, lp), ap S' q ∙ s.lower ∙ g))
          | inr m1 ↦ (let it : (k < n) × (S k ≡ suc j) = old.after j k lj (sym (x.rest j lj n0 n1 m0 m1) ∙ e) in (
            it.0,
            s.rest k it.0 (λ q. m0 (sym (ap S q) ∙ it.1)) (λ q. m1 (sym (ap S q) ∙ it.1))
                (λ h. n0 (omega (arith, it.1, (old.after p k low h).1))) (λ h. n1 (omega (arith, it.1, (old.after (suc p) k lp h).1))) ∙ it.1,
          ))
        ]
      ]
    ]
  ]

  turned_back : (j k : ℕ) → k < n → S' k ≡ suc j → N' j ≡ suc k
  turned_back j k lk e = elim (cases_eq k p) [
    | inl f ↦ (let g : S (suc p) ≡ suc j = sym s.lower ∙ sym (ap S' f) ∙ e in x.down j (omega (arith, g, (old.before (suc p) lp).within, lp)) g ∙ ap suc (sym f))
    | inr n0 ↦ elim (cases_eq k (suc p)) [
      | inl f ↦ (let g : S p ≡ suc j = sym s.upper ∙ sym (ap S' f) ∙ e in x.up j (omega (arith, g, (old.before p low).within, lp)) g ∙ ap suc (sym f))
      | inr n1 ↦ elim (cases_eq (N p) (suc k)) [
        | inl g ↦ (let q : j ≡ suc p = omega (arith, e, s.up k lk g) in ap N' q ∙ x.upper ∙ g)
        | inr m0 ↦ elim (cases_eq (N (suc p)) (suc k)) [
          | inl g ↦ (let q : j ≡ p = omega (arith, e, s.down k lk g) in ap N' q ∙ x.lower ∙ g)
          | inr m1 ↦ (let g : S k ≡ suc j = sym (s.rest k lk n0 n1 m0 m1) ∙ e in
              let b : N j ≡ suc k = old.back j k lk g in
              let lj : j < n = omega (arith, g, (old.before k lk).within, lk) in
              x.rest j lj (λ q. m0 (sym (ap N q) ∙ b)) (λ q. m1 (sym (ap N q) ∙ b))
              (λ h. n0 (omega (arith, b, old.back j p low h))) (λ h. n1 (omega (arith, b, old.back j (suc p) lp h))) ∙ b)
        ]
      ]
    ]
  ]

  -- the last of two has no next one
  last_ends : (key q : ℕ) → q < n → T key ≡ suc q → N q ≡ 0
  last_ends key q lq e = elim (cases_eq (N q) 0) [
    | inl z ↦ z
    | inr nz ↦ (let k : ℕ = N q - 1 in
        let f : N q ≡ suc k = omega (arith, nz) in
        let it : (k < n) × (S k ≡ suc q) = old.after q k lq f in
        absurd ((old.last key).none k (omega (arith, e, it.1, (old.before k it.0).within)) it.0 (sym ((old.before k it.0).here q it.1) ∙ (old.last key).here q e)))
  ]

  -- one with no next one is the last of its key
  ends_last : (key q : ℕ) → q < n → key ≡ K q → N q ≡ 0 → T key ≡ suc q
  ends_last key q lq e z = elim (cases_lt q (T key)) [
    | inr le ↦ absurd ((old.last key).none q le lq (sym e))
    | inl lt ↦ elim (cases_eq (T key) (suc q)) [
      | inl f ↦ f
      | inr ne ↦ (let k : ℕ = T key - 1 in
          let f : T key ≡ suc k = omega (arith, lt) in
          absurd (no_later K n S N T old q z k k (omega arith) (omega (arith, lt, ne, f)) (omega (arith, f, (old.last key).within)) ((old.last key).here k f ∙ e)))
    ]
  ]

  turned_last : (key : ℕ) → IsLast (λ j. K' j ≡ key) n (T' key)
  turned_last key = elim (cases_eq (T key) (suc p)) [
    | inl e ↦ (let q : key ≡ K p = sym ((old.last key).here p e) in
        subst (λ u. IsLast (λ j. K' j ≡ key) n u) (sym (ap T' q ∙ t.lower (last_ends key p low e))) (is_moved_up K K' p w other key n (T key) lp e (old.last key)))
    | inr n0 ↦ elim (cases_eq (T key) (suc (suc p))) [
      | inl e ↦ (let q : key ≡ K (suc p) = sym ((old.last key).here (suc p) e) in
          subst (λ u. IsLast (λ j. K' j ≡ key) n u) (sym (ap T' q ∙ t.upper (last_ends key (suc p) lp e))) (is_moved_down K K' p w other key n (T key) lp e (old.last key)))
      | inr n1 ↦ subst (λ u. IsLast (λ j. K' j ≡ key) n u) (sym (t.rest key (λ q z. n0 (ends_last key p low q z)) (λ q z. n1 (ends_last key (suc p) lp q z))))
          (is_left K K' p w other key n (T key) lp n0 n1 (old.last key))
    ]
  ]

  pub turn_linked : AreLinked K' n S' N' T'
  turn_linked = record { before = turned_before; after = turned_after; back = turned_back; last = turned_last }
