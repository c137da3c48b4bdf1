-- Sets that are filled flag by flag.
use Rattle.std.proofs.Common.{◌≡◌, ◌≢◌, ◌<◌, ◌≤◌, ◌+◌, ℕ, List, [], ◌∷◌, Bool, true, false, true≢false, inl, inr, refl, sym, ap, ◌∙◌, subst, length, set, replicate, arith}
use Rattle.std.proofs.lemmas.List.{get_or-set_same, get_or-set_other, length-set}
use Rattle.dom_links.specs.Forest.{Forest}
use Rattle.dom_links.specs.Laws.{AreLines}
use Rattle.dom_selectors.specs.declared.syntax.Combinator.{Combinator}
use Rattle.dom_select.specs.Answers.{AreAnswers}
use Rattle.dom_selectors.specs.ListsAsTrees.{lists_of}
use Rattle.dom_select.specs.Meaning.{ListsHold}
use Rattle.dom_selectors.specs.Syntax.{NestedList}
use Rattle.dom_index.specs.Orders.{IsOrder, number_at}
use Rattle.dom_selectors.specs.Spelling.{Decides}
use Rattle.dom_index.specs.NodeSets.{in_set, HasLeftOperand, is_reached}
use Rattle.dom_index.proofs.ForwardLemmas.{behind_left, reached_decided}
use Rattle.dom_index.proofs.PlaceLemmas.{same_or_not}

pub written_here : (table : List Bool) (n : ℕ) (b : Bool) → n < length table → in_set (set table n b) n ≡ b
written_here table n b known = get_or-set_same table n b false known

pub written_elsewhere : (table : List Bool) (n m : ℕ) (b : Bool) → m ≢ n → in_set (set table n b) m ≡ in_set table m
written_elsewhere table n m b other = get_or-set_other table n m b false other

module _ (P : ℕ → Type 0) where
  -- one more flag of a set is decided
  pub one_more_decided : (table : List Bool) (n : ℕ) (b : Bool) → n < length table → ((m : ℕ) → m < n → Decides (in_set table m) (P m)) → Decides b (P n) →
      (m : ℕ) → m < n + 1 → Decides (in_set (set table n b) m) (P m)
  one_more_decided table n b known answer here m below = elim (same_or_not m n) [
    | inl e ↦ subst (λ k. Decides (in_set (set table n b) k) (P k)) (sym e) (subst (λ c. Decides c (P n)) (sym (written_here table n b known)) here)
    | inr other ↦ subst (λ c. Decides c (P m)) (sym (written_elsewhere table n m b other)) (answer m (omega arith))
  ]

module _ (forest : Forest) (lines : AreLines forest) (order places : List ℕ) (good : IsOrder forest order places) (k : Combinator) (table : List Bool) where
  -- what is decided before the position i
  abbrev pub DecidedBefore : List Bool → ℕ → Type 0
  DecidedBefore flags i = (n : ℕ) → n < length forest.content → number_at places n < i → Decides (in_set flags n) (HasLeftOperand forest k table n)

  pub reached_more : (flags : List Bool) (i n : ℕ) (flag : Bool) → i < length forest.content → n ≡ number_at order i → length flags ≡ length forest.content → DecidedBefore flags i →
      flag ≡ is_reached forest k table flags n → DecidedBefore (set flags n flag) (i + 1)
  reached_more flags i n flag below is long answer e m known before =
      let inside : n < length forest.content = subst (λ (j : ℕ). j < length forest.content) (sym is) (good.known i below) in
      let at : number_at places n ≡ i = ap (number_at places) is ∙ good.placed i below in
      let here : Decides flag (HasLeftOperand forest k table n) = reached_decided forest lines k table flags n
      (λ v link. let back = behind_left forest order places good k n v inside link in answer v back.0 (let less = back.1 in omega arith)) flag e in
      elim (same_or_not m n) [
        | inl same ↦ subst (λ j. Decides (in_set (set flags n flag) j) (HasLeftOperand forest k table j)) (sym same)
            (subst (λ c. Decides c (HasLeftOperand forest k table n)) (sym (written_here flags n flag (subst (λ (j : ℕ). n < j) (sym long) inside))) here)
        | inr other ↦ subst (λ c. Decides c (HasLeftOperand forest k table m)) (sym (written_elsewhere flags n m flag other))
            (answer m known (elsewhere m known before other is at))
      ]
    where
      elsewhere : (m : ℕ) → m < length forest.content → number_at places m < i + 1 → m ≢ n → n ≡ number_at order i → number_at places n ≡ i → number_at places m < i
      elsewhere m known before other is at = elim (same_or_not (number_at places m) i) [
        | inl e ↦ absurd (other (sym (good.ordered m known) ∙ (ap (number_at order) e ∙ sym is)))
        | inr ne ↦ omega arith
      ]

-- where all lists match, so many times true are their answers
pub all_answered : (lists : List NestedList) (forest : Forest) (n : ℕ) → ListsHold (lists_of lists) forest n → AreAnswers (lists_of lists) forest n (replicate (length lists) true)
all_answered [] forest n h = refl
all_answered (list ∷ lists) forest n h = (h.0, all_answered lists forest n h.1)

-- the cells below n are as a function says, the others as they were
pub record Filled (f : ℕ → Bool) (old table : List Bool) (n : ℕ) : Type 0 where
  pub long : length table ≡ length old
  pub filled : (m : ℕ) → m < n → in_set table m ≡ f m
  pub left : (m : ℕ) → n ≤ m → in_set table m ≡ in_set old m

pub filled_none : (f : ℕ → Bool) (old : List Bool) → Filled f old old 0
filled_none f old = record { long = refl; filled = λ m below. absurd (omega arith); left = λ m past. refl }

pub filled_more : (f : ℕ → Bool) (old table : List Bool) (n : ℕ) (b : Bool) → n < length table → Filled f old table n → b ≡ f n → Filled f old (set table n b) (n + 1)
filled_more f old table n b known h e = record {
  long = length-set table n b ∙ h.long;
  filled = λ m below. elim (same_or_not m n) [
    | inl same ↦ ap (in_set (set table n b)) same ∙ (written_here table n b known ∙ (e ∙ ap f (sym same)))
    | inr other ↦ written_elsewhere table n m b other ∙ h.filled m (omega arith)
  ];
  left = λ m past. written_elsewhere table n m b (λ e. omega arith) ∙ h.left m (omega arith);
}

-- a node with a flag is in the set
pub same_decided : (a b : Bool) → a ≡ b → Decides a (b ≡ true)
same_decided true b e = sym e
same_decided false b e = λ t. true≢false (sym t ∙ sym e)
