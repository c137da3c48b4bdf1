-- Matches of the rest of a selector, from the last step to the first.
use Rattle.std.proofs.Common.{◌≡◌, ◌⊎◌, ◌<◌, ◌≤◌, ◌+◌, ◌*◌, ℕ, List, [], ◌∷◌, ◌++◌, Bool, true, false, true≢false, inl, inr, refl, sym, ap, ◌∙◌, subst, length, map, append_assoc, drop, get_or, arith}
use Rattle.std.specs.Prelude.{◌&&◌}
use Rattle.std.proofs.lemmas.List.{map-append}
use Rattle.dom_links.specs.Forest.{Forest}
use Rattle.dom_links.specs.Laws.{AreLines}
use Rattle.dom_links.specs.ListMoves.{element_at}
use Rattle.dom_selectors.specs.declared.syntax.Combinator.{Combinator}
use Rattle.dom_selectors.specs.declared.syntax.Combinator.TheVariants.{Descendant, Child, Adjacent, Sibling}
use Rattle.dom_selectors.specs.declared.syntax.Selector.{Selector, out-Selector}
use Rattle.dom_selectors.specs.declared.syntax.Step.{Step}
use Rattle.dom_selectors.specs.ListsAsTrees.{steps_of}
use Rattle.dom_selectors.specs.Spelling.{Decides}
use Rattle.dom_selectors.specs.Syntax.{CompoundSelector, SelectorList, Steps, no_steps, step}
use Rattle.dom_selectors.specs.ValuesAsTrees.{read_compound, read_list, read_step}
use Rattle.dom_selectors.proofs.Layers.{read_step_is}
use Rattle.dom_selectors.proofs.Weights.{compound_weight, steps_weight}
use Rattle.dom_select.specs.Chains.{Precedes}
use Rattle.dom_select.specs.Meaning.{Holds, StepsMatch, RelativeMatches, MayBeOperand}
use Rattle.dom_select.proofs.FollowLemmas.{apart, precedes_then, stands_precedes}
use Rattle.dom_index.specs.TestCounts.{CompoundTests, AddsTests, RestTests}
use Rattle.dom_index.specs.CompoundCounts.{compound_count, selectors_count, steps_count}
use Rattle.dom_index.specs.RestMatches.{StepMatches, RestMatches}
use Rattle.dom_index.specs.NodeSets.{AreOperands, IsSetOf, HasRightOperand, may_be_operand, in_set}
use Rattle.dom_index.proofs.ChainLemmas.{both_true, holds_inside, decided_true, truth_inside}
use Rattle.dom_index.proofs.ForwardLemmas.{decided_by}
use Rattle.dom_index.proofs.TestCountLemmas.{relative_tests}
use Rattle.dom_index.proofs.ListLemmas.{selectors_cut, spent}

module _ (forest : Forest) (lines : AreLines forest) where
  -- a node that stands after x is not exempt for it
  after_element : (x w : ℕ) → Precedes forest x w → (w ≡ x) ⊎ (element_at forest w ≡ true) → element_at forest w ≡ true
  after_element x w p (inl e) = absurd (apart forest x w p (sym e))
  after_element x w p (inr e) = e

  must_serve : (k : Combinator) (x w : ℕ) → Precedes forest x w → MayBeOperand forest x k w → may_be_operand forest k w ≡ true
  must_serve Descendant x w p b = refl
  must_serve Child x w p b = refl
  must_serve Adjacent x w p b = after_element x w p b
  must_serve Sibling x w p b = after_element x w p b

  may_serve : (k : Combinator) (x w : ℕ) → may_be_operand forest k w ≡ true → MayBeOperand forest x k w
  may_serve Descendant x w e = tt
  may_serve Child x w e = tt
  may_serve Adjacent x w e = inr e
  may_serve Sibling x w e = inr e

  may_start : (k : Combinator) (x : ℕ) → MayBeOperand forest x k x
  may_start Descendant x = tt
  may_start Child x = tt
  may_start Adjacent x = inl refl
  may_start Sibling x = inl refl

  -- from w the steps can be matched, with x exempt
  abbrev Ends : Steps → ℕ → ℕ → Type 0
  Ends steps x w = (y : ℕ) × StepsMatch steps forest x w y × (element_at forest y ≡ true)

  onward_from : (steps : Steps) (x w : ℕ) → Precedes forest x w → Ends steps x w → RestMatches steps forest w
  onward_from no_steps x w p (y, same, e) = ap (element_at forest) same ∙ e
  onward_from (step k c more) x w p (y, steps_match, e) =
      let v = steps_match.0 in
      let farther = precedes_then forest x w v p (stands_precedes forest lines k w v steps_match.1.0) in
      (must_serve k x w p steps_match.1.1, (v, steps_match.1.0, must_serve k x v farther steps_match.1.2, steps_match.2, onward_from more x v farther (y, steps_match.3, e)))

  onward_to : (steps : Steps) (x w : ℕ) → Precedes forest x w → RestMatches steps forest w → Ends steps x w
  onward_to no_steps x w p h = (w, refl, h)
  onward_to (step k c more) x w p h =
      let v = h.1.0 in
      let farther = precedes_then forest x w v p (stands_precedes forest lines k w v h.1.1) in
      let rest = onward_to more x v farther h.1.4 in
      (rest.0, (v, (h.1.1, may_serve k x w h.0, may_serve k x v h.1.2), h.1.3, rest.1), rest.2)

  some_from : (k : Combinator) (c : CompoundSelector) (steps : Steps) (x : ℕ) → RelativeMatches k c steps forest x → StepMatches k c steps forest x
  some_from k c steps x (w, y, joined, held, steps_match, e) =
      let p = stands_precedes forest lines k x w joined.0 in
      (w, joined.0, must_serve k x w p joined.2, held, onward_from steps x w p (y, steps_match, e))

  some_to : (k : Combinator) (c : CompoundSelector) (steps : Steps) (x : ℕ) → StepMatches k c steps forest x → RelativeMatches k c steps forest x
  some_to k c steps x (w, stands, served, held, onward) =
      let p = stands_precedes forest lines k x w stands in
      let rest = onward_to steps x w p onward in
      (w, rest.0, (stands, may_start k x, may_serve k x w served), held, rest.1, rest.2)

-- the set of the nodes with right operands in another
module _ (forest : Forest) (count : ℕ) (is_count : count ≡ length forest.content) (k : Combinator) (c : CompoundSelector) (steps : Steps) (wanted held : List Bool)
    (answer : IsSetOf wanted count (RestMatches steps forest)) (asked : IsSetOf held count (λ n. (in_set wanted n ≡ true) × Holds c forest n)) where
  step_forth : (n : ℕ) → HasRightOperand forest k held n → StepMatches k c steps forest n
  step_forth n (v, stands, will) =
      let both = both_true (may_be_operand forest k v) (in_set held v) will in
      let known = subst (λ (m : ℕ). v < m) asked.long (truth_inside held v both.1) in
      let here : (in_set wanted v ≡ true) × Holds c forest v = rw both.1 at (asked.each v known) in
      let onward : RestMatches steps forest v = rw here.0 at (answer.each v known) in
      (v, stands, both.0, here.1, onward)

  step_back : (n : ℕ) → StepMatches k c steps forest n → HasRightOperand forest k held n
  step_back n (v, stands, served, holds, onward) =
      let known : v < count = subst (λ (m : ℕ). v < m) (sym is_count) (holds_inside c forest v holds) in
      let there = decided_true (in_set wanted v) (RestMatches steps forest v) (answer.each v known) onward in
      let here = decided_true (in_set held v) _ (asked.each v known) (there, holds) in
      (v, stands, rw (served, here) refl)

  pub step_decided : (flags : List Bool) → IsSetOf flags count (HasRightOperand forest k held) → IsSetOf flags count (StepMatches k c steps forest)
  step_decided flags reached = record {
    long = reached.long;
    each = λ n known. decided_by (in_set flags n) (HasRightOperand forest k held n) (StepMatches k c steps forest n) (step_forth n) (step_back n) (reached.each n known);
  }

-- one step more, where the node may be an operand of its combinator
onward_at : (forest : Forest) (k : Combinator) (c : CompoundSelector) (steps : Steps) (n : ℕ) (w a b : Bool) → w ≡ (a && b) → may_be_operand forest k n ≡ b → Decides a (StepMatches k c steps forest n) → Decides w (RestMatches (step k c steps) forest n)
onward_at forest k c steps n true true true e s h = (s, h)
onward_at forest k c steps n false true true e s h = absurd (true≢false (sym e))
onward_at forest k c steps n true true false e s h = absurd (true≢false e)
onward_at forest k c steps n false true false e s h = λ o. true≢false (sym o.0 ∙ s)
onward_at forest k c steps n true false b e s h = absurd (true≢false e)
onward_at forest k c steps n false false b e s h = λ o. h o.1

pub onward_decided : (forest : Forest) (count : ℕ) (k : Combinator) (c : CompoundSelector) (steps : Steps) (flags table : List Bool) → IsSetOf flags count (StepMatches k c steps forest) → AreOperands forest k table flags →
    IsSetOf table count (RestMatches (step k c steps) forest)
onward_decided forest count k c steps flags table answer serving = record {
  long = serving.long ∙ answer.long;
  each = λ n known. onward_at forest k c steps n _ _ _ (serving.each n (subst (λ (m : ℕ). n < m) (sym answer.long) known)) refl (answer.each n known);
}

pub some_decided : (forest : Forest) → AreLines forest → (count : ℕ) (k : Combinator) (c : CompoundSelector) (steps : Steps) (flags : List Bool) → IsSetOf flags count (StepMatches k c steps forest) → IsSetOf flags count (RelativeMatches k c steps forest)
some_decided forest lines count k c steps flags answer = record {
  long = answer.long;
  each = λ n known. decided_by (in_set flags n) _ _ (some_to forest lines k c steps n) (some_from forest lines k c steps n) (answer.each n known);
}

abbrev pub Chain : Type 0
Chain = List (Combinator × CompoundSelector)

-- counts and weights of steps with one more at their end
pub count_last : (ss : Chain) (s : Combinator × CompoundSelector) → steps_count (steps_of (ss ++ s ∷ [])) ≡ compound_count s.1 + steps_count (steps_of ss)
count_last [] s = refl
count_last (t ∷ ss) s = let rest = count_last ss s in omega arith

pub weight_last : (ss : Chain) (s : Combinator × CompoundSelector) → steps_weight (steps_of (ss ++ s ∷ [])) ≡ 2 + compound_weight s.1 + steps_weight (steps_of ss)
weight_last [] s = omega arith
weight_last (t ∷ ss) s = let rest = weight_last ss s in omega arith

-- the steps that are left, with the last of them apart
pub steps_apart : (left before : List Step) (s : Step) → left ≡ before ++ s ∷ [] → map read_step left ≡ map read_step before ++ (s.combinator, read_compound s.compound) ∷ []
steps_apart left before s e =
    ap (map read_step) e ∙ (map-append read_step before (s ∷ []) ∙ ap (λ (r : Combinator × CompoundSelector). map read_step before ++ r ∷ []) (read_step_is s))

-- steps that are left, and those after them, with their tests and their set
pub record Going (forest : Forest) (count : ℕ) (all left : Chain) (table : List Bool) (old now : ℕ) : Type 0 where
  pub tail : Chain
  pub split : all ≡ left ++ tail
  pub answer : IsSetOf table count (RestMatches (steps_of tail) forest)
  pub asked : AddsTests old now (RestTests (steps_of tail) forest)

pub going_on : (forest : Forest) (count : ℕ) → count ≡ length forest.content → (all left before : Chain) (k : Combinator) (c : CompoundSelector) (wanted held flags table : List Bool) (old now new : ℕ) → Going forest count all left wanted old now → left ≡ before ++ (k, c) ∷ [] →
    IsSetOf held count (λ n. (in_set wanted n ≡ true) × Holds c forest n) → IsSetOf flags count (HasRightOperand forest k held) → AreOperands forest k table flags → AddsTests now new (CompoundTests c forest wanted) →
    Going forest count all before table old new
going_on forest count is all left before k c wanted held flags table old now new going e asked reached serving counted = record {
  tail = (k, c) ∷ going.tail;
  split = going.split ∙ (ap (λ (ss : Chain). ss ++ going.tail) e ∙ append_assoc before ((k, c) ∷ []) going.tail);
  answer = onward_decided forest count k c (steps_of going.tail) flags table (step_decided forest count is k c (steps_of going.tail) wanted held going.answer asked flags reached) serving;
  asked = relative_tests forest c (steps_of going.tail) wanted old now new (subst (λ m. IsSetOf wanted m (RestMatches (steps_of going.tail) forest)) is going.answer) going.asked counted;
}

module _ (forest : Forest) (count : ℕ) (all left : Chain) (table : List Bool) (old now : ℕ) (going : Going forest count all left table old now) (none : left ≡ []) where
  abbrev whole : all ≡ going.tail
  whole = going.split ∙ ap (λ (ss : Chain). ss ++ going.tail) none

  pub going_all : IsSetOf table count (RestMatches (steps_of all) forest)
  going_all = subst (λ (ss : Chain). IsSetOf table count (RestMatches (steps_of ss) forest)) (sym whole) going.answer

  pub asked_all : AddsTests old now (RestTests (steps_of all) forest)
  asked_all = subst (λ (ss : Chain). AddsTests old now (RestTests (steps_of ss) forest)) (sym whole) going.asked

-- the tests that were made, and those that the steps left may add
pub steps_asked : (m old now new : ℕ) (all left before : List Step) (s : Step) → left ≡ before ++ s ∷ [] → now + steps_count (steps_of (map read_step left)) * m ≤ old + steps_count (steps_of (map read_step all)) * m →
    new ≤ now + compound_count (read_compound s.compound) * m → new + steps_count (steps_of (map read_step before)) * m ≤ old + steps_count (steps_of (map read_step all)) * m
steps_asked m old now new all left before s e so_far asked =
    let apart = ap (λ (ss : Chain). steps_count (steps_of ss)) (steps_apart left before s e) ∙ count_last (map read_step before) (s.combinator, read_compound s.compound) in
    let sum = subst (λ (n : ℕ). now + n * m ≤ old + steps_count (steps_of (map read_step all)) * m) apart so_far in
    spent (compound_count (read_compound s.compound)) (steps_count (steps_of (map read_step before))) m old now new (steps_count (steps_of (map read_step all))) sum asked

-- and those that the selectors left may add, behind one whose steps are these
pub selectors_asked : (m old now new : ℕ) (selectors : List Selector) (i : ℕ) (s : Selector) (steps : List Step) → i < length selectors → s ≡ get_or selectors i s → steps ≡ (out-Selector s).rest.items →
    now + selectors_count (read_list (drop i selectors)) * m ≤ old + selectors_count (read_list selectors) * m → new ≤ now + (compound_count (read_compound (out-Selector s).first) + steps_count (steps_of (map read_step steps))) * m →
    new + selectors_count (read_list (drop (i + 1) selectors)) * m ≤ old + selectors_count (read_list selectors) * m
selectors_asked m old now new selectors i s steps known is same so_far asked =
    let first = (out-Selector s).first in
    let sum = subst (λ (list : SelectorList). now + selectors_count list * m ≤ old + selectors_count (read_list selectors) * m) (selectors_cut i selectors s known is) so_far in
    let one = subst (λ (ss : List Step). new ≤ now + (compound_count (read_compound first) + steps_count (steps_of (map read_step ss))) * m) same asked in
    spent (compound_count (read_compound first) + steps_count (steps_of (map read_step (out-Selector s).rest.items))) (selectors_count (read_list (drop (i + 1) selectors))) m old now new (selectors_count (read_list selectors)) sum one
