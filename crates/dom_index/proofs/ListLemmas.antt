-- Sets of lists of selectors and of the lists in a compound, list by list.
use Rattle.std.proofs.Common.{◌≡◌, ◌⊎◌, ◌↔◌, ◌<◌, ◌≤◌, ◌+◌, ◌*◌, ℕ, List, [], ◌∷◌, ◌++◌, Bool, true, false, true≢false, MatchBool, inl, inr, refl, sym, ap, ◌∙◌, subst, length, arith, suc, map, take, drop, get_or, add-one}
use Rattle.std.proofs.Math.Nat.{add-mul}
use Rattle.std.proofs.Math.Seq.{drop-cons}
use Rattle.std.proofs.lemmas.List.{take_more}
use Rattle.std.specs.Prelude.{◌&&◌, ◌||◌, not}
use Rattle.dom_links.specs.Forest.{Forest}
use Rattle.dom_select.specs.Meaning.{ListHolds, ListsHold, MatchesNode}
use Rattle.dom_selectors.specs.declared.syntax.Combinator.{Combinator}
use Rattle.dom_selectors.specs.declared.syntax.Nested.{Nested}
use Rattle.dom_selectors.specs.declared.syntax.Selector.{Selector, out-Selector}
use Rattle.dom_selectors.specs.declared.syntax.Step.{Step}
use Rattle.dom_selectors.specs.ListsAsTrees.{lists_of, steps_of}
use Rattle.dom_selectors.specs.ValuesAsTrees.{read_compound, read_list, read_nested, read_step}
use Rattle.dom_selectors.specs.Syntax.{CompoundSelector, NestedLists, no_lists, nested, NestedList, not_list, SelectorList, alternative, Steps}
use Rattle.dom_selectors.proofs.Layers.{read_selector_is, read_step_is}
use Rattle.dom_selectors.specs.Spelling.{Decides}
use Rattle.dom_index.specs.NodeSets.{IsIntersection, IsUnion, IsSetOf, IsSetWithin, IsComplement, in_set}

-- the lists that are left decide, for the nodes still in the set
pub record Narrowed (forest : Forest) (count : ℕ) (wanted table : List Bool) (all left : NestedLists) : Type 0 where
  pub long : length table ≡ count
  pub each : (n : ℕ) → n < count → MatchBool (in_set table n) (((in_set wanted n ≡ true) × ListsHold all forest n) ↔ ListsHold left forest n) ((in_set wanted n ≡ true) × ListsHold all forest n → ⊥)

module _ (forest : Forest) (count : ℕ) (wanted : List Bool) (all : NestedLists) where
  pub narrowed_none : length wanted ≡ count → Narrowed forest count wanted wanted all all
  narrowed_none long = record { long = long; each = λ n known. at n (in_set wanted n) refl }
    where
      at : (n : ℕ) (b : Bool) → in_set wanted n ≡ b → MatchBool b (((in_set wanted n ≡ true) × ListsHold all forest n) ↔ ListsHold all forest n) ((in_set wanted n ≡ true) × ListsHold all forest n → ⊥)
      at n true e = (λ h. h.1, λ h. (e, h))
      at n false e = λ h. true≢false (sym h.0 ∙ e)

  narrowed_at : (list : NestedList) (left : NestedLists) (n : ℕ) (w a b : Bool) → w ≡ (a && b) → (a ≡ true → Decides b (ListHolds list forest n)) →
      MatchBool a (((in_set wanted n ≡ true) × ListsHold all forest n) ↔ ListsHold (nested list left) forest n) ((in_set wanted n ≡ true) × ListsHold all forest n → ⊥) →
      MatchBool w (((in_set wanted n ≡ true) × ListsHold all forest n) ↔ ListsHold left forest n) ((in_set wanted n ≡ true) × ListsHold all forest n → ⊥)
  narrowed_at list left n true true true e answer h = (λ x. (h.0 x).1, λ x. h.1 (answer refl, x))
  narrowed_at list left n false true true e answer h = absurd (true≢false (sym e))
  narrowed_at list left n true true false e answer h = absurd (true≢false e)
  narrowed_at list left n false true false e answer h = λ x. answer refl (h.0 x).0
  narrowed_at list left n true false b e answer h = absurd (true≢false e)
  narrowed_at list left n false false b e answer h = h

  pub narrowed_more : (list : NestedList) (left : NestedLists) (table other new : List Bool) → IsSetWithin table other count (ListHolds list forest) → IsIntersection new table other → Narrowed forest count wanted table all (nested list left) →
      Narrowed forest count wanted new all left
  narrowed_more list left table other new answer both h = record {
    long = both.long ∙ h.long;
    each = λ n known. narrowed_at list left n _ _ _ (both.each n (subst (λ (m : ℕ). n < m) (sym h.long) known)) (answer.each n known) (h.each n known);
  }

  pub narrowed_all : (table : List Bool) → Narrowed forest count wanted table all no_lists → IsSetOf table count (λ n. (in_set wanted n ≡ true) × ListsHold all forest n)
  narrowed_all table h = record { long = h.long; each = λ n known. at n (in_set table n) (h.each n known) }
    where
      at : (n : ℕ) (b : Bool) → MatchBool b (((in_set wanted n ≡ true) × ListsHold all forest n) ↔ Unit {0}) ((in_set wanted n ≡ true) × ListsHold all forest n → ⊥) → Decides b ((in_set wanted n ≡ true) × ListsHold all forest n)
      at n true x = x.1 tt
      at n false x = x

-- what is left decides, for the nodes not yet in the set
pub record Widened (Here : ℕ → Type 0) (count : ℕ) (table : List Bool) (All Left : ℕ → Type 0) : Type 0 where
  pub long : length table ≡ count
  pub each : (n : ℕ) → n < count → Here n → MatchBool (in_set table n) (All n) (All n ↔ Left n)

-- the numbers in a set, and all numbers
abbrev pub Wanted : List Bool → ℕ → Type 0
Wanted wanted n = in_set wanted n ≡ true

abbrev pub Anywhere : ℕ → Type 0
Anywhere n = Unit {0}

module _ (Here : ℕ → Type 0) (count : ℕ) (All : ℕ → Type 0) where
  pub widened_none : (table : List Bool) → length table ≡ count → ((n : ℕ) → n < count → in_set table n ≡ false) → Widened Here count table All All
  widened_none table long empty = record { long = long; each = λ n known here. rw (empty n known) (λ h. h, λ h. h) }

  widened_at : (One Left : ℕ → Type 0) (n : ℕ) (w a b : Bool) → w ≡ (a || b) → Decides b (One n) →
      MatchBool a (All n) (All n ↔ (One n ⊎ Left n)) → MatchBool w (All n) (All n ↔ Left n)
  widened_at One Left n true true b e answer h = h
  widened_at One Left n false true b e answer h = absurd (true≢false (sym e))
  widened_at One Left n true false true e answer h = h.1 (inl answer)
  widened_at One Left n false false true e answer h = absurd (true≢false (sym e))
  widened_at One Left n true false false e answer h = absurd (true≢false e)
  widened_at One Left n false false false e answer h = (λ m. on (h.0 m), λ m. h.1 (inr m))
    where
      on : One n ⊎ Left n → Left n
      on (inl r) = absurd (answer r)
      on (inr m) = m

  pub widened_more : (One Left : ℕ → Type 0) (table other new : List Bool) → ((n : ℕ) → n < count → Here n → Decides (in_set other n) (One n)) → IsUnion new table other →
      Widened Here count table All (λ n. One n ⊎ Left n) → Widened Here count new All Left
  widened_more One Left table other new answer either h = record {
    long = either.long ∙ h.long;
    each = λ n known here. widened_at One Left n _ _ _ (either.each n (subst (λ (m : ℕ). n < m) (sym h.long) known)) (answer n known here) (h.each n known here);
  }

  pub widened_last : (table : List Bool) → Widened Here count table All (λ n. ⊥) → (n : ℕ) → n < count → Here n → Decides (in_set table n) (All n)
  widened_last table h n known here = at (in_set table n) (h.each n known here)
    where
      at : (b : Bool) → MatchBool b (All n) (All n ↔ ⊥) → Decides b (All n)
      at true x = x
      at false x = x.0

pub widened_all : (count : ℕ) (All : ℕ → Type 0) (table : List Bool) → Widened Anywhere count table All (λ n. ⊥) → IsSetOf table count All
widened_all count All table h = record { long = h.long; each = λ n known. widened_last Anywhere count All table h n known tt }

pub widened_where : (wanted : List Bool) (count : ℕ) (All : ℕ → Type 0) (table : List Bool) → Widened (Wanted wanted) count table All (λ n. ⊥) → IsSetWithin wanted table count All
widened_where wanted count All table h = record { long = h.long; each = widened_last (Wanted wanted) count All table h }

-- a set is also one within another
pub decided_where : (wanted table : List Bool) (count : ℕ) (P : ℕ → Type 0) → IsSetOf table count P → IsSetWithin wanted table count P
decided_where wanted table count P answer = record { long = answer.long; each = λ n known here. answer.each n known }

-- and within the set of all nodes it is decided everywhere
pub decided_anywhere : (wanted table : List Bool) (count : ℕ) (P : ℕ → Type 0) → ((n : ℕ) → n < count → in_set wanted n ≡ true) → IsSetWithin wanted table count P → IsSetOf table count P
decided_anywhere wanted table count P all answer = record { long = answer.long; each = λ n known. answer.each n known (all n known) }

-- the complement
turned_at : (w b : Bool) (P : Type 0) → w ≡ not b → Decides b P → Decides w (P → ⊥)
turned_at true true P e h = absurd (true≢false e)
turned_at false true P e h = λ none. none h
turned_at true false P e h = h
turned_at false false P e h = absurd (true≢false (sym e))

pub turned_where : (forest : Forest) (wanted : List Bool) (count : ℕ) (list : SelectorList) (table other : List Bool) → IsSetWithin wanted other count (MatchesNode list forest) → IsComplement table other →
    IsSetWithin wanted table count (ListHolds (not_list list) forest)
turned_where forest wanted count list table other answer turned = record {
  long = turned.long ∙ answer.long;
  each = λ n known here. turned_at _ _ (MatchesNode list forest n) (turned.each n (subst (λ (m : ℕ). n < m) (sym answer.long) known)) (answer.each n known here);
}

-- so many tests were made, and so many more may be
pub spent : (a b m old now new all : ℕ) → now + (a + b) * m ≤ old + all * m → new ≤ now + a * m → new + b * m ≤ old + all * m
spent a b m old now new all h k = let apart : (a + b) * m ≡ a * m + b * m = add-mul a b m in omega arith

-- the tests of the rest are within the whole
pub spent_rest : (a b m now new : ℕ) → new ≤ now + b * m → new ≤ now + (a + b) * m
spent_rest a b m now new k = let apart : (a + b) * m ≡ a * m + b * m = add-mul a b m in omega arith

pub enough : (b m new top : ℕ) → new + b * m ≤ top → new ≤ top
enough b m new top h = omega arith

-- values in a row, cut at one of them
module _ {A : Type 0} (i : ℕ) (xs : List A) (x : A) (known : i < length xs) (is : x ≡ get_or xs i x) where
  pub row_cut : drop i xs ≡ x ∷ drop (i + 1) xs
  row_cut = drop-cons xs i x known ∙ (ap (λ y. y ∷ drop (suc i) xs) (sym is) ∙ ap (λ j. x ∷ drop j xs) (sym (add-one i)))

  pub row_more : take (i + 1) xs ≡ take i xs ++ x ∷ []
  row_more = take_more xs i x known ∙ ap (λ y. take i xs ++ y ∷ []) (sym is)

pub selectors_cut : (i : ℕ) (selectors : List Selector) (s : Selector) → i < length selectors → s ≡ get_or selectors i s →
    read_list (drop i selectors) ≡ alternative (out-Selector s).lead (read_compound (out-Selector s).first) (steps_of (map read_step (out-Selector s).rest.items)) (read_list (drop (i + 1) selectors))
selectors_cut i selectors s known is =
    ap read_list (row_cut i selectors s known is) ∙ ap (λ (r : Combinator × CompoundSelector × Steps). alternative r.0 r.1 r.2 (read_list (drop (i + 1) selectors))) (read_selector_is s)

pub lists_cut : (i : ℕ) (lists : List Nested) (l : Nested) → i < length lists → l ≡ get_or lists i l →
    lists_of (map read_nested (drop i lists)) ≡ nested (read_nested l) (lists_of (map read_nested (drop (i + 1) lists)))
lists_cut i lists l known is = ap (λ ls. lists_of (map read_nested ls)) (row_cut i lists l known is)

pub steps_ahead : (left behind : List Step) (s : Step) → left ≡ s ∷ behind → map read_step left ≡ (s.combinator, read_compound s.compound) ∷ map read_step behind
steps_ahead left behind s e = ap (map read_step) e ∙ ap (λ (r : Combinator × CompoundSelector). r ∷ map read_step behind) (read_step_is s)
