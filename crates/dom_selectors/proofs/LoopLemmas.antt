-- What is left after a step of a loop over lists, selectors or steps, and what their parts weigh.
use Rattle.std.proofs.Common.{◌≡◌, ℕ, ◌+◌, ◌<◌, ◌≤◌, suc, List, [], ◌∷◌, ◌++◌, map, length, drop, get_or, sym, ap, ◌∙◌, add-one, append_assoc, drop-cons, Bool, false, Vec, Global, arith}
use Rattle.dom_selectors.specs.declared.syntax.Compound.{Compound}
use Rattle.dom_selectors.specs.declared.syntax.Nested.{Nested, Is, Not, Has}
use Rattle.dom_selectors.specs.declared.syntax.Selector.{Selector, out-Selector}
use Rattle.dom_selectors.specs.declared.syntax.Step.{Step}
use Rattle.dom_selectors.specs.ListsAsTrees.{lists_of, steps_of, selector_list}
use Rattle.dom_selectors.specs.SelectorCss.{comma_css, selector_css, selectors_css}
use Rattle.dom_selectors.specs.ValuesAsTrees.{read_nested, read_compound, read_selector, read_step, read_list}
use Rattle.dom_selectors.proofs.Layers.{read_compound_is, read_step_is, read_selector_is, read_is, read_not, read_has}
use Rattle.dom_selectors.proofs.Weights.{compound_weight, lists_weight, list_weight, selectors_weight, steps_weight}

-- what is left begins with the item here
pub drop_map : {A B : Type 0} → (f : A → B) (xs : List A) (i : ℕ) (x : A) → i < length xs → x ≡ get_or xs i x → map f (drop i xs) ≡ f x ∷ map f (drop (i + 1) xs)
drop_map f xs i x low is = ap (map f) (drop-cons xs i x low) ∙ (ap (λ y. f y ∷ map f (drop (suc i) xs)) (sym is) ∙ ap (λ j. f x ∷ map f (drop j xs)) (sym (add-one i)))

-- What a loop over a list has made so far, and what is left: both together are all of it, and what is left weighs no more
abbrev pub Going : {A B : Type 0} → (List A → List B) → (List A → ℕ) → List A → ℕ → List B → List B → Type 0
Going rest weight xs i made all = record {
  same : made ++ rest (drop i xs) ≡ all;
  light : weight (drop i xs) ≤ weight xs;
}

-- a piece more is made, and an item less is left
pub going_more : {A B : Type 0} → (rest later : List A → List B) (weight : List A → ℕ) (xs : List A) (i : ℕ) (piece made new all : List B) → rest (drop i xs) ≡ piece ++ later (drop (i + 1) xs) →
    weight (drop (i + 1) xs) ≤ weight (drop i xs) → new ≡ made ++ piece → Going rest weight xs i made all → Going later weight xs (i + 1) new all
going_more rest later weight xs i piece made new all cut weighs added so_far = record {
  same =
      ap (λ t. t ++ later (drop (i + 1) xs)) added ∙ (append_assoc made piece (later (drop (i + 1) xs)) ∙ (ap (λ t. made ++ t) (sym cut) ∙ so_far.same));
  light = omega (arith, weighs, so_far.light);
}

module _ {A B : Type 0} (f : A → B) (weigh : List B → ℕ) (grows : (y : B) (ys : List B) → weigh ys ≤ weigh (y ∷ ys)) where
  lighter : (xs : List A) (i : ℕ) (x : A) → i < length xs → x ≡ get_or xs i x → weigh (map f (drop (i + 1) xs)) ≤ weigh (map f (drop i xs))
  lighter xs i x low is = let less = grows (f x) (map f (drop (i + 1) xs)) in omega (arith, ap weigh (drop_map f xs i x low is), less)

  -- a copy more, and an item less to copy
  pub copied_more : (xs made new : List A) (i : ℕ) (x copy : A) → i < length xs → x ≡ get_or xs i x → f copy ≡ f x → map f new ≡ map f made ++ f copy ∷ [] →
      Going (map f) (λ ys. weigh (map f ys)) xs i (map f made) (map f xs) → Going (map f) (λ ys. weigh (map f ys)) xs (i + 1) (map f new) (map f xs)
  copied_more xs made new i x copy low is same pushed so_far =
      going_more (map f) (map f) (λ ys. weigh (map f ys)) xs i (f x ∷ []) (map f made) (map f new) (map f xs) (drop_map f xs i x low is) (lighter xs i x low is) (pushed ∙ ap (λ y. map f made ++ y ∷ []) same) so_far

  -- a piece more is written, and an item less is left to write
  pub written_more : (css : List B → List ℕ) (piece : B → List ℕ) → ((y : B) (ys : List B) → css (y ∷ ys) ≡ piece y ++ css ys) → (xs : List A) (i : ℕ) (x : A) (written new all : List ℕ) → i < length xs → x ≡ get_or xs i x →
      new ≡ written ++ piece (f x) → Going (λ ys. css (map f ys)) (λ ys. weigh (map f ys)) xs i written all → Going (λ ys. css (map f ys)) (λ ys. weigh (map f ys)) xs (i + 1) new all
  written_more css piece cuts xs i x written new all low is added so_far =
      going_more (λ ys. css (map f ys)) (λ ys. css (map f ys)) (λ ys. weigh (map f ys)) xs i (piece (f x)) written new all (ap css (drop_map f xs i x low is) ∙ cuts (f x) (map f (drop (i + 1) xs))) (lighter xs i x low is) added so_far

-- the next selector is written behind its comma
pub selectors_css_left : (is_first is_relative : Bool) (selectors : List Selector) (i : ℕ) (s : Selector) → i < length selectors → s ≡ get_or selectors i s →
    selectors_css is_first is_relative (read_list (drop i selectors)) ≡ comma_css is_first ++ selector_css is_relative (read_selector s) ++ selectors_css false is_relative (read_list (drop (i + 1) selectors))
selectors_css_left is_first is_relative selectors i s low is = ap (λ ss. selectors_css is_first is_relative (selector_list ss)) (drop_map read_selector selectors i s low is)

pub lists_left : (lists : List Nested) (i : ℕ) (list : Nested) → i < length lists → list ≡ get_or lists i list →
    lists_weight (lists_of (map read_nested (drop i lists))) ≡ 1 + list_weight (read_nested list) + lists_weight (lists_of (map read_nested (drop (i + 1) lists)))
lists_left lists i list low is = ap (λ ls. lists_weight (lists_of ls)) (drop_map read_nested lists i list low is)

pub selectors_left : (selectors : List Selector) (i : ℕ) (s : Selector) → i < length selectors → s ≡ get_or selectors i s →
    selectors_weight (read_list (drop i selectors)) ≡ 12 + compound_weight (read_selector s).1 + steps_weight (read_selector s).2 + selectors_weight (read_list (drop (i + 1) selectors))
selectors_left selectors i s low is = ap (λ ss. selectors_weight (selector_list ss)) (drop_map read_selector selectors i s low is)

pub steps_left : (steps : List Step) (i : ℕ) (s : Step) → i < length steps → s ≡ get_or steps i s →
    steps_weight (steps_of (map read_step (drop i steps))) ≡ 2 + compound_weight (read_step s).1 + steps_weight (steps_of (map read_step (drop (i + 1) steps)))
steps_left steps i s low is = ap (λ ss. steps_weight (steps_of ss)) (drop_map read_step steps i s low is)

pub compound_weighs : (c : Compound) → compound_weight (read_compound c) ≡ 1 + lists_weight (lists_of (map read_nested c.nested.items))
compound_weighs c = ap compound_weight (read_compound_is c)

pub is_weighs : (list : Nested) (v : Vec Selector Global) → list ≡ Is v → list_weight (read_nested list) ≡ 1 + selectors_weight (read_list v.items)
is_weighs list v e = ap (λ l. list_weight (read_nested l)) e ∙ ap list_weight (read_is v)

pub not_weighs : (list : Nested) (v : Vec Selector Global) → list ≡ Not v → list_weight (read_nested list) ≡ 1 + selectors_weight (read_list v.items)
not_weighs list v e = ap (λ l. list_weight (read_nested l)) e ∙ ap list_weight (read_not v)

pub has_weighs : (list : Nested) (v : Vec Selector Global) → list ≡ Has v → list_weight (read_nested list) ≡ 1 + selectors_weight (read_list v.items)
has_weighs list v e = ap (λ l. list_weight (read_nested l)) e ∙ ap list_weight (read_has v)

pub first_weighs : (s : Selector) → compound_weight (read_selector s).1 ≡ compound_weight (read_compound (out-Selector s).first)
first_weighs s = ap (λ r. compound_weight r.1) (read_selector_is s)

pub rest_weighs : (s : Selector) → steps_weight (read_selector s).2 ≡ steps_weight (steps_of (map read_step (out-Selector s).rest.items))
rest_weighs s = ap (λ r. steps_weight r.2) (read_selector_is s)

pub step_weighs : (s : Step) → compound_weight (read_step s).1 ≡ compound_weight (read_compound s.compound)
step_weighs s = ap (λ r. compound_weight r.1) (read_step_is s)
