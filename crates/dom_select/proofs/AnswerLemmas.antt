-- A compound holds where its parts do and its lists answered so.
use Rattle.std.proofs.Common.{◌≡◌, ℕ, List, [], ◌∷◌, Bool, true, false, MatchBool, sym, ◌∙◌, subst, map}
use Rattle.std.specs.List.{list_all}
use Rattle.dom_links.specs.Forest.{Forest}
use Rattle.dom_selectors.specs.declared.syntax.Compound.{Compound}
use Rattle.dom_select.specs.Answers.{AreAnswers}
use Rattle.dom_selectors.specs.ListsAsTrees.{lists_of}
use Rattle.dom_select.specs.Meaning.{Holds, ListsHold, PartsHold}
use Rattle.dom_selectors.specs.ValuesAsTrees.{read_compound, read_nested}
use Rattle.dom_selectors.specs.Syntax.{NestedLists, no_lists, nested}
use Rattle.dom_selectors.proofs.Layers.{read_compound_is}

pub lists_answered : (lists : NestedLists) (forest : Forest) (n : ℕ) (answers : List Bool) → AreAnswers lists forest n answers →
    MatchBool (list_all (λ b. b) answers) (ListsHold lists forest n) (ListsHold lists forest n → ⊥)
lists_answered no_lists forest n answers h = subst (λ bs. MatchBool (list_all (λ b. b) bs) (Unit {0}) (Unit {0} → ⊥)) (sym h) tt
lists_answered (nested list more) forest n [] h = absurd h
lists_answered (nested list more) forest n (false ∷ answers) h = λ held. h.0 held.0
lists_answered (nested list more) forest n (true ∷ answers) h = later (list_all (λ b. b) answers) (lists_answered more forest n answers h.1)
  where
    later : (b : Bool) → MatchBool b (ListsHold more forest n) (ListsHold more forest n → ⊥) → MatchBool b (ListsHold (nested list more) forest n) (ListsHold (nested list more) forest n → ⊥)
    later true held = (h.0, held)
    later false not = λ held. not held.1

module _ (c : Compound) (forest : Forest) (n : ℕ) (answers : List Bool) (h : AreAnswers (lists_of (map read_nested c.nested.items)) forest n answers) where
  pub parts_decide : (all parts : Bool) → all ≡ list_all (λ b. b) answers → all ≡ true → MatchBool parts (PartsHold c.parts.items forest n) (PartsHold c.parts.items forest n → ⊥) →
      MatchBool parts (Holds (read_compound c) forest n) (Holds (read_compound c) forest n → ⊥)
  parts_decide all true e t p =
      let lists = lists_answered (lists_of (map read_nested c.nested.items)) forest n answers h in
      subst (λ d. Holds d forest n) (sym (read_compound_is c)) (p, rw (sym e ∙ t) at lists)
  parts_decide all false e t p = λ held. p (subst (λ d. Holds d forest n) (read_compound_is c) held).0

  pub lists_refuse : (all : Bool) → all ≡ list_all (λ b. b) answers → all ≡ false → Holds (read_compound c) forest n → ⊥
  lists_refuse all e f held =
      let lists = lists_answered (lists_of (map read_nested c.nested.items)) forest n answers h in
      let none : ListsHold (lists_of (map read_nested c.nested.items)) forest n → ⊥ = rw (sym e ∙ f) at lists in
      none (subst (λ d. Holds d forest n) (read_compound_is c) held).1
