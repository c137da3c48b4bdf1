-- What a value of the program reads as, by its parts.
use Rattle.std.proofs.Common.{◌≡◌, map, sym, ap, ◌∙◌, Vec, Global}
use Rattle.dom_selectors.specs.declared.syntax.Compound.{Compound, fold_out-Compound}
use Rattle.dom_selectors.specs.declared.syntax.Nested.{Nested, Is, Not, Has}
use Rattle.dom_selectors.specs.declared.syntax.Nested.TheOpen.{Nested-F}
use Rattle.dom_selectors.specs.declared.syntax.Nested.TheVariants.{rolls-Is, rolls-Not, rolls-Has}
use Rattle.dom_selectors.specs.declared.syntax.Nested.TheFolds.{fold-roll-Nested}
use Rattle.dom_selectors.specs.declared.syntax.Selector.{Selector, out-Selector, fold_out-Selector}
use Rattle.dom_selectors.specs.declared.syntax.Step.{Step, fold_out-Step}
use Rattle.dom_selectors.specs.Syntax.{compound, is_list, not_list, has_list}
use Rattle.dom_selectors.specs.ListsAsTrees.{lists_of, steps_of, selector_list}
use Rattle.dom_selectors.specs.ValuesAsTrees.{read_nested, read_compound, read_selector, read_step, nested_layer, compound_layer, selector_layer, step_layer}

pub read_compound_is : (c : Compound) → read_compound c ≡ compound c.parts.items (lists_of (map read_nested c.nested.items))
read_compound_is = fold_out-Compound _ _ _ _ nested_layer compound_layer selector_layer step_layer

pub read_step_is : (s : Step) → read_step s ≡ (s.combinator, read_compound s.compound)
read_step_is = fold_out-Step _ _ _ _ nested_layer compound_layer selector_layer step_layer

pub read_selector_is : (s : Selector) → read_selector s ≡ ((out-Selector s).lead, read_compound (out-Selector s).first, steps_of (map read_step (out-Selector s).rest.items))
read_selector_is = fold_out-Selector _ _ _ _ nested_layer compound_layer selector_layer step_layer

pub read_is : (v : Vec Selector Global) → read_nested (Is v) ≡ is_list (selector_list (map read_selector v.items))
read_is v = ap read_nested (sym (rolls-Is v)) ∙ fold-roll-Nested _ _ _ _ nested_layer compound_layer selector_layer step_layer (Nested-F.Is v)

pub read_not : (v : Vec Selector Global) → read_nested (Not v) ≡ not_list (selector_list (map read_selector v.items))
read_not v = ap read_nested (sym (rolls-Not v)) ∙ fold-roll-Nested _ _ _ _ nested_layer compound_layer selector_layer step_layer (Nested-F.Not v)

pub read_has : (v : Vec Selector Global) → read_nested (Has v) ≡ has_list (selector_list (map read_selector v.items))
read_has v = ap read_nested (sym (rolls-Has v)) ∙ fold-roll-Nested _ _ _ _ nested_layer compound_layer selector_layer step_layer (Nested-F.Has v)

-- what has the same parts reads as the same
pub same_compound : (a b : Compound) → a.parts.items ≡ b.parts.items → map read_nested a.nested.items ≡ map read_nested b.nested.items → read_compound a ≡ read_compound b
same_compound a b parts lists = read_compound_is a ∙ (ap (λ ps. compound ps (lists_of (map read_nested a.nested.items))) parts ∙ (ap (λ ls. compound b.parts.items (lists_of ls)) lists ∙ sym (read_compound_is b)))

pub same_step : (a b : Step) → a.combinator ≡ b.combinator → read_compound a.compound ≡ read_compound b.compound → read_step a ≡ read_step b
same_step a b k c = read_step_is a ∙ (ap (λ x. (x, read_compound a.compound)) k ∙ (ap (λ x. (b.combinator, x)) c ∙ sym (read_step_is b)))

pub same_is : (v w : Vec Selector Global) (list : Nested) → list ≡ Is w → map read_selector v.items ≡ map read_selector w.items → read_nested (Is v) ≡ read_nested list
same_is v w list e same = read_is v ∙ (ap (λ ss. is_list (selector_list ss)) same ∙ (sym (read_is w) ∙ sym (ap read_nested e)))

pub same_not : (v w : Vec Selector Global) (list : Nested) → list ≡ Not w → map read_selector v.items ≡ map read_selector w.items → read_nested (Not v) ≡ read_nested list
same_not v w list e same = read_not v ∙ (ap (λ ss. not_list (selector_list ss)) same ∙ (sym (read_not w) ∙ sym (ap read_nested e)))

pub same_has : (v w : Vec Selector Global) (list : Nested) → list ≡ Has w → map read_selector v.items ≡ map read_selector w.items → read_nested (Has v) ≡ read_nested list
same_has v w list e same = read_has v ∙ (ap (λ ss. has_list (selector_list ss)) same ∙ (sym (read_has w) ∙ sym (ap read_nested e)))
