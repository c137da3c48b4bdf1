use Rattle.std.proofs.Common.{◌≡◌, ◌+◌, ◌*◌, ◌++◌, ◌∷◌, List, ℕ, map, true, length}
use Rattle.dom_selectors.specs.declared.syntax.Combinator.{Combinator}
use Rattle.dom_selectors.specs.Spelling.{Many}
use Rattle.dom_selectors.specs.declared.syntax.Part.{Part}
use Rattle.dom_selectors.specs.ListsAsTrees.{Item, lists_of, parts_among, lists_among}
use Rattle.dom_selectors.specs.Syntax.{CompoundSelector, Steps}
use Rattle.dom_selectors.specs.Grammar.{SpellsItem, SpellsType, SpellsCompound, SpellsStep, SpellsSelector, SpellsLater, SpellsLead, SpellsInner, begins_compound}
use Rattle.dom_selectors.specs.ValuesAsTrees.{read_nested, read_compound, read_selector, read_step}
use Rattle.dom_selectors.proofs.parser.+lists.Given as goal

abbrev pub decreases-take_list : goal.decreases-take_list
decreases-take_list l = 10 * l.context.depth + 9

abbrev pub decreases-take_later : goal.decreases-take_later
decreases-take_later l = 10 * l.context.depth + 8

abbrev pub decreases-take_selector : goal.decreases-take_selector
decreases-take_selector l = 10 * l.context.depth + 7

abbrev pub decreases-take_step : goal.decreases-take_step
decreases-take_step l = 10 * l.context.depth + 6

abbrev pub decreases-take_compound : goal.decreases-take_compound
decreases-take_compound l = 10 * l.context.depth + 5

abbrev pub decreases-take_item : goal.decreases-take_item
decreases-take_item l = 10 * l.context.depth + 4

abbrev pub decreases-take_pseudo : goal.decreases-take_pseudo
decreases-take_pseudo l = 10 * l.context.depth + 3

abbrev pub decreases-take_form : goal.decreases-take_form
decreases-take_form l = 10 * l.context.depth + 2

abbrev pub decreases-take_listed : goal.decreases-take_listed
decreases-take_listed l = 10 * l.context.depth + 1

abbrev pub decreases-take_enclosed : goal.decreases-take_enclosed
decreases-take_enclosed l = 10 * l.context.depth

abbrev pub invariant-take_compound-loop-alloc : goal.invariant-take_compound-loop-alloc
invariant-take_compound-loop-alloc l = (front : List Part) × (after : List ℕ) × (items : List Item) × SpellsType front l.text after ×
    (l.parts.items ≡ front ++ parts_among items) × (lists_of (map read_nested l.nested.items) ≡ lists_among items) ×
    Many (SpellsItem l.context (SpellsInner l.context)) items after l.rest × (begins_compound l.text ≡ true)

abbrev pub decreases-take_compound-loop-alloc : goal.decreases-take_compound-loop-alloc
decreases-take_compound-loop-alloc l = length l.rest

abbrev pub invariant-take_selector-loop-alloc : goal.invariant-take_selector-loop-alloc
invariant-take_selector-loop-alloc l = (begin : List ℕ) × (after : List ℕ) × SpellsLead l.context.is_relative l.lead l.text begin ×
    SpellsCompound l.context (SpellsInner l.context) (read_compound l.first) begin after × Many (SpellsStep l.context (SpellsInner l.context)) (map read_step l.steps.items) after l.rest

abbrev pub decreases-take_selector-loop-alloc : goal.decreases-take_selector-loop-alloc
decreases-take_selector-loop-alloc l = length l.rest

abbrev pub invariant-take_list-loop-alloc : goal.invariant-take_list-loop-alloc
invariant-take_list-loop-alloc l = (one : Combinator × CompoundSelector × Steps) × (after : List ℕ) × (more : List (Combinator × CompoundSelector × Steps)) × SpellsSelector l.context (SpellsInner l.context) one l.text after ×
    (map read_selector l.list.items ≡ one ∷ more) × Many (SpellsLater l.context (SpellsInner l.context)) more after l.rest

abbrev pub decreases-take_list-loop-alloc : goal.decreases-take_list-loop-alloc
decreases-take_list-loop-alloc l = length l.rest
