-- The pseudo-classes by name, and the simple selectors that they are.
use Rattle.std.specs.Prelude.{ℕ, List, cond, ◌||◌, Bool, true, false, Option, Some, None, codes}
use Rattle.std.specs.Str.{str_eq_ignore_ascii_case}
use Rattle.dom_nodes.specs.declared.indexes.IndexKind.{IndexKind}
use Rattle.dom_nodes.specs.declared.indexes.IndexKind.TheVariants.{Child, LastChild, OfType, LastOfType}
use Rattle.dom_selectors.specs.declared.syntax.Bare.{Bare}
use Rattle.dom_selectors.specs.declared.syntax.Part as parts
use Rattle.dom_selectors.specs.declared.syntax.Pseudo.{Pseudo}
use Rattle.dom_selectors.specs.declared.syntax.Quantifier.{Quantifier}
use Rattle.dom_selectors.specs.declared.syntax.Quantifier.TheVariants.{SomeOf, NoneOf, RelativeOf}
use Rattle.dom_selectors.specs.declared.syntax.TextTest.{TextTest}
use Rattle.dom_selectors.specs.ListsAsTrees.{Item, simple, two_parts}
use Rattle.dom_selectors.specs.Nth.{signed}
use Rattle.dom_selectors.specs.Syntax.{NestedList, SelectorList, is_list, not_list, has_list}

-- the name is this word, in upper or lower case
abbrev pub is_word : List ℕ → List ℕ → Bool
is_word name word = str_eq_ignore_ascii_case name word

abbrev pub is_state : List ℕ → Bool
is_state name = is_word name (codes "visited") || is_word name (codes "active") || is_word name (codes "focus") || is_word name (codes "hover")
    || is_word name (codes "enabled") || is_word name (codes "disabled") || is_word name (codes "checked") || is_word name (codes "indeterminate")

-- the pseudo-classes about the position among siblings
abbrev pub place_of : List ℕ → Option Bare
place_of name =
    cond (is_word name (codes "first-child")) (Some (Bare.First Child))
    (cond (is_word name (codes "last-child")) (Some (Bare.First LastChild))
    (cond (is_word name (codes "only-child")) (Some (Bare.Only Child LastChild))
    (cond (is_word name (codes "first-of-type")) (Some (Bare.First OfType))
    (cond (is_word name (codes "last-of-type")) (Some (Bare.First LastOfType))
    (cond (is_word name (codes "only-of-type")) (Some (Bare.Only OfType LastOfType)) None)))))

-- the pseudo-classes without parentheses
abbrev pub bare_of : List ℕ → Option Bare
bare_of name =
    cond (is_word name (codes "root") || is_word name (codes "scope")) (Some Bare.Root)
    (cond (is_word name (codes "link") || is_word name (codes "any-link")) (Some Bare.Link)
    (cond (is_word name (codes "empty")) (Some Bare.Empty)
    (cond (is_word name (codes "only-text")) (Some Bare.OnlyText)
    (cond (is_state name) (Some Bare.Never) (place_of name)))))

-- the pseudo-classes with a selector list
abbrev pub quantifier_of : List ℕ → Option Quantifier
quantifier_of name =
    cond (is_word name (codes "is") || is_word name (codes "where")) (Some SomeOf)
    (cond (is_word name (codes "not")) (Some NoneOf) (cond (is_word name (codes "has")) (Some RelativeOf) None))

-- the pseudo-classes with An+B
abbrev pub index_kind_of : List ℕ → Option IndexKind
index_kind_of name =
    cond (is_word name (codes "nth-child")) (Some Child)
    (cond (is_word name (codes "nth-last-child")) (Some LastChild)
    (cond (is_word name (codes "nth-of-type")) (Some OfType)
    (cond (is_word name (codes "nth-last-of-type")) (Some LastOfType) None)))

-- the pseudo-classes with a string
abbrev pub text_test_of : List ℕ → Option TextTest
text_test_of name = cond (is_word name (codes "has-text")) (Some TextTest.InOne) (cond (is_word name (codes "contains")) (Some TextTest.InAll) None)

abbrev pub the_found : Option Bare → Option Quantifier → Option IndexKind → Option TextTest → Option Pseudo
the_found (Some bare) _ _ _ = Some (Pseudo.Plain bare)
the_found None (Some quantifier) _ _ = Some (Pseudo.Listed quantifier)
the_found None None (Some kind) _ = Some (Pseudo.Nth kind)
the_found None None None (Some test) = Some (Pseudo.Text test)
the_found None None None None = None

-- the pseudo-class with this name
abbrev pub pseudo_of : List ℕ → Option Pseudo
pseudo_of name = the_found (bare_of name) (quantifier_of name) (index_kind_of name) (text_test_of name)

-- the simple selector for index 1
abbrev pub first_of : IndexKind → parts.Part
first_of kind = parts.Part.Position (record { kind = kind; nth = record { a = signed false 0; b = signed false 1 } })

-- what a pseudo-class without parentheses means
abbrev pub bare_item : Bare → Item
bare_item Bare.Root = simple parts.Part.Root
bare_item Bare.Link = simple parts.Part.Link
bare_item Bare.Never = simple parts.Part.Never
bare_item Bare.Empty = simple parts.Part.Empty
bare_item Bare.OnlyText = simple parts.Part.OnlyText
bare_item (Bare.First kind) = simple (first_of kind)
bare_item (Bare.Only kind other) = two_parts (first_of kind) (first_of other)

-- whether the selectors in the list are relative, that is, may start with a combinator
abbrev pub is_relative : Quantifier → Bool
is_relative SomeOf = false
is_relative NoneOf = false
is_relative RelativeOf = true

abbrev pub quantified : Quantifier → SelectorList → NestedList
quantified SomeOf list = is_list list
quantified NoneOf list = not_list list
quantified RelativeOf list = has_list list

abbrev pub text_part : TextTest → List ℕ → parts.Part
text_part TextTest.InOne text = parts.Part.HasText text
text_part TextTest.InAll text = parts.Part.Contains text
