-- The text of a selector.
use Rattle.std.specs.Prelude.{ℕ, List, [], ◌∷◌, ◌++◌, Bool, true, false, nat_eq, cond, chars, codes, decimal, encode_utf8_all, Option, None, Some, if◌then◌else◌}
use Rattle.std.specs.List.{flat_map}
use Rattle.dom_nodes.specs.declared.case_sensitivity.CaseSensitivity.{CaseSensitivity}
use Rattle.dom_nodes.specs.declared.case_sensitivity.CaseSensitivity.TheVariants.{CaseSensitive, AsciiCaseInsensitive}
use Rattle.dom_nodes.specs.declared.indexes.IndexKind.{IndexKind}
use Rattle.dom_nodes.specs.declared.indexes.IndexKind.TheVariants as kinds
use Rattle.dom_nodes.specs.declared.indexes.Nth.{Nth}
use Rattle.dom_nodes.specs.declared.indexes.Signed.{Signed}
use Rattle.dom_selectors.specs.Characters.{is_name_char, is_name_start, replacement_character}
use Rattle.dom_selectors.specs.Css.{css_text, hex_escape}
use Rattle.dom_selectors.specs.Syntax.{CompoundSelector, compound, NestedLists, no_lists, nested, NestedList, is_list, not_list, has_list, SelectorList, no_selectors, alternative, Steps, no_steps, step}
use Rattle.dom_selectors.specs.declared.syntax.AttrOperator.{AttrOperator}
use Rattle.dom_selectors.specs.declared.syntax.AttrOperator.TheVariants.{Equals, Includes, DashMatch, Prefix, Suffix, Substring}
use Rattle.dom_selectors.specs.declared.syntax.Combinator.{Combinator}
use Rattle.dom_selectors.specs.declared.syntax.Combinator.TheVariants.{Descendant, Child, Adjacent, Sibling}
use Rattle.dom_selectors.specs.declared.syntax.Comparison.{Comparison}
use Rattle.dom_selectors.specs.declared.syntax.Part.{Part}
use Rattle.dom_selectors.specs.declared.syntax.Part.TheVariants.{Universal, Id, Class, Attribute, Root, Link, Never, Position, Empty, OnlyText, HasText, Contains}

-- a character that needs no escape in an identifier, at its start or later
abbrev pub is_plain : Bool → ℕ → Bool
is_plain true c = is_name_start c
is_plain false c = is_name_char c

-- one character of an identifier: unchanged if it needs no escape, U+FFFD for U+0000, and otherwise an escaped code point
abbrev pub name_char : Bool → ℕ → List ℕ
name_char is_first c = cond (is_plain is_first c) (c ∷ []) (cond (nat_eq c 0) (replacement_character ∷ []) (hex_escape c))

abbrev pub name_chars : List ℕ → List ℕ
name_chars [] = []
name_chars (c ∷ cs) = name_char true c ++ flat_map (name_char false) cs

-- the identifier for a UTF-8 text, as UTF-8
abbrev pub name_css : List ℕ → List ℕ
name_css text = encode_utf8_all (name_chars (chars text))

abbrev pub operator_css : AttrOperator → List ℕ
operator_css operator = elim operator [ Equals ↦ codes "=" | Includes ↦ codes "~=" | DashMatch ↦ codes "|=" | Prefix ↦ codes "^=" | Suffix ↦ codes "$=" | Substring ↦ codes "*=" ]

abbrev pub case_css : CaseSensitivity → List ℕ
case_css CaseSensitive = codes ""
case_css AsciiCaseInsensitive = codes " i"

-- the operator, the value as a string, and the flag if case is ignored
abbrev pub asked_css : Option Comparison → List ℕ
asked_css None = codes ""
asked_css (Some comparison) = operator_css comparison.operator ++ css_text comparison.value ++ case_css comparison.case_sensitivity

-- a number with its sign; `sign` is written for a number that is not negative
abbrev pub signed_css : List ℕ → Signed → List ℕ
signed_css sign number = (if number.is_negative then codes "-" else sign) ++ decimal number.magnitude

abbrev pub nth_css : Nth → List ℕ
nth_css nth = signed_css (codes "") nth.a ++ codes "n" ++ signed_css (codes "+") nth.b

abbrev pub kind_css : IndexKind → List ℕ
kind_css kinds.Child = codes ":nth-child("
kind_css kinds.LastChild = codes ":nth-last-child("
kind_css kinds.OfType = codes ":nth-of-type("
kind_css kinds.LastOfType = codes ":nth-last-of-type("

-- a function: its name with the parenthesis, its argument, and `)`
abbrev pub function_css : List ℕ → List ℕ → List ℕ
function_css name inside = name ++ inside ++ codes ")"

abbrev pub part_css : Part → List ℕ
part_css Universal = codes "*"
part_css (Part.«Type» name) = name_css name
part_css (Id value) = codes "#" ++ name_css value
part_css (Class word) = codes "." ++ name_css word
part_css (Attribute asked) = codes "[" ++ name_css asked.name ++ asked_css asked.comparison ++ codes "]"
part_css Root = codes ":root"
part_css Link = codes ":link"
part_css Never = codes ":hover"
part_css Empty = codes ":empty"
part_css OnlyText = codes ":only-text"
part_css (HasText text) = function_css (codes ":has-text(") (css_text text)
part_css (Contains text) = function_css (codes ":contains(") (css_text text)
part_css (Position position) = function_css (kind_css position.kind) (nth_css position.nth)

abbrev pub combinator_css : Combinator → List ℕ
combinator_css Descendant = codes " "
combinator_css Child = codes " > "
combinator_css Adjacent = codes " + "
combinator_css Sibling = codes " ~ "

-- the combinator at the start of a relative selector; in any other selector it is not written
abbrev pub lead_css : Bool → Combinator → List ℕ
lead_css false lead = codes ""
lead_css true Descendant = codes ""
lead_css true Child = codes "> "
lead_css true Adjacent = codes "+ "
lead_css true Sibling = codes "~ "

abbrev pub comma_css : Bool → List ℕ
comma_css true = codes ""
comma_css false = codes ", "

abbrev mutual
  pub compound_css : CompoundSelector → List ℕ
  compound_css (compound parts lists) = flat_map part_css parts ++ lists_css lists

  pub lists_css : NestedLists → List ℕ
  lists_css no_lists = []
  lists_css (nested list more) = list_css list ++ lists_css more

  pub list_css : NestedList → List ℕ
  list_css (is_list list) = function_css (codes ":is(") (selectors_css true false list)
  list_css (not_list list) = function_css (codes ":not(") (selectors_css true false list)
  list_css (has_list list) = function_css (codes ":has(") (selectors_css true true list)

  -- the selectors with commas between them; `is_first` says that no comma comes before the first
  pub selectors_css : Bool → Bool → SelectorList → List ℕ
  selectors_css is_first is_relative no_selectors = []
  selectors_css is_first is_relative (alternative lead first rest more) =
      comma_css is_first ++ (lead_css is_relative lead ++ compound_css first ++ steps_css rest) ++ selectors_css false is_relative more

  pub steps_css : Steps → List ℕ
  steps_css no_steps = []
  steps_css (step k c more) = (combinator_css k ++ compound_css c) ++ steps_css more

-- a combinator and its compound selector
abbrev pub step_css : Combinator × CompoundSelector → List ℕ
step_css s = combinator_css s.0 ++ compound_css s.1

-- a complex selector, relative or not
abbrev pub selector_css : Bool → Combinator × CompoundSelector × Steps → List ℕ
selector_css is_relative s = lead_css is_relative s.0 ++ compound_css s.1 ++ steps_css s.2
