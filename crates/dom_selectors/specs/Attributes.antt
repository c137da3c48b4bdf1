-- Attribute selectors: what is between the brackets.
use Rattle.std.specs.Prelude.{◌≡◌, ℕ, List, [], ◌∷◌, ◌||◌, nat_eq, cond, Option, Some, None, MatchBool}
use Rattle.dom_nodes.specs.Ascii.{asterisk, caret, dollar_sign, equals_sign, lower_i, lower_s, right_bracket, tilde, upper_i, upper_s, vertical_bar}
use Rattle.dom_selectors.specs.declared.syntax.AttrOperator.{AttrOperator}
use Rattle.dom_selectors.specs.declared.syntax.AttrOperator.TheVariants.{Equals, Includes, DashMatch, Prefix, Suffix, Substring}
use Rattle.dom_nodes.specs.declared.case_sensitivity.CaseSensitivity.{CaseSensitivity}
use Rattle.dom_nodes.specs.declared.case_sensitivity.CaseSensitivity.TheVariants.{CaseSensitive, AsciiCaseInsensitive}
use Rattle.dom_selectors.specs.declared.syntax.Comparison.{Comparison}
use Rattle.dom_selectors.specs.declared.syntax.Attribute.{Attribute}
use Rattle.dom_selectors.specs.Characters.{after_white, begins}
use Rattle.dom_selectors.specs.Names.{SpellsName}
use Rattle.dom_selectors.specs.Strings.{SpellsString, is_quote}

-- the operator that a character and `=` denote
abbrev pub operator_of : ℕ → Option AttrOperator
operator_of c = cond (nat_eq c tilde) (Some Includes) (cond (nat_eq c vertical_bar) (Some DashMatch) (cond (nat_eq c caret) (Some Prefix) (cond (nat_eq c dollar_sign) (Some Suffix) (cond (nat_eq c asterisk) (Some Substring) None))))

abbrev pub SpellsOperator : AttrOperator → List ℕ → List ℕ → Type 0
SpellsOperator v [] rest = ⊥
SpellsOperator v (c ∷ more) rest = MatchBool (nat_eq c equals_sign) ((v ≡ Equals) × (rest ≡ more)) ((operator_of c ≡ Some v) × (more ≡ equals_sign ∷ rest))

-- the value: an identifier or a string
abbrev pub SpellsValue : List ℕ → List ℕ → List ℕ → Type 0
SpellsValue v text rest = MatchBool (begins is_quote text) (SpellsString v text rest) (SpellsName v text rest)

-- the flag `i` or `s`, in upper or lower case
abbrev pub flag_of : List ℕ → Option CaseSensitivity
flag_of [] = None
flag_of (c ∷ []) = cond (nat_eq c lower_i || nat_eq c upper_i) (Some AsciiCaseInsensitive) (cond (nat_eq c lower_s || nat_eq c upper_s) (Some CaseSensitive) None)
flag_of (c ∷ d ∷ name) = None

pub record SpellsFlag (v : CaseSensitivity) (text rest : List ℕ) : Type 0 where
  pub name : List ℕ
  pub after : List ℕ
  pub named : SpellsName name text after
  pub flag : flag_of name ≡ Some v
  pub closes : after_white after ≡ right_bracket ∷ rest

-- a flag or none, and the closing bracket
abbrev pub SpellsCase : CaseSensitivity → List ℕ → List ℕ → Type 0
SpellsCase v text rest = MatchBool (begins (λ c. nat_eq c right_bracket) text) ((v ≡ CaseSensitive) × (text ≡ right_bracket ∷ rest)) (SpellsFlag v text rest)

pub record SpellsComparison (v : Comparison) (text rest : List ℕ) : Type 0 where
  pub after_operator : List ℕ
  pub operator : SpellsOperator v.operator text after_operator
  pub after_value : List ℕ
  pub value : SpellsValue v.value (after_white after_operator) after_value
  pub case_sensitivity : SpellsCase v.case_sensitivity (after_white after_value) rest

-- a comparison or none, and the closing bracket
abbrev pub SpellsAsked : Option Comparison → List ℕ → List ℕ → Type 0
SpellsAsked v text rest = MatchBool (begins (λ c. nat_eq c right_bracket) text) ((v ≡ None) × (text ≡ right_bracket ∷ rest)) ((w : Comparison) × SpellsComparison w text rest × (v ≡ Some w))

-- what follows the opening bracket
pub record SpellsAttribute (v : Attribute) (text rest : List ℕ) : Type 0 where
  pub after_name : List ℕ
  pub name : SpellsName v.name (after_white text) after_name
  pub asked : SpellsAsked v.comparison (after_white after_name) rest
