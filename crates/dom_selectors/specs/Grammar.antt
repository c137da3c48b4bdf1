-- The grammar of selectors: as which selector list a text is read. Texts are lists of characters. The context says where in a
-- selector the text is. `Inner` is the grammar of the lists between parentheses, of `:has` or of another pseudo-class. It is the
-- same grammar with one level of parentheses less: each rule is stated once for any inner grammar, and the limit of 64 levels
-- makes this well founded.
use Rattle.std.specs.Prelude.{◌≡◌, ◌<◌, ◌≤◌, ◌+◌, ◌-◌, ℕ, zero, suc, List, [], ◌∷◌, ◌++◌, Bool, true, false, ◌&&◌, ◌||◌, nat_eq, cond, drop, Option, Some, None, MatchBool, MatchOption, MatchResult, Result}
use Rattle.std.specs.Borrow.{Bor}
use Rattle.std.specs.Global.{Vec}
use Rattle.std.specs.Char.{is_ascii_whitespace}
use Rattle.std.specs.List.{list_all}
use Rattle.dom_nodes.specs.Ascii.{asterisk, colon, comma, dot, greater_than, left_bracket, left_parenthesis, number_sign, plus_sign, right_parenthesis, tilde}
use Rattle.dom_nodes.specs.declared.indexes.Nth as indexes
use Rattle.dom_selectors.specs.declared.fault.SelectorFault.{SelectorFault}
use Rattle.dom_selectors.specs.declared.fault.SelectorFault.TheVariants.{Syntax, UnknownPseudoClass, Number, NestedHas, TooDeep, Memory}
use Rattle.dom_selectors.specs.declared.syntax.Bare.{Bare}
use Rattle.dom_selectors.specs.declared.syntax.Quantifier.{Quantifier}
use Rattle.dom_selectors.specs.declared.syntax.ParseContext.{ParseContext}
use Rattle.dom_selectors.specs.declared.syntax.Attribute as attributes
use Rattle.dom_selectors.specs.declared.syntax.Combinator.{Combinator}
use Rattle.dom_selectors.specs.declared.syntax.Combinator.TheVariants.{Descendant, Child, Adjacent, Sibling}
use Rattle.dom_selectors.specs.declared.syntax.Part.{Part}
use Rattle.dom_selectors.specs.declared.syntax.Part.TheVariants.{Universal, Id, Class, Attribute, Position}
use Rattle.dom_selectors.specs.declared.syntax.Pseudo.{Pseudo}
use Rattle.dom_selectors.specs.Pseudos.{bare_item, is_relative, pseudo_of, quantified, text_part}
use Rattle.dom_selectors.specs.Spelling.{Run, Refuses, Takes}
use Rattle.dom_selectors.specs.Characters.{after_white, begins, how_many, how_many_large}
use Rattle.dom_selectors.specs.Names.{SpellsName, starts_name}
use Rattle.dom_selectors.specs.Attributes.{SpellsAttribute}
use Rattle.dom_selectors.specs.Nth.{SpellsNth}
use Rattle.dom_selectors.specs.Strings.{SpellsString}
use Rattle.dom_selectors.specs.Syntax.{CompoundSelector, compound, SelectorList, Steps}
use Rattle.dom_selectors.specs.ValuesAsTrees.{read_selectors}
use Rattle.dom_selectors.specs.declared.syntax.Selector.{Selector}
use Rattle.dom_selectors.specs.ListsAsTrees.{Item, simple, listed, parts_among, lists_among, steps_of, selector_list}

abbrev pub is_star : ℕ → Bool
is_star c = nat_eq c asterisk

-- the type selector of a compound selector: `*`, a name, or none
abbrev pub SpellsType : List Part → List ℕ → List ℕ → Type 0
SpellsType v text rest = MatchBool (begins is_star text) ((v ≡ Universal ∷ []) × (rest ≡ drop 1 text))
    (MatchBool (starts_name text) ((name : List ℕ) × SpellsName name text rest × (v ≡ Part.«Type» name ∷ [])) ((v ≡ []) × (rest ≡ text)))

abbrev pub begins_item : List ℕ → Bool
begins_item text = begins (λ c. nat_eq c number_sign || nat_eq c dot || nat_eq c left_bracket || nat_eq c colon) text

abbrev pub begins_compound : List ℕ → Bool
begins_compound text = begins is_star text || starts_name text || begins_item text

abbrev pub combinator_of : ℕ → Option Combinator
combinator_of c = cond (nat_eq c greater_than) (Some Child) (cond (nat_eq c plus_sign) (Some Adjacent) (cond (nat_eq c tilde) (Some Sibling) None))

abbrev pub is_combinator : ℕ → Bool
is_combinator c = nat_eq c greater_than || nat_eq c plus_sign || nat_eq c tilde

-- a combinator with a sign, or the whitespace before a compound selector
abbrev pub SpellsCombinator : Combinator → List ℕ → List ℕ → Type 0
SpellsCombinator v [] rest = ⊥
SpellsCombinator v (c ∷ more) rest = MatchBool (is_combinator c) ((combinator_of c ≡ Some v) × (rest ≡ after_white more)) ((v ≡ Descendant) × (rest ≡ c ∷ more))

-- whether a combinator and a compound selector follow
abbrev pub begins_step : List ℕ → Bool
begins_step text = begins is_combinator (after_white text) || (begins is_ascii_whitespace text && begins_compound (after_white text))

abbrev pub begins_comma : List ℕ → Bool
begins_comma text = begins (λ c. nat_eq c comma) (after_white text)

abbrev pub begins_open : List ℕ → Bool
begins_open text = begins (λ c. nat_eq c left_parenthesis) text

-- a pseudo-class without parentheses
abbrev pub SpellsPlain : Bare → Item → List ℕ → List ℕ → Type 0
SpellsPlain bare v text rest = (begins_open text ≡ false) × (v ≡ bare_item bare) × (rest ≡ text)

-- an opening parenthesis at a level that is allowed, and whitespace
pub record Opens (depth : ℕ) (text rest : List ℕ) : Type 0 where
  pub deep : 0 < depth
  pub inside : List ℕ
  pub opens : text ≡ left_parenthesis ∷ inside
  pub skipped : rest ≡ after_white inside

-- whitespace and a closing parenthesis
abbrev pub Closes : List ℕ → List ℕ → Type 0
Closes text rest = after_white text ≡ right_parenthesis ∷ rest

-- something in parentheses, with optional whitespace around it
pub record SpellsEnclosed (depth : ℕ) {A : Type 0} (Spells : A → List ℕ → List ℕ → Type 0) (v : A) (text rest : List ℕ) : Type 0 where
  pub inside : List ℕ
  pub opens : Opens depth text inside
  pub after : List ℕ
  pub value : Spells v inside after
  pub closes : Closes after rest

-- In a relative selector: a combinator with a sign and whitespace, or nothing. In any other selector: nothing.
abbrev pub SpellsLead : Bool → Combinator → List ℕ → List ℕ → Type 0
SpellsLead false v text rest = (v ≡ Descendant) × (rest ≡ text)
SpellsLead true v [] rest = (v ≡ Descendant) × (rest ≡ [])
SpellsLead true v (c ∷ more) rest = MatchOption (combinator_of c) ((v ≡ Descendant) × (rest ≡ c ∷ more)) (λ k. (v ≡ k) × (rest ≡ after_white more))

module _ (context : ParseContext) (Inner : Bool → SelectorList → List ℕ → List ℕ → Type 0) where
  -- a selector list in parentheses; `relative` says that it is the list of `:has`
  abbrev pub SpellsInside : Bool → SelectorList → List ℕ → List ℕ → Type 0
  SpellsInside relative = SpellsEnclosed context.depth (Inner relative)

  -- the list of a pseudo-class; `:has` may not be inside `:has`
  abbrev pub SpellsListed : Quantifier → Item → List ℕ → List ℕ → Type 0
  SpellsListed quantifier v text rest =
      (is_relative quantifier && context.in_has ≡ false) × (list : SelectorList) × SpellsInside (is_relative quantifier) list text rest × (v ≡ listed (quantified quantifier list))

  -- what follows the name of a pseudo-class
  abbrev pub SpellsForm : Pseudo → Item → List ℕ → List ℕ → Type 0
  SpellsForm (Pseudo.Plain bare) v text rest = SpellsPlain bare v text rest
  SpellsForm (Pseudo.Listed quantifier) v text rest = SpellsListed quantifier v text rest
  SpellsForm (Pseudo.Nth kind) v text rest =
      (nth : indexes.Nth) × SpellsEnclosed context.depth SpellsNth nth text rest × (v ≡ simple (Position (record { kind = kind; nth = nth })))
  SpellsForm (Pseudo.Text test) v text rest =
      (string : List ℕ) × SpellsEnclosed context.depth SpellsString string text rest × (v ≡ simple (text_part test string))

  -- a pseudo-class: its name, and what follows it
  pub record SpellsPseudo (v : Item) (text rest : List ℕ) : Type 0 where
    pub name : List ℕ
    pub after : List ℕ
    pub named : SpellsName name text after
    pub pseudo : Pseudo
    pub known : pseudo_of name ≡ Some pseudo
    pub form : SpellsForm pseudo v after rest

  abbrev pub SpellsItem : Item → List ℕ → List ℕ → Type 0
  SpellsItem v [] rest = ⊥
  SpellsItem v (c ∷ more) rest =
      MatchBool (nat_eq c number_sign) ((name : List ℕ) × SpellsName name more rest × (v ≡ simple (Id name)))
      (MatchBool (nat_eq c dot) ((name : List ℕ) × SpellsName name more rest × (v ≡ simple (Class name)))
      (MatchBool (nat_eq c left_bracket) ((part : attributes.Attribute) × SpellsAttribute part more rest × (v ≡ simple (Attribute part)))
      ((c ≡ 58) × SpellsPseudo v more rest)))

  -- a compound selector: a type selector or none, then other simple selectors, and not nothing
  pub record SpellsCompound (v : CompoundSelector) (text rest : List ℕ) : Type 0 where
    pub some : begins_compound text ≡ true
    pub front : List Part
    pub after : List ℕ
    pub first : SpellsType front text after
    pub items : List Item
    pub run : Run SpellsItem begins_item items after rest
    pub is : v ≡ compound (front ++ parts_among items) (lists_among items)

  pub record SpellsStep (v : Combinator × CompoundSelector) (text rest : List ℕ) : Type 0 where
    pub on : begins_step text ≡ true
    pub mid : List ℕ
    pub combinator : SpellsCombinator v.0 (after_white text) mid
    pub compound : SpellsCompound v.1 mid rest

  -- a complex selector: compound selectors with combinators between them
  pub record SpellsSelector (v : Combinator × CompoundSelector × Steps) (text rest : List ℕ) : Type 0 where
    pub begin : List ℕ
    pub lead : SpellsLead context.is_relative v.0 text begin
    pub after : List ℕ
    pub first : SpellsCompound v.1 begin after
    pub steps : List (Combinator × CompoundSelector)
    pub run : Run SpellsStep begins_step steps after rest
    pub is : v.2 ≡ steps_of steps

  -- a comma, with optional whitespace around it, and a selector
  pub record SpellsLater (v : Combinator × CompoundSelector × Steps) (text rest : List ℕ) : Type 0 where
    pub comma : begins_comma text ≡ true
    pub selector : SpellsSelector v (after_white (drop 1 (after_white text))) rest

  -- a selector list: a selector, and others after commas
  pub record SpellsList (v : SelectorList) (text rest : List ℕ) : Type 0 where
    pub one : Combinator × CompoundSelector × Steps
    pub after : List ℕ
    pub first : SpellsSelector one text after
    pub more : List (Combinator × CompoundSelector × Steps)
    pub run : Run SpellsLater begins_comma more after rest
    pub is : v ≡ selector_list (one ∷ more)

-- the context inside parentheses that open here
abbrev pub inner_context : ParseContext → Bool → ParseContext
inner_context context relative = record { depth = context.depth - 1; in_has = context.in_has || relative; is_relative = relative }

-- The selector lists in parentheses, where `depth` levels may still open. `in_has` says that `:has` is around them, and
-- `relative` that they are the list of `:has`.
unfoldable pub SpellsWithin : ℕ → Bool → Bool → SelectorList → List ℕ → List ℕ → Type 0
SpellsWithin zero in_has relative v text rest = ⊥
SpellsWithin (suc depth) in_has relative v text rest =
    SpellsList (record { depth = depth; in_has = in_has || relative; is_relative = relative }) (SpellsWithin depth (in_has || relative)) v text rest

abbrev pub SpellsInner : ParseContext → Bool → SelectorList → List ℕ → List ℕ → Type 0
SpellsInner context = SpellsWithin context.depth context.in_has

-- the context of a whole selector, in which 64 levels of parentheses may open
abbrev pub whole : ParseContext
whole = record { depth = 64; in_has = false; is_relative = false }

-- The text is a selector list, with optional whitespace around it, and contains no U+0000.
pub record StandsFor (text : List ℕ) (list : SelectorList) : Type 0 where
  pub after : List ℕ
  pub spelled : SpellsList whole (SpellsInner whole) list (after_white text) after
  pub ends : after_white after ≡ []
  pub no_zero : list_all (λ c. cond (nat_eq c 0) false true) text ≡ true

-- What the text contains if this fault is returned: for an unknown pseudo-class a colon; for a number, one past the limit; for a
-- nested `:has` the colon of each; for too many levels, that many parentheses.
abbrev pub stands_for : ParseContext → List ℕ → SelectorFault → Type 0
stands_for context text UnknownPseudoClass = 1 ≤ how_many colon text
stands_for context text Number = 1 ≤ how_many_large text
stands_for context text NestedHas = cond context.in_has 1 2 ≤ how_many colon text
stands_for context text TooDeep = context.depth + 1 ≤ how_many left_parenthesis text
stands_for context text Syntax = Unit {0}
stands_for context text Memory = Unit {0}

-- what such a text contains at least after the colon of the pseudo-class that is being read
abbrev pub stands_behind : ParseContext → List ℕ → SelectorFault → Type 0
stands_behind context text UnknownPseudoClass = Unit {0}
stands_behind context text Number = 1 ≤ how_many_large text
stands_behind context text NestedHas = cond context.in_has 0 1 ≤ how_many colon text
stands_behind context text TooDeep = context.depth + 1 ≤ how_many left_parenthesis text
stands_behind context text Syntax = Unit {0}
stands_behind context text Memory = Unit {0}

-- a rule of the grammar in a context, with the lists that may be in parentheses there
abbrev pub within : {S : Type 1} → (context : ParseContext) → (ParseContext → (Bool → SelectorList → List ℕ → List ℕ → Type 0) → S) → S
within context spells = spells context (SpellsInner context)

-- The contract of a call that parses something in a context, or something after the colon of a pseudo-class.
abbrev pub TakesIn : {T A : Type 0} → ParseContext → Result (T × Bor (List ℕ)) SelectorFault → (T → A) → (A → List ℕ → List ℕ → Type 0) → List ℕ → Type 0
TakesIn context result read Spells text = Takes result read Spells (stands_for context text) text

abbrev pub TakesBehind : {T A : Type 0} → ParseContext → Result (T × Bor (List ℕ)) SelectorFault → (T → A) → (A → List ℕ → List ℕ → Type 0) → List ℕ → Type 0
TakesBehind context result read Spells text = Takes result read Spells (stands_behind context text) text

-- the text is not a selector list
abbrev pub StandsForNothing : List ℕ → Type 0
StandsForNothing text = (selector : SelectorList) → StandsFor text selector → ⊥

-- the selector list that the text is, or `None` if it is none
abbrev pub IsSelectorOf : List ℕ → Option SelectorList → Type 0
IsSelectorOf text found = MatchOption found (StandsForNothing text) (StandsFor text)

-- What a fault says about the text: that it is no selector list. `UnknownPseudoClass` also says that it contains a colon,
-- `Number` a number past 2147483647, `NestedHas` two colons, and `TooDeep` 65 opening parentheses.
abbrev pub Refused : List ℕ → SelectorFault → Type 0
Refused text fault = Refuses (stands_for whole text) fault ((list : SelectorList) → StandsFor text list → ⊥)

-- The contract of a call that parses a whole text: the selector list that the text is, or why it is none.
abbrev pub Parses : Result (Vec Selector) SelectorFault → List ℕ → Type 0
Parses result text = MatchResult result (λ list. StandsFor text (read_selectors list)) (λ fault. Refused text fault)
