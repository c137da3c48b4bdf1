-- The form of every rule of the grammar: a relation `Spells value text rest`, which says that the text is a written form of the
-- value, followed by `rest`. A rule that reads as much as possible says so itself, so a text is read in at most one way, whatever
-- follows.
use Rattle.std.specs.Prelude.{◌≡◌, ◌≤◌, ℕ, List, [], ◌∷◌, Bool, false, Option, Result, MatchBool, MatchOption, MatchResult}
use Rattle.std.specs.Borrow.{Bor}
use Rattle.dom_selectors.specs.declared.fault.SelectorFault.{SelectorFault}
use Rattle.dom_selectors.specs.declared.fault.SelectorFault.TheVariants.{Syntax, UnknownPseudoClass, Number, NestedHas, TooDeep, Memory}
use Rattle.dom_selectors.specs.Characters.{how_many_large}

-- several values, one after the other
abbrev pub Many : {A : Type 0} → (A → List ℕ → List ℕ → Type 0) → List A → List ℕ → List ℕ → Type 0
Many Spells [] text rest = rest ≡ text
Many Spells (v ∷ vs) text rest = (mid : List ℕ) × Spells v text mid × Many Spells vs mid rest

-- several values, one after the other, for as long as `goes_on` is true
pub record Run {A : Type 0} (Spells : A → List ℕ → List ℕ → Type 0) (goes_on : List ℕ → Bool) (values : List A) (text rest : List ℕ) : Type 0 where
  pub each : Many Spells values text rest
  pub ends : goes_on rest ≡ false

-- the rule reads nothing at the start of the text
abbrev pub SpellsNone : {A : Type 0} → (A → List ℕ → List ℕ → Type 0) → List ℕ → Type 0
SpellsNone {A} Spells text = (v : A) (rest : List ℕ) → Spells v text rest → ⊥

-- What a fault says about a text: that it is outside the grammar, and what else is known for this fault. Memory can run out for
-- any text.
abbrev pub Refuses : (SelectorFault → Type 0) → SelectorFault → Type 0 → Type 0
Refuses cause Syntax outside = outside
Refuses cause UnknownPseudoClass outside = cause UnknownPseudoClass × outside
Refuses cause Number outside = cause Number × outside
Refuses cause NestedHas outside = cause NestedHas × outside
Refuses cause TooDeep outside = cause TooDeep × outside
Refuses cause Memory outside = Unit {0}

-- without pseudo-classes, the only faults are `Syntax` and `Memory`
abbrev pub no_other : SelectorFault → Type 0
no_other fault = ⊥

-- in An+B there is also `Number`, for a number past the limit
abbrev pub large_stands : List ℕ → SelectorFault → Type 0
large_stands text Number = 1 ≤ how_many_large text
large_stands text _ = ⊥

-- the answer is true exactly if the statement holds
abbrev pub Decides : Bool → Type 0 → Type 0
Decides answer P = MatchBool answer P (P → ⊥)

abbrev pub same : {A : Type 0} → A → A
same v = v

-- The contract of a call that parses: what the text starts with and the rest, or a fault if it starts with nothing of that kind.
abbrev pub Takes : {T A : Type 0} → Result (T × Bor (List ℕ)) SelectorFault → (T → A) → (A → List ℕ → List ℕ → Type 0) → (SelectorFault → Type 0) → List ℕ → Type 0
Takes result read Spells cause text =
    MatchResult result (λ p. Spells (read p.0) text p.1.now) (λ fault. Refuses cause fault (SpellsNone Spells text))

-- the contract of a call that parses and returns an `Option`
abbrev pub TakesSome : {T : Type 0} → Option (T × Bor (List ℕ)) → (T → List ℕ → List ℕ → Type 0) → List ℕ → Type 0
TakesSome result Spells text = MatchOption result (SpellsNone Spells text) (λ p. Spells p.0 text p.1.now)

-- the contract of a call that parses and returns a slice
abbrev pub TakesSlice : Option (Bor (List ℕ) × Bor (List ℕ)) → (List ℕ → List ℕ → List ℕ → Type 0) → List ℕ → Type 0
TakesSlice result Spells text = MatchOption result (SpellsNone Spells text) (λ p. Spells p.0.now text p.1.now)

-- the rest of the text after this character, or `None` if the text does not start with it
abbrev pub Strips : Option (Bor (List ℕ)) → ℕ → List ℕ → Type 0
Strips result c text = MatchOption result ((rest : List ℕ) → text ≡ c ∷ rest → ⊥) (λ rest. text ≡ c ∷ rest.now)

-- The contract of a call that skips a sign: the rest after the sign, as `Follows` says, or a fault if the sign is missing.
abbrev pub Skips : Result (Bor (List ℕ)) SelectorFault → (List ℕ → List ℕ → Type 0) → (SelectorFault → Type 0) → List ℕ → Type 0
Skips result Follows cause text =
    MatchResult result (λ rest. Follows text rest.now) (λ fault. Refuses cause fault ((rest : List ℕ) → Follows text rest → ⊥))
