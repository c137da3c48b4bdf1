-- Selectors that are passed as text.
use Rattle.std.specs.Prelude.{ℕ, List, Bool, MatchBool, chars}
use Rattle.dom_selectors.specs.Grammar.{StandsFor}
use Rattle.dom_selectors.specs.Syntax.{SelectorList}

-- the text is a selector list, for which the statement holds
abbrev pub ByText : List ℕ → (SelectorList → Type 0) → Type 0
ByText text Does = (selector : SelectorList) × StandsFor (chars text) selector × Does selector

-- the statement holds for no selector list that the text is
abbrev pub NotByText : List ℕ → (SelectorList → Type 0) → Type 0
NotByText text Does = (selector : SelectorList) → StandsFor (chars text) selector → Does selector → ⊥

-- the answer says whether the text is a selector list for which the statement holds
abbrev pub DecidesByText : List ℕ → (SelectorList → Type 0) → Bool → Type 0
DecidesByText text Does answer = MatchBool answer (ByText text Does) (NotByText text Does)
