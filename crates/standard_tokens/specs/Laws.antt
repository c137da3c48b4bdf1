-- What the laws say.
use Rattle.std.specs.Prelude.{◌≡◌, ℕ, Bool, List, [], ◌∷◌, ◌++◌, true, false, not, flat_map}
use Rattle.std.specs.List.{list_all}
use Rattle.standard_tokens.specs.Examples.{Example, examples}
use Rattle.standard_tokens.specs.Machine.{Machine, at_state}
use Rattle.standard_tokens.specs.PlainMarkup.{Item, AreAnswered, StartTag, TextElement, RawElement, is_plain_item, tokens, written}
use Rattle.standard_tokens.specs.Reading.{Feedback, IsFeedback, Reads, ReadsPage, is_switching, plain_feedback, reader}
use Rattle.standard_tokens.specs.States.{Data}
use Rattle.standard_tokens.specs.Tokens.{Token, AnEof}

-- ---- plain markup

-- wherever the text is in a page, and whatever follows it: read from the data state it gives these tokens, and leads back to the data state
abbrev pub IsReadAnywhere : Feedback → List Token → List ℕ → List Token → Type 0
IsReadAnywhere f seen text found = (before : Machine) (rest : List ℕ) →
    (behind : Machine) × Reads f (reader (at_state before Data) (text ++ rest) seen) (reader (at_state behind Data) rest (seen ++ found))

abbrev pub PlainMarkupIsRead : Type 0
PlainMarkupIsRead = (f : Feedback) → IsFeedback f → (seen : List Token) (items : List Item) → list_all is_plain_item items ≡ true →
    AreAnswered f seen items → IsReadAnywhere f seen (flat_map written items) (flat_map tokens items)

-- the tokens of a page
abbrev pub page_of : List Item → List Token
page_of items = flat_map tokens items ++ AnEof ∷ []

-- a page of plain items is read as their tokens
abbrev pub PlainPagesAreRead : Type 0
PlainPagesAreRead = (f : Feedback) → IsFeedback f → (items : List Item) → list_all is_plain_item items ≡ true → AreAnswered f [] items →
    ReadsPage f (flat_map written items) (page_of items)

-- and as no others
abbrev pub PlainPagesAreReadOneWay : Type 0
PlainPagesAreReadOneWay = (f : Feedback) → IsFeedback f → (items : List Item) → list_all is_plain_item items ≡ true →
    AreAnswered f [] items →
    (all : List Token) → ReadsPage f (flat_map written items) all → all ≡ page_of items

-- a page has one list of tokens
abbrev pub PagesAreReadOneWay : Type 0
PagesAreReadOneWay = (f : Feedback) (page : List ℕ) (one other : List Token) → ReadsPage f page one → ReadsPage f page other → one ≡ other

-- ---- answers

-- no element's text has a state of its own, whatever tree construction is like
abbrev pub never_switches : Item → Bool
never_switches (StartTag name attrs) = not (is_switching name)
never_switches (TextElement name attrs text) = false
never_switches (RawElement kind name attrs text) = false
never_switches _ = true

-- so any tree construction leaves the tokenizer in the data state
abbrev pub AnyFeedbackStays : Type 0
AnyFeedbackStays = (f : Feedback) → IsFeedback f → (seen : List Token) (items : List Item) → list_all never_switches items ≡ true →
    AreAnswered f seen items

-- ---- examples

abbrev pub IsExampleRead : Example → Type 0
IsExampleRead example = ReadsPage (plain_feedback example.foreign) example.text example.tokens

abbrev pub AreExamplesRead : List Example → Type 0
AreExamplesRead [] = Unit {0}
AreExamplesRead (example ∷ others) = IsExampleRead example × AreExamplesRead others

abbrev pub ExamplesAreRead : Type 0
ExamplesAreRead = AreExamplesRead examples
