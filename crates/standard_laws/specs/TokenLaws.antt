-- What the laws say.
use Rattle.std.specs.Prelude.{◌≡◌, ℕ, Bool, false, List, [], ◌∷◌, ◌++◌}
use Rattle.std.specs.Str.{chars}
use Rattle.dom_markup.specs.Plain.{IsPlainTrees}
use Rattle.dom_markup.specs.ValueTrees.{ValueTrees}
use Rattle.standard_tokens.specs.Laws.{IsReadAnywhere}
use Rattle.standard_tokens.specs.PlainMarkup.{AreAnswered, Piece}
use Rattle.standard_tokens.specs.Reading.{Feedback, IsFeedback, ReadsPage, switch_behind}
use Rattle.standard_tokens.specs.Tokens.{Token, AnEof}
use Rattle.standard_laws.specs.ReadableTrees.{AreReadable}
use Rattle.standard_laws.specs.TreeItems.{items_of}
use Rattle.standard_laws.specs.TreeTokens.{tokens_in}
use Rattle.dom_markup.specs.WrittenTrees.{ValueChar, text_by}

-- the tokens of a page of these trees
abbrev pub page_in : ValueTrees → List Token
page_in trees = tokens_in trees ++ AnEof ∷ []

-- What is written of plain trees is read, from the data state to the data state, as their tokens, wherever it is in a page and whatever
-- follows it.
abbrev pub TreesAreReadAnywhere : ValueChar → (ℕ → Piece) → Type 0
TreesAreReadAnywhere by piece = (f : Feedback) → IsFeedback f → (top : Bool) (trees : ValueTrees) → IsPlainTrees top trees →
    AreReadable trees → (seen : List Token) →
    AreAnswered f seen (items_of piece trees) → IsReadAnywhere f seen (chars (text_by by false trees)) (tokens_in trees)

-- as a page it is read as their tokens
abbrev pub TreesAreReadAsPages : ValueChar → (ℕ → Piece) → Type 0
TreesAreReadAsPages by piece = (f : Feedback) → IsFeedback f → (top : Bool) (trees : ValueTrees) → IsPlainTrees top trees →
    AreReadable trees →
    AreAnswered f [] (items_of piece trees) → ReadsPage f (chars (text_by by false trees)) (page_in trees)

-- and as no others
abbrev pub TreesAreReadOneWay : ValueChar → (ℕ → Piece) → Type 0
TreesAreReadOneWay by piece = (f : Feedback) → IsFeedback f → (top : Bool) (trees : ValueTrees) → IsPlainTrees top trees →
    AreReadable trees →
    AreAnswered f [] (items_of piece trees) → (found : List Token) → ReadsPage f (chars (text_by by false trees)) found →
    found ≡ page_in trees

-- ---- tree construction that leaves every element in the HTML namespace, with scripting disabled

-- behind a start tag it switches as the name says, and it never does otherwise
abbrev pub FollowsHtml : Feedback → Type 0
FollowsHtml f = (seen : List Token) (token : Token) → f.switch (seen ++ token ∷ []) ≡ switch_behind (token ∷ [])

-- it answers as the trees need it
abbrev pub HtmlAnswers : Type 0
HtmlAnswers = (f : Feedback) → FollowsHtml f → (piece : ℕ → Piece) (trees : ValueTrees) → AreReadable trees → (seen : List Token) →
    IsFeedback f × AreAnswered f seen (items_of piece trees)
