-- How a page or a fragment is read, in pieces cut anywhere: the tokenizer and tree construction take turns, and come to where the
-- definitions of the HTML Standard come.
use Rattle.std.specs.Prelude.{◌≡◌, ◌++◌, ◌∷◌, Bool, List, None, Option, Some, [], encode_utf8_all, false, map, true, ℕ}
use Rattle.std.specs.List.{list_all}
use Rattle.standard_tokens.specs.Reading.{Feedback, ReadsText}
use Rattle.standard_tokens.specs.Tokens.{AChar, AnEof, Token}
use Rattle.standard_trees.specs.Building.{Building, start, tree_steps}
use Rattle.standard_agreement.specs.TokensAndTrees.{feedback_of}
use Rattle.page_tokens.specs.PageLaws.{TellsToken}
use Rattle.page_tokens.specs.PlainNames.{has_plain_names}
use Rattle.page_tokens.specs.Reading.{text_of}
use Rattle.page_tokens.specs.Standard.{Told}
use Rattle.page_tokens.specs.StandardPages.{BeginsPage, HasRead}
use Rattle.page_tokens.specs.TextStates.{wants_characters_of}
use Rattle.page_tokens.specs.declared.token.TokenKind.{TokenKind}
use Rattle.page_trees.specs.Constructs.{Constructs, WithinLimits}
use Rattle.page_trees.specs.CoveredTurns.{TakesTokens, covered_turn}
use Rattle.standard_order.specs.Beginnings.{Beginning, first_building, first_state_of}
use Rattle.standard_order.specs.Turns.{tree_steps_while}
use Rattle.page_trees.specs.declared.builder.TreeBuilder.{TreeBuilder}
use Rattle.page_trees.specs.declared.reading.PageReader.{PageReader}

-- the answers of tree construction to the tokens of a page or a fragment
abbrev pub page_feedback : ℕ → Beginning → Feedback
page_feedback depth beginning = feedback_of depth (first_building beginning)

-- what covered turns come to from its beginning
abbrev pub page_steps : ℕ → Beginning → List Token → Option Building
page_steps depth beginning tokens = tree_steps_while covered_turn depth (first_building beginning) tokens

-- By the definitions, these are the tokens of the whole text of a page or a fragment, and this is the state of tree construction behind
-- them.
pub record IsRead (depth : ℕ) (beginning : Beginning) (text : List ℕ) (all : List Token) (end : Building) : Type 0 where
  pub reads : ReadsText (page_feedback depth beginning) (first_state_of beginning) text all
  pub builds : tree_steps depth (first_building beginning) all ≡ Some end

-- Each text has such tokens and such a state.
abbrev pub EveryTextIsRead : Type 0
EveryTextIsRead = (beginning : Beginning) (text : List ℕ) →
    (depth : ℕ) × (all : List Token) × (end : Building) × IsRead depth beginning text all end

-- nothing is read, and the tokenizer and tree construction are where they begin with a page
pub record IsNew (scripting : Bool) (r : PageReader) : Type 0 where
  pub tokens : BeginsPage r.tokens
  pub empty : text_of r.tokens ≡ []
  pub stands : Constructs r.builder (start scripting)

-- tree construction has given its answer to the tokenizer
abbrev pub answered : Building → Building
answered b = record b { tokenizer = None }

-- Where the reader has come after the beginning of a text: tree construction has taken these tokens, and this is its state.
pub record IsBehind (depth : ℕ) (beginning : Beginning) (read : List ℕ) (r : PageReader) : Type 0 where
  pub told : List Token
  pub now : Building
  pub tokens : HasRead (page_feedback depth beginning) (first_state_of beginning) read told r.tokens
  pub flag : (page_feedback depth beginning).in_foreign told ≡ r.tokens.in_foreign
  pub builds : page_steps depth beginning told ≡ Some now
  pub stands : Constructs r.builder (answered now)
  pub switch : r.builder.switch ≡ None

-- whatever follows in the text, if the whole of it is covered
abbrev pub StandsBehind : Beginning → List ℕ → PageReader → Type 0
StandsBehind beginning read r =
    (rest : List ℕ) (depth : ℕ) (all : List Token) (end : Building) → IsRead depth beginning (read ++ rest) all end →
    IsBehind depth beginning read r

-- within the limits, and tree construction doesn't have to be told characters before the tokenizer reads on
abbrev pub HasBuilt : Beginning → List ℕ → PageReader → Type 0
HasBuilt beginning read r = WithinLimits r.builder → (wants_characters_of r.tokens ≡ false) × StandsBehind beginning read r

-- the reader has read on so far
abbrev pub ReadsOn : List ℕ → PageReader → PageReader → Type 0
ReadsOn more old new = (beginning : Beginning) (read : List ℕ) → HasBuilt beginning read old → HasBuilt beginning (read ++ more) new

-- it reads the text up to the rest
pub record ReadsPiece (text rest : List ℕ) (old new : PageReader) : Type 0 where
  pub more : List ℕ
  pub cut : text ≡ encode_utf8_all more ++ rest
  pub reads : ReadsOn more old new

-- within the limits
abbrev pub ReadsSome : List ℕ → List ℕ → PageReader → PageReader → Type 0
ReadsSome text rest old new = WithinLimits new.builder → ReadsPiece text rest old new

-- ---- a token

-- the characters before the next token and the token, if it ended, are processed
abbrev pub TellsAll : Option TokenKind → PageReader → PageReader → Type 0
TellsAll kind old new =
    (cs : List ℕ) → text_of old.tokens ≡ encode_utf8_all cs → (tokens : List Token) → Told kind old.tokens tokens →
    list_all has_plain_names tokens ≡ true → TakesTokens (map AChar cs ++ tokens) old.builder new.builder

-- Where the reader has come when a token has ended that tree construction has not taken yet, nor the characters before it.
pub record HasEnded (depth : ℕ) (beginning : Beginning) (read : List ℕ) (kind : TokenKind) (r : PageReader) : Type 0 where
  pub told : List Token
  pub now : Building
  pub tokens : TellsToken (page_feedback depth beginning) (first_state_of beginning) read told kind r.tokens
  pub builds : page_steps depth beginning told ≡ Some now
  pub stands : Constructs r.builder (answered now)
  pub switch : r.builder.switch ≡ None

abbrev pub HasBuiltUpTo : Option TokenKind → Beginning → List ℕ → PageReader → Type 0
HasBuiltUpTo None beginning read r = WithinLimits r.builder → StandsBehind beginning read r
HasBuiltUpTo (Some kind) beginning read r =
    WithinLimits r.builder → (rest : List ℕ) (depth : ℕ) (all : List Token) (end : Building) →
    IsRead depth beginning (read ++ rest) all end → HasEnded depth beginning read kind r

-- tree construction takes the characters and the token that were read
abbrev pub TellsRead : Option TokenKind → PageReader → PageReader → Type 0
TellsRead kind old new = (beginning : Beginning) (read : List ℕ) → HasBuiltUpTo kind beginning read old → HasBuilt beginning read new

-- ---- the end of the text

-- the last characters and the last token, if there is one, are processed
abbrev pub TellsLast : Option TokenKind → PageReader → PageReader → Type 0
TellsLast kind old new =
    (cs : List ℕ) → text_of old.tokens ≡ encode_utf8_all cs → (tokens : List Token) → Told kind old.tokens tokens →
    TakesTokens (map AChar cs ++ tokens) old.builder new.builder

-- Where a text has ended, tree construction has taken all its tokens but the end of the file.
pub record IsBeforeEnd (depth : ℕ) (beginning : Beginning) (all : List Token) (r : PageReader) : Type 0 where
  pub told : List Token
  pub now : Building
  pub are : all ≡ told ++ AnEof ∷ []
  pub builds : page_steps depth beginning told ≡ Some now
  pub stands : Constructs r.builder (answered now)
  pub switch : r.builder.switch ≡ None

-- the text is read to its end, but for the end of the file
abbrev pub ReadsRest : PageReader → PageReader → Type 0
ReadsRest old new =
    (beginning : Beginning) (read : List ℕ) → HasBuilt beginning read old → WithinLimits new.builder →
    (depth : ℕ) (all : List Token) (end : Building) → IsRead depth beginning read all end →
    IsBeforeEnd depth beginning all new

-- these tokens end with the end of the file, and the new state stands for the one behind them
pub record IsAtEnd (all : List Token) (end : Building) (new : TreeBuilder) : Type 0 where
  pub told : List Token
  pub are : all ≡ told ++ AnEof ∷ []
  pub stands : Constructs new end

-- The text is read to its end: the reader stands for the state to which the definition leads.
abbrev pub ReadsEnd : PageReader → PageReader → Type 0
ReadsEnd old new =
    (beginning : Beginning) (read : List ℕ) → HasBuilt beginning read old → WithinLimits new.builder →
    (depth : ℕ) (all : List Token) (end : Building) → IsRead depth beginning read all end →
    IsAtEnd all end new.builder
