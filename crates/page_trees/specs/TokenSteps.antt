-- What a function does that processes a token which is no tag: actions of the rules for that token, the rules for a mode, or a whole step
-- of tree construction (13.2.6).
use Rattle.std.specs.Prelude.{◌≡◌, ◌∷◌, Bool, List, None, Some, [], false, true, ℕ}
use Rattle.standard_tokens.specs.Tokens.{AComment, Token}
use Rattle.standard_trees.specs.Building.{Building, tree_step}
use Rattle.standard_trees.specs.RuleWords.{Action, AfterBody, Dispatcher, InsertCommentInHtml, Mode as StandardMode}
use Rattle.page_trees.specs.Constructs.{Constructs, Outcome, WithinLimits, all_performed, is_entered_plainly, returns_later}
use Rattle.page_trees.specs.LateMerges.{HasHtml}
use Rattle.page_trees.specs.declared.builder.Mode.{Mode}
use Rattle.page_trees.specs.declared.builder.Next.{Next}
use Rattle.page_trees.specs.declared.builder.TreeBuilder.{TreeBuilder}
use Rattle.page_trees.specs.declared.modes.other_tokens.AtEnd.{AtEnd}
use Rattle.page_trees.specs.declared.modes.other_tokens.CommentPlace.{CommentPlace}

-- within the limits, these actions on that token lead from the old state to the new one
abbrev pub PerformsOn : Token → List Action → TreeBuilder → TreeBuilder → Type 0
PerformsOn token actions old new =
    WithinLimits new → (b : Building) → b.token ≡ token → Constructs old b → Constructs new (all_performed actions b)

-- within the limits, that token is processed by the rules for a mode, or by the dispatcher's
abbrev pub ProcessesBy : StandardMode → Token → TreeBuilder → TreeBuilder → Next → Type 0
ProcessesBy mode token old new next = WithinLimits new → (b : Building) → b.token ≡ token → Constructs old b → Outcome mode b new next

-- a step of tree construction with the token leads to a state for which the new one stands: some depth suffices
pub record Processed (token : Token) (b : Building) (new : TreeBuilder) : Type 0 where
  pub after : Building
  pub stands : Constructs new after
  pub steps : (depth : ℕ) × (tree_step depth b token ≡ Some after)

-- Within the limits, the token is processed. The tokenizer has been switched since the token before it.
abbrev pub Processes : Token → TreeBuilder → TreeBuilder → Type 0
Processes token old new = old.switch ≡ None → WithinLimits new → (b : Building) → Constructs old b → Processed token b new

-- ---- comments

-- within the limits, a comment is inserted into the outermost open element, `html`
abbrev pub PutsInHtml : List ℕ → TreeBuilder → TreeBuilder → Type 0
PutsInHtml text old new =
    WithinLimits new → (b : Building) → HasHtml b → b.token ≡ AComment text → Constructs old b →
    Constructs new (all_performed (InsertCommentInHtml ∷ []) b)

-- where the rules put a comment there, `html` is that element
abbrev pub EndsInHtml : Building → Type 0
EndsInHtml b = b.mode ≡ AfterBody → HasHtml b

-- within the limits, a comment is processed by the dispatcher's rules, or in a whole step
abbrev pub TakesComment : List ℕ → TreeBuilder → TreeBuilder → Type 0
TakesComment text old new =
    WithinLimits new → (b : Building) → EndsInHtml b → b.token ≡ AComment text → Constructs old b → Outcome Dispatcher b new Next.Done

abbrev pub ProcessesComment : List ℕ → TreeBuilder → TreeBuilder → Type 0
ProcessesComment text old new =
    old.switch ≡ None → WithinLimits new → (b : Building) → EndsInHtml b → Constructs old b → Processed (AComment text) b new

-- ---- modes

-- the mode in which characters are pending
abbrev pub keeps_characters : Mode → Bool
keeps_characters Mode.InTableText = true
keeps_characters _ = false

abbrev pub is_initial : Mode → Bool
is_initial Mode.Initial = true
is_initial _ = false

-- where the rules for a mode put a comment; those for text have none for it
abbrev pub comment_place : Mode → CommentPlace
comment_place Mode.Initial = CommentPlace.Document
comment_place Mode.BeforeHtml = CommentPlace.Document
comment_place Mode.AfterAfterBody = CommentPlace.Document
comment_place Mode.AfterAfterFrameset = CommentPlace.Document
comment_place Mode.AfterBody = CommentPlace.Html
comment_place Mode.Text = CommentPlace.Nowhere
comment_place _ = CommentPlace.Here

-- the mode to which this one returns is one that is entered plainly
abbrev pub ReturnsPlainly : TreeBuilder → Type 0
ReturnsPlainly s = returns_later s.mode ≡ true → is_entered_plainly s.original ≡ true

-- ---- the end of the page

-- what the rules for a mode do with the end of the page
abbrev pub at_end : Mode → AtEnd
at_end Mode.Initial = AtEnd.Leave
at_end Mode.BeforeHtml = AtEnd.Leave
at_end Mode.BeforeHead = AtEnd.Leave
at_end Mode.InHead = AtEnd.Leave
at_end Mode.InHeadNoscript = AtEnd.Leave
at_end Mode.AfterHead = AtEnd.Leave
at_end Mode.Text = AtEnd.EndText
at_end Mode.InTableText = AtEnd.EndTableText
at_end Mode.AfterBody = AtEnd.Stop
at_end Mode.InFrameset = AtEnd.Stop
at_end Mode.AfterFrameset = AtEnd.Stop
at_end Mode.AfterAfterBody = AtEnd.Stop
at_end Mode.AfterAfterFrameset = AtEnd.Stop
at_end Mode.InTemplate = AtEnd.EndTemplate
at_end _ = AtEnd.EndContent

-- No characters are pending, and the mode to which "text" returns is entered plainly.
pub record EndsPlainly (s : TreeBuilder) : Type 0 where
  pub settled : keeps_characters s.mode ≡ false
  pub original : ReturnsPlainly s
