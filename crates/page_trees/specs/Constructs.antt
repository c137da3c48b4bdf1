-- How the state of tree construction (13.2.4) stands for the one that standard_trees defines, and what a function does to it that performs
-- actions of the rules, or processes a token by the rules for an insertion mode (13.2.6.4).
use Rattle.std.specs.Prelude.{◌≡◌, Bool, List, None, Option, Result, Some, [], ◌∷◌, Err, IfSome, Ok, codes, false, map, not, option_map}
use Rattle.std.specs.Prelude.{reverse}
use Rattle.std.specs.Prelude.{String, suc, true, ℕ}
use Rattle.std.specs.List.{list_all}
use Rattle.standard_tokens.specs.Machine.{Tag as StandardTag, token_of}
use Rattle.standard_trees.specs.Building.{Building, NoQuirks, is_space, perform}
use Rattle.standard_trees.specs.Building.{run, token_attrs}
use Rattle.standard_trees.specs.RuleWords.{Action, AfterHead, BeforeHead, BeforeHtml, Dispatcher, InBody, InHead, InsertNamed}
use Rattle.standard_trees.specs.RuleWords.{InsertRootNamed, Mode as StandardMode, PlainText, Pop, RawText, RcdataText, ScriptText}
use Rattle.standard_trees.specs.RuleWords.{SetHeadPointer, SetQuirks, SwitchTo, TextState}
use Rattle.standard_order.specs.Turns.{run_while}
use Rattle.page_tokens.specs.PlainNames.{has_plain_names}
use Rattle.page_tokens.specs.Standard.{IsTag, Spells}
use Rattle.page_tokens.specs.declared.token.Tag.{Tag}
use Rattle.page_tokens.specs.declared.tokenizer.state.State.{State}
use Rattle.page_trees.specs.Modes.{is_start_kind, mode_of}
use Rattle.page_trees.specs.Names.{name_of, text_of}
use Rattle.page_trees.specs.Quirks.{mode_of as mode_for}
use Rattle.page_trees.specs.Stands.{Builds, IsTagName}
use Rattle.page_trees.specs.declared.builder.Mode.{Mode}
use Rattle.page_trees.specs.declared.builder.Next.{Next}
use Rattle.page_trees.specs.declared.builder.TreeBuilder.{TreeBuilder}
use Rattle.page_trees.specs.declared.fault.PageFault.{PageFault}
use Rattle.page_trees.specs.declared.name.Name.{Name}

-- ---- the state

-- the state to which the tokenizer is switched
abbrev pub state_for : TextState → State
state_for RcdataText = State.Rcdata
state_for RawText = State.Rawtext
state_for ScriptText = State.Script
state_for PlainText = State.Plaintext

-- the modes that return to the original insertion mode
abbrev pub returns_later : Mode → Bool
returns_later Mode.Text = true
returns_later Mode.InTableText = true
returns_later _ = false

-- the other modes to which rules switch
abbrev pub is_entered_plainly : Mode → Bool
is_entered_plainly Mode.Initial = false
is_entered_plainly mode = not (returns_later mode)

-- the text of the pending table character tokens, and whether one of them is no white space
abbrev pub IsPending : {A : Type 0} → String A → Bool → List ℕ → Type 0
IsPending text letters pending = Spells text (reverse pending) × (letters ≡ not (list_all is_space pending))

-- the stack of template insertion modes, each of which is entered plainly
abbrev pub AreTemplateModes : List Mode → List StandardMode → Type 0
AreTemplateModes items modes = (modes ≡ map mode_of (reverse items)) × (list_all is_entered_plainly items ≡ true)

-- The state is that of the definition. The original insertion mode counts in the modes that return to it, and pending table characters
-- count in "in table text" alone. The quirks mode is not set before a doctype is read.
pub record Constructs (s : TreeBuilder) (b : Building) : Type 0 where
  pub tree : Builds s.tree b.tree
  pub foster : b.tree.fostering ≡ s.placing.foster
  pub in_head : s.placing.in_head ≡ false
  pub mode : b.mode ≡ mode_of s.mode
  pub original : returns_later s.mode ≡ true → b.original ≡ mode_of s.original
  pub template_modes : AreTemplateModes s.template_modes.items b.template_modes
  pub frameset_ok : b.frameset_ok ≡ s.frameset_ok
  pub scripting : b.scripting ≡ s.scripting
  pub quirks : mode_for b.quirks ≡ s.quirks
  pub unread : s.mode ≡ Mode.Initial → b.quirks ≡ NoQuirks
  pub pending : s.mode ≡ Mode.InTableText → IsPending s.table_text s.table_text_has_letters b.pending
  pub skip : b.skip ≡ s.skip_line_feed
  pub tokenizer : option_map state_for b.tokenizer ≡ s.switch

-- ---- limits

-- neither memory nor node ids ran out, and no element was opened past the limit on depth
pub record WithinLimits (s : TreeBuilder) : Type 0 where
  pub fault : s.fault ≡ None
  pub depth : s.too_deep ≡ false

-- that a limit was met stays known
abbrev pub RemembersLimits : TreeBuilder → TreeBuilder → Type 0
RemembersLimits old new = WithinLimits new → WithinLimits old

-- the first fault, after one more edit
abbrev pub first_fault : Option PageFault → Result Unit PageFault → Option PageFault
first_fault (Some fault) done = Some fault
first_fault None (Err fault) = Some fault
first_fault None (Ok _) = None

-- ---- actions

-- the actions are performed one after the other
abbrev pub all_performed : List Action → Building → Building
all_performed [] b = b
all_performed (action ∷ actions) b = all_performed actions (perform action b)

-- within the limits, these actions lead from the old state to the new one
abbrev pub Performs : List Action → TreeBuilder → TreeBuilder → Type 0
Performs actions old new = WithinLimits new → (b : Building) → Constructs old b → Constructs new (all_performed actions b)

-- the current token is the one of the tag, whose names are those that the tokenizer makes
pub record IsCurrentTag (name : Name) (tag : Tag) (b : Building) : Type 0 where
  pub standard : StandardTag
  pub is : IsTag standard tag
  pub written : IsTagName standard.name
  pub plain : has_plain_names (token_of standard) ≡ true
  pub named : name ≡ name_of standard.name
  pub token : b.token ≡ token_of standard
  pub attrs : b.attrs ≡ token_attrs b.token

-- the same where the actions are for a start tag
abbrev pub PerformsFor : Name → Tag → List Action → TreeBuilder → TreeBuilder → Type 0
PerformsFor name tag actions old new =
    is_start_kind tag.kind ≡ true → WithinLimits new → (b : Building) → IsCurrentTag name tag b → Constructs old b →
    Constructs new (all_performed actions b)

-- the action that inserts an element of that name for which there is no tag
abbrev pub implying : Name → Action
implying Name.Html = InsertRootNamed (codes "html")
implying name = InsertNamed (text_of name)

-- "anything else" in the modes around the body, which is followed by "reprocess the token": the actions of the rule
abbrev pub leaving : Mode → Option (List Action)
leaving Mode.Initial = Some (SetQuirks ∷ SwitchTo BeforeHtml ∷ [])
leaving Mode.BeforeHtml = Some (InsertRootNamed (codes "html") ∷ SwitchTo BeforeHead ∷ [])
leaving Mode.BeforeHead = Some (InsertNamed (codes "head") ∷ SetHeadPointer ∷ SwitchTo InHead ∷ [])
leaving Mode.InHead = Some (Pop ∷ SwitchTo AfterHead ∷ [])
leaving Mode.InHeadNoscript = Some (Pop ∷ SwitchTo InHead ∷ [])
leaving Mode.AfterHead = Some (InsertNamed (codes "body") ∷ SwitchTo InBody ∷ [])
leaving Mode.AfterBody = Some (SwitchTo InBody ∷ [])
leaving Mode.AfterAfterBody = Some (SwitchTo InBody ∷ [])
leaving _ = None

-- the actions are performed, and the token is to be reprocessed
pub record LeavesBy (actions : List Action) (old new : TreeBuilder) (next : Next) : Type 0 where
  pub again : next ≡ Next.Again
  pub rule : Performs actions old new

abbrev pub Leaves : TreeBuilder → TreeBuilder → Next → Type 0
Leaves old new next = IfSome (leaving old.mode) (λ actions. LeavesBy actions old new next)

-- ---- modes

-- the rules for a mode lead to this state with the current token: some depth suffices
abbrev pub ComesTo : StandardMode → Building → Building → Type 0
ComesTo mode b c = (depth : ℕ) × (run depth mode b ≡ Some c)

-- two states have the same current token
pub record HaveOneToken (b c : Building) : Type 0 where
  pub token : c.token ≡ b.token
  pub attrs : c.attrs ≡ b.attrs

-- what comes of the token by the rules for a mode, turn by turn, comes of it in the state behind, by the dispatcher's and less deep
abbrev pub TakesTurn : StandardMode → Building → Building → Type 0
TakesTurn mode b after =
    (test : Building → Bool) (depth : ℕ) (c : Building) → run_while test (suc depth) mode b ≡ Some c →
    run_while test depth Dispatcher after ≡ Some c

-- by the rules for a mode the token is done with there, or it is to be reprocessed there
abbrev pub Runs : StandardMode → Building → Next → Building → Type 0
Runs mode b Next.Done after = ComesTo mode b after
Runs mode b Next.Again after =
    HaveOneToken b after × ((c : Building) → ComesTo Dispatcher after c → ComesTo mode b c) × TakesTurn mode b after

-- what the rules for a mode make of the current token, and the new state stands for it
pub record Outcome (mode : StandardMode) (b : Building) (new : TreeBuilder) (next : Next) : Type 0 where
  pub after : Building
  pub stands : Constructs new after
  pub runs : Runs mode b next after

-- within the limits, a tag is processed by the rules for a mode
abbrev pub ProcessesTag : StandardMode → Name → Tag → TreeBuilder → TreeBuilder → Next → Type 0
ProcessesTag mode name tag old new next =
    WithinLimits new → (b : Building) → IsCurrentTag name tag b → Constructs old b → Outcome mode b new next
