-- In which turns of tree construction (13.2.6) the code is proved to process the token by the rules, and what is stated of a whole token.
use Rattle.std.specs.Prelude.{◌≡◌, ◌≤◌, ◌∷◌, ◌&&◌, ◌||◌, Bool, List, None, Some, [], encode_utf8_all, false, map, not, true}
use Rattle.std.specs.Prelude.{ℕ}
use Rattle.std.specs.Option.{option_and_then}
use Rattle.standard_tokens.specs.Tokens.{AChar, AComment, ADoctype, AStart, AnEnd, AnEof, Token as StandardToken}
use Rattle.standard_trees.specs.Building.{Building, own_name, perform, taken}
use Rattle.standard_trees.specs.GrowingTree.{in_foreign}
use Rattle.standard_trees.specs.RuleWords.{Act, AfterAfterBody, AfterAfterFrameset, AfterBody, AfterFrameset, AfterHead, BeforeHead}
use Rattle.standard_trees.specs.RuleWords.{BeforeHtml, Dispatcher, ForeignContent, InBody, InCaption, InCell, InColumnGroup, InFrameset}
use Rattle.standard_trees.specs.RuleWords.{InHead, InHeadNoscript, InRow, InTable, InTableBody, InTableText, InTemplate, Initial}
use Rattle.standard_trees.specs.RuleWords.{Mode as StandardMode, PopForeignElements, Text, UseCurrentMode, does, goes}
use Rattle.standard_trees.specs.Laws.{depth_at, is_plain}
use Rattle.standard_trees.specs.TreeRules.{rules}
use Rattle.standard_order.specs.Turns.{run_while, tree_steps_while}
use Rattle.page_trees.specs.CharacterSteps.{covers_characters, fits_in, goes_to_mode, has_no_null, is_run}
use Rattle.standard_order.specs.Order.{has_html, head_is_closed}
use Rattle.page_trees.specs.Constructs.{Constructs, IsCurrentTag, Outcome, Runs, WithinLimits}
use Rattle.page_tokens.specs.declared.token.Tag.{Tag}
use Rattle.page_tokens.specs.declared.token.TagKind.{TagKind}
use Rattle.page_trees.specs.BodyTags.{covers_body, suits_body}
use Rattle.page_trees.specs.Names.{name_of}
use Rattle.page_trees.specs.TableSteps.{covers_caption, covers_cell, covers_group, covers_row, covers_table, covers_table_body}
use Rattle.page_trees.specs.declared.builder.Next.{Next}
use Rattle.page_trees.specs.declared.builder.TreeBuilder.{TreeBuilder}
use Rattle.page_trees.specs.declared.chars.Run.{Run}
use Rattle.page_trees.specs.declared.modes.Token.{Token}
use Rattle.page_trees.specs.declared.name.Name.{Name}

-- ---- facts of the definition's state

-- the modes that return to the original insertion mode
abbrev pub returns : StandardMode → Bool
returns Text = true
returns InTableText = true
returns _ = false

-- the other modes to which rules switch
abbrev pub enters_plainly : StandardMode → Bool
enters_plainly Initial = false
enters_plainly Dispatcher = false
enters_plainly ForeignContent = false
enters_plainly mode = not (returns mode)

-- the mode to which the current one returns is one of these
abbrev pub returns_plainly : Building → Bool
returns_plainly b = not (returns b.mode) || enters_plainly b.original

-- the original insertion mode is one in which a token of any kind may come, and that, too
abbrev pub keeps_plainly : Building → Bool
keeps_plainly b = is_plain b.original && returns_plainly b

-- No pending table character token is a null, and the mode to return to is one that is entered plainly.
abbrev pub suits_settling : Building → Bool
suits_settling b = enters_plainly b.original && has_no_null b.pending

-- ---- which rules process the token

abbrev pub uses_current_mode : List Act → Bool
uses_current_mode (goes UseCurrentMode ∷ []) = true
uses_current_mode _ = false

-- the dispatcher leaves it to the rules for the current insertion mode
abbrev pub is_in_mode : Building → Bool
is_in_mode b = uses_current_mode (taken b (rules Dispatcher))

-- ---- which turns are covered

abbrev pub is_start_tag : StandardToken → Bool
is_start_tag (AStart name attrs closing) = true
is_start_tag _ = false

-- the name of the current tag
abbrev pub tag_name : Building → Name
tag_name b = name_of (own_name b.token)

-- a test of the current tag
abbrev pub passes : (Bool → Name → Bool) → Building → Bool
passes test b = has_html b && test (is_start_tag b.token) (tag_name b)

-- tags, by the rules for "in body"
abbrev pub covers_kind_in_body : Bool → Name → Bool
covers_kind_in_body true name = covers_body TagKind.Start name
covers_kind_in_body false name = covers_body TagKind.End name

-- the state suits the tag there
abbrev pub suits_kind_in_body : Bool → Name → Building → Bool
suits_kind_in_body true name b = suits_body TagKind.Start name b
suits_kind_in_body false name b = suits_body TagKind.End name b

-- tags, by the rules for a mode
abbrev pub covers_tag_in : StandardMode → Building → Bool
covers_tag_in Initial b = true
covers_tag_in BeforeHtml b = true
covers_tag_in BeforeHead b = has_html b
covers_tag_in InHead b = has_html b
covers_tag_in InHeadNoscript b = has_html b
covers_tag_in AfterHead b = has_html b && head_is_closed b
covers_tag_in InBody b = passes covers_kind_in_body b && suits_kind_in_body (is_start_tag b.token) (tag_name b) b
covers_tag_in AfterBody b = has_html b
covers_tag_in AfterAfterBody b = has_html b
covers_tag_in InFrameset b = has_html b
covers_tag_in AfterFrameset b = has_html b
covers_tag_in AfterAfterFrameset b = has_html b
covers_tag_in InTemplate b = true
covers_tag_in Text b = enters_plainly b.original
covers_tag_in InTableText b = suits_settling b
covers_tag_in InTable b = passes (λ start name. covers_table start name b) b
covers_tag_in InCaption b = passes (λ start name. covers_caption start name b) b
covers_tag_in InColumnGroup b = passes (λ start name. covers_group name) b
covers_tag_in InTableBody b = passes (λ start name. covers_table_body start name b) b
covers_tag_in InRow b = passes (λ start name. covers_row start name b) b
covers_tag_in InCell b = passes (λ start name. covers_cell start name b) b
covers_tag_in _ b = false

-- foreign elements are popped, and the token is reprocessed "according to the rules given in the section corresponding to the current
-- insertion mode in HTML content"
abbrev pub leaving_foreign : List Act
leaving_foreign = does PopForeignElements [] ∷ goes UseCurrentMode ∷ []

-- These acts for a tag are covered: where the rules for the current mode process it, it is covered there.
abbrev pub covers_acts : List Act → Building → Bool
covers_acts (does PopForeignElements [] ∷ acts) b = covers_acts acts (perform PopForeignElements b)
covers_acts (goes UseCurrentMode ∷ []) b = covers_tag_in b.mode b
covers_acts acts b = true

-- tags in foreign content; end tags where the outermost open element is `html`
abbrev pub covers_foreign_tag : Building → Bool
covers_foreign_tag b = (is_start_tag b.token || has_html b) && covers_acts (taken b (rules ForeignContent)) b

abbrev pub covers_tag : Building → Bool
covers_tag b = elim (is_in_mode b) [ true ↦ covers_tag_in b.mode b | false ↦ covers_foreign_tag b ]

-- comments; the rules for "after body" put one into `html`
abbrev pub covers_comment : StandardMode → Building → Bool
covers_comment InTableText b = is_in_mode b && suits_settling b
covers_comment AfterBody b = has_html b
covers_comment mode b = true

abbrev pub covers_doctype : StandardMode → Building → Bool
covers_doctype InTableText b = is_in_mode b && suits_settling b
covers_doctype mode b = true

-- the end of the page
abbrev pub covers_end : StandardMode → Building → Bool
covers_end InTableText b = suits_settling b
covers_end mode b = returns_plainly b

-- characters; in "text" where the dispatcher leaves them to that mode
abbrev pub is_text_mode : StandardMode → Bool
is_text_mode Text = true
is_text_mode _ = false

abbrev pub covers_character : Building → Bool
covers_character b = (not (is_text_mode b.mode) || goes_to_mode b.tree) && covers_characters b

abbrev pub covers : StandardToken → Building → Bool
covers (AStart name attrs closing) b = covers_tag b
covers (AnEnd name) b = covers_tag b
covers (AComment text) b = covers_comment b.mode b
covers (ADoctype doctype) b = covers_doctype b.mode b
covers AnEof b = covers_end b.mode b
covers (AChar c) b = covers_character b

-- the code is proved to process the current token by the rules
abbrev pub covered_turn : Building → Bool
covered_turn b = is_plain b.original && covers b.token b

-- ---- the tokens for which a token of the code stands

-- the first character of a run is the current token, and the others are these tokens
pub record IsCurrentRun (kind : Run) (text : List ℕ) (others : List StandardToken) (b : Building) : Type 0 where
  pub first : ℕ
  pub rest : List ℕ
  pub spelt : text ≡ encode_utf8_all (first ∷ rest)
  pub run : is_run kind (first ∷ rest) ≡ true
  pub fits : fits_in b.mode kind (first ∷ rest) ≡ true
  pub token : b.token ≡ AChar first
  pub attrs : b.attrs ≡ []
  pub others_are : others ≡ map AChar rest

-- the current token of the definition is the one of the code, or its first one, and these come after it
abbrev pub IsCurrent : Token → List StandardToken → Building → Type 0
IsCurrent (Token.Tag name tag) others b = IsCurrentTag name tag.now b × (others ≡ [])
IsCurrent (Token.Run kind text) others b = IsCurrentRun kind text.now others b
IsCurrent Token.End others b = (b.token ≡ AnEof) × (others ≡ [])

-- ---- what is stated of a token

-- If turns that are covered lead to the end of these tokens, the new state stands for the one there.
abbrev pub Completes : List StandardToken → Building → TreeBuilder → Type 0
Completes others b new =
    (depth : ℕ) (c : Building) →
    option_and_then (λ after. tree_steps_while covered_turn depth after others) (run_while covered_turn depth Dispatcher b) ≡ Some c →
    Constructs new c

-- the token is to be reprocessed in this state
pub record Reprocesses (token : Token) (others : List StandardToken) (b : Building) (new : TreeBuilder) : Type 0 where
  pub after : Building
  pub stands : Constructs new after
  pub current : IsCurrent token others after
  pub runs : Runs Dispatcher b Next.Again after

abbrev pub TurnEnds : Token → List StandardToken → Building → TreeBuilder → Next → Type 0
TurnEnds token others b new Next.Done = Completes others b new
TurnEnds token others b new Next.Again = Reprocesses token others b new

-- within the limits, a tag is processed by the dispatcher's rules, if it is covered
abbrev pub DispatchesCovered : Name → Tag → TreeBuilder → TreeBuilder → Next → Type 0
DispatchesCovered name tag old new next =
    WithinLimits new → (b : Building) → IsCurrentTag name tag b → covers_tag b ≡ true → Constructs old b → Outcome Dispatcher b new next

-- within the limits, a tag is processed by the rules for a mode, if it is covered
abbrev pub ProcessesCovered : StandardMode → Name → Tag → TreeBuilder → TreeBuilder → Next → Type 0
ProcessesCovered mode name tag old new next =
    WithinLimits new → (b : Building) → IsCurrentTag name tag b → covers_tag_in mode b ≡ true → Constructs old b → Outcome mode b new next

-- within the limits, a tag is processed by the rules for foreign content, if it is covered and the adjusted current node is a foreign one
abbrev pub ProcessesForeign : Name → Tag → TreeBuilder → TreeBuilder → Next → Type 0
ProcessesForeign name tag old new next =
    WithinLimits new → (b : Building) → IsCurrentTag name tag b → in_foreign b.tree ≡ true → covers_foreign_tag b ≡ true →
    Constructs old b → Outcome ForeignContent b new next

-- within the limits, foreign elements are popped and the rules for the current mode process a tag, if that is what the rules for foreign
-- content say, and it is covered
abbrev pub LeavesForeign : Name → Tag → TreeBuilder → TreeBuilder → Next → Type 0
LeavesForeign name tag old new next =
    WithinLimits new → (b : Building) → IsCurrentTag name tag b → taken b (rules ForeignContent) ≡ leaving_foreign →
    covers_acts leaving_foreign b ≡ true → Constructs old b → Outcome ForeignContent b new next

-- within the limits, one turn processes the token, if it is covered
abbrev pub ProcessesOnce : Token → TreeBuilder → TreeBuilder → Next → Type 0
ProcessesOnce token old new next =
    WithinLimits new → (others : List StandardToken) (b : Building) → IsCurrent token others b → covered_turn b ≡ true → Constructs old b →
    TurnEnds token others b new next

-- The code reprocesses a token at least so often: rules use rules at most so deep.
abbrev pub AreEnoughTurns : TreeBuilder → ℕ → Type 0
AreEnoughTurns s turns = (b : Building) → Constructs s b → depth_at b ≤ turns

-- within the limits, the token is processed to its end
abbrev pub ProcessesToken : Token → TreeBuilder → TreeBuilder → Type 0
ProcessesToken token old new =
    WithinLimits new → (others : List StandardToken) (b : Building) → IsCurrent token others b → Constructs old b →
    (depth : ℕ) (c : Building) →
    option_and_then (λ after. tree_steps_while covered_turn depth after others) (run_while covered_turn depth Dispatcher b) ≡ Some c →
    Constructs new c

-- Within the limits, these tokens are processed. The tokenizer has been switched since the token before them.
abbrev pub TakesTokens : List StandardToken → TreeBuilder → TreeBuilder → Type 0
TakesTokens tokens old new =
    old.switch ≡ None → WithinLimits new → (b : Building) → Constructs old b → (depth : ℕ) (c : Building) →
    tree_steps_while covered_turn depth b tokens ≡ Some c → Constructs new c
