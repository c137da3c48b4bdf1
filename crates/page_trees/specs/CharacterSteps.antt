-- Characters come as runs. A run stands for the tokens of its characters: the rules process the first character, and then each of the
-- others as a token of its own (13.2.6).
use Rattle.std.specs.Prelude.{◌≡◌, ◌==◌, ◌&&◌, ◌||◌, ◌∷◌, Bool, List, None, Option, Some, [], codes, encode_utf8_all, false, if◌then◌else◌}
use Rattle.std.specs.Prelude.{map, not, true, ℕ}
use Rattle.std.specs.List.{list_all}
use Rattle.std.specs.Option.{option_and_then}
use Rattle.standard_tokens.specs.Tokens.{AChar}
use Rattle.standard_trees.specs.Building.{Building, is_empty, is_space, run, tree_steps, with_tree}
use Rattle.standard_trees.specs.Formatting.{reconstructed}
use Rattle.standard_trees.specs.GrowingTree.{GrowingTree, adjusted_current, current, is_html_point, is_named, is_one, with_chars}
use Rattle.standard_trees.specs.NameLists.{text_points}
use Rattle.standard_trees.specs.RuleWords.{AfterAfterBody, AfterAfterFrameset, AfterBody, AfterFrameset, AfterHead, BeforeHead}
use Rattle.standard_trees.specs.RuleWords.{BeforeHtml, Dispatcher}
use Rattle.standard_trees.specs.RuleWords.{InBody, InCaption, InCell, InColumnGroup, InFrameset, InHead, InHeadNoscript, InRow, InTable}
use Rattle.standard_trees.specs.RuleWords.{InTableBody, InTableText, InTemplate}
use Rattle.standard_trees.specs.RuleWords.{Initial, Mode as StandardMode, Text, TextState}
use Rattle.standard_trees.specs.TreeStore.{Kind, is_html, space_in}
use Rattle.page_trees.specs.Constructs.{Constructs, Outcome, WithinLimits}
use Rattle.page_trees.specs.Modes.{drops_letters, joins_spaces}
use Rattle.page_trees.specs.declared.builder.Mode.{Mode}
use Rattle.page_trees.specs.declared.builder.Next.{Next}
use Rattle.page_trees.specs.declared.builder.TreeBuilder.{TreeBuilder}
use Rattle.page_trees.specs.declared.chars.Run.{Run}
use Rattle.page_trees.specs.declared.chars.RunWay.{RunWay}

-- ---- characters

abbrev pub is_null : ℕ → Bool
is_null c = c == 0

abbrev pub has_no_null : List ℕ → Bool
has_no_null cs = list_all (λ c. not (is_null c)) cs

-- a run of each kind: one null, white space alone, or others and the white space between them
abbrev pub is_run : Run → List ℕ → Bool
is_run Run.Nulls (c ∷ []) = is_null c
is_run Run.Nulls _ = false
is_run Run.Spaces cs = list_all is_space cs
is_run Run.Letters cs = has_no_null cs && not (list_all is_space cs)

-- White space begins a run of others in modes that treat them alike, and lies in it where the others are not ignored.
abbrev pub fits_mode : Mode → Run → List ℕ → Bool
fits_mode mode Run.Letters (c ∷ cs) =
    (joins_spaces mode || not (is_space c)) && (not (drops_letters mode) || list_all (λ c. not (is_space c)) cs)
fits_mode mode _ cs = true

-- the definition's modes that process white space like the characters after it, and those that may ignore other characters
abbrev pub is_joining : StandardMode → Bool
is_joining InBody = true
is_joining InCaption = true
is_joining InCell = true
is_joining InTemplate = true
is_joining _ = false

abbrev pub is_dropping : StandardMode → Bool
is_dropping InColumnGroup = true
is_dropping InFrameset = true
is_dropping AfterFrameset = true
is_dropping AfterAfterFrameset = true
is_dropping _ = false

abbrev pub fits_in : StandardMode → Run → List ℕ → Bool
fits_in mode Run.Letters (c ∷ cs) =
    (is_joining mode || not (is_space c)) && (not (is_dropping mode) || list_all (λ c. not (is_space c)) cs)
fits_in mode _ cs = true

-- the flag frameset-ok behind a character, and behind several
abbrev pub ok_behind : ℕ → Bool → Bool
ok_behind c ok = if is_space c then ok else false

abbrev pub ok_behind_all : List ℕ → Bool → Bool
ok_behind_all [] ok = ok
ok_behind_all (c ∷ cs) ok = ok_behind_all cs (ok_behind c ok)

-- "set the frameset-ok flag to 'not ok'" is said of a run that is not white space alone
abbrev pub ok_behind_run : Run → Bool → Bool
ok_behind_run Run.Letters ok = false
ok_behind_run _ ok = ok

-- what the rules for a mode make of white space, of nulls, and of other characters
abbrev pub way_of_spaces : Mode → RunWay
way_of_spaces Mode.Initial = RunWay.Ignore
way_of_spaces Mode.BeforeHtml = RunWay.Ignore
way_of_spaces Mode.BeforeHead = RunWay.Ignore
way_of_spaces Mode.InBody = RunWay.Body
way_of_spaces Mode.InCaption = RunWay.Body
way_of_spaces Mode.InCell = RunWay.Body
way_of_spaces Mode.InTemplate = RunWay.Body
way_of_spaces Mode.AfterBody = RunWay.Body
way_of_spaces Mode.AfterAfterBody = RunWay.Body
way_of_spaces Mode.AfterAfterFrameset = RunWay.Body
way_of_spaces Mode.InTable = RunWay.Table
way_of_spaces Mode.InTableBody = RunWay.Table
way_of_spaces Mode.InRow = RunWay.Table
way_of_spaces Mode.InTableText = RunWay.Pending
way_of_spaces _ = RunWay.Put

abbrev pub way_of_nulls : Mode → RunWay
way_of_nulls Mode.InBody = RunWay.Ignore
way_of_nulls Mode.InCaption = RunWay.Ignore
way_of_nulls Mode.InCell = RunWay.Ignore
way_of_nulls Mode.InTemplate = RunWay.Ignore
way_of_nulls Mode.InTableText = RunWay.Ignore
way_of_nulls Mode.InTable = RunWay.Table
way_of_nulls Mode.InTableBody = RunWay.Table
way_of_nulls Mode.InRow = RunWay.Table
way_of_nulls Mode.Text = RunWay.Put
way_of_nulls Mode.InFrameset = RunWay.Ignore
way_of_nulls Mode.AfterFrameset = RunWay.Ignore
way_of_nulls Mode.AfterAfterFrameset = RunWay.Ignore
way_of_nulls _ = RunWay.Leave

abbrev pub way_of_letters : Mode → RunWay
way_of_letters Mode.InBody = RunWay.Body
way_of_letters Mode.InCaption = RunWay.Body
way_of_letters Mode.InCell = RunWay.Body
way_of_letters Mode.InTemplate = RunWay.Body
way_of_letters Mode.Text = RunWay.Put
way_of_letters Mode.InFrameset = RunWay.Ignore
way_of_letters Mode.AfterFrameset = RunWay.Ignore
way_of_letters Mode.AfterAfterFrameset = RunWay.Ignore
way_of_letters Mode.InTable = RunWay.Table
way_of_letters Mode.InTableBody = RunWay.Table
way_of_letters Mode.InRow = RunWay.Table
way_of_letters Mode.InTableText = RunWay.Pending
way_of_letters _ = RunWay.Leave

abbrev pub way_of : Run → Mode → RunWay
way_of Run.Spaces mode = way_of_spaces mode
way_of Run.Nulls mode = way_of_nulls mode
way_of Run.Letters mode = way_of_letters mode

-- ---- the dispatcher

-- the rules for the current mode process a character where this is the adjusted current node
abbrev pub takes_characters : Kind → Bool
takes_characters kind = is_html (space_in kind) || (is_named text_points kind || is_html_point kind)

abbrev pub goes_to_mode : GrowingTree → Bool
goes_to_mode t = is_empty t.stack || takes_characters (adjusted_current t)

-- ---- tables

-- "in table": the elements in which characters are pending table character tokens
abbrev pub pending_names : List (List ℕ)
pending_names =
    codes "table" ∷ codes "tbody" ∷ codes "template" ∷ codes "tfoot" ∷ codes "thead" ∷ codes "tr" ∷ []

-- the current node is one of them
abbrev pub keeps_text : GrowingTree → Bool
keeps_text t = is_one t pending_names (current t)

-- foster parenting is enabled, or disabled
abbrev pub with_foster : Bool → GrowingTree → GrowingTree
with_foster on t = record t { fostering = on }

-- An element is open, and the current node is no such element once the active formatting elements are reconstructed with foster
-- parenting: then it is none behind a character that is moved out of the table, either.
abbrev pub fosters_text : GrowingTree → Bool
fosters_text t = not (is_empty t.stack) && not (keeps_text (reconstructed (with_foster true t)))

-- ---- what a run does

-- the characters are inserted, and nothing else changes
abbrev pub Inserts : List ℕ → TreeBuilder → TreeBuilder → Type 0
Inserts cs old new = WithinLimits new → (b : Building) → Constructs old b → Constructs new (with_tree b (with_chars cs b.tree))

-- the characters, which are not white space alone, are inserted: "set the frameset-ok flag to 'not ok'"
abbrev pub InsertsLetters : List ℕ → TreeBuilder → TreeBuilder → Type 0
InsertsLetters cs old new =
    WithinLimits new → (b : Building) → Constructs old b →
    Constructs new (record b { tree = with_chars cs b.tree; frameset_ok = false })

-- the characters are inserted by the rules for "in body": the active formatting elements are reconstructed first
abbrev pub inserted_in_body : Run → List ℕ → Building → Building
inserted_in_body Run.Nulls cs b = b
inserted_in_body kind cs b =
    record b { tree = with_chars cs (reconstructed b.tree); frameset_ok = ok_behind_run kind b.frameset_ok }

abbrev pub InsertsInBody : Run → List ℕ → TreeBuilder → TreeBuilder → Type 0
InsertsInBody kind cs old new = WithinLimits new → (b : Building) → Constructs old b → Constructs new (inserted_in_body kind cs b)

-- ---- tokens

-- what comes of more characters
abbrev pub then_chars : ℕ → List ℕ → Option Building → Option Building
then_chars depth cs before = option_and_then (λ b. tree_steps depth b (map (λ c. AChar c) cs)) before

-- The new state stands for what comes of the current token and then of these characters.
abbrev pub Completes : List ℕ → Building → TreeBuilder → Type 0
Completes cs b new = (depth : ℕ) (c : Building) → then_chars depth cs (run depth Dispatcher b) ≡ Some c → Constructs new c

-- A run is done with; or its first character is to be reprocessed, and the run fits the new mode.
pub record GoesAgain (kind : Run) (cs : List ℕ) (b : Building) (new : TreeBuilder) : Type 0 where
  pub outcome : Outcome Dispatcher b new Next.Again
  pub fits : fits_mode new.mode kind cs ≡ true

abbrev pub RunOutcome : Run → ℕ → List ℕ → Building → TreeBuilder → Next → Type 0
RunOutcome kind c cs b new Next.Done = Completes cs b new
RunOutcome kind c cs b new Next.Again = GoesAgain kind (c ∷ cs) b new

-- ---- the states of which it is stated

abbrev pub is_nowhere : Option TextState → Bool
is_nowhere None = true
is_nowhere (Some state) = false

-- a token has begun: nothing is to be skipped, and the tokenizer is not switched
abbrev pub has_begun : Building → Bool
has_begun b = not b.skip && is_nowhere b.tokenizer

-- the modes of which it is stated that the code processes characters by their rules; in some, while an element is open
abbrev pub covers_closed : StandardMode → Bool
covers_closed Initial = true
covers_closed BeforeHtml = true
covers_closed BeforeHead = true
covers_closed InHead = true
covers_closed InHeadNoscript = true
covers_closed AfterHead = true
covers_closed Text = true
covers_closed InTableText = true
covers_closed InColumnGroup = true
covers_closed InFrameset = true
covers_closed AfterFrameset = true
covers_closed _ = false

abbrev pub covers_open : StandardMode → Bool
covers_open InBody = true
covers_open InCaption = true
covers_open InCell = true
covers_open InTemplate = true
covers_open AfterBody = true
covers_open AfterAfterBody = true
covers_open AfterAfterFrameset = true
covers_open _ = false

-- in tables, where characters become pending table character tokens or are moved out of the table
abbrev pub covers_in_table : GrowingTree → Bool
covers_in_table t = keeps_text t || fosters_text t

abbrev pub covers_between : StandardMode → Building → Bool
covers_between InTable b = covers_in_table b.tree
covers_between InTableBody b = covers_in_table b.tree
covers_between InRow b = covers_in_table b.tree
covers_between _ b = false

abbrev pub covers_in_mode : Building → Bool
covers_in_mode b = covers_closed b.mode || ((covers_open b.mode && not (is_empty b.tree.stack)) || covers_between b.mode b)

abbrev pub covers_characters : Building → Bool
covers_characters b = has_begun b && (not (goes_to_mode b.tree) || covers_in_mode b)

-- within the limits, a run whose first character is the current token is processed by the dispatcher's rules
abbrev pub ProcessesRun : Run → ℕ → List ℕ → TreeBuilder → TreeBuilder → Next → Type 0
ProcessesRun kind c cs old new next =
    WithinLimits new → (b : Building) → b.token ≡ AChar c → covers_characters b ≡ true → Constructs old b →
    RunOutcome kind c cs b new next

-- within the limits, a run is processed by the rules for the current mode, to which the dispatcher leaves its first character
abbrev pub ProcessesRunInMode : Run → ℕ → List ℕ → TreeBuilder → TreeBuilder → Next → Type 0
ProcessesRunInMode kind c cs old new next =
    WithinLimits new → (b : Building) → b.token ≡ AChar c → goes_to_mode b.tree ≡ true → covers_characters b ≡ true → Constructs old b →
    RunOutcome kind c cs b new next

-- within the limits, a run is processed by the rules for foreign content, to which the dispatcher hands its first character
abbrev pub ProcessesForeignRun : ℕ → List ℕ → TreeBuilder → TreeBuilder → Type 0
ProcessesForeignRun c cs old new =
    WithinLimits new → (b : Building) → b.token ≡ AChar c → goes_to_mode b.tree ≡ false → has_begun b ≡ true → Constructs old b →
    Completes cs b new

-- a text is a run of that kind, and fits the mode
pub record IsRun (kind : Run) (mode : Mode) (text : List ℕ) (c : ℕ) (cs : List ℕ) : Type 0 where
  pub spelt : text ≡ encode_utf8_all (c ∷ cs)
  pub run : is_run kind (c ∷ cs) ≡ true
  pub fits : fits_mode mode kind (c ∷ cs) ≡ true
