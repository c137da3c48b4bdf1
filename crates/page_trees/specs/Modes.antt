-- The insertion modes (13.2.4.1), and what depends on them alone.
use Rattle.std.specs.Prelude.{ℕ, Bool, true, false, ◌||◌, List, [], ◌∷◌, Option, None, Some, if◌then◌else◌}
use Rattle.std.specs.Option.{unwrap_or}
use Rattle.standard_trees.specs.Building.{reset_by}
use Rattle.standard_trees.specs.RuleWords.{AfterAfterBody, AfterAfterFrameset, AfterBody, AfterFrameset, AfterHead, BeforeHead, BeforeHtml}
use Rattle.standard_trees.specs.RuleWords.{InBody, InCaption, InCell, InColumnGroup, InFrameset, InHead, InHeadNoscript, InRow, InTable}
use Rattle.standard_trees.specs.RuleWords.{InTableBody, InTableText, InTemplate, Initial, Mode as StandardMode, Text}
use Rattle.standard_trees.specs.TreeRules.{resets}
use Rattle.page_tokens.specs.declared.token.TagKind.{TagKind}
use Rattle.page_trees.specs.Placing.{fosters, is_a_template}
use Rattle.page_trees.specs.Sets.{rule_name}
use Rattle.page_trees.specs.declared.builder.Mode.{Mode}
use Rattle.page_trees.specs.declared.builder.Next.{Next}
use Rattle.page_trees.specs.declared.modes.resetting.Setting.{Setting}
use Rattle.page_trees.specs.declared.name.Name.{Name}
use Rattle.page_trees.specs.declared.pointers.FormPointer.{FormPointer}
use Rattle.page_trees.specs.declared.stack.Open.{Open}

-- whether the token is to be reprocessed
abbrev pub next_of : Bool → Next
next_of again = if again then Next.Again else Next.Done

-- the form element pointer is null
abbrev pub points_nowhere : FormPointer → Bool
points_nowhere FormPointer.None = true
points_nowhere _ = false

abbrev pub is_start_kind : TagKind → Bool
is_start_kind TagKind.Start = true
is_start_kind TagKind.End = false

-- before the body: the end tags that are processed like anything else
abbrev pub is_early_end_name : Name → Bool
is_early_end_name Name.Head = true
is_early_end_name Name.Body = true
is_early_end_name Name.Html = true
is_early_end_name Name.Br = true
is_early_end_name _ = false

-- ---- characters

-- the modes that process whitespace like the characters after it
abbrev pub joins_spaces : Mode → Bool
joins_spaces Mode.InBody = true
joins_spaces Mode.InCaption = true
joins_spaces Mode.InCell = true
joins_spaces Mode.InTemplate = true
joins_spaces _ = false

-- the modes that may ignore other characters but insert the whitespace between them
abbrev pub drops_letters : Mode → Bool
drops_letters Mode.InColumnGroup = true
drops_letters Mode.InFrameset = true
drops_letters Mode.AfterFrameset = true
drops_letters Mode.AfterAfterFrameset = true
drops_letters _ = false

-- "in table": the elements in which characters are pending table character tokens
abbrev pub holds_table_text : Open → Bool
holds_table_text o = is_a_template o || fosters o

-- ---- "reset the insertion mode appropriately"

-- the mode as standard_trees has it
abbrev pub mode_of : Mode → StandardMode
mode_of Mode.Initial = Initial
mode_of Mode.BeforeHtml = BeforeHtml
mode_of Mode.BeforeHead = BeforeHead
mode_of Mode.InHead = InHead
mode_of Mode.InHeadNoscript = InHeadNoscript
mode_of Mode.AfterHead = AfterHead
mode_of Mode.InBody = InBody
mode_of Mode.Text = Text
mode_of Mode.InTable = InTable
mode_of Mode.InTableText = InTableText
mode_of Mode.InCaption = InCaption
mode_of Mode.InColumnGroup = InColumnGroup
mode_of Mode.InTableBody = InTableBody
mode_of Mode.InRow = InRow
mode_of Mode.InCell = InCell
mode_of Mode.InTemplate = InTemplate
mode_of Mode.AfterBody = AfterBody
mode_of Mode.InFrameset = InFrameset
mode_of Mode.AfterFrameset = AfterFrameset
mode_of Mode.AfterAfterBody = AfterAfterBody
mode_of Mode.AfterAfterFrameset = AfterAfterFrameset

-- what the Standard's table says of an element: the mode depends on whether the element is the last one, whether the head element
-- pointer is set, and on the current template insertion mode
abbrev pub reset_named : Setting → List ℕ → Option StandardMode
reset_named s key =
    reset_by resets key (mode_of s.template_mode ∷ []) (if s.has_head then Some 0 else None) (if s.is_last then [] else 0 ∷ [])

-- "if last is true, then switch the insertion mode to 'in body'"
abbrev pub or_in_body : Bool → Option StandardMode → Option StandardMode
or_in_body last mode = if last then Some (unwrap_or mode InBody) else mode

-- the mode that an element determines
abbrev pub reset_for : Setting → Open → Option StandardMode
reset_for s o = or_in_body s.is_last (reset_named s (rule_name o))
