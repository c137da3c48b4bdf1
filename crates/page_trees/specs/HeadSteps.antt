-- What the rules for "in head" do for elements of the head and for templates (13.2.6.4.4).
use Rattle.std.specs.Prelude.{◌≡◌, [], ◌∷◌, Bool, List, codes, false, true}
use Rattle.std.specs.Option.{option_map_or}
use Rattle.standard_trees.specs.Building.{Building}
use Rattle.standard_trees.specs.GrowingTree.{GrowingTree, place}
use Rattle.standard_trees.specs.RuleWords.{Action, ClearListToMarker, FramesetNotOk, InTemplate, KeepMode, ListMarker, Mode as StandardMode}
use Rattle.standard_trees.specs.RuleWords.{Pop}
use Rattle.standard_trees.specs.RuleWords.{PopTemplateMode}
use Rattle.standard_trees.specs.RuleWords.{PopUntil, PushTemplateMode, RawText, RcdataText, ResetMode, ScriptText, SwitchTo, Text}
use Rattle.standard_trees.specs.RuleWords.{TextState}
use Rattle.standard_trees.specs.RuleWords.{These, TokenizerTo}
use Rattle.standard_trees.specs.TreeStore.{EndOf, Place}
use Rattle.page_tokens.specs.declared.token.Tag.{Tag}
use Rattle.standard_order.specs.Order.{head_is_closed}
use Rattle.page_trees.specs.Constructs.{Constructs, IsCurrentTag, Outcome, WithinLimits}
use Rattle.page_trees.specs.LateMerges.{HasHtml}
use Rattle.page_trees.specs.declared.builder.Mode.{Mode}
use Rattle.page_trees.specs.declared.builder.Next.{Next}
use Rattle.page_trees.specs.declared.builder.TreeBuilder.{TreeBuilder}
use Rattle.page_trees.specs.declared.name.Name.{Name}

-- after an element whose content is text is inserted: the generic raw text and RCDATA element parsing algorithms (13.2.6.2)
abbrev pub reading_text : TextState → List Action
reading_text state = TokenizerTo state ∷ KeepMode ∷ SwitchTo Text ∷ []

-- the start tag `template`, before the element is inserted
abbrev pub starting_template : List Action
starting_template = ListMarker ∷ FramesetNotOk ∷ SwitchTo InTemplate ∷ PushTemplateMode InTemplate ∷ []

-- the start tag of an element of the head, before the element is inserted
abbrev pub before_element : Name → List Action
before_element Name.Template = starting_template
before_element _ = []

-- the actions after the element of a start tag is inserted, by its name
abbrev pub after_element : Name → List Action
after_element Name.Title = reading_text RcdataText
after_element Name.Noframes = reading_text RawText
after_element Name.Style = reading_text RawText
after_element Name.Noscript = reading_text RawText
after_element Name.Script = reading_text ScriptText
after_element Name.Template = []
after_element _ = Pop ∷ []

-- a template is closed
abbrev pub closing_template : List Action
closing_template = PopUntil (These (codes "template" ∷ [])) ∷ ClearListToMarker ∷ PopTemplateMode ∷ ResetMode ∷ []

-- the end of the head element, or the appropriate place where there is none
abbrev pub place_in_head : GrowingTree → Place
place_in_head t = option_map_or EndOf t.head (place t)

-- "in head noscript": the start tags that are processed by the rules for "in head"
abbrev pub is_noscript_name : Name → Bool
is_noscript_name Name.Basefont = true
is_noscript_name Name.Bgsound = true
is_noscript_name Name.Link = true
is_noscript_name Name.Meta = true
is_noscript_name Name.Noframes = true
is_noscript_name Name.Style = true
is_noscript_name _ = false

-- "in template": the mode for content that begins with a start tag of that name
abbrev pub content_mode : Name → Mode
content_mode Name.Caption = Mode.InTable
content_mode Name.Colgroup = Mode.InTable
content_mode Name.Tbody = Mode.InTable
content_mode Name.Tfoot = Mode.InTable
content_mode Name.Thead = Mode.InTable
content_mode Name.Col = Mode.InColumnGroup
content_mode Name.Tr = Mode.InTableBody
content_mode Name.Td = Mode.InRow
content_mode Name.Th = Mode.InRow
content_mode _ = Mode.InBody

-- there, and where the outermost open element is `html`, a tag is processed by the rules for a mode, within the limits
abbrev pub ProcessesTagBehindHead : StandardMode → Name → Tag → TreeBuilder → TreeBuilder → Next → Type 0
ProcessesTagBehindHead mode name tag old new next =
    WithinLimits new → (b : Building) → IsCurrentTag name tag b → HasHtml b → head_is_closed b ≡ true → Constructs old b →
    Outcome mode b new next

-- the end tags of the elements around the head, at which it is left
abbrev pub is_outer_name : Name → Bool
is_outer_name Name.Body = true
is_outer_name Name.Html = true
is_outer_name Name.Br = true
is_outer_name _ = false
