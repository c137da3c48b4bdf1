-- What the rules for the modes of tables do (13.2.6.4.9 to 13.2.6.4.15): the actions of steps that several rules share.
use Rattle.std.specs.Prelude.{◌≡◌, Bool, List, [], ◌∷◌, ◌&&◌, ◌||◌, codes, false, if◌then◌else◌, true, ℕ}
use Rattle.standard_trees.specs.Building.{Building, holds}
use Rattle.standard_trees.specs.GrowingTree.{GrowingTree, current, has_in_scope, is_one}
use Rattle.standard_trees.specs.RuleWords.{Action, AttributeTypeHidden, ClearListToMarker, ImpliedEndTags, InRow, InTable, InTableBody}
use Rattle.standard_trees.specs.RuleWords.{Mode as StandardMode}
use Rattle.standard_trees.specs.RuleWords.{Pop, PopUntil, PopUpTo}
use Rattle.standard_trees.specs.RuleWords.{ResetMode, SwitchTo, TableScope, These}
use Rattle.page_tokens.specs.declared.token.Tag.{Tag}
use Rattle.page_tokens.specs.declared.token.TagKind.{TagKind}
use Rattle.page_trees.specs.BodyTags.{covers_body, suits_body}
use Rattle.page_trees.specs.Constructs.{Constructs, IsCurrentTag, Outcome, WithinLimits}
use Rattle.page_trees.specs.FosteredTags.{fosters_tag}
use Rattle.page_trees.specs.Groups.{is_dropped_end_name, is_part_name}
use Rattle.page_trees.specs.LateMerges.{HasHtml}
use Rattle.page_trees.specs.Sets.{context_names, is_one as is_one_open}
use Rattle.page_trees.specs.declared.builder.Next.{Next}
use Rattle.page_trees.specs.declared.builder.TreeBuilder.{TreeBuilder}
use Rattle.page_trees.specs.declared.name.Name.{Name}
use Rattle.page_trees.specs.declared.sets.TableContext.{TableContext}
use Rattle.page_trees.specs.declared.stack.Open.{Open}

-- the token is to be reprocessed
abbrev pub is_again : Next → Bool
is_again Next.Again = true
is_again Next.Done = false

-- the end tags that the modes of tables ignore, where no rule before says more of them
abbrev pub is_ignored_end_name : Name → Bool
is_ignored_end_name name = is_dropped_end_name name || is_part_name name

-- the end tags at which a cell is closed, and which are reprocessed then
abbrev pub ends_cell_name : Name → Bool
ends_cell_name Name.Table = true
ends_cell_name Name.Tbody = true
ends_cell_name Name.Tfoot = true
ends_cell_name Name.Thead = true
ends_cell_name Name.Tr = true
ends_cell_name _ = false

abbrev pub cell_names : List (List ℕ)
cell_names = codes "td" ∷ codes "th" ∷ []

abbrev pub section_names : List (List ℕ)
section_names = codes "tbody" ∷ codes "thead" ∷ codes "tfoot" ∷ []

-- the cells of tables
abbrev pub is_a_cell : Open → Bool
is_a_cell o = is_one_open cell_names o

-- one of these elements is in table scope
abbrev pub is_in_table : List (List ℕ) → GrowingTree → Bool
is_in_table names t = has_in_scope TableScope names t

-- the current node is a column group
abbrev pub is_in_group : GrowingTree → Bool
is_in_group t = is_one t (codes "colgroup" ∷ []) (current t)

-- these actions, where an element was found
abbrev pub if_found : Bool → List Action → List Action
if_found found actions = if found then actions else []

-- "clear the stack back to" a context of a table
abbrev pub clearing_to : TableContext → Action
clearing_to context = PopUpTo (These (context_names context))

-- a caption is closed
abbrev pub closing_caption : List Action
closing_caption = ImpliedEndTags ∷ PopUntil (These (codes "caption" ∷ [])) ∷ ClearListToMarker ∷ SwitchTo InTable ∷ []

-- a table is closed
abbrev pub closing_table : List Action
closing_table = PopUntil (These (codes "table" ∷ [])) ∷ ResetMode ∷ []

-- a column group, a section or a row, which the stack is cleared back to, is closed
abbrev pub closing_group : List Action
closing_group = Pop ∷ SwitchTo InTable ∷ []

abbrev pub closing_section : List Action
closing_section = clearing_to TableContext.Section ∷ Pop ∷ SwitchTo InTable ∷ []

abbrev pub closing_row : List Action
closing_row = clearing_to TableContext.Row ∷ Pop ∷ SwitchTo InTableBody ∷ []

-- a cell with one of these names is closed
abbrev pub closing_cell : List (List ℕ) → List Action
closing_cell names = ImpliedEndTags ∷ PopUntil (These names) ∷ ClearListToMarker ∷ SwitchTo InRow ∷ []

-- ---- which tags are covered

-- the tags of which it is stated that they are processed by the rules for "in body" in such a state
abbrev pub covers_content : Bool → Name → Building → Bool
covers_content true name b = covers_body TagKind.Start name && suits_body TagKind.Start name b
covers_content false name b = covers_body TagKind.End name && suits_body TagKind.End name b

abbrev pub names_table : Name → Bool
names_table Name.Table = true
names_table _ = false

abbrev pub names_form : Name → Bool
names_form Name.Form = true
names_form _ = false

abbrev pub names_template : Name → Bool
names_template Name.Template = true
names_template _ = false

-- "in table": the start tags of elements that are no part of a table and are processed by the rules for "in head"
abbrev pub is_hidden_content_name : Name → Bool
is_hidden_content_name Name.Style = true
is_hidden_content_name Name.Script = true
is_hidden_content_name Name.Template = true
is_hidden_content_name _ = false

-- "in table": the start tag of an `input` that is hidden
abbrev pub is_hidden_input : Name → Building → Bool
is_hidden_input Name.Input b = holds AttributeTypeHidden b
is_hidden_input _ b = false

-- or a start tag that is moved out of the table
abbrev pub covers_input : Name → Building → Bool
covers_input name b = is_hidden_input name b || fosters_tag b

abbrev pub covers_other : Name → Building → Bool
covers_other name b = names_table name || (is_hidden_content_name name || covers_input name b)

-- the start tags, and the end tags, of which it is stated that they are processed by the rules for each mode
abbrev pub covers_table : Bool → Name → Building → Bool
covers_table true name b = is_part_name name || (names_form name || covers_other name b)
covers_table false name b = is_ignored_end_name name || (names_table name || (names_template name || fosters_tag b))

-- what is left to the rules for "in body" depends on the state
abbrev pub covers_caption : Bool → Name → Building → Bool
covers_caption true name b = is_part_name name || covers_content true name b
covers_caption false name b = is_ignored_end_name name || (names_table name || covers_content false name b)

abbrev pub covers_group : Name → Bool
covers_group name = true

abbrev pub covers_table_body : Bool → Name → Building → Bool
covers_table_body true name b = is_part_name name || covers_table true name b
covers_table_body false name b = is_ignored_end_name name || (names_table name || covers_table false name b)

abbrev pub covers_row : Bool → Name → Building → Bool
covers_row start name b = covers_table_body start name b

abbrev pub covers_cell : Bool → Name → Building → Bool
covers_cell true name b = is_part_name name || covers_content true name b
covers_cell false name b = is_ignored_end_name name || (names_table name || covers_content false name b)

-- Within the limits, and where the outermost open element is `html`, a tag is processed by the rules for a mode, if its name and the state
-- pass a test.
abbrev pub ProcessesTagWhere : (Name → Building → Bool) → StandardMode → Name → Tag → TreeBuilder → TreeBuilder → Next → Type 0
ProcessesTagWhere test mode name tag old new next =
    WithinLimits new → (b : Building) → IsCurrentTag name tag b → HasHtml b → test name b ≡ true → Constructs old b →
    Outcome mode b new next
