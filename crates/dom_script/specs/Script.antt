-- The grammar of scripts.
use Rattle.std.specs.Prelude.{◌≡◌, ◌+◌, ◌==◌, ℕ, zero, suc, List, [], ◌∷◌, ◌++◌, Some, codes, length, slice_get}
use Rattle.std.specs.List.{slice_split}
use Rattle.std.specs.Str.{IsUtf8, chars}
use Rattle.dom_selectors.specs.Grammar.{StandsFor}
use Rattle.dom_selectors.specs.Syntax.{SelectorList}
use Rattle.dom_script.specs.declared.script.Command.{Command}
use Rattle.dom_script.specs.declared.script.Command.TheVariants.{Nothing, Query, Navigate, Render, Attr, Edit, Sanitize}
use Rattle.dom_script.specs.declared.script.Navigation.{Navigation}
use Rattle.dom_script.specs.declared.script.Navigation.TheVariants.{Parent, Children, Ancestors, Next, Prev, First, Last}
use Rattle.dom_script.specs.declared.script.QueryKind.{QueryKind}
use Rattle.dom_script.specs.declared.script.QueryKind.TheVariants.{Select, Find, Filter, Add}
use Rattle.dom_script.specs.declared.script.Rendering.{Rendering}
use Rattle.dom_script.specs.declared.script.Rendering.TheVariants.{Count, Text, Formatted, Html, InnerHtml, Document}
use Rattle.dom_script.specs.NameLists.{IsSanitize}
use Rattle.dom_script.specs.EditLine.{HasLargeMarkup, IsEdit}
use Rattle.dom_script.specs.Words.{HasArgument, HasName}

-- The line is the word and a selector list.
abbrev pub HasSelector : List ℕ → List ℕ → SelectorList → Type 0
HasSelector line word selector = (argument : List ℕ) × HasArgument line word argument × StandsFor (chars argument) selector

-- The line isn't the word and a selector list.
abbrev pub HasNoSelector : List ℕ → List ℕ → Type 0
HasNoSelector line word = (selector : SelectorList) → HasSelector line word selector → ⊥

-- The first words of lines.
abbrev pub query_word : QueryKind → List ℕ
query_word Select = codes "select"
query_word Find = codes "find"
query_word Filter = codes "filter"
query_word Add = codes "add"

abbrev pub navigation_word : Navigation → List ℕ
navigation_word navigation = elim navigation [ Parent ↦ codes "parent" | Children ↦ codes "children" | Ancestors ↦ codes "ancestors" | Next ↦ codes "next" | Prev ↦ codes "prev" | First ↦ codes "first" | Last ↦ codes "last" ]

abbrev pub rendering_word : Rendering → List ℕ
rendering_word rendering = elim rendering [ Count ↦ codes "count" | Text ↦ codes "text" | Formatted ↦ codes "formatted" | Html ↦ codes "html" | InnerHtml ↦ codes "inner-html" | Document ↦ codes "document" ]

-- The line is this query.
abbrev pub IsQuery : List ℕ → QueryKind → SelectorList → Type 0
IsQuery line kind selector = HasSelector line (query_word kind) selector

-- The line is no query.
abbrev pub IsNoQuery : List ℕ → Type 0
IsNoQuery line = (kind : QueryKind) → HasNoSelector line (query_word kind)

-- The line is this command.
abbrev pub IsCommand : List ℕ → Command → Type 0
IsCommand line Nothing = line ≡ []
IsCommand line (Query kind selector) = IsQuery line kind selector
IsCommand line (Navigate navigation) = line ≡ navigation_word navigation
IsCommand line (Render rendering) = line ≡ rendering_word rendering
IsCommand line (Attr name) = HasName line (codes "attr") name
IsCommand line (Edit edit) = IsEdit line edit
IsCommand line (Sanitize lists) = IsSanitize line lists

-- The line is no command.
abbrev pub IsBad : List ℕ → Type 0
IsBad line = (command : Command) → IsCommand line command → ⊥

-- The lines of the script, which line feeds separate.
abbrev pub lines_of : List ℕ → List (List ℕ)
lines_of script = slice_split (λ b. b == 10) script

-- The lines are these commands, one by one.
abbrev pub AreCommands : List (List ℕ) → List Command → Type 0
AreCommands [] [] = Unit {0}
AreCommands (line ∷ lines) (command ∷ commands) = IsCommand line command × AreCommands lines commands
AreCommands [] (command ∷ commands) = ⊥
AreCommands (line ∷ lines) [] = ⊥

-- The lines before line `number`, counted from 1, are commands, and that line is none.
pub record FirstBad (lines : List (List ℕ)) (number : ℕ) : Type 0 where
  pub good : List (List ℕ)
  pub commands : List Command
  pub bad : List ℕ
  pub later : List (List ℕ)
  pub is : lines ≡ good ++ bad ∷ later
  pub are_good : AreCommands good commands
  pub is_bad : IsBad bad
  pub counted : number ≡ length good + 1

-- The text is a script of these commands.
pub record IsScript (script : List ℕ) (commands : List Command) : Type 0 where
  pub utf8 : IsUtf8 script
  pub are_commands : AreCommands (lines_of script) commands

-- The text is no script. The number is that of the first bad line, or 0 if the text isn't UTF-8.
abbrev pub IsNoScript : List ℕ → ℕ → Type 0
IsNoScript script zero = IsUtf8 script → ⊥
IsNoScript script (suc n) = IsUtf8 script × FirstBad (lines_of script) (suc n)

-- The markup in a line of the script has more nodes than there are ids.
abbrev pub HasLargeLine : List ℕ → Type 0
HasLargeLine script = (line : List ℕ) × ((n : ℕ) × (slice_get (lines_of script) n ≡ Some line)) × HasLargeMarkup line
