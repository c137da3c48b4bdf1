-- What running a script over markup writes, and how it ends.
use Rattle.std.specs.Prelude.{◌≡◌, ◌⊎◌, ◌+◌, ℕ, List, [], ◌∷◌, ◌++◌}
use Rattle.std.specs.Str.{IsUtf8}
use Rattle.dom_nodes.specs.declared.fault.EditFault.{EditFault}
use Rattle.dom_links.specs.Forest.{Forest}
use Rattle.dom_edits.specs.Edits.{Each}
use Rattle.dom_markup.specs.Markup.{Spells, SpellsNothing}
use Rattle.dom_markup.specs.Numbered.{document_of}
use Rattle.dom_markup.specs.ValueTrees.{ValueTrees}
use Rattle.dom_script.specs.declared.script.Command.{Command}
use Rattle.dom_script.specs.declared.script.Command.TheVariants.{Nothing, Query, Navigate, Render, Attr, Edit, Sanitize}
use Rattle.dom_query.specs.Cleaning.{IsCleaned, allow_of}
use Rattle.dom_query.specs.Editing.{FailsAtOne, IsRefusal, line_edit, targets}
use Rattle.dom_query.specs.Queries.{QueryResult, navigated}
use Rattle.dom_script.specs.Script.{IsScript, IsNoScript}
use Rattle.dom_query.specs.Rendering.{first_attr, line_of, rendered}

-- How a run ends: all commands were done; or the edit in a line failed; or a line of the script is
-- bad; or the markup is bad.
pub data Ending : Type 0 where
  done : Ending
  refused : ℕ → EditFault → Ending
  bad_script : ℕ → Ending
  bad_markup : Ending

-- With this selection, the command writes `text`, leaves the forest `after`, and selects
-- `selected`.
abbrev pub Does : Forest → List ℕ → Command → List ℕ → Forest → List ℕ → Type 0
Does forest selection Nothing text after selected = (text ≡ []) × (selected ≡ selection) × (after ≡ forest)
Does forest selection (Query kind selector) text after selected = (text ≡ []) × QueryResult forest selection kind selector selected × (after ≡ forest)
Does forest selection (Navigate navigation) text after selected = (text ≡ []) × (selected ≡ navigated navigation forest selection) × (after ≡ forest)
Does forest selection (Render rendering) text after selected = (text ≡ line_of (rendered rendering forest selection)) × (selected ≡ selection) × (after ≡ forest)
Does forest selection (Attr name) text after selected = (text ≡ line_of (first_attr name forest selection)) × (selected ≡ selection) × (after ≡ forest)
Does forest selection (Edit edit) text after selected = (text ≡ []) × (selected ≡ selection) × Each (line_edit edit) (targets edit selection) forest after
Does forest selection (Sanitize lists) text after selected = (text ≡ []) × (selected ≡ selection) × IsCleaned (allow_of lists) forest after

-- With this selection, the command is an edit that fails with this fault.
abbrev pub Fails : Forest → List ℕ → Command → EditFault → Type 0
Fails forest selection (Edit edit) fault = FailsAtOne (line_edit edit) (targets edit selection) forest fault
Fails forest selection _ fault = ⊥

-- The commands, the first of which is in this line of the script, write the text one after another
-- and end in this way: all were done, or one of them failed.
abbrev pub DoesAll : Forest → List ℕ → ℕ → List Command → List ℕ → Ending → Type 0
DoesAll forest selection line [] text ending = (text ≡ []) × (ending ≡ done)
DoesAll forest selection line (command ∷ commands) text ending =
    ((fault : EditFault) × Fails forest selection command fault × (text ≡ []) × (ending ≡ refused line fault))
    ⊎ ((first rest selected : List ℕ) × (after : Forest) × (text ≡ first ++ rest) × Does forest selection command first after selected × DoesAll after selected (line + 1) commands rest ending)

-- The bytes aren't UTF-8, or don't follow the grammar of markup.
abbrev pub IsNoMarkup : List ℕ → Type 0
IsNoMarkup markup = (IsUtf8 markup → ⊥) ⊎ SpellsNothing markup

-- The script and the markup are parsed, and then the commands are done, with the root selected at
-- the beginning.
abbrev pub Ran : List ℕ → List ℕ → List ℕ → Ending → Type 0
Ran markup script text ending =
    (commands : List Command) × (trees : ValueTrees) × IsScript script commands × IsUtf8 markup × Spells markup trees
    × DoesAll (document_of trees) (0 ∷ []) 1 commands text ending

-- The definition of a run: over this markup the script writes this text and ends in this way. A
-- lack of ids or memory isn't an ending here.
abbrev pub Out : List ℕ → List ℕ → List ℕ → Ending → Type 0
Out markup script text done = Ran markup script text done
Out markup script text (refused line fault) = IsRefusal fault × Ran markup script text (refused line fault)
Out markup script text (bad_script line) = IsNoScript script line × (text ≡ [])
Out markup script text bad_markup = ((commands : List Command) × IsScript script commands) × IsNoMarkup markup × (text ≡ [])

-- There is at most one text and one ending.
abbrev pub HasOneOutput : List ℕ → List ℕ → Type 0
HasOneOutput markup script =
    (text other : List ℕ) (ending last : Ending) → Out markup script text ending → Out markup script other last
    → (text ≡ other) × (ending ≡ last)
