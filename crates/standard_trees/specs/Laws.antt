-- What the laws say.
use Rattle.std.specs.Prelude.{◌≡◌, ◌*◌, ◌+◌, ℕ, Bool, List, Some, false, length, true}
use Rattle.std.specs.List.{list_all}
use Rattle.standard_trees.specs.Building.{Building, Surroundings, run}
use Rattle.standard_trees.specs.RuleWords.{Dispatcher, ForeignContent, InTableText, Mode, Text}
use Rattle.standard_trees.specs.Parsing.{Document, IsDocumentOf, IsFragmentOf, parse, parse_fragment}
use Rattle.standard_trees.specs.TreeStore.{Trees}

-- a text is parsed as one Document at most
abbrev pub DocumentsAreParsedOneWay : Type 0
DocumentsAreParsedOneWay = (scripting : Bool) (text : List ℕ) (one other : Document) →
    IsDocumentOf scripting text one → IsDocumentOf scripting text other → one ≡ other

-- and in one context as one fragment at most
abbrev pub FragmentsAreParsedOneWay : Type 0
FragmentsAreParsedOneWay = (scripting : Bool) (around : Surroundings) (text : List ℕ) (one other : Trees) →
    IsFragmentOf scripting around text one → IsFragmentOf scripting around text other → one ≡ other

-- what the functions give is what the text is parsed as
abbrev pub FunctionsParse : Type 0
FunctionsParse =
    ((scripting : Bool) (text : List ℕ) (document : Document) →
    parse scripting text ≡ Some document → IsDocumentOf scripting text document) ×
    ((scripting : Bool) (around : Surroundings) (text : List ℕ) (nodes : Trees) →
    parse_fragment scripting around text ≡ Some nodes → IsFragmentOf scripting around text nodes)

-- every text is parsed as a Document
abbrev pub EveryTextHasADocument : Type 0
EveryTextHasADocument = (scripting : Bool) (text : List ℕ) → (document : Document) × IsDocumentOf scripting text document

-- and in every context as a fragment
abbrev pub EveryTextHasAFragment : Type 0
EveryTextHasAFragment = (scripting : Bool) (around : Surroundings) (text : List ℕ) →
    (nodes : Trees) × IsFragmentOf scripting around text nodes

-- ---- one token

-- the modes that are insertion modes
abbrev pub is_real : Mode → Bool
is_real Dispatcher = false
is_real ForeignContent = false
is_real _ = true

-- of them those in which a token of any kind may come
abbrev pub is_plain : Mode → Bool
is_plain Dispatcher = false
is_plain ForeignContent = false
is_plain Text = false
is_plain InTableText = false
is_plain _ = true

-- Rules use rules less deep than this: at the end of the file they may do so again for each template that is open, and for a start tag
-- `table` for each element that is open, or that is opened again because it is in the list of active formatting elements.
abbrev pub depth_at : Building → ℕ
depth_at b = 96 + 32 * (length b.tree.stack + length b.tree.listed + length b.template_modes)

-- The rules come to an end with every token, and this is how deep they use rules at most, if text returns to a mode in which a token of
-- any kind may come, and so do templates.
abbrev pub EveryTokenEnds : Type 0
EveryTokenEnds = (b : Building) → is_real b.mode ≡ true → is_plain b.original ≡ true → list_all is_plain b.template_modes ≡ true →
    (end : Building) × (run (depth_at b) Dispatcher b ≡ Some end)
