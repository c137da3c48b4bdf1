-- Parsing (13.2): the tokenizer and tree construction together. Tree construction takes the tokens of each step of the tokenizer; it
-- switches the tokenizer to another state, and tells it whether the adjusted current node is an element outside the HTML namespace.
use Rattle.std.specs.Prelude.{Bool, List, None, Option, Some, [], false, length, not, option_map, suc, true, zero, ℕ, ◌&&◌, ◌*◌, ◌+◌, ◌∷◌}
use Rattle.std.specs.Prelude.{◌≡◌}
use Rattle.std.specs.Option.{option_and_then}
use Rattle.standard_tokens.specs.Machine.{Machine, Step, normalized, start_in, step}
use Rattle.standard_tokens.specs.Reading.{switched}
use Rattle.standard_tokens.specs.States.{Data, PLAINTEXT, RAWTEXT, RCDATA, ScriptData, State}
use Rattle.standard_trees.specs.RuleWords.{PlainText, RawText, RcdataText, ScriptText, TextState}
use Rattle.standard_trees.specs.TreeStore.{Trees, key_of}
use Rattle.standard_trees.specs.TreeRules.{first_states}
use Rattle.standard_trees.specs.GrowingTree.{in_foreign, is_among}
use Rattle.standard_trees.specs.Building.{Building, QuirksMode, Surroundings, children_at, fragment_start, is_empty, start, tree_steps}

-- the tokenizer, the text that is left, and the tree under construction
pub record Parser : Type 0 where
  pub machine : Machine
  pub text : List ℕ
  pub building : Building

abbrev pub parser : Machine → List ℕ → Building → Parser
parser machine text building = record { machine = machine; text = text; building = building }

-- "there is an adjusted current node and it is not an element in the HTML namespace"
abbrev pub is_foreign_now : Building → Bool
is_foreign_now b = not (is_empty b.tree.stack) && in_foreign b.tree

abbrev pub state_of : TextState → State
state_of RcdataText = RCDATA
state_of RawText = RAWTEXT
state_of ScriptText = ScriptData
state_of PlainText = PLAINTEXT

-- the parser behind a step of the tokenizer, whose tokens tree construction has taken
abbrev pub after_step : Step → Building → Parser
after_step s b = parser (switched (option_map state_of b.tokenizer) s.machine) s.rest b

-- what comes of the parser behind a step; the tree, if the step was the tokenizer's last
abbrev pub behind : (Parser → Option Building) → Step → Building → Option Building
behind rest s b = elim s.stopped [ true ↦ Some b | false ↦ rest (after_step s b) ]

abbrev pub step_of : Parser → Step
step_of p = step (is_foreign_now p.building) p.machine p.text

-- the tree at the end, if the tokenizer stops within so many steps, and rules use rules at most so deep
unfoldable pub parsed : ℕ → ℕ → Parser → Option Building
unfolding step
parsed depth zero p = None
parsed depth (suc steps) p =
    option_and_then (behind (parsed depth steps) (step_of p)) (tree_steps depth (record p.building { tokenizer = None }) (step_of p).tokens)

-- a Document: its mode, and its children
pub record Document : Type 0 where
  pub quirks : QuirksMode
  pub children : Trees

abbrev pub document_of : Building → Document
document_of b = record { quirks = b.quirks; children = children_at b.tree 0 }

-- the parser before a page; the flag says whether scripting is enabled
abbrev pub page_parser : Bool → List ℕ → Parser
page_parser scripting text = parser (start_in Data) (normalized text) (start scripting)

-- the text is parsed as a page, and this is the Document: some number of steps and some depth suffice
abbrev pub IsDocumentOf : Bool → List ℕ → Document → Type 0
IsDocumentOf scripting text document =
    (depth : ℕ) × (steps : ℕ) × (option_map document_of (parsed depth steps (page_parser scripting text)) ≡ Some document)

abbrev pub state_among : List (List (List ℕ) × State) → List ℕ → State
state_among [] name = Data
state_among (entry ∷ more) name = elim (is_among name entry.0) [ true ↦ entry.1 | false ↦ state_among more name ]

-- the state in which the tokenizer begins with a fragment (13.4)
abbrev pub first_state : Bool → Surroundings → State
first_state scripting around = state_among (first_states scripting) (key_of around.space around.name)

-- the nodes of a fragment: the children of its root element, which is node 1 (13.4)
abbrev pub nodes_of : Building → Trees
nodes_of b = children_at b.tree 1

-- the parser before a fragment
abbrev pub fragment_parser : Bool → Surroundings → List ℕ → Parser
fragment_parser scripting around text =
    parser (start_in (first_state scripting around)) (normalized text) (fragment_start scripting around)

-- the text is parsed as a fragment in that context, and these are its nodes
abbrev pub IsFragmentOf : Bool → Surroundings → List ℕ → Trees → Type 0
IsFragmentOf scripting around text nodes =
    (depth : ℕ) × (steps : ℕ) × (option_map nodes_of (parsed depth steps (fragment_parser scripting around text)) ≡ Some nodes)

-- ---- the same as functions

-- the tokenizer reconsumes a character less often than this
abbrev pub steps_for : List ℕ → ℕ
steps_for text = 16 * (length text + 1)

-- rules use rules less deep than this: for each template that is open they may do so again
abbrev pub depth_for : List ℕ → ℕ
depth_for text = 32 + 8 * length text

-- the Document of a page
abbrev pub parse : Bool → List ℕ → Option Document
parse scripting text = option_map document_of (parsed (depth_for text) (steps_for text) (page_parser scripting text))

-- the nodes of a fragment
abbrev pub parse_fragment : Bool → Surroundings → List ℕ → Option Trees
parse_fragment scripting around text =
    option_map nodes_of (parsed (depth_for text) (steps_for text) (fragment_parser scripting around text))
