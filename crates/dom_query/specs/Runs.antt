-- What running a script does to a writer that held the bytes `old` and now holds `new`, and what
-- its faults say.
use Rattle.std.specs.Prelude.{◌≡◌, ◌⊎◌, ℕ, List, [], Option}
use Rattle.std.specs.Io.KnownBytes.{Appends}
use Rattle.dom_nodes.specs.declared.fault.EditFault.{EditFault}
use Rattle.dom_nodes.specs.declared.fault.EditFault.TheVariants.{TooManyNodes as TooMany, Memory as NoMemory}
use Rattle.dom_links.specs.Forest.{Forest}
use Rattle.dom_markup.specs.Refusals.{BeginsTooManyNodes}
use Rattle.dom_markup.specs.Writing.{AppendsBeginning}
use Rattle.dom_query.specs.declared.runner.RunFault.{RunFault}
use Rattle.dom_query.specs.declared.runner.RunFault.TheVariants.{BadScript, BadMarkup, Edit, TooManyNodes, Memory, Write}
use Rattle.dom_script.specs.declared.script.Command.{Command}
use Rattle.dom_query.specs.Editing.{IsRefusal}
use Rattle.dom_query.specs.Out.{Does, DoesAll, Ending, Fails, Out, Ran}
use Rattle.dom_query.specs.Out.Ending.{refused, bad_script, bad_markup}
use Rattle.dom_script.specs.Script.{HasLargeLine, IsScript}

-- The command was done and its text was written. The forest is then `after`, and the nodes
-- `selected` are selected.
abbrev pub Did : Forest → List ℕ → Command → Option (List ℕ) → Option (List ℕ) → Forest → List ℕ → Type 0
Did forest selection command old new after selected =
    (text : List ℕ) × Does forest selection command text after selected × Appends old new text

-- A beginning of what the command writes was written, and nothing if the command fails.
abbrev pub DidBegin : Forest → List ℕ → Command → Option (List ℕ) → Option (List ℕ) → Type 0
DidBegin forest selection command old new =
    ((text selected : List ℕ) (after : Forest) → Does forest selection command text after selected → AppendsBeginning old new text)
    × ((fault : EditFault) → Fails forest selection command fault → AppendsBeginning old new [])

-- The fault of the run for an edit's fault in this line.
abbrev pub fault_at : ℕ → EditFault → RunFault
fault_at line TooMany = TooManyNodes
fault_at line NoMemory = Memory
fault_at line fault = Edit line fault

-- When a command may fail: its edit failed, and nothing was written; or memory was refused, or the
-- writer failed.
abbrev pub CommandCause : Forest → List ℕ → Command → ℕ → Option (List ℕ) → Option (List ℕ) → RunFault → Type 0
CommandCause forest selection command line old new (Edit at fault) = (at ≡ line) × IsRefusal fault × Fails forest selection command fault × Appends old new []
CommandCause forest selection command line old new TooManyNodes = Fails forest selection command TooMany × Appends old new []
CommandCause forest selection command line old new Memory = Unit {0}
CommandCause forest selection command line old new Write = Unit {0}
CommandCause forest selection command line old new (BadScript at) = ⊥
CommandCause forest selection command line old new BadMarkup = ⊥

-- The commands, beginning with this selection, end in this way, and what they write was written.
abbrev pub DidAll : Forest → List ℕ → List Command → Option (List ℕ) → Option (List ℕ) → Ending → Type 0
DidAll forest selection commands old new ending =
    (text : List ℕ) × DoesAll forest selection 1 commands text ending × Appends old new text

-- The ending isn't a lack of ids or memory.
abbrev pub IsEnding : Ending → Type 0
IsEnding (refused line fault) = IsRefusal fault
IsEnding _ = Unit {0}

-- A beginning of what the commands write was written.
abbrev pub DidAllBegin : Forest → List ℕ → List Command → Option (List ℕ) → Option (List ℕ) → Type 0
DidAllBegin forest selection commands old new =
    (text : List ℕ) (ending : Ending) → IsEnding ending → DoesAll forest selection 1 commands text ending → AppendsBeginning old new text

-- What each fault says of the commands.
abbrev pub CommandsCause : Forest → List ℕ → List Command → Option (List ℕ) → Option (List ℕ) → RunFault → Type 0
CommandsCause forest selection commands old new (Edit line fault) = IsRefusal fault × DidAll forest selection commands old new (refused line fault)
CommandsCause forest selection commands old new TooManyNodes = (line : ℕ) × DidAll forest selection commands old new (refused line TooMany)
CommandsCause forest selection commands old new Memory = Unit {0}
CommandsCause forest selection commands old new Write = Unit {0}
CommandsCause forest selection commands old new (BadScript line) = ⊥
CommandsCause forest selection commands old new BadMarkup = ⊥

-- What the run writes was written, and it ended in this way.
abbrev pub Ended : List ℕ → List ℕ → Option (List ℕ) → Option (List ℕ) → Ending → Type 0
Ended markup script old new ending = (text : List ℕ) × Out markup script text ending × Appends old new text

-- A beginning of what the run writes was written.
abbrev pub Began : List ℕ → List ℕ → Option (List ℕ) → Option (List ℕ) → Type 0
Began markup script old new = (text : List ℕ) (ending : Ending) → Out markup script text ending → AppendsBeginning old new text

-- Ids ran out. Either the markup in a line of the script, or the markup itself, has too many nodes,
-- and nothing was written; or an edit needs an id too many, and the output of the lines before it
-- was written.
abbrev pub RanOut : List ℕ → List ℕ → Option (List ℕ) → Option (List ℕ) → Type 0
RanOut markup script old new =
    (HasLargeLine script × Appends old new [])
    ⊎ (((commands : List Command) × IsScript script commands) × BeginsTooManyNodes markup × Appends old new [])
    ⊎ ((line : ℕ) × (text : List ℕ) × Ran markup script text (refused line TooMany) × Appends old new text)

-- What each fault of a run says.
abbrev pub RunCause : List ℕ → List ℕ → Option (List ℕ) → Option (List ℕ) → RunFault → Type 0
RunCause markup script old new (BadScript line) = Ended markup script old new (bad_script line)
RunCause markup script old new BadMarkup = Ended markup script old new bad_markup
RunCause markup script old new (Edit line fault) = Ended markup script old new (refused line fault)
RunCause markup script old new TooManyNodes = RanOut markup script old new
RunCause markup script old new Memory = Unit {0}
RunCause markup script old new Write = Unit {0}
