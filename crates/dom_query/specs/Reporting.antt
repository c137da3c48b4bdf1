-- What the program `dq` reports when it fails: a line on standard error, and an exit status.
use Rattle.std.specs.Prelude.{ℕ, List, ◌++◌, codes, decimal}
use Rattle.dom_nodes.specs.declared.fault.EditFault.{EditFault}
use Rattle.dom_nodes.specs.declared.fault.EditFault.TheVariants.{UnknownNode, NoChildrenHere, RootOrFragment, Cycle, BadContents, Markup, TooManyNodes as TooMany, Memory as NoMemory}
use Rattle.dom_query.specs.declared.runner.RunFault.{RunFault}
use Rattle.dom_query.specs.declared.runner.RunFault.TheVariants.{BadScript, BadMarkup, Edit, TooManyNodes, Memory, Write}
use Rattle.dom_query.specs.declared.reporting.DriveFault.{DriveFault}
use Rattle.dom_query.specs.declared.reporting.DriveFault.TheVariants.{Usage, Read, Run}
use Rattle.dom_query.specs.Rendering.{line_of}

-- The name of an edit's fault.
abbrev pub name_text : EditFault → List ℕ
name_text UnknownNode = codes "UnknownNode"
name_text NoChildrenHere = codes "NoChildrenHere"
name_text RootOrFragment = codes "RootOrFragment"
name_text Cycle = codes "Cycle"
name_text TooMany = codes "TooManyNodes"
name_text NoMemory = codes "Memory"
name_text BadContents = codes "BadContents"
name_text (Markup fault) = codes "Markup"

-- Why running the script failed.
abbrev pub reason_of : RunFault → List ℕ
reason_of (BadScript line) = codes "script: line " ++ decimal line
reason_of BadMarkup = codes "markup: refused"
reason_of (Edit line fault) = codes "edit: line " ++ decimal line ++ codes ": " ++ name_text fault
reason_of TooManyNodes = codes "too many nodes"
reason_of Memory = codes "out of memory"
reason_of Write = codes "write failed"

-- The line on standard error.
abbrev pub report_of : DriveFault → List ℕ
report_of Usage = line_of (codes "usage: dq SCRIPT | dq --md")
report_of Read = line_of (codes "dq: read failed")
report_of (Run fault) = line_of (codes "dq: " ++ reason_of fault)

-- The exit status.
abbrev pub status_of : DriveFault → ℕ
status_of Usage = 64
status_of Read = 5
status_of (Run (BadScript line)) = 2
status_of (Run BadMarkup) = 3
status_of (Run (Edit line fault)) = 4
status_of (Run TooManyNodes) = 4
status_of (Run Memory) = 5
status_of (Run Write) = 5
