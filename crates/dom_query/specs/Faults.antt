-- What the faults of single steps say.
use Rattle.std.specs.Prelude.{◌≡◌, ℕ, List}
use Rattle.std.specs.Str.{IsUtf8}
use Rattle.dom_links.specs.Forest.{Forest}
use Rattle.dom_markup.specs.Markup.{Spells}
use Rattle.dom_markup.specs.Numbered.{document_of}
use Rattle.dom_markup.specs.ValueTrees.{ValueTrees}
use Rattle.dom_markup.specs.declared.serializing.WriteFault.{WriteFault}
use Rattle.dom_markup.specs.declared.serializing.WriteFault.TheVariants.{Write as NotWritten, Memory as NoRoom}
use Rattle.dom_markup.specs.Refusals.{BeginsTooManyNodes}
use Rattle.dom_query.specs.declared.runner.RunFault.{RunFault}
use Rattle.dom_query.specs.declared.runner.RunFault.TheVariants.{BadScript, BadMarkup, Edit, TooManyNodes, Memory, Write}
use Rattle.dom_script.specs.declared.script.ScriptFault.{ScriptFault}
use Rattle.dom_script.specs.declared.script.ScriptFault.TheVariants.{BadLine, Memory as NoMemory, TooManyNodes as NoNumbers}
use Rattle.dom_query.specs.Out.{IsNoMarkup}

-- The text is markup in UTF-8, and the forest is that of the trees in it.
abbrev pub IsMarkup : List ℕ → Forest → Type 0
IsMarkup markup forest = (trees : ValueTrees) × IsUtf8 markup × Spells markup trees × (forest ≡ document_of trees)

-- When parsing the markup may fail.
abbrev pub MarkupRefused : List ℕ → RunFault → Type 0
MarkupRefused markup BadMarkup = IsNoMarkup markup
MarkupRefused markup TooManyNodes = BeginsTooManyNodes markup
MarkupRefused markup Memory = Unit {0}
MarkupRefused markup (BadScript line) = ⊥
MarkupRefused markup (Edit line fault) = ⊥
MarkupRefused markup Write = ⊥

-- The fault is that memory was refused or the writer failed.
abbrev pub GaveOut : RunFault → Type 0
GaveOut Memory = Unit {0}
GaveOut Write = Unit {0}
GaveOut (BadScript line) = ⊥
GaveOut BadMarkup = ⊥
GaveOut (Edit line fault) = ⊥
GaveOut TooManyNodes = ⊥

-- The fault of a run for a fault of its script.
abbrev pub fault_of : ScriptFault → RunFault
fault_of (BadLine line) = BadScript line
fault_of NoNumbers = TooManyNodes
fault_of NoMemory = Memory

-- The fault of a run for a fault of writing.
abbrev pub limit_of : WriteFault → RunFault
limit_of NotWritten = Write
limit_of NoRoom = Memory
