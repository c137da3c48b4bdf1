-- When parsing a line or a script may fail.
use Rattle.std.specs.Prelude.{ℕ, List}
use Rattle.dom_markup.specs.Refusals.{BeginsTooManyNodes}
use Rattle.dom_script.specs.declared.script.ScriptFault.{ScriptFault}
use Rattle.dom_script.specs.declared.script.ScriptFault.TheVariants.{BadLine, Memory as NoMemory, TooManyNodes as NoNumbers}
use Rattle.dom_script.specs.EditLine.{HasLargeMarkup}
use Rattle.dom_script.specs.Script.{HasLargeLine, IsNoScript}

-- When parsing the markup in a line may fail: it has more nodes than there are ids, or memory is
-- refused.
abbrev pub MarkupLimit : List ℕ → ScriptFault → Type 0
MarkupLimit text NoNumbers = BeginsTooManyNodes text
MarkupLimit text NoMemory = Unit {0}
MarkupLimit text (BadLine number) = ⊥

-- When parsing a line may fail.
abbrev pub LineRefused : List ℕ → ScriptFault → Type 0
LineRefused line NoNumbers = HasLargeMarkup line
LineRefused line NoMemory = Unit {0}
LineRefused line (BadLine number) = ⊥

-- When parsing a script may fail.
abbrev pub ScriptRefused : List ℕ → ScriptFault → Type 0
ScriptRefused script (BadLine line) = IsNoScript script line
ScriptRefused script NoNumbers = HasLargeLine script
ScriptRefused script NoMemory = Unit {0}
