use Rattle.std.proofs.Common.{◌≢◌, List, ℕ, refl, chars}
use Rattle.dom_selectors.specs.declared.fault.SelectorFault.{SelectorFault}
use Rattle.dom_selectors.specs.declared.fault.SelectorFault.TheVariants.{Syntax, Memory}
use Rattle.dom_selectors.specs.Grammar.{Refused, StandsForNothing}
use Rattle.dom_script.proofs.script.arguments.selector_of.Goals as goal

-- a fault other than memory says that the text stands for nothing
evidence : (text : List ℕ) (fault : SelectorFault) → Refused text fault → fault ≢ Memory → StandsForNothing text
evidence text Syntax refused other = refused
evidence text Memory refused other = absurd (other refl)
evidence text _ refused other = refused.1

pub returns-else-is_memory : goal.returns-else-is_memory
returns-else-is_memory c = evidence (chars c.args.text.now) c.in-Err.fault c.in-Err.ensures.refused c.if-is_memory.ensures
