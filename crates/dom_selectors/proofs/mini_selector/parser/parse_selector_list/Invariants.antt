use Rattle.std.proofs.Common.{length}
use Rattle.std.specs.Str.{IsUtf8}
use Rattle.dom_selectors.specs.MiniGrammar.{SpellsStep}
use Rattle.dom_selectors.specs.Spelling.{Many}
use Rattle.dom_selectors.proofs.mini_selector.parser.parse_selector_list.Given as goal

abbrev pub invariant-loop-minis : goal.invariant-loop-minis
invariant-loop-minis l = record { utf8 : IsUtf8 l.rest; read : Many SpellsStep l.minis.items l.fn.text l.rest }

abbrev pub decreases-loop-minis : goal.decreases-loop-minis
decreases-loop-minis l = length l.rest
