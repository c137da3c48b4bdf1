use Rattle.std.proofs.Common.{length}
use Rattle.std.specs.Str.{IsUtf8}
use Rattle.dom_selectors.specs.MiniGrammar.{SpellsClass}
use Rattle.dom_selectors.specs.MiniSyntax.{texts_of}
use Rattle.dom_selectors.specs.Spelling.{Many}
use Rattle.dom_selectors.proofs.mini_selector.parser.take_classes.Given as goal

abbrev pub invariant-loop-class : goal.invariant-loop-class
invariant-loop-class l = record { utf8 : IsUtf8 l.rest; read : Many SpellsClass (texts_of l.classes.items) l.text l.rest }

abbrev pub decreases-loop-class : goal.decreases-loop-class
decreases-loop-class l = length l.rest
