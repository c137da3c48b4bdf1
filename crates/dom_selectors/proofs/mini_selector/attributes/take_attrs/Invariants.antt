use Rattle.std.proofs.Common.{length, map}
use Rattle.std.specs.Str.{IsUtf8}
use Rattle.dom_selectors.specs.MiniGrammar.{SpellsAttr}
use Rattle.dom_selectors.specs.MiniSyntax.{asked_of}
use Rattle.dom_selectors.specs.Spelling.{Many}
use Rattle.dom_selectors.proofs.mini_selector.attributes.take_attrs.Given as goal

abbrev pub invariant-loop-attrs : goal.invariant-loop-attrs
invariant-loop-attrs l = record { utf8 : IsUtf8 l.rest; read : Many SpellsAttr (map asked_of l.attrs.items) l.fn.text l.rest }

abbrev pub decreases-loop-attrs : goal.decreases-loop-attrs
decreases-loop-attrs l = length l.rest
