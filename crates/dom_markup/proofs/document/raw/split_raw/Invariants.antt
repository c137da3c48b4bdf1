use Rattle.std.proofs.Common.{◌-◌, length}
use Rattle.dom_markup.specs.Bytes.{folded}
use Rattle.dom_markup.proofs.grammar.Ends.{Searched}
use Rattle.dom_markup.proofs.document.raw.split_raw.Given as goal

abbrev pub invariant-loop-found : goal.invariant-loop-found
invariant-loop-found l = record { searched : Searched (folded l.name) l.text l.at }

abbrev pub decreases-loop-found : goal.decreases-loop-found
decreases-loop-found l = length l.text - l.at
