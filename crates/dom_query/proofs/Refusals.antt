-- What a fault of the markup says of the run.
use Rattle.std.proofs.Common.{ℕ, List, [], Option, inl, inr, refl}
use Rattle.dom_query.specs.declared.runner.RunFault.{RunFault}
use Rattle.dom_query.specs.declared.runner.RunFault.TheVariants.{BadScript, BadMarkup, Edit, TooManyNodes, Memory, Write}
use Rattle.dom_script.specs.declared.script.Command.{Command}
use Rattle.dom_query.specs.Faults.{MarkupRefused}
use Rattle.dom_query.specs.Runs.{RunCause}
use Rattle.dom_script.specs.Script.{IsScript}
use Rattle.dom_markup.proofs.html.WritingLemmas.{nothing-written}

pub reports-markup : (markup script : List ℕ) (old : Option (List ℕ)) (commands : List Command) (fault : RunFault)
    → IsScript script commands → MarkupRefused markup fault → RunCause markup script old old fault
reports-markup markup script old commands BadMarkup is refused = ([], ((commands, is), refused, refl), nothing-written old)
reports-markup markup script old commands TooManyNodes is refused = inr (inl ((commands, is), refused, nothing-written old))
reports-markup markup script old commands Memory is refused = tt
reports-markup markup script old commands (BadScript line) is refused = absurd refused
reports-markup markup script old commands (Edit line fault) is refused = absurd refused
reports-markup markup script old commands Write is refused = absurd refused
