use Rattle.std.proofs.Common.{rules}
use Rattle.dom_script.specs.declared.script.Navigation.TheVariants.{Parent}
use Rattle.dom_script.proofs.script.words.navigation_of.Goals as goal

pub returns : goal.returns
returns c = elim [
  | Parent ↦ λ e. search rules
  | _ ↦ λ e. search rules
]
