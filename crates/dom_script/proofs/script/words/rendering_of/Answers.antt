use Rattle.std.proofs.Common.{rules}
use Rattle.dom_script.specs.declared.script.Rendering.TheVariants.{Count}
use Rattle.dom_script.proofs.script.words.rendering_of.Goals as goal

pub returns : goal.returns
returns c = elim [
  | Count ↦ λ e. search rules
  | _ ↦ λ e. search rules
]
