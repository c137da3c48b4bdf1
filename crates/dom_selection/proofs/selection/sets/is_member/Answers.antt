use Rattle.std.proofs.Common.{◌∙◌}
use Rattle.dom_selection.proofs.SetLemmas.{any_id}
use Rattle.dom_selection.proofs.selection.sets.is_member.Goals as goal

pub returns : goal.returns
returns c = c.some_has.ensures ∙ any_id c.args.id c.args.nodes.now
