use Rattle.std.proofs.Common.{ap, ◌∙◌}
use Rattle.dom_nodes.specs.Updates.{empty_edit, with_edit}
use Rattle.dom_nodes.proofs.UpdateLemmas.{with_edit-with_edit}
use Rattle.dom_nodes.proofs.node_data.NodeData.update.Goals as goal

pub returns : goal.returns
returns g c = record {
  edit = c.apply.new.edit;
  left = rw c.take_edit-edit.ensures.edit at c.apply.ensures;
  node = c.put_edit.ensures ∙ ap (with_edit c.apply.new.edit) c.take_edit-edit.ensures.node ∙ with_edit-with_edit c.apply.new.edit empty_edit c.args.self.now;
}
