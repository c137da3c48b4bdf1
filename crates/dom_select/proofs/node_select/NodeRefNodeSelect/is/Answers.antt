use Rattle.std.proofs.Common.{chars}
use Rattle.dom_select.proofs.AskLemmas.{asked_once, asked_none}
use Rattle.dom_select.proofs.node_select.NodeRefNodeSelect.is.Goals as goal

pub returns-in-Ok : goal.returns-in-Ok
returns-in-Ok c =
    asked_once (chars c.args.selectors.now) c.args.self.now.tree.now c.args.self.now.id c.is_selected.result c.in-Ok.matcher c.in-Ok.ensures.ok c.is_selected.ensures

pub returns-in-Err : goal.returns-in-Err
returns-in-Err c =
    asked_none (chars c.args.selectors.now) c.args.self.now.tree.now c.args.self.now.id c.means_none.result c.in-Err.fault c.in-Err.ensures.refused c.means_none.ensures
