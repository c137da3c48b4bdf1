use Rattle.std.proofs.Common.{refl}
use Rattle.dom_selection.proofs.GatherLemmas.{gathers_new, unseen}
use Rattle.dom_selection.proofs.selection.gathering.Gathered.gather_node.Goals as goal

pub returns-in_ok-push_node : goal.returns-in_ok-push_node
returns-in_ok-push_node c =
    gathers_new c.args.self.now (record { tree = c.args.self.now.tree; nodes = c.push_node.new.nodes; seen = c.note.new.self }) c.args.id c.new.result refl
    (unseen c.args.id c.args.self.now.seen c.in_ok-note.field-0 c.in_ok-note.ensures.new c.if-branch.true)
    c.in_ok-note.ensures.noted c.new.ensures c.in_ok-push_node.ensures
