use Rattle.std.proofs.Common.{refl}
use Rattle.dom_markup.proofs.rows.Filling.{node_put}
use Rattle.dom_markup.proofs.document.sink.DocumentTreeSink.append.Goals as goal

pub returns-in-AppendNode : goal.returns-in-AppendNode
returns-in-AppendNode c = node_put _ _ _ _ _ c.args.child c.in-AppendNode.id c.in-AppendNode.is refl c.move_to.ensures (record { errors = refl; quirks = refl })
