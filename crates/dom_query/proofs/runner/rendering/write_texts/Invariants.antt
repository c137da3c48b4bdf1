use Rattle.std.proofs.Common.{take}
use Rattle.std.specs.Io.KnownBytes.{Appends}
use Rattle.std.specs.List.{flat_map}
use Rattle.dom_query.specs.Rendering.{node_text}
use Rattle.dom_query.proofs.runner.rendering.write_texts.Given as goal

abbrev pub invariant-loop-id : goal.invariant-loop-id
invariant-loop-id g l = Appends (g.W.Write.contents l.fn.out) (g.W.Write.contents l.out) (flat_map (node_text l.formatted l.tree) (take l.id-index l.selection))
