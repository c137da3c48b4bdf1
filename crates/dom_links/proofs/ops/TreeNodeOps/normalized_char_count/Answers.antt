use Rattle.dom_links.specs.Forest.{forest_of}
use Rattle.dom_links.specs.Texts.{text_at}
use Rattle.dom_links.proofs.texts.Counting.{all_counted}
use Rattle.dom_links.proofs.ops.TreeNodeOps.normalized_char_count.Goals as goal

pub returns : goal.returns
returns c = all_counted (text_at (forest_of c.args.nodes.now)) c.loop-below.below-iterator.left c.loop-below.read.count c.loop-below.read.gap _ c.in-None.ensures.steps.first.0 c.loop-below.invariant
