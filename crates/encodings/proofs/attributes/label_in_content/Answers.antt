use Rattle.std.proofs.Common.{arith, ◌∙◌}
use Rattle.encodings.proofs.Parts.{label_here, label_later, label_nowhere}
use Rattle.encodings.proofs.attributes.label_in_content.Goals as goal

pub loop-i-preserved : goal.loop-i-preserved
loop-i-preserved c = label_later c.args.content.now _ c.loop-i.i (omega arith) c.behind-rest.ensures c.in_default.ensures ∙ c.loop-i.invariant

pub returns-in-Some : goal.returns-in-Some
returns-in-Some c = label_here c.args.content.now _ _ _ c.loop-i.i _ (omega arith) c.behind-rest.ensures c.in-Some.ensures c.skip.ensures c.label_at.ensures ∙ c.loop-i.invariant

pub returns : goal.returns
returns c = label_nowhere c.args.content.now c.loop-i.i (omega arith) c.loop-i.invariant
