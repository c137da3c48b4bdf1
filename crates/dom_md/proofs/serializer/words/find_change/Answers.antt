use Rattle.std.proofs.Common.{◌∙◌, sym}
use Rattle.dom_md.proofs.WrittenLemmas.{changed_here, same_all, same_more}
use Rattle.dom_md.proofs.serializer.words.find_change.Goals as goal

pub loop-at-preserved : goal.loop-at-preserved
loop-at-preserved c = same_more c.args.escape c.args.bytes.now c.loop-at.at c.loop-at-test.true c.loop-at.invariant (sym c.is_changed.ensures ∙ c.if-is_changed.false)

pub returns-then-is_changed : goal.returns-then-is_changed
returns-then-is_changed c = changed_here c.args.escape c.args.bytes.now c.loop-at.at c.loop-at-test.true c.loop-at.invariant (sym c.is_changed.ensures ∙ c.if-is_changed.true)

pub returns : goal.returns
returns c = same_all c.args.escape c.args.bytes.now c.loop-at.at c.loop-at-test.false c.loop-at.invariant
