use Rattle.dom_clean.proofs.Totals.{all_counted, more_counted, none_counted}
use Rattle.dom_clean.proofs.counting.count_removed.Goals as goal

pub loop-at-init : goal.loop-at-init
loop-at-init c = none_counted _ c.new.ensures.empty c.new-2.ensures.empty c.new-3.ensures.empty

pub loop-at-preserved : goal.loop-at-preserved
loop-at-preserved c =
    let one = c.index-removed-at.result in
    more_counted c.args.removed.now c.loop-at.at one one c.loop-at.counts c.count_one.new.counts c.loop-at-test.true c.index-removed-at.is c.in_ok-count_one.ensures c.loop-at.invariant

pub returns : goal.returns
returns c = all_counted c.args.removed.now c.loop-at.at c.loop-at.counts c.loop-at-test.false c.loop-at.invariant
