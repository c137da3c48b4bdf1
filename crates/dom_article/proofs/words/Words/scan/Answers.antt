use Rattle.std.proofs.Common.{◌∙◌, ap, arith, not, sym}
use Rattle.dom_article.proofs.WordLemmas.{scan_ends, scan_on}
use Rattle.dom_article.proofs.words.Words.scan.Goals as goal

pub loop-at-preserved : goal.loop-at-preserved
loop-at-preserved c =
    scan_on c.args.text.now c.loop-at.at c.loop-at.first _ c.loop-at.skip _ c.loop-at.found _ (omega arith) c.step-skip.ensures.skip c.step-skip.ensures.found
    (ap not c.is_letter_or_digit-first.ensures) ∙ c.loop-at.invariant

pub returns : goal.returns
returns c = sym (scan_ends c.args.text.now c.loop-at.at c.loop-at.first c.loop-at.skip c.loop-at.found (omega arith)) ∙ c.loop-at.invariant
