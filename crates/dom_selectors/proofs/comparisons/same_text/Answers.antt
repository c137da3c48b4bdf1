use Rattle.std.proofs.Common.{sym, ◌∙◌, arith}
use Rattle.dom_selectors.proofs.ComparisonLemmas.{begins_with-whole, same_text-length}
use Rattle.dom_selectors.proofs.comparisons.same_text.Goals as goal

pub returns-then-text-other : goal.returns-then-text-other
returns-then-text-other c = sym (same_text-length c.args.case c.args.text.now c.args.other.now (λ e. absurd (omega (arith, e))))

pub returns : goal.returns
returns c = c.begins_with.ensures ∙ begins_with-whole c.args.case c.args.text.now c.args.other.now (omega arith)
