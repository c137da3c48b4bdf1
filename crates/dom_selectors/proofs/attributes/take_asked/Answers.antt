use Rattle.std.proofs.Common.{arith}
use Rattle.std.proofs.lemmas.Grind.{common_steps}
use Rattle.dom_selectors.specs.Spelling.{no_other}
use Rattle.dom_selectors.proofs.FaultLemmas.{passes_on, refuses_wider}
use Rattle.dom_selectors.proofs.AttributeLemmas.{not_begun, asked_no_comparison}
use Rattle.dom_selectors.proofs.attributes.take_asked.Goals as goal

pub returns-in_err-comparison : goal.returns-in_err-comparison
returns-in_err-comparison c =
    passes_on c.from_residual.result _ _ c.from_residual.ensures.1
    (refuses_wider _ no_other _ _ (asked_no_comparison c.args.text.now (not_begun 93 c.args.text.now c.in_default.ensures)) c.in_err-comparison.ensures)

pub returns : goal.returns
returns c = grind (arith, common_steps)
