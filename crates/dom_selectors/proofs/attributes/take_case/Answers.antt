use Rattle.std.proofs.lemmas.Result.{MatchResult-weaker}
use Rattle.dom_selectors.specs.Spelling.{no_other}
use Rattle.dom_selectors.proofs.FaultLemmas.{refuses_wider}
use Rattle.dom_selectors.proofs.AttributeLemmas.{not_begun, case_from_flag, flag_from_case}
use Rattle.dom_selectors.proofs.attributes.take_case.Goals as goal

pub returns : goal.returns
returns c =
    let begun = not_begun 93 c.args.text.now c.in_default.ensures in
    MatchResult-weaker c.take_flag.result c.take_flag.ensures (λ p h. case_from_flag c.args.text.now begun p.0 p.1.now h)
    (λ e t. refuses_wider e no_other _ _ (λ none v rest h. none v rest (flag_from_case c.args.text.now begun v rest h)) t)
