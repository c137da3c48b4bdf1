use Rattle.std.proofs.Common.{sym, ◌∙◌}
use Rattle.dom_selectors.specs.Spelling.{no_other}
use Rattle.dom_selectors.proofs.FaultLemmas.{passes_on, refuses_wider}
use Rattle.dom_selectors.proofs.RefusalLemmas.{type_no_name}
use Rattle.dom_selectors.proofs.parser.take_type.Goals as goal

pub returns-in_err-name : goal.returns-in_err-name
returns-in_err-name c =
    passes_on c.from_residual-in_err-name.result _ _ c.from_residual-in_err-name.ensures.1
    (refuses_wider _ no_other _ _ (type_no_name c.args.text.now (sym c.begins_star.ensures ∙ c.if-begins_star.false) (sym c.starts_name.ensures ∙ c.if-not-starts_name.false)) c.in_err-name.ensures)
