use Rattle.std.proofs.Common.{sym, ◌∙◌, ap}
use Rattle.dom_selectors.specs.Attributes.{flag_of}
use Rattle.dom_selectors.specs.Spelling.{no_other}
use Rattle.dom_selectors.proofs.FaultLemmas.{passes_on, refuses_wider}
use Rattle.dom_selectors.proofs.AttributeLemmas.{flag_no_name, flag_no_flag, flag_no_close}
use Rattle.dom_selectors.proofs.attributes.take_flag.Goals as goal

pub returns-in_err-name : goal.returns-in_err-name
returns-in_err-name c = passes_on c.from_residual.result _ _ c.from_residual.ensures.1
    (refuses_wider _ no_other _ _ (flag_no_name c.args.text.now) c.in_err-name.ensures)

pub returns-in_default : goal.returns-in_default
returns-in_default c =
    flag_no_flag c.args.text.now _ c.in_ok-name.after.now c.in_ok-name.ensures (ap flag_of (sym c.as_str.ensures) ∙ sym c.flag_of.ensures ∙ c.in_default.is)

pub returns-in_default-after_char : goal.returns-in_default-after_char
returns-in_default-after_char c =
    flag_no_close c.args.text.now _ c.in_ok-name.after.now c.in_ok-name.ensures (λ rest e. c.in_default-after_char.ensures rest (c.after_white.ensures ∙ e))
