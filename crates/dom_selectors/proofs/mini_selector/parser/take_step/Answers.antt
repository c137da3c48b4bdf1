use Rattle.dom_selectors.proofs.MiniFaultLemmas.{no_step}
use Rattle.dom_selectors.proofs.mini_selector.parser.take_step.Goals as goal

pub returns-in-Err-NoSelector : goal.returns-in-Err-NoSelector
returns-in-Err-NoSelector c = no_step c.args.text.now c.after_blanks.result.now c.after_blanks.ensures (rw c.in-Err-NoSelector.field-0-is at c.in-Err-NoSelector.ensures)
