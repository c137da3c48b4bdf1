use Rattle.std.proofs.Common.{rules, subst, sym}
use Rattle.std.proofs.lemmas.Result.{err_from_is_err_and}
use Rattle.dom_selectors.specs.MiniGrammar.{SpellsStep}
use Rattle.dom_selectors.specs.Spelling.{Many}
use Rattle.dom_selectors.proofs.MiniFaultLemmas.{passed_on, bad_path}
use Rattle.dom_selectors.proofs.MiniLengthLemmas.{step_shortens}
use Rattle.dom_selectors.proofs.Runs.{many_last}
use Rattle.dom_selectors.proofs.mini_selector.parser.parse_selector_list.Goals as goal

pub returns-in_err-mini : goal.returns-in_err-mini
returns-in_err-mini c =
    passed_on c.from_residual.result _ _ _ (err_from_is_err_and c.from_residual.result c.from_residual.ensures.1)
    (bad_path _ c.loop-minis.minis.items c.args.text.now c.loop-minis.rest.now c.loop-minis.invariant.read c.in_err-mini.ensures)

pub loop-minis-smaller : goal.loop-minis-smaller
loop-minis-smaller c = step_shortens c.in-Some.mini c.loop-minis.rest.now c.in-Some.after.now (rw c.in-Some.is at c.in_ok-mini.ensures)

pub loop-minis-preserved : goal.loop-minis-preserved
loop-minis-preserved c = record {
  utf8 = search rules;
  read = subst (λ minis. Many SpellsStep minis c.args.text.now c.in-Some.after.now) (sym c.in_ok-push.ensures.items)
      (many_last SpellsStep c.loop-minis.minis.items c.in-Some.mini c.args.text.now c.loop-minis.rest.now c.in-Some.after.now c.loop-minis.invariant.read (rw c.in-Some.is at c.in_ok-mini.ensures));
}
