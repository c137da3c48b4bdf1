use Rattle.std.proofs.Common.{◌∙◌, ap, subst, sym}
use Rattle.std.specs.Prelude.{OnOk, unwrap_or}
use Rattle.dom_clean.specs.Counts.{AddsOne}
use Rattle.dom_clean.proofs.Totals.{adds_one}
use Rattle.dom_clean.proofs.counting.add_one.Goals.{in-Ok-insert, in-Err}
use Rattle.dom_clean.proofs.counting.add_one.Goals as goal

pub returns : goal.returns
returns c = elim c.match-insert.branch [
  | in-Ok-insert w ↦ subst (λ made. OnOk made (AddsOne c.args.name.now c.args.counts.now c.insert.new.self)) (sym w.result-is)
      (adds_one c.in-Ok.name c.args.counts.now c.insert.new.self c.args.name.now c.in-Some.count c.unwrap_or-before.result c.in-Ok.ensures.ok c.in-Some.ensures.1
      (c.unwrap_or-before.ensures ∙ ap (λ o. unwrap_or o 0) (c.copied.ensures ∙ c.get.ensures.value)) w.in-Ok-insert.ensures.updates)
  | in-Err w ↦ subst (λ made. OnOk made (AddsOne c.args.name.now c.args.counts.now c.insert.new.self)) (sym w.result-is) tt
]
