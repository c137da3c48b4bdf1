use Rattle.std.proofs.Common.{ℕ, ◌∙◌, Some, inl, sym, subst}
use Rattle.dom_article.specs.Chosen.{Starts, at_main, at_best, nowhere}
use Rattle.dom_article.proofs.choosing.choose.Goals as goal

pub returns-in-Some : goal.returns-in-Some
returns-in-Some c = record { best = c.in-Some.main; starts = at_main c.in-Some.main c.in-Some.ensures; above = inl c.in_ok-new.ensures }

pub returns-in_default-first_greatest : goal.returns-in_default-first_greatest
returns-in_default-first_greatest c = nowhere c.in_default.ensures c.in_default-first_greatest.ensures

pub returns : goal.returns
returns c = record {
  best = c.promoted-best.result;
  starts = subst (λ (n : ℕ). Starts c.args.page.now c.args.round.now (Some n)) (sym c.promoted-best.ensures)
      (at_best c.in-Some-first_greatest.first c.in_default.ensures c.in-Some-first_greatest.ensures);
  above = c.climb-choice.ensures;
}
