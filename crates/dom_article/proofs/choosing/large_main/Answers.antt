use Rattle.std.proofs.Common.{ap, arith}
use Rattle.dom_article.specs.declared.sums.Sums.{Sums}
use Rattle.dom_article.proofs.ChosenLemmas.{no_main, small_main}
use Rattle.dom_article.proofs.choosing.large_main.Goals as goal

pub returns-in_default : goal.returns-in_default
returns-in_default c = no_main c.args.page.now c.args.round.now c.in_default.ensures

pub returns-then-at-lt-ENOUGH : goal.returns-then-at-lt-ENOUGH
returns-then-at-lt-ENOUGH c = small_main c.args.page.now c.args.round.now c.in-Some.main c.in-Some.ensures
    (let e = ap (λ (s : Sums). s.size) c.at.ensures in let less = c.if-at-lt-ENOUGH.true in omega arith)
