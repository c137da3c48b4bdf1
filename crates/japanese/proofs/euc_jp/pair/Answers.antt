use Rattle.std.proofs.Common.{sym, ◌∙◌}
use Rattle.japanese.specs.declared.table.TheConstants.{JIS0208, JIS0212}
use Rattle.japanese.specs.EucJp.{characters}
use Rattle.japanese.proofs.EucJpSteps.{cut_one, pair}
use Rattle.japanese.proofs.euc_jp.pair.Goals as goal

pub returns-then-is_last-clause-some : goal.returns-then-is_last-clause-some
returns-then-is_last-clause-some c = λ more last. cut_one _ _ _ more _ c.requires c.in_default.ensures.cases (last c.if-is_last.true)

pub returns-clause-some : goal.returns-clause-some
returns-clause-some c =
    λ more last. pair _ _ _ _ _ more _ _ _ _ c.requires (sym c.is_three.ensures ∙ c.if-is_three.false) c.in-Some.ensures.cases.0 c.of_two-found.ensures
    (c.character_or_error.ensures.gives (characters JIS0208 JIS0212) more)
