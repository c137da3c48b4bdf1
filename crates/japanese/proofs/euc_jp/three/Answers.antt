use Rattle.japanese.specs.declared.table.TheConstants.{JIS0208, JIS0212}
use Rattle.japanese.specs.EucJp.{characters}
use Rattle.japanese.proofs.EucJpSteps.{cut_two, three}
use Rattle.japanese.proofs.euc_jp.three.Goals as goal

pub returns-then-is_last-clause-some : goal.returns-then-is_last-clause-some
returns-then-is_last-clause-some c =
    λ more last. cut_two _ _ _ _ more _ _ c.requires.lead c.requires.trail c.requires.after c.in_default.ensures.cases (last c.if-is_last.true)

pub returns-clause-some : goal.returns-clause-some
returns-clause-some c =
    λ more last. three _ _ _ _ _ _ more _ _ _ _ _ c.requires.lead c.requires.trail c.requires.after c.in-Some.ensures.cases.0 c.of_cell-found.ensures
    (c.character_or_error.ensures.gives (characters JIS0208 JIS0212) more)
