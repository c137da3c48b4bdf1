use Rattle.japanese.proofs.IsoSteps.{escape_cut}
use Rattle.japanese.proofs.iso_2022_jp.cut.Goals as goal

pub returns-clause-some : goal.returns-clause-some
returns-clause-some c = λ more last. escape_cut _ _ _ _ more c.requires (last c.if-not-is_last.false) c.plain.ensures
