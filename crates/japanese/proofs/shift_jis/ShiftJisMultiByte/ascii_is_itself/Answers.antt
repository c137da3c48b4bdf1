use Rattle.japanese.specs.declared.table.TheConstants.{JIS0208}
use Rattle.japanese.proofs.ShiftJisSteps.{ascii}
use Rattle.japanese.proofs.shift_jis.ShiftJisMultiByte.ascii_is_itself.Goals as goal

pub returns : goal.returns
returns c = ascii JIS0208
