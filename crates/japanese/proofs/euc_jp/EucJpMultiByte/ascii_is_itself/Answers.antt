use Rattle.japanese.specs.declared.table.TheConstants.{JIS0208, JIS0212}
use Rattle.japanese.proofs.EucJpSteps.{ascii}
use Rattle.japanese.proofs.euc_jp.EucJpMultiByte.ascii_is_itself.Goals as goal

pub returns : goal.returns
returns c = ascii JIS0208 JIS0212
